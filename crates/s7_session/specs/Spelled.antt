-- TELEGRAMS THAT ARE SPELLED AS THE STANDARD HAS THEM ARE ASKED OF THE PLANT (Snap7 1.4 reference manual,
-- `Cli_ReadMultiVars`, `Cli_WriteMultiVars`), on a link that negotiated a PDU, if the telegram and its full answer fit
-- it.
use Rattle.std.specs.Prelude.{◌≡◌, ◌≤◌, ◌<◌, ℕ, ◌+◌, List, [], ◌++◌, length, Some}
use Rattle.std.specs.List.{AllByRecursion}
use Rattle.s7_header.specs.declared.header.Kind.TheVariants.{Job}
use Rattle.s7_header.specs.Header.{spelling_of}
use Rattle.s7_item.specs.declared.item.Item.{Item}
use Rattle.s7_item.specs.Codes.{read_function, write_function}
use Rattle.s7_item.specs.DataItem.{DataItem, data_octets}
use Rattle.s7_item.specs.DataLaws.{HasOctets, places_of}
use Rattle.s7_item.specs.Params.{items_params}
use Rattle.s7_item.specs.Sizes.{answer_size}
use Rattle.s7_plant.specs.declared.request.Request.TheVariants.{Read, Write}
use Rattle.s7_session.specs.Judgement.{judge, asks_plainly}
use Rattle.s7_session.specs.LinkState.{LinkState}

-- a job with this sequence, parameters and data (Snap7 1.4 sources, s7_types.h: TS7ReqHeader)
abbrev pub job_spelled : ℕ → List ℕ → List ℕ → List ℕ
job_spelled sequence params body =
    spelling_of (record {
      kind = Job;
      sequence = sequence;
      param_len = length params;
      body_len = length body;
      error = 0;
    })
    ++ params ++ body

-- a read of these items (Snap7 1.4 sources, s7_types.h: TReqFunReadParams)
abbrev pub read_spelled : ℕ → List Item → List ℕ
read_spelled sequence items = job_spelled sequence (items_params read_function items) []

-- a write of these items, with these data items (Snap7 1.4 sources, s7_types.h: TReqFunWriteDataItem)
abbrev pub write_spelled : ℕ → List Item → List DataItem → List ℕ
write_spelled sequence items written = job_spelled sequence (items_params write_function items) (data_octets written)

-- one to twenty items (Snap7 1.4 reference manual, `Cli_ReadMultiVars`), a sequence of two octets, and a negotiated PDU
-- that is large enough for the telegram
pub record IsSpelled (link : LinkState) (pdu sequence : ℕ) (items : List Item) (telegram : List ℕ) : Type 0 where
  pub granted : link.granted ≡ Some pdu
  pub pdu_is : pdu ≤ 1920
  pub numbered : sequence < 65536
  pub some : 0 < length items
  pub most : length items ≤ 20
  pub fits : length telegram ≤ pdu

-- a read whose full answer fits the PDU is asked of the plant
abbrev pub ReadsAreAsked : Type 0
ReadsAreAsked =
    (link : LinkState) (pdu sequence : ℕ) (items : List Item)
    → IsSpelled link pdu sequence items (read_spelled sequence items) → answer_size items ≤ pdu
    → judge link (read_spelled sequence items) ≡ asks_plainly link sequence (Read items)

-- a write that has octets for each item is asked of the plant
abbrev pub WritesAreAsked : Type 0
WritesAreAsked =
    (link : LinkState) (pdu sequence : ℕ) (items : List Item) (written : List DataItem)
    → IsSpelled link pdu sequence items (write_spelled sequence items written)
    → length written ≡ length items → AllByRecursion HasOctets written → 14 + length items ≤ pdu
    → judge link (write_spelled sequence items written)
    ≡ asks_plainly link sequence (Write items (places_of 0 written) (data_octets written))

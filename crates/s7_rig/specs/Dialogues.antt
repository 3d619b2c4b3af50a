-- A job that is over, as both ends of its link see it.
use Rattle.std.specs.Prelude.{◌≡◌, ℕ, ◌<◌, ◌≤◌, Bool, false, List, [], ◌∷◌, ◌++◌, length, map, Option, None, Some}
use Rattle.std.specs.List.{AllByRecursion, flat_map}
use Rattle.s7_area.specs.Memory.{read_code, read_octets}
use Rattle.s7_area.specs.declared.guard.Guard.{Guard}
use Rattle.s7_dialogue.specs.declared.grant.Grant.{Grant}
use Rattle.s7_dialogue.specs.declared.job.Job.{Job}
use Rattle.s7_dialogue.specs.declared.job.Job.TheVariants as job
use Rattle.s7_dialogue.specs.Codes.{no_fault}
use Rattle.s7_dialogue.specs.Course.{Origin, course}
use Rattle.s7_dialogue.specs.DataBlocks.{data_parts}
use Rattle.s7_dialogue.specs.Dialogue.{End, alone}
use Rattle.s7_client.specs.Standing.{IsByOctets}
use Rattle.s7_header.specs.Negotiation.{most_pdu}
use Rattle.s7_item.specs.declared.item.Item.{Item}
use Rattle.s7_plant.specs.Answers as plant
use Rattle.s7_plant.specs.declared.request.Ask.{Ask}
use Rattle.s7_plant.specs.declared.request.Request.TheVariants.{Read, Info}
use Rattle.s7_plant.specs.Requests.{asked}
use Rattle.s7_plant.specs.Replies.{Said}
use Rattle.s7_plant.specs.State.{State}
use Rattle.s7_session.specs.LinkState.{LinkState, first_link}
use Rattle.s7_session.specs.Owed.{past, owed, entered}
use Rattle.s7_session.specs.Verdict.{Verdict}
use Rattle.s7_split.specs.Groups.{groups_of}
use Rattle.s7_split.specs.Parts.{parts_of}
use Rattle.s7_rig.specs.Complete.{data_block}
use Rattle.s7_rig.specs.Heard.{connected_end}
use Rattle.s7_rig.specs.Plants.{IsStateFor}
use Rattle.s7_rig.specs.Settled.{Settled}

-- each reply is the answer of some state to what was asked; if it is about blocks, of a state that a plant can be in
abbrev pub AreReplies : List (Ask × Said) → Type 0
AreReplies entries =
    AllByRecursion (λ (e : Ask × Said). (s : State) × (e.1 ≡ plant.answer_of s e.0) × IsStateFor e.0.request s) entries

-- The entries read these groups of items in order, each group in an entry of its own, with a right or without.
-- Whichever state gave the reply of an entry, its codes and octets are those of its items in that state's memory. The
-- codes and octets of all entries are joined.
unfoldable pub ReadsGroups : List (List Item) → List (Ask × Said) → List ℕ → List ℕ → Type 0
ReadsGroups [] [] octets codes = (octets ≡ []) × (codes ≡ [])
ReadsGroups [] (e ∷ entries) octets codes = ⊥
ReadsGroups (group ∷ groups) [] octets codes = ⊥
ReadsGroups (group ∷ groups) (e ∷ entries) octets codes =
    (front : List ℕ) × (rest : List ℕ) × (first : List ℕ) × (others : List ℕ) × (right : Bool)
    × (octets ≡ front ++ rest) × (codes ≡ first ++ others)
    × (e.0 ≡ asked right (Read group))
    × ((s : State) → e.1 ≡ plant.answer_of s (asked right (Read group))
    → (first ≡ map (read_code s.memory right) group) × (front ≡ flat_map (read_octets s.memory right) group))
    × ReadsGroups groups entries rest others

-- every return code is good
abbrev pub AreGood : List ℕ → Type 0
AreGood codes = AllByRecursion (λ (code : ℕ). code ≡ 0xFF) codes

-- The entries read these parts in order, each part alone in a group of its own. Whichever state gave the reply of an
-- entry, its memory has the part.
abbrev pub ReadsParts : List Item → List (Ask × Said) → List ℕ → Type 0
ReadsParts parts entries octets = (codes : List ℕ) × AreGood codes × ReadsGroups (alone parts) entries octets codes

-- The first entry asks for the head of the data block, with a right or without. Whichever state gave the reply, its
-- memory had the block with this number of octets. The other entries read the block's parts.
abbrev pub ReadsBlock : ℕ → ℕ → List (Ask × Said) → List ℕ → Type 0
ReadsBlock number pdu [] octets = ⊥
ReadsBlock number pdu (e ∷ entries) octets =
    (right : Bool) × (size : ℕ)
    × (e.0 ≡ asked right (Info 0x41 number))
    × ((s : State) → e.1 ≡ plant.answer_of s (asked right (Info 0x41 number))
    → (stood : List ℕ) × (data_block s.memory number ≡ Some stood) × (length stood ≡ size))
    × ReadsParts (data_parts number size pdu false) entries octets

-- what a job that succeeded read is what its entries read; the number of a data block has two octets
abbrev pub ReadsAs : Job → ℕ → List (Ask × Said) → List ℕ → List ℕ → Type 0
ReadsAs (job.ReadArea item) pdu entries octets codes = ReadsParts (parts_of item pdu false) entries octets
ReadsAs (job.ReadMany items) pdu entries octets codes = ReadsGroups (groups_of pdu false items) entries octets codes
ReadsAs (job.DbGet number) pdu entries octets codes = number < 65536 → ReadsBlock number pdu entries octets
ReadsAs _ pdu entries octets codes = Unit {0}

-- A job of a connected client was ended by octets: `heard` are the octets that the client used for it, and `sent` those
-- that it transmitted. Before the job the session was between two messages, and since then it has used octets of those
-- that the client transmitted. Its expected output for them is what the client used, followed by the octets `behind`.
pub record IsJobOver (first : LinkState) (origin : Origin) (pdu : ℕ) (heard sent : List ℕ) (end : End)
    (carried : List ℕ) (b used : List ℕ) (js verdicts : List Verdict) (behind : List ℕ) : Type 0 where
  pub grant : Grant
  pub granted : origin.granted ≡ Some grant
  pub pdu_is : grant.pdu ≡ pdu
  pub least : 64 ≤ pdu
  pub most : pdu ≤ most_pdu
  pub size : origin.size ≡ 1024
  pub sequence : origin.sequence < 65536
  pub over : IsByOctets origin end carried heard sent
  pub settled : Settled first b js (Some pdu)
  pub unused : List ℕ
  pub taken : sent ≡ used ++ unused
  pub met : (past first (b ++ used) (js ++ verdicts)).verdicts ≡ []
  pub replies : AreReplies (entered first (b ++ used) (js ++ verdicts))
  pub owed_is : owed first (b ++ used) (js ++ verdicts) ≡ (owed first b js ++ heard) ++ behind

-- After such a job client and session are between two messages again, and a read that succeeded read what its entries
-- read.
pub record IsJobSettled (first : LinkState) (origin : Origin) (pdu : ℕ) (heard sent : List ℕ) (end : End)
    (b used : List ℕ) (js verdicts : List Verdict) (behind : List ℕ) : Type 0 where
  pub all_used : used ≡ sent
  pub nothing_behind : behind ≡ []
  pub settled : Settled first (b ++ sent) (js ++ verdicts) (Some pdu)
  pub owed_is : owed first (b ++ sent) (js ++ verdicts) ≡ owed first b js ++ heard
  pub size : (course origin heard).size ≡ 1024
  pub sequence : (course origin heard).sequence < 65536
  pub read : end.code ≡ no_fault
      → (entries : List (Ask × Said)) × (entered first (b ++ sent) (js ++ verdicts) ≡ entered first b js ++ entries)
      × ReadsAs origin.job pdu entries end.octets end.codes

-- The first connect of a client was ended by octets, on a link to areas with this guard, of which the session has used
-- these octets.
pub record IsConnectOver (guard : Option Guard) (origin : Origin) (heard sent : List ℕ) (end : End)
    (carried : List ℕ) (used : List ℕ) (verdicts : List Verdict) (behind : List ℕ) : Type 0 where
  pub unconnected : origin.granted ≡ None
  pub connects : origin.job ≡ job.Connect
  pub least : 64 ≤ origin.config.pdu
  pub most : origin.config.pdu ≤ most_pdu
  pub over : IsByOctets origin end carried heard sent
  pub unused : List ℕ
  pub taken : sent ≡ used ++ unused
  pub met : (past (first_link guard) used verdicts).verdicts ≡ []
  pub owed_is : owed (first_link guard) used verdicts ≡ heard ++ behind

-- Such a connect succeeded, and client and session are between two messages, with the PDU that was asked for.
pub record IsConnectSettled (guard : Option Guard) (origin : Origin) (heard sent : List ℕ) (end : End)
    (used : List ℕ) (verdicts : List Verdict) (behind : List ℕ) : Type 0 where
  pub grant : Grant
  pub is : end ≡ connected_end grant
  pub all_used : used ≡ sent
  pub nothing_behind : behind ≡ []
  pub no_verdicts : verdicts ≡ []
  pub granted : grant.pdu ≡ origin.config.pdu
  pub settled : Settled (first_link guard) sent verdicts (Some grant.pdu)
  pub owed_is : owed (first_link guard) sent verdicts ≡ heard
  pub entered_is : entered (first_link guard) sent verdicts ≡ []
  pub size : (course origin heard).size ≡ 1024
  pub sequence : (course origin heard).sequence < 65536

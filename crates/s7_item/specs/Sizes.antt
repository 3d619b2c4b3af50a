-- The sizes of read and write telegrams and their answers (Snap7 1.4 sources, s7_types.h: TS7ReqHeader, TS7ResHeader23,
-- TReqFunReadParams, TReqFunWriteDataItem, TResFunReadItem).
use Rattle.std.specs.Prelude.{◌≡◌, ℕ, ◌+◌, ◌*◌, ◌≤◌, ◌==◌, Bool, true, false, if◌then◌else◌, List, [], ◌∷◌, length, map}
use Rattle.s7_item.specs.Item.{octet_count}
use Rattle.s7_item.specs.Params.{items_params}
use Rattle.s7_item.specs.DataItem.{carries, padding_of, DataItem, data_octets}
use Rattle.s7_item.specs.declared.item.Item.{Item}

-- the number of octets of data items that have these numbers of octets: each has four more, and each but the last
-- is padded
abbrev pub data_size : List ℕ → ℕ
data_size [] = 0
data_size (n ∷ ns) = 4 + n + padding_of n (length ns == 0) + data_size ns

-- the size of the answer to a read of these items, if each item of a known word length has all its octets: twelve
-- octets of header, two of parameters, and the data items
abbrev pub answer_size : List Item → ℕ
answer_size items = 14 + data_size (map octet_count items)

-- the size of a request: a read request has ten octets of header, and parameters of two octets and twelve for each
-- item; a write request has the data items too
abbrev pub request_size : List Item → Bool → ℕ
request_size items write =
    12 + 12 * length items + (if write then data_size (map octet_count items) else 0)

-- the number of octets written of a data item's octets; 0 if its code refuses the item
abbrev pub sent_count : DataItem → ℕ
sent_count item = if carries item.code then length item.octets else 0

-- the lists have the same length, and each number is at most the number at its index in the other list
abbrev pub AreAtMost : List ℕ → List ℕ → Type 0
AreAtMost [] [] = Unit {0}
AreAtMost [] (m ∷ ms) = ⊥
AreAtMost (n ∷ ns) [] = ⊥
AreAtMost (n ∷ ns) (m ∷ ms) = (n ≤ m) × AreAtMost ns ms

-- the size of a read request is that of its header and its parameters
abbrev pub ReadsHaveTheirSize : Type 0
ReadsHaveTheirSize =
    (function : ℕ) (items : List Item)
    → 10 + length (items_params function items) ≡ request_size items false

-- the size of a write request is that of its header, its parameters and the data items, each with all octets of its
-- item
abbrev pub WritesHaveTheirSize : Type 0
WritesHaveTheirSize =
    (function : ℕ) (items : List Item) (written : List DataItem)
    → map sent_count written ≡ map octet_count items
    → 10 + length (items_params function items) + length (data_octets written) ≡ request_size items true

-- an answer in which each item has all its octets has the predicted size
abbrev pub FullAnswersHaveTheirSize : Type 0
FullAnswersHaveTheirSize =
    (items : List Item) (written : List DataItem)
    → map sent_count written ≡ map octet_count items
    → 14 + length (data_octets written) ≡ answer_size items

-- an answer in which no item has more octets than the request asks for is at most as long as predicted
abbrev pub AnswersFit : Type 0
AnswersFit =
    (items : List Item) (written : List DataItem)
    → AreAtMost (map sent_count written) (map octet_count items)
    → 14 + length (data_octets written) ≤ answer_size items

-- What a job that reads or fills a whole data block asks: its head, piece by piece, and then its parts, of which each can
-- be asked.
use Rattle.std.proofs.Common.{◌≡◌, ℕ, zero, suc, ◌+◌, ◌-◌, ◌/◌, min, Bool, cond, Option, None, Some, List, [], ◌∷◌}
use Rattle.std.proofs.Common.{refl, ap, sym, subst}
use Rattle.std.specs.Prelude.{IsSome, is_some, slice_get}
use Rattle.std.specs.List.{AllByRecursion}
use Rattle.s7_item.specs.declared.item.Item.{Item}
use Rattle.s7_item.specs.Word.{size_of}
use Rattle.s7_split.specs.Parts.{parts_of}
use Rattle.s7_dialogue.specs.declared.questions.subject.Subject.TheVariants.{DataHead}
use Rattle.s7_dialogue.specs.DataBlocks.{data_length, data_item, data_items_from, data_parts}
use Rattle.s7_dialogue.specs.DataPlaces.{parts_of_all}
use Rattle.s7_dialogue.specs.Question.{Question, asks, asks_further}
use Rattle.s7_dialogue.specs.Answer.{Answer}
use Rattle.s7_dialogue.specs.Dialogue.{octets_brought, last_answer, behind, or_later, count_of_data, next_of_data}
use Rattle.s7_dialogue.proofs.DataPartLemmas.{byte_size, pieces, parts_pieces}
use Rattle.s7_dialogue.proofs.FlightLemmas.{same_some}
use Rattle.s7_client.proofs.FitLemmas.{one_of_all}
use Rattle.s7_dialogue.proofs.SpotLemmas.{all_append}
use Rattle.s7_rig.proofs.HoldPieces.{behind_is}

-- what is asked is the first of two, or the other
pub of_either : (P : Type 0) (first later : Option Question) (q : Question) → (first ≡ Some q → P)
    → (later ≡ Some q → P) → or_later first later ≡ Some q → P
of_either P (Some question) later q by_first by_later is = by_first is
of_either P None later q by_first by_later is = by_later is

-- what holds of the head, of further octets of it, and of all questions behind it holds of each question of the job
pub of_data : (P : Question → Type 0) (octets : List ℕ) (questions : ℕ → List Question)
    (answers : List (Option Answer)) (q : Question) → P (asks DataHead octets)
    → ((octet : ℕ) (so_far : List ℕ) → P (asks_further DataHead octet so_far))
    → ((size : ℕ) → AllByRecursion P (questions size)) → next_of_data octets questions answers ≡ Some q → P q
of_data P octets questions [] q head further each is = subst P (same_some (asks DataHead octets) q is) head
of_data P octets questions (answer ∷ answers) q head further each is =
    let so_far : List ℕ = octets_brought (answer ∷ answers) in
    let last : Option Answer = last_answer answer answers in
    let at : ℕ = count_of_data (answer ∷ answers) in
    of_either (P q) (behind DataHead so_far last) (slice_get (questions (data_length so_far)) at) q
    (λ asked.
    let piece = behind_is DataHead so_far last q asked in
    subst P (sym piece.1) (further piece.0 so_far))
    (λ asked. one_of_all P (questions (data_length so_far)) at q (each (data_length so_far)) asked) is

-- ---- the words of the parts are known

abbrev HasWord : Item → Type 0
HasWord item = IsSome (size_of item.word)

pieces_known : (n room number from left : ℕ) → AllByRecursion HasWord (pieces n room number from left)
pieces_known zero room number from left = tt
pieces_known (suc n) room number from left =
    (ap is_some byte_size, pieces_known n room number (from + min room left) (left - min room left))

parts_known : (number from count pdu : ℕ) (write : Bool)
    → AllByRecursion HasWord (parts_of (data_item number from count) pdu write)
parts_known number from count pdu write =
    let room : ℕ = cond write (pdu - 35) (pdu - 18) in
    subst (AllByRecursion HasWord) (sym (parts_pieces number from count pdu room write refl))
    (pieces_known (suc ((count - 1) / room)) room number from count)

items_known : (n number from left pdu : ℕ) (write : Bool)
    → AllByRecursion HasWord (parts_of_all pdu write (data_items_from n number from left))
items_known zero number from left pdu write = tt
items_known (suc n) number from left pdu write =
    all_append HasWord (parts_of (data_item number from (min 65535 left)) pdu write)
    (parts_of_all pdu write (data_items_from n number (from + min 65535 left) (left - min 65535 left)))
    (parts_known number from (min 65535 left) pdu write)
    (items_known n number (from + min 65535 left) (left - min 65535 left) pdu write)

pub data_known : (number size pdu : ℕ) (write : Bool) → AllByRecursion HasWord (data_parts number size pdu write)
data_known number size pdu write = items_known ((size + 65534) / 65535) number 0 size pdu write

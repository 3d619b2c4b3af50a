-- What contracts see of the state of the reader of scripts.
use Rattle.std.specs.Prelude.{ℕ, ◌==◌, List, [], ◌++◌, length, Option, None, Some, Result, Ok, Err, if◌then◌else◌}
use Rattle.std.specs.Option.{option_map}
use Rattle.hex.specs.Hex.{decode_of}
use Rattle.hex.specs.declared.error.FromHexError.{FromHexError}
use Rattle.s7_item.specs.declared.item.Item.{Item}
use Rattle.s7_text.specs.Lines.{Text}
use Rattle.s7_script.specs.Script.{Place, Written, parts, ◌>>=◌}
use Rattle.s7_script.specs.declared.scripts.script_fault.ScriptKind.{ScriptKind}
use Rattle.s7_script.specs.declared.scripts.script_fault.ScriptKind.TheVariants as kind
use Rattle.s7_script.specs.declared.scripts.item_text.Placed.{Placed}
use Rattle.s7_script.specs.Tagged.{Tagged}
use Rattle.s7_script.specs.declared.scripts.tag_line.TaggedJob.{TaggedJob}
use Rattle.s7_script.specs.declared.scripts.written.WrittenItem.{WrittenItem}
use Rattle.s7_script.specs.declared.scripts.written.WrittenItems.{WrittenItems}

abbrev pub placed_told : Placed → Place
placed_told p = record { key = p.key; word = p.word; address = p.address; rest = option_map (λ t. t.now) p.rest }

abbrev pub written_of : WrittenItem → Written
written_of w = (w.item, w.octets.items)

abbrev pub all_written : WrittenItems → List Item × List ℕ
all_written w = (w.items.items, w.octets.items)

abbrev pub tagged_told : TaggedJob → Tagged
tagged_told t = (t.job, t.tag)

-- the octets that were decoded from a field, or the fault if it isn't an even number of hexadecimal digits
abbrev pub octets_or_fault : Result (List ℕ) FromHexError → Result (List ℕ) ScriptKind
octets_or_fault (Ok octets) = Ok octets
octets_or_fault (Err e) = Err kind.Digits

-- the octets that the hexadecimal digits of a field spell; an empty field is a fault, too
abbrev pub octets_in : Text → Result (List ℕ) ScriptKind
octets_in field = if length field == 0 then Err kind.Digits else octets_or_fault (decode_of field)

-- the parts of a text, none if there is no text
abbrev pub parts_left : Option Text → List Text
parts_left None = []
parts_left (Some text) = parts text

-- more elements after these
abbrev pub appended : {X E : Type 0} → List X → Result (List X) E → Result (List X) E
appended xs more = more >>= (λ others. Ok (xs ++ others))

abbrev pub written_after : List Item × List ℕ → Result (List Item × List ℕ) ScriptKind → Result (List Item × List ℕ) ScriptKind
written_after w more = more >>= (λ others. Ok (w.0 ++ others.0, w.1 ++ others.1))

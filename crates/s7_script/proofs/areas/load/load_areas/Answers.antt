use Rattle.std.proofs.Common.{◌≡◌, ◌∙◌, ℕ, List, Some, ap, sym, subst}
use Rattle.std.specs.Prelude.{option_map}
use Rattle.std.specs.Borrow.{Bor}
use Rattle.s7_text.specs.Fields.{number_of}
use Rattle.s7_script.proofs.LoadLemmas.{block_loads, never_path}
use Rattle.s7_script.specs.Loading.{Loads}
use Rattle.s7_script.specs.Naming.{Named, block_named, block_number, inline_parts, named_by}
use Rattle.s7_script.proofs.areas.load.load_areas.Goals as goal

pub returns-in-Some : goal.returns-in-Some
returns-in-Some g c =
    let word : List ℕ = c.args.word.now in
    let digits : List ℕ = c.in-Some.digits.now in
    let parts : inline_parts word ≡ Some (c.in-Some.number.now, digits) =
    ap inline_parts (sym c.as_bytes.ensures.value) ∙ sym c.inline_parts.ensures
    ∙ ap (option_map (λ (p : Bor (List ℕ) × Bor (List ℕ)). (p.0.now, p.1.now))) c.in-Some.is in
    subst (λ (n : Named). Loads n (g.F.Files.shows c.args.files.now) (g.F.Files.shows c.args.files.now) c.load_block.result)
    (sym (ap (named_by word) parts))
    (block_loads (block_named (block_number (number_of c.in-Some.number.now)) digits)
    (g.F.Files.shows c.args.files.now) c.load_block.result (never_path (block_number (number_of c.in-Some.number.now)) digits) c.load_block.ensures)

use Rattle.std.proofs.Common.{ap, ◌≡◌, ◌∙◌, ◌++◌, arith, rules}
use Rattle.std.specs.Prelude.{codes}
use Rattle.std.specs.Fmt.{decimal}
use Rattle.s7_plant.specs.Books.{book_told}
use Rattle.s7_plant.specs.State.{State}
use Rattle.s7_script.specs.Spelling.{spelling}
use Rattle.s7_program.specs.Lines.{line_end}
use Rattle.s7_server_main.proofs.EntryLemmas.{there}
use Rattle.s7_server_main.proofs.report.add_areas.Goals as goal

pub returns : goal.returns
returns g c =
    let line : c.extend_from_slice-2.new.self.items ≡ c.args.text.now.items ++ (codes "at " ++ (decimal c.args.n ++ line_end)) = search rules in
    there (book_told c.args.book.now) c.args.n c.args.text.now.items _ _ c.as_slice.result.now
    (omega (arith, c.len.ensures.len, c.if-n-len.false)) c.in_ok-extend_from_slice-3.ensures.items line
    (c.as_slice.ensures ∙ (c.in_ok-areas.ensures.spelled ∙ ap (λ (s : State). spelling s.memory) c.in_ok-plant.ensures))

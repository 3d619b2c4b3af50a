use Rattle.std.proofs.Common.{◌∙◌, ◌≡◌, ap, ◌++◌, [], ◌∷◌}
use Rattle.std.specs.List.{AllByRecursion}
use Rattle.s7_script.specs.Reading.{areas as areas_by}
use Rattle.s7_script.specs.Spelling.{IsInRange, header, order, spelling}
use Rattle.s7_script.proofs.SpellingLemmas.{areas-spelling, spelled_by}
use Rattle.s7_script.proofs.areas.write.write_areas.Goals as goal

pub returns-clause-law : goal.returns-clause-law
returns-clause-law c =
    let spelled : c.of_vec.result ≡ spelling c.args.areas.now =
    c.of_vec.ensures ∙ spelled_by c.args.areas.now c.extend_from_slice.new.self.items c.write_guard.new.text.items c.write_singles.new.text.items c.write_blocks.new.text.items
    (c.in_ok-extend_from_slice.ensures.items ∙ ap (λ t. t ++ (header ++ 10 ∷ [])) c.new-text.ensures.items)
    c.in_ok-write_guard.ensures c.in_ok-write_singles.ensures.ok c.in_ok-write_blocks.ensures.ok in
    let s = c.in_ok-write_singles.ensures.range in
    let range : AllByRecursion (IsInRange c.args.areas.now) (order c.args.areas.now) = (s.0, (s.1.0, (s.1.1.0, (s.1.1.1.0, (s.1.1.1.1.0, c.in_ok-write_blocks.ensures.range))))) in
    ap areas_by spelled ∙ areas-spelling c.areas_join.ensures c.args.areas.now c.in_ok-write_blocks.ensures.memory range

use Rattle.std.proofs.Common.{◌∙◌, ap, sym, subst, Ok}
use Rattle.s7_symbol.specs.Values.{PutsSaid, octets_said}
use Rattle.s7_script.proofs.TagLineLemmas.{value_put}
use Rattle.s7_script.proofs.scripts.tag_line.value_octets.Goals as goal

pub returns-in-Ok-copy_of : goal.returns-in-Ok-copy_of
returns-in-Ok-copy_of c =
    let said = octets_said c.args.kind c.args.field.now in
    value_put said _ _ c.in-Ok.count (subst (PutsSaid said _ _) c.in-Ok.is c.octets_of.ensures) ∙ ap Ok (sym c.in-Ok-copy_of.ensures)

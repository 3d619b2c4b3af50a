use Rattle.std.proofs.Common.{◌∙◌, ◌++◌, ap}
use Rattle.s7_symbol.specs.Values.{text_said}
use Rattle.s7_symbol.proofs.ShownLemmas.{put_is_shown}
use Rattle.s7_symbol.proofs.shown.add_shown.Goals as goal

pub returns-clause-ok : goal.returns-clause-ok
returns-clause-ok c =
    c.in_ok-extend_from_slice.ensures.items
    ∙ ap (λ t. c.args.text.now.items ++ t)
    (put_is_shown c.args.octets.now (text_said c.args.kind c.args.octets.now) _ c.text_of.new.into c.in-Ok.n c.in-Ok.ensures)

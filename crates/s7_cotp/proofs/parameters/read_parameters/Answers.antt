use Rattle.std.proofs.Common.{get_or, ap, ◌∙◌, sym, refl, arith, length, ◌-◌, take, drop}
use Rattle.std.proofs.lemmas.Slice.{between_to_end}
use Rattle.s7_cotp.specs.Told.{result_map, said_of}
use Rattle.s7_cotp.proofs.ReadLemmas.{said_in-step}
use Rattle.s7_cotp.proofs.parameters.read_parameters.Goals as goal

pub loop-rest-preserved : goal.loop-rest-preserved
loop-rest-preserved c =
    let rest = c.loop-rest.rest.now in
    let more = take (length rest - 2) (drop 2 rest) in
    said_in-step rest more c.split_at.result.0.now c.split_at.result.1.now (get_or rest 0 0) c.from-length.result (said_of c.loop-rest.said) (said_of c.in_ok-said.said)
    (omega arith) (between_to_end rest 2 (length rest) (omega arith)) refl (sym c.from-length.ensures) (omega arith)
    c.split_at.ensures.front c.split_at.ensures.back
    (sym c.with_parameter.ensures ∙ ap (result_map said_of) c.in_ok-said.was)
    ∙ c.loop-rest.invariant

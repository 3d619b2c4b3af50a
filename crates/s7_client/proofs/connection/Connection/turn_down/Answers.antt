use Rattle.std.proofs.Common.{refl, subst}
use Rattle.s7_client.specs.Standing.{Fits}
use Rattle.s7_client.proofs.PollLemmas.{same_under}
use Rattle.s7_client.proofs.StartingLemmas.{started_turned, is_turned, fits_turned}
use Rattle.s7_client.proofs.connection.Connection.turn_down.Goals as goal

pub invariant_of-self-clause-fits : goal.invariant_of-self-clause-fits
invariant_of-self-clause-fits c = λ u e.
    let old = c.args.self.now in
    let turned = is_turned old c.begin.new.self c.args.job.running c.begin.new.running c.requires.not_anew
    c.requires.begins c.begin.ensures c.requires.unconnected in
    subst (Fits _) (same_under _ u e) (fits_turned old _ c.args.job.running _ turned c.begin.ensures
    c.requires.blank.room)

pub returns : goal.returns
returns c =
    let old = c.args.self.now in
    let blank_ = c.requires.blank in
    started_turned old _ c.args.job.running _ c.requires.not_anew refl
    (record { carried = blank_.carried; room = blank_.room; waited = blank_.waited })
    (is_turned old c.begin.new.self c.args.job.running c.begin.new.running c.requires.not_anew c.requires.begins
    c.begin.ensures c.requires.unconnected)
    c.begin.ensures.job refl refl refl refl

use Rattle.std.proofs.Common.{refl, subst}
use Rattle.s7_client.specs.Standing.{Fits}
use Rattle.s7_client.proofs.PollLemmas.{same_under}
use Rattle.s7_client.proofs.StartingLemmas.{started_channel, connected_not_anew, ready_between, fits_ready}
use Rattle.s7_client.proofs.connection.Connection.set_out.Goals as goal

pub invariant_of-self-clause-fits : goal.invariant_of-self-clause-fits
invariant_of-self-clause-fits c = λ u e.
    let old = c.args.self.now in
    let ready = ready_between old.channel c.begin.new.self c.args.job.running c.begin.new.running old.config old.granted
    (old.between c.requires.idle c.requires.connected) c.begin.ensures c.requires.begins c.requires.connected in
    subst (Fits _) (same_under _ u e) (fits_ready _ old.channel.talk c.args.job.running _ old.config ready c.begin.ensures
    c.requires.blank.room)

pub returns : goal.returns
returns c =
    let old = c.args.self.now in
    let blank_ = c.requires.blank in
    started_channel old _ old.channel c.args.job.running _ _
    (connected_not_anew old.granted c.args.job.running.job c.requires.connected) refl
    (record { carried = blank_.carried; room = blank_.room; waited = blank_.waited }) c.requires.begins
    refl refl refl refl refl refl
    (ready_between old.channel c.begin.new.self c.args.job.running c.begin.new.running old.config old.granted
    (old.between c.requires.idle c.requires.connected) c.begin.ensures c.requires.begins c.requires.connected)
    c.begin.ensures

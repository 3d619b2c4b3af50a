use Rattle.std.proofs.Common.{refl, subst}
use Rattle.s7_client.specs.Standing.{Fits}
use Rattle.s7_client.proofs.PollLemmas.{same_under}
use Rattle.s7_client.proofs.StartingLemmas.{started_channel, ready_new, fits_ready, new_size}
use Rattle.s7_client.proofs.connection.Connection.set_out_anew.Goals as goal

pub invariant_of-self-clause-fits : goal.invariant_of-self-clause-fits
invariant_of-self-clause-fits c = λ u e.
    let old = c.args.self.now in
    let ready = ready_new c.args.channel c.begin.new.self c.args.job.running c.begin.new.running old.config old.granted
    c.requires.channel c.begin.ensures c.requires.begins c.requires.anew in
    subst (Fits _) (same_under _ u e) (fits_ready _ c.args.channel.talk c.args.job.running _ old.config ready
    c.begin.ensures c.requires.blank.room)

pub returns : goal.returns
returns c =
    let old = c.args.self.now in
    let channel = c.requires.channel in
    let blank_ = c.requires.blank in
    started_channel old _ c.args.channel c.args.job.running _ _ c.requires.anew refl
    (record { carried = blank_.carried; room = blank_.room; waited = blank_.waited }) c.requires.begins
    refl refl refl channel.unread (new_size c.args.channel channel) channel.sequence
    (ready_new c.args.channel c.begin.new.self c.args.job.running c.begin.new.running old.config old.granted
    channel c.begin.ensures c.requires.begins c.requires.anew)
    c.begin.ensures

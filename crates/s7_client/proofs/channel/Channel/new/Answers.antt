use Rattle.std.proofs.Common.{refl, ap}
use Rattle.s7_client.proofs.StartingLemmas.{new_channel}
use Rattle.s7_client.proofs.channel.Channel.new.Goals as goal

pub returns : goal.returns
returns c = new_channel _ c.in_ok-new.ensures.read c.in_ok-new.ensures.opening c.in_ok-new.ensures.going refl
    (ap (λ x. x.unsent) c.new-4.ensures) c.new.ensures

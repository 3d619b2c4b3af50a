use Rattle.std.proofs.Common.{arith}
use Rattle.s7_relay.proofs.reply.say_result.Goals as goal

pub shared_ref_as_front-codes : goal.shared_ref_as_front-codes
shared_ref_as_front-codes c = omega (arith, c.from.ensures, c.requires.enough.few c.if-told-eq-GOOD.true)

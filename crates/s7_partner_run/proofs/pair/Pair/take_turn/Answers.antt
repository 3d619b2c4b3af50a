use Rattle.std.proofs.Common.{refl}
use Rattle.s7_partner.specs.declared.role.Role.TheVariants.{Active, Passive}
use Rattle.s7_partner_run.specs.Talking.{post_of}
use Rattle.s7_partner_run.specs.Pairs.{state_of}
use Rattle.s7_partner_run.proofs.TurnLemmas.{turn_taken}
use Rattle.s7_partner_run.proofs.pair.Pair.take_turn.Goals as goal

pub returns-in-Active : goal.returns-in-Active
returns-in-Active c =
    turn_taken _ Active (state_of c.args.self.now) _ (post_of c.turn_over.new.talker) c.turn_over.new.pipes
    c.turn_over.result c.in-Active.is c.turn_over.ensures refl

pub returns-in-Passive : goal.returns-in-Passive
returns-in-Passive c =
    turn_taken _ Passive (state_of c.args.self.now) _ (post_of c.turn_over-in-Passive.new.talker)
    c.turn_over-in-Passive.new.pipes c.turn_over-in-Passive.result c.in-Passive.is c.turn_over-in-Passive.ensures refl

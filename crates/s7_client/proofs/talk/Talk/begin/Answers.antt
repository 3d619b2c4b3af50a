use Rattle.std.proofs.Common.{refl, ap}
use Rattle.s7_client.proofs.BeginLemmas.{begins_opening, begins_leaving, is_going, begins_going}
use Rattle.s7_client.proofs.talk.Talk.begin.Goals as goal

pub returns-in-Opening : goal.returns-in-Opening
returns-in-Opening c =
    begins_opening c.args.config.now c.args.self.now c.put_connect.new.self c.args.running.now c.in-Opening.is
    c.put_connect.ensures.unsent
    c.put_connect.ensures.reader c.put_connect.ensures.sequence

pub returns-in-Leaving : goal.returns-in-Leaving
returns-in-Leaving c =
    begins_leaving c.args.config.now c.args.self.now c.put_disconnect.new.self c.args.running.now c.in-Leaving.is
    c.put_disconnect.ensures.unsent
    c.put_disconnect.ensures.reader c.put_disconnect.ensures.sequence

pub returns-in-Asking : goal.returns-in-Asking
returns-in-Asking c =
    let going = is_going c.args.running.now.stage c.in-Asking.is in
    begins_going c.args.config.now c.args.self.now _ c.args.running.now c.go_on-self.new.self c.go_on-self.result
    c.args.running.now.stage refl going.0 going.1 (c.go_on-self.ensures.reached c.args.config.now)
    (ap (λ x. x.unsent) c.clear.ensures) refl refl c.go_on-self.ensures.job c.go_on-self.ensures.not_before
    c.go_on-self.ensures.unchanged

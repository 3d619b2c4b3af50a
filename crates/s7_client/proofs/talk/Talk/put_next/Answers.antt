use Rattle.std.proofs.Common.{length, refl, ap, ◌∙◌, sym, arith}
use Rattle.s7_client.proofs.LinkLemmas.{empty_of}
use Rattle.s7_client.proofs.PutLemmas.{queues_none, queues_both, puts_by}
use Rattle.s7_client.proofs.talk.Talk.put_next.Goals as goal

pub loop-self-init : goal.loop-self-init
loop-self-init c =
    let t = c.args.self.now in
    let r = c.args.running.now in
    let none = empty_of t.outbox.unsent c.is_empty.result c.is_empty.ensures c.if-not-is_empty.false in
    let out = ap (λ x. x.unsent) c.clear.ensures in
    record {
      queues = queues_none c.args.config.now t _ r r (out ∙ sym none) refl refl refl;
      room = omega (arith, ap length out, ap (λ x. x.room) c.clear.ensures);
    }

pub loop-self-preserved : goal.loop-self-preserved
loop-self-preserved c = record {
  queues = queues_both c.args.config.now c.args.self.now c.loop-self.self c.put_one.new.self c.args.running.now
      c.loop-self.running c.put_one.new.running c.loop-self.invariant.queues c.put_one.ensures.queues;
  room = c.put_one.ensures.room ∙ c.loop-self.invariant.room;
}

pub loop-self-smaller : goal.loop-self-smaller
loop-self-smaller c = omega (arith, c.put_one.ensures.room, c.put_one.ensures.some c.if-not-put_one.false)

pub returns-then-not-put_one : goal.returns-then-not-put_one
returns-then-not-put_one c =
    puts_by c.args.config.now c.args.self.now c.put_one.new.self c.args.running.now c.put_one.new.running
    (queues_both c.args.config.now c.args.self.now c.loop-self.self c.put_one.new.self c.args.running.now
    c.loop-self.running c.put_one.new.running c.loop-self.invariant.queues c.put_one.ensures.queues)
    (λ empty. c.put_one.ensures.none c.if-not-put_one.true)
    (omega (arith, c.loop-self.invariant.room, c.put_one.ensures.room))

pub returns : goal.returns
returns c =
    puts_by c.args.config.now c.args.self.now c.loop-self.self c.args.running.now c.loop-self.running
    c.loop-self.invariant.queues
    (λ empty. absurd (omega (arith, ap length empty, c.loop-self.invariant.room, c.room.ensures, c.loop-self-test.false)))
    (omega (arith, c.loop-self.invariant.room))

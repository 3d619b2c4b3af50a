use Rattle.std.proofs.Common.{◌≡◌, ◌++◌, ℕ, length, length-append, refl, ap, ◌∙◌, sym, subst, arith, []}
use Rattle.s7_wire.specs.Sent.{sent_message}
use Rattle.s7_dialogue.specs.declared.stages.running.Running.{Running}
use Rattle.s7_dialogue.specs.Running.{unput_of}
use Rattle.s7_client.specs.At.{size_in}
use Rattle.s7_client.proofs.PutLemmas.{queues_telegram, queues_none, longer_by_telegram}
use Rattle.s7_client.proofs.talk.Talk.put_one.Goals as goal

pub returns-then-write_next-clause-queues : goal.returns-then-write_next-clause-queues
returns-then-write_next-clause-queues c =
    let t = c.args.self.now in
    let read = ap (sent_message (size_in t)) c.as_slice.ensures.octets in
    let size = ap (λ n. sent_message n c.as_slice.result.now) c.size-size.ensures.size in
    queues_telegram c.args.config.now t _ c.args.running.now c.write_next.new.self c.write_next.new.message.octets
    (c.put_message.ensures.unsent ∙ ap (λ x. t.outbox.unsent ++ x) (size ∙ read))
    (c.if-write_next.ensures.some refl) (c.if-write_next.ensures.asking refl)
    (c.write_next.ensures.asking_on (c.if-write_next.ensures.asking refl))
    refl refl c.write_next.ensures.follows c.write_next.ensures.awaits c.write_next.ensures.as_many
    c.write_next.ensures.job

pub returns-then-write_next-clause-room : goal.returns-then-write_next-clause-room
returns-then-write_next-clause-room c =
    let t = c.args.self.now in
    omega (
      arith,
      ap length c.put_message.ensures.unsent,
      c.put_message.ensures.room,
      length-append t.outbox.unsent (sent_message c.size-size.result c.as_slice.result.now),
    )

pub returns-then-write_next-clause-some : goal.returns-then-write_next-clause-some
returns-then-write_next-clause-some c = λ e.
    longer_by_telegram c.args.self.now.outbox.unsent _ c.as_slice.result.now c.size-size.result
    c.put_message.ensures.unsent

pub returns-clause-queues : goal.returns-clause-queues
returns-clause-queues c =
    queues_none c.args.config.now c.args.self.now _ c.args.running.now c.write_next.new.self refl refl refl
    (c.if-write_next.ensures.none refl).0

pub returns-clause-none : goal.returns-clause-none
returns-clause-none c = λ e.
    subst (λ (x : Running). (size : ℕ) → unput_of c.args.config.now size x ≡ []) (sym (c.if-write_next.ensures.none refl).0)
    (c.if-write_next.ensures.none refl).2

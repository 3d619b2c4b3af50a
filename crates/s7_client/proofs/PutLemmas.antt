-- Laws of telegrams that are put: nothing more is to be sent than before.
use Rattle.std.proofs.Common.{◌≡◌, ◌⊎◌, inl, inr, ℕ, zero, suc, ◌+◌, ◌-◌, ◌*◌, ◌<◌, ◌≤◌, min, List, [], ◌++◌, length, refl, ap, sym, ◌∙◌, subst, append_assoc, arith, length-append}
use Rattle.std.specs.Prelude.{Option, IsSome}
use Rattle.std.specs.List.{flat_map}
use Rattle.s7_outer.specs.Shown.{Shown}
use Rattle.s7_tpkt.specs.Packets.{HoldsRest}
use Rattle.s7_cotp.specs.Pairs.{pairs_of, pairs_from, fragments_of}
use Rattle.s7_wire.specs.Bounds.{most_waiting}
use Rattle.s7_wire.specs.Reads.{size_at, unfinished_in, held_by}
use Rattle.s7_wire.specs.declared.reader.Reader.{Reader}
use Rattle.s7_wire.specs.Sent.{fragment_octets, sent_message}
use Rattle.s7_dialogue.specs.declared.config.Config.{Config}
use Rattle.s7_dialogue.specs.declared.grant.Grant.{Grant}
use Rattle.s7_client.specs.declared.talk.Talk.{Talk}
use Rattle.s7_dialogue.specs.declared.stages.running.Running.{Running}
use Rattle.s7_dialogue.specs.declared.stages.running.Stage.{Stage}
use Rattle.s7_dialogue.specs.declared.stages.running.Stage.TheVariants as stage
use Rattle.s7_client.specs.declared.channel.Channel.{Channel}
use Rattle.s7_client.specs.declared.under_way.UnderWay.{UnderWay}
use Rattle.s7_client.specs.declared.channel.Step.{Step}
use Rattle.s7_dialogue.specs.Flight.{Row}
use Rattle.s7_dialogue.specs.Running.{awaited_in, unput_of, Follows, IsOver, IsOpening, IsAsking, IsLeaving, answers_left}
use Rattle.s7_dialogue.specs.Course.{Origin, Course, course, limits}
use Rattle.s7_client.specs.At.{IsAt, IsReading, IsClear, LeavesOpen, Puts, Queues, joiner_in, messages_left, pending, size_by, size_in}
use Rattle.s7_client.specs.Standing.{Stands, Fits, IsBetween, IsStep, unsent}
use Rattle.s7_client.proofs.PacketLemmas.{asking_awaits, one_is_none, opening_not_asking, over_not_asking}
use Rattle.s7_client.proofs.StepLemmas.{left_over}

-- the stage is the same, or both ask
abbrev AreAlike : Stage → Stage → Type 0
AreAlike s s' = (s' ≡ s) ⊎ (IsAsking s × IsAsking s')

alike : (config : Config) (t t' : Talk) (r r' : Running) → Puts config t r t' r' → AreAlike r.stage r'.stage
alike config t t' r r' p = elim p.same [ inl h ↦ inl (ap (λ (x : Running). x.stage) h.1) | inr h ↦ inr h ]

-- a job has what no job that asks has before a telegram is put where it has it then, and has it still
back : (P : Stage → Type 0) → ((s : Stage) → P s → IsAsking s → ⊥) → (s s' : Stage) → AreAlike s s' → P s' → P s
back P apart s s' (inl e) h = subst P e h
back P apart s s' (inr a) h = absurd (apart s' h a.1)

forth : (P : Stage → Type 0) → ((s : Stage) → P s → IsAsking s → ⊥) → (s s' : Stage) → AreAlike s s' → P s → P s'
forth P apart s s' (inl e) h = subst P (sym e) h
forth P apart s s' (inr a) h = absurd (apart s h a.0)

leaving_not_asking : (s : Stage) → IsLeaving s → IsAsking s → ⊥
leaving_not_asking stage.Opening h a = h
leaving_not_asking (stage.Asking asked) h a = h
leaving_not_asking (stage.Single single) h a = h
leaving_not_asking stage.Leaving h a = a
leaving_not_asking (stage.Over code leaves) h a = h

open_not_asking : (s : Stage) → LeavesOpen s → IsAsking s → ⊥
open_not_asking s h a = over_not_asking s (left_over s h) a

asking_back : (s s' : Stage) → AreAlike s s' → IsAsking s' → IsAsking s
asking_back s s' (inl e) h = subst IsAsking e h
asking_back s s' (inr a) h = a.0

same_messages : (s s' : Stage) → AreAlike s s' → answers_left s' ≡ answers_left s → messages_left s' ≡ messages_left s
same_messages s s' (inl e) same = ap messages_left e
same_messages s s' (inr a) same =
    omega (arith, one_is_none s (asking_awaits s a.0), one_is_none s' (asking_awaits s' a.1), same)

-- ---- where the client stands

put_size : (config : Config) (t t' : Talk) (r r' : Running) → Puts config t r t' r' → size_in t' ≡ size_in t
put_size config t t' r r' p = ap size_by p.reader

at_put : (origin : Origin) (c : Course) (t t' : Talk) (u : UnderWay) (r : Running) (config : Config)
    → origin.config ≡ config → Puts config t u.running t' r → IsAt origin c t u
    → IsAt origin c t' (record u { running = r })
at_put origin c t t' u r config ec p at =
    let s = u.running.stage in
    let same = alike config t t' u.running r p in
    record {
      job = p.job ∙ at.job;
      size = put_size config t t' u.running r p ∙ at.size;
      sequence = p.sequence ∙ at.sequence;
      unfinished = λ h. ap (λ (x : Reader). unfinished_in x.transport.joiner) p.reader
          ∙ at.unfinished (λ o. h (forth IsOver over_not_asking s r.stage same o));
      awaits = at.awaits ∙ sym (p.awaits u.carried.octets);
      opens = λ h. at.opens (back IsOpening opening_not_asking s r.stage same h);
      follows = λ h.
          let before = subst (λ (k : Config). Follows u.running k origin.granted c.rows) ec
          (at.follows (asking_back s r.stage same h)) in
          subst (λ (k : Config). Follows r k origin.granted c.rows) (sym ec) (p.follows origin.granted c.rows before);
      departs = λ h. at.departs (back IsLeaving leaving_not_asking s r.stage same h);
      silent = λ h. at.silent (λ o. h (forth IsOver over_not_asking s r.stage same o));
    }

stands_put : (origin : Origin) (l : Channel) (t : Talk) (u : UnderWay) (r : Running) (b w : List ℕ) (config : Config)
    → origin.config ≡ config → Puts config l.talk u.running t r
    → Stands origin l u b w → Stands origin (record l { talk = t }) (record u { running = r }) b w
stands_put origin l t u r b w config ec p s = record {
  at = at_put origin (course origin b) l.talk t u r config ec p s.at;
  owed = s.owed ∙ ap (λ x. w ++ x)
      (sym (subst (λ (k : Config). pending k t r ≡ pending k l.talk u.running) (sym ec) p.pending));
  rest = λ h. subst (λ (x : Reader). HoldsRest (limits origin) b x.cutter) (sym p.reader) (s.rest (λ o. h
      (forth IsOver over_not_asking u.running.stage r.stage (alike config l.talk t u.running r p) o)));
  sent_first = s.sent_first;
  all_awaited = s.all_awaited;
}

-- ---- what fits

between_put : (config : Config) (l : Channel) (t : Talk) (r r' : Running) → Puts config l.talk r t r' → IsBetween l
    → t.outbox.unsent ≡ unsent l → IsBetween (record l { talk = t })
between_put config l t r r' p h same = record {
  reads = subst IsReading (sym p.reader) h.reads;
  sized = subst (λ (x : Reader). IsSome (size_at x)) (sym p.reader) h.sized;
  held = ap held_by p.reader ∙ h.held;
  clear = subst (λ (x : Reader). IsClear x.transport.joiner) (sym p.reader) h.clear;
  sent = same ∙ h.sent;
}

unsent_by : (config : Config) (t t' : Talk) (r r' : Running) → ((t'.outbox.unsent ≡ t.outbox.unsent) × (r' ≡ r))
    ⊎ (IsAsking r.stage × IsAsking r'.stage) → IsOver r'.stage
    → t'.outbox.unsent ≡ t.outbox.unsent
unsent_by config t t' r r' (inl h) over = h.0
unsent_by config t t' r r' (inr a) over = absurd (over_not_asking r'.stage over a.1)

pub fits_put : (config : Config) (l : Channel) (t : Talk) (u : UnderWay) (r : Running) → Puts config l.talk u.running t r
    → Fits l u → Fits (record l { talk = t }) (record u { running = r })
fits_put config l t u r p f =
    let s = u.running.stage in
    let same = alike config l.talk t u.running r p in
    let going : (IsOver r.stage → ⊥) → IsOver s → ⊥ = λ h o. h (forth IsOver over_not_asking s r.stage same o) in
    record {
      reads = λ h. subst IsReading (sym p.reader) (f.reads (going h));
      unsized = λ h. ap size_at p.reader ∙ f.unsized (back IsOpening opening_not_asking s r.stage same h);
      sized = λ h before. subst (λ (x : Reader). IsSome (size_at x)) (sym p.reader)
          (f.sized (going h) (λ o. before (forth IsOpening opening_not_asking s r.stage same o)));
      opening = λ h. subst (λ (x : Reader). IsClear x.transport.joiner) (sym p.reader)
          (f.opening (back IsOpening opening_not_asking s r.stage same h));
      between = λ h.
          let over = left_over r.stage h in
          between_put config l t u.running r p (f.between (back LeavesOpen open_not_asking s r.stage same h))
          (unsent_by config l.talk t u.running r p.same over);
      many = λ h. omega (arith, f.many (going h), ap (λ (x : Reader). x.transport.joiner.count) p.reader);
      few = p.few f.few;
      quiet = λ h. unsent_by config l.talk t u.running r p.same h
          ∙ f.quiet (back IsOver over_not_asking s r.stage same h);
      carried = f.carried;
    }

-- ---- a step after it

less_put : (n n' count count' held held' out out' now : ℕ) → n' ≡ n → count' ≡ count → held' ≡ held → out' ≡ out
    → now < (n' * 533000 - (count' * 8200 + held')) * 16384 + out'
    → now < (n * 533000 - (count * 8200 + held)) * 16384 + out
less_put n n' count count' held held' out out' now a b c d h = omega (arith, a, b, c, d, h)

pub step_put : (l l' : Channel) (t : Talk) (u u' : UnderWay) (r : Running) (link link' : Shown) (config : Config)
    (granted : Option Grant) (result : Step) → Puts config l.talk u.running t r
    → IsStep (record l { talk = t }) (record u { running = r }) link l' u' link' config granted result
    → IsStep l u link l' u' link' config granted result
step_put l l' t u u' r link link' config granted result p k = record {
  moves = k.moves;
  fits = k.fits;
  left = k.left;
  waited = k.waited;
  stood = λ origin b w ec eg s h. k.stood origin b w ec eg (stands_put origin l t u r b w config ec p s) h;
  orderly = λ origin b w ec eg s. k.orderly origin b w ec eg (stands_put origin l t u r b w config ec p s);
  less = λ e. less_put (messages_left u.running.stage) (messages_left r.stage) (joiner_in l.talk).count
      (joiner_in t).count (length (held_by l.talk.reader)) (length (held_by t.reader))
      (length (pending config l.talk u.running)) (length (pending config t r)) _
      (same_messages u.running.stage r.stage (alike config l.talk t u.running r p) p.as_many)
      (ap (λ (x : Reader). x.transport.joiner.count) p.reader) (ap (λ (x : Reader). length (held_by x)) p.reader)
      (ap length p.pending) (k.less e);
  met = λ origin b w ec eg s e. k.met origin b w ec eg (stands_put origin l t u r b w config ec p s) e;
  over = k.over;
  cause = λ origin b w ec eg s e. k.cause origin b w ec eg (stands_put origin l t u r b w config ec p s) e;
}

-- ---- what is put

some_fragment : (message : List ℕ) (place : ℕ × ℕ) → 0 < length (fragment_octets message place)
some_fragment message place = omega arith

some_fragments : (n room from to : ℕ) (message : List ℕ) → 0 < n
    → 0 < length (flat_map (fragment_octets message) (pairs_from n room from to))
some_fragments zero room from to message some = absurd (omega (arith, some))
some_fragments (suc n) room from to message some =
    let end = min (from + room) to in
    let rest = flat_map (fragment_octets message) (pairs_from n room end to) in
    omega (arith, length-append (fragment_octets message (from, end)) rest, some_fragment message (from, end))

-- every message takes octets
sent_some : (message : List ℕ) (size : ℕ) → 0 < length (sent_message size message)
unfolding pairs_of
sent_some message size =
    let n = length message in
    let room = size - 3 in
    some_fragments (fragments_of n room) room 0 n message (omega arith)

-- what is queued behind the octets that were queued before
behind : (config : Config) (t t' : Talk) (r r' : Running) (message : List ℕ)
    → t'.outbox.unsent ≡ t.outbox.unsent ++ sent_message (size_in t) message
    → ((size : ℕ) → unput_of config size r ≡ sent_message size message ++ unput_of config size r')
    → size_in t' ≡ size_in t → pending config t' r' ≡ pending config t r
behind config t t' r r' message put unput size =
    let sent = sent_message (size_in t) message in
    ap (λ x. x ++ unput_of config (size_in t') r') put
    ∙ (ap (λ n. (t.outbox.unsent ++ sent) ++ unput_of config n r') size
    ∙ (append_assoc t.outbox.unsent sent (unput_of config (size_in t) r')
    ∙ ap (λ x. t.outbox.unsent ++ x) (sym (unput (size_in t)))))

pub queues_telegram : (config : Config) (t t' : Talk) (r r' : Running) (message : List ℕ)
    → t'.outbox.unsent ≡ t.outbox.unsent ++ sent_message (size_in t) message
    → ((size : ℕ) → unput_of config size r ≡ sent_message size message ++ unput_of config size r') → IsAsking r.stage
    → IsAsking r'.stage
    → t'.reader ≡ t.reader → t'.sequence ≡ t.sequence
    → ((granted : Option Grant) (rows : List Row) → Follows r config granted rows → Follows r' config granted rows)
    → ((carried : List ℕ) → awaited_in r' carried ≡ awaited_in r carried)
    → answers_left r'.stage ≡ answers_left r.stage → r'.job ≡ r.job
    → Queues config t r t' r'
queues_telegram config t t' r r' message put unput asks asks' reader sequence follows awaits as_many done = record {
  pending = behind config t t' r r' message put unput (ap size_by reader);
  reader = reader;
  sequence = sequence;
  same = inr (asks, asks');
  follows = follows;
  awaits = awaits;
  as_many = as_many;
  job = done;
}

pub longer_by_telegram : (out out' message : List ℕ) (size : ℕ) → out' ≡ out ++ sent_message size message
    → length out < length out'
longer_by_telegram out out' message size put =
    omega (arith, ap length put, length-append out (sent_message size message), sent_some message size)

-- the outbox is cleared, or only the room for the message changes
pub queues_none : (config : Config) (t t' : Talk) (r r' : Running) → t'.outbox.unsent ≡ t.outbox.unsent
    → t'.reader ≡ t.reader → t'.sequence ≡ t.sequence → r' ≡ r → Queues config t r t' r'
queues_none config t t' r r' out reader sequence same =
    subst (λ (x : Running). Queues config t r t' x) (sym same) (record {
      pending = ap (λ x. x ++ unput_of config (size_in t') r) out
          ∙ ap (λ (x : Reader). t.outbox.unsent ++ unput_of config (size_by x) r) reader;
      reader = reader;
      sequence = sequence;
      same = inl (out, refl);
      follows = λ granted rows h. h;
      awaits = λ carried. refl;
      as_many = refl;
      job = refl;
    })

both_same : (t t' t'' : Talk) (r r' r'' : Running)
    → ((t'.outbox.unsent ≡ t.outbox.unsent) × (r' ≡ r)) ⊎ (IsAsking r.stage × IsAsking r'.stage)
    → ((t''.outbox.unsent ≡ t'.outbox.unsent) × (r'' ≡ r')) ⊎ (IsAsking r'.stage × IsAsking r''.stage)
    → ((t''.outbox.unsent ≡ t.outbox.unsent) × (r'' ≡ r)) ⊎ (IsAsking r.stage × IsAsking r''.stage)
both_same t t' t'' r r' r'' (inl a) (inl b) = inl (b.0 ∙ a.0, b.1 ∙ a.1)
both_same t t' t'' r r' r'' (inl a) (inr b) = inr (subst (λ (x : Running). IsAsking x.stage) a.1 b.0, b.1)
both_same t t' t'' r r' r'' (inr a) (inl b) = inr (a.0, subst (λ (x : Running). IsAsking x.stage) (sym b.1) a.1)
both_same t t' t'' r r' r'' (inr a) (inr b) = inr (a.0, b.1)

pub queues_both : (config : Config) (t t' t'' : Talk) (r r' r'' : Running) → Queues config t r t' r'
    → Queues config t' r' t'' r'' → Queues config t r t'' r''
queues_both config t t' t'' r r' r'' a b = record {
  pending = b.pending ∙ a.pending;
  reader = b.reader ∙ a.reader;
  sequence = b.sequence ∙ a.sequence;
  same = both_same t t' t'' r r' r'' a.same b.same;
  follows = λ granted rows h. b.follows granted rows (a.follows granted rows h);
  awaits = λ carried. b.awaits carried ∙ a.awaits carried;
  as_many = b.as_many ∙ a.as_many;
  job = b.job ∙ a.job;
}

pub puts_by : (config : Config) (t t' : Talk) (r r' : Running) → Queues config t r t' r'
    → (t'.outbox.unsent ≡ [] → (size : ℕ) → unput_of config size r' ≡ []) → length t'.outbox.unsent ≤ most_waiting
    → Puts config t r t' r'
puts_by config t t' r r' q none few = record {
  pending = q.pending;
  none = none;
  few = λ h. few;
  reader = q.reader;
  sequence = q.sequence;
  same = q.same;
  follows = q.follows;
  awaits = q.awaits;
  as_many = q.as_many;
  job = q.job;
}

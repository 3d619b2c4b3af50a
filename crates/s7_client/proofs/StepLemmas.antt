-- Laws of the steps of a poll.
use Rattle.std.proofs.Common.{◌≡◌, ℕ, ◌+◌, ◌*◌, ◌<◌, ◌≤◌, List, [], ◌++◌, length, take, drop}
use Rattle.std.proofs.Common.{refl, ap, sym, ◌∙◌, subst, append_assoc, arith}
use Rattle.std.specs.Prelude.{Option, None, Some, IsSome, unwrap_or}
use Rattle.std.specs.Option.{ForSome}
use Rattle.std.proofs.lemmas.List.{append-nil, length-take-le, take-append-drop}
use Rattle.s7_tpkt.specs.Packets.{state_of}
use Rattle.s7_tpkt.specs.declared.state.FedState.TheVariants as fed
use Rattle.s7_wire.specs.Bounds.{size_of_code}
use Rattle.s7_wire.specs.Reading.{limit_by}
use Rattle.s7_wire.specs.Reads.{HasRead, HasFound, opens_by, size_at, message_at, unfinished_in, held_by, limit_at}
use Rattle.s7_wire.specs.declared.found.Found.{Found}
use Rattle.s7_wire.specs.declared.found.Found.TheVariants as finding
use Rattle.s7_wire.specs.declared.found.ReadFault.{ReadFault}
use Rattle.s7_wire.specs.declared.found.ReadFault.TheVariants.{BadFrame, FrameTooLong, BadTpdu, Unexpected, TooManyFragments, TooLong}
use Rattle.s7_wire.specs.declared.reader.Reader.{Reader}
use Rattle.s7_dialogue.specs.declared.config.Config.{Config}
use Rattle.s7_client.specs.declared.talk.Talk.{Talk}
use Rattle.s7_dialogue.specs.declared.grant.Grant.{Grant}
use Rattle.s7_dialogue.specs.declared.stages.running.Running.{Running}
use Rattle.s7_dialogue.specs.declared.stages.running.Stage.{Stage}
use Rattle.s7_dialogue.specs.declared.stages.running.Stage.TheVariants as stage
use Rattle.s7_client.specs.declared.channel.Channel.{Channel}
use Rattle.s7_client.specs.declared.under_way.UnderWay.{UnderWay}
use Rattle.s7_dialogue.specs.Codes.{link_ended}
use Rattle.s7_dialogue.specs.Dialogue.{fault_end}
use Rattle.s7_dialogue.specs.Running.{awaited_in, awaited_by, unput_of, IsOver, IsOpening, IsAsking}
use Rattle.s7_dialogue.specs.Course.{Origin, Course, Unfinished, for_nothing, nothing_unfinished, conduct_of, asking, with_fault, with_message, size_where, code_where, course, may_send, limit_in}
use Rattle.s7_client.specs.At.{IsAt, IsReading, Reaches, Settles, IsAwaiting, IsClear, LeavesOpen, code_at, joiner_in, messages_left, budget, pending, size_by, size_in}
use Rattle.s7_client.specs.Standing.{Stands, Fits, Consumes, AwaitsOctets, IsPrefixOf, unread, unsent, work}
use Rattle.s7_client.proofs.PacketLemmas.{awaits_some, over_none, awaiting_goes_on, closed_stage, over_not_opening, over_not_asking, over_not_leaving, none_pending, none_over}
use Rattle.s7_client.proofs.FrontLemmas.{OnlyLastShows, earliest_of, all_awaited_on, sent_first_on}
use Rattle.s7_client.proofs.FoundLemmas.{AreAlike, after_found}
use Rattle.s7_client.proofs.TurnLemmas.{IsAlike, Reads, Turns, held_short, limit_read, reads_octets}

pub prefix_on : (front all more : List ℕ) → IsPrefixOf front all → IsPrefixOf front (all ++ more)
prefix_on front all more h = (h.0 ++ more, ap (λ x. x ++ more) h.1 ∙ append_assoc front h.0 more)

pub left_not_awaiting : (s : Stage) → LeavesOpen s → IsAwaiting s → ⊥
left_not_awaiting stage.Opening h a = h
left_not_awaiting (stage.Asking asked) h a = h
left_not_awaiting (stage.Single single) h a = h
left_not_awaiting stage.Leaving h a = h
left_not_awaiting (stage.Over code leaves) h a = a

-- ---- octets are awaited

awaits_octets : (found codes carried : List ℕ) (s : Stage) → IsAwaiting s
    → AwaitsOctets (awaited_by found codes carried s)
awaits_octets found codes carried stage.Opening h = tt
awaits_octets found codes carried (stage.Asking a) h = tt
awaits_octets found codes carried (stage.Single single) h = tt
awaits_octets found codes carried stage.Leaving h = absurd h
awaits_octets found codes carried (stage.Over code leaves) h = absurd h

pub awaits_here : (c : Course) (u : UnderWay) → IsAwaiting u.running.stage
    → c.awaits ≡ awaited_in u.running u.carried.octets → AwaitsOctets c.awaits
awaits_here c u awaiting is =
    let r = u.running in
    subst AwaitsOctets (sym is) (awaits_octets r.found.items r.codes u.carried.octets r.stage awaiting)

-- ---- all was sent

-- what may be sent was transmitted
pub sent_whole : (origin : Origin) (l : Channel) (u : UnderWay) (b w : List ℕ) (config : Config) → origin.config ≡ config
    → Stands origin l u b w → pending config l.talk u.running ≡ []
    → may_send origin b ≡ w
sent_whole origin l u b w config ec s none =
    s.owed ∙ (ap (λ x. w ++ x) (ap (λ (k : Config). pending k l.talk u.running) ec ∙ none) ∙ append-nil w)

-- ---- what fits a job and its reader

-- the link is read by the size that the reader has
size_alike : (size : Option ℕ) (s : Stage) (found codes carried : List ℕ) → (IsOver s → ⊥)
    → (IsOpening s → size ≡ None) → ((IsOpening s → ⊥) → IsSome size)
    → size_where (awaited_by found codes carried s) (unwrap_or size 1024) ≡ size
size_alike None stage.Opening found codes carried going none some = refl
size_alike (Some n) stage.Opening found codes carried going none some = absurd (let x = none tt in cc)
size_alike None (stage.Asking a) found codes carried going none some = absurd (let x = some (λ h. h) in cc)
size_alike (Some n) (stage.Asking a) found codes carried going none some = refl
size_alike None (stage.Single s) found codes carried going none some = absurd (let x = some (λ h. h) in cc)
size_alike (Some n) (stage.Single s) found codes carried going none some = refl
size_alike None stage.Leaving found codes carried going none some = absurd (let x = some (λ h. h) in cc)
size_alike (Some n) stage.Leaving found codes carried going none some = refl
size_alike size (stage.Over code leaves) found codes carried going none some = absurd (going tt)

-- the limit of a packet is that of the course
pub limit_here : (c : Course) (t : Talk) (r : Running) (carried : List ℕ) → c.awaits ≡ awaited_in r carried
    → size_in t ≡ c.size → (IsOver r.stage → ⊥) → (IsOpening r.stage → size_at t.reader ≡ None)
    → ((IsOpening r.stage → ⊥) → IsSome (size_at t.reader)) → limit_in c ≡ limit_by (size_at t.reader)
limit_here c t r carried awaits same going none some =
    ap limit_by (ap (λ a. size_where a c.size) awaits
    ∙ (ap (size_where (awaited_in r carried)) (sym same)
    ∙ size_alike (size_at t.reader) r.stage r.found.items r.codes carried going none some))

-- a job that awaits octets awaits the confirm, or answers behind it
awaits_alike : (size : Option ℕ) (s : Stage) (found codes carried : List ℕ) → IsAwaiting s
    → (IsOpening s → size ≡ None) → ((IsOpening s → ⊥) → IsSome size)
    → AreAlike size (awaited_by found codes carried s)
awaits_alike None stage.Opening found codes carried h none some = refl
awaits_alike (Some n) stage.Opening found codes carried h none some = absurd (let x = none tt in cc)
awaits_alike None (stage.Asking a) found codes carried h none some = absurd (let x = some (λ k. k) in cc)
awaits_alike (Some n) (stage.Asking a) found codes carried h none some = refl
awaits_alike None (stage.Single s) found codes carried h none some = absurd (let x = some (λ k. k) in cc)
awaits_alike (Some n) (stage.Single s) found codes carried h none some = refl
awaits_alike size stage.Leaving found codes carried h none some = absurd h
awaits_alike size (stage.Over code leaves) found codes carried h none some = absurd h

alike : (origin : Origin) (b w : List ℕ) (l : Channel) (u : UnderWay) → Fits l u → IsAwaiting u.running.stage
    → Stands origin l u b w → IsAlike l.talk.reader (course origin b)
alike origin b w l u fits awaiting s =
    let going = awaiting_goes_on u.running.stage awaiting in
    let r = u.running in
    record {
      unfinished = s.at.unfinished going;
      awaits = subst (λ a. AreAlike (size_at l.talk.reader) a) (sym s.at.awaits)
          (awaits_alike (size_at l.talk.reader) r.stage r.found.items r.codes u.carried.octets awaiting fits.unsized
          (fits.sized going));
    }

-- where the confirm has come, answers are awaited, and before it the confirm is
asks_sized : (size : Option ℕ) (s : Stage) → IsAwaiting s → (IsOpening s → size ≡ None) → IsSome size → IsAsking s
asks_sized size stage.Opening h none some = absurd (let x = subst IsSome (none tt) some in cc)
asks_sized size (stage.Asking a) h none some = tt
asks_sized size (stage.Single s) h none some = tt
asks_sized size stage.Leaving h none some = absurd h
asks_sized size (stage.Over code leaves) h none some = absurd h

pub asks_where : (l : Channel) (u : UnderWay) → Fits l u → IsAwaiting u.running.stage → IsSome (size_at l.talk.reader)
    → IsAsking u.running.stage
asks_where l u fits awaiting some = asks_sized (size_at l.talk.reader) u.running.stage awaiting fits.unsized some

opens_unsized : (size : Option ℕ) (s : Stage) → IsAwaiting s → ((IsOpening s → ⊥) → IsSome size) → size ≡ None
    → IsOpening s
opens_unsized size stage.Opening h some none = tt
opens_unsized size (stage.Asking a) h some none = absurd (let x = subst IsSome none (some (λ k. k)) in cc)
opens_unsized size (stage.Single s) h some none = absurd (let x = subst IsSome none (some (λ k. k)) in cc)
opens_unsized size stage.Leaving h some none = absurd h
opens_unsized size (stage.Over code leaves) h some none = absurd h

pub opens_where : (l : Channel) (u : UnderWay) → Fits l u → IsAwaiting u.running.stage → size_at l.talk.reader ≡ None
    → IsOpening u.running.stage
opens_where l u fits awaiting none =
    opens_unsized (size_at l.talk.reader) u.running.stage awaiting
    (fits.sized (awaiting_goes_on u.running.stage awaiting)) none

-- ---- a front of the octets

-- the first octets were read, and this was found
pub record UsesFront (l : Channel) (t : Talk) (after used : List ℕ) (found : Found) : Type 0 where
  pub some : 0 < length used
  pub earliest : OnlyLastShows (limit_at l.talk.reader) (held_by l.talk.reader) used
  pub inbox : unread l ≡ used ++ after
  pub reads : Reads l.talk.reader t.reader used found

pub uses_front : (l : Channel) (t : Talk) (u : UnderWay) (piece after : List ℕ) (n : ℕ) (found : Found) → Fits l u
    → IsAwaiting u.running.stage → piece ≡ unread l → after ≡ drop n (unread l) → n ≤ length piece → 0 < n
    → opens_by t.reader ≡ opens_by l.talk.reader
    → ((k : ℕ) → k < n → state_of (limit_at l.talk.reader) (held_by l.talk.reader ++ take k piece) ≡ fed.More)
    → ((b : List ℕ) → HasRead l.talk.reader b → HasFound t.reader b (take n piece) found)
    → UsesFront l t after (take n piece) found
uses_front l t u piece after n found fits awaiting is rest least some opening earliest finds =
    let r = l.talk.reader in
    let some_used : 0 < length (take n piece) = omega (arith, length-take-le n piece least, some) in
    let last = earliest_of (limit_at r) (held_by r) piece n least earliest in
    record {
      some = some_used;
      earliest = last;
      inbox = sym (take-append-drop n (unread l))
          ∙ (ap (λ x. take n x ++ drop n (unread l)) (sym is) ∙ ap (λ x. take n piece ++ x) (sym rest));
      reads = reads_octets r t.reader (take n piece) found (fits.reads (awaiting_goes_on u.running.stage awaiting))
          opening some_used last finds;
    }

pub opens_at : (l : Channel) (t : Talk) (u : UnderWay) (after used : List ℕ) (found : Found) (connection : _) → Fits l u
    → IsAwaiting u.running.stage → UsesFront l t after used found → found ≡ finding.Opened connection
    → IsOpening u.running.stage
opens_at l t u after used found connection fits awaiting k is =
    opens_where l u fits awaiting (subst (λ x. Turns x l.talk.reader t.reader) is k.reads.turns).1

pub asks_at : (l : Channel) (t : Talk) (u : UnderWay) (after used : List ℕ) (found : Found) → Fits l u
    → IsAwaiting u.running.stage → UsesFront l t after used found → found ≡ finding.Message
    → IsAsking u.running.stage
asks_at l t u after used found fits awaiting k is =
    asks_where l u fits awaiting (subst (λ x. Turns x l.talk.reader t.reader) is k.reads.turns).1

pub message_short : (l : Channel) (t : Talk) (after used : List ℕ) (found : Found) → UsesFront l t after used found
    → found ≡ finding.Message → length (message_at t.reader) ≤ 8192
message_short l t after used found k is = (subst (λ x. Turns x l.talk.reader t.reader) is k.reads.turns).3

-- no message is begun where nothing is unfinished
pub clear_as : (r : Reader) → unfinished_in r.transport.joiner ≡ nothing_unfinished → IsClear r.transport.joiner
clear_as r e = record {
  octets = ap (λ (u : Unfinished). u.octets) e;
  count = ap (λ (u : Unfinished). u.count) e;
}

pub nothing_as : (r : Reader) → IsClear r.transport.joiner → unfinished_in r.transport.joiner ≡ nothing_unfinished
nothing_as r h =
    ap (λ x. record { octets = x; count = r.transport.joiner.count }) h.octets
    ∙ ap (λ n. record { octets = []; count = n }) h.count

-- ---- octets are used

pub consumes : (l l' : Channel) (u u' : UnderWay) (used : List ℕ) (found : Found) (config : Config)
    (granted : Option Grant)
    → Fits l u → IsAwaiting u.running.stage → unsent l ≡ [] → ((size : ℕ) → unput_of config size u.running ≡ [])
    → 0 < length used → OnlyLastShows (limit_at l.talk.reader) (held_by l.talk.reader) used
    → unread l ≡ used ++ unread l' → u'.waited ≡ u.waited
    → Reads l.talk.reader l'.talk.reader used found → Fits l' u' → work config l' u' < work config l u
    → ((origin : Origin) (c : Course) → origin.config ≡ config → origin.granted ≡ granted → IsAt origin c l.talk u
    → Reaches origin c (after_found (conduct_of origin) c found (message_at l'.talk.reader)
    (unfinished_in l'.talk.reader.transport.joiner)) l'.talk u')
    → Consumes l u l' u' config granted
consumes l l' u u' used found config granted fits awaiting sent unput some earliest inbox waited reads fits' less
    reaches =
    let going = awaiting_goes_on u.running.stage awaiting in
    let r = l.talk.reader in
    let r' = l'.talk.reader in
    let more = r.more (fits.reads going).going in
    let none_before : pending config l.talk u.running ≡ [] = none_pending config l.talk u.running sent unput in
    record {
      used = used;
      some = some;
      inbox = inbox;
      fits = fits';
      waited = waited;
      stood = λ origin b w ec eg s.
          let rest = s.rest going in
          let uses = reads.uses origin b rest in
          let c = course origin b in
          let same = uses.is (alike origin b w l u fits awaiting s) in
          let reached = reaches origin c ec eg s.at in
          let at : IsAt origin (course origin (b ++ used)) l'.talk u' =
          subst (λ x. IsAt origin x l'.talk u') (sym same) reached.at in
          let sent_all : c.out ≡ w = sent_whole origin l u b w config ec s none_before in
          record {
            at = at;
            owed = ap (λ x. x.out) same
                ∙ (reached.out ∙ ap (λ x. x ++ pending origin.config l'.talk u'.running) sent_all);
            rest = λ h.
                let reading_ = fits'.reads h in
                record {
                  held = uses.rest reading_.going;
                  limit = uses.limit reading_.going
                      ∙ (limit_here (course origin (b ++ used)) l'.talk u'.running u'.carried.octets at.awaits at.size h
                      fits'.unsized (fits'.sized h) ∙ sym (limit_read r' reading_));
                };
            sent_first = sent_first_on origin b used w r.cutter rest more earliest sent_all s.sent_first;
            all_awaited = all_awaited_on origin b used r.cutter rest more earliest
                (awaits_here (course origin b) u awaiting s.at.awaits) s.all_awaited;
          };
      less = less;
    }

sent_with : (all w more : List ℕ) → all ≡ w → more ≡ [] → all ≡ w ++ more
sent_with all w more sent none = sent ∙ (sym (append-nil w) ∙ ap (λ x. w ++ x) (sym none))

-- the client stands where its reader has come, with this size and this of a message that isn't whole
at_read : (origin : Origin) (c : Course) (t t' : Talk) (u : UnderWay) (size : ℕ) (unfinished : Unfinished)
    → IsAt origin c t u → size_in t' ≡ size → t'.sequence ≡ t.sequence
    → unfinished_in t'.reader.transport.joiner ≡ unfinished
    → IsAt origin (record c { size = size; unfinished = unfinished }) t' u
at_read origin c t t' u size unfinished at size_is sequence unfinished_is = record {
  job = at.job;
  size = size_is;
  sequence = sequence ∙ at.sequence;
  unfinished = λ h. unfinished_is;
  awaits = at.awaits;
  opens = at.opens;
  follows = at.follows;
  departs = at.departs;
  silent = at.silent;
}

-- ---- nothing was found

less_more : (s : Stage) (count count' held held' out out' : ℕ) → 1 ≤ messages_left s → count' ≤ 64 → held' ≤ 8199
    → count * 8200 + held < count' * 8200 + held' → out' ≡ 0
    → budget s count' held' * 16384 + out' < budget s count held * 16384 + out
less_more s count count' held held' out out' a few short further none =
    let n = messages_left s in
    omega (arith, a, few, short, further, none)

pub consumes_more : (l l' : Channel) (u : UnderWay) (used : List ℕ) (found : Found) (config : Config)
    (granted : Option Grant) → found ≡ finding.More
    → Fits l u → IsAwaiting u.running.stage → unsent l ≡ [] → ((size : ℕ) → unput_of config size u.running ≡ [])
    → UsesFront l l'.talk (unread l') used found → l'.talk ≡ record l.talk { reader = l'.talk.reader }
    → Consumes l u l' u config granted
consumes_more l l' u used found config granted is fits awaiting sent unput front talk =
    let going = awaiting_goes_on u.running.stage awaiting in
    let r = l.talk.reader in
    let r' = l'.talk.reader in
    let turns = subst (λ x. Turns x r r') is front.reads.turns in
    let none : unsent l' ≡ [] = ap (λ (t : Talk). t.outbox.unsent) talk ∙ sent in
    let none' = none_pending config l'.talk u.running none unput in
    let many = turns.2.many (fits.many going) in
    let size : size_in l'.talk ≡ size_in l.talk = ap (λ o. unwrap_or o 1024) turns.1 in
    consumes l l' u u used found config granted fits awaiting sent unput front.some front.earliest front.inbox refl
    front.reads (record {
      reads = λ h. turns.0;
      unsized = λ h. turns.1 ∙ fits.unsized h;
      sized = λ h before. subst IsSome (sym turns.1) (fits.sized h before);
      opening = λ h. clear_as r' (turns.3 (fits.unsized h) ∙ nothing_as r (fits.opening h));
      between = λ h. absurd (left_not_awaiting u.running.stage h awaiting);
      many = λ h. many;
      few = omega (arith, ap length none);
      quiet = λ h. none;
      carried = fits.carried;
    })
    (less_more u.running.stage (joiner_in l.talk).count (joiner_in l'.talk).count (length (held_by r))
    (length (held_by r')) (length (pending config l.talk u.running)) (length (pending config l'.talk u.running))
    (awaits_some u.running.stage awaiting) many (held_short r' turns.0) turns.2.further (ap length none'))
    (λ origin c ec eg at.
    subst (λ x. Reaches origin c (after_found (conduct_of origin) c x (message_at r')
    (unfinished_in r'.transport.joiner)) l'.talk u) (sym is) (record {
      at = at_read origin c l.talk l'.talk u c.size (unfinished_in r'.transport.joiner) at (size ∙ at.size)
          (ap (λ (t : Talk). t.sequence) talk) refl;
      out = sent_with c.out c.out _ refl
          (ap (λ (k : Config). pending k l'.talk u.running) ec ∙ none');
    }))

-- ---- the link ends, or a packet is at fault

less_over : (s s' : Stage) (count count' held held' out out' : ℕ) → 1 ≤ messages_left s → messages_left s' ≡ 0
    → count ≤ 64 → held ≤ 8199 → out' ≡ 0
    → budget s' count' held' * 16384 + out' < budget s count held * 16384 + out
less_over s s' count count' held held' out out' a over most short none = omega (arith, a, over, most, short, none)

-- the course ends with a fault
fault_at : (origin : Origin) (c : Course) (t t' : Talk) (u u' : UnderWay) (code : ℕ) (unfinished : Unfinished)
    → IsAt origin c t u
    → size_in t' ≡ size_in t → t'.sequence ≡ t.sequence
    → u'.running.job ≡ u.running.job → u'.carried.octets ≡ u.carried.octets
    → (IsOver u.running.stage → ⊥)
    → ((carried : List ℕ) → awaited_in u'.running carried ≡ for_nothing (fault_end code) carried)
    → IsOver u'.running.stage
    → IsAt origin (with_fault (record c { unfinished = unfinished }) code) t' u'
fault_at origin c t t' u u' code unfinished at size sequence job carried going e over = record {
  job = job ∙ at.job;
  size = size ∙ at.size;
  sequence = sequence ∙ at.sequence;
  unfinished = λ h. absurd (h over);
  awaits = ap (for_nothing (fault_end code)) (sym (carried ∙ at.silent going)) ∙ sym (e u'.carried.octets);
  opens = λ h. absurd (over_not_opening u'.running.stage over h);
  follows = λ h. absurd (over_not_asking u'.running.stage over h);
  departs = λ h. absurd (over_not_leaving u'.running.stage over h);
  silent = λ h. absurd (h over);
}

consumes_end : (l l' : Channel) (u u' : UnderWay) (used : List ℕ) (found : Found) (config : Config)
    (granted : Option Grant) (code : ℕ)
    → Fits l u → IsAwaiting u.running.stage → unsent l ≡ [] → ((size : ℕ) → unput_of config size u.running ≡ [])
    → UsesFront l l'.talk (unread l') used found → l'.talk ≡ record l.talk { reader = l'.talk.reader }
    → size_at l'.talk.reader ≡ size_at l.talk.reader
    → ((conduct : _) (c : Course) → c.awaits ≡ awaited_in u.running u.carried.octets
    → after_found conduct c found (message_at l'.talk.reader) (unfinished_in l'.talk.reader.transport.joiner)
    ≡ with_fault (record c { unfinished = unfinished_in l'.talk.reader.transport.joiner }) code)
    → ((carried : List ℕ) → awaited_in u'.running carried ≡ for_nothing (fault_end code) carried)
    → IsOver u'.running.stage → u'.running.job ≡ u.running.job
    → u'.carried ≡ u.carried → u'.waited ≡ u.waited
    → Consumes l u l' u' config granted
consumes_end l l' u u' used found config granted code fits awaiting sent unput front talk size after e
    over job carried waited =
    let going = awaiting_goes_on u.running.stage awaiting in
    let r = l.talk.reader in
    let none : unsent l' ≡ [] = ap (λ (t : Talk). t.outbox.unsent) talk ∙ sent in
    consumes l l' u u' used found config granted fits awaiting sent unput front.some front.earliest front.inbox waited
    front.reads (record {
      reads = λ h. absurd (h over);
      unsized = λ h. absurd (over_not_opening u'.running.stage over h);
      sized = λ h before. absurd (h over);
      opening = λ h. absurd (over_not_opening u'.running.stage over h);
      between = λ h. absurd (closed_stage u'.running code (e []) h);
      many = λ h. absurd (h over);
      few = omega (arith, ap length none);
      quiet = λ h. none;
      carried = ap (λ x. x.room) carried ∙ fits.carried;
    })
    (less_over u.running.stage u'.running.stage (joiner_in l.talk).count (joiner_in l'.talk).count (length (held_by r))
    (length (held_by l'.talk.reader)) (length (pending config l.talk u.running))
    (length (pending config l'.talk u'.running))
    (awaits_some u.running.stage awaiting) (over_none u'.running.stage over) (fits.many going)
    (held_short r (fits.reads going)) (ap length (none_over config l'.talk u'.running none over)))
    (λ origin c ec eg at.
    subst (λ x. Reaches origin c x l'.talk u') (sym (after (conduct_of origin) c at.awaits)) (record {
      at = fault_at origin c l.talk l'.talk u u' code (unfinished_in l'.talk.reader.transport.joiner) at
          (ap (λ o. unwrap_or o 1024) size) (ap (λ (t : Talk). t.sequence) talk) job (ap (λ x. x.octets) carried) going
          e over;
      out = sent_with c.out c.out _ refl (none_over origin.config l'.talk u'.running none over);
    }))

pub consumes_disconnect : (l l' : Channel) (u u' : UnderWay) (used : List ℕ) (found : Found) (config : Config)
    (granted : Option Grant) → found ≡ finding.Disconnected
    → Fits l u → IsAwaiting u.running.stage → unsent l ≡ [] → ((size : ℕ) → unput_of config size u.running ≡ [])
    → UsesFront l l'.talk (unread l') used found → l'.talk ≡ record l.talk { reader = l'.talk.reader }
    → ((carried : List ℕ) → awaited_in u'.running carried ≡ for_nothing (fault_end link_ended) carried)
    → IsOver u'.running.stage → u'.running.job ≡ u.running.job
    → u'.carried ≡ u.carried → u'.waited ≡ u.waited
    → Consumes l u l' u' config granted
consumes_disconnect l l' u u' used found config granted is fits awaiting sent unput front talk =
    consumes_end l l' u u' used found config granted link_ended fits awaiting sent unput front talk
    (subst (λ x. Turns x l.talk.reader l'.talk.reader) is front.reads.turns)
    (λ conduct c awaits. ap (λ x. after_found conduct c x (message_at l'.talk.reader)
    (unfinished_in l'.talk.reader.transport.joiner)) is)

-- the code is that of where the confirm is awaited, or not
code_by : (fault : ReadFault) (s : Stage) (found codes carried : List ℕ)
    → code_where (awaited_by found codes carried s) fault ≡ code_at s fault
code_by BadFrame s found codes carried = refl
code_by FrameTooLong s found codes carried = refl
code_by BadTpdu s found codes carried = refl
code_by Unexpected stage.Opening found codes carried = refl
code_by Unexpected (stage.Asking a) found codes carried = refl
code_by Unexpected (stage.Single single) found codes carried = refl
code_by Unexpected stage.Leaving found codes carried = refl
code_by Unexpected (stage.Over code leaves) found codes carried = refl
code_by TooManyFragments s found codes carried = refl
code_by TooLong s found codes carried = refl

pub consumes_fault : (l l' : Channel) (u u' : UnderWay) (used : List ℕ) (found : Found) (fault : ReadFault) (code : ℕ)
    (config : Config) (granted : Option Grant) → found ≡ finding.Fault fault
    → Fits l u → IsAwaiting u.running.stage → unsent l ≡ [] → ((size : ℕ) → unput_of config size u.running ≡ [])
    → UsesFront l l'.talk (unread l') used found → l'.talk ≡ record l.talk { reader = l'.talk.reader }
    → code ≡ code_at u.running.stage fault
    → ((carried : List ℕ) → awaited_in u'.running carried ≡ for_nothing (fault_end code) carried)
    → IsOver u'.running.stage → u'.running.job ≡ u.running.job
    → u'.carried ≡ u.carried → u'.waited ≡ u.waited
    → Consumes l u l' u' config granted
consumes_fault l l' u u' used found fault code config granted is fits awaiting sent unput front talk same =
    let r = u.running in
    consumes_end l l' u u' used found config granted code fits awaiting sent unput front talk
    (subst (λ x. Turns x l.talk.reader l'.talk.reader) is front.reads.turns)
    (λ conduct c awaits. ap (λ x. after_found conduct c x (message_at l'.talk.reader)
    (unfinished_in l'.talk.reader.transport.joiner)) is
    ∙ ap (with_fault (record c { unfinished = unfinished_in l'.talk.reader.transport.joiner }))
    (ap (λ a. code_where a fault) awaits
    ∙ (code_by fault r.stage r.found.items r.codes u.carried.octets ∙ sym same)))

-- ---- the confirm, and a message

less_whole : (s s' : Stage) (count count' held held' out out' : ℕ) → messages_left s' + 1 ≤ messages_left s
    → count ≤ 64 → held ≤ 8199 → count' ≡ 0 → held' ≡ 0 → out' ≤ 16256
    → budget s' count' held' * 16384 + out' < budget s count held * 16384 + out
less_whole s s' count count' held held' out out' fewer most short none empty few =
    omega (arith, fewer, most, short, none, empty, few)

few_pending : (config : Config) (t : Talk) (r : Running) → t.outbox.unsent ≡ []
    → length (unput_of config (size_in t) r) ≤ 16256 → length (pending config t r) ≤ 16256
few_pending config t r none few = subst (λ x. length (x ++ unput_of config (size_in t) r) ≤ 16256) (sym none) few

least_size : (o : Option ℕ) → ForSome o (λ n. 128 ≤ n) → 128 ≤ unwrap_or o 1024
least_size None h = omega arith
least_size (Some n) h = omega (arith, h n refl)

consumes_settled : (l : Channel) (m : Talk) (l' : Channel) (u u' : UnderWay) (used : List ℕ) (found : Found) (config : Config)
    (granted : Option Grant)
    → Fits l u → IsAwaiting u.running.stage → unsent l ≡ [] → ((size : ℕ) → unput_of config size u.running ≡ [])
    → 0 < length used → OnlyLastShows (limit_at l.talk.reader) (held_by l.talk.reader) used
    → unread l ≡ used ++ unread l'
    → Reads l.talk.reader l'.talk.reader used found → Settles config m u l'.talk u'
    → IsReading l'.talk.reader → IsSome (size_at l'.talk.reader)
    → unfinished_in l'.talk.reader.transport.joiner ≡ nothing_unfinished → held_by l'.talk.reader ≡ []
    → ((origin : Origin) (c : Course) → origin.config ≡ config → origin.granted ≡ granted → IsAt origin c l.talk u
    → Reaches origin c (after_found (conduct_of origin) c found (message_at l'.talk.reader)
    (unfinished_in l'.talk.reader.transport.joiner)) l'.talk u')
    → Consumes l u l' u' config granted
consumes_settled l m l' u u' used found config granted fits awaiting sent unput some earliest inbox reads settles
    reading_ sized clear held reaches =
    let going = awaiting_goes_on u.running.stage awaiting in
    let r = l.talk.reader in
    let r' = l'.talk.reader in
    let is_clear = clear_as r' clear in
    consumes l l' u u' used found config granted fits awaiting sent unput some earliest inbox settles.waited
    reads (record {
      reads = λ h. reading_;
      unsized = λ h. absurd (settles.not_before h);
      sized = λ h before. sized;
      opening = λ h. absurd (settles.not_before h);
      between = λ h. record {
        reads = reading_;
        sized = sized;
        held = held;
        clear = is_clear;
        sent = settles.none;
      };
      many = λ h. omega (arith, is_clear.count);
      few = omega (arith, ap length settles.none);
      quiet = λ h. settles.none;
      carried = settles.room ∙ fits.carried;
    })
    (less_whole u.running.stage u'.running.stage (joiner_in l.talk).count (joiner_in l'.talk).count
    (length (held_by r)) (length (held_by r')) (length (pending config l.talk u.running))
    (length (pending config l'.talk u'.running)) settles.fewer (fits.many going) (held_short r (fits.reads going))
    is_clear.count (ap length held)
    (few_pending config l'.talk u'.running settles.none
    (settles.few (size_in l'.talk) (least_size (size_at r') r'.transport.least_size)))) reaches

-- what was allowed before is all that counts
reaches_from : (origin : Origin) (before before' next : Course) (t : Talk) (u : UnderWay)
    → before'.out ≡ before.out → Reaches origin before' next t u → Reaches origin before next t u
reaches_from origin before before' next t u same r = record {
  at = r.at;
  out = r.out ∙ ap (λ o. o ++ pending origin.config t u.running) same;
}

pub consumes_open : (l : Channel) (m : Talk) (l' : Channel) (u u' : UnderWay) (used : List ℕ) (found : Found) (connection : _)
    (config : Config) (granted : Option Grant) → found ≡ finding.Opened connection
    → Fits l u → IsAwaiting u.running.stage → unsent l ≡ [] → ((size : ℕ) → unput_of config size u.running ≡ [])
    → UsesFront l m (unread l') used found → m ≡ record l.talk { reader = m.reader }
    → Settles config m u l'.talk u'
    → ((origin : Origin) (c : Course) → IsAt origin c m u
    → Reaches origin c (asking (conduct_of origin) c) l'.talk u')
    → Consumes l u l' u' config granted
consumes_open l m l' u u' used found connection config granted is fits awaiting sent unput front talk settles
    reaches =
    let reader = settles.reader in
    let r = l.talk.reader in
    let r' = l'.talk.reader in
    let reads' : Reads r r' used found = subst (λ (x : Reader). Reads r x used found) (sym reader) front.reads in
    let turns = subst (λ x. Turns x r r') is reads'.turns in
    let opening = opens_where l u fits awaiting turns.1 in
    let size : size_in m ≡ size_of_code connection.size_code =
    ap size_by (sym reader) ∙ ap (λ o. unwrap_or o 1024) turns.2 in
    consumes_settled l m l' u u' used found config granted fits awaiting sent unput front.some front.earliest
    front.inbox reads' settles turns.0
    (subst IsSome (sym turns.2) refl) (turns.3 ∙ nothing_as r (fits.opening opening)) turns.4
    (λ origin c ec eg at.
    let unfinished = unfinished_in r'.transport.joiner in
    let here : Course = record c { size = size_in m; unfinished = unfinished } in
    let reached = reaches origin here (at_read origin c l.talk m u (size_in m) unfinished at refl
    (ap (λ (t : Talk). t.sequence) talk) (ap (λ (x : Reader). unfinished_in x.transport.joiner) (sym reader))) in
    subst (λ x. Reaches origin c (after_found (conduct_of origin) c x (message_at r') unfinished) l'.talk u') (sym is)
    (subst (λ n. Reaches origin c (asking (conduct_of origin) (record c { size = n; unfinished = unfinished })) l'.talk
    u') size (reaches_from origin c here (asking (conduct_of origin) here) l'.talk u' refl reached)))

pub consumes_message : (l : Channel) (m : Talk) (l' : Channel) (u u' : UnderWay) (used : List ℕ) (found : Found)
    (config : Config) (granted : Option Grant) → found ≡ finding.Message
    → Fits l u → IsAwaiting u.running.stage → unsent l ≡ [] → ((size : ℕ) → unput_of config size u.running ≡ [])
    → UsesFront l m (unread l') used found → m ≡ record l.talk { reader = m.reader }
    → Settles config m u l'.talk u'
    → ((origin : Origin) (c : Course) → origin.config ≡ config → origin.granted ≡ granted → IsAt origin c m u
    → Reaches origin c (with_message (conduct_of origin) c (message_at m.reader)) l'.talk u')
    → Consumes l u l' u' config granted
consumes_message l m l' u u' used found config granted is fits awaiting sent unput front talk settles
    reaches =
    let reader = settles.reader in
    let r = l.talk.reader in
    let r' = l'.talk.reader in
    let reads' : Reads r r' used found = subst (λ (x : Reader). Reads r x used found) (sym reader) front.reads in
    let turns = subst (λ x. Turns x r r') is reads'.turns in
    consumes_settled l m l' u u' used found config granted fits awaiting sent unput front.some front.earliest
    front.inbox reads' settles turns.0
    (subst IsSome (sym turns.2) turns.1) turns.4 turns.5
    (λ origin c ec eg at.
    let unfinished = unfinished_in r'.transport.joiner in
    let here : Course = record c { unfinished = unfinished } in
    let reached = reaches origin here ec eg (at_read origin c l.talk m u c.size unfinished at
    (ap size_by (sym reader) ∙ (ap (λ o. unwrap_or o 1024) turns.2 ∙ at.size)) (ap (λ (t : Talk). t.sequence) talk)
    (ap (λ (x : Reader). unfinished_in x.transport.joiner) (sym reader))) in
    subst (λ x. Reaches origin c (after_found (conduct_of origin) c x (message_at r') unfinished) l'.talk u') (sym is)
    (subst (λ (x : Reader). Reaches origin c (with_message (conduct_of origin) here (message_at x)) l'.talk u')
    (sym reader) (reaches_from origin c here (with_message (conduct_of origin) here (message_at m.reader)) l'.talk
    u' refl reached)))

-- ---- stages

pub left_over : (s : Stage) → LeavesOpen s → IsOver s
left_over stage.Opening h = h
left_over (stage.Asking a) h = h
left_over (stage.Single single) h = h
left_over stage.Leaving h = h
left_over (stage.Over code leaves) h = tt

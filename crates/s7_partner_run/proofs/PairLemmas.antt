-- Two partners over two pipes, turn by turn: each uses what the other transmitted.
use Rattle.std.proofs.Common.{◌≡◌, inl, inr, ℕ, zero, suc, ◌+◌, ◌≤◌, ◌&&◌, Bool, true, false, List, [], ◌∷◌, ◌++◌, length}
use Rattle.std.proofs.Common.{map, not, ◌==◌, eqb-true, if◌then◌else◌, refl, ap, sym, ◌∙◌, subst, append_assoc, append-nil, arith, length-append}
use Rattle.std.specs.Prelude.{Option, None, Some, Ok, Result, unwrap_or}
use Rattle.std.specs.Borrow.{GName}
use Rattle.std.specs.Io.KnownBytes.{prepend_known, append_known}
use Rattle.std.proofs.lemmas.List.{length-map}
use Rattle.s7_memory.specs.PipesHeld.{PipesHeld}
use Rattle.s7_memory.specs.Pipes.{across, waiting_for, end_of}
use Rattle.s7_memory.specs.declared.pipes.Side.TheVariants as side
use Rattle.s7_dialogue.specs.declared.config.Config.{Config}
use Rattle.s7_partner.specs.declared.role.Role.{Role}
use Rattle.s7_partner.specs.declared.role.Role.TheVariants.{Active, Passive}
use Rattle.s7_partner.specs.States.{Act, Parcel, given_in, handed_in}
use Rattle.s7_partner.specs.Held.{unread_of, closed_of}
use Rattle.s7_partner.specs.Pairs.{IsConfig, ArePaired, Delivered, sent_in as ended_in}
use Rattle.s7_partner.proofs.PairLaws.{delivers, sent_handed_out}
use Rattle.s7_script.specs.declared.sends.send_list.SendLine.{SendLine}
use Rattle.s7_partner_run.specs.declared.event.News.{News}
use Rattle.s7_partner_run.specs.declared.event.PairEvent.{PairEvent}
use Rattle.s7_partner_run.specs.Events.{events_of, list_of, is_same, told_by, received_in, sent_in}
use Rattle.s7_partner_run.specs.Talking.{Post, blocks_of, is_sending, is_acknowledged, is_done}
use Rattle.s7_partner_run.specs.Pairs.{State, Turns, TurnsOnce, Rounds, AreFresh, IsRun, PairRan, EndTold, IsDelivered, are_done, with_post}
use Rattle.s7_partner_run.specs.Pairs.{state_told}
use Rattle.s7_partner_run.proofs.SideLemmas.{Side, Turned, turned, fresh_side, side_of, AllSent, all_sent}

-- ---- what each told

if_told : (b : Bool) (n : News) (xs ys zs : List News) → zs ≡ xs ++ ys
    → (if b then n ∷ zs else zs) ≡ (if b then n ∷ xs else xs) ++ ys
if_told true n xs ys zs e = ap (λ ns. n ∷ ns) e
if_told false n xs ys zs e = e

told_by-append : (role : Role) (xs ys : List PairEvent) → told_by role (xs ++ ys) ≡ told_by role xs ++ told_by role ys
told_by-append role [] ys = refl
told_by-append role (x ∷ xs) ys =
    if_told (is_same role x.role) x.news (told_by role xs) (told_by role ys) (told_by role (xs ++ ys))
    (told_by-append role xs ys)

told_own : (role : Role) (o : Option News) → told_by role (events_of role o) ≡ list_of o
told_own role None = refl
told_own Active (Some n) = refl
told_own Passive (Some n) = refl

abbrev other : Role → Role
other Active = Passive
other Passive = Active

told_no_other : (role : Role) (o : Option News) → told_by (other role) (events_of role o) ≡ []
told_no_other role None = refl
told_no_other Active (Some n) = refl
told_no_other Passive (Some n) = refl

now_told : (role : Role) (es : List PairEvent) (o : Option News)
    → told_by role es ++ list_of o ≡ told_by role (es ++ events_of role o)
now_told role es o =
    sym (told_by-append role es (events_of role o) ∙ ap (λ ns. told_by role es ++ ns) (told_own role o))

still_told : (role : Role) (es : List PairEvent) (o : Option News)
    → told_by (other role) es ≡ told_by (other role) (es ++ events_of role o)
still_told role es o =
    sym (told_by-append (other role) es (events_of role o)
    ∙ (ap (λ ns. told_by (other role) es ++ ns) (told_no_other role o) ∙ append-nil (told_by (other role) es)))

-- ---- octets on their way

some_of : (xs ys : List ℕ) → Some xs ≡ Some ys → xs ≡ ys
some_of xs ys e = ap (λ o. unwrap_or o []) e

-- octets that are taken go on to be those that were given
taken_on : (sent used unread waiting received more unread' waiting' : List ℕ)
    → sent ≡ used ++ (unread ++ waiting) → waiting ≡ received ++ waiting' → unread ++ received ≡ more ++ unread'
    → sent ≡ (used ++ more) ++ (unread' ++ waiting')
taken_on sent used unread waiting received more unread' waiting' so took inbox =
    so
    ∙ (ap (λ x. used ++ (unread ++ x)) took
    ∙ (ap (λ x. used ++ x)
    (sym (append_assoc unread received waiting')
    ∙ (ap (λ x. x ++ waiting') inbox ∙ append_assoc more unread' waiting'))
    ∙ sym (append_assoc used more (unread' ++ waiting'))))

given_on : (sent used unread waiting more waiting' : List ℕ)
    → sent ≡ used ++ (unread ++ waiting) → waiting' ≡ waiting ++ more → sent ++ more ≡ used ++ (unread ++ waiting')
given_on sent used unread waiting more waiting' so wrote =
    ap (λ x. x ++ more) so
    ∙ (append_assoc used (unread ++ waiting) more
    ∙ ap (λ x. used ++ x) (append_assoc unread waiting more ∙ ap (λ x. unread ++ x) (sym wrote)))

-- ---- a pair

-- a state behind a turn and its news
told_after : (role : Role) (old new : State) (t : TurnsOnce role old new)
    → new ≡ record (with_post role old t.takes.post) {
      pipes = t.takes.pipes;
      events = old.events ++ events_of role t.news;
    }
told_after Active old new t =
    t.same ∙ ap (λ (m : State). record m { events = m.events ++ events_of Active t.news }) t.takes.same
told_after Passive old new t =
    t.same ∙ ap (λ (m : State). record m { events = m.events ++ events_of Passive t.news }) t.takes.same

module _ (config : Config) (one others : List SendLine) where
  pub record Holds (s : State) : Type 0 where
    pub acts : List Act
    pub acts' : List Act
    pub used : List ℕ
    pub used' : List ℕ
    pub written : List ℕ
    pub written' : List ℕ
    pub active : Side Active config (blocks_of one) (told_by Active s.events) s.active acts used written
    pub passive : Side Passive config (blocks_of others) (told_by Passive s.events) s.passive acts' used' written'
    pub there : written ≡ used' ++ (unread_of s.passive.partner ++ s.pipes.to_server)
    pub back : written' ≡ used ++ (unread_of s.active.partner ++ s.pipes.to_client)

  turn_of_active : (old new : State) → Holds old → TurnsOnce Active old new → Holds new
  turn_of_active old new h t =
      let k = t.takes in
      let u = turned Active config (blocks_of one) (told_by Active old.events) old.active _ k.post _ h.acts h.used h.written
      t.news h.active k.turn.turn in
      subst Holds (sym (told_after Active old new t)) (record {
        acts = h.acts ++ u.further;
        acts' = h.acts';
        used = h.used ++ u.more_used;
        used' = h.used';
        written = h.written ++ u.more_written;
        written' = h.written';
        active =
            subst
            (λ ns. Side Active config (blocks_of one) ns k.post (h.acts ++ u.further) (h.used ++ u.more_used)
            (h.written ++ u.more_written))
            (now_told Active old.events t.news) u.side;
        passive =
            subst (λ ns. Side Passive config (blocks_of others) ns old.passive h.acts' h.used' h.written')
            (still_told Active old.events t.news) h.passive;
        there = given_on h.written h.used' (unread_of old.passive.partner) old.pipes.to_server u.more_written
            k.pipes.to_server h.there (some_of _ _ u.wrote);
        back = taken_on h.written' h.used (unread_of old.active.partner) old.pipes.to_client u.received u.more_used
            (unread_of k.post.partner) k.pipes.to_client h.back (some_of _ _ u.took) u.inbox;
      })

  turn_of_passive : (old new : State) → Holds old → TurnsOnce Passive old new → Holds new
  turn_of_passive old new h t =
      let k = t.takes in
      let u = turned Passive config (blocks_of others) (told_by Passive old.events) old.passive _ k.post _ h.acts' h.used'
      h.written' t.news h.passive k.turn.turn in
      subst Holds (sym (told_after Passive old new t)) (record {
        acts = h.acts;
        acts' = h.acts' ++ u.further;
        used = h.used;
        used' = h.used' ++ u.more_used;
        written = h.written;
        written' = h.written' ++ u.more_written;
        active =
            subst (λ ns. Side Active config (blocks_of one) ns old.active h.acts h.used h.written)
            (still_told Passive old.events t.news) h.active;
        passive =
            subst
            (λ ns. Side Passive config (blocks_of others) ns k.post (h.acts' ++ u.further) (h.used' ++ u.more_used)
            (h.written' ++ u.more_written))
            (now_told Passive old.events t.news) u.side;
        there = taken_on h.written h.used' (unread_of old.passive.partner) old.pipes.to_server u.received u.more_used
            (unread_of k.post.partner) k.pipes.to_server h.there (some_of _ _ u.took) u.inbox;
        back = given_on h.written' h.used (unread_of old.active.partner) old.pipes.to_client u.more_written
            k.pipes.to_client h.back (some_of _ _ u.wrote);
      })

  turn_holds : (role : Role) (old new : State) → Holds old → TurnsOnce role old new → Holds new
  turn_holds Active old new h t = turn_of_active old new h t
  turn_holds Passive old new h t = turn_of_passive old new h t

  turns_hold : (roles : List Role) (old new : State) → Holds old → Turns roles old new → Holds new
  unfolding Turns
  turns_hold [] old new h t = subst Holds (sym t) h
  turns_hold (role ∷ roles) old new h t = turns_hold roles t.0 new (turn_holds role old t.0 h t.1) t.2

  rounds_hold : (most : ℕ) (old new : State) → Holds old → Rounds most old new → Holds new
  unfolding Rounds
  rounds_hold zero old new h r = subst Holds (sym r) h
  rounds_hold (suc more) old new h (inl r) = subst Holds (sym r.1) h
  rounds_hold (suc more) old new h (inr r) =
      rounds_hold more r.1 new (turns_hold (Active ∷ Passive ∷ []) old r.1 h r.2) r.3

  run_holds : (seed steps : ℕ) (old new : State) → Holds old → IsRun seed steps old new → Holds new
  run_holds seed steps old new h r =
      rounds_hold 16777216 r.middle new (turns_hold _ old r.middle h r.turned) r.rounds

  begins : (s : State) → AreFresh config one others s → Holds s
  begins s f = record {
    acts = [];
    acts' = [];
    used = [];
    used' = [];
    written = [];
    written' = [];
    active =
        subst (λ es. Side Active config (blocks_of one) (told_by Active es) s.active [] [] []) (sym f.events)
        (fresh_side Active config one s.active f.active);
    passive =
        subst (λ es. Side Passive config (blocks_of others) (told_by Passive es) s.passive [] [] []) (sym f.events)
        (fresh_side Passive config others s.passive f.passive);
    there =
        sym (ap (λ x. x ++ s.pipes.to_server) f.passive.partner.unread ∙ ap (λ (p : PipesHeld). p.to_server) f.pipes);
    back = sym (ap (λ x. x ++ s.pipes.to_client) f.active.partner.unread ∙ ap (λ (p : PipesHeld). p.to_client) f.pipes);
  }

  -- ---- what comes of it

  both_of : (a b : Bool) → (a && b) ≡ true → (a ≡ true) × (b ≡ true)
  both_of true true e = (refl, refl)
  both_of true false e = absurd (cc)
  both_of false b e = absurd (cc)

  zero_of : (n : ℕ) → (n == 0) ≡ true → n ≡ 0
  zero_of n e = eqb-true n 0 e

  not_true : (b : Bool) → not b ≡ true → b ≡ false
  not_true true e = absurd (cc)
  not_true false e = refl

  -- a partner that is done was given all its blocks and told each as sent
  done_all : (role : Role) (blocks : List Parcel) (ns : List News) (p : Post) (acts : List Act) (used written : List ℕ)
      → Side role config blocks ns p acts used written → is_done p ≡ true → AllSent role config blocks ns acts
  done_all role blocks ns p acts used written h done =
      let d = both_of p.is_idle (is_acknowledged p) done in
      let a = both_of _ _ d.1 in
      all_sent role config blocks ns p acts used written h (h.idle d.0) (not_true _ a.1) (zero_of _ a.0)

  -- a front that is as long as the whole is the whole
  whole_front : (given handed : List Parcel) → Delivered given handed → length given ≤ length handed → handed ≡ given
  whole_front given handed d long = by_rest d.0 d.1
    where
      by_rest : (rest : List Parcel) → given ≡ handed ++ rest → handed ≡ given
      by_rest [] e = sym (append-nil handed) ∙ sym e
      by_rest (x ∷ rest) e =
          let n = ap length e in
          let m = length-append handed (x ∷ rest) in
          absurd (omega (arith, n, m, long))

  delivered : (sender receiver : Role) (sends : List SendLine) (end : EndTold) (given handed : List Parcel) (count : ℕ)
      (rest : List Parcel)
      → Delivered given handed → count ≤ length handed
      → blocks_of sends ≡ given ++ rest
      → received_in (told_by receiver end.events) ≡ handed → sent_in (told_by sender end.events) ≡ count
      → (end.is_done ≡ true → (blocks_of sends ≡ given) × (count ≡ length (blocks_of sends)))
      → IsDelivered sends end sender receiver
  delivered sender receiver sends end given handed count rest d few blocks came told all = record {
    front = (
      d.0 ++ rest,
      blocks
          ∙ (ap (λ x. x ++ rest) d.1
          ∙ (append_assoc handed d.0 rest ∙ ap (λ x. x ++ (d.0 ++ rest)) (sym came))),
    );
    sent = subst (λ n. n ≤ length (received_in (told_by receiver end.events))) (sym told)
        (subst (λ (x : List Parcel). count ≤ length x) (sym came) few);
    all = λ done.
        let a = all done in
        let long : length given ≤ length handed = let n = ap length a.0 in let m = a.1 in omega (arith, n, m, few) in
        came ∙ (whole_front given handed d long ∙ sym a.0);
    all_sent = λ done. told ∙ ((all done).1 ∙ length-map sends _);
  }

  pub pair_ran : IsConfig config → (seed steps : ℕ) (end : EndTold) (start last : State) → AreFresh config one others start
      → IsRun seed steps start last → end ≡ state_told last → PairRan config one others seed steps end
  pair_ran is_config seed steps end start last fresh run ends =
      subst (PairRan config one others seed steps) (sym ends) (ran_to)
    where
      ran_to : PairRan config one others seed steps (state_told last)
      ran_to =
          let h = run_holds seed steps start last (begins start fresh) run in
          let pair : ArePaired config config h.acts h.acts' h.used h.used' h.written h.written' = record {
            one = is_config;
            other = is_config;
            active = h.active.course;
            passive = h.passive.course;
            to_passive = (unread_of last.passive.partner ++ last.pipes.to_server, h.there);
            to_active = (unread_of last.active.partner ++ last.pipes.to_client, h.back);
          } in
          let d = delivers config config h.acts h.acts' h.used h.used' h.written h.written' pair in
          let s = sent_handed_out config config h.acts h.acts' h.used h.used' h.written h.written' pair in
          record {
            start = start;
            last = last;
            fresh = fresh;
            run = run;
            ends = refl;
            active = side_of Active config (blocks_of one) (told_by Active last.events) last.active h.acts h.used h.written h.active;
            passive = side_of Passive config (blocks_of others) (told_by Passive last.events) last.passive h.acts' h.used' h.written' h.passive;
            paired = pair;
            there = delivered Active Passive one (state_told last) (given_in h.acts) (handed_in Passive config h.acts')
                (ended_in Active config h.acts) (blocks_of last.active.rest) d.0 s.0 h.active.given h.passive.received
                h.active.sent
                (λ done.
                let a = done_all Active (blocks_of one) (told_by Active last.events) last.active h.acts h.used h.written h.active
                (both_of (is_done last.active) (is_done last.passive) done).0 in
                (a.given, sym h.active.sent ∙ a.sent));
            back = delivered Passive Active others (state_told last) (given_in h.acts') (handed_in Active config h.acts)
                (ended_in Passive config h.acts') (blocks_of last.passive.rest) d.1 s.1 h.passive.given h.active.received
                h.passive.sent
                (λ done.
                let a = done_all Passive (blocks_of others) (told_by Passive last.events) last.passive h.acts' h.used' h.written' h.passive
                (both_of (is_done last.active) (is_done last.passive) done).1 in
                (a.given, sym h.passive.sent ∙ a.sent));
          }

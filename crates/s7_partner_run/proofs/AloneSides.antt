-- What one partner came to over a link, turn by turn.
use Rattle.std.proofs.Common.{◌≡◌, inl, inr, ℕ, zero, suc, ◌&&◌, not, Bool, true, false, List, [], ◌∷◌, ◌++◌, length, refl, ap}
use Rattle.std.proofs.Common.{sym, ◌∙◌, subst, append_assoc, append-nil, eqb-true, ◌==◌}
use Rattle.std.specs.Prelude.{Option, None, Some, Result, Ok, Err, is_none, ◌||◌}
use Rattle.s7_outer.specs.declared.memory.Memory.{Memory}
use Rattle.std.specs.Io.KnownBytes.{prepend_known, append_known}
use Rattle.std.proofs.lemmas.List.{length-map}
use Rattle.s7_outer.specs.Shown.{Shown}
use Rattle.s7_dialogue.specs.declared.config.Config.{Config}
use Rattle.s7_client.proofs.LinkLemmas.{prepend_none, append_none}
use Rattle.s7_partner.specs.declared.role.Role.{Role}
use Rattle.s7_partner.specs.States.{Act, Parcel}
use Rattle.s7_partner.specs.declared.event.PartnerEvent.{PartnerEvent}
use Rattle.s7_partner.specs.declared.event.PartnerEvent.TheVariants as told
use Rattle.s7_partner.specs.Calls.{closed_by}
use Rattle.s7_partner.specs.Held.{unread_of, closed_of}
use Rattle.s7_script.specs.declared.sends.send_list.SendLine.{SendLine}
use Rattle.s7_partner_run.specs.declared.event.News.{News}
use Rattle.s7_partner_run.specs.declared.event.News.TheVariants as told_news
use Rattle.s7_partner_run.specs.Events.{list_of, news_by, sent_in}
use Rattle.s7_partner_run.specs.Talking.{Post, IsFresh, blocks_of, is_acknowledged, is_closed, is_over, is_sending, IsTurn, Goes}
use Rattle.s7_partner_run.specs.Alone.{EndsClosed, IsSideOver, has_sent_all}
use Rattle.s7_partner_run.proofs.TalkLemmas.{append_twice, prepend_twice}
use Rattle.s7_partner_run.proofs.SideLemmas.{Side, Turned, turned, fresh_side, side_of, all_sent, open_of}

module _ (role : Role) (config : Config) (blocks : List Parcel) where
  -- what turns moved, and what the partner came to
  record Went (told : List News) (old : Post) (link : Shown) (new : Post) (link' : Shown) (news : List News)
      (used written : List ℕ) : Type 0 where
    acts : List Act
    received : List ℕ
    more_used : List ℕ
    more_written : List ℕ
    took : link.left ≡ prepend_known received link'.left
    wrote : link'.written ≡ append_known link.written more_written
    inbox : unread_of old.partner ++ received ≡ more_used ++ unread_of new.partner
    side : Side role config blocks (told ++ news) new acts (used ++ more_used) (written ++ more_written)

  went_nowhere : (told news : List News) (old new : Post) (link link' : Shown) (acts : List Act) (used written : List ℕ)
      → Side role config blocks told old acts used written → new ≡ old → link' ≡ link → news ≡ []
      → Went told old link new link' news used written
  went_nowhere told news old new link link' acts used written h same same_link none =
      subst (λ (x : Post). Went told old link x link' news used written) (sym same)
      (subst (λ (x : Shown). Went told old link old x news used written) (sym same_link)
      (subst (λ ns. Went told old link old link ns used written) (sym none) (record {
        acts = acts;
        received = [];
        more_used = [];
        more_written = [];
        took = prepend_none link.left;
        wrote = append_none link.written;
        inbox = append-nil (unread_of old.partner);
        side = subst (λ ns. Side role config blocks ns old acts (used ++ []) (written ++ [])) (sym (append-nil told))
            (subst (λ xs. Side role config blocks told old acts xs (written ++ [])) (sym (append-nil used))
            (subst (λ xs. Side role config blocks told old acts used xs) (sym (append-nil written)) h));
      })))

  joined : (a r s b c d e : List ℕ) → a ++ r ≡ b ++ c → c ++ s ≡ d ++ e → a ++ (r ++ s) ≡ (b ++ d) ++ e
  joined a r s b c d e one two =
      sym (append_assoc a r s)
      ∙ (ap (λ x. x ++ s) one
      ∙ (append_assoc b c s ∙ (ap (λ x. b ++ x) two ∙ sym (append_assoc b d e))))

  went_on : (told : List News) (first later : List News) (old middle new : Post) (link link'' link' : Shown)
      (acts : List Act) (used written : List ℕ)
      → (t : Turned role config blocks told old link middle link'' first acts used written)
      → Went (told ++ first) middle link'' new link' later (used ++ t.more_used) (written ++ t.more_written)
      → Went told old link new link' (first ++ later) used written
  went_on told first later old middle new link link'' link' acts used written t w = record {
    acts = w.acts;
    received = t.received ++ w.received;
    more_used = t.more_used ++ w.more_used;
    more_written = t.more_written ++ w.more_written;
    took = t.took ∙ (ap (prepend_known t.received) w.took ∙ prepend_twice t.received w.received link'.left);
    wrote =
        w.wrote
        ∙ (ap (λ x. append_known x w.more_written) t.wrote ∙ append_twice link.written t.more_written w.more_written);
    inbox = joined (unread_of old.partner) t.received w.received t.more_used (unread_of middle.partner) w.more_used
        (unread_of new.partner) t.inbox w.inbox;
    side =
        subst
        (λ ns. Side role config blocks ns new w.acts (used ++ (t.more_used ++ w.more_used))
        (written ++ (t.more_written ++ w.more_written)))
        (append_assoc told first later)
        (subst
        (λ xs. Side role config blocks ((told ++ first) ++ later) new w.acts xs
        (written ++ (t.more_written ++ w.more_written)))
        (append_assoc used t.more_used w.more_used)
        (subst
        (λ xs. Side role config blocks ((told ++ first) ++ later) new w.acts ((used ++ t.more_used) ++ w.more_used) xs)
        (append_assoc written t.more_written w.more_written) w.side));
  }

  goes_side : (most : ℕ) (told news : List News) (old new : Post) (link link' : Shown) (acts : List Act)
      (used written : List ℕ) → Side role config blocks told old acts used written → Goes most old link new link' news
      → Went told old link new link' news used written
  unfolding Goes
  goes_side zero told news old new link link' acts used written h g =
      went_nowhere told news old new link link' acts used written h g.0 g.1 g.2
  goes_side (suc more) told news old new link link' acts used written h (inl g) =
      went_nowhere told news old new link link' acts used written h g.1 g.2 g.3
  goes_side (suc more) told news old new link link' acts used written h (inr g) =
      let t = turned role config blocks told old link g.1 g.2 acts used written g.3 h g.5 in
      subst (λ ns. Went told old link new link' ns used written) (sym g.7)
      (went_on told (list_of g.3) g.4 old g.1 new link g.2 link' acts used written t
      (goes_side more (told ++ list_of g.3) g.4 g.1 new g.2 link' (acts ++ t.further) (used ++ t.more_used)
      (written ++ t.more_written) t.side g.6))

both_are : (a b : Bool) → (a && b) ≡ true → (a ≡ true) × (b ≡ true)
both_are true true e = (refl, refl)
both_are true false e = absurd (cc)
both_are false b e = absurd (cc)

is_not : (b : Bool) → not b ≡ true → b ≡ false
is_not true e = absurd (cc)
is_not false e = refl

-- ---- why it closed

-- a turn that closes it tells so
none_closed : (p : Post) → is_closed p ≡ true → closed_of p.partner ≡ None → ⊥
none_closed p c e = let f : false ≡ true = sym (ap (λ o. not (is_none o)) e) ∙ c in cc

closed_is_over : (p : Post) → is_closed p ≡ true → is_over p ≡ false → ⊥
closed_is_over p c e = both (is_closed p) (is_acknowledged p) c e
  where
    both : (a b : Bool) → a ≡ true → (a || b) ≡ false → ⊥
    both true b c e = cc
    both false b c e = cc

record Closing (new : Post) (o : Option News) : Type 0 where
  code : ℕ
  closed : closed_of new.partner ≡ Some code
  told_is : o ≡ Some (told_news.Closed code)

closing_by : (new : Post) (o : Option News) (r : Result PartnerEvent Memory) → is_closed new ≡ true
    → closed_of new.partner ≡ closed_by r → Ok o ≡ news_by r → Closing new o
closing_by new o (Ok (told.Closed code)) c is e =
    record { code = code; closed = is; told_is = ok_same o (Some (told_news.Closed code)) e }
  where
    ok_same : (x y : Option News) → ◌≡◌ {A = Result (Option News) Memory} (Ok x) (Ok y) → x ≡ y
    ok_same x y e = cc
closing_by new o (Ok told.Sent) c is e = absurd (none_closed new c is)
closing_by new o (Ok (told.Received rid body)) c is e = absurd (none_closed new c is)
closing_by new o (Ok told.Pending) c is e = absurd (none_closed new c is)
closing_by new o (Ok told.Idle) c is e = absurd (none_closed new c is)
closing_by new o (Err memory) c is e = absurd (none_closed new c is)

turn_closes : (old new : Post) (link link' : Shown) (o : Option News) → is_closed old ≡ false → is_closed new ≡ true
    → IsTurn old link new link' (Ok o) → Closing new o
turn_closes old new link link' o opened c (inl t) =
    closing_by new o t.polls.told c
    (ap (λ (p : Post). closed_of p.partner) t.polls.same ∙ t.polls.poll.closed) t.polls.news
turn_closes old new link link' o opened c (inr t) = absurd (let e = sym opened ∙ t.closed in cc)

-- and nothing follows
nothing_follows : (most : ℕ) (p new : Post) (link link' : Shown) (later : List News) → is_closed p ≡ true
    → Goes most p link new link' later → (new ≡ p) × (later ≡ [])
unfolding Goes
nothing_follows zero p new link link' later c g = (g.0, g.2)
nothing_follows (suc more) p new link link' later c (inl g) = (g.1, g.3)
nothing_follows (suc more) p new link link' later c (inr g) = absurd (closed_is_over p c g.0)

closes_by : (b : Bool) (more : ℕ) (old middle new : Post) (link link'' link' : Shown) (o : Option News)
    (later : List News) → is_closed middle ≡ b → is_closed old ≡ false → is_closed new ≡ true
    → IsTurn old link middle link'' (Ok o) → Goes more middle link'' new link' later
    → (is_closed middle ≡ false → EndsClosed new later) → EndsClosed new (list_of o ++ later)
closes_by true more old middle new link link'' link' o later is opened c t g rest =
    let k = turn_closes old middle link link'' o opened is t in
    let n = nothing_follows more middle new link'' link' later is g in
    record {
      front = [];
      code = k.code;
      closed = ap (λ (p : Post). closed_of p.partner) n.0 ∙ k.closed;
      last = ap (λ ns. list_of o ++ ns) n.1 ∙ (append-nil (list_of o) ∙ ap list_of k.told_is);
    }
closes_by false more old middle new link link'' link' o later is opened c t g rest =
    let r = rest is in
    record {
      front = list_of o ++ r.front;
      code = r.code;
      closed = r.closed;
      last = ap (λ ns. list_of o ++ ns) r.last
          ∙ sym (append_assoc (list_of o) r.front (told_news.Closed r.code ∷ []));
    }

closes_last : (most : ℕ) (old new : Post) (link link' : Shown) (ns : List News) → is_closed old ≡ false
    → is_closed new ≡ true → Goes most old link new link' ns → EndsClosed new ns
unfolding Goes
closes_last zero old new link link' ns opened c g =
    absurd (let e = sym opened ∙ (ap is_closed (sym g.0) ∙ c) in cc)
closes_last (suc more) old new link link' ns opened c (inl g) =
    absurd (let e = sym opened ∙ (ap is_closed (sym g.1) ∙ c) in cc)
closes_last (suc more) old new link link' ns opened c (inr g) =
    subst (EndsClosed new) (sym g.7)
    (closes_by (is_closed g.1) more old g.1 new link g.2 link' g.3 g.4 refl opened c g.5 g.6
    (λ still. closes_last more g.1 new g.2 link' g.4 still c g.6))

fresh_open : {role : Role} {config : Config} {sends : List SendLine} (p : Post) → IsFresh role config sends p
    → is_closed p ≡ false
fresh_open p f = ap (λ o. not (is_none o)) f.partner.stands.opened

-- what it came to, and that all was told as sent where all was acknowledged
pub record Came (role : Role) (config : Config) (sends : List SendLine) (link link' : Shown) (new : Post)
    (news : List News) : Type 0 where
  pub over : IsSideOver role config sends link link' news
  pub all : has_sent_all new ≡ true → sent_in news ≡ length sends
  pub closes : is_closed new ≡ true → EndsClosed new news

pub came_to : (role : Role) (config : Config) (sends : List SendLine) (most : ℕ) (old new : Post) (link link' : Shown)
    (news : List News) → IsFresh role config sends old → Goes most old link new link' news
    → Came role config sends link link' new news
came_to role config sends most old new link link' news fresh g =
    let w = goes_side role config (blocks_of sends) most [] news old new link link' [] [] []
    (fresh_side role config sends old fresh) g in
    record {
      over = record {
        side = side_of role config (blocks_of sends) news new w.acts w.more_used w.more_written w.side;
        kept = unread_of new.partner;
        took =
            w.took
            ∙ ap (λ x. prepend_known x link'.left)
            (sym (ap (λ x. x ++ w.received) fresh.partner.unread) ∙ w.inbox);
        wrote = w.wrote;
      };
      all = λ sent.
          let b = both_are (is_acknowledged new) (not (is_closed new)) sent in
          let a = both_are (length new.rest == 0) (not (is_sending new)) b.0 in
          let all = all_sent role config (blocks_of sends) news new w.acts w.more_used w.more_written w.side
          (open_of new (is_not (is_closed new) b.1)) (is_not (is_sending new) a.1) (eqb-true (length new.rest) 0 a.0) in
          all.sent ∙ length-map sends _;
      closes = λ c. closes_last most old new link link' news (fresh_open old fresh) c g;
    }

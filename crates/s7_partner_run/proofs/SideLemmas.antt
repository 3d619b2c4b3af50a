-- What one partner came to, turn by turn.
use Rattle.std.proofs.Common.{◌≡◌, ◌⊎◌, inl, inr, ℕ, ◌+◌, not, Bool, true, false, List, [], ◌∷◌, ◌++◌, length, map, refl}
use Rattle.std.proofs.Common.{ap, sym, ◌∙◌, subst, append_assoc, append-nil, arith, length-append}
use Rattle.std.specs.Prelude.{Option, None, Some, Result, Ok, Err, option_map, is_none}
use Rattle.std.specs.Io.KnownBytes.{prepend_known, append_known}
use Rattle.std.proofs.lemmas.List.{length-map}
use Rattle.s7_outer.specs.Shown.{Shown}
use Rattle.s7_outer.specs.declared.memory.Memory.{Memory}
use Rattle.s7_dialogue.specs.declared.config.Config.{Config}
use Rattle.s7_client.proofs.LinkLemmas.{prepend_none, append_none}
use Rattle.s7_partner.specs.declared.role.Role.{Role}
use Rattle.s7_partner.specs.declared.event.PartnerEvent.{PartnerEvent}
use Rattle.s7_partner.specs.declared.event.PartnerEvent.TheVariants as told
use Rattle.s7_partner.specs.declared.partner.Partner.{Partner}
use Rattle.s7_partner.specs.States.{State, Act, gives, Parcel, start, with_acts, after, given_in, handed_in, handed_from}
use Rattle.s7_partner.specs.States.{is_sending as sends}
use Rattle.s7_partner.specs.Partners.{Course}
use Rattle.s7_partner.specs.Pairs.{sends_ended, sent_in as ended_in}
use Rattle.s7_partner.proofs.CountedLemmas.{pending, acts_count}
use Rattle.s7_partner.specs.Held.{role_of, config_of, unread_of, closed_of, sending_of, StandsFor}
use Rattle.s7_partner.specs.Calls.{IsNew, IsGiven, IsPolled, IsPoll, IsClosing, closed_by}
use Rattle.s7_script.specs.declared.sends.send_list.SendLine.{SendLine}
use Rattle.s7_partner_run.specs.declared.event.News.{News}
use Rattle.s7_partner_run.specs.Events.{news_of, news_by, is_idle_by, list_of, received_by, received_in, sent_by, sent_in}
use Rattle.s7_partner_run.specs.Talking.{Post, IsFresh, block_of, blocks_of, is_sending, is_closed, is_done, GivesNext, GivesNone}
use Rattle.s7_partner_run.specs.Talking.{PollsOnce, Talks, IsStill, IsTurn}
use Rattle.s7_partner_run.specs.Sides.{IsSide}
use Rattle.s7_partner_run.proofs.ActLemmas.{Adds, told_adds, given_in-append, handed_from-append, sends_ended-append}

-- ---- lists of news

pub received_in-append : (xs ys : List News) → received_in (xs ++ ys) ≡ received_in xs ++ received_in ys
received_in-append [] ys = refl
received_in-append (x ∷ xs) ys =
    ap (λ e. received_by x ++ e) (received_in-append xs ys)
    ∙ sym (append_assoc (received_by x) (received_in xs) (received_in ys))

pub sent_in-append : (xs ys : List News) → sent_in (xs ++ ys) ≡ sent_in xs + sent_in ys
sent_in-append [] ys = omega arith
sent_in-append (x ∷ xs) ys =
    let h = sent_in-append xs ys in
    omega (arith, h)

-- ---- a partner by its acts

-- It was given the blocks but for those left, it told what it handed out and ended, and it stands for its acts and
-- octets where it isn't closed.
pub record Side (role : Role) (config : Config) (blocks : List Parcel) (news : List News) (p : Post) (acts : List Act)
    (used written : List ℕ) : Type 0 where
  pub course : Course role config acts used written
  pub given : blocks ≡ given_in acts ++ blocks_of p.rest
  pub received : received_in news ≡ handed_in role config acts
  pub sent : sent_in news ≡ ended_in role config acts
  pub role_is : role_of p.partner ≡ role
  pub config_is : config_of p.partner ≡ config
  pub stands : closed_of p.partner ≡ None → StandsFor p.partner acts used written
  pub idle : p.is_idle ≡ true → closed_of p.partner ≡ None

course_of : (role : Role) (config : Config) (p : Partner) (acts : List Act) (used written : List ℕ)
    → role_of p ≡ role → config_of p ≡ config → StandsFor p acts used written → Course role config acts used written
course_of role config p acts used written r c s =
    subst (λ (x : Role). Course x config acts used written) r
    (subst (λ (x : Config). Course (role_of p) x acts used written) c s.course)

pub fresh_side : (role : Role) (config : Config) (sends : List SendLine) (p : Post) → IsFresh role config sends p
    → Side role config (blocks_of sends) [] p [] [] []
fresh_side role config sends p f = record {
  course = course_of role config p.partner [] [] [] f.partner.plays f.partner.configured f.partner.stands;
  given = ap blocks_of (sym f.rest);
  received = refl;
  sent = refl;
  role_is = f.partner.plays;
  config_is = f.partner.configured;
  stands = λ opened. f.partner.stands;
  idle = λ e. absurd (let h = sym f.waits ∙ e in cc);
}

is_open : (o : Option ℕ) → not (is_none o) ≡ false → o ≡ None
is_open None e = refl
is_open (Some code) e = absurd (cc)

pub open_of : (p : Post) → is_closed p ≡ false → closed_of p.partner ≡ None
open_of p e = is_open (closed_of p.partner) e

module _ (role : Role) (config : Config) (blocks : List Parcel) where
  -- ---- a block is given

  given_ends : (s : State) (rid : ℕ) (body : List ℕ) → sends s ≡ false
      → sends_ended role config s (gives rid body ∷ []) ≡ 0
  given_ends s rid body e = rw e refl

  idle_state : (p : Partner) (acts : List Act) (used written : List ℕ) → role_of p ≡ role → config_of p ≡ config
      → StandsFor p acts used written → sending_of p ≡ None → sends (after role config acts) ≡ false
  idle_state p acts used written r c s e =
      let h : (after (role_of p) (config_of p) acts).sending ≡ None = sym s.holds.sending ∙ e in
      subst (λ (x : Role). sends (after x config acts) ≡ false) r
      (subst (λ (x : Config). sends (after (role_of p) x acts) ≡ false) c (ap (λ o. not (is_none o)) h))

  -- what a turn gives, if anything
  record Given (news : List News) (old new : Post) (acts : List Act) (used written : List ℕ) : Type 0 where
    further : List Act
    side : Side role config blocks news new (acts ++ further) used written
    unread : unread_of new.partner ≡ unread_of old.partner
    opened : closed_of new.partner ≡ None

  next_given : (news : List News) (old new : Post) (acts : List Act) (used written : List ℕ)
      → Side role config blocks news old acts used written → closed_of old.partner ≡ None → GivesNext old new
      → Given news old new acts used written
  next_given news old new acts used written h opened g =
      let s = h.stands opened in
      let act = gives g.line.rid g.line.body in
      let now = g.given.stands acts used written s in
      let at = after role config acts in
      let none = idle_state old.partner acts used written h.role_is h.config_is s g.given.idle in
      let plays = g.given.role ∙ h.role_is in
      let configured = g.given.config ∙ h.config_is in
      subst (λ (p : Post). Given news old p acts used written) (sym g.same) (record {
        further = act ∷ [];
        side = record {
          course = course_of role config g.partner (acts ++ act ∷ []) used written plays configured now;
          given =
              h.given
              ∙ (ap (λ (ls : List SendLine). given_in acts ++ blocks_of ls) g.left
              ∙ (sym (append_assoc (given_in acts) (block_of g.line ∷ []) (blocks_of g.rest))
              ∙ ap (λ e. e ++ blocks_of g.rest) (sym (given_in-append acts (act ∷ [])))));
          received =
              h.received
              ∙ (sym (append-nil (handed_in role config acts))
              ∙ sym (handed_from-append role config (start role config) acts (act ∷ [])));
          sent =
              let e = sends_ended-append role config (start role config) acts (act ∷ []) in
              let z = given_ends at g.line.rid g.line.body none in
              let was = h.sent in
              omega (arith, e, z, was);
          role_is = plays;
          config_is = configured;
          stands = λ o. now;
          idle = λ o. now.opened;
        };
        unread = g.given.unread;
        opened = now.opened;
      })

  none_given : (news : List News) (old new : Post) (acts : List Act) (used written : List ℕ)
      → Side role config blocks news old acts used written → closed_of old.partner ≡ None → GivesNone old new
      → Given news old new acts used written
  none_given news old new acts used written h opened g =
      subst (λ (p : Post). Given news old p acts used written) (sym g.same) (record {
        further = [];
        side = subst (λ xs. Side role config blocks news old xs used written) (sym (append-nil acts)) h;
        unread = refl;
        opened = opened;
      })

  if_given : (news : List News) (old new : Post) (acts : List Act) (used written : List ℕ)
      → Side role config blocks news old acts used written → closed_of old.partner ≡ None
      → GivesNext old new ⊎ GivesNone old new → Given news old new acts used written
  if_given news old new acts used written h opened (inl g) = next_given news old new acts used written h opened g
  if_given news old new acts used written h opened (inr g) = none_given news old new acts used written h opened g

  -- ---- a turn

  -- what it moves, and what the partner comes to
  pub record Turned (news : List News) (old : Post) (link : Shown) (new : Post) (link' : Shown) (told : List News)
      (acts : List Act) (used written : List ℕ) : Type 0 where
    pub further : List Act
    pub received : List ℕ
    pub more_used : List ℕ
    pub more_written : List ℕ
    pub took : link.left ≡ prepend_known received link'.left
    pub wrote : link'.written ≡ append_known link.written more_written
    pub inbox : unread_of old.partner ++ received ≡ more_used ++ unread_of new.partner
    pub side : Side role config blocks (news ++ told) new (acts ++ further) (used ++ more_used) (written ++ more_written)

  -- an event that doesn't close leaves a partner that stands for its octets
  not_closing : (event : PartnerEvent) → closed_by (Ok event) ≡ None → IsClosing (Ok event) → ⊥
  not_closing told.Sent e h = h
  not_closing (told.Received rid body) e h = h
  not_closing told.Pending e h = h
  not_closing told.Idle e h = h
  not_closing (told.Closed code) e h = absurd (cc)

  idle_open : (event : PartnerEvent) → is_idle_by (Ok event) ≡ true → closed_by (Ok event) ≡ None
  idle_open told.Sent e = refl
  idle_open (told.Received rid body) e = refl
  idle_open told.Pending e = refl
  idle_open told.Idle e = refl
  idle_open (told.Closed code) e = absurd (cc)

  -- a poll's course and its telling, by the partner's own role and configuration
  polled_with : {r : Role} {c : Config} (a : Role) (b : Config) (P : Role → Config → Type 0) → r ≡ a → c ≡ b → P r c → P a b
  polled_with {r} {c} a b P e f h = subst (λ (x : Role). P x b) e (subst (λ (x : Config). P r x) f h)

  polled_side : (news : List News) (old : Post) (link : Shown) (new : Post) (link' : Shown) (acts : List Act)
      (used written : List ℕ) (event : PartnerEvent) (partner : Partner)
      → Side role config blocks news old acts used written → closed_of old.partner ≡ None
      → IsPoll old.partner link partner link' (Ok event)
      → new ≡ record old { partner = partner; is_idle = is_idle_by (Ok event) }
      → Turned news old link new link' (list_of (news_of event)) acts used written
  polled_side news old link new link' acts used written event partner h opened poll same =
      let m = poll.moves in
      let p = poll.polled opened acts used written (h.stands opened) in
      let now = acts ++ p.further in
      let b = used ++ m.used in
      let w = written ++ m.written in
      let at = after role config acts in
      let more = list_of (news_of event) in
      let course = polled_with role config (λ x y. Course x y now b w) h.role_is h.config_is p.course in
      let adds = polled_with role config (λ x y. Adds x y (after x y acts) p.further more) h.role_is h.config_is
      (told_adds (role_of old.partner) (config_of old.partner) (after (role_of old.partner) (config_of old.partner) acts)
      p.further link link' (unread_of partner) b w event p.tells) in
      subst (λ (x : Post). Turned news old link x link' more acts used written) (sym same) (record {
        further = p.further;
        received = m.received;
        more_used = m.used;
        more_written = m.written;
        took = m.took;
        wrote = m.wrote;
        inbox = m.inbox;
        side = record {
          course = course;
          given =
              h.given
              ∙ ap (λ e. e ++ blocks_of old.rest)
              (sym (given_in-append acts p.further ∙ (ap (λ e. given_in acts ++ e) adds.given ∙ append-nil (given_in acts))));
          received =
              received_in-append news more
              ∙ (ap (λ e. e ++ received_in more) h.received
              ∙ (ap (λ e. handed_in role config acts ++ e) (sym adds.handed)
              ∙ sym (handed_from-append role config (start role config) acts p.further)));
          sent =
              let e = sends_ended-append role config (start role config) acts p.further in
              let n = sent_in-append news more in
              let was = h.sent in
              let add = adds.ended in
              omega (arith, e, n, was, add);
          role_is = poll.role ∙ h.role_is;
          config_is = poll.config ∙ h.config_is;
          stands = λ o. p.stands (not_closing event (sym poll.closed ∙ o));
          idle = λ e. poll.closed ∙ idle_open event e;
        };
      })

  ok_same : {A : Type 0} (x y : A) → ◌≡◌ {A = Result A Memory} (Ok x) (Ok y) → x ≡ y
  ok_same x y e = cc

  no_memory : {A : Type 0} (x : A) (m : Memory) → ◌≡◌ {A = Result A Memory} (Ok x) (Err m) → ⊥
  no_memory x m e = cc

  polls_side : (news : List News) (old : Post) (link : Shown) (new : Post) (link' : Shown) (acts : List Act)
      (used written : List ℕ) (o : Option News) (partner : Partner) (result : Result PartnerEvent Memory)
      → Side role config blocks news old acts used written → closed_of old.partner ≡ None
      → IsPoll old.partner link partner link' result
      → new ≡ record old { partner = partner; is_idle = is_idle_by result } → Ok o ≡ news_by result
      → Turned news old link new link' (list_of o) acts used written
  polls_side news old link new link' acts used written o partner (Ok event) h opened poll same is =
      subst (λ (x : Option News). Turned news old link new link' (list_of x) acts used written)
      (sym (ok_same o (news_of event) is))
      (polled_side news old link new link' acts used written event partner h opened poll same)
  polls_side news old link new link' acts used written o partner (Err m) h opened poll same is =
      absurd (no_memory o m is)

  talked : (news : List News) (old : Post) (link : Shown) (new : Post) (link' : Shown) (acts : List Act)
      (used written : List ℕ) (o : Option News)
      → Side role config blocks news old acts used written → Talks old link new link' (Ok o)
      → Turned news old link new link' (list_of o) acts used written
  talked news old link new link' acts used written o h t =
      let g = if_given news old t.ready acts used written h (open_of old t.opened) t.gives in
      let p = polls_side news t.ready link new link' (acts ++ g.further) used written o t.polls.partner t.polls.told g.side
      g.opened t.polls.poll t.polls.same t.polls.news in
      record {
        further = g.further ++ p.further;
        received = p.received;
        more_used = p.more_used;
        more_written = p.more_written;
        took = p.took;
        wrote = p.wrote;
        inbox = ap (λ e. e ++ p.received) (sym g.unread) ∙ p.inbox;
        side = subst
            (λ xs. Side role config blocks (news ++ list_of o) new xs (used ++ p.more_used) (written ++ p.more_written))
            (append_assoc acts g.further p.further) p.side;
      }

  none_told : (o : Option News) → ◌≡◌ {A = Result (Option News) Memory} (Ok o) (Ok None) → list_of o ≡ []
  none_told o e = ap list_of (ok_same o None e)

  stayed : (news : List News) (old : Post) (link : Shown) (new : Post) (link' : Shown) (acts : List Act)
      (used written : List ℕ) (o : Option News)
      → Side role config blocks news old acts used written → IsStill old link new link' (Ok o)
      → Turned news old link new link' (list_of o) acts used written
  stayed news old link new link' acts used written o h t = record {
    further = [];
    received = [];
    more_used = [];
    more_written = [];
    took = prepend_none link.left ∙ ap (λ (x : Shown). prepend_known [] x.left) (sym t.same_link);
    wrote = ap (λ (x : Shown). x.written) t.same_link ∙ append_none link.written;
    inbox = append-nil (unread_of old.partner) ∙ ap (λ (x : Post). unread_of x.partner) (sym t.same);
    side =
        subst (λ (x : Post). Side role config blocks (news ++ list_of o) x (acts ++ []) (used ++ []) (written ++ []))
        (sym t.same)
        (subst (λ xs. Side role config blocks (news ++ list_of o) old xs (used ++ []) (written ++ []))
        (sym (append-nil acts))
        (subst (λ xs. Side role config blocks (news ++ list_of o) old acts xs (written ++ [])) (sym (append-nil used))
        (subst (λ xs. Side role config blocks (news ++ list_of o) old acts used xs) (sym (append-nil written))
        (subst (λ xs. Side role config blocks xs old acts used written)
        (sym (append-nil news) ∙ ap (λ e. news ++ e) (sym (none_told o t.no_news))) h))));
  }

  pub turned : (news : List News) (old : Post) (link : Shown) (new : Post) (link' : Shown) (acts : List Act)
      (used written : List ℕ) (o : Option News)
      → Side role config blocks news old acts used written → IsTurn old link new link' (Ok o)
      → Turned news old link new link' (list_of o) acts used written
  turned news old link new link' acts used written o h (inl t) = talked news old link new link' acts used written o h t
  turned news old link new link' acts used written o h (inr t) = stayed news old link new link' acts used written o h t

  -- ---- the end

  abbrev pub side_of : (news : List News) (p : Post) (acts : List Act) (used written : List ℕ)
      → Side role config blocks news p acts used written → IsSide role config blocks news
  side_of news p acts used written h = record {
    acts = acts;
    used = used;
    written = written;
    course = h.course;
    rest = blocks_of p.rest;
    given = h.given;
    received = h.received;
    sent = h.sent;
  }

  -- as many blocks as were given were told as sent, where none is being sent
  sent_all : (news : List News) (p : Post) (acts : List Act) (used written : List ℕ)
      → Side role config blocks news p acts used written → closed_of p.partner ≡ None → is_sending p ≡ false
      → sent_in news ≡ length (given_in acts)
  sent_all news p acts used written h opened idle =
      let s = h.stands opened in
      let none = idle_state p.partner acts used written h.role_is h.config_is s (not_some (sending_of p.partner) idle) in
      let count = acts_count role config (start role config) acts h.course.taken in
      let zero : pending (sends (with_acts role config (start role config) acts)) ≡ 0 = ap pending none in
      let sent = h.sent in
      omega (arith, count, zero, sent)
    where
      not_some : {A : Type 0} (o : Option A) → not (is_none o) ≡ false → o ≡ None
      not_some None e = refl
      not_some (Some x) e = absurd (cc)

  no_rest : (lines : List SendLine) → length lines ≡ 0 → blocks_of lines ≡ []
  no_rest [] e = refl
  no_rest (line ∷ lines) e = absurd (omega (arith, e))

  -- all blocks were given and told as sent
  pub record AllSent (news : List News) (acts : List Act) : Type 0 where
    pub given : blocks ≡ given_in acts
    pub sent : sent_in news ≡ length blocks

  pub all_sent : (news : List News) (p : Post) (acts : List Act) (used written : List ℕ)
      → Side role config blocks news p acts used written → closed_of p.partner ≡ None → is_sending p ≡ false
      → length p.rest ≡ 0 → AllSent news acts
  all_sent news p acts used written h opened idle none =
      let given : blocks ≡ given_in acts =
      h.given ∙ (ap (λ e. given_in acts ++ e) (no_rest p.rest none) ∙ append-nil (given_in acts)) in
      record {
        given = given;
        sent = sent_all news p acts used written h opened idle ∙ ap length (sym given);
      }

-- Turns over one link, one more behind the others, with the lines of their news.
use Rattle.std.proofs.Common.{◌≡◌, inl, inr, ℕ, zero, suc, ◌+◌, ◌-◌, ◌<◌, ◌≤◌, Bool, true, false, List, [], ◌∷◌, ◌++◌, refl}
use Rattle.std.proofs.Common.{ap, sym, ◌∙◌, subst, append_assoc, append-nil, arith, if◌then◌else◌}
use Rattle.std.specs.Prelude.{Option, None, Some, Result, Ok, Err}
use Rattle.std.specs.Io.KnownBytes.{append_known}
use Rattle.std.specs.List.{flat_map}
use Rattle.s7_outer.specs.OutShown.{OutShown}
use Rattle.s7_outer.specs.Shown.{Shown}
use Rattle.s7_outer.specs.declared.memory.Memory.{Memory}
use Rattle.s7_client.proofs.LinkLemmas.{append_none}
use Rattle.s7_partner_run.proofs.TalkLemmas.{append_twice}
use Rattle.s7_partner_run.specs.declared.event.News.{News}
use Rattle.s7_partner_run.specs.Events.{list_of}
use Rattle.s7_partner_run.specs.Text.{active_text, actives_text}
use Rattle.s7_partner_run.specs.Talking.{Post, is_over, IsTurn, Goes}
use Rattle.s7_partner_run.specs.declared.alone.TalkEnd.{TalkEnd}
use Rattle.s7_partner_run.specs.declared.alone.TalkEnd.TheVariants as end
use Rattle.s7_partner_run.specs.Alone.{Tells, TellsThen, TalksOnce, Talked, BreaksOff, LacksMemory, most_turns, has_sent_all, end_of}

actives-append : (xs ys : List News) → actives_text (xs ++ ys) ≡ actives_text xs ++ actives_text ys
actives-append [] ys = refl
actives-append (x ∷ xs) ys =
    ap (λ e. active_text x ++ e) (actives-append xs ys)
    ∙ sym (append_assoc (active_text x) (actives_text xs) (actives_text ys))

-- so many turns were taken, in which this was told: whatever further turns come to, they come to it from the first on
pub record TellsOn (made : ℕ) (old : Post) (link : Shown) (out : OutShown) (now : Post) (link' : Shown) (out' : OutShown)
    : Type 0 where
  pub news : List News
  pub on : (more : ℕ) (new : Post) (link'' : Shown) (later : List News) → Goes more now link' new link'' later
      → Goes (made + more) old link new link'' (news ++ later)
  pub text : out'.text ≡ append_known out.text (actives_text news)

pub tells_begin : (p : Post) (link : Shown) (out : OutShown) → TellsOn 0 p link out p link out
tells_begin p link out = record {
  news = [];
  on = λ more new link'' later h. let e : 0 + more ≡ more = omega arith in rw e h;
  text = append_none out.text;
}

one_more : (more : ℕ) (now middle new : Post) (link link' link'' : Shown) (o : Option News) (later : List News)
    → is_over now ≡ false → IsTurn now link middle link' (Ok o) → Goes more middle link' new link'' later
    → Goes (suc more) now link new link'' (list_of o ++ later)
unfolding Goes
one_more more now middle new link link' link'' o later going turn h =
    inr (going, middle, link', o, later, turn, h, refl)

no_more : (p : Post) (link : Shown) → Goes 0 p link p link []
unfolding Goes
no_more p link = (refl, refl, refl)

is_over_now : (more : ℕ) (p : Post) (link : Shown) → is_over p ≡ true → Goes (suc more) p link p link []
unfolding Goes
is_over_now more p link over = inl (over, refl, refl, refl)

pub tells_more : (made : ℕ) (old now next : Post) (link link' link'' : Shown) (out out' out'' : OutShown)
    (o : Option News) → is_over now ≡ false → IsTurn now link' next link'' (Ok o)
    → out''.text ≡ append_known out'.text (actives_text (list_of o)) → TellsOn made old link out now link' out'
    → TellsOn (made + 1) old link out next link'' out''
tells_more made old now next link link' link'' out out' out'' o going turn text h = record {
  news = h.news ++ list_of o;
  on = λ more new end later g.
      let e : made + 1 + more ≡ made + suc more = omega arith in
      rw e (subst (Goes (made + suc more) old link new end) (sym (append_assoc h.news (list_of o) later))
      (h.on (suc more) new end (list_of o ++ later) (one_more more now next new link' link'' end o later going turn g)));
  text =
      text
      ∙ (ap (λ x. append_known x (actives_text (list_of o))) h.text
      ∙ (append_twice out.text (actives_text h.news) (actives_text (list_of o))
      ∙ ap (append_known out.text) (sym (actives-append h.news (list_of o)))));
}

-- so many turns
pub tells_made : (made : ℕ) (old now : Post) (link link' : Shown) (out out' : OutShown)
    → TellsOn made old link out now link' out' → Tells made old link out now link' out'
tells_made made old now link link' out out' h =
    let e : made ≡ made + 0 = omega arith in
    record {
      news = h.news;
      goes = rw e (subst (Goes (made + 0) old link now link') (append-nil h.news) (h.on 0 now link' [] (no_more now link')));
      text = h.text;
    }

-- fewer than so many, after which it is over
pub tells_over : (made most : ℕ) (old now : Post) (link link' : Shown) (out out' : OutShown) → made < most
    → is_over now ≡ true → TellsOn made old link out now link' out' → Tells most old link out now link' out'
tells_over made most old now link link' out out' below over h =
    let e : most ≡ made + suc (most - (made + 1)) = omega arith in
    record {
      news = h.news;
      goes = rw e (subst (Goes (made + suc (most - (made + 1))) old link now link') (append-nil h.news)
          (h.on (suc (most - (made + 1))) now link' [] (is_over_now (most - (made + 1)) now link' over)));
      text = h.text;
    }

pub tells_all : (made most : ℕ) (old now : Post) (link link' : Shown) (out out' : OutShown) → made ≤ most → most ≤ made
    → TellsOn made old link out now link' out' → Tells most old link out now link' out'
tells_all made most old now link link' out out' below above h =
    let e : made ≡ most = omega arith in
    subst (λ n. Tells n old link out now link' out') e (tells_made made old now link link' out out' h)

-- and one turn more that ended all
pub tells_then : (made : ℕ) (old now new : Post) (link link' link'' : Shown) (out out' out'' : OutShown)
    (ends : OutShown → Result (Option News) Memory → Type 0) (result : Result (Option News) Memory) → made < most_turns
    → is_over now ≡ false → IsTurn now link' new link'' result → ends out' result
    → TellsOn made old link out now link' out' → TellsThen old link out new link'' out'' ends
tells_then made old now new link link' link'' out out' out'' ends result below going turn so h = record {
  made = made;
  middle = now;
  link'' = link';
  out'' = out';
  few = below;
  tells = tells_made made old now link link' out out' h;
  going = going;
  result = result;
  turn = turn;
  so = so;
}

-- ---- how it ended

ended_by : (old new : Post) (link link' : Shown) (out out' : OutShown) (b : Bool) → has_sent_all new ≡ b
    → Tells most_turns old link out new link' out' → Talked old link out new link' out' (if b then end.Sent else end.Unsent)
ended_by old new link link' out out' true is h = (h, is)
ended_by old new link link' out out' false is h = (h, is)

pub talked_out : (old new : Post) (link link' : Shown) (out out' : OutShown) (e : TalkEnd) → e ≡ end_of new
    → Tells most_turns old link out new link' out' → Talked old link out new link' out' e
talked_out old new link link' out out' e is h =
    subst (Talked old link out new link' out') (sym is) (ended_by old new link link' out out' (has_sent_all new) refl h)

pub talked_short : (made : ℕ) (old now new : Post) (link link' link'' : Shown) (out out' out'' : OutShown) (e : TalkEnd)
    → made < most_turns → is_over now ≡ false → TalksOnce now link' out' new link'' out'' (Err e)
    → TellsOn made old link out now link' out' → Talked old link out new link'' out'' e
talked_short made old now new link link' link'' out out' out'' end.Sent below going t h = absurd t
talked_short made old now new link link' link'' out out' out'' end.Unsent below going t h = absurd t
talked_short made old now new link link' link'' out out' out'' end.Output below going t h =
    tells_then made old now new link link' link'' out out' out'' (BreaksOff out'') t.0 below going t.1 t.2 h
talked_short made old now new link link' link'' out out' out'' end.Memory below going t h =
    tells_then made old now new link link' link'' out out' out'' (LacksMemory out'') t.0 below going t.1 t.2 h

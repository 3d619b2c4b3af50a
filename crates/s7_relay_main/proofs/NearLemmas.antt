-- A link that was served by a doer that relays.
use Rattle.std.proofs.Common.{◌≡◌, ℕ, List, [], length, map, Option, ap, sym, ◌∙◌, subst}
use Rattle.s7_outer.specs.Calls.{shut_down}
use Rattle.s7_outer.specs.DialShown.{DialShown}
use Rattle.s7_outer.specs.Shown.{Shown}
use Rattle.s7_plant.specs.Replies.{Said}
use Rattle.s7_plant.specs.declared.request.Ask.{Ask}
use Rattle.s7_session.specs.declared.outcome.Outcome.{Outcome}
use Rattle.s7_session.specs.Entry.{Entry, answered}
use Rattle.s7_session.specs.LinkRun.{IsLinkRun}
use Rattle.s7_session.specs.Telegrams.{AllAt, MemoryIsLast, verdicts_of}
use Rattle.s7_session.proofs.DoerLemmas.{loose_of, full_end, full_stays}
use Rattle.s7_session.proofs.PastLemmas.{memory_is_last}
use Rattle.s7_relay.specs.Doer.{doer_model, entries_of}
use Rattle.s7_relay.specs.declared.relay_doer.RelayDoer.{RelayDoer}
use Rattle.s7_relay_main.specs.Relay.{IsRelayedLink, first}

-- ---- what a doer that relays is known by

abbrev pub stands : {K M : Type 0} → (K → DialShown M) → (M → Shown) → RelayDoer K M → List Entry → Type 0
stands dials shows d entries = entries ≡ entries_of (doer_model dials shows d).kept

abbrev pub is_full : {K M : Type 0} → (K → DialShown M) → (M → Shown) → RelayDoer K M → Ask → Type 0
is_full dials shows d ask = length (doer_model dials shows d).kept ≡ (doer_model dials shows d).limit

abbrev pub may_lack : {K M : Type 0} → (K → DialShown M) → (M → Shown) → RelayDoer K M → Ask → Type 0
may_lack dials shows d ask = length (doer_model dials shows d).kept ≡ (doer_model dials shows d).limit → ⊥

-- ---- the run of a link, by the doer that it leaves

-- the link was served by a doer that had relayed nothing, and shut then
pub relayed_link : {K M : Type 0} {did : RelayDoer K M → Ask → Option (ℕ × Said) → RelayDoer K M → Type 0}
    {keeps : RelayDoer K M → RelayDoer K M → Type 0} (dials : K → DialShown M) (shows : M → Shown) (limit : ℕ)
    (pipe served line : Shown) (d d' : RelayDoer K M) (o : Outcome) (accepted : ℕ) (last : Option ℕ)
    → IsLinkRun (stands dials shows) (is_full dials shows) (may_lack dials shows) did keeps first pipe d served d' o accepted last
    → (doer_model dials shows d).kept ≡ [] → (doer_model dials shows d').limit ≡ limit → line ≡ shut_down served
    → IsRelayedLink limit pipe line o (doer_model dials shows d').kept
relayed_link {K} {M} {did} {keeps} dials shows limit pipe served line d d' o accepted last run none limited shut =
    let kept = (doer_model dials shows d').kept in
    let mine : run.entries ≡ entries_of kept = run.doer [] (sym (ap entries_of none)) in
    let full = is_full dials shows in
    let lack = may_lack dials shows in
    let trail = loose_of full lack did keeps d d' run.mets run.entries run.trail in
    record {
      served = served;
      shut = shut;
      unshut = run.shut;
      taken = run.taken;
      written = run.written;
      mets = run.mets;
      took = run.took;
      wrote = run.wrote;
      fits = run.fits;
      space = run.space;
      lent = run.lent;
      moment = run.moment;
      asked = run.asked;
      answers = run.owed;
      entered = ap (map answered) (sym mine) ∙ run.entered;
      full = λ any. (full_end full lack did keeps d d' run.mets trail any).1 ∙ limited;
      full_stays = full_stays full lack did keeps d d' run.mets (λ e a b h. h) trail;
      memory = subst (λ ms. MemoryIsLast (verdicts_of ms)) run.asked (memory_is_last first run.taken (verdicts_of run.mets));
      moments = subst (AllAt pipe.moment) mine run.moments;
      clock = run.clock;
      unasked = run.unasked;
      looks = run.looks;
      fails = run.fails;
      end = run.end;
    }

-- What a doer that relays did over the telegrams of a link: its acts, one after another.
use Rattle.std.proofs.Common.{◌≡◌, inl, inr, ℕ, Bool, true, false, List, [], ◌∷◌, ◌++◌, length, Option, refl, ap, sym, ◌∙◌, subst}
use Rattle.std.proofs.lemmas.List.{append-nil, append_assoc}
use Rattle.s7_outer.specs.DialShown.{DialShown}
use Rattle.s7_outer.specs.Shown.{Shown}
use Rattle.s7_plant.specs.Replies.{Said}
use Rattle.s7_plant.specs.declared.request.Ask.{Ask}
use Rattle.s7_session.specs.Doers.{Meets, Trail}
use Rattle.s7_session.specs.Entry.{Entry}
use Rattle.s7_session.specs.Judgement.{Asking}
use Rattle.s7_session.specs.Telegrams.{MemoryIsLast, Met, verdicts_of}
use Rattle.s7_session.specs.Verdict.{Verdict, Entered, Full, ClockFailed, NoMemory}
use Rattle.s7_relay.specs.Acts.{IsRelayed, Lead}
use Rattle.s7_relay.specs.Doer.{Did, DoerModel, doer_model}
use Rattle.s7_relay.specs.Far.{FarModel, FarServer, Lacks}
use Rattle.s7_relay.specs.declared.passage.Relayed.{Relayed}
use Rattle.s7_relay.specs.declared.relay_doer.RelayDoer.{RelayDoer}
use Rattle.s7_relay.specs.declared.windows.Window.{Window}
use Rattle.s7_relay_main.specs.Relay.{RelaysOn, acts_of}
use Rattle.s7_relay_main.proofs.NearLemmas.{is_full, may_lack}

-- ---- steps

pub relays_none : {M : Type 0} (shows : M → Shown) (m : DoerModel M) → RelaysOn shows m m
unfolding Lead
relays_none shows m = record {
  windows = refl;
  server = refl;
  limit = refl;
  more = [];
  lacking = false;
  kept = sym (append-nil m.kept);
  lead = refl;
}

relays_lacking : {M : Type 0} (shows : M → Shown) (a b : DoerModel M) → Lacks shows a.server a.far b.far
    → b ≡ record a { far = b.far } → RelaysOn shows a b
unfolding Lead
relays_lacking shows a b lacked same = record {
  windows = ap (λ m. m.windows) same;
  server = ap (λ m. m.server) same;
  limit = ap (λ m. m.limit) same;
  more = [];
  lacking = true;
  kept = ap (λ m. m.kept) same ∙ sym (append-nil a.kept);
  lead = (b.far, lacked, refl);
}

lead_same : {M : Type 0} (shows : M → Shown) (s t : FarServer) (ws vs : List Window) (old new : FarModel M) (more : List Relayed) (lacking : Bool)
    → t ≡ s → vs ≡ ws → Lead shows t vs old (acts_of more lacking) new → Lead shows s ws old (acts_of more lacking) new
lead_same shows s t ws vs old new more lacking servers windows lead =
    subst (λ (xs : List Window). Lead shows s xs old (acts_of more lacking) new) windows
    (subst (λ (x : FarServer). Lead shows x vs old (acts_of more lacking) new) servers lead)

relays_one : {M : Type 0} (shows : M → Shown) (a b c : DoerModel M) (r : Relayed) → IsRelayed shows a.server a.windows a.far b.far r
    → b ≡ record a { far = b.far; kept = a.kept ++ r ∷ [] } → RelaysOn shows b c → RelaysOn shows a c
unfolding Lead
relays_one shows a b c r relayed grown later =
    let windows = ap (λ m. m.windows) grown in
    let server = ap (λ m. m.server) grown in
    record {
      windows = later.windows ∙ windows;
      server = later.server ∙ server;
      limit = later.limit ∙ ap (λ m. m.limit) grown;
      more = r ∷ later.more;
      lacking = later.lacking;
      kept = later.kept ∙ ap (λ m. m.kept ++ later.more) grown ∙ append_assoc a.kept (r ∷ []) later.more;
      lead = (b.far, relayed, lead_same shows a.server b.server a.windows b.windows b.far c.far later.more later.lacking server windows later.lead);
    }

relays_same : {M : Type 0} (shows : M → Shown) (a b c : DoerModel M) → b ≡ a → RelaysOn shows b c → RelaysOn shows a c
relays_same {M} shows a b c same later = subst (λ (m : DoerModel M). RelaysOn shows m c) same later

-- ---- a trail

module _ {K M : Type 0} (dials : K → DialShown M) (shows : M → Shown) (keeps : RelayDoer K M → RelayDoer K M → Type 0) where
  abbrev model : RelayDoer K M → DoerModel M
  model d = doer_model dials shows d

  abbrev pub did : RelayDoer K M → Ask → Option (ℕ × Said) → RelayDoer K M → Type 0
  did d ask done e = Did shows (doer_model dials shows d) ask done (doer_model dials shows e)

  -- a telegram that was refused because the doer is full
  full_same : (d e : RelayDoer K M) (ask asked : Ask) → is_full dials shows e asked → did d ask Option.None e → model e ≡ model d
  full_same d e ask asked full none =
      let here : length (model d).kept ≡ (model d).limit = sym (ap (λ m. length m.kept) none.2) ∙ full ∙ ap (λ m. m.limit) none.2 in
      none.2 ∙ ap (λ far. record (model d) { far = far }) (none.1 here)

  met : (asking : Asking) (v : Verdict) (d behind e : RelayDoer K M) (made : List Entry) (ms : List Met) (later : List Entry)
      → MemoryIsLast (v ∷ verdicts_of ms)
      → Meets (is_full dials shows) (may_lack dials shows) did keeps asking v d made behind
      → Trail (is_full dials shows) (may_lack dials shows) did keeps behind ms later e
      → (MemoryIsLast (verdicts_of ms) → RelaysOn shows (model behind) (model e))
      → RelaysOn shows (model d) (model e)
  met asking (Entered reply moment) d behind e made ms later last m t goes =
      let done = m.2.2 in
      relays_one shows (model d) (model behind) (model e) done.0 done.4 done.5 (goes last)
  met asking Full d behind e made ms later last m t goes =
      relays_same shows (model d) (model behind) (model e) (full_same d behind (asking.ask m.0) (asking.ask m.0) m.1 m.2) (goes last)
  met asking ClockFailed d behind e made ms later last m t goes =
      relays_same shows (model d) (model behind) (model e) (sym (ap model m.1)) (goes last)
  met asking NoMemory d behind e made [] later last (inl m) t goes =
      relays_same shows (model d) (model behind) (model e) (sym (ap model m.1)) (subst (λ (x : RelayDoer K M). RelaysOn shows (model behind) (model x)) t.1 (relays_none shows (model behind)))
  met asking NoMemory d behind e made [] later last (inr m) t goes =
      subst (λ (x : RelayDoer K M). RelaysOn shows (model d) (model x)) t.1 (relays_lacking shows (model d) (model behind) m.2.0 m.2.2)
  met asking NoMemory d behind e made (x ∷ ms) later last m t goes = absurd (cc)

  pub trail_relays : (d e : RelayDoer K M) (ms : List Met) (es : List Entry) → MemoryIsLast (verdicts_of ms)
      → Trail (is_full dials shows) (may_lack dials shows) did keeps d ms es e → RelaysOn shows (model d) (model e)
  trail_relays d e [] es last t = subst (λ (x : RelayDoer K M). RelaysOn shows (model d) (model x)) t.1 (relays_none shows (model d))
  trail_relays d e (m ∷ ms) es last t =
      met m.asking m.verdict d t.0 e t.1 ms t.2 last t.4 t.5 (λ rest. trail_relays t.0 e ms t.2 rest t.5)

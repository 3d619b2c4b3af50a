-- A doer that relays, as contracts see it.
use Rattle.std.specs.Prelude.{◌≡◌, ◌≤◌, ℕ, ◌+◌, List, [], ◌∷◌, ◌++◌, length, Option, None, Some}
use Rattle.s7_outer.specs.DialShown.{DialShown}
use Rattle.s7_outer.specs.Shown.{Shown}
use Rattle.s7_plant.specs.Replies.{Said, said_of}
use Rattle.s7_plant.specs.declared.request.Ask.{Ask}
use Rattle.s7_session.specs.Entry.{Entry}
use Rattle.s7_dialogue.specs.declared.config.Config.{Config}
use Rattle.s7_relay.specs.Acts.{Act, IsRelayed, Lead, relayed_in}
use Rattle.s7_relay.specs.Far.{FarModel, FarServer, Lacks, far_faults, far_model, first_far, server_of}
use Rattle.s7_relay.specs.declared.passage.Relayed.{Relayed}
use Rattle.s7_relay.specs.declared.relay_doer.RelayDoer.{RelayDoer}
use Rattle.s7_relay.specs.declared.windows.Window.{Window}

pub record DoerModel (M : Type 0) : Type 0 where
  pub windows : List Window
  pub server : FarServer
  pub limit : ℕ
  pub far : FarModel M
  -- the telegrams that were relayed, in order
  pub kept : List Relayed

abbrev pub doer_model : {K M : Type 0} → (K → DialShown M) → (M → Shown) → RelayDoer K M → DoerModel M
doer_model dials shows d = record {
  windows = d.windows;
  server = server_of d.far;
  limit = d.limit;
  far = far_model dials shows d.far;
  kept = d.kept.items;
}

-- a doer that has relayed nothing
abbrev pub begins : {M : Type 0} → List Window → List ℕ → ℕ → Config → ℕ → DialShown M → DoerModel M
begins windows host port config limit dial = record {
  windows = windows;
  server = record { host = host; port = port; config = config };
  limit = limit;
  far = first_far dial;
  kept = [];
}

-- THE ENTRIES of telegrams that were relayed, numbered from a number on
abbrev pub entries_from : ℕ → List Relayed → List Entry
entries_from number [] = []
entries_from number (r ∷ rs) =
    record { number = number; ask = r.ask; reply = said_of r.reply } ∷ entries_from (number + 1) rs

abbrev pub entries_of : List Relayed → List Entry
entries_of rs = entries_from 0 rs

-- HOW A DOER GOES ON: its windows, its server and its limit stay, and what it relays is appended to what it had. Its
-- count of far faults doesn't fall.
pub record GoesOn {M : Type 0} (shows : M → Shown) (old new : DoerModel M) : Type 0 where
  pub windows : new.windows ≡ old.windows
  pub server : new.server ≡ old.server
  pub limit : new.limit ≡ old.limit
  pub acts : List Act
  pub lead : Lead shows old.server old.windows old.far acts new.far
  pub kept : new.kept ≡ old.kept ++ relayed_in acts
  pub faults : far_faults old.server old.far ≤ far_faults old.server new.far

-- WHAT ONE CALL DID with a request. It entered the request: exactly one telegram was relayed, and it is kept as the last
-- one. Or it didn't enter it: nothing more is kept, and nothing happened on the far side but what may happen before an
-- allocation fails. At the limit nothing happened at all.
abbrev pub Did : {M : Type 0} → (M → Shown) → DoerModel M → Ask → Option (ℕ × Said) → DoerModel M → Type 0
Did shows old ask (Some done) new =
    (r : Relayed) × (r.ask ≡ ask) × (said_of r.reply ≡ done.1) × (done.0 ≡ length old.kept)
    × IsRelayed shows old.server old.windows old.far new.far r
    × (new ≡ record old { far = new.far; kept = old.kept ++ r ∷ [] })
Did shows old ask None new =
    Lacks shows old.server old.far new.far × (length old.kept ≡ old.limit → new.far ≡ old.far)
    × (new ≡ record old { far = new.far })

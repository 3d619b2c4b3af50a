-- A rig shows what its watcher read.
use Rattle.std.proofs.Common.{◌≡◌, ℕ, zero, suc, List, [], ◌∷◌, drop, Some, ap, subst}
use Rattle.std.specs.Prelude.{slice_get, unwrap_or}
use Rattle.std.specs.List.{AllByRecursion}
use Rattle.s7_area.specs.Memory.{Memory}
use Rattle.s7_dialogue.specs.declared.config.Config.{Config}
use Rattle.s7_plant.specs.State.{begins_with}
use Rattle.s7_session.specs.Books.{history_of}
use Rattle.s7_rig.specs.Followed.{RigsFollow}
use Rattle.s7_rig.specs.Rigs.{RigRan, Turning}
use Rattle.s7_rig.specs.Scripts.{Script}
use Rattle.s7_rig.specs.Shown.{ClientTold, EndTold}
use Rattle.s7_rig.specs.Split.{AllStand}
use Rattle.s7_symbol.specs.declared.tag.Tag.{Tag}
use Rattle.s7_watch.specs.Looks.{looks}
use Rattle.s7_watch.specs.Lines.{nothing_seen, result_lines}
use Rattle.s7_watched.specs.Watched.{IsWatched, WatchesAreSeen, watch_script}

-- what holds of all clients holds of each
at : (P : ClientTold → Type 0) (clients : List ClientTold) (k : ℕ) (c : ClientTold) → AllByRecursion P clients
    → slice_get clients k ≡ Some c → P c
at P [] k c all is = absurd (cc)
at P (d ∷ clients) zero c all is = subst P (ap (λ o. unwrap_or o c) is) all.0
at P (d ∷ clients) (suc k) c all is = at P clients k c all.1 is

pub shows_watches : RigsFollow → WatchesAreSeen → (opening : Memory) (limit : ℕ) (config : Config)
    (scripts : List Script) (turning : Turning) (end : EndTold) → RigRan opening limit config scripts turning end
    → (k : ℕ) (c : ClientTold) (tags : List Tag) (rounds : ℕ) → slice_get end.clients k ≡ Some c
    → slice_get scripts k ≡ Some (watch_script tags rounds)
    → IsWatched (begins_with opening) (history_of end.book) config.pdu tags rounds c
    (result_lines (nothing_seen tags) (looks tags rounds) (drop 1 c.results))
shows_watches follows seen opening limit config scripts turning end ran k c tags rounds here script =
    let follow = follows.follow opening limit config scripts turning end ran k c (watch_script tags rounds) here script in
    let stands =
    at (λ (d : ClientTold). AllStand (begins_with opening) (history_of end.book) d.link config.pdu d.results d.places)
    end.clients k c ran.reads here in
    seen.seen (begins_with opening) (history_of end.book) config.pdu tags rounds c follow.0 follow.1 stands
    (follows.rise opening limit config scripts turning end ran k c here)

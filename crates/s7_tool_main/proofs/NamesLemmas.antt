-- Areas keep their names, whatever links ask.
use Rattle.std.proofs.Common.{◌≡◌, ◌∙◌, ℕ, refl, ap, List, [], ◌∷◌}
use Rattle.std.specs.Map.{keys_of}
use Rattle.s7_area.specs.declared.key.AreaKey.{AreaKey}
use Rattle.s7_area.specs.Memory.{Memory}
use Rattle.s7_plant.specs.declared.request.Ask.{Ask}
use Rattle.s7_plant.specs.Answers.{after}
use Rattle.s7_plant.specs.Histories.{replay}
use Rattle.s7_plant.specs.Journals.{asks_of}
use Rattle.s7_plant.specs.State.{State, state_of}
use Rattle.s7_dialogue.specs.declared.config.Config.{Config}
use Rattle.s7_rig.proofs.PlantLemmas.{names_changed}
use Rattle.s7_rig.specs.Rigs.{RigRan, Turning}
use Rattle.s7_rig.specs.Scripts.{Script}
use Rattle.s7_rig.specs.Shown.{EndTold}

abbrev names : Memory → List AreaKey
names m = keys_of m.areas

names_replayed : (s : State) (asked : List Ask) → names ((replay s asked).memory) ≡ names s.memory
names_replayed s [] = refl
names_replayed s (ask ∷ asked) = names_replayed (after s ask) asked ∙ names_changed s ask.right ask.request

-- a rig leaves the areas the names that they had
pub rig_names : (opening : Memory) (limit : ℕ) (config : Config) (scripts : List Script) (turning : Turning)
    (end : EndTold) → RigRan opening limit config scripts turning end
    → keys_of end.book.plant.areas.areas ≡ keys_of opening.areas
rig_names opening limit config scripts turning end ran =
    let book = ran.last.book in
    ap (λ (e : EndTold). names (e.book.plant.areas)) ran.ends ∙ ap (λ (s : State). names s.memory) book.replayed
    ∙ names_replayed (state_of book.opening) (asks_of book.journal.entries)
    ∙ ap (λ (s : State). names s.memory) ran.book.opened

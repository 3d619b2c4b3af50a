-- Links that were served side by side.
use Rattle.std.specs.Prelude.{◌≡◌, ◌≤◌, ℕ, ◌+◌, List, [], ◌∷◌, length, map}
use Rattle.std.specs.List.{AllByRecursion}
use Rattle.s7_outer.specs.Shown.{Shown}
use Rattle.s7_turn.specs.declared.view.Entry.{Entry as Call}
use Rattle.s7_plant.specs.declared.request.Ask.{Ask}
use Rattle.s7_plant.specs.State.{State}
use Rattle.s7_session.specs.Books.{History, own}
use Rattle.s7_session.specs.Legal.{Links, IsServedBy, AreDifferent, sum_of}
use Rattle.s7_session.specs.LinkState.{LinkState}
use Rattle.s7_listener.specs.Served.{ServedTold, IsServed}

-- THE LINK OF THIS NUMBER WAS SERVED over a history that has as many calls of it as entries are reported
pub record IsServedAs (opening : State) (limit : ℕ) (first : LinkState) (history : History)
    (number : ℕ) (pipe : Shown) (served : ServedTold) : Type 0 where
  pub number_is : served.link ≡ number
  pub is_served : IsServed opening limit first history pipe served
  pub count : served.entries ≡ length (own opening number history)

-- Links that showed this when they came were served, each over the history. They have consecutive numbers, from this
-- number on, in the order in which they came.
abbrev pub AreServed : State → ℕ → LinkState → History → ℕ → List Shown → List ServedTold → Type 0
AreServed opening limit first history number [] [] = Unit {0}
AreServed opening limit first history number [] (served ∷ links) = ⊥
AreServed opening limit first history number (pipe ∷ pipes) [] = ⊥
AreServed opening limit first history number (pipe ∷ pipes) (served ∷ links) =
    IsServedAs opening limit first history number pipe served
    × AreServed opening limit first history (number + 1) pipes links

-- the numbers of links, and how many telegrams of each were entered
abbrev pub counts_of : List ServedTold → Links
counts_of links = map (λ (served : ServedTold). (served.link, served.entries)) links

-- LINKS WERE SERVED SIDE BY SIDE, each over the one history, which has no other calls. They are numbered from 1 in the
-- order in which they came.
pub record AreHosted (opening : State) (limit : ℕ) (first : LinkState) (history : History)
    (pipes : List Shown) (links : List ServedTold) : Type 0 where
  pub served : AreServed opening limit first history 1 pipes links
  pub few : length history ≤ limit
  -- each call is of a link that was served, the links' numbers are different, and their counts add up to the length of
  -- the history
  pub only : AllByRecursion (λ (call : Call Ask). IsServedBy (counts_of links) call.caller) history
  pub different : AreDifferent (counts_of links)
  pub sum : sum_of (counts_of links) ≡ length history

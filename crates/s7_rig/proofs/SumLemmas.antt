-- The posts of a rig as links: numbered in order, and each with the count of its own calls.
use Rattle.std.proofs.Common.{◌≡◌, ℕ, suc, ◌+◌, Some, List, [], ◌∷◌, length, slice_get, refl, arith}
use Rattle.std.proofs.lemmas.List.{length-map}
use Rattle.s7_plant.specs.State.{State}
use Rattle.s7_session.specs.Books.{History, own}
use Rattle.s7_session.specs.Stands.{entry_count}
use Rattle.s7_session.proofs.SumLemmas.{AreNumbered, AreCounted, AreWithin}
use Rattle.s7_rig.specs.Legal.{links_of}
use Rattle.s7_rig.specs.State.{Post}
use Rattle.s7_rig.proofs.OwnLemmas.{AllLinks}

pub posts_numbered : (low : ℕ) (posts : List Post)
    → ((k : ℕ) (p : Post) → slice_get posts k ≡ Some p → p.link ≡ low + k) → AreNumbered low (links_of posts)
posts_numbered low [] each = tt
posts_numbered low (p ∷ posts) each =
    let first : p.link ≡ low = omega (arith, each 0 p refl) in
    (first, posts_numbered (low + 1) posts (λ k q at. omega (arith, each (suc k) q at)))

pub posts_counted : (s : State) (history : History) (posts : List Post)
    → ((k : ℕ) (p : Post) → slice_get posts k ≡ Some p → entry_count p.session ≡ length (own s p.link history))
    → AreCounted s history (links_of posts)
posts_counted s history [] each = tt
posts_counted s history (p ∷ posts) each =
    (each 0 p refl, posts_counted s history posts (λ k q at. each (suc k) q at))

pub calls_within : (posts : List Post) (history : History) → AllLinks 1 (length posts) history
    → AreWithin 1 (length (links_of posts)) history
calls_within posts [] all = tt
calls_within posts (call ∷ history) all =
    let many : length (links_of posts) ≡ length posts = length-map posts _ in
    ((all.0.0, omega (arith, all.0.1, many)), calls_within posts history all.1)

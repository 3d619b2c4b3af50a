-- An image that is awaited is whole exactly where its pieces are one.
use Rattle.std.proofs.Common.{◌≡◌, ℕ, ◌+◌, ◌<◌, ◌≤◌, Bool, true, false, cond, not, eqb, ltb, ◌&&◌, ◌||◌, List, [], ◌∷◌, ◌++◌, length, refl, sym, ap, ◌∙◌, append_assoc, length-append, arith}
use Rattle.std.specs.List.{AllByRecursion}
use Rattle.std.proofs.lemmas.Bool.Decides.{nat_tests}
use Rattle.std.proofs.lemmas.List.{append-nil}
use Rattle.s7_block.specs.Slices.{Piece, joined, AreMarked}
use Rattle.s7_block.specs.Assembly.{Progress, idle, awaiting, whole}
use Rattle.s7_block.specs.Laws.{with_pieces, PiecesAreJoined}

-- a piece of n octets behind h of them is wrong
wrong : ℕ → ℕ → ℕ → ℕ → Bool → Bool
wrong room len h n more = ltb len (h + n) || ltb room (h + n) || (more && eqb n 0) || (not more && not (eqb (h + n) len))

right_more : (room len h n : ℕ) → h + n ≤ len → len ≤ room → 0 < n → wrong room len h n true ≡ false
unfolding wrong
right_more room len h n within fits some = grind (arith, nat_tests)

right_last : (room len h n : ℕ) → h + n ≡ len → len ≤ room → wrong room len h n false ≡ false
unfolding wrong
right_last room len h n stated fits = grind (arith, nat_tests)

was_more : (room len h n : ℕ) → wrong room len h n true ≡ false → (h + n ≤ len) × (h + n ≤ room) × (0 < n)
unfolding wrong
was_more room len h n is = (grind (arith, nat_tests), grind (arith, nat_tests), grind (arith, nat_tests))

was_last : (room len h n : ℕ) → wrong room len h n false ≡ false → (h + n ≡ len) × (h + n ≤ room)
unfolding wrong
was_last room len h n is = (grind (arith, nat_tests), grind (arith, nat_tests))

-- what a piece makes of an image, by whether it is wrong and whether others follow
after : Bool → Bool → ℕ → List ℕ → Progress
after w more len octets = cond w idle (cond more (awaiting len octets) (whole octets))

idle_stays : (room : ℕ) (ps : List Piece) → with_pieces room idle ps ≡ idle
idle_stays room [] = refl
idle_stays room (p ∷ ps) = idle_stays room ps

-- these pieces behind held octets are an image of the stated length
record Ends (room len : ℕ) (held : List ℕ) (ps : List Piece) (image : List ℕ) : Type 0 where
  pub some : 0 < length ps
  pub marked : AreMarked false ps
  pub filled : AllByRecursion (λ p. p.more ≡ true → 0 < length p.octets) ps
  pub joined : held ++ joined ps ≡ image
  pub stated : length image ≡ len
  pub fits : len ≤ room

ends_step : (room len : ℕ) (held : List ℕ) (p q : Piece) (ps : List Piece) (image : List ℕ) → Ends room len held (p ∷ q ∷ ps) image → Ends room len (held ++ p.octets) (q ∷ ps) image
ends_step room len held p q ps image is = record {
  some = omega arith;
  marked = is.marked.1;
  filled = is.filled.1;
  joined = append_assoc held p.octets (joined (q ∷ ps)) ∙ is.joined;
  stated = is.stated;
  fits = is.fits;
}

to_whole : (room len : ℕ) (held : List ℕ) (ps : List Piece) (image : List ℕ) → Ends room len held ps image → with_pieces room (awaiting len held) ps ≡ whole image
unfolding wrong after
to_whole room len held [] image is = absurd (omega (arith, is.some))
to_whole room len held (p ∷ []) image is =
    let all : held ++ p.octets ≡ image = ap (λ l. held ++ l) (sym (append-nil p.octets)) ∙ is.joined in
    let count : length held + length p.octets ≡ len = omega (arith, length-append held p.octets, ap length all, is.stated) in
    let last : p.more ≡ false = is.marked in
    ap (λ m. after (wrong room len (length held) (length p.octets) m) m len (held ++ p.octets)) last
    ∙ ap (λ w. after w false len (held ++ p.octets)) (right_last room len (length held) (length p.octets) count is.fits)
    ∙ ap whole all
to_whole room len held (p ∷ q ∷ ps) image is =
    let more : p.more ≡ true = is.marked.0 in
    let within : length held + length p.octets ≤ len =
    omega (arith, length-append held (joined (p ∷ q ∷ ps)), length-append p.octets (joined (q ∷ ps)), ap length is.joined, is.stated) in
    ap (λ w. with_pieces room w (q ∷ ps))
    (ap (λ m. after (wrong room len (length held) (length p.octets) m) m len (held ++ p.octets)) more
    ∙ ap (λ w. after w true len (held ++ p.octets)) (right_more room len (length held) (length p.octets) within is.fits (is.filled.0 more)))
    ∙ to_whole room len (held ++ p.octets) (q ∷ ps) image (ends_step room len held p q ps image is)

-- a piece with others behind it, and those
joins_ends : (room len : ℕ) (held : List ℕ) (p : Piece) (ps : List Piece) (image : List ℕ) → p.more ≡ true → 0 < length p.octets → Ends room len (held ++ p.octets) ps image → Ends room len held (p ∷ ps) image
joins_ends room len held p [] image more some is = absurd (omega (arith, is.some))
joins_ends room len held p (q ∷ ps) image more some is = record {
  some = omega arith;
  marked = (more, is.marked);
  filled = ((λ m. some), is.filled);
  joined = sym (append_assoc held p.octets (joined (q ∷ ps))) ∙ is.joined;
  stated = is.stated;
  fits = is.fits;
}

ends_last : (room len : ℕ) (held : List ℕ) (p : Piece) (ps : List Piece) (image : List ℕ) → p.more ≡ false → wrong room len (length held) (length p.octets) false ≡ false → with_pieces room (whole (held ++ p.octets)) ps ≡ whole image → Ends room len held (p ∷ ps) image
ends_last room len held p [] image last right is =
    let all : held ++ p.octets ≡ image = cc in
    let known = was_last room len (length held) (length p.octets) right in
    record {
      some = omega arith;
      marked = last;
      filled = ((λ more. let no : true ≡ false = sym more ∙ last in cc), tt);
      joined = ap (λ l. held ++ l) (append-nil p.octets) ∙ all;
      stated = omega (arith, length-append held p.octets, ap length all, known.0);
      fits = omega (arith, known.0, known.1);
    }
ends_last room len held p (q ∷ ps) image last right is = let no : idle ≡ whole image = sym (idle_stays room ps) ∙ is in cc

from_step : (w more : Bool) (room len : ℕ) (held : List ℕ) (p : Piece) (ps : List Piece) (image : List ℕ) → p.more ≡ more → wrong room len (length held) (length p.octets) more ≡ w → with_pieces room (after w more len (held ++ p.octets)) ps ≡ whole image → (with_pieces room (awaiting len (held ++ p.octets)) ps ≡ whole image → Ends room len (held ++ p.octets) ps image) → Ends room len held (p ∷ ps) image
unfolding after
from_step true more room len held p ps image a b is later = let no : idle ≡ whole image = sym (idle_stays room ps) ∙ is in cc
from_step false true room len held p ps image a b is later =
    joins_ends room len held p ps image a (was_more room len (length held) (length p.octets) b).2 (later is)
from_step false false room len held p ps image a b is later = ends_last room len held p ps image a b is

from_whole : (room len : ℕ) (held : List ℕ) (ps : List Piece) (image : List ℕ) → with_pieces room (awaiting len held) ps ≡ whole image → Ends room len held ps image
unfolding wrong after
from_whole room len held [] image is = cc
from_whole room len held (p ∷ ps) image is =
    from_step _ p.more room len held p ps image refl refl is (from_whole room len (held ++ p.octets) ps image)

pub joined_pieces : PiecesAreJoined
joined_pieces room len ps image = (
  (λ is. let e = from_whole room len [] ps image is in record { some = e.some; marked = e.marked; filled = e.filled; joined = e.joined; stated = e.stated; fits = e.fits }),
  (λ is. to_whole room len [] ps image (record { some = is.some; marked = is.marked; filled = is.filled; joined = is.joined; stated = is.stated; fits = is.fits })),
)

-- Octets that are written behind those that are written already.
use Rattle.std.proofs.Common.{◌≡◌, ℕ, ◌+◌, List, [], ◌∷◌, ◌++◌, length, get_or, drop, ap, ◌∙◌, sym}
use Rattle.std.proofs.lemmas.List.{take_at, drop_at, drop-drop}
use borrow.Rule.Slice.PartMut.{put_mid}
use Rattle.s7_outer.specs.Numbers.{two_octets}
use Rattle.s7_szl.specs.Images.{head_octets}

placed : (front octets into : List ℕ) (a k : ℕ) → a ≡ length front → k ≡ length octets → put_mid a k (front ++ drop a into) octets ≡ front ++ (octets ++ drop (a + k) into)
placed front octets into a k f o =
    ap (λ v. v ++ (octets ++ drop k (drop a (front ++ drop a into)))) (take_at front (drop a into) a (sym f))
    ∙ ap (λ v. front ++ (octets ++ drop k v)) (drop_at front (drop a into) a (sym f))
    ∙ ap (λ v. front ++ (octets ++ v)) (drop-drop k a into)

pub written_in_two : (first second front octets into : List ℕ) (a k n : ℕ) → a ≡ length front → k ≡ length octets → n ≡ a + k → first ≡ front → second ≡ octets
    → put_mid a k (first ++ drop a into) second ≡ front ++ (octets ++ drop n into)
written_in_two first second front octets into a k n f o s e h =
    ap (λ v. put_mid a k (v ++ drop a into) second) e
    ∙ ap (put_mid a k (front ++ drop a into)) h
    ∙ placed front octets into a k f o
    ∙ ap (λ v. front ++ (octets ++ drop v into)) (sym s)

-- the head by its numbers' octets
pub is_head : (id index record_len count : ℕ) (a b c d : List ℕ) → a ≡ two_octets id → b ≡ two_octets index → c ≡ two_octets record_len → d ≡ two_octets count
    → get_or a 0 0 ∷ get_or a 1 0 ∷ get_or b 0 0 ∷ get_or b 1 0 ∷ get_or c 0 0 ∷ get_or c 1 0 ∷ get_or d 0 0 ∷ get_or d 1 0 ∷ [] ≡ head_octets id index record_len count
is_head id index record_len count a b c d p q r s =
    ap (λ v. get_or v 0 0 ∷ get_or v 1 0 ∷ get_or b 0 0 ∷ get_or b 1 0 ∷ get_or c 0 0 ∷ get_or c 1 0 ∷ get_or d 0 0 ∷ get_or d 1 0 ∷ []) p
    ∙ ap (λ v. two_octets id ++ (get_or v 0 0 ∷ get_or v 1 0 ∷ get_or c 0 0 ∷ get_or c 1 0 ∷ get_or d 0 0 ∷ get_or d 1 0 ∷ [])) q
    ∙ ap (λ v. two_octets id ++ two_octets index ++ (get_or v 0 0 ∷ get_or v 1 0 ∷ get_or d 0 0 ∷ get_or d 1 0 ∷ [])) r
    ∙ ap (λ v. two_octets id ++ two_octets index ++ two_octets record_len ++ (get_or v 0 0 ∷ get_or v 1 0 ∷ [])) s

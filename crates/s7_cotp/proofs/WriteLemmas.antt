-- Octets that are written one after another.
use Rattle.std.proofs.Common.{◌≡◌, ℕ, ◌+◌, ◌-◌, ◌/◌, ◌%◌, List, [], ◌∷◌, ◌++◌, length, take, drop, ap, ◌∙◌, sym, refl, arith, append_assoc, append-nil, length-append, length-drop}
use Rattle.std.proofs.lemmas.List.{take_at, drop_at, drop-drop}
use Rattle.std.proofs.lemmas.Slice.{between_to_end}
use Rattle.std.proofs.Math.ListN.{drop_of_length-le}
use borrow.Rule.Slice.PartMut.{put_mid, post_of}
use Rattle.s7_cotp.specs.Told.{ConnectionTold}
use Rattle.s7_cotp.specs.Spelling.{tsap_octets, parameters_octets, spelling_of_connection}

-- octets behind those that are written already
placed : (front octets into : List ℕ) (a k : ℕ) → a ≡ length front → k ≡ length octets → put_mid a k (front ++ drop a into) octets ≡ (front ++ octets) ++ drop (a + k) into
placed front octets into a k f o =
    ap (λ v. v ++ (octets ++ drop k (drop a (front ++ drop a into)))) (take_at front (drop a into) a (sym f))
    ∙ ap (λ v. front ++ (octets ++ drop k v)) (drop_at front (drop a into) a (sym f))
    ∙ ap (λ v. front ++ (octets ++ v)) (drop-drop k a into)
    ∙ sym (append_assoc front octets (drop (a + k) into))

pub written_in_two : (first second front octets into : List ℕ) (a k n : ℕ) → a ≡ length front → k ≡ length octets → n ≡ a + k → first ≡ front → second ≡ octets
    → put_mid a k (first ++ drop a into) second ≡ (front ++ octets) ++ drop n into
written_in_two first second front octets into a k n f o s e h =
    ap (λ v. put_mid a k (v ++ drop a into) second) e
    ∙ ap (put_mid a k (front ++ drop a into)) h
    ∙ placed front octets into a k f o
    ∙ ap (λ v. (front ++ octets) ++ drop v into) (sym s)

-- octets that a function wrote to the rest of a slice
placed_part : (xs front octets into new : List ℕ) (a n : ℕ) → xs ≡ front ++ drop a into → a ≡ length front → new ≡ octets ++ drop n (take (length xs - a) (drop a xs))
    → put_mid a (length xs - a) xs new ≡ (front ++ octets) ++ drop (a + n) into
placed_part xs front octets into new a n e f w =
    let rest : drop a xs ≡ drop a into = ap (drop a) e ∙ drop_at front (drop a into) a (sym f) in
    let whole : take (length xs - a) (drop a xs) ≡ drop a xs = between_to_end xs a (length xs) (omega arith) in
    let none : post_of a (length xs - a) xs ≡ [] = drop_of_length-le (drop a xs) (omega (arith, length-drop a xs)) in
    let all : new ≡ octets ++ drop (a + n) into = w ∙ ap (λ v. octets ++ drop n v) (whole ∙ rest) ∙ ap (λ v. octets ++ v) (drop-drop n a into) in
    ap (λ v. take a xs ++ (new ++ v)) none
    ∙ ap (λ v. take a xs ++ v) (append-nil new)
    ∙ ap (λ v. take a v ++ new) e
    ∙ ap (λ v. v ++ new) (take_at front (drop a into) a (sym f))
    ∙ ap (λ v. front ++ v) all
    ∙ sym (append_assoc front octets (drop (a + n) into))

pub length-tsap_octets : (code other : ℕ) (t : List ℕ) → length (tsap_octets code t) ≡ length (tsap_octets other t)
length-tsap_octets code other [] = refl
length-tsap_octets code other (x ∷ t) = refl

-- a header, and then the TSAPs
pub connection_written : (c : ConnectionTold) (code len n m d e s t : ℕ) (header into new last : List ℕ)
    → header ≡ len ∷ code ∷ d ∷ e ∷ s ∷ t ∷ c.class ∷ 192 ∷ 1 ∷ c.size_code ∷ []
    → len ≡ 9 + length (tsap_octets 0 c.calling) + length (tsap_octets 0 c.called)
    → d ≡ c.dst_ref / 256 → e ≡ c.dst_ref % 256 → s ≡ c.src_ref / 256 → t ≡ c.src_ref % 256
    → n ≡ length (tsap_octets 193 c.calling)
    → new ≡ tsap_octets 193 c.calling ++ drop n (take (length (header ++ drop 10 into) - 10) (drop 10 (header ++ drop 10 into)))
    → last ≡ tsap_octets 194 c.called ++ drop m (take (length (put_mid 10 (length (header ++ drop 10 into) - 10) (header ++ drop 10 into) new) - (10 + n)) (drop (10 + n) (put_mid 10 (length (header ++ drop 10 into) - 10) (header ++ drop 10 into) new)))
    → put_mid (10 + n) (length (put_mid 10 (length (header ++ drop 10 into) - 10) (header ++ drop 10 into) new) - (10 + n)) (put_mid 10 (length (header ++ drop 10 into) - 10) (header ++ drop 10 into) new) last
    ≡ spelling_of_connection code c ++ drop (10 + n + m) into
connection_written c code len n m d e s t header into new last h l dh dl sh sl size calling called =
    let front = len ∷ code ∷ d ∷ e ∷ s ∷ t ∷ c.class ∷ 192 ∷ 1 ∷ c.size_code ∷ [] in
    let first = placed_part (header ++ drop 10 into) front (tsap_octets 193 c.calling) into new 10 n (ap (λ v. v ++ drop 10 into) h) refl calling in
    let second = placed_part (put_mid 10 (length (header ++ drop 10 into) - 10) (header ++ drop 10 into) new) (front ++ tsap_octets 193 c.calling) (tsap_octets 194 c.called) into last (10 + n) m first
    (omega (arith, size)) called in
    let length_is : len ≡ length (parameters_octets c) + 6 =
    omega (arith, l, length-append (tsap_octets 193 c.calling) (tsap_octets 194 c.called), length-tsap_octets 0 193 c.calling, length-tsap_octets 0 194 c.called) in
    second
    ∙ ap (λ v. (((v ∷ code ∷ d ∷ e ∷ s ∷ t ∷ c.class ∷ 192 ∷ 1 ∷ c.size_code ∷ []) ++ tsap_octets 193 c.calling) ++ tsap_octets 194 c.called) ++ drop (10 + n + m) into) length_is
    ∙ ap (λ v. (((length (parameters_octets c) + 6) ∷ code ∷ v ∷ e ∷ s ∷ t ∷ parameters) ++ drop (10 + n + m) into)) dh
    ∙ ap (λ v. (((length (parameters_octets c) + 6) ∷ code ∷ (c.dst_ref / 256) ∷ v ∷ s ∷ t ∷ parameters) ++ drop (10 + n + m) into)) dl
    ∙ ap (λ v. (((length (parameters_octets c) + 6) ∷ code ∷ (c.dst_ref / 256) ∷ (c.dst_ref % 256) ∷ v ∷ t ∷ parameters) ++ drop (10 + n + m) into)) sh
    ∙ ap (λ v. (((length (parameters_octets c) + 6) ∷ code ∷ (c.dst_ref / 256) ∷ (c.dst_ref % 256) ∷ (c.src_ref / 256) ∷ v ∷ parameters) ++ drop (10 + n + m) into)) sl
  where
    parameters : List ℕ
    parameters = c.class ∷ parameters_octets c

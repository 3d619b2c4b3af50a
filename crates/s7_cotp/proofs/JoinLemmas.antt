-- The messages that are read are those of the relation, and no others.
use Rattle.std.proofs.Common.{◌≡◌, ℕ, ◌≤◌, true, false, inl, inr, List, [], ◌∷◌, ◌++◌, length, ap, subst, ◌∙◌, sym, refl, append_assoc, append-nil}
use Rattle.std.proofs.lemmas.Bool.{cases_Bool}
use Rattle.s7_cotp.specs.Messages.{Fragment, octets_of, is_over, read, messages_of, rest_of, IsGroup, IsMessage, AreJoined, NoMessageAhead, Messages}
use Rattle.s7_cotp.proofs.MessageLemmas.{over_more, over_none, within_front, within, is_within, read_over, read_last, read_begun, one_more}

-- no fragment has the end bit
abbrev NoneLast : List Fragment → Type 0
NoneLast [] = Unit {0}
NoneLast (f ∷ fs) = (f.last ≡ false) × NoneLast fs

none_last : (begun : List Fragment) (f : Fragment) → NoneLast begun → f.last ≡ false → NoneLast (begun ++ f ∷ [])
none_last [] f n l = (l, tt)
none_last (g ∷ begun) f n l = (n.0, none_last begun f n.1 l)

ends_group : (begun : List Fragment) (f : Fragment) → NoneLast begun → f.last ≡ true → IsGroup (begun ++ f ∷ [])
ends_group [] f n l = l
ends_group (g ∷ []) f n l = (n.0, l)
ends_group (g ∷ h ∷ begun) f n l = (n.0, ends_group (h ∷ begun) f n.1 l)

-- a group ends, and so none stands at the front of fragments without an end bit
no_group : (group more : List Fragment) → IsGroup group → NoneLast (group ++ more) → ⊥
no_group [] more g n = g
no_group (f ∷ []) more g n = let h : f.last ≡ false = n.0 in cc
no_group (f ∷ h ∷ group) more g n = no_group (h ∷ group) more g.1 n.1

-- a group that stands at the front has all fragments without an end bit, and one more
group_begins : (begun group : List Fragment) (f : Fragment) (fs more : List Fragment) → NoneLast begun → IsGroup group → begun ++ f ∷ fs ≡ group ++ more → (tail : List Fragment) × (group ≡ (begun ++ f ∷ []) ++ tail)
group_begins [] [] f fs more n g e = absurd g
group_begins [] (h ∷ group) f fs more n g e = (group, let k : f ≡ h = cc in ap (λ x. x ∷ group) (sym k))
group_begins (b ∷ begun) [] f fs more n g e = absurd g
group_begins (b ∷ begun) (h ∷ []) f fs more n g e =
    let k : b ≡ h = cc in
    let l : b.last ≡ false = n.0 in
    let m : b.last ≡ true = ap (λ x. x.last) k ∙ g in
    cc
group_begins (b ∷ begun) (h ∷ i ∷ group) f fs more n g e =
    let k : b ≡ h = cc in
    let t : begun ++ f ∷ fs ≡ (i ∷ group) ++ more = cc in
    let r = group_begins begun (i ∷ group) f fs more n.1 g.1 t in
    (r.0, ap (λ x. x ∷ i ∷ group) (sym k) ∙ ap (λ x. b ∷ x) r.1)

none_ahead : (limit : ℕ) (begun : List Fragment) → NoneLast begun → NoMessageAhead limit begun
none_ahead limit begun n group more m h e = no_group group more h.group (subst NoneLast e n)

over_ahead : (limit : ℕ) (begun : List Fragment) (f : Fragment) (fs : List Fragment) → NoneLast begun → is_over limit (begun ++ f ∷ []) ≡ true → NoMessageAhead limit (begun ++ f ∷ fs)
over_ahead limit begun f fs n o group more m h e =
    let r = group_begins begun group f fs more n h.group e in
    let over : is_over limit group ≡ true = ap (is_over limit) r.1 ∙ over_more limit (begun ++ f ∷ []) r.0 o in
    let fits : length (octets_of group) ≤ limit = subst (λ (x : List ℕ). length x ≤ limit) h.octets h.fits in
    let not : is_over limit group ≡ false = is_within limit group h.fragments fits in
    cc

message_of : (limit : ℕ) (group : List Fragment) → IsGroup group → is_over limit group ≡ false → IsMessage limit group (octets_of group)
message_of limit group g o =
    let w = within limit group o in
    record { group = g; fragments = w.0; octets = refl; fits = w.1 }

-- what is read are messages
joins : (limit : ℕ) (ms : List (List ℕ)) (begun fs : List Fragment) → NoneLast begun → is_over limit begun ≡ false
    → (ps : List (List ℕ)) × ((read limit ms begun fs).0 ≡ ms ++ ps) × AreJoined limit (begun ++ fs) ps (read limit ms begun fs).1 × NoMessageAhead limit (read limit ms begun fs).1
joins limit ms begun [] n o = ([], sym (append-nil ms), append-nil begun, none_ahead limit begun n)
joins limit ms begun (f ∷ fs) n o =
    let P : List (List ℕ) × List Fragment → Type 0 = λ r. (ps : List (List ℕ)) × (r.0 ≡ ms ++ ps) × AreJoined limit (begun ++ f ∷ fs) ps r.1 × NoMessageAhead limit r.1 in
    elim (cases_Bool (is_over limit (begun ++ f ∷ []))) [
      | inl h ↦ subst P (sym (read_over limit ms begun f fs h)) ([], sym (append-nil ms), refl, over_ahead limit begun f fs n h)
      | inr h ↦ elim (cases_Bool f.last) [
        | inl l ↦
            let i = joins limit (ms ++ octets_of (begun ++ f ∷ []) ∷ []) [] fs tt (over_none limit) in
            subst P (sym (read_last limit ms begun f fs h l)) (
              octets_of (begun ++ f ∷ []) ∷ i.0,
              i.1 ∙ append_assoc ms (octets_of (begun ++ f ∷ []) ∷ []) i.0,
              (begun ++ f ∷ [], fs, message_of limit (begun ++ f ∷ []) (ends_group begun f n l) h, one_more begun f fs, i.2),
              i.3,
            )
        | inr l ↦
            let i = joins limit ms (begun ++ f ∷ []) fs (none_last begun f n l) h in
            subst P (sym (read_begun limit ms begun f fs h l)) (
              i.0,
              i.1,
              subst (λ (x : List Fragment). AreJoined limit x i.0 (read limit ms (begun ++ f ∷ []) fs).1) (sym (one_more begun f fs)) i.2,
              i.3,
            )
      ]
    ]

-- a group is read as one message
read_group : (limit : ℕ) (ms : List (List ℕ)) (begun group more : List Fragment) → IsGroup group → is_over limit (begun ++ group) ≡ false
    → read limit ms begun (group ++ more) ≡ read limit (ms ++ octets_of (begun ++ group) ∷ []) [] more
read_group limit ms begun [] more g o = absurd g
read_group limit ms begun (f ∷ []) more g o = read_last limit ms begun f more o g
read_group limit ms begun (f ∷ h ∷ group) more g o =
    let e = one_more begun f (h ∷ group) in
    let w : is_over limit ((begun ++ f ∷ []) ++ (h ∷ group)) ≡ false = ap (is_over limit) (sym e) ∙ o in
    read_begun limit ms begun f ((h ∷ group) ++ more) (within_front limit (begun ++ f ∷ []) (h ∷ group) w) g.0
    ∙ read_group limit ms (begun ++ f ∷ []) (h ∷ group) more g.1 w
    ∙ ap (λ x. read limit (ms ++ octets_of x ∷ []) [] more) (sym e)

-- where no message stands at the front, none is read
read_none : (limit : ℕ) (ms : List (List ℕ)) (begun fs : List Fragment) → NoneLast begun → NoMessageAhead limit (begun ++ fs) → read limit ms begun fs ≡ (ms, begun ++ fs)
read_none limit ms begun [] n a = ap (λ x. (ms, x)) (sym (append-nil begun))
read_none limit ms begun (f ∷ fs) n a = elim (cases_Bool (is_over limit (begun ++ f ∷ []))) [
  | inl h ↦ read_over limit ms begun f fs h
  | inr h ↦ elim (cases_Bool f.last) [
    | inl l ↦ absurd (a (begun ++ f ∷ []) fs (octets_of (begun ++ f ∷ [])) (message_of limit (begun ++ f ∷ []) (ends_group begun f n l) h) (one_more begun f fs))
    | inr l ↦
        read_begun limit ms begun f fs h l
        ∙ read_none limit ms (begun ++ f ∷ []) fs (none_last begun f n l) (subst (NoMessageAhead limit) (one_more begun f fs) a)
        ∙ ap (λ x. (ms, x)) (sym (one_more begun f fs))
  ]
]

joins_only : (limit : ℕ) (before : List (List ℕ)) (fs : List Fragment) (ms : List (List ℕ)) (rest : List Fragment) → AreJoined limit fs ms rest → NoMessageAhead limit rest
    → read limit before [] fs ≡ (before ++ ms, rest)
joins_only limit before fs [] rest j a =
    read_none limit before [] fs tt (subst (NoMessageAhead limit) (sym j) a)
    ∙ ap (λ x. (before, x)) j
    ∙ ap (λ x. (x, rest)) (sym (append-nil before))
joins_only limit before fs (m ∷ ms) rest j a =
    let group = j.0 in
    let more = j.1 in
    let h = j.2 in
    let fits : length (octets_of group) ≤ limit = subst (λ (x : List ℕ). length x ≤ limit) h.octets h.fits in
    ap (read limit before []) j.3
    ∙ read_group limit before [] group more h.group (is_within limit group h.fragments fits)
    ∙ ap (λ x. read limit (before ++ x ∷ []) [] more) (sym h.octets)
    ∙ joins_only limit (before ++ m ∷ []) more ms rest j.4 a
    ∙ ap (λ x. (x, rest)) (append_assoc before (m ∷ []) ms)

pub one_joining_reads : (limit : ℕ) (fs : List Fragment) → Messages limit fs (messages_of limit fs) (rest_of limit fs)
unfolding messages_of rest_of
one_joining_reads limit fs =
    let i = joins limit [] [] fs tt (over_none limit) in
    (subst (λ (x : List (List ℕ)). AreJoined limit fs x (read limit [] [] fs).1) (sym i.1) i.2, i.3)

pub one_joining_only : (limit : ℕ) (fs : List Fragment) (ms : List (List ℕ)) (rest : List Fragment) → Messages limit fs ms rest → (messages_of limit fs ≡ ms) × (rest_of limit fs ≡ rest)
unfolding messages_of rest_of
one_joining_only limit fs ms rest h =
    let e = joins_only limit [] fs ms rest h.0 h.1 in
    (ap (λ r. r.0) e, ap (λ r. r.1) e)

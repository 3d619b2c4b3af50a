-- Laws of the octets that a job used: each was used where octets were awaited, and after all that could be sent was
-- transmitted.
use Rattle.std.proofs.Common.{◌≡◌, ◌⊎◌, inl, inr, ℕ, ◌<◌, ◌≤◌, List, [], ◌∷◌, ◌++◌, length, take}
use Rattle.std.proofs.Common.{refl, ap, sym, ◌∙◌, subst, arith, length-append}
use Rattle.std.proofs.lemmas.List.{append-nil, length-take-le, take-take}
use Rattle.s7_tpkt.specs.Cut.{Cut}
use Rattle.s7_tpkt.specs.Packets.{HoldsRest, state_of}
use Rattle.s7_tpkt.specs.declared.state.FedState.TheVariants as fed
use Rattle.s7_tpkt.proofs.PacketLemmas.{goes_on_at}
use Rattle.s7_dialogue.specs.Course.{Origin, course, may_send, limits}
use Rattle.s7_client.specs.Standing.{AwaitsOctets, AllAwaited, SentFirst, IsPrefixOf}
use Rattle.s7_client.proofs.CourseLemmas.{course_on_more}

-- ---- fronts of a list of two parts

abbrev head_of : ℕ → List ℕ → ℕ
head_of default [] = default
head_of default (x ∷ xs) = x

abbrev tail_of : List ℕ → List ℕ
tail_of [] = []
tail_of (x ∷ xs) = xs

take_front : (xs ys : List ℕ) → take (length xs) (xs ++ ys) ≡ xs
take_front [] ys = refl
take_front (x ∷ xs) ys = ap (λ zs. x ∷ zs) (take_front xs ys)

-- a front of a list of two parts ends in the first part, or takes it whole
abbrev pub IsSplit : List ℕ → List ℕ → List ℕ → List ℕ → Type 0
IsSplit xs more front rest =
    ((z : List ℕ) × (xs ≡ front ++ z) × (0 < length z)) ⊎ ((z : List ℕ) × (front ≡ xs ++ z) × (more ≡ z ++ rest))

further : (x y : ℕ) (xs front more rest : List ℕ) → x ≡ y → IsSplit xs more front rest
    → IsSplit (x ∷ xs) more (y ∷ front) rest
further x y xs front more rest same (inl h) = inl (h.0, ap (λ a. a ∷ xs) same ∙ ap (λ zs. y ∷ zs) h.1, h.2)
further x y xs front more rest same (inr h) = inr (h.0, ap (λ a. a ∷ front) (sym same) ∙ ap (λ zs. x ∷ zs) h.1, h.2)

pub split_front : (xs more front rest : List ℕ) → xs ++ more ≡ front ++ rest → IsSplit xs more front rest
split_front [] more front rest e = inr (front, refl, e)
split_front (x ∷ xs) more [] rest e = inl (x ∷ xs, refl, omega arith)
split_front (x ∷ xs) more (y ∷ front) rest e =
    further x y xs front more rest (ap (head_of x) e) (split_front xs more front rest (ap tail_of e))

-- ---- octets of one packet

-- no octet before the last one ends a packet or shows a fault
abbrev pub OnlyLastShows : ℕ → List ℕ → List ℕ → Type 0
OnlyLastShows limit held used = (k : ℕ) → k < length used → state_of limit (held ++ take k used) ≡ fed.More

-- a front ends before the packet, or has the course of before it
abbrev IsEarlier : Origin → List ℕ → List ℕ → Type 0
IsEarlier origin b front =
    ((z : List ℕ) × (b ≡ front ++ z) × (0 < length z)) ⊎ (course origin front ≡ course origin b)

-- while a packet comes, the course is that before it
front_course : (origin : Origin) (b used front rest : List ℕ) (cutter : Cut) → HoldsRest (limits origin) b cutter
    → state_of cutter.limit cutter.held ≡ fed.More
    → OnlyLastShows cutter.limit cutter.held used
    → 0 < length rest → IsSplit b used front rest → IsEarlier origin b front
front_course origin b used front rest cutter h more earliest some (inl y) = inl y
front_course origin b used front rest cutter h more earliest some (inr y) =
    let z = y.0 in
    let less : length z < length used = omega (arith, ap length y.2, length-append z rest, some) in
    let still : state_of cutter.limit (cutter.held ++ z) ≡ fed.More =
    subst (λ x. state_of cutter.limit (cutter.held ++ x) ≡ fed.More) (ap (take (length z)) y.2 ∙ take_front z rest)
    (earliest (length z) less) in
    let g =
    goes_on_at (limits origin) b z cutter.held cutter.limit fed.More h.held h.limit (sym still) (λ e. absurd (cc)) in
    let cutter' : Cut = record { held = cutter.held ++ z; limit = cutter.limit } in
    inr (ap (course origin) y.1 ∙ course_on_more origin b z cutter cutter' h more g refl refl still)

awaited_there : (origin : Origin) (b front : List ℕ) → AwaitsOctets (course origin b).awaits → AllAwaited origin b
    → IsEarlier origin b front → AwaitsOctets (course origin front).awaits
awaited_there origin b front awaits all (inl y) = all front y.0 y.1 y.2
awaited_there origin b front awaits all (inr same) = subst (λ c. AwaitsOctets c.awaits) (sym same) awaits

-- octets of one packet, of which no earlier one ended it, were each used where octets were awaited
pub all_awaited_on : (origin : Origin) (b used : List ℕ) (cutter : Cut) → HoldsRest (limits origin) b cutter
    → state_of cutter.limit cutter.held ≡ fed.More
    → OnlyLastShows cutter.limit cutter.held used
    → AwaitsOctets (course origin b).awaits → AllAwaited origin b → AllAwaited origin (b ++ used)
all_awaited_on origin b used cutter h more earliest awaits all front rest e some =
    awaited_there origin b front awaits all
    (front_course origin b used front rest cutter h more earliest some (split_front b used front rest e))

sent_there : (origin : Origin) (b front w : List ℕ) → may_send origin b ≡ w → SentFirst origin b w
    → IsEarlier origin b front → IsPrefixOf (may_send origin front) w
sent_there origin b front w sent first (inl y) = first front y.0 y.1 y.2
sent_there origin b front w sent first (inr same) =
    ([], sym sent ∙ (ap (λ c. c.out) (sym same) ∙ sym (append-nil (course origin front).out)))

-- and each after all that could be sent was transmitted, where that was so before the packet
pub sent_first_on : (origin : Origin) (b used w : List ℕ) (cutter : Cut) → HoldsRest (limits origin) b cutter
    → state_of cutter.limit cutter.held ≡ fed.More
    → OnlyLastShows cutter.limit cutter.held used
    → may_send origin b ≡ w → SentFirst origin b w → SentFirst origin (b ++ used) w
sent_first_on origin b used w cutter h more earliest sent first front rest e some =
    sent_there origin b front w sent first
    (front_course origin b used front rest cutter h more earliest some (split_front b used front rest e))

-- what is so at all fronts of a piece is so at those of a front of it
pub earliest_of : (limit : ℕ) (held piece : List ℕ) (n : ℕ) → n ≤ length piece
    → ((k : ℕ) → k < n → state_of limit (held ++ take k piece) ≡ fed.More)
    → OnlyLastShows limit held (take n piece)
earliest_of limit held piece n least h k less =
    let below : k < n = omega (arith, less, length-take-le n piece least) in
    subst (λ x. state_of limit (held ++ x) ≡ fed.More) (sym (take-take k n piece (omega (arith, below)))) (h k below)

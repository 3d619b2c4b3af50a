-- Laws of courses.
use Rattle.std.proofs.Common.{◌≡◌, ◌==◌, ℕ, ◌+◌, ◌*◌, ◌<◌, ◌≤◌, Bool, true, false, cond, List, [], ◌∷◌, ◌++◌, length, refl, ap, sym, ◌∙◌, arith}
use Rattle.std.proofs.lemmas.Bool.Decides.{nat_tests}
use Rattle.s7_tpkt.specs.Cut.{Cut}
use Rattle.s7_tpkt.specs.Packets.{packets_of, rest_of, state_of, state_by, if_begun, HoldsRest, GoesOn, EndsPacket}
use Rattle.s7_tpkt.specs.declared.state.FedState.{FedState}
use Rattle.s7_tpkt.specs.declared.state.FedState.TheVariants as fed
use Rattle.s7_dialogue.specs.Course.{Origin, Course, Awaits, for_confirm, for_answers, for_departure, for_nothing, begun, run, with_packet, with_rest, unless_over, packets_run, course, limits, limit_in}

pub run-append : (origin : Origin) (c : Course) (xs ys : List (List ℕ))
    → run origin c (xs ++ ys) ≡ run origin (run origin c xs) ys
run-append origin c [] ys = refl
run-append origin c (x ∷ xs) ys = run-append origin (with_packet origin c x) xs ys

same_unless : (c : Course) (awaits : Awaits) → unless_over c c awaits ≡ c
same_unless c for_confirm = refl
same_unless c for_answers = refl
same_unless c for_departure = refl
same_unless c (for_nothing end carried) = refl

-- where no fault shows, the course is that of the packets
course_more : (origin : Origin) (b : List ℕ)
    → state_of (limits origin (packets_of (limits origin) b)) (rest_of (limits origin) b) ≡ fed.More
    → course origin b ≡ packets_run origin b
unfolding course
course_more origin b h =
    ap (λ s. with_rest (packets_run origin b) s) h ∙ same_unless (packets_run origin b) (packets_run origin b).awaits

state_held : (limits : List (List ℕ) → ℕ) (b : List ℕ) (cutter : Cut) → HoldsRest limits b cutter
    → state_of (limits (packets_of limits b)) (rest_of limits b) ≡ state_of cutter.limit cutter.held
state_held limits b cutter h = ap (λ n. state_of n (rest_of limits b)) h.limit ∙ ap (state_of cutter.limit) h.held

pub course_held : (origin : Origin) (b : List ℕ) (cutter : Cut) → HoldsRest (limits origin) b cutter
    → state_of cutter.limit cutter.held ≡ fed.More → course origin b ≡ packets_run origin b
course_held origin b cutter h more = course_more origin b (state_held (limits origin) b cutter h ∙ more)

-- octets that end no packet
pub holds_on : (limits : List (List ℕ) → ℕ) (b used : List ℕ) (cutter cutter' : Cut) → HoldsRest limits b cutter
    → GoesOn limits b used
    → cutter'.held ≡ cutter.held ++ used → cutter'.limit ≡ cutter.limit → HoldsRest limits (b ++ used) cutter'
holds_on limits b used cutter cutter' h g held limit = record {
  held = g.rest ∙ (ap (λ x. x ++ used) h.held ∙ sym held);
  limit = ap limits g.packets ∙ (h.limit ∙ sym limit);
}

-- the course after them, by what they show
pub course_on : (origin : Origin) (b used : List ℕ) (cutter cutter' : Cut) → HoldsRest (limits origin) b cutter
    → state_of cutter.limit cutter.held ≡ fed.More
    → GoesOn (limits origin) b used → cutter'.held ≡ cutter.held ++ used → cutter'.limit ≡ cutter.limit
    → course origin (b ++ used) ≡ with_rest (course origin b) (state_of cutter'.limit cutter'.held)
unfolding course
course_on origin b used cutter cutter' h more g held limit =
    let same : packets_run origin (b ++ used) ≡ packets_run origin b = ap (run origin (begun origin)) g.packets in
    let all = packets_of (limits origin) (b ++ used) in
    let rest = rest_of (limits origin) (b ++ used) in
    ap (λ c. with_rest c (state_of (limits origin all) rest)) (same ∙ sym (course_held origin b cutter h more))
    ∙ ap (with_rest (course origin b))
    (state_held (limits origin) (b ++ used) cutter'
    (holds_on (limits origin) b used cutter cutter' h g held limit))

pub course_on_more : (origin : Origin) (b used : List ℕ) (cutter cutter' : Cut) → HoldsRest (limits origin) b cutter
    → state_of cutter.limit cutter.held ≡ fed.More
    → GoesOn (limits origin) b used → cutter'.held ≡ cutter.held ++ used → cutter'.limit ≡ cutter.limit
    → state_of cutter'.limit cutter'.held ≡ fed.More
    → course origin (b ++ used) ≡ course origin b
course_on_more origin b used cutter cutter' h more g held limit still =
    course_on origin b used cutter cutter' h more g held limit
    ∙ (ap (with_rest (course origin b)) still ∙ same_unless (course origin b) (course origin b).awaits)

-- a packet ends
pub course_ends : (origin : Origin) (b used body : List ℕ) (cutter : Cut) → HoldsRest (limits origin) b cutter
    → state_of cutter.limit cutter.held ≡ fed.More
    → EndsPacket (limits origin) b used body → course origin (b ++ used) ≡ with_packet origin (course origin b) body
course_ends origin b used body cutter h more e =
    let all = packets_of (limits origin) (b ++ used) in
    course_more origin (b ++ used) (ap (state_of (limits origin all)) e.rest)
    ∙ (ap (run origin (begun origin)) e.packets
    ∙ (run-append origin (begun origin) (packets_of (limits origin) b) (body ∷ [])
    ∙ ap (λ c. with_packet origin c body) (sym (course_held origin b cutter h more))))

-- the limit of the next packet is that of the course
pub limit_after : (origin : Origin) (b used body : List ℕ) (cutter : Cut) → HoldsRest (limits origin) b cutter
    → state_of cutter.limit cutter.held ≡ fed.More
    → EndsPacket (limits origin) b used body
    → limits origin (packets_of (limits origin) (b ++ used)) ≡ limit_in (course origin (b ++ used))
limit_after origin b used body cutter h more e =
    let all = packets_of (limits origin) (b ++ used) in
    ap limit_in (sym (course_more origin (b ++ used) (ap (state_of (limits origin all)) e.rest)))

-- ---- octets of a packet that isn't whole

more_by : (limit size held : ℕ) → state_by limit size held ≡ fed.More → (held < size) × (size ≤ limit)
more_by limit size held e = grind (arith, nat_tests)

begun_cases : (b : Bool) (s : FedState) → cond b s fed.BadVersion ≡ fed.More → s ≡ fed.More
begun_cases true s e = e
begun_cases false s e = absurd (cc)

begun_more : (v : ℕ) (s : FedState) → if_begun v s ≡ fed.More → s ≡ fed.More
begun_more v s e = begun_cases (v == 3) s e

pub more_short : (limit : ℕ) (held : List ℕ) → limit ≤ 8199 → state_of limit held ≡ fed.More → length held ≤ 8199
more_short limit [] most e = omega arith
more_short limit (v ∷ []) most e = omega arith
more_short limit (v ∷ r ∷ []) most e = omega arith
more_short limit (v ∷ r ∷ hi ∷ []) most e = omega arith
more_short limit (v ∷ r ∷ hi ∷ lo ∷ body) most e =
    let h = more_by limit (256 * hi + lo) (length body + 4) (begun_more v _ e) in
    omega (arith, most, h.0, h.1)

-- ---- before any octet

pub course_nothing : (origin : Origin) → course origin [] ≡ begun origin
unfolding course packets_of rest_of
course_nothing origin = same_unless (begun origin) (begun origin).awaits

pub holds_nothing : (limits : List (List ℕ) → ℕ) (cutter : Cut) → cutter.held ≡ [] → cutter.limit ≡ limits []
    → HoldsRest limits [] cutter
unfolding packets_of rest_of
holds_nothing limits cutter held limit = record { held = sym held; limit = sym limit }

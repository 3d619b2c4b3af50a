-- Fronts of a packet.
use Rattle.std.proofs.Common.{◌≡◌, ℕ, ◌+◌, ◌*◌, ◌/◌, ◌%◌, ◌<◌, ◌≤◌, List, [], ◌∷◌, ◌++◌, length, refl, ap, ◌∙◌, arith, length-append}
use Rattle.std.proofs.lemmas.Bool.Decides.{nat_tests}
use Rattle.s7_tpkt.specs.Packets.{state_of, state_by, if_begun, packet_of}
use Rattle.s7_tpkt.specs.declared.state.FedState.{FedState}
use Rattle.s7_tpkt.specs.declared.state.FedState.TheVariants.{More}
use Rattle.s7_rig.proofs.ListFacts.{head_of, tail_of}

begun_by : (x : ℕ) (s : FedState) → x ≡ 3 → if_begun x s ≡ s
begun_by x s e = ap (λ v. if_begun v s) e

short_more : (limit size held : ℕ) → 7 ≤ size → size ≤ limit → held < size → state_by limit size held ≡ More
short_more limit size held least most less = grind (arith, nat_tests)

stated_more : (limit n hi lo held : ℕ) → hi ≡ n / 256 → lo ≡ n % 256 → 7 ≤ n → n ≤ limit → held < n → state_by limit (256 * hi + lo) held ≡ More
stated_more limit n hi lo held high low least most less =
    short_more limit (256 * hi + lo) held (omega (arith, high, low, least)) (omega (arith, high, low, most)) (omega (arith, high, low, less))

-- of a packet that isn't whole, more has to come
pub front_more : (limit : ℕ) (body u v : List ℕ) → 3 ≤ length body → length body + 4 ≤ limit → u ++ v ≡ packet_of body → 0 < length v → state_of limit u ≡ More
front_more limit body [] v least most e some = refl
front_more limit body (x ∷ []) v least most e some = begun_by x More (ap head_of e)
front_more limit body (x ∷ r ∷ []) v least most e some = begun_by x More (ap head_of e)
front_more limit body (x ∷ r ∷ hi ∷ []) v least most e some = begun_by x More (ap head_of e)
front_more limit body (x ∷ r ∷ hi ∷ lo ∷ w) v least most e some =
    let high : hi ≡ (length body + 4) / 256 = ap (λ xs. head_of (tail_of (tail_of xs))) e in
    let low : lo ≡ (length body + 4) % 256 = ap (λ xs. head_of (tail_of (tail_of (tail_of xs)))) e in
    let left : w ++ v ≡ body = ap (λ xs. tail_of (tail_of (tail_of (tail_of xs)))) e in
    let less : length w + 4 < length body + 4 = omega (arith, ap length left, length-append w v, some) in
    begun_by x (state_by limit (256 * hi + lo) (length w + 4)) (ap head_of e)
    ∙ stated_more limit (length body + 4) hi lo (length w + 4) high low (omega (arith, least)) most less

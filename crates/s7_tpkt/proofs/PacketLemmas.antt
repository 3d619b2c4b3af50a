-- Laws of packets on a stream.
use Rattle.std.proofs.Common.{◌≡◌, ◌≢◌, ℕ, zero, suc, ◌+◌, ◌-◌, ◌*◌, ◌≤◌, Bool, true, false, cond, List, [], ◌∷◌, ◌++◌, length, take, drop, refl, ap, sym, ◌∙◌, subst, append_assoc, arith, length-append, length-drop}
use Rattle.std.proofs.lemmas.List.{append-nil, take-append-le, drop-append-le, take-append-drop, length-take-le}
use Rattle.std.proofs.lemmas.Bool.Decides.{nat_tests}
use Rattle.std.proofs.Math.Seq.{take-length, drop-length, take-append_seam, drop-append_seam}
use Rattle.s7_tpkt.specs.declared.state.FedState.{FedState}
use Rattle.s7_tpkt.specs.declared.state.FedState.TheVariants.{Whole, More, BadVersion, BadLength, TooLong}
use Rattle.s7_tpkt.specs.Packets.{IsPacket, NoPacketAhead, Packets, Packed, body_of, state_of, state_by, if_begun, length_field, is_whole, cut, packets_of, rest_of, GoesOn, EndsPacket, GoesFurther, HoldsRest, is_fault}
use Rattle.s7_tpkt.specs.Cut.{Cut}

-- a packet has its header, and passes no limit
pub packet_length : (limit : ℕ) (q : List ℕ) → IsPacket limit q → (7 ≤ length q) × (length q ≤ limit)
packet_length limit [] h = absurd h
packet_length limit (v ∷ []) h = absurd h
packet_length limit (v ∷ r ∷ []) h = absurd h
packet_length limit (v ∷ r ∷ hi ∷ []) h = absurd h
packet_length limit (v ∷ r ∷ hi ∷ lo ∷ body) h = (omega (arith, h.2), omega (arith, h.3))

-- what the length field of a whole packet and more octets says
pub record IsWhole (limit : ℕ) (b : List ℕ) : Type 0 where
  pub least : 7 ≤ length_field b
  pub most : length_field b ≤ length b
  pub more : (used : List ℕ) → (is_whole (state_of limit (b ++ used)) ≡ true) × (length_field (b ++ used) ≡ length_field b)

whole_by : (limit size held : ℕ) → is_whole (state_by limit size held) ≡ true → (7 ≤ size) × (size ≤ held) × ((more : ℕ) → held ≤ more → is_whole (state_by limit size more) ≡ true)
whole_by limit size held h = (grind (arith, nat_tests), grind (arith, nat_tests), λ more le. grind (arith, nat_tests))

begun : (v : ℕ) (s : FedState) → is_whole (if_begun v s) ≡ true → (v ≡ 3) × (is_whole s ≡ true)
begun v s h = grind (arith, nat_tests)

pub whole : (limit : ℕ) (b : List ℕ) → is_whole (state_of limit b) ≡ true → IsWhole limit b
whole limit [] h = cc
whole limit (v ∷ []) h = let e = (begun v More h).1 in cc
whole limit (v ∷ r ∷ []) h = let e = (begun v More h).1 in cc
whole limit (v ∷ r ∷ hi ∷ []) h = let e = (begun v More h).1 in cc
whole limit (v ∷ r ∷ hi ∷ lo ∷ body) h =
    let e = begun v (state_by limit (256 * hi + lo) (length body + 4)) h in
    let f = whole_by limit (256 * hi + lo) (length body + 4) e.1 in
    record {
      least = f.0;
      most = omega (arith, f.1);
      more = λ used. (ap (λ n. is_whole (if_begun n (state_by limit (256 * hi + lo) (length (body ++ used) + 4)))) e.0 ∙ f.2 (length (body ++ used) + 4) (omega (arith, length-append body used)), refl);
    }

-- a packet is whole, and has its length in its length field
packet_whole : (limit : ℕ) (q : List ℕ) → IsPacket limit q → (is_whole (state_of limit q) ≡ true) × (length_field q ≡ length q)
packet_whole limit [] h = absurd h
packet_whole limit (v ∷ []) h = absurd h
packet_whole limit (v ∷ r ∷ []) h = absurd h
packet_whole limit (v ∷ r ∷ hi ∷ []) h = absurd h
packet_whole limit (v ∷ r ∷ hi ∷ lo ∷ body) h = (grind (arith, nat_tests), omega (arith, h.1))

same_cond : {A : Type 0} (t : Bool) (x y z w : A) → (t ≡ true → x ≡ z) → (t ≡ false → y ≡ w) → cond t x y ≡ cond t z w
same_cond true x y z w f g = f refl
same_cond false x y z w f g = g refl

second : {A : Type 0} (t : Bool) (x y : A) → (t ≡ true → ⊥) → cond t x y ≡ y
second true x y f = absurd (f refl)
second false x y f = refl

-- how many packets are looked at makes no difference, if there are enough
cut_same : (limits : List (List ℕ) → ℕ) (before : List (List ℕ)) (n m : ℕ) (b : List ℕ) → length b ≤ n → length b ≤ m → cut limits before n b ≡ cut limits before m b
cut_same limits before zero zero b p q = refl
cut_same limits before zero (suc m) b p q =
    sym (second (is_whole (state_of (limits before) b)) _ (before, b) (λ w. let i = whole (limits before) b w in omega (arith, i.least, i.most)))
cut_same limits before (suc n) zero b p q =
    second (is_whole (state_of (limits before) b)) _ (before, b) (λ w. let i = whole (limits before) b w in omega (arith, i.least, i.most))
cut_same limits before (suc n) (suc m) b p q =
    same_cond (is_whole (state_of (limits before) b)) _ (before, b) _ (before, b)
    (λ w. let i = whole (limits before) b w in
    cut_same limits (before ++ body_of (take (length_field b) b) ∷ []) n m (drop (length_field b) b)
    (omega (arith, i.least, i.most, length-drop (length_field b) b)) (omega (arith, i.least, i.most, length-drop (length_field b) b)))
    (λ w. refl)

-- a packet that is whole is cut off
cut_step : (limits : List (List ℕ) → ℕ) (before : List (List ℕ)) (m k : ℕ) (b : List ℕ) → is_whole (state_of (limits before) b) ≡ true → length b ≤ m → length b ≤ k
    → cut limits before m b ≡ cut limits (before ++ body_of (take (length_field b) b) ∷ []) k (drop (length_field b) b)
cut_step limits before zero k b w p q = let i = whole (limits before) b w in absurd (omega (arith, i.least, i.most))
cut_step limits before (suc m) k b w p q =
    let i = whole (limits before) b w in
    ap (λ t. cond t (cut limits (before ++ body_of (take (length_field b) b) ∷ []) m (drop (length_field b) b)) (before, b)) w
    ∙ cut_same limits (before ++ body_of (take (length_field b) b) ∷ []) m k (drop (length_field b) b)
    (omega (arith, i.least, i.most, length-drop (length_field b) b)) (omega (arith, i.least, i.most, length-drop (length_field b) b))

-- more octets are read from where the octets before them end
cut_more : (limits : List (List ℕ) → ℕ) (before : List (List ℕ)) (n m k : ℕ) (b used : List ℕ) → length b ≤ n → length (b ++ used) ≤ m → length (b ++ used) ≤ k
    → cut limits before m (b ++ used) ≡ cut limits (cut limits before n b).0 k ((cut limits before n b).1 ++ used)
cut_more limits before zero m k b used p q r = cut_same limits before m k (b ++ used) q r
cut_more limits before (suc n) m k b used p q r =
    let front = before ++ body_of (take (length_field b) b) ∷ [] in
    let inner = cut limits front n (drop (length_field b) b) in
    elim (is_whole (state_of (limits before) b)) as (λ v. is_whole (state_of (limits before) b) ≡ v
    → cut limits before m (b ++ used) ≡ cut limits (cond v inner (before, b)).0 k ((cond v inner (before, b)).1 ++ used)) [
      | true ↦ λ w.
          let i = whole (limits before) b w in
          let e = i.more used in
          let size : length_field (b ++ used) ≡ length_field b = e.1 in
          let fits : length_field b ≤ length b = i.most in
          let shown : drop (length_field b) (b ++ used) ≡ drop (length_field b) b ++ used = drop-append-le (length_field b) b used fits in
          cut_step limits before m k (b ++ used) e.0 q r
          ∙ ap (λ s. cut limits (before ++ body_of (take s (b ++ used)) ∷ []) k (drop s (b ++ used))) size
          ∙ ap (λ t. cut limits (before ++ body_of t ∷ []) k (drop (length_field b) (b ++ used))) (take-append-le (length_field b) b used fits)
          ∙ ap (λ t. cut limits front k t) shown
          ∙ cut_more limits front n k k (drop (length_field b) b) used
          (omega (arith, i.least, i.most, length-drop (length_field b) b))
          (omega (arith, length-append b used, length-append (drop (length_field b) b) used, length-drop (length_field b) b))
          (omega (arith, length-append b used, length-append (drop (length_field b) b) used, length-drop (length_field b) b))
      | false ↦ λ w. cut_same limits before m k (b ++ used) q r
    ] refl

cut_none : (limits : List (List ℕ) → ℕ) (before : List (List ℕ)) (k : ℕ) → cut limits before k [] ≡ (before, [])
cut_none limits before zero = refl
cut_none limits before (suc k) = refl

pub goes_on : (limits : List (List ℕ) → ℕ) (b used : List ℕ) → is_whole (state_of (limits (packets_of limits b)) (rest_of limits b ++ used)) ≡ false → GoesOn limits b used
unfolding packets_of rest_of
goes_on limits b used h =
    let n = length (b ++ used) in
    let ps = (cut limits [] (length b) b).0 in
    let rest = (cut limits [] (length b) b).1 in
    let e : cut limits [] n (b ++ used) ≡ (ps, rest ++ used) =
    cut_more limits [] (length b) n (suc n) b used (omega arith) (omega arith) (omega arith)
    ∙ ap (λ t. cond t (cut limits (ps ++ body_of (take (length_field (rest ++ used)) (rest ++ used)) ∷ []) n (drop (length_field (rest ++ used)) (rest ++ used))) (ps, rest ++ used)) h in
    record { packets = ap (λ x. x.0) e; rest = ap (λ x. x.1) e }

pub ends_packet : (limits : List (List ℕ) → ℕ) (b used : List ℕ) → IsPacket (limits (packets_of limits b)) (rest_of limits b ++ used) → EndsPacket limits b used (body_of (rest_of limits b ++ used))
unfolding packets_of rest_of
ends_packet limits b used h =
    let ps = (cut limits [] (length b) b).0 in
    let q = (cut limits [] (length b) b).1 ++ used in
    let n = length (b ++ used) in
    let k = n + length q in
    let w = packet_whole (limits ps) q h in
    let e : cut limits [] n (b ++ used) ≡ (ps ++ body_of q ∷ [], []) =
    cut_more limits [] (length b) n k b used (omega arith) (omega arith) (omega arith)
    ∙ cut_step limits ps k k q w.0 (omega arith) (omega arith)
    ∙ ap (λ s. cut limits (ps ++ body_of (take s q) ∷ []) k (drop s q)) w.1
    ∙ ap (λ t. cut limits (ps ++ body_of t ∷ []) k (drop (length q) q)) (take-length q)
    ∙ ap (λ t. cut limits (ps ++ body_of q ∷ []) k t) (drop-length q)
    ∙ cut_none limits (ps ++ body_of q ∷ []) k in
    record { packets = ap (λ x. x.0) e; rest = ap (λ x. x.1) e }

not_whole : (s : FedState) → s ≢ Whole → is_whole s ≡ false
not_whole Whole h = absurd (h refl)
not_whole More h = refl
not_whole BadVersion h = refl
not_whole BadLength h = refl
not_whole TooLong h = refl

-- the same by what a cutter holds
pub goes_on_at : (limits : List (List ℕ) → ℕ) (b used held : List ℕ) (limit : ℕ) (s : FedState) → rest_of limits b ≡ held → limits (packets_of limits b) ≡ limit → s ≡ state_of limit (held ++ used) → s ≢ Whole → GoesOn limits b used
goes_on_at limits b used held limit s h l e n =
    goes_on limits b used (ap (λ x. is_whole (state_of x (rest_of limits b ++ used))) l ∙ ap (λ x. is_whole (state_of limit (x ++ used))) h ∙ ap is_whole (sym e) ∙ not_whole s n)

pub ends_packet_at : (limits : List (List ℕ) → ℕ) (b used held : List ℕ) (limit : ℕ) → rest_of limits b ≡ held → limits (packets_of limits b) ≡ limit → IsPacket limit (held ++ used) → EndsPacket limits b used (body_of (held ++ used))
ends_packet_at limits b used held limit h l k =
    let P : List ℕ → Type 0 = λ x. IsPacket (limits (packets_of limits b)) (x ++ used) → EndsPacket limits b used (body_of (x ++ used)) in
    let Q : ℕ → Type 0 = λ x. IsPacket x (held ++ used) in
    subst P h (ends_packet limits b used) (subst Q (sym l) k)

cut_keeps : (limits : List (List ℕ) → ℕ) (before : List (List ℕ)) (n : ℕ) (b : List ℕ) → (tail : List (List ℕ)) × ((cut limits before n b).0 ≡ before ++ tail)
cut_keeps limits before zero b = ([], sym (append-nil before))
cut_keeps limits before (suc n) b =
    let front = before ++ body_of (take (length_field b) b) ∷ [] in
    let inner = cut_keeps limits front n (drop (length_field b) b) in
    elim (is_whole (state_of (limits before) b)) as (λ v. (tail : List (List ℕ)) × ((cond v (cut limits front n (drop (length_field b) b)) (before, b)).0 ≡ before ++ tail)) [
      | true ↦ (body_of (take (length_field b) b) ∷ inner.0, inner.1 ∙ append_assoc before (body_of (take (length_field b) b) ∷ []) inner.0)
      | false ↦ ([], sym (append-nil before))
    ]

-- whatever octets come, the packets before stay
pub goes_further : (limits : List (List ℕ) → ℕ) (b more : List ℕ) → GoesFurther limits b more
unfolding packets_of rest_of
goes_further limits b more =
    let n = length (b ++ more) in
    let ps = (cut limits [] (length b) b).0 in
    let k = cut_keeps limits ps n ((cut limits [] (length b) b).1 ++ more) in
    record {
      tail = k.0;
      packets = ap (λ x. x.0) (cut_more limits [] (length b) n n b more (omega arith) (omega arith) (omega arith)) ∙ k.1;
    }

fault_by : (limit size held more : ℕ) → is_fault (state_by limit size held) ≡ true → state_by limit size more ≡ state_by limit size held
fault_by limit size held more h = grind (arith, nat_tests)

begun_more : (v : ℕ) → is_fault (if_begun v More) ≡ true → (s : FedState) → if_begun v s ≡ if_begun v More
begun_more v h s = grind (arith, nat_tests)

begun_fault : (v : ℕ) (s t : FedState) → is_fault (if_begun v s) ≡ true → (is_fault s ≡ true → t ≡ s) → if_begun v t ≡ if_begun v s
begun_fault v s t h f = grind (arith, nat_tests)

-- a fault stays
pub fault_stays : (limit : ℕ) (held more : List ℕ) → is_fault (state_of limit held) ≡ true → state_of limit (held ++ more) ≡ state_of limit held
fault_stays limit [] more h = cc
fault_stays limit (v ∷ []) [] h = refl
fault_stays limit (v ∷ []) (a ∷ []) h = refl
fault_stays limit (v ∷ []) (a ∷ b ∷ []) h = refl
fault_stays limit (v ∷ []) (a ∷ b ∷ c ∷ more) h = begun_more v h _
fault_stays limit (v ∷ r ∷ []) [] h = refl
fault_stays limit (v ∷ r ∷ []) (a ∷ []) h = refl
fault_stays limit (v ∷ r ∷ []) (a ∷ b ∷ more) h = begun_more v h _
fault_stays limit (v ∷ r ∷ hi ∷ []) [] h = refl
fault_stays limit (v ∷ r ∷ hi ∷ []) (a ∷ more) h = begun_more v h _
fault_stays limit (v ∷ r ∷ hi ∷ lo ∷ body) more h =
    begun_fault v (state_by limit (256 * hi + lo) (length body + 4)) (state_by limit (256 * hi + lo) (length (body ++ more) + 4)) h
    (fault_by limit (256 * hi + lo) (length body + 4) (length (body ++ more) + 4))

fault_not_whole : (s : FedState) → is_fault s ≡ true → is_whole s ≡ false
fault_not_whole Whole h = cc
fault_not_whole More h = refl
fault_not_whole BadVersion h = refl
fault_not_whole BadLength h = refl
fault_not_whole TooLong h = refl

-- behind a fault no packet ends
pub fault_goes_on : (limits : List (List ℕ) → ℕ) (b more : List ℕ) → is_fault (state_of (limits (packets_of limits b)) (rest_of limits b)) ≡ true → GoesOn limits b more
fault_goes_on limits b more h =
    goes_on limits b more (ap is_whole (fault_stays (limits (packets_of limits b)) (rest_of limits b) more h) ∙ fault_not_whole (state_of (limits (packets_of limits b)) (rest_of limits b)) h)

front_whole : (limit : ℕ) (q more : List ℕ) → IsPacket limit q → (is_whole (state_of limit (q ++ more)) ≡ true) × (length_field (q ++ more) ≡ length q)
front_whole limit q more h =
    let w = packet_whole limit q h in
    let m = (whole limit q w.0).more more in
    (m.0, m.1 ∙ w.1)

-- at most so many packets are cut off as the relation admits, and no fewer
cut_only : (limits : List (List ℕ) → ℕ) (before : List (List ℕ)) (n : ℕ) (b : List ℕ) (ps : List (List ℕ)) (rest : List ℕ) → length b ≤ n → Packed limits before b ps rest → is_whole (state_of (limits (before ++ ps)) rest) ≡ false
    → cut limits before n b ≡ (before ++ ps, rest)
cut_only limits before n b [] rest le h none =
    let e : before ++ [] ≡ before = append-nil before in
    cut_same limits before n (suc n) b le (omega arith)
    ∙ ap (λ t. cond t (cut limits (before ++ body_of (take (length_field b) b) ∷ []) n (drop (length_field b) b)) (before, b)) (ap (λ x. is_whole (state_of (limits x) b)) (sym e) ∙ (ap (λ x. is_whole (state_of (limits (before ++ [])) x)) h ∙ none))
    ∙ ap (λ x. (before, x)) h
    ∙ ap (λ x. (x, rest)) (sym e)
cut_only limits before n b (p ∷ ps) rest le h none =
    let q = h.0 in
    let more = h.1 in
    let l = packet_length (limits before) q h.2 in
    let w = front_whole (limits before) q more h.2 in
    let at : before ++ (p ∷ ps) ≡ (before ++ p ∷ []) ++ ps = sym (append_assoc before (p ∷ []) ps) in
    let fits : length (q ++ more) ≤ n = subst (λ (x : List ℕ). length x ≤ n) h.4 le in
    ap (cut limits before n) h.4
    ∙ cut_step limits before n n (q ++ more) w.0 fits fits
    ∙ ap (λ s. cut limits (before ++ body_of (take s (q ++ more)) ∷ []) n (drop s (q ++ more))) w.1
    ∙ ap (λ x. cut limits (before ++ body_of x ∷ []) n (drop (length q) (q ++ more))) (take-append_seam q more)
    ∙ ap (λ x. cut limits (before ++ body_of q ∷ []) n x) (drop-append_seam q more)
    ∙ ap (λ x. cut limits (before ++ x ∷ []) n more) (sym h.3)
    ∙ cut_only limits (before ++ p ∷ []) n more ps rest (omega (arith, fits, length-append q more)) h.5 (ap (λ x. is_whole (state_of (limits x) rest)) (sym at) ∙ none)
    ∙ ap (λ x. (x, rest)) (sym at)

-- a front that isn't whole has no packet at its front, and the other way round
none_ahead : (limit : ℕ) (rest : List ℕ) → is_whole (state_of limit rest) ≡ false → NoPacketAhead limit rest
none_ahead limit rest h q more k e =
    let w = (front_whole limit q more k).0 in
    let f : is_whole (state_of limit (q ++ more)) ≡ false = ap (λ x. is_whole (state_of limit x)) (sym e) ∙ h in
    cc

whole_limit : (limit size held : ℕ) → is_whole (state_by limit size held) ≡ true → size ≤ limit
whole_limit limit size held h = grind (arith, nat_tests)

whole_ahead : (limit : ℕ) (b : List ℕ) → is_whole (state_of limit b) ≡ true → IsPacket limit (take (length_field b) b)
whole_ahead limit [] h = absurd (omega (arith, (whole limit [] h).least))
whole_ahead limit (v ∷ []) h = absurd (omega (arith, (whole limit (v ∷ []) h).least))
whole_ahead limit (v ∷ r ∷ []) h = absurd (omega (arith, (whole limit (v ∷ r ∷ []) h).least))
whole_ahead limit (v ∷ r ∷ hi ∷ []) h = absurd (omega (arith, (whole limit (v ∷ r ∷ hi ∷ []) h).least))
whole_ahead limit (v ∷ r ∷ hi ∷ lo ∷ body) h =
    let e = begun v (state_by limit (256 * hi + lo) (length body + 4)) h in
    let f = whole_by limit (256 * hi + lo) (length body + 4) e.1 in
    let most = whole_limit limit (256 * hi + lo) (length body + 4) e.1 in
    let k = 256 * hi + lo - 4 in
    let at : suc (suc (suc (suc k))) ≡ 256 * hi + lo = omega (arith, f.0) in
    let l : length (take k body) ≡ k = length-take-le k body (omega (arith, f.1)) in
    subst (λ (x : ℕ). IsPacket limit (take x (v ∷ r ∷ hi ∷ lo ∷ body))) at (e.0, omega (arith, f.0, l), omega (arith, f.0, l), omega (arith, f.0, most, l))

not_whole_ahead : (t : Bool) (limit : ℕ) (rest : List ℕ) → is_whole (state_of limit rest) ≡ t → NoPacketAhead limit rest → t ≡ false
not_whole_ahead false limit rest e h = refl
not_whole_ahead true limit rest e h =
    absurd (h (take (length_field rest) rest) (drop (length_field rest) rest) (whole_ahead limit rest e) (sym (take-append-drop (length_field rest) rest)))

not_true : (t : Bool) → (t ≡ true → ⊥) → t ≡ false
not_true true h = absurd (h refl)
not_true false h = refl

-- what is cut off is packets
cut_reads : (limits : List (List ℕ) → ℕ) (before : List (List ℕ)) (n : ℕ) (b : List ℕ) → length b ≤ n
    → (ps : List (List ℕ)) × ((cut limits before n b).0 ≡ before ++ ps) × Packed limits before b ps (cut limits before n b).1 × (is_whole (state_of (limits (cut limits before n b).0) (cut limits before n b).1) ≡ false)
cut_reads limits before zero b le =
    ([], sym (append-nil before), refl, not_true (is_whole (state_of (limits before) b)) (λ w. let i = whole (limits before) b w in omega (arith, i.least, i.most)))
cut_reads limits before (suc n) b le =
    let front = before ++ body_of (take (length_field b) b) ∷ [] in
    let inner = cut limits front n (drop (length_field b) b) in
    elim (is_whole (state_of (limits before) b)) as (λ v. is_whole (state_of (limits before) b) ≡ v
    → (ps : List (List ℕ)) × ((cond v inner (before, b)).0 ≡ before ++ ps) × Packed limits before b ps (cond v inner (before, b)).1 × (is_whole (state_of (limits (cond v inner (before, b)).0) (cond v inner (before, b)).1) ≡ false)) [
      | true ↦ λ w.
          let i = whole (limits before) b w in
          let h = cut_reads limits front n (drop (length_field b) b) (omega (arith, i.least, i.most, length-drop (length_field b) b)) in (
            body_of (take (length_field b) b) ∷ h.0,
            h.1 ∙ append_assoc before (body_of (take (length_field b) b) ∷ []) h.0,
            (take (length_field b) b, drop (length_field b) b, whole_ahead (limits before) b w, refl, sym (take-append-drop (length_field b) b), h.2),
            h.3,
          )
      | false ↦ λ w. ([], sym (append-nil before), refl, w)
    ] refl

-- what a state says
pub whole_front : (limit : ℕ) (b : List ℕ) → state_of limit b ≡ Whole → (q : List ℕ) × (more : List ℕ) × IsPacket limit q × (b ≡ q ++ more)
whole_front limit b h = (take (length_field b) b, drop (length_field b) b, whole_ahead limit b (ap is_whole h), sym (take-append-drop (length_field b) b))

pub not_whole_front : (limit : ℕ) (b : List ℕ) → state_of limit b ≢ Whole → NoPacketAhead limit b
not_whole_front limit b h = none_ahead limit b (not_whole (state_of limit b) h)

pub fault_front : (limit : ℕ) (b more : List ℕ) → is_fault (state_of limit b) ≡ true → NoPacketAhead limit (b ++ more)
fault_front limit b more h = none_ahead limit (b ++ more) (ap is_whole (fault_stays limit b more h) ∙ fault_not_whole (state_of limit b) h)

pub one_reading_only : (limits : List (List ℕ) → ℕ) (b : List ℕ) (ps : List (List ℕ)) (rest : List ℕ) → Packets limits b ps rest → (packets_of limits b ≡ ps) × (rest_of limits b ≡ rest)
unfolding packets_of rest_of
one_reading_only limits b ps rest h =
    let e = cut_only limits [] (length b) b ps rest (omega arith) h.0 (not_whole_ahead (is_whole (state_of (limits ps) rest)) (limits ps) rest refl h.1) in
    (ap (λ x. x.0) e, ap (λ x. x.1) e)

pub one_reading_reads : (limits : List (List ℕ) → ℕ) (b : List ℕ) → Packets limits b (packets_of limits b) (rest_of limits b)
unfolding packets_of rest_of
one_reading_reads limits b =
    let h = cut_reads limits [] (length b) b (omega arith) in (
      subst (λ (x : List (List ℕ)). Packed limits [] b x (cut limits [] (length b) b).1) (sym h.1) h.2,
      none_ahead (limits (cut limits [] (length b) b).0) (cut limits [] (length b) b).1 h.3,
    )

-- a cutter holds the rest: at the start, as the octets go on, and where the next packet is begun
pub holds_nothing : (limits : List (List ℕ) → ℕ) (cutter : Cut) → cutter.held ≡ [] → cutter.limit ≡ limits [] → HoldsRest limits [] cutter
unfolding packets_of rest_of
holds_nothing limits cutter held limit = record { held = sym held; limit = sym limit }

pub holds_more : (limits : List (List ℕ) → ℕ) (b more : List ℕ) (old new : Cut) → HoldsRest limits b old → GoesOn limits b more
    → new.held ≡ old.held ++ more → new.limit ≡ old.limit → HoldsRest limits (b ++ more) new
holds_more limits b more old new h g held limit = record {
  held = g.rest ∙ ap (λ x. x ++ more) h.held ∙ sym held;
  limit = ap limits g.packets ∙ h.limit ∙ sym limit;
}

pub holds_next : (limits : List (List ℕ) → ℕ) (b more body : List ℕ) (new : Cut) → EndsPacket limits b more body
    → new.held ≡ [] → new.limit ≡ limits (packets_of limits b ++ body ∷ []) → HoldsRest limits (b ++ more) new
holds_next limits b more body new e held limit = record {
  held = e.rest ∙ sym held;
  limit = ap limits e.packets ∙ sym limit;
}

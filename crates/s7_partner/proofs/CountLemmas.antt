-- How many octets a reader takes before a message is whole or the link ends.
use Rattle.std.proofs.Common.{◌≡◌, ℕ, zero, suc, ◌+◌, ◌-◌, ◌*◌, ◌<◌, ◌≤◌, Bool, true, false, cond, nat_lt, ◌==◌, List}
use Rattle.std.proofs.Common.{[], ◌∷◌, ◌++◌, length, refl, ap, sym, ◌∙◌, subst, append-nil, arith, length-append}
use Rattle.std.proofs.Common.{length-drop}
use Rattle.std.specs.Prelude.{Option, None, Some, Result, Ok, Err, nat_le}
use Rattle.std.specs.Option.{ForSome}
use Rattle.std.proofs.lemmas.Bool.Decides.{nat_tests}
use Rattle.s7_tpkt.specs.Packets.{packets_of, rest_of, state_of, state_by, if_begun, Packed}
use Rattle.s7_tpkt.specs.declared.state.FedState.{FedState}
use Rattle.s7_tpkt.specs.declared.state.FedState.TheVariants as fed
use Rattle.s7_tpkt.proofs.PacketLemmas.{one_reading_reads, packet_length}
use Rattle.s7_cotp.specs.Told.{Told, ConnectionTold, connect, confirm, fragment, disconnect, reject}
use Rattle.s7_cotp.specs.Reading.{tpdu_of}
use Rattle.s7_cotp.specs.Messages.{Fragment, Step, more, whole, too_many_fragments, too_long, joined_with}
use Rattle.s7_cotp.specs.declared.tpdu.CotpFault.{CotpFault}
use Rattle.s7_wire.specs.Bounds.{message_limit}
use Rattle.s7_wire.specs.Reading.{opened, message, Ending, Progress, Unfinished, start, limits, limit_by, opening_of}
use Rattle.s7_wire.specs.Reading.{with_opening, with_joining, connected, with_told, with_tpdu, unless_ended}
use Rattle.s7_wire.specs.Reading.{with_body, with_bodies, reading, GrowsTo}
use Rattle.s7_wire.specs.Reads.{HasRead, HasFound, opens_by, held_by}
use Rattle.s7_wire.specs.declared.found.Opening.{Opening}
use Rattle.s7_wire.specs.declared.found.Found.TheVariants as finding
use Rattle.s7_wire.specs.declared.reader.Reader.{Reader}
use Rattle.s7_wire.proofs.ReadingLemmas.{body_at, bodies_are, bodies_before, with_bodies-append, limit_is}
use Rattle.s7_wire.proofs.GrowthLemmas.{reads_on, bodies_grow, reading_ended}
use Rattle.s7_wire.proofs.ReaderLemmas.{reader_going}
use Rattle.s7_partner.specs.Octet.{octets_left}

-- ---- fragments are counted

-- the count of an open message goes up by one, to 64 at most
abbrev Counts : Step → ℕ → Type 0
Counts (more octets n) count = (n ≡ count + 1) × (n ≤ 64)
Counts (whole octets) count = Unit {0}
Counts too_many_fragments count = Unit {0}
Counts too_long count = Unit {0}

counts_if : (a b c : Bool) (x y : List ℕ) (count : ℕ) → (a ≡ false → count < 64)
    → Counts (cond a too_many_fragments (cond b too_long (cond c (whole x) (more y (count + 1))))) count
counts_if true b c x y count h = tt
counts_if false true c x y count h = tt
counts_if false false true x y count h = tt
counts_if false false false x y count h = (refl, omega (arith, h refl))

below_64 : (count : ℕ) → nat_le 64 count ≡ false → count < 64
below_64 count e = grind (arith, nat_tests)

joined_counts : (limit : ℕ) (octets : List ℕ) (count : ℕ) (f : Fragment)
    → Counts (joined_with limit octets count f) count
joined_counts limit octets count f =
    counts_if (nat_le 64 count) (nat_lt limit (length octets + length f.user)) f.last (octets ++ f.user)
    (octets ++ f.user) count (below_64 count)

-- what one more packet does where nothing ends
data Goes (p q : Progress) : Type 0 where
  counts : q.events ≡ p.events → q.unfinished.count ≡ p.unfinished.count + 1 → Goes p q
  brings : length q.events ≡ length p.events + 1 → Goes p q
  ends : (ending : Ending) → q.ending ≡ Some ending → Goes p q

opening_goes : (p : Progress) (body : List ℕ) (o : Option ConnectionTold) → Goes p (with_opening p body o)
opening_goes p body None = ends _ refl
opening_goes p body (Some c) = brings (length-append p.events (opened c ∷ []))

joining_goes : (p : Progress) (body : List ℕ) (s : Step) → Counts s p.unfinished.count → Goes p (with_joining p body s)
joining_goes p body (more octets n) h = counts refl h.0
joining_goes p body (whole octets) h = brings (length-append p.events (message octets p.at ∷ []))
joining_goes p body too_many_fragments h = ends _ refl
joining_goes p body too_long h = ends _ refl

connected_goes : (p : Progress) (body : List ℕ) (t : Told) → Goes p (connected p body t)
connected_goes p body (fragment last user) =
    joining_goes p body
    (joined_with message_limit p.unfinished.octets p.unfinished.count (record { last = last; user = user }))
    (joined_counts message_limit p.unfinished.octets p.unfinished.count (record { last = last; user = user }))
connected_goes p body (disconnect reason) = ends _ refl
connected_goes p body (connect c) = ends _ refl
connected_goes p body (confirm c) = ends _ refl
connected_goes p body (reject cause) = ends _ refl

told_goes : (opening : Opening) (p : Progress) (body : List ℕ) (o : Option ℕ) (t : Told)
    → Goes p (with_told opening p body o t)
told_goes opening p body None t = opening_goes p body (opening_of opening t)
told_goes opening p body (Some n) t = connected_goes p body t

tpdu_goes : (opening : Opening) (p : Progress) (body : List ℕ) (t : Result Told CotpFault)
    → Goes p (with_tpdu opening p body t)
tpdu_goes opening p body (Err fault) = ends _ refl
tpdu_goes opening p body (Ok t) = told_goes opening p body p.size t

body_goes : (opening : Opening) (p : Progress) (body : List ℕ) → p.ending ≡ None → Goes p (with_body opening p body)
body_goes opening p body none =
    subst (λ (q : Progress). Goes p q) (sym (body_at opening p body none)) (tpdu_goes opening p body (tpdu_of body))

count_on : (p q r : Progress) (n : ℕ) → Goes p q → GrowsTo q r → q.ending ≡ None → length r.events ≡ length p.events
    → (length r.events ≡ length q.events → r.unfinished.count ≡ q.unfinished.count + n)
    → r.unfinished.count ≡ p.unfinished.count + (n + 1)
count_on p q r n (counts e m) grows none same on = omega (arith, on (same ∙ ap length (sym e)), m)
count_on p q r n (brings m) grows none same on =
    absurd (omega (arith, m, same, ap length grows.events, length-append q.events grows.further))
count_on p q r n (ends ending e) grows none same on = absurd (let x : None ≡ Some ending = sym none ∙ e in cc)

-- packets behind which nothing was read and nothing ended are fragments of one message
bodies_count : (opening : Opening) (p : Progress) (bodies : List (List ℕ)) → p.ending ≡ None
    → (with_bodies opening p bodies).ending ≡ None → length (with_bodies opening p bodies).events ≡ length p.events
    → (with_bodies opening p bodies).unfinished.count ≡ p.unfinished.count + length bodies
bodies_count opening p [] none ended same = omega arith
bodies_count opening p (body ∷ bodies) none ended same =
    let q = with_body opening p body in
    let none_q : q.ending ≡ None = bodies_before opening q bodies ended in
    let h = count_on p q (with_bodies opening q bodies) (length bodies) (body_goes opening p body none)
    (bodies_grow opening q bodies) none_q same (bodies_count opening q bodies none_q ended) in
    omega (arith, h)

-- ---- a message has 64 fragments at most

opening_few : (p : Progress) (body : List ℕ) (o : Option ConnectionTold) → p.unfinished.count ≤ 64
    → (with_opening p body o).unfinished.count ≤ 64
opening_few p body None h = h
opening_few p body (Some c) h = h

joining_few : (p : Progress) (body : List ℕ) (s : Step) → Counts s p.unfinished.count → p.unfinished.count ≤ 64
    → (with_joining p body s).unfinished.count ≤ 64
joining_few p body (more octets n) k h = k.1
joining_few p body (whole octets) k h = omega arith
joining_few p body too_many_fragments k h = h
joining_few p body too_long k h = h

connected_few : (p : Progress) (body : List ℕ) (t : Told) → p.unfinished.count ≤ 64
    → (connected p body t).unfinished.count ≤ 64
connected_few p body (fragment last user) h =
    joining_few p body
    (joined_with message_limit p.unfinished.octets p.unfinished.count (record { last = last; user = user }))
    (joined_counts message_limit p.unfinished.octets p.unfinished.count (record { last = last; user = user })) h
connected_few p body (disconnect reason) h = h
connected_few p body (connect c) h = h
connected_few p body (confirm c) h = h
connected_few p body (reject cause) h = h

told_few : (opening : Opening) (p : Progress) (body : List ℕ) (o : Option ℕ) (t : Told) → p.unfinished.count ≤ 64
    → (with_told opening p body o t).unfinished.count ≤ 64
told_few opening p body None t h = opening_few p body (opening_of opening t) h
told_few opening p body (Some n) t h = connected_few p body t h

tpdu_few : (opening : Opening) (p : Progress) (body : List ℕ) (t : Result Told CotpFault) → p.unfinished.count ≤ 64
    → (with_tpdu opening p body t).unfinished.count ≤ 64
tpdu_few opening p body (Err fault) h = h
tpdu_few opening p body (Ok t) h = told_few opening p body p.size t h

unless_few : (o : Option Ending) (next p : Progress) → next.unfinished.count ≤ 64 → p.unfinished.count ≤ 64
    → (unless_ended o next p).unfinished.count ≤ 64
unless_few None next p a b = a
unless_few (Some ending) next p a b = b

body_few : (opening : Opening) (p : Progress) (body : List ℕ) → p.unfinished.count ≤ 64
    → (with_body opening p body).unfinished.count ≤ 64
unfolding with_body
body_few opening p body h = unless_few p.ending _ p (tpdu_few opening p body (tpdu_of body) h) h

bodies_few : (opening : Opening) (p : Progress) (bodies : List (List ℕ)) → p.unfinished.count ≤ 64
    → (with_bodies opening p bodies).unfinished.count ≤ 64
bodies_few opening p [] h = h
bodies_few opening p (body ∷ bodies) h =
    bodies_few opening (with_body opening p body) bodies (body_few opening p body h)

-- where nothing has ended
reading_few : (opening : Opening) (b : List ℕ) → (reading opening b).ending ≡ None
    → (reading opening b).unfinished.count ≤ 64
reading_few opening b none =
    subst (λ (p : Progress). p.unfinished.count ≤ 64) (sym (bodies_are opening b none))
    (bodies_few opening start (packets_of (limits opening) b) (omega arith))

-- ---- octets of a packet that isn't whole

more_by : (limit size held : ℕ) → state_by limit size held ≡ fed.More → (held < size) × (size ≤ limit)
more_by limit size held e = grind (arith, nat_tests)

begun_cases : (b : Bool) (s : FedState) → cond b s fed.BadVersion ≡ fed.More → s ≡ fed.More
begun_cases true s e = e
begun_cases false s e = absurd (cc)

begun_more : (v : ℕ) (s : FedState) → if_begun v s ≡ fed.More → s ≡ fed.More
begun_more v s e = begun_cases (v == 3) s e

more_short : (limit : ℕ) (held : List ℕ) → limit ≤ 8199 → state_of limit held ≡ fed.More → length held ≤ 8199
more_short limit [] most e = omega arith
more_short limit (v ∷ []) most e = omega arith
more_short limit (v ∷ r ∷ []) most e = omega arith
more_short limit (v ∷ r ∷ hi ∷ []) most e = omega arith
more_short limit (v ∷ r ∷ hi ∷ lo ∷ body) most e =
    let h = more_by limit (256 * hi + lo) (length body + 4) (begun_more v _ e) in
    omega (arith, most, h.0, h.1)

limit_most : (o : Option ℕ) → ForSome o (λ n. n ≤ 8192) → limit_by o ≤ 8199
limit_most None h = omega arith
limit_most (Some n) h = omega (arith, h n refl)

-- the octets of packets with these bodies
abbrev packed_octets : List (List ℕ) → ℕ
packed_octets [] = 0
packed_octets (body ∷ bodies) = 4 + length body + packed_octets bodies

packed_length : (ls : List (List ℕ) → ℕ) (before : List (List ℕ)) (b : List ℕ) (ps : List (List ℕ)) (rest : List ℕ)
    → Packed ls before b ps rest → length b ≡ packed_octets ps + length rest
packed_length ls before b [] rest h = omega (arith, ap length h)
packed_length ls before b (p ∷ ps) rest h =
    let q = h.0 in
    let behind = h.1 in
    let least = (packet_length (ls before) q h.2).0 in
    omega (
      arith,
      least,
      ap length h.3,
      length-drop 4 q,
      ap length h.4,
      length-append q behind,
      packed_length ls (before ++ p ∷ []) behind ps rest h.5,
    )

-- where no packet more is whole, the octets are held behind those that were
rest_more : (ls : List (List ℕ) → ℕ) (b used : List ℕ) → packets_of ls (b ++ used) ≡ packets_of ls b
    → length (rest_of ls (b ++ used)) ≡ length (rest_of ls b) + length used
rest_more ls b used same =
    let h = packed_length ls [] b (packets_of ls b) (rest_of ls b) (one_reading_reads ls b).0 in
    let k = packed_length ls [] (b ++ used) (packets_of ls (b ++ used)) (rest_of ls (b ++ used))
    (one_reading_reads ls (b ++ used)).0 in
    omega (arith, h, k, ap packed_octets same, length-append b used)

-- ---- a finding of nothing takes octets from those that are left

less_by : (count count' held held' further used : ℕ) → count' ≡ count + further → count' ≤ 64 → held' ≤ 8199
    → 0 < used → (further ≡ 0 → held' ≡ held + used)
    → (64 - count') * 8200 + (8199 - held') < (64 - count) * 8200 + (8199 - held)
less_by count count' held held' zero used c few short some same = omega (arith, c, few, short, some, same refl)
less_by count count' held held' (suc n) used c few short some same = omega (arith, c, few, short)

none_by : (opening : Opening) (b used : List ℕ) (o : Option Ending) → (reading opening b).ending ≡ o
    → (reading opening (b ++ used)).ending ≡ None → o ≡ None
none_by opening b used None e none = refl
none_by opening b used (Some ending) e none =
    let same = reading_ended opening b used ending e in
    sym e ∙ (ap (λ (p : Progress). p.ending) (sym same) ∙ none)

none_before : (opening : Opening) (b used : List ℕ) → (reading opening (b ++ used)).ending ≡ None
    → (reading opening b).ending ≡ None
none_before opening b used none = none_by opening b used (reading opening b).ending refl none

-- where nothing has ended the further packets are read behind the others
read_further : (opening : Opening) (b used : List ℕ) (further : List (List ℕ))
    → packets_of (limits opening) (b ++ used) ≡ packets_of (limits opening) b ++ further
    → (reading opening (b ++ used)).ending ≡ None
    → reading opening (b ++ used) ≡ with_bodies opening (reading opening b) further
read_further opening b used further packets none =
    bodies_are opening (b ++ used) none
    ∙ (ap (with_bodies opening start) packets
    ∙ (with_bodies-append opening start (packets_of (limits opening) b) further
    ∙ ap (λ (p : Progress). with_bodies opening p further)
    (sym (bodies_are opening b (none_before opening b used none)))))

no_packets : (opening : Opening) (b used : List ℕ) (further : List (List ℕ))
    → packets_of (limits opening) (b ++ used) ≡ packets_of (limits opening) b ++ further → length further ≡ 0
    → packets_of (limits opening) (b ++ used) ≡ packets_of (limits opening) b
no_packets opening b used [] e n = e ∙ append-nil (packets_of (limits opening) b)
no_packets opening b used (body ∷ further) e n = absurd (omega (arith, n))

held_short : (r : Reader) (b : List ℕ) → HasRead r b → (reading (opens_by r) b).ending ≡ None
    → length (held_by r) ≤ 8199
held_short r b h none =
    let going = reader_going r b h none in
    let limit : r.cutter.limit ≡ limit_by r.transport.size =
    sym (h.rest going).limit ∙ (limit_is (opens_by r) b none ∙ ap limit_by (sym h.is.size)) in
    more_short r.cutter.limit r.cutter.held
    (omega (arith, limit, limit_most r.transport.size r.transport.most_size)) (r.more going)

-- what a reader holds of what it has read, by how the link is opened
record HoldsOf (o : Opening) (r : Reader) (b : List ℕ) : Type 0 where
  pub count : r.transport.joiner.count ≡ (reading o b).unfinished.count
  pub held : (reading o b).ending ≡ None → rest_of (limits o) b ≡ held_by r

holds_of : (o : Opening) (r : Reader) (b : List ℕ) → opens_by r ≡ o → HasRead r b → HoldsOf o r b
holds_of o r b e h =
    subst (λ (x : Opening). HoldsOf x r b) e (record {
      count = ap (λ (u : Unfinished). u.count) h.is.unfinished;
      held = λ none. (h.rest (reader_going r b h none)).held;
    })

pub octet_less : (old new : Reader) (b used : List ℕ) → opens_by new ≡ opens_by old → 0 < length used → HasRead old b
    → HasFound new b used finding.More → octets_left new < octets_left old
octet_less old new b used opening some h f =
    let o = opens_by new in
    let p = reading o b in
    let on = reads_on o b used in
    let none_p = none_before o b used f.ending in
    let same = read_further o b used on.further on.packets f.ending in
    let before = holds_of o old b (sym opening) h in
    let after = holds_of o new (b ++ used) refl f.read in
    let counted = bodies_count o p on.further none_p (ap (λ (q : Progress). q.ending) (sym same) ∙ f.ending)
    (ap (λ (q : Progress). length q.events) (sym same) ∙ (ap length f.events ∙ ap length (append-nil p.events))) in
    let count : new.transport.joiner.count ≡ old.transport.joiner.count + length on.further =
    after.count ∙ (ap (λ (q : Progress). q.unfinished.count) same
    ∙ (counted ∙ ap (λ (n : ℕ). n + length on.further) (sym before.count))) in
    less_by old.transport.joiner.count new.transport.joiner.count (length (held_by old)) (length (held_by new))
    (length on.further) (length used) count
    (omega (arith, after.count, reading_few o (b ++ used) f.ending))
    (held_short new (b ++ used) f.read f.ending) some
    (λ n.
    ap length (sym (after.held f.ending))
    ∙ (rest_more (limits o) b used (no_packets o b used on.further on.packets n)
    ∙ ap (λ (x : List ℕ). length x + length used) (before.held none_p)))

-- What a reader of a client's link makes of octets, and what these make of the course of a job.
use Rattle.std.proofs.Common.{◌≡◌, ◌≢◌, ℕ, ◌+◌, ◌-◌, ◌*◌, ◌<◌, ◌≤◌, List, [], ◌++◌, length, take, drop}
use Rattle.std.proofs.Common.{refl, ap, sym, ◌∙◌, subst, append_assoc, arith, length-append}
use Rattle.std.proofs.lemmas.List.{length-drop, take-append-drop}
use Rattle.std.specs.Prelude.{Option, None, Some, IsSome}
use Rattle.std.specs.Option.{ForSome}
use Rattle.std.proofs.Math.Logic.{∥∥₁_elim}
use Rattle.std.proofs.Props.{props}
use Rattle.s7_tpkt.specs.Cut.{Cut}
use Rattle.s7_tpkt.specs.Packets.{IsPacket, packets_of, rest_of, state_of, body_of, HoldsRest, GoesOn}
use Rattle.s7_tpkt.specs.declared.state.FedState.{FedState}
use Rattle.s7_tpkt.specs.declared.state.FedState.TheVariants as fed
use Rattle.s7_tpkt.proofs.FeedLemmas.{wanted_some, wanted_whole}
use Rattle.s7_tpkt.proofs.PacketLemmas.{goes_on_at, ends_packet_at}
use Rattle.s7_wire.specs.Bounds.{size_of_code}
use Rattle.s7_wire.specs.declared.found.Opening.{Opening}
use Rattle.s7_wire.specs.declared.found.Opening.TheVariants.{Confirm}
use Rattle.s7_wire.specs.declared.found.Ended.{Ended}
use Rattle.s7_wire.specs.declared.found.Ended.TheVariants as end_of
use Rattle.s7_wire.specs.declared.found.Found.{Found}
use Rattle.s7_wire.specs.declared.found.Found.TheVariants as finding
use Rattle.s7_wire.specs.declared.found.ReadFault.{ReadFault}
use Rattle.s7_wire.specs.declared.found.ReadFault.TheVariants.{BadFrame, FrameTooLong}
use Rattle.s7_wire.specs.declared.reader.Reader.{Reader}
use Rattle.s7_wire.specs.Reading as link
use Rattle.s7_wire.specs.Reading.{Progress, limit_by, with_fault, with_state, with_rest, with_body, reading}
use Rattle.s7_wire.specs.Reads.{IsAt, HasRead, HasFound, events_by, ending_by, ending_at, opens_by, ended_with, size_at, message_at, unfinished_in}
use Rattle.s7_wire.proofs.ReadingLemmas.{reading_more, reading_whole, rest_more, rest_at, limit_is}
use Rattle.s7_dialogue.specs.Course.{Origin, Course, read_before, conduct_of, course, limits, limit_in}
use Rattle.s7_dialogue.specs.Course as job
use Rattle.s7_client.specs.At.{IsReading}
use Rattle.s7_client.proofs.CourseLemmas.{course_on, course_on_more, course_ends, holds_on, limit_after, more_short, course_held}
use Rattle.s7_client.proofs.FrontLemmas.{OnlyLastShows}
use Rattle.s7_client.proofs.FoundLemmas.{Tells, Brings, IsLike, AreAlike, after_found, unless_alike, tells_more, tells_fault, makes_packet}

-- ---- what it has read

record HasReadAs (o : Opening) (r : Reader) (b : List ℕ) : Type 0 where
  pub rest : ended_with r ≡ None → HoldsRest (link.limits o) b r.cutter
  pub is : IsAt r.transport (reading o b)

read_as : (o : Opening) (r : Reader) (b : List ℕ) → opens_by r ≡ o → HasRead r b → HasReadAs o r b
read_as o r b e h = subst (λ (x : Opening). HasReadAs x r b) e (record { rest = h.rest; is = h.is })

record HasFoundAs (o : Opening) (r : Reader) (b used : List ℕ) (found : Found) : Type 0 where
  pub read : HasReadAs o r (b ++ used)
  pub tells : Tells (reading o b) (reading o (b ++ used)) found (message_at r)

found_as : (o : Opening) (r : Reader) (b used : List ℕ) (found : Found) → opens_by r ≡ o → HasFound r b used found
    → HasFoundAs o r b used found
found_as o r b used found e h =
    subst (λ (x : Opening). HasFoundAs x r b used found) e (record {
      read = record { rest = h.read.rest; is = h.read.is };
      tells = record { events = h.events; ending = h.ending };
    })

none_ended : (e : Option Ended) (at : ℕ) → ending_at e at ≡ None → e ≡ None
none_ended None at h = refl
none_ended (Some end_of.Disconnected) at h = absurd (cc)
none_ended (Some (end_of.Faulted fault)) at h = absurd (cc)

-- it goes on where nothing that it read has ended
goes_as : (r : Reader) (p : Progress) → IsAt r.transport p → p.ending ≡ None → ended_with r ≡ None
goes_as r p is none = none_ended (ended_with r) p.at (sym is.ending ∙ none)

none_as : (r : Reader) (p : Progress) → IsAt r.transport p → ended_with r ≡ None → p.ending ≡ None
none_as r p is going = is.ending ∙ ap (λ e. ending_at e p.at) going

limit_as : (r : Reader) (b : List ℕ) → HasReadAs Confirm r b → ended_with r ≡ None
    → r.cutter.limit ≡ limit_by (size_at r)
limit_as r b h going =
    let none = none_as r (reading Confirm b) h.is going in
    sym (h.rest going).limit ∙ (limit_is Confirm b none ∙ ap limit_by (sym h.is.size))

-- the length that no packet passes
pub limit_read : (r : Reader) → IsReading r → r.cutter.limit ≡ limit_by (size_at r)
limit_read r h =
    ∥∥₁_elim h.some (hlevel props) (λ k. limit_as r k.0 (read_as Confirm r k.0 h.opening k.1) h.going)

limit_most : (o : Option ℕ) → ForSome o (λ n. n ≤ 8192) → limit_by o ≤ 8199
limit_most None h = omega arith
limit_most (Some n) h = omega (arith, h n refl)

-- the octets of a packet that isn't whole
pub held_short : (r : Reader) → IsReading r → length r.cutter.held ≤ 8199
held_short r h =
    more_short r.cutter.limit r.cutter.held
    (omega (arith, limit_read r h, limit_most r.transport.size r.transport.most_size)) (r.more h.going)

-- ---- what octets are found to be

-- how far a message has come
abbrev pub count_at : Reader → ℕ
count_at r = r.transport.joiner.count

-- the reader has come further, within the bounds of a message
pub record ComesFurther (r r' : Reader) : Type 0 where
  pub many : count_at r ≤ 64 → count_at r' ≤ 64
  pub further : count_at r * 8200 + length r.cutter.held < count_at r' * 8200 + length r'.cutter.held

-- what the reader has then, by what was found
abbrev pub Turns : Found → Reader → Reader → Type 0
Turns finding.More r r' =
    IsReading r' × (size_at r' ≡ size_at r) × ComesFurther r r'
    × (size_at r ≡ None → unfinished_in r'.transport.joiner ≡ unfinished_in r.transport.joiner)
Turns (finding.Opened k) r r' =
    IsReading r' × (size_at r ≡ None) × (size_at r' ≡ Some (size_of_code k.size_code))
    × (unfinished_in r'.transport.joiner ≡ unfinished_in r.transport.joiner) × (r'.cutter.held ≡ [])
Turns finding.Message r r' =
    IsReading r' × IsSome (size_at r) × (size_at r' ≡ size_at r) × (length (message_at r') ≤ 8192)
    × (unfinished_in r'.transport.joiner ≡ link.nothing_unfinished) × (r'.cutter.held ≡ [])
Turns finding.Disconnected r r' = size_at r' ≡ size_at r
Turns (finding.Fault fault) r r' = size_at r' ≡ size_at r

-- the course of a job is where the reader is
abbrev pub IsAlike : Reader → Course → Type 0
IsAlike r c = IsLike c (size_at r) (unfinished_in r.transport.joiner)

-- what the octets make of the course of a job that used others before them
pub record Uses (origin : Origin) (b used : List ℕ) (r r' : Reader) (found : Found) : Type 0 where
  pub is : IsAlike r (course origin b) → course origin (b ++ used)
      ≡ after_found (conduct_of origin) (course origin b) found (message_at r') (unfinished_in r'.transport.joiner)
  pub rest : ended_with r' ≡ None → rest_of (limits origin) (b ++ used) ≡ r'.cutter.held
  pub limit : ended_with r' ≡ None
      → limits origin (packets_of (limits origin) (b ++ used)) ≡ limit_in (course origin (b ++ used))

pub record Reads (r r' : Reader) (used : List ℕ) (found : Found) : Type 0 where
  pub turns : Turns found r r'
  pub uses : (origin : Origin) (b : List ℕ) → HoldsRest (limits origin) b r.cutter → Uses origin b used r r' found

reads_as : (r r' : Reader) (used : List ℕ) (found is : Found) → found ≡ is → Reads r r' used is → Reads r r' used found
reads_as r r' used found is e h = subst (λ x. Reads r r' used x) (sym e) h

-- ---- no packet ends

-- what the octets show
shown_as : (b used : List ℕ) (r : Reader) (s : FedState) → HoldsRest (link.limits Confirm) b r.cutter
    → state_of r.cutter.limit (r.cutter.held ++ used) ≡ s
    → state_of (link.limits Confirm (packets_of (link.limits Confirm) b)) (rest_of (link.limits Confirm) b ++ used) ≡ s
shown_as b used r s rest shows =
    ap (λ l. state_of l (rest_of (link.limits Confirm) b ++ used)) rest.limit
    ∙ (ap (λ x. state_of r.cutter.limit (x ++ used)) rest.held ∙ shows)

read_on_as : (r : Reader) (b used : List ℕ) (s : FedState) → HasReadAs Confirm r b → ended_with r ≡ None
    → state_of r.cutter.limit (r.cutter.held ++ used) ≡ s → s ≢ fed.Whole
    → GoesOn (link.limits Confirm) b used × (reading Confirm (b ++ used) ≡ with_rest (reading Confirm b) s)
read_on_as r b used s h going shows not_whole =
    let rest = h.rest going in
    let g = goes_on_at (link.limits Confirm) b used r.cutter.held r.cutter.limit s rest.held rest.limit (sym shows)
    not_whole in (
      g,
      reading_more Confirm b used g (none_as r (reading Confirm b) h.is going)
          ∙ ap (with_rest (reading Confirm b)) (shown_as b used r s rest shows),
    )

-- what is held behind octets that end no packet
held_on : (r r' : Reader) (b used : List ℕ) → HasReadAs Confirm r b → HasReadAs Confirm r' (b ++ used)
    → ended_with r ≡ None → ended_with r' ≡ None → GoesOn (link.limits Confirm) b used
    → (r'.cutter.held ≡ r.cutter.held ++ used) × (r'.cutter.limit ≡ r.cutter.limit)
held_on r r' b used h h' going going' g =
    let rest = h.rest going in
    let rest' = h'.rest going' in (
      sym rest'.held ∙ (g.rest ∙ ap (λ x. x ++ used) rest.held),
      sym rest'.limit ∙ (ap (link.limits Confirm) g.packets ∙ rest.limit),
    )

reads_more : (r r' : Reader) (before used : List ℕ) (found : Found) → IsReading r → opens_by r' ≡ Confirm
    → 0 < length used → HasReadAs Confirm r before → HasFound r' before used found
    → state_of r.cutter.limit (r.cutter.held ++ used) ≡ fed.More → Reads r r' used found
reads_more r r' before used found reading_ opening some h f shows =
    let p = reading Confirm before in
    let going = reading_.going in
    let none = none_as r p h.is going in
    let k = found_as Confirm r' before used found opening f in
    let on = read_on_as r before used fed.More h going shows (λ e. absurd (cc)) in
    let same : reading Confirm (before ++ used) ≡ p = on.1 ∙ rest_more p in
    let going' = goes_as r' _ k.read.is (ap (λ q. q.ending) same ∙ none) in
    let cut = held_on r r' before used h k.read going going' on.0 in
    let still : state_of r'.cutter.limit r'.cutter.held ≡ fed.More =
    ap (λ n. state_of n r'.cutter.held) cut.1 ∙ (ap (state_of r.cutter.limit) cut.0 ∙ shows) in
    let unfinished : unfinished_in r'.transport.joiner ≡ unfinished_in r.transport.joiner =
    k.read.is.unfinished ∙ (ap (λ q. q.unfinished) same ∙ sym h.is.unfinished) in
    let count : count_at r' ≡ count_at r = ap (λ (u : link.Unfinished). u.count) unfinished in
    reads_as r r' used found finding.More
    (tells_more p _ found (message_at r') k.tells (ap (λ q. q.events) same) (ap (λ q. q.ending) same ∙ none)) (record {
      turns = (
        record { opening = opening; going = going'; some = ∣ (before ++ used, f.read) ∣₁ },
        k.read.is.size ∙ (ap (λ q. q.size) same ∙ sym h.is.size),
        record {
          many = λ few. omega (arith, few, count);
          further = omega (arith, count, some, ap length cut.0, length-append r.cutter.held used);
        },
        λ e. unfinished,
      );
      uses = λ origin b rest.
          let g = goes_on_at (limits origin) b used r.cutter.held r.cutter.limit fed.More rest.held rest.limit
          (sym shows) (λ e. absurd (cc)) in
          let on' = holds_on (limits origin) b used r.cutter r'.cutter rest g cut.0 cut.1 in
          let course_same = course_on_more origin b used r.cutter r'.cutter rest (r.more going) g cut.0 cut.1 still in
          record {
            is = λ alike. course_same ∙ ap (λ u. record (course origin b) { unfinished = u })
                (sym (unfinished ∙ alike.unfinished));
            rest = λ e. on'.held;
            limit = λ e. ap limit_in (sym (course_held origin (b ++ used) r'.cutter on' still));
          };
    })

-- a packet can't be one
reads_fault : (r r' : Reader) (before used : List ℕ) (found : Found) (s : FedState) (fault : ReadFault)
    → IsReading r → opens_by r' ≡ Confirm → HasReadAs Confirm r before → HasFound r' before used found
    → state_of r.cutter.limit (r.cutter.held ++ used) ≡ s → s ≢ fed.Whole
    → ((p : Progress) → with_state p s ≡ with_fault p fault) → Reads r r' used found
reads_fault r r' before used found s fault reading_ opening h f shows not_whole faults =
    let p = reading Confirm before in
    let none = none_as r p h.is reading_.going in
    let k = found_as Confirm r' before used found opening f in
    let on = read_on_as r before used s h reading_.going shows not_whole in
    let same : reading Confirm (before ++ used) ≡ with_fault p fault =
    on.1 ∙ (rest_at p s none ∙ faults p) in
    let unfinished : unfinished_in r'.transport.joiner ≡ unfinished_in r.transport.joiner =
    k.read.is.unfinished ∙ (ap (λ q. q.unfinished) same ∙ sym h.is.unfinished) in
    let ended : ended_with r' ≡ None → ⊥ = λ going.
    let x : Some (link.faulted fault p.at) ≡ None =
    sym (ap (λ q. q.ending) same) ∙ none_as r' (reading Confirm (before ++ used)) k.read.is going in cc in
    reads_as r r' used found (finding.Fault fault)
    (tells_fault p _ found (message_at r') fault k.tells (ap (λ q. q.ending) same)) (record {
      turns = k.read.is.size ∙ (ap (λ q. q.size) same ∙ sym h.is.size);
      uses = λ origin b rest.
          let c = course origin b in
          let g = goes_on_at (limits origin) b used r.cutter.held r.cutter.limit s rest.held rest.limit (sym shows)
          not_whole in
          let cutter' : Cut = record { held = r.cutter.held ++ used; limit = r.cutter.limit } in
          record {
            is = λ alike.
                course_on origin b used r.cutter cutter' rest (r.more reading_.going) g refl refl
                ∙ (ap (job.with_rest c) shows
                ∙ (unless_alike (size_at r) (job.with_ending c (with_state (read_before c) s).ending) c c.awaits
                alike.awaits
                ∙ (ap (λ (q : Progress). job.with_ending c q.ending) (faults (read_before c))
                ∙ ap (λ u. job.with_fault (record c { unfinished = u }) (job.code_where c.awaits fault))
                (sym (unfinished ∙ alike.unfinished)))));
            rest = λ e. absurd (ended e);
            limit = λ e. absurd (ended e);
          };
    })

-- ---- a packet ends

not_both : (o : Option ℕ) → o ≡ None → IsSome o → ⊥
not_both None e h = absurd (cc)
not_both (Some n) e h = absurd (cc)

turns_whole : (found : Found) (r r' : Reader) (p q : Progress) → IsAt r.transport p → IsAt r'.transport q
    → q.ending ≡ ending_by found p.at
    → (ended_with r' ≡ None → IsReading r' × (r'.cutter.held ≡ [])) → length r.cutter.held ≤ 8199
    → Brings (events_by found (message_at r') p.at) (ending_by found p.at) p q → Turns found r r'
turns_whole finding.More r r' p q is is' ending going short h =
    let k = going (goes_as r' q is' ending) in
    let count : count_at r' ≡ count_at r + 1 =
    ap (λ (u : link.Unfinished). u.count) is'.unfinished
    ∙ (h.2 ∙ ap (λ (u : link.Unfinished). u.count + 1) (sym is.unfinished)) in
    let few : count_at r' ≤ 64 = omega (arith, ap (λ (u : link.Unfinished). u.count) is'.unfinished, h.3) in (
      k.0,
      is'.size ∙ (h.0 ∙ sym is.size),
      record { many = λ before. few; further = omega (arith, count, short) },
      λ e. absurd (not_both p.size (sym is.size ∙ e) h.1),
    )
turns_whole (finding.Opened c) r r' p q is is' ending going short h =
    let k = going (goes_as r' q is' ending) in
    (k.0, is.size ∙ h.1, is'.size ∙ h.0, is'.unfinished ∙ (h.2 ∙ sym is.unfinished), k.1)
turns_whole finding.Message r r' p q is is' ending going short h =
    let k = going (goes_as r' q is' ending) in
    (k.0, subst IsSome (sym is.size) h.1, is'.size ∙ (h.0 ∙ sym is.size), h.2, is'.unfinished ∙ h.3, k.1)
turns_whole finding.Disconnected r r' p q is is' ending going short h = is'.size ∙ (h ∙ sym is.size)
turns_whole (finding.Fault fault) r r' p q is is' ending going short h = is'.size ∙ (h ∙ sym is.size)

-- what is whole at its last octet is a packet, and not more
packet_now : (limit : ℕ) (held used : List ℕ) → 0 < length used → OnlyLastShows limit held used
    → state_of limit (held ++ used) ≡ fed.Whole → IsPacket limit (held ++ used)
packet_now limit held used some earliest shows =
    let k = length used - 1 in
    let before = held ++ take k used in
    let more : state_of limit before ≡ fed.More = earliest k (omega (arith, some)) in
    let one : length (drop k used) ≡ 1 = omega (arith, some, length-drop k used) in
    let same : before ++ drop k used ≡ held ++ used =
    append_assoc held (take k used) (drop k used) ∙ ap (λ x. held ++ x) (take-append-drop k used) in
    subst (λ x. IsPacket limit x) same (wanted_whole limit before (drop k used) more
    (omega (arith, one, wanted_some limit before more)) (ap (state_of limit) same ∙ shows))

reads_whole : (r r' : Reader) (before used : List ℕ) (found : Found) → IsReading r → opens_by r' ≡ Confirm
    → 0 < length used → OnlyLastShows r.cutter.limit r.cutter.held used → HasReadAs Confirm r before
    → HasFound r' before used found → state_of r.cutter.limit (r.cutter.held ++ used) ≡ fed.Whole
    → Reads r r' used found
reads_whole r r' before used found reading_ opening some earliest h f shows =
    let p = reading Confirm before in
    let none = none_as r p h.is reading_.going in
    let k = found_as Confirm r' before used found opening f in
    let packet = packet_now r.cutter.limit r.cutter.held used some earliest shows in
    let body = body_of (r.cutter.held ++ used) in
    let read = h.rest reading_.going in
    let ends = ends_packet_at (link.limits Confirm) before used r.cutter.held r.cutter.limit read.held read.limit
    packet in
    let same : reading Confirm (before ++ used) ≡ with_body Confirm p body =
    reading_whole Confirm before used body ends none in
    let made = makes_packet p body (message_at r') found none
    (subst (λ (q : Progress). Tells p q found (message_at r')) same k.tells) in
    let is' : IsAt r'.transport (with_body Confirm p body) =
    subst (λ (q : Progress). IsAt r'.transport q) same k.read.is in
    let held : ended_with r' ≡ None → r'.cutter.held ≡ [] = λ e. sym (k.read.rest e).held ∙ ends.rest in
    record {
      turns = turns_whole found r r' p (with_body Confirm p body) h.is is'
          (ap (λ q. q.ending) (sym same) ∙ k.tells.ending)
          (λ e. (record { opening = opening; going = e; some = ∣ (before ++ used, f.read) ∣₁ }, held e))
          (held_short r reading_) made.brings;
      uses = λ origin b rest.
          let e = ends_packet_at (limits origin) b used r.cutter.held r.cutter.limit rest.held rest.limit packet in
          let more = r.more reading_.going in
          let c = course origin b in
          record {
            is = λ alike.
                course_ends origin b used body r.cutter rest more e
                ∙ (made.course origin c (record {
                  unfinished = sym h.is.unfinished ∙ alike.unfinished;
                  awaits = subst (λ o. AreAlike o c.awaits) h.is.size alike.awaits;
                })
                ∙ ap (after_found (conduct_of origin) c found (message_at r')) (sym is'.unfinished));
            rest = λ going. e.rest ∙ sym (held going);
            limit = λ going. limit_after origin b used body r.cutter rest more e;
          };
    }

-- ---- whatever they show

reads_by : (r r' : Reader) (before used : List ℕ) (found : Found) (s : FedState) → IsReading r
    → opens_by r' ≡ Confirm → 0 < length used → OnlyLastShows r.cutter.limit r.cutter.held used
    → HasReadAs Confirm r before → HasFound r' before used found
    → state_of r.cutter.limit (r.cutter.held ++ used) ≡ s → Reads r r' used found
reads_by r r' before used found fed.More reading_ opening some earliest h f shows =
    reads_more r r' before used found reading_ opening some h f shows
reads_by r r' before used found fed.Whole reading_ opening some earliest h f shows =
    reads_whole r r' before used found reading_ opening some earliest h f shows
reads_by r r' before used found fed.BadVersion reading_ opening some earliest h f shows =
    reads_fault r r' before used found fed.BadVersion BadFrame reading_ opening h f shows (λ e. absurd (cc))
    (λ p. refl)
reads_by r r' before used found fed.BadLength reading_ opening some earliest h f shows =
    reads_fault r r' before used found fed.BadLength BadFrame reading_ opening h f shows (λ e. absurd (cc))
    (λ p. refl)
reads_by r r' before used found fed.TooLong reading_ opening some earliest h f shows =
    reads_fault r r' before used found fed.TooLong FrameTooLong reading_ opening h f shows (λ e. absurd (cc))
    (λ p. refl)

turns_prop : (found : Found) (r r' : Reader) → IsProp (Turns found r r')
turns_prop finding.More r r' = hlevel props
turns_prop (finding.Opened k) r r' = hlevel props
turns_prop finding.Message r r' = hlevel props
turns_prop finding.Disconnected r r' = hlevel props
turns_prop (finding.Fault fault) r r' = hlevel props

-- WHAT MORE OCTETS are read as, and what they make of the course of a job
pub reads_octets : (r r' : Reader) (used : List ℕ) (found : Found) → IsReading r → opens_by r' ≡ opens_by r
    → 0 < length used → OnlyLastShows r.cutter.limit r.cutter.held used
    → ((b : List ℕ) → HasRead r b → HasFound r' b used found) → Reads r r' used found
reads_octets r r' used found reading_ opening some earliest finds =
    let at : (b : List ℕ) × HasRead r b → Reads r r' used found = λ k.
    reads_by r r' k.0 used found _ reading_ (opening ∙ reading_.opening) some earliest
    (read_as Confirm r k.0 reading_.opening k.1) (finds k.0 k.1) refl in
    record {
      turns = ∥∥₁_elim reading_.some (turns_prop found r r') (λ k. (at k).turns);
      uses = λ origin b rest. record {
        is = λ alike. ∥∥₁_elim reading_.some (hlevel props) (λ k. ((at k).uses origin b rest).is alike);
        rest = λ e. ∥∥₁_elim reading_.some (hlevel props) (λ k. ((at k).uses origin b rest).rest e);
        limit = λ e. ∥∥₁_elim reading_.some (hlevel props) (λ k. ((at k).uses origin b rest).limit e);
      };
    }

-- What a client makes of the packets that it awaits.
use Rattle.std.proofs.Common.{◌≡◌, ℕ, ◌+◌, ◌-◌, ◌<◌, ◌≤◌, true, false, cond, Bool, List, [], ◌++◌, length, Some, refl, ap, sym, ◌∙◌, subst, arith}
use Rattle.std.proofs.lemmas.Bool.{le-ltb}
use Rattle.s7_tpkt.specs.Cut.{Cut}
use Rattle.s7_tpkt.specs.Packets.{packet_of, packets_of, rest_of, state_of, HoldsRest, GoesOn, EndsPacket}
use Rattle.s7_tpkt.specs.declared.state.FedState.TheVariants.{More}
use Rattle.s7_tpkt.proofs.PacketLemmas.{goes_on_at, ends_packet_at}
use Rattle.s7_tpkt.proofs.WriteLemmas.{packet_written}
use Rattle.s7_cotp.specs.Spelling.{spelling_of_data}
use Rattle.s7_cotp.specs.Messages.{Step, more, whole, joined_with}
use Rattle.s7_cotp.proofs.SpellLemmas.{data_again}
use Rattle.s7_wire.specs.Bounds.{message_limit, limit_of_size}
use Rattle.s7_wire.specs.Reading.{limit_by, with_joining}
use Rattle.s7_wire.specs.Sent.{sent_message}
use Rattle.s7_dialogue.specs.Flight.{Row, filled}
use Rattle.s7_dialogue.specs.Dialogue.{Conduct}
use Rattle.s7_dialogue.specs.Codes.{short_message}
use Rattle.s7_dialogue.specs.Course.{Origin, Course, Unfinished, for_answers, nothing_unfinished, conduct_of, asking, with_fault}
use Rattle.s7_dialogue.specs.Course.{by_rows, with_message, size_where, read_before, with_reading, with_packet, course}
use Rattle.s7_dialogue.specs.Course.{limits, limit_in}
use Rattle.s7_dialogue.proofs.PacketLemmas.{fragment_read}
use Rattle.s7_client.proofs.CourseLemmas.{course_held, course_on_more, course_ends}
use Rattle.s7_rig.proofs.Awaiting.{Awaiting}
use Rattle.s7_rig.proofs.TelegramLemmas.{AsksAll, asks_all}
use Rattle.s7_rig.proofs.PacketFronts.{front_more}
use Rattle.s7_rig.proofs.PartedLemmas.{few_fragments, joined_by, Joins, message_whole, message_front}

-- ---- packets behind whole packets

-- a cutter with nothing in it
abbrev cutter_at : Origin → List ℕ → Cut
cutter_at origin b = record { held = []; limit = limits origin (packets_of (limits origin) b) }

module _ (origin : Origin) (b : List ℕ) (clear : rest_of (limits origin) b ≡ []) where
  holds : HoldsRest (limits origin) b (cutter_at origin b)
  holds = record { held = clear; limit = refl }

  -- the limit of the next packet is that of the course
  limit_is : limits origin (packets_of (limits origin) b) ≡ limit_in (course origin b)
  limit_is = ap limit_in (sym (course_held origin b (cutter_at origin b) holds refl))

  -- a strict front of the next packet changes nothing
  pub front_heard : (body u v : List ℕ) → 3 ≤ length body → length body + 4 ≤ limit_in (course origin b)
      → u ++ v ≡ packet_of body → 0 < length v → course origin (b ++ u) ≡ course origin b
  front_heard body u v least most e some =
      let cutter = cutter_at origin b in
      let cutter' : Cut = record { held = u; limit = cutter.limit } in
      let still : state_of cutter.limit u ≡ More = front_more cutter.limit body u v least
      (omega (arith, most, limit_is)) e some in
      let g : GoesOn (limits origin) b u =
      goes_on_at (limits origin) b u [] cutter.limit More clear refl (sym still) (λ is. absurd (cc)) in
      course_on_more origin b u cutter cutter' holds refl g refl refl still

  ends_next : (body : List ℕ) → 3 ≤ length body → length body + 4 ≤ limit_in (course origin b)
      → EndsPacket (limits origin) b (packet_of body) body
  ends_next body least most =
      let limit = limits origin (packets_of (limits origin) b) in
      ends_packet_at (limits origin) b (packet_of body) [] limit clear refl
      (packet_written limit body least (omega (arith, most, limit_is)))

  -- the next packet is used whole
  pub packet_heard : (body : List ℕ) → 3 ≤ length body → length body + 4 ≤ limit_in (course origin b)
      → course origin (b ++ packet_of body) ≡ with_packet origin (course origin b) body
  packet_heard body least most =
      course_ends origin b (packet_of body) body (cutter_at origin b) holds refl (ends_next body least most)

  -- and nothing is left of it
  pub packet_whole : (body : List ℕ) → 3 ≤ length body → length body + 4 ≤ limit_in (course origin b)
      → rest_of (limits origin) (b ++ packet_of body) ≡ []
  packet_whole body least most = (ends_next body least most).rest

-- ---- a message in fragments

-- what was heard, with fragments of a message behind it
abbrev with_fragments : Course → List ℕ → ℕ → Course
with_fragments k octets count = record k { unfinished = record { octets = octets; count = count } }

-- Behind what was heard the octets bring whole packets with fragments of a message, or more octets too, or all of it.
record HasFragments (origin : Origin) (k : Course) (c octets : List ℕ) (count : ℕ) : Type 0 where
  rest : rest_of (limits origin) c ≡ []
  is : course origin c ≡ with_fragments k octets count

record HasBegun (origin : Origin) (k : Course) (c : List ℕ) : Type 0 where
  octets : List ℕ
  count : ℕ
  is : course origin c ≡ with_fragments k octets count

record HasMessage (origin : Origin) (k : Course) (c m : List ℕ) : Type 0 where
  rest : rest_of (limits origin) c ≡ []
  is : course origin c ≡ with_message (conduct_of origin) (with_fragments k [] 0) m

module _ (origin : Origin) (k : Course) (size : ℕ) (least : 4 ≤ size) (awaits : k.awaits ≡ for_answers)
    (sized : k.size ≡ size) where
  fits_with : (c octets user : List ℕ) (count : ℕ) (last : Bool) → HasFragments origin k c octets count
      → length user ≤ size - 3 → length (spelling_of_data last user) + 4 ≤ limit_in (course origin c)
  fits_with c octets user count last h fits =
      let limit : limit_in (course origin c) ≡ size + 7 =
      ap limit_in h.is ∙ (ap (λ a. limit_by (size_where a k.size)) awaits ∙ ap limit_of_size sized) in
      omega (arith, limit, least, fits)

  begun_with : (c octets user u v : List ℕ) (count : ℕ) (last : Bool) → HasFragments origin k c octets count
      → length user ≤ size - 3 → u ++ v ≡ packet_of (spelling_of_data last user) → 0 < length v
      → HasBegun origin k (c ++ u)
  begun_with c octets user u v count last h fits is some = record {
    octets = octets;
    count = count;
    is = front_heard origin c h.rest (spelling_of_data last user) u v (omega arith)
        (fits_with c octets user count last h fits) is some
        ∙ h.is;
  }

  -- one packet more
  packet_joins : (c octets user : List ℕ) (count : ℕ) (last : Bool) (step : Step)
      → HasFragments origin k c octets count → length user ≤ size - 3
      → joined_with message_limit octets count (record { last = last; user = user }) ≡ step
      → course origin (c ++ packet_of (spelling_of_data last user))
      ≡ with_reading (conduct_of origin) (with_fragments k octets count)
      (with_joining (read_before (with_fragments k octets count)) (spelling_of_data last user) step)
  packet_joins c octets user count last step h fits is =
      let body = spelling_of_data last user in
      packet_heard origin c h.rest body (omega arith) (fits_with c octets user count last h fits)
      ∙ (ap (λ q. with_packet origin q body) h.is
      ∙ fragment_read origin (with_fragments k octets count) body user last step awaits (data_again last user) is)

  packet_rest : (c octets user : List ℕ) (count : ℕ) (last : Bool) → HasFragments origin k c octets count
      → length user ≤ size - 3 → rest_of (limits origin) (c ++ packet_of (spelling_of_data last user)) ≡ []
  packet_rest c octets user count last h fits =
      packet_whole origin c h.rest (spelling_of_data last user) (omega arith)
      (fits_with c octets user count last h fits)

  course_joins : Joins (size - 3) (HasFragments origin k) (HasBegun origin k) (HasMessage origin k)
  course_joins = record {
    front = λ c octets user u v count last h fits is some. begun_with c octets user u v count last h fits is some;
    early = λ c octets user count h fits few most. record {
      rest = packet_rest c octets user count false h fits;
      is = packet_joins c octets user count false (more (octets ++ user) (count + 1)) h fits
          (joined_by octets user count false few most);
    };
    final = λ c octets user count h fits few most. record {
      rest = packet_rest c octets user count true h fits;
      is = packet_joins c octets user count true (whole (octets ++ user)) h fits
          (joined_by octets user count true few most);
    };
  }

-- ---- a message where answers are awaited

pub record AwaitsAnswers (origin : Origin) (b : List ℕ) : Type 0 where
  pub awaiting : Awaiting origin b
  pub awaits : (course origin b).awaits ≡ for_answers

-- no fragment came before it
same_course : (k : Course) → k.unfinished ≡ nothing_unfinished → k ≡ with_fragments k [] 0
same_course k h = ap (λ (u : Unfinished). with_fragments k u.octets u.count) h

module _ {origin : Origin} {b : List ℕ} (h : AwaitsAnswers origin b) where
  none_came : HasFragments origin (course origin b) b [] 0
  none_came = record { rest = h.awaiting.rest; is = same_course (course origin b) h.awaiting.unfinished }

  -- while it comes, answers are awaited still
  pub heard_front : (m u v : List ℕ) → length m ≤ message_limit → u ++ v ≡ sent_message 1024 m → 0 < length v
      → (course origin (b ++ u)).awaits ≡ for_answers
  heard_front m u v most is some =
      let joins = course_joins origin (course origin b) 1024 (omega arith) h.awaits h.awaiting.size in
      let begun =
      message_front 1024 b m u v joins (omega arith) most
      (few_fragments (length m) 1024 (omega arith) (omega (arith, most))) none_came is some in
      ap (λ (k : Course). k.awaits) begun.is ∙ h.awaits

  -- and all of it is a message
  message_heard : (m : List ℕ) → length m ≤ message_limit
      → HasMessage origin (course origin b) (b ++ sent_message 1024 m) m
  message_heard m most =
      message_whole 1024 b m
      (course_joins origin (course origin b) 1024 (omega arith) h.awaits h.awaiting.size) (omega arith) most
      (few_fragments (length m) 1024 (omega arith) (omega (arith, most))) none_came

long_message : (c : Conduct) (k : Course) (m : List ℕ) → 10 ≤ length m
    → with_message c k m ≡ by_rows c k m (filled k.rows m)
long_message c k m least =
    ap (λ b. cond b (with_fault k short_message) (by_rows c k m (filled k.rows m))) (le-ltb (length m) 10 least)

-- ---- an answer, and what is asked then

-- The answer is in its row, and all that may be asked then is asked.
pub record HearsOn (origin : Origin) (b used : List ℕ) (rows : List Row) : Type 0 where
  pub awaiting : Awaiting origin (b ++ used)
  pub asks : AsksAll (conduct_of origin) (record (course origin b) { rows = rows }) (course origin (b ++ used))

pub heard_answer : (origin : Origin) (b m : List ℕ) (rows : List Row) → AwaitsAnswers origin b → 10 ≤ length m
    → length m ≤ message_limit → filled (course origin b).rows m ≡ Some rows
    → HearsOn origin b (sent_message 1024 m) rows
heard_answer origin b m rows h least most is =
    let c = conduct_of origin in
    let k = course origin b in
    let used = sent_message 1024 m in
    let before : Course = record k { rows = rows } in
    let message = message_heard h m most in
    let same : course origin (b ++ used) ≡ asking c before =
    message.is
    ∙ (ap (λ q. with_message c q m) (sym (same_course k h.awaiting.unfinished))
    ∙ (long_message c k m least ∙ ap (by_rows c k m) is)) in
    let asks : AsksAll c before (course origin (b ++ used)) =
    subst (AsksAll c before) (sym same) (asks_all c before h.awaiting.size h.awaiting.sequence) in
    record {
      awaiting = record {
        rest = message.rest;
        unfinished = asks.unfinished ∙ h.awaiting.unfinished;
        size = asks.size;
        sequence = asks.sequence;
        none_more = asks.none_more;
        awaits = asks.awaits;
      };
      asks = asks;
    }

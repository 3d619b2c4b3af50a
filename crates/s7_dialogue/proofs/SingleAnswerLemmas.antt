-- Lemmas on jobs that ask one question at a time: what they make of one more answer, whatever they asked.
use Rattle.std.proofs.Common.{◌≡◌, ℕ, ◌+◌, ◌-◌, ◌<◌, ◌≤◌, true, false, leb, ltb, ◌&&◌, Option, Some, None, List, [], ◌∷◌, ◌++◌, length, drop, refl, sym, ap, ◌∙◌, subst, arith}
use Rattle.std.specs.Prelude.{option_map}
use Rattle.std.proofs.lemmas.Bool.{and_parts, and_from, ltb-true, lt-ltb, le-leb}
use Rattle.s7_szl.specs.Joining.{most_joined}
use Rattle.s7_dialogue.specs.declared.grant.Leaves.TheVariants.{AsItWas}
use Rattle.s7_dialogue.specs.declared.job.Job.{Job}
use Rattle.s7_dialogue.specs.declared.transfers.data_block.DataBlock.{DataBlock}
use Rattle.s7_dialogue.specs.declared.transfers.data_block.Place.{Place}
use Rattle.s7_dialogue.specs.declared.questions.subject.Subject.{Subject}
use Rattle.s7_dialogue.specs.declared.transfers.download.Pieces.{Pieces}
use Rattle.s7_dialogue.specs.declared.stages.single.Ask.{Ask}
use Rattle.s7_dialogue.specs.declared.stages.single.Ask.TheVariants as ask
use Rattle.s7_dialogue.specs.Uploads.{most_uploaded}
use Rattle.s7_dialogue.specs.DataPlaces.{most_data, next_part, part_count, room_for_value, comes_for, has_pdu, is_inside}
use Rattle.s7_dialogue.specs.Answer.{Answer, stands, brings, uploads, slices, uploaded, announced, calls}
use Rattle.s7_dialogue.specs.Dialogue.{Conduct, octets_brought, count_of_data, brought_end, behind, first_refusal, good_end, number_end, by_refusal, plain_number}
use Rattle.s7_dialogue.specs.Stages.{question_of_single, conduct_of_single, has_image, is_writable}
use Rattle.s7_dialogue.specs.Singles.{room_for, parts_bring, most_brought, asks_left, lead_in, refusal_to, TellsStatus, TellsPiece, TellsStart, TellsSlice, TellsEnd, TellsOfHead, TellsPart, BringsOn, BeginsAnew}
use Rattle.s7_dialogue.specs.Singles.{ask_behind, TellsBegun, TellsCall}
use Rattle.s7_dialogue.specs.GoesOn.{is_counted}
use Rattle.s7_dialogue.proofs.FlightLemmas.{same_some}
use Rattle.s7_dialogue.proofs.DownloadImageLemmas.{image_given}
use Rattle.s7_dialogue.proofs.DownloadLemmas.{of_called}
use Rattle.s7_dialogue.proofs.SingleBehindLemmas.{Answers, refused_behind, unrefused_behind, EndsWith, Keeps, GoesBehind, IsPlain, plain_goes}
use Rattle.s7_dialogue.proofs.DataReadLemmas.{place_within, room_some}
use Rattle.s7_dialogue.proofs.DataBehindLemmas.{IsBehind, place_next, some_part, part_told, head_goes, anew_goes, part_goes, head_refused, part_refused}

-- ---- whatever is asked

pub goes_behind : (done : Job) (asked : Ask) (answers : Answers) (x : Answer) (so_far octets : List ℕ)
    (next : Option Ask) → is_writable done asked ≡ true → length so_far ≤ room_for asked
    → (conduct_of_single done asked).question_at answers ≡ Some (question_of_single done asked so_far)
    → Keeps asked answers so_far → BringsOn asked octets next x
    → GoesBehind done (conduct_of_single done asked) (lead_in asked) answers x (so_far ++ octets) next
goes_behind done (ask.Head block) answers x so_far octets next writable few at kept tells =
    head_goes done block answers x so_far octets next kept.are kept.counted tells
goes_behind done (ask.HeadFurther block octet) answers x so_far octets next writable few at kept tells =
    head_goes done block answers x so_far octets next kept.are kept.counted tells
goes_behind done (ask.Part block place) answers x so_far octets next writable few at kept tells =
    let both = and_parts (has_pdu block) (is_inside place) writable in
    let room = room_some block both.0 in
    part_goes done block place answers x so_far octets next (omega (arith, room)) (place_within place both.1).0 kept
    tells
goes_behind done asked answers x so_far octets next writable few at kept tells =
    plain_goes done asked answers x so_far octets next tt writable few at kept tells

-- what is asked anew
pub anew_behind : (done : Job) (asked : Ask) (answers : Answers) (x : Answer) (so_far : List ℕ) (a : Ask)
    → is_writable done asked ≡ true → Keeps asked answers so_far → BeginsAnew asked so_far a x
    → GoesBehind done (conduct_of_single done asked) (lead_in asked) answers x [] (Some a)
anew_behind done (ask.Head block) answers x so_far a writable kept tells =
    let room = room_some block writable in
    anew_goes done block answers x so_far a (omega (arith, room)) kept.are kept.counted tells
anew_behind done (ask.HeadFurther block octet) answers x so_far a writable kept tells =
    let room = room_some block writable in
    anew_goes done block answers x so_far a (omega (arith, room)) kept.are kept.counted tells
anew_behind done _ answers x so_far a writable kept tells = absurd tells

pub ends_behind : (done : Job) (c : Conduct) (lead : ℕ) (answers : Answers) (x : Answer) (all : List ℕ)
    (next : Option Ask)
    → GoesBehind done c lead answers x all next → first_refusal c.refusal 0 answers ≡ None → next ≡ None
    → EndsWith c (answers ++ Some x ∷ []) (good_end (drop lead all) [])
ends_behind done c lead answers x all next goes none over = record {
  last = λ unrefused. goes.asks ∙ ap (option_map (λ (a : Ask). question_of_single done a all)) over;
  is = goes.ended over (unrefused_behind c.refusal answers x none goes.unrefused);
}

-- a refusal ends it, as what is asked refuses
plain_refused : (done : Job) (asked : Ask) (answers : Answers) (place number : ℕ) → IsPlain asked
    → first_refusal (conduct_of_single done asked).refusal 0 answers ≡ Some (place, number)
    → (conduct_of_single done asked).ended answers ≡ number_end number AsItWas
plain_refused done (ask.Control control) answers place number plain first =
    ap (λ o. by_refusal plain_number o (good_end [] [])) first
plain_refused done (ask.About subject) answers place number plain first =
    ap (λ o. by_refusal plain_number o (brought_end subject answers)) first
plain_refused done (ask.Further subject octet) answers place number plain first =
    ap (λ o. by_refusal plain_number o (brought_end subject answers)) first
plain_refused done (ask.Head block) answers place number plain first = absurd plain
plain_refused done (ask.HeadFurther block octet) answers place number plain first = absurd plain
plain_refused done (ask.Part block at) answers place number plain first = absurd plain
plain_refused done (ask.Announce pieces) answers place number plain first =
    ap (λ o. by_refusal plain_number o (good_end [] [])) first
plain_refused done (ask.AwaitCall pieces) answers place number plain first =
    ap (λ o. by_refusal plain_number o (good_end [] [])) first
plain_refused done (ask.Give pieces from call) answers place number plain first =
    ap (λ o. by_refusal plain_number o (good_end [] [])) first
plain_refused done (ask.Insert pieces call) answers place number plain first =
    ap (λ o. by_refusal plain_number o (good_end [] [])) first
plain_refused done _ answers place number plain first =
    ap (λ o. by_refusal plain_number o (good_end (octets_brought answers) [])) first

refusal_as : (done : Job) (asked : Ask) (x : Answer) → IsPlain asked
    → refusal_to asked x ≡ (conduct_of_single done asked).refusal x
refusal_as done (ask.Control control) x plain = refl
refusal_as done (ask.Head block) x plain = absurd plain
refusal_as done (ask.HeadFurther block octet) x plain = absurd plain
refusal_as done (ask.Part block place) x plain = absurd plain
refusal_as done _ x plain = refl

plain_ends : (done : Job) (asked : Ask) (answers : Answers) (x : Answer) (number : ℕ) → IsPlain asked
    → first_refusal (conduct_of_single done asked).refusal 0 answers ≡ None → refusal_to asked x ≡ Some number
    → EndsWith (conduct_of_single done asked) (answers ++ Some x ∷ []) (number_end number AsItWas)
plain_ends done asked answers x number plain none is =
    let c = conduct_of_single done asked in
    let first = refused_behind c.refusal answers x number none (sym (refusal_as done asked x plain) ∙ is) in
    record {
      last = λ unrefused. absurd (cc);
      is = plain_refused done asked (answers ++ Some x ∷ []) (length answers) number plain first;
    }

pub ends_refused : (done : Job) (asked : Ask) (answers : Answers) (x : Answer) (number : ℕ)
    → first_refusal (conduct_of_single done asked).refusal 0 answers ≡ None
    → is_counted asked (count_of_data answers) ≡ true → refusal_to asked x ≡ Some number
    → EndsWith (conduct_of_single done asked) (answers ++ Some x ∷ []) (number_end number AsItWas)
ends_refused done (ask.Head block) answers x number none counted is =
    head_refused block answers x number none counted is
ends_refused done (ask.HeadFurther block octet) answers x number none counted is =
    head_refused block answers x number none counted is
ends_refused done (ask.Part block place) answers x number none counted is =
    part_refused block place answers x number none counted is
ends_refused done asked answers x number none counted is = plain_ends done asked answers x number tt none is

-- ---- what is asked next

-- What is asked behind octets that came, behind so many others, has a place for each octet, can be written, and leaves
-- fewer answers.
pub record IsNext (done : Job) (asked : Ask) (came : ℕ) (octets : List ℕ) (a : Ask) : Type 0 where
  pub room : room_for a ≡ room_for asked
  pub later : (subject : Subject) → a ≡ ask.About subject → ⊥
  pub behind : (block : DataBlock) → a ≡ ask.Head block → ⊥
  pub writable : is_writable done a ≡ true
  pub most : came + length octets + parts_bring a ≤ room_for asked
  pub fewer : asks_left a (came + length octets) + 1 ≤ asks_left asked came

next_as : (done : Job) (asked : Ask) (came : ℕ) (octets : List ℕ) (next : Option Ask) (a b : Ask) → next ≡ Some a
    → next ≡ Some b → IsNext done asked came octets b → IsNext done asked came octets a
next_as done asked came octets next a b is other fits =
    subst (IsNext done asked came octets) (same_some b a (sym other ∙ is)) fits

piece_next : (done : Job) (asked : Ask) (subject : Subject) (came : ℕ) (octets : List ℕ) (next : Option Ask)
    (x : Answer) (a : Ask)
    → room_for asked ≡ most_joined → asks_left asked came ≡ 1 + (most_joined - came)
    → came + length octets ≤ most_joined → TellsPiece subject octets next x → next ≡ Some a
    → IsNext done asked came octets a
piece_next done asked subject came octets next (brings octet true piece) a room left fits tells is =
    next_as done asked came octets next a (ask.Further subject octet) is tells.1
    (record {
      room = sym room;
      later = λ about e. absurd (cc);
      behind = λ block e. absurd (cc);
      writable = refl;
      most = omega (arith, room, fits);
      fewer = omega (arith, left, fits, ap length tells.0, tells.2 refl);
    })
piece_next done asked subject came octets next (brings octet false piece) a room left fits tells is =
    absurd (let e = tells.1 in cc)
piece_next done asked subject came octets next _ a room left fits tells is = absurd tells

start_next : (done : Job) (came : ℕ) (octets : List ℕ) (next : Option Ask) (x : Answer) (a : Ask)
    → came + length octets ≤ most_uploaded → TellsStart octets next x → next ≡ Some a
    → IsNext done ask.Upload came octets a
start_next done came octets next (uploads id size) a fits tells is =
    next_as done ask.Upload came octets next a (ask.Slice id size) is tells.1
    (record {
      room = refl;
      later = λ about e. absurd (cc);
      behind = λ block e. absurd (cc);
      writable = refl;
      most = omega (arith, fits);
      fewer = omega (arith, ap length tells.0);
    })
start_next done came octets next _ a fits tells is = absurd tells

slice_next : (done : Job) (id size came : ℕ) (octets : List ℕ) (next : Option Ask) (x : Answer) (a : Ask)
    → came + length octets ≤ most_uploaded → TellsSlice id size octets next x → next ≡ Some a
    → IsNext done (ask.Slice id size) came octets a
slice_next done id size came octets next (slices true piece) a fits tells is =
    next_as done (ask.Slice id size) came octets next a (ask.Slice id size) is tells.1
    (record {
      room = refl;
      later = λ about e. absurd (cc);
      behind = λ block e. absurd (cc);
      writable = refl;
      most = omega (arith, fits);
      fewer = omega (arith, fits, ap length tells.0, tells.2 refl);
    })
slice_next done id size came octets next (slices false piece) a fits tells is =
    next_as done (ask.Slice id size) came octets next a (ask.UploadEnd id) is tells.1
    (record {
      room = refl;
      later = λ about e. absurd (cc);
      behind = λ block e. absurd (cc);
      writable = refl;
      most = omega (arith, fits);
      fewer = omega arith;
    })
slice_next done id size came octets next _ a fits tells is = absurd tells

none_next : (done : Job) (asked : Ask) (came : ℕ) (octets : List ℕ) (next : Option Ask) (a : Ask) → next ≡ None
    → next ≡ Some a → IsNext done asked came octets a
none_next done asked came octets next a none is = absurd (cc)

-- the server is to ask for the first piece of an image
begun_next : (done : Job) (pieces : Pieces) (came : ℕ) (octets : List ℕ) (next : Option Ask) (x : Answer) (a : Ask)
    → has_image done pieces ≡ true → came + 0 ≤ 0 → TellsBegun pieces octets next x → next ≡ Some a
    → IsNext done (ask.Announce pieces) came octets a
begun_next done pieces came octets next announced a has most tells is =
    next_as done (ask.Announce pieces) came octets next a (ask.AwaitCall pieces) is tells.1
    (record {
      room = refl;
      later = λ about e. absurd (cc);
      behind = λ block e. absurd (cc);
      writable = has;
      most = omega (arith, most, ap length tells.0);
      fewer = omega arith;
    })
begun_next done pieces came octets next _ a has most tells is = absurd tells

-- it goes on, once the image was given up to a place
call_next : (done : Job) (asked : Ask) (pieces : Pieces) (from came : ℕ) (octets : List ℕ) (next : Option Ask)
    (x : Answer) (a : Ask)
    → has_image done pieces ≡ true → room_for asked ≡ 0 → came + 0 ≤ 0
    → 2 + (pieces.len - from) ≤ asks_left asked came → TellsCall pieces from octets next x → next ≡ Some a
    → IsNext done asked came octets a
call_next done asked pieces from came octets next (calls call) a has room most left tells is =
    next_as done asked came octets next a (ask_behind pieces from call) is tells.1
    (of_called (IsNext done asked came octets) pieces from call
    (λ inside. record {
      room = sym room;
      later = λ about e. absurd (cc);
      behind = λ block e. absurd (cc);
      writable = and_from (has_image done pieces) (ltb from pieces.len) has inside;
      most = omega (arith, room, most, ap length tells.0);
      fewer = omega (arith, left);
    })
    (record {
      room = sym room;
      later = λ about e. absurd (cc);
      behind = λ block e. absurd (cc);
      writable = has;
      most = omega (arith, room, most, ap length tells.0);
      fewer = omega (arith, left);
    }))
call_next done asked pieces from came octets next _ a has room most left tells is = absurd tells

status_over : (octets : List ℕ) (next : Option Ask) (x : Answer) → TellsStatus octets next x → next ≡ None
status_over octets next (stands status) tells = tells.2
status_over octets next _ tells = absurd tells

end_over : (octets : List ℕ) (next : Option Ask) (x : Answer) → TellsEnd octets next x → next ≡ None
end_over octets next uploaded tells = tells.1
end_over octets next _ tells = absurd tells

-- there is room for a head
some_room : (value : Option ℕ) → 8448 ≤ room_for_value value
some_room None = omega arith
some_room (Some value) = omega arith

-- a further piece of a head
head_next : (done : Job) (asked : Ask) (block : DataBlock) (came : ℕ) (octets : List ℕ) (next : Option Ask)
    (x : Answer) (a : Ask)
    → room_for asked ≡ room_for_value block.value → asks_left asked came ≡ 2 + (most_joined - came) + most_data
    → has_pdu block ≡ true → length octets ≤ most_joined - came → TellsOfHead block octets next x → next ≡ Some a
    → IsNext done asked came octets a
head_next done asked block came octets next (brings octet more piece) a room left has fits tells is =
    next_as done asked came octets next a (ask.HeadFurther block octet) is tells.1
    (record {
      room = sym room;
      later = λ about e. absurd (cc);
      behind = λ other e. absurd (cc);
      writable = has;
      most = omega (arith, room, fits, some_room block.value, ap length tells.0, tells.3);
      fewer = omega (arith, left, fits, ap length tells.0, tells.3);
    })
head_next done asked block came octets next _ a room left has fits tells is = absurd tells

comes_less : (value : Option ℕ) (came n count left left' room : ℕ) → came + comes_for value left ≤ room
    → n ≤ comes_for value count → left' + count ≡ left → came + n + comes_for value left' ≤ room
comes_less None came n count left left' room most few less = omega (arith, most, few, less)
comes_less (Some value) came n count left left' room most few less = omega (arith, most, few)

-- the part behind another one
next_place : (done : Job) (block : DataBlock) (place next : Place) (came : ℕ) (octets : List ℕ) → has_pdu block ≡ true
    → is_inside place ≡ true → IsBehind place (part_count block place) next
    → came + comes_for block.value (place.here + place.later) ≤ room_for_value block.value
    → length octets ≤ comes_for block.value (part_count block place)
    → IsNext done (ask.Part block place) came octets (ask.Part block next)
next_place done block place next came octets has inside behind most fits =
    let within = place_within place inside in
    let some : 0 < part_count block place = omega (arith, room_some block has, within.0) in
    let end : next.from + next.here + next.later ≤ 2097152 =
    omega (arith, within.1, behind.from, behind.left) in
    record {
      room = refl;
      later = λ about e. absurd (cc);
      behind = λ other e. absurd (cc);
      writable =
          and_from (has_pdu block) (is_inside next) has
          (and_from (ltb 0 next.here) (leb (next.from + next.here + next.later) 2097152)
          (lt-ltb 0 next.here behind.here) (le-leb (next.from + next.here + next.later) 2097152 end));
      most =
          comes_less block.value came (length octets) (part_count block place) (place.here + place.later)
          (next.here + next.later) (room_for_value block.value) most fits behind.left;
      fewer = omega (arith, behind.left, some);
    }

part_next : (done : Job) (block : DataBlock) (place : Place) (came : ℕ) (octets : List ℕ) (next : Option Ask)
    (x : Answer) (a : Ask)
    → (has_pdu block && is_inside place) ≡ true
    → came + comes_for block.value (place.here + place.later) ≤ room_for_value block.value
    → length octets ≤ comes_for block.value (part_count block place) → TellsPart block place octets next x
    → next ≡ Some a → IsNext done (ask.Part block place) came octets a
part_next done block place came octets next x a writable most fits tells is =
    let both = and_parts (has_pdu block) (is_inside place) writable in
    let part =
    some_part block (next_part block place) a (sym (part_told block place octets next x tells) ∙ is) in
    subst (IsNext done (ask.Part block place) came octets) (sym part.2)
    (next_place done block place part.0 came octets both.0 both.1 (place_next block place part.0 part.1) most fits)

pub is_next : (done : Job) (asked : Ask) (came : ℕ) (octets : List ℕ) (next : Option Ask) (x : Answer) (a : Ask)
    → is_writable done asked ≡ true → came + parts_bring asked ≤ room_for asked
    → length octets ≤ most_brought asked came → BringsOn asked octets next x → next ≡ Some a
    → IsNext done asked came octets a
is_next done (ask.Control control) came octets next x a writable most fits tells is =
    none_next done _ came octets next a (status_over octets next x tells) is
is_next done (ask.About subject) came octets next x a writable most fits tells is =
    piece_next done (ask.About subject) subject came octets next x a refl refl (omega (arith, most, fits)) tells is
is_next done (ask.Further subject octet) came octets next x a writable most fits tells is =
    piece_next done (ask.Further subject octet) subject came octets next x a refl refl (omega (arith, most, fits)) tells
    is
is_next done ask.Upload came octets next x a writable most fits tells is =
    start_next done came octets next x a (omega (arith, most, fits)) tells is
is_next done (ask.Slice id size) came octets next x a writable most fits tells is =
    slice_next done id size came octets next x a (omega (arith, most, fits)) tells is
is_next done (ask.UploadEnd id) came octets next x a writable most fits tells is =
    none_next done _ came octets next a (end_over octets next x tells) is
is_next done (ask.Announce pieces) came octets next x a writable most fits tells is =
    begun_next done pieces came octets next x a writable most tells is
is_next done (ask.AwaitCall pieces) came octets next x a writable most fits tells is =
    call_next done (ask.AwaitCall pieces) pieces 0 came octets next x a writable refl most (omega arith) tells is
is_next done (ask.Give pieces from call) came octets next x a writable most fits tells is =
    let both = and_parts (has_image done pieces) (ltb from pieces.len) writable in
    let room = (image_given done pieces both.0).some in
    call_next done (ask.Give pieces from call) pieces (from + pieces.room) came octets next x a both.0 refl most
    (omega (arith, room, ltb-true from pieces.len both.1)) tells is
is_next done (ask.Insert pieces call) came octets next x a writable most fits tells is =
    none_next done _ came octets next a (status_over octets next x tells) is
is_next done (ask.Head block) came octets next x a writable most fits tells is =
    head_next done (ask.Head block) block came octets next x a refl refl writable fits tells is
is_next done (ask.HeadFurther block octet) came octets next x a writable most fits tells is =
    head_next done (ask.HeadFurther block octet) block came octets next x a refl refl writable fits tells is
is_next done (ask.Part block place) came octets next x a writable most fits tells is =
    part_next done block place came octets next x a writable most fits tells is

comes_within : (value : Option ℕ) (count left : ℕ) → count ≤ left → comes_for value count ≤ comes_for value left
comes_within None count left within = within
comes_within (Some value) count left within = omega arith

-- there is room for what an answer brings
pub room_within : (asked : Ask) (came n : ℕ) → came + parts_bring asked ≤ room_for asked → n ≤ most_brought asked came
    → came + n ≤ room_for asked
room_within (ask.Head block) came n most few = omega (arith, most, few, some_room block.value)
room_within (ask.HeadFurther block octet) came n most few = omega (arith, most, few, some_room block.value)
room_within (ask.Part block place) came n most few =
    let low : part_count block place ≤ place.here + place.later = omega arith in
    omega (arith, most, few, comes_within block.value (part_count block place) (place.here + place.later) low)
room_within _ came n most few = omega (arith, most, few)

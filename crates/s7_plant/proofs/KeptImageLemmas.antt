-- The images that a book keeps, as one more entry comes.
use Rattle.std.proofs.Common.{◌≡◌, ℕ, ◌+◌, ◌-◌, ◌*◌, ◌/◌, ◌%◌, ◌<◌, ◌≤◌, Bool, true, false, cond, eqb, List, [], ◌∷◌, ◌++◌, length, take, get_or, set, ⊎_elim, refl, sym, ap, ◌∙◌, subst, arith, length-append}
use Rattle.std.specs.List.{All}
use Rattle.std.proofs.lemmas.Bool.{cases_eq}
use Rattle.std.proofs.lemmas.Bool.Decides.{nat_tests}
use Rattle.std.proofs.lemmas.List.{take-append-le, take_all, length-set, get_or-set_other}
use Rattle.std.proofs.lemmas.Grind.{get_or-set_at}
use Rattle.s7_area.specs.Laws.{WritesKeepTheShape}
use Rattle.s7_area.specs.Memory.{shape_of}
use Rattle.s7_block.specs.Marks.{MarkList, unmarked}
use Rattle.s7_block.specs.Store.{Store, IsStore}
use Rattle.s7_plant.specs.declared.images.Images.{Images}
use Rattle.s7_plant.specs.declared.images.Kept.{Kept}
use Rattle.s7_plant.specs.declared.journal.Entry.{Entry}
use Rattle.s7_plant.specs.declared.plant.Plant.{Plant}
use Rattle.s7_plant.specs.declared.request.Request.{Request}
use Rattle.s7_plant.specs.Answers.{after, answer, answer_of, changed}
use Rattle.s7_plant.specs.Images.{AreKept, AreNoted, AreSources, CanBeNoted, HasRoomOf, IsKeptAt, all_there, kept_of, kept_state, sourced, sources_after}
use Rattle.s7_plant.specs.Journals.{Entries, at, entered, entries_of, replay_entries}
use Rattle.s7_plant.specs.Replies.{Said}
use Rattle.s7_plant.specs.Requests.{asked, kept_request}
use Rattle.s7_plant.specs.State.{State, state_of}
use Rattle.s7_plant.proofs.BlockReplayLemmas.{goes_on}
use Rattle.s7_plant.proofs.ImageLemmas.{has_place, limit_replayed, shape_replayed, sources_more, sources_stay}
use Rattle.s7_plant.proofs.KeptLemmas.{same_request}
use Rattle.s7_plant.proofs.RebuildLemmas.{opened}
use Rattle.s7_plant.proofs.SourceLemmas.{same_images}

-- a book that begins
pub kept_none : (opening : State) (limit : ℕ) (images : Images) → images.count ≡ 0 → IsStore opening.blocks → images.sources.marks ≡ unmarked opening.blocks.images → images.sources.limit ≡ opening.blocks.limit → length images.kept.items ≡ limit / 4096 → All (HasRoomOf opening) images.kept.items → limit ≤ 262144 → AreKept opening (entries_of [] limit) images
kept_none opening limit images none store marks most room fits few = record {
  count = none;
  kept = λ i d below. absurd (omega arith);
  sources = record { images = ap (λ ms. sourced opening.blocks.images [] ms) marks ∙ opened opening.blocks.images store.ordered; limit = most };
  room = room;
  within = omega arith;
  fits = fits;
  few = few;
}

at_stays : (opening : State) (entries more : List Entry) (n : ℕ) → n ≤ length entries → at opening (entries ++ more) n ≡ at opening entries n
at_stays opening entries more n within = ap (replay_entries opening) (take-append-le n entries more within)

kept_stays : (opening : State) (entries more : List Entry) (n : ℕ) (kept : Kept) → n ≤ length entries → IsKeptAt opening entries n kept → IsKeptAt opening (entries ++ more) n kept
kept_stays opening entries more n kept within is =
    let same = sym (at_stays opening entries more n within) in
    record {
      memory = is.memory ∙ ap (λ (s : State). s.memory) same;
      offset = is.offset ∙ ap (λ (s : State). s.offset) same;
      running = is.running ∙ ap (λ (s : State). s.running) same;
      sources = subst (λ (s : State). AreSources opening (entries ++ more) kept.sources s.blocks) same (sources_stay opening entries more kept.sources (at opening entries n).blocks is.sources);
    }

-- the plant after the last entry, as it is kept
kept_now : (opening : State) (entries : List Entry) (n : ℕ) (plant : Plant) (sources : MarkList) → n ≡ length entries → state_of plant ≡ replay_entries opening entries → AreSources opening entries sources (replay_entries opening entries).blocks → IsKeptAt opening entries n (kept_of plant sources)
kept_now opening entries n plant sources all is came =
    let same : state_of plant ≡ at opening entries n = is ∙ ap (replay_entries opening) (sym (take_all n entries (omega arith))) in
    record {
      memory = ap (λ (s : State). s.memory) same;
      offset = ap (λ (s : State). s.offset) same;
      running = ap (λ (s : State). s.running) same;
      sources = subst (λ (s : State). AreSources opening entries sources s.blocks) (sym is ∙ same) came;
    }

module _ (keeps : WritesKeepTheShape) (opening : State) (entries : List Entry) (entry : Entry) (limit : ℕ) (images : Images) (error : ℕ) (plant : Plant) (are : AreKept opening (entries_of entries limit) images) (room : length entries < limit) (few : limit ≤ 262144) (said : error ≡ (answer_of (replay_entries opening entries) entry.ask).error) (next : state_of plant ≡ after (replay_entries opening entries) entry.ask) where
  abbrev longer : List Entry
  longer = entries ++ entry ∷ []

  replayed : state_of plant ≡ replay_entries opening longer
  replayed = next ∙ sym (goes_on opening entries entry)

  shaped : shape_of plant.areas ≡ shape_of opening.memory
  shaped = ap (λ (s : State). shape_of s.memory) replayed ∙ shape_replayed keeps opening longer

  limited : images.sources.limit ≡ opening.blocks.limit
  limited = are.sources.limit ∙ limit_replayed opening entries

  -- the entry can be noted
  pub can_be_noted : CanBeNoted images (length entries) entry.ask.request error plant
  can_be_noted = record {
    few = omega arith;
    place = has_place opening (replay_entries opening entries) entries entry images.sources are.sources entry.ask.right entry.ask.request error said;
    room = λ due. due_room (are.count) (are.room) due;
    shapes = λ k d below. shaped ∙ sym ((are.fits k d below).shape);
    limits = λ k d below. limited ∙ sym ((are.fits k d below).limit);
  }
    where
      due_room : images.count ≡ length entries / 4096 → length images.kept.items ≡ limit / 4096 → eqb ((length entries + 1) % 4096) 0 ≡ true → images.count < length images.kept.items
      due_room count many due = grind (arith, nat_tests)

  module _ (noted : Images) (is : AreNoted images (length entries) entry.ask.request error plant noted) where
    sources_now : AreSources opening longer noted.sources (replay_entries opening longer).blocks
    sources_now =
        let more = sources_more opening (replay_entries opening entries) entries entry images.sources are.sources entry.ask.right entry.ask.request error refl said in
        let there = subst (λ (s : State). AreSources opening longer (sources_after images.sources (length entries) entry.ask.request error) s.blocks) (sym (goes_on opening entries entry)) more in
        subst (λ (m : MarkList). AreSources opening longer m (replay_entries opening longer).blocks) (sym is.sources) there

    long : length longer ≡ length entries + 1
    long = length-append entries (entry ∷ [])

    stays : (i : ℕ) (d : Kept) → i < images.count → IsKeptAt opening longer ((i + 1) * 4096) (get_or images.kept.items i d)
    stays i d below = kept_stays opening entries (entry ∷ []) ((i + 1) * 4096) (get_or images.kept.items i d) (omega (arith, are.count)) (are.kept i d below)

    comes : (i : ℕ) → i ≡ images.count → eqb ((length entries + 1) % 4096) 0 ≡ true → IsKeptAt opening longer ((i + 1) * 4096) (kept_of plant noted.sources)
    comes i last due = kept_now opening longer ((i + 1) * 4096) plant noted.sources (at_end (are.count) due) replayed sources_now
      where
        at_end : images.count ≡ length entries / 4096 → eqb ((length entries + 1) % 4096) 0 ≡ true → (i + 1) * 4096 ≡ length longer
        at_end count time = grind (arith, nat_tests, long, last)

    fits_now : HasRoomOf opening (kept_of plant noted.sources)
    fits_now = record { shape = shaped; limit = sources_now.limit ∙ limit_replayed opening longer }

    kept_one : (i : ℕ) (d : Kept) → i < images.count + 1 → images.count < length images.kept.items → eqb ((length entries + 1) % 4096) 0 ≡ true → IsKeptAt opening longer ((i + 1) * 4096) (get_or (set images.kept.items images.count (kept_of plant noted.sources)) i d)
    kept_one i d below place due = ⊎_elim
        (λ (last : i ≡ images.count). subst (IsKeptAt opening longer ((i + 1) * 4096)) (sym (get_or-set_at images.kept.items images.count i (kept_of plant noted.sources) d last place)) (comes i last due))
        (λ (other : i ≡ images.count → ⊥). subst (IsKeptAt opening longer ((i + 1) * 4096)) (sym (get_or-set_other images.kept.items images.count i (kept_of plant noted.sources) d other)) (stays i d (omega arith)))
        (cases_eq i images.count)

    fits_one : All (HasRoomOf opening) (set images.kept.items images.count (kept_of plant noted.sources))
    fits_one k d below =
        let many = length-set images.kept.items images.count (kept_of plant noted.sources) in
        ⊎_elim
        (λ (last : k ≡ images.count). subst (HasRoomOf opening) (sym (get_or-set_at images.kept.items images.count k (kept_of plant noted.sources) d last (omega arith))) fits_now)
        (λ (other : k ≡ images.count → ⊥). subst (HasRoomOf opening) (sym (get_or-set_other images.kept.items images.count k (kept_of plant noted.sources) d other)) (are.fits k d (omega arith)))
        (cases_eq k images.count)

    count_by : (before now : ℕ) (due : Bool) → eqb ((length entries + 1) % 4096) 0 ≡ due → before ≡ length entries / 4096 → now ≡ cond due (before + 1) before → now ≡ length longer / 4096
    count_by before now true time was is = grind (arith, nat_tests, long)
    count_by before now false time was is = grind (arith, nat_tests, long)

    more_by : (due : Bool) → eqb ((length entries + 1) % 4096) 0 ≡ due → noted.kept.items ≡ cond due (set images.kept.items images.count (kept_of plant noted.sources)) images.kept.items → noted.count ≡ cond due (images.count + 1) images.count → AreKept opening (entries_of longer limit) noted
    more_by false time kept count = record {
      count = count_by images.count noted.count false time are.count count;
      kept = λ i d below. subst (λ (ks : List Kept). IsKeptAt opening longer ((i + 1) * 4096) (get_or ks i d)) (sym kept) (stays i d (omega (arith, count)));
      sources = sources_now;
      room = ap length kept ∙ are.room;
      within = omega (arith, count, are.within, ap length kept);
      fits = subst (All (HasRoomOf opening)) (sym kept) are.fits;
      few = few;
    }
    more_by true time kept count =
        let place = can_be_noted.room time in
        let many = length-set images.kept.items images.count (kept_of plant noted.sources) in
        record {
          count = count_by images.count noted.count true time are.count count;
          kept = λ i d below. subst (λ (ks : List Kept). IsKeptAt opening longer ((i + 1) * 4096) (get_or ks i d)) (sym kept) (kept_one i d (omega (arith, count)) place time);
          sources = sources_now;
          room = ap length kept ∙ many ∙ are.room;
          within = omega (arith, count, place, ap length kept, many);
          fits = subst (All (HasRoomOf opening)) (sym kept) fits_one;
          few = few;
        }

    -- one more entry, which was noted
    pub kept_more : AreKept opening (entries_of longer limit) noted
    kept_more = more_by _ refl is.kept is.count

-- the image that is taken for the first n entries
pub kept_at : (opening : State) (journal : Entries) (images : Images) (n place : ℕ) (kept : Kept) → AreKept opening journal images → n ≤ length journal.entries → place ≡ n / 4096 → (place ≡ 0 → ⊥) → kept ≡ get_or images.kept.items (place - 1) kept → IsKeptAt opening journal.entries (n - n % 4096) kept
kept_at opening journal images n place kept are within is some at =
    let behind : (place - 1 + 1) * 4096 ≡ n - n % 4096 = omega (arith, is, some) in
    let found = are.kept (place - 1) kept (omega (arith, are.count, is, some, within)) in
    subst (λ (k : ℕ). IsKeptAt opening journal.entries k kept) behind (subst (IsKeptAt opening journal.entries ((place - 1 + 1) * 4096)) (sym at) found)

-- the plant that is made of it
pub made_of : (opening : State) (entries : List Entry) (n : ℕ) (kept : Kept) (blocks : Store) (plant : State) → IsKeptAt opening entries n kept → plant ≡ kept_state kept blocks → all_there blocks.images ≡ sourced opening.blocks.images entries kept.sources.marks → blocks.limit ≡ opening.blocks.limit → plant ≡ at opening entries n
made_of opening entries n kept blocks plant is made images limit =
    let same = same_images opening.blocks.images entries kept.sources.marks blocks.images (at opening entries n).blocks.images images is.sources.images in
    let most : blocks.limit ≡ (at opening entries n).blocks.limit = limit ∙ sym (limit_replayed opening (take n entries)) in
    made ∙ (λ i. record { memory = is.memory i; blocks = record { images = same i; limit = most i }; offset = is.offset i; running = is.running i })

-- a book's step
module _ (keeps : WritesKeepTheShape) (opening state : State) (entries : List Entry) (limit : ℕ) (images : Images) (link number error : ℕ) (right : Bool) (request left : Request) (plant : Plant) (replay : state ≡ replay_entries opening entries) (are : AreKept opening (entries_of entries limit) images) (room : length entries < limit) (len : number ≡ length entries) (same : left ≡ kept_request request) (said : error ≡ (answer state right request).error) (next : state_of plant ≡ changed state right request) where
  abbrev last : Entry
  last = entered link (asked right left)

  said_kept : error ≡ (answer (replay_entries opening entries) right left).error
  said_kept =
      said ∙ ap (λ (s : State). (answer s right request).error) replay
      ∙ ap (λ (r : Said). r.error) (sym (same_request (replay_entries opening entries) right request).1)
      ∙ ap (λ (r : Request). (answer (replay_entries opening entries) right r).error) (sym same)

  next_kept : state_of plant ≡ changed (replay_entries opening entries) right left
  next_kept =
      next ∙ ap (λ (s : State). changed s right request) replay
      ∙ sym (same_request (replay_entries opening entries) right request).0
      ∙ ap (λ (r : Request). changed (replay_entries opening entries) right r) (sym same)

  pub step_can : CanBeNoted images number left error plant
  step_can = subst (λ (n : ℕ). CanBeNoted images n left error plant) (sym len) (can_be_noted keeps opening entries last limit images error plant are room are.few said_kept next_kept)

  pub step_replayed : (journal : Entries) → journal ≡ entries_of (entries ++ last ∷ []) limit → state_of plant ≡ replay_entries opening journal.entries
  step_replayed journal is = next_kept ∙ sym (goes_on opening entries last) ∙ ap (λ (j : Entries). replay_entries opening j.entries) (sym is)

  pub step_kept : (noted : Images) → AreNoted images number left error plant noted → (journal : Entries) → journal ≡ entries_of (entries ++ last ∷ []) limit → AreKept opening journal noted
  step_kept noted was journal is =
      let at_length = subst (λ (n : ℕ). AreNoted images n left error plant noted) len was in
      subst (λ (j : Entries). AreKept opening j noted) (sym is) (kept_more keeps opening entries last limit images error plant are room are.few said_kept next_kept noted at_length)

-- Results whose jobs read what stood at their places.
use Rattle.std.proofs.Common.{◌≡◌, ◌⊎◌, inl, inr, ℕ, false, List, [], ◌∷◌, ◌++◌, length, map, take, refl, ap, sym, ◌∙◌, subst}
use Rattle.std.specs.Prelude.{Some}
use Rattle.s7_dialogue.specs.declared.job.Job.{Job}
use Rattle.s7_dialogue.specs.declared.job.Job.TheVariants as job
use Rattle.s7_dialogue.specs.declared.job.JobResult.{JobResult}
use Rattle.s7_dialogue.specs.DataBlocks.{data_parts}
use Rattle.s7_split.specs.Groups.{groups_of}
use Rattle.s7_split.specs.Parts.{parts_of}
use Rattle.s7_turn.specs.declared.view.Entry.{Entry as Call}
use Rattle.s7_turn.specs.Histories.{entry}
use Rattle.s7_plant.specs.Books.{BookTold}
use Rattle.s7_plant.specs.declared.request.Ask.{Ask}
use Rattle.s7_plant.specs.declared.request.Request.TheVariants.{Info}
use Rattle.s7_plant.specs.Answers.{answer_of}
use Rattle.s7_plant.specs.Requests.{asked}
use Rattle.s7_plant.specs.State.{State, state_of}
use Rattle.s7_session.specs.Entry.{Entry, answered}
use Rattle.s7_session.specs.Books.{History, history_of, own, GoesOnBy}
use Rattle.s7_rig.specs.Complete.{data_block}
use Rattle.s7_rig.specs.Dialogues.{ReadsBlock, ReadsAs}
use Rattle.s7_rig.specs.Split.{state_at, Rise, AreReadAt, BlockRead, ReadStands, StandsAtPlaces}
use Rattle.s7_rig.specs.Split.{AllStand}
use Rattle.s7_rig.proofs.GroupPlaces.{groups_read_at, parts_read_at, groups_stay, parts_stay}
use Rattle.s7_rig.proofs.OwnLemmas.{AreOwnAt, own_at, own_back_at, own_rises, rise_back, numbers_of}
use Rattle.s7_rig.proofs.OwnLemmas.{slice_get-grows, at_grows}
use Rattle.std.proofs.lemmas.Option.{slice_get_within}

-- ---- what the own entries read

module _ (s : State) (history : History) (link pdu : ℕ) where
  -- entries of which the first tells the head of a data block and the others read its parts
  block_stands : (number : ℕ) (mine : List Entry) (octets : List ℕ) → AreOwnAt s history link mine
      → Rise (numbers_of mine) → ReadsBlock number pdu (map answered mine) octets
      → BlockRead s history (numbers_of mine) link number pdu octets
  block_stands number [] octets own rise reads = absurd reads
  block_stands number (e ∷ mine) octets own rise (right, size, asks, gives, parts) =
      let at = own.0 in
      let seen = gives (state_at s history e.number) (at.reply ∙ ap (answer_of (state_at s history e.number)) asks) in
      record {
        asked_at = e.number;
        later = numbers_of mine;
        numbers_are = refl;
        right = right;
        call = at.call ∙ ap (λ ask. Some (entry link ask)) asks;
        stood = seen.0;
        there = seen.1;
        rise = rise;
        read = subst (λ n. AreReadAt s history link (data_parts number n pdu false) (numbers_of mine) octets)
            (sym seen.2) (parts_read_at s history link (data_parts number size pdu false) mine octets own.1 parts);
      }

  -- a back part of the own entries that a job read
  pub read_stands : (done : Job) (before mine : List Entry) (octets codes : List ℕ)
      → own s link history ≡ before ++ mine
      → ReadsAs done pdu (map answered mine) octets codes
      → ReadStands s history link pdu done (numbers_of mine) octets codes
  read_stands (job.ReadArea item) before mine octets codes split reads = record {
    rise = rise_back before mine (subst (λ es. Rise (numbers_of es)) split (own_rises s link history));
    read = parts_read_at s history link (parts_of item pdu false) mine octets
        (own_back_at s history link before mine (subst (AreOwnAt s history link) split (own_at s link history))) reads;
  }
  read_stands (job.ReadMany items) before mine octets codes split reads = record {
    rise = rise_back before mine (subst (λ es. Rise (numbers_of es)) split (own_rises s link history));
    read = groups_read_at s history link (groups_of pdu false items) mine octets codes
        (own_back_at s history link before mine (subst (AreOwnAt s history link) split (own_at s link history))) reads;
  }
  read_stands (job.DbGet number) before mine octets codes split reads = λ low.
      block_stands number mine octets
      (own_back_at s history link before mine (subst (AreOwnAt s history link) split (own_at s link history)))
      (rise_back before mine (subst (λ es. Rise (numbers_of es)) split (own_rises s link history))) (reads low)
  read_stands _ before mine octets codes split reads = tt

  -- a result stands at the numbers of its job's entries
  pub stands_at : (told : JobResult) (before mine : List Entry) (places : List ℕ)
      → own s link history ≡ before ++ mine → numbers_of mine ≡ places
      → (told.code ≡ 0
      → ReadsAs told.job pdu (map answered mine) told.octets (take told.count told.codes))
      → StandsAtPlaces s history link pdu told places
  stands_at told before mine places split numbered reads = λ good.
      subst (λ ns. ReadStands s history link pdu told.job ns told.octets (take told.count told.codes)) numbered
      (read_stands told.job before mine told.octets (take told.count told.codes) split (reads good))

-- a job that reads nothing stands anywhere
pub reads_nothing : (s : State) (history : History) (link pdu : ℕ) (done : Job) (places octets codes : List ℕ)
    → (done ≡ job.Connect) ⊎ (done ≡ job.Disconnect) → ReadStands s history link pdu done places octets codes
reads_nothing s history link pdu done places octets codes (inl is) =
    subst (λ j. ReadStands s history link pdu j places octets codes) (sym is) tt
reads_nothing s history link pdu done places octets codes (inr is) =
    subst (λ j. ReadStands s history link pdu j places octets codes) (sym is) tt

-- ---- a history that grows

module _ (s : State) (history more : History) (link pdu : ℕ) where
  block_stays : (numbers : List ℕ) (number : ℕ) (octets : List ℕ)
      → BlockRead s history numbers link number pdu octets → BlockRead s (history ++ more) numbers link number pdu octets
  block_stays numbers number octets is =
      let call : Call Ask = entry link (asked is.right (Info 0x41 number)) in
      let less = slice_get_within history is.asked_at call is.call in
      record {
        asked_at = is.asked_at;
        later = is.later;
        numbers_are = is.numbers_are;
        right = is.right;
        call = slice_get-grows history more is.asked_at call is.call;
        stood = is.stood;
        there = subst (λ (x : State). data_block x.memory number ≡ Some is.stood)
            (at_grows s history more is.asked_at less) is.there;
        rise = is.rise;
        read = parts_stay s history more link (data_parts number (length is.stood) pdu false) is.later octets is.read;
      }

  read_stays : (done : Job) (places octets codes : List ℕ) → ReadStands s history link pdu done places octets codes
      → ReadStands s (history ++ more) link pdu done places octets codes
  read_stays (job.ReadArea item) places octets codes is = record {
    rise = is.rise;
    read = parts_stay s history more link (parts_of item pdu false) places octets is.read;
  }
  read_stays (job.ReadMany items) places octets codes is = record {
    rise = is.rise;
    read = groups_stay s history more link (groups_of pdu false items) places octets codes is.read;
  }
  read_stays (job.DbGet number) places octets codes is = λ low. block_stays places number octets (is low)
  read_stays _ places octets codes is = tt

  all_stand_stays : (results : List JobResult) (places : List (List ℕ)) → AllStand s history link pdu results places
      → AllStand s (history ++ more) link pdu results places
  unfolding AllStand
  all_stand_stays [] [] all = tt
  all_stand_stays [] (numbers ∷ places) all = all
  all_stand_stays (told ∷ results) [] all = all
  all_stand_stays (told ∷ results) (numbers ∷ places) all = (
    λ good. read_stays told.job numbers told.octets (take told.count told.codes) (all.0 good),
    all_stand_stays results places all.1,
  )

-- the same of a book that goes on, by calls of whatever link
pub all_stand_goes_on : (other : ℕ) (old new : BookTold) → GoesOnBy other old new → (link pdu : ℕ)
    (results : List JobResult) (places : List (List ℕ))
    → AllStand (state_of old.opening) (history_of old) link pdu results places
    → AllStand (state_of new.opening) (history_of new) link pdu results places
all_stand_goes_on other old new g link pdu results places all =
    subst (λ o. AllStand (state_of o) (history_of new) link pdu results places) (sym g.opening)
    (subst (λ es. AllStand (state_of old.opening) es link pdu results places) (sym g.history)
    (all_stand_stays (state_of old.opening) (history_of old) g.calls link pdu results places all))

-- ---- one more result

pub none_stand : (s : State) (history : History) (link pdu : ℕ) → AllStand s history link pdu [] []
unfolding AllStand
none_stand s history link pdu = tt

-- one more result with its places
pub all_stand_more : (s : State) (history : History) (link pdu : ℕ) (results : List JobResult)
    (places : List (List ℕ)) (told : JobResult) (numbers : List ℕ) → AllStand s history link pdu results places
    → StandsAtPlaces s history link pdu told numbers
    → AllStand s history link pdu (results ++ told ∷ []) (places ++ numbers ∷ [])
unfolding AllStand
all_stand_more s history link pdu [] [] told numbers all last = (last, tt)
all_stand_more s history link pdu [] (ns ∷ places) told numbers all last = absurd all
all_stand_more s history link pdu (first ∷ results) [] told numbers all last = absurd all
all_stand_more s history link pdu (first ∷ results) (ns ∷ places) told numbers all last =
    (all.0, all_stand_more s history link pdu results places told numbers all.1 last)

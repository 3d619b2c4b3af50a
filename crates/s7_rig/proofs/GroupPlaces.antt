-- Where a link's own entries that read groups of items, or parts of one, stand.
use Rattle.std.proofs.Common.{◌≡◌, ℕ, Some, List, [], ◌∷◌, ◌++◌, map, ap, ◌∙◌, subst}
use Rattle.std.specs.List.{flat_map}
use Rattle.std.proofs.lemmas.Option.{slice_get_within}
use Rattle.s7_area.specs.Memory.{read_code, read_octets}
use Rattle.s7_item.specs.declared.item.Item.{Item}
use Rattle.s7_turn.specs.declared.view.Entry.{Entry as Call}
use Rattle.s7_turn.specs.Histories.{entry}
use Rattle.s7_plant.specs.Answers.{answer_of}
use Rattle.s7_plant.specs.declared.request.Ask.{Ask}
use Rattle.s7_plant.specs.declared.request.Request.TheVariants.{Read}
use Rattle.s7_plant.specs.Requests.{asked}
use Rattle.s7_plant.specs.State.{State}
use Rattle.s7_dialogue.specs.Dialogue.{alone}
use Rattle.s7_session.specs.Entry.{Entry, answered}
use Rattle.s7_session.specs.Books.{History}
use Rattle.s7_rig.specs.Dialogues.{ReadsGroups, ReadsParts}
use Rattle.s7_rig.specs.Split.{state_at, IsGroupReadAt, AreGroupsReadAt, AreReadAt}
use Rattle.s7_rig.proofs.OwnLemmas.{AreOwnAt, numbers_of, slice_get-grows, at_grows}

-- Own entries that read groups were read at their numbers.
pub groups_read_at : (s : State) (history : History) (link : ℕ) (groups : List (List Item)) (mine : List Entry)
    (octets codes : List ℕ) → AreOwnAt s history link mine → ReadsGroups groups (map answered mine) octets codes
    → AreGroupsReadAt s history link groups (numbers_of mine) octets codes
unfolding AreGroupsReadAt ReadsGroups
groups_read_at s history link [] [] octets codes all reads = reads
groups_read_at s history link [] (e ∷ mine) octets codes all reads = reads
groups_read_at s history link (group ∷ groups) [] octets codes all reads = reads
groups_read_at s history link (group ∷ groups) (e ∷ mine) octets codes all
    (front, rest, first, others, right, split, parted, asks, gives, later) =
    let left = state_at s history e.number in
    let seen = gives left (all.0.reply ∙ ap (answer_of left) asks) in (
      front,
      rest,
      first,
      others,
      split,
      parted,
      record {
        right = right;
        call = all.0.call ∙ ap (λ ask. Some (entry link ask)) asks;
        codes_are = seen.0;
        octets_are = seen.1;
      },
      groups_read_at s history link groups mine rest others all.1 later,
    )

-- and own entries that read parts
pub parts_read_at : (s : State) (history : History) (link : ℕ) (parts : List Item) (mine : List Entry) (octets : List ℕ)
    → AreOwnAt s history link mine → ReadsParts parts (map answered mine) octets
    → AreReadAt s history link parts (numbers_of mine) octets
parts_read_at s history link parts mine octets all (codes, good, reads) =
    (codes, good, groups_read_at s history link (alone parts) mine octets codes all reads)

-- ---- a history that grows

group_stays : (s : State) (history more : History) (link : ℕ) (group : List Item) (number : ℕ)
    (octets codes : List ℕ)
    → IsGroupReadAt s history link group number octets codes
    → IsGroupReadAt s (history ++ more) link group number octets codes
group_stays s history more link group number octets codes is =
    let call : Call Ask = entry link (asked is.right (Read group)) in
    let less = slice_get_within history number call is.call in
    let same = at_grows s history more number less in
    record {
      right = is.right;
      call = slice_get-grows history more number call is.call;
      codes_are = subst (λ (x : State). codes ≡ map (read_code x.memory is.right) group) same is.codes_are;
      octets_are = subst (λ (x : State). octets ≡ flat_map (read_octets x.memory is.right) group) same is.octets_are;
    }

-- What was read at its numbers was read there, however the history goes on.
pub groups_stay : (s : State) (history more : History) (link : ℕ) (groups : List (List Item))
    (numbers octets codes : List ℕ)
    → AreGroupsReadAt s history link groups numbers octets codes
    → AreGroupsReadAt s (history ++ more) link groups numbers octets codes
unfolding AreGroupsReadAt
groups_stay s history more link [] [] octets codes are = are
groups_stay s history more link [] (n ∷ numbers) octets codes are = are
groups_stay s history more link (group ∷ groups) [] octets codes are = are
groups_stay s history more link (group ∷ groups) (n ∷ numbers) octets codes
    (front, rest, first, others, split, parted, read, later) = (
      front,
      rest,
      first,
      others,
      split,
      parted,
      group_stays s history more link group n front first read,
      groups_stay s history more link groups numbers rest others later,
    )

pub parts_stay : (s : State) (history more : History) (link : ℕ) (parts : List Item) (numbers octets : List ℕ)
    → AreReadAt s history link parts numbers octets → AreReadAt s (history ++ more) link parts numbers octets
parts_stay s history more link parts numbers octets (codes, good, are) =
    (codes, good, groups_stay s history more link (alone parts) numbers octets codes are)

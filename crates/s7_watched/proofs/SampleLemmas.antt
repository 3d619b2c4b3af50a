-- Samples in the codes and octets of several items.
use Rattle.std.proofs.Common.{◌≡◌, ◌∙◌, ◌+◌, ℕ, Bool, true, false, cond, eqb, List, [], ◌∷◌, ◌++◌, length, take, drop, map, refl, ap, sym, subst, arith}
use Rattle.std.specs.Prelude.{if◌then◌else◌, ◌==◌}
use Rattle.std.specs.List.{flat_map}
use Rattle.std.proofs.lemmas.Bool.{eqb-true}
use Rattle.std.proofs.lemmas.List.{append_assoc, drop_at, take_at}
use Rattle.s7_item.specs.declared.item.Item.{Item}
use Rattle.s7_item.specs.Item.{octet_count}
use Rattle.s7_area.specs.Memory.{Memory, read_code, read_octets}
use Rattle.s7_client.specs.Form.{count_read}
use Rattle.s7_plant.specs.State.{State}
use Rattle.s7_session.specs.Books.{History}
use Rattle.s7_split.specs.Fits.{fits}
use Rattle.s7_split.specs.Groups.{groups_from, groups_of}
use Rattle.s7_rig.specs.Split.{AreGroupsReadAt, GroupedRead, state_at}
use Rattle.s7_rig.proofs.ReadLemmas.{read_whole}
use Rattle.s7_watch.specs.Samples.{Sample, sample_first, samples_in}
use Rattle.s7_watched.specs.Watched.{AreSampledAt, sample_in}

-- ---- one item

octets_by : (m : Memory) (right : Bool) (item : Item) (good : Bool) → eqb (read_code m right item) 0xFF ≡ good
    → length (read_octets m right item) ≡ cond good (octet_count item) 0
unfolding read_octets
octets_by m right item true is = read_whole m right item (eqb-true (read_code m right item) 0xFF is)
octets_by m right item false is = let none : read_octets m right item ≡ [] = rw is refl in ap length none

-- an item gives as many octets as its code says
pub octets_counted : (m : Memory) (right : Bool) (item : Item)
    → length (read_octets m right item) ≡ count_read item (read_code m right item)
octets_counted m right item = octets_by m right item (eqb (read_code m right item) 0xFF) refl

-- ---- the items of a group, and others behind them

pub samples-append : (m : Memory) (right : Bool) (group more : List Item) (codes octets : List ℕ)
    → samples_in (group ++ more) (map (read_code m right) group ++ codes) (flat_map (read_octets m right) group ++ octets)
    ≡ map (sample_in m right) group ++ samples_in more codes octets
unfolding samples_in
samples-append m right [] more codes octets = refl
samples-append m right (item ∷ group) more codes octets =
    let code : ℕ = read_code m right item in
    let own : List ℕ = read_octets m right item in
    let others : List ℕ = flat_map (read_octets m right) group in
    let long = octets_counted m right item in
    let joined : (own ++ others) ++ octets ≡ own ++ (others ++ octets) = append_assoc own others octets in
    let first : take (count_read item code) ((own ++ others) ++ octets) ≡ own =
    ap (take (count_read item code)) joined ∙ take_at own (others ++ octets) (count_read item code) long in
    let rest : drop (count_read item code) ((own ++ others) ++ octets) ≡ others ++ octets =
    ap (drop (count_read item code)) joined ∙ drop_at own (others ++ octets) (count_read item code) long in
    (λ i. record { code = code; octets = first i } ∷ samples_in (group ++ more) (map (read_code m right) group ++ codes) (rest i))
    ∙ ap (λ l. sample_in m right item ∷ l) (samples-append m right group more codes octets)

-- ---- groups

abbrev pub joined : List (List Item) → List Item
joined groups = flat_map (λ (group : List Item). group) groups

module _ (opening : State) (history : History) (link : ℕ) where
  -- what the groups gave, cut by their codes, is their samples
  pub groups_sampled : (groups : List (List Item)) (numbers octets codes : List ℕ)
      → AreGroupsReadAt opening history link groups numbers octets codes
      → AreSampledAt opening history link groups numbers (samples_in (joined groups) codes octets)
  unfolding AreGroupsReadAt AreSampledAt samples_in
  groups_sampled [] [] octets codes read = refl
  groups_sampled [] (number ∷ numbers) octets codes read = absurd read
  groups_sampled (group ∷ groups) [] octets codes read = absurd read
  groups_sampled (group ∷ groups) (number ∷ numbers) octets codes (front, rest, first, others, octets_are, codes_are, one, later) =
      let m = (state_at opening history number).memory in (
        map (sample_in m one.right) group,
        samples_in (joined groups) others rest,
        (λ i. samples_in (group ++ joined groups) ((codes_are ∙ ap (λ c. c ++ others) one.codes_are) i)
            ((octets_are ∙ ap (λ o. o ++ rest) one.octets_are) i))
            ∙ samples-append m one.right group (joined groups) others rest,
        record { right = one.right; call = one.call; samples_are = refl },
        groups_sampled groups numbers rest others later,
      )

-- the groups of items have all of them, in order
groups_whole_by : (pdu : ℕ) (write : Bool) (group items : List Item) → joined (groups_from pdu write group items) ≡ group ++ items
groups_whole_by pdu write group [] = refl
groups_whole_by pdu write group (item ∷ items) =
    go (fits pdu write (group ++ item ∷ [])) (groups_whole_by pdu write (group ++ item ∷ []) items)
    (groups_whole_by pdu write (item ∷ []) items)
  where
    go : (b : Bool) → joined (groups_from pdu write (group ++ item ∷ []) items) ≡ (group ++ item ∷ []) ++ items
        → joined (groups_from pdu write (item ∷ []) items) ≡ (item ∷ []) ++ items
        → joined (cond b (groups_from pdu write (group ++ item ∷ []) items) (group ∷ groups_from pdu write (item ∷ []) items))
        ≡ group ++ item ∷ items
    go true one other = one ∙ append_assoc group (item ∷ []) items
    go false one other = ap (λ l. group ++ l) other

pub groups_whole : (pdu : ℕ) (write : Bool) (items : List Item) → joined (groups_of pdu write items) ≡ items
groups_whole pdu write [] = refl
groups_whole pdu write (item ∷ items) = groups_whole_by pdu write (item ∷ []) items

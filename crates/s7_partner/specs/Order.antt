-- The order of what a poll does on its link, and of its acts between.
use Rattle.std.specs.Prelude.{◌≡◌, ℕ, ◌<◌, List, [], ◌∷◌, ◌++◌, length}
use Rattle.s7_wire.specs.Reading.{reading}
use Rattle.s7_dialogue.specs.declared.config.Config.{Config}
use Rattle.s7_partner.specs.declared.role.Role.{Role}
use Rattle.s7_partner.specs.States.{Act, after, read_in}
use Rattle.s7_partner.specs.Partners.{opening_by, IsSettled}

-- One deed of a poll. It uses octets together with the acts of reading what they end. An act that uses no octet, as an
-- acknowledgement, is a deed of its own.
pub data Deed : Type 0 where
  transmits : (octets : List ℕ) → Deed
  uses : (octets : List ℕ) (acts : List Act) → Deed
  receives : (octets : List ℕ) → Deed
  does : (act : Act) → Deed

abbrev pub transmitted_in : List Deed → List ℕ
transmitted_in [] = []
transmitted_in (transmits octets ∷ deeds) = octets ++ transmitted_in deeds
transmitted_in (uses octets acts ∷ deeds) = transmitted_in deeds
transmitted_in (receives octets ∷ deeds) = transmitted_in deeds
transmitted_in (does act ∷ deeds) = transmitted_in deeds

abbrev pub used_in : List Deed → List ℕ
used_in [] = []
used_in (transmits octets ∷ deeds) = used_in deeds
used_in (uses octets acts ∷ deeds) = octets ++ used_in deeds
used_in (receives octets ∷ deeds) = used_in deeds
used_in (does act ∷ deeds) = used_in deeds

abbrev pub received_in : List Deed → List ℕ
received_in [] = []
received_in (transmits octets ∷ deeds) = received_in deeds
received_in (uses octets acts ∷ deeds) = received_in deeds
received_in (receives octets ∷ deeds) = octets ++ received_in deeds
received_in (does act ∷ deeds) = received_in deeds

abbrev pub acts_in : List Deed → List Act
acts_in [] = []
acts_in (transmits octets ∷ deeds) = acts_in deeds
acts_in (uses octets acts ∷ deeds) = acts ++ acts_in deeds
acts_in (receives octets ∷ deeds) = acts_in deeds
acts_in (does act ∷ deeds) = act ∷ acts_in deeds

-- A partner that did these acts, used b and transmitted w did these deeds, while it kept octets unused. It used octets
-- only if all that it might send was sent, each block that had arrived whole was handed out, and each block that was
-- handed out was acknowledged; what it read then is what these octets ended. It received octets only if also no
-- received octet was unused.
abbrev pub AreInOrder : Role → Config → List ℕ → List Act → List ℕ → List ℕ → List Deed → Type 0
AreInOrder role config kept acts b w [] = Unit {0}
AreInOrder role config kept acts b w (transmits octets ∷ deeds) =
    (0 < length octets) × AreInOrder role config kept acts b (w ++ octets) deeds
AreInOrder role config kept acts b w (uses octets more ∷ deeds) =
    (0 < length octets) × (w ≡ (after role config acts).out) × IsSettled (after role config acts)
    × (rest : List ℕ) × (kept ≡ octets ++ rest)
    × (read_in (acts ++ more) ≡ (reading (opening_by role) (b ++ octets)).events)
    × AreInOrder role config rest (acts ++ more) (b ++ octets) w deeds
AreInOrder role config kept acts b w (receives octets ∷ deeds) =
    (0 < length octets) × (w ≡ (after role config acts).out) × IsSettled (after role config acts) × (kept ≡ [])
    × AreInOrder role config octets acts b w deeds
AreInOrder role config kept acts b w (does act ∷ deeds) = AreInOrder role config kept (acts ++ act ∷ []) b w deeds

-- What was received, used and transmitted, and the further acts, consist of deeds in order, for a partner that had done
-- these acts, used b and transmitted w, and kept octets unused.
pub record IsOrderly (role : Role) (config : Config) (kept : List ℕ) (acts further : List Act)
    (b w received used written : List ℕ) : Type 0 where
  pub deeds : List Deed
  pub acts_are : acts_in deeds ≡ further
  pub transmitted : transmitted_in deeds ≡ written
  pub used_are : used_in deeds ≡ used
  pub received_are : received_in deeds ≡ received
  pub order : AreInOrder role config kept acts b w deeds

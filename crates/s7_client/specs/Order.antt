-- The order of the deeds of a poll on its link.
use Rattle.std.specs.Prelude.{◌≡◌, ℕ, ◌<◌, List, [], ◌∷◌, ◌++◌, length}
use Rattle.s7_dialogue.specs.Course.{Origin, Awaits, for_confirm, for_answers, for_departure, for_nothing, course, may_send}

-- the job awaits octets
abbrev pub AwaitsOctets : Awaits → Type 0
AwaitsOctets for_confirm = Unit {0}
AwaitsOctets for_answers = Unit {0}
AwaitsOctets for_departure = ⊥
AwaitsOctets (for_nothing end carried) = ⊥

-- one deed of a poll
pub data Deed : Type 0 where
  transmits : (octets : List ℕ) → Deed
  uses : (octets : List ℕ) → Deed
  receives : (octets : List ℕ) → Deed

abbrev pub transmitted_in : List Deed → List ℕ
transmitted_in [] = []
transmitted_in (transmits octets ∷ deeds) = octets ++ transmitted_in deeds
transmitted_in (uses octets ∷ deeds) = transmitted_in deeds
transmitted_in (receives octets ∷ deeds) = transmitted_in deeds

abbrev pub used_in : List Deed → List ℕ
used_in [] = []
used_in (transmits octets ∷ deeds) = used_in deeds
used_in (uses octets ∷ deeds) = octets ++ used_in deeds
used_in (receives octets ∷ deeds) = used_in deeds

abbrev pub received_in : List Deed → List ℕ
received_in [] = []
received_in (transmits octets ∷ deeds) = received_in deeds
received_in (uses octets ∷ deeds) = received_in deeds
received_in (receives octets ∷ deeds) = octets ++ received_in deeds

-- A job that had used `b` and transmitted `w` did these deeds; before them it had received the octets `kept` and not
-- used them. It used octets only if all that might be sent was sent. It received octets only if, besides, no received
-- octet was unused and octets were awaited.
abbrev pub AreInOrder : Origin → List ℕ → List ℕ → List ℕ → List Deed → Type 0
AreInOrder origin kept b w [] = Unit {0}
AreInOrder origin kept b w (transmits octets ∷ deeds) =
    (0 < length octets) × AreInOrder origin kept b (w ++ octets) deeds
AreInOrder origin kept b w (uses octets ∷ deeds) =
    (0 < length octets) × (w ≡ may_send origin b)
    × (rest : List ℕ) × (kept ≡ octets ++ rest) × AreInOrder origin rest (b ++ octets) w deeds
AreInOrder origin kept b w (receives octets ∷ deeds) =
    (0 < length octets) × (w ≡ may_send origin b) × (kept ≡ []) × AwaitsOctets (course origin b).awaits
    × AreInOrder origin octets b w deeds

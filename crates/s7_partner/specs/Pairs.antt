-- TWO PARTNERS OVER ONE LINK: each used octets that the other transmitted, however these were cut and whenever each
-- was polled. What one handed out is a prefix of what the other was given to send, and a block that one reported as
-- sent was handed out by the other.
use Rattle.std.specs.Prelude.{◌≡◌, ℕ, ◌+◌, ◌≤◌, Bool, ◌&&◌, not, if◌then◌else◌, List, [], ◌∷◌, ◌++◌}
use Rattle.std.specs.Prelude.{length}
use Rattle.s7_dialogue.specs.declared.config.Config.{Config}
use Rattle.s7_partner.specs.declared.role.Role.{Role}
use Rattle.s7_partner.specs.declared.role.Role.TheVariants.{Active, Passive}
use Rattle.s7_partner.specs.States.{State, Act, Parcel, start, with_act, given_in, handed_in, is_sending}
use Rattle.s7_partner.specs.Partners.{IsPrefixOf, Course}

-- a configuration with which a partner may be made, within this profile's own limits
pub record IsConfig (config : Config) : Type 0 where
  pub least_pdu : 64 ≤ config.pdu
  pub most_pdu : config.pdu ≤ 1920
  pub least_jobs : 1 ≤ config.jobs
  pub most_jobs : config.jobs ≤ 8

-- an active partner and a passive one, with their acts, the octets that each used, and the octets that each
-- transmitted
pub record ArePaired (config config' : Config) (acts acts' : List Act) (b b' written written' : List ℕ) : Type 0 where
  pub one : IsConfig config
  pub other : IsConfig config'
  pub active : Course Active config acts b written
  pub passive : Course Passive config' acts' b' written'
  pub to_passive : IsPrefixOf b' written
  pub to_active : IsPrefixOf b written'

-- ---- delivery

-- the blocks that were handed out are a prefix of those that were given
abbrev pub Delivered : List Parcel → List Parcel → Type 0
Delivered given handed = (rest : List Parcel) × (given ≡ handed ++ rest)

-- WHAT A PARTNER HANDS OUT is a prefix of what the other was given to send, in both directions
abbrev pub BlocksAreDelivered : Type 0
BlocksAreDelivered =
    (config config' : Config) (acts acts' : List Act) (b b' written written' : List ℕ)
    → ArePaired config config' acts acts' b b' written written'
    → Delivered (given_in acts) (handed_in Passive config' acts')
    × Delivered (given_in acts') (handed_in Active config acts)

-- ---- what was reported as sent

-- an act that ends a send: it reads the acknowledgement of its last fragment
abbrev pub ends_send : Role → Config → State → Act → Bool
ends_send role config s act = is_sending s && not (is_sending (with_act role config s act))

abbrev pub sends_ended : Role → Config → State → List Act → ℕ
sends_ended role config s [] = 0
sends_ended role config s (act ∷ acts) =
    (if ends_send role config s act then 1 else 0) + sends_ended role config (with_act role config s act) acts

-- the number of blocks that a partner has reported as sent
abbrev pub sent_in : Role → Config → List Act → ℕ
sent_in role config acts = sends_ended role config (start role config) acts

-- IF ONE HAS REPORTED n BLOCKS AS SENT, the other has handed out the first n blocks that it was given
abbrev pub SentAreHandedOut : Type 0
SentAreHandedOut =
    (config config' : Config) (acts acts' : List Act) (b b' written written' : List ℕ)
    → ArePaired config config' acts acts' b b' written written'
    → (sent_in Active config acts ≤ length (handed_in Passive config' acts'))
    × (sent_in Passive config' acts' ≤ length (handed_in Active config acts))

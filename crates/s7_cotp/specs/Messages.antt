-- Messages (TSDUs): the user octets of DTs up to one with the end bit (ISO 8073, 13.7).
use Rattle.std.specs.Prelude.{◌≡◌, ◌≢◌, ℕ, ◌+◌, ◌≤◌, Bool, true, false, nat_le, nat_lt, ◌||◌, if◌then◌else◌, List, [], ◌∷◌, ◌++◌, length}
use Rattle.std.specs.List.{flat_map}
use Rattle.s7_cotp.specs.Gathered.{Gathered, is_whole, is_fault}
use Rattle.s7_cotp.specs.declared.joining.Joined.{Joined}
use Rattle.s7_cotp.specs.declared.joining.Joined.TheVariants.{Whole, More, TooManyFragments, TooLong}

-- the fragment that a DT carries
pub record Fragment : Type 0 where
  -- the end bit
  pub last : Bool
  pub user : List ℕ

abbrev pub octets_of : List Fragment → List ℕ
octets_of fs = flat_map (λ f. f.user) fs

-- The last of these fragments has the end bit, and none before it does.
abbrev pub IsGroup : List Fragment → Type 0
IsGroup [] = ⊥
IsGroup (f ∷ []) = f.last ≡ true
IsGroup (f ∷ g ∷ fs) = (f.last ≡ false) × IsGroup (g ∷ fs)

-- A message: at most 64 fragments, of which only the last has the end bit, with no more octets than the limit. Both
-- limits are this profile's own.
pub record IsMessage (limit : ℕ) (fs : List Fragment) (message : List ℕ) : Type 0 where
  pub group : IsGroup fs
  pub fragments : length fs ≤ 64
  pub octets : message ≡ octets_of fs
  pub fits : length message ≤ limit

-- the fragments are those of these messages, in order, and then the rest
abbrev pub AreJoined : ℕ → List Fragment → List (List ℕ) → List Fragment → Type 0
AreJoined limit fs [] rest = fs ≡ rest
AreJoined limit fs (m ∷ ms) rest = (group : List Fragment) × (more : List Fragment) × IsMessage limit group m ×
    (fs ≡ group ++ more) × AreJoined limit more ms rest

-- no message stands at the beginning of the fragments
abbrev pub NoMessageAhead : ℕ → List Fragment → Type 0
NoMessageAhead limit rest = (group more : List Fragment) (m : List ℕ) → IsMessage limit group m → rest ≢ group ++ more

-- The fragments are these messages, as many as there are, and a rest. The rest is what follows the last end bit, or
-- all fragments from the first message on that has too many fragments or octets.
abbrev pub Messages : ℕ → List Fragment → List (List ℕ) → List Fragment → Type 0
Messages limit fs ms rest = AreJoined limit fs ms rest × NoMessageAhead limit rest

-- these are too many fragments, or too many octets, for one message
abbrev pub is_over : ℕ → List Fragment → Bool
is_over limit fs = nat_lt 64 (length fs) || nat_lt limit (length (octets_of fs))

-- the messages in `before` and the messages of the fragments, and the rest; the fragments in `begun` are those of
-- the open message
abbrev pub read : ℕ → List (List ℕ) → List Fragment → List Fragment → List (List ℕ) × List Fragment
read limit before begun [] = (before, begun)
read limit before begun (f ∷ fs) =
    if is_over limit (begun ++ f ∷ []) then (before, begun ++ f ∷ fs)
    else (if f.last then read limit (before ++ octets_of (begun ++ f ∷ []) ∷ []) [] fs
    else read limit before (begun ++ f ∷ []) fs)

-- the messages of a list of fragments
unfoldable pub messages_of : ℕ → List Fragment → List (List ℕ)
messages_of limit fs = (read limit [] [] fs).0

-- the fragments after the last whole message
unfoldable pub rest_of : ℕ → List Fragment → List Fragment
rest_of limit fs = (read limit [] [] fs).1

-- the effect of one fragment on an open message that has these octets and this number of fragments
pub data Step : Type 0 where
  more : List ℕ → ℕ → Step
  whole : List ℕ → Step
  too_many_fragments : Step
  too_long : Step

abbrev pub joined_with : ℕ → List ℕ → ℕ → Fragment → Step
joined_with limit octets count f =
    if nat_le 64 count then too_many_fragments
    else (if nat_lt limit (length octets + length f.user) then too_long
    else (if f.last then whole (octets ++ f.user)
    else more (octets ++ f.user) (count + 1)))

abbrev pub answer_of : Step → Joined
answer_of (more octets count) = More
answer_of (whole octets) = Whole
answer_of too_many_fragments = TooManyFragments
answer_of too_long = TooLong

-- the octets of the open message; none if a message is whole
abbrev pub open_octets : Gathered → List ℕ
open_octets j = if is_whole j.state then [] else j.octets

-- what a joiner holds after a step
abbrev pub after_step : Gathered → Step → Gathered
after_step j (more octets count) = record { octets = octets; count = count; state = More; limit = j.limit }
after_step j (whole octets) = record { octets = octets; count = 0; state = Whole; limit = j.limit }
after_step j too_many_fragments = record { octets = open_octets j; count = j.count; state = TooManyFragments; limit = j.limit }
after_step j too_long = record { octets = open_octets j; count = j.count; state = TooLong; limit = j.limit }

-- what a joiner holds after a fragment; after a fault nothing changes
abbrev pub with_fragment : Gathered → Fragment → Gathered
with_fragment j f = if is_fault j.state then j else after_step j (joined_with j.limit (open_octets j) j.count f)

-- A joiner holds the rest of these fragments. It is at fault exactly if the rest is too much for one message.
pub record HoldsRest (fs : List Fragment) (j : Gathered) : Type 0 where
  pub over : is_over j.limit (rest_of j.limit fs) ≡ is_fault j.state
  pub octets : is_fault j.state ≡ false → octets_of (rest_of j.limit fs) ≡ open_octets j
  pub count : is_fault j.state ≡ false → length (rest_of j.limit fs) ≡ j.count

-- `more` follows the fragments, and no further message becomes whole.
pub record GoesOn (limit : ℕ) (fs more : List Fragment) : Type 0 where
  pub messages : messages_of limit (fs ++ more) ≡ messages_of limit fs
  pub rest : rest_of limit (fs ++ more) ≡ rest_of limit fs ++ more

-- One more fragment follows, and ends this message.
pub record EndsMessage (limit : ℕ) (fs : List Fragment) (f : Fragment) (message : List ℕ) : Type 0 where
  pub messages : messages_of limit (fs ++ f ∷ []) ≡ messages_of limit fs ++ message ∷ []
  pub rest : rest_of limit (fs ++ f ∷ []) ≡ []

-- what a step means for the fragments before and the one that came
abbrev pub StepSays : ℕ → List Fragment → Fragment → Step → Type 0
StepSays limit fs f (more octets count) = GoesOn limit fs (f ∷ []) ×
    (octets ≡ octets_of (rest_of limit fs ++ f ∷ [])) × (count ≡ length (rest_of limit fs ++ f ∷ []))
StepSays limit fs f (whole octets) = EndsMessage limit fs f octets
StepSays limit fs f too_many_fragments = (behind : List Fragment) → GoesOn limit fs (f ∷ behind)
StepSays limit fs f too_long = (behind : List Fragment) → GoesOn limit fs (f ∷ behind)

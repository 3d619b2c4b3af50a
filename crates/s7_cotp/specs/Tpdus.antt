-- The TPDUs of class 0 (ISO 8073, 13.1 to 13.5, 13.7 and 13.12): which octets are which TPDU.
use Rattle.std.specs.Prelude.{◌≡◌, ℕ, ◌+◌, ◌≤◌, Bool, ◌==◌, nat_le, if◌then◌else◌, List, [], ◌∷◌, ◌++◌, length}
use Rattle.std.specs.List.{flat_map, AllByRecursion}
use Rattle.s7_outer.specs.Numbers.{number_of_two}
use Rattle.s7_cotp.specs.Told.{ConnectionTold, Told, connect, confirm, fragment, disconnect, reject}

-- A parameter of the variable part (ISO 8073, 13.2.3).
pub record Parameter : Type 0 where
  pub code : ℕ
  pub value : List ℕ

-- the octets of a parameter: its code, the length of its value, and its value
abbrev pub parameter_octets : Parameter → List ℕ
parameter_octets p = p.code ∷ length p.value ∷ p.value

-- The TPDU size, C0, is one octet from 07 to 0D (ISO 8073, 13.3.4). That 0C and 0D are accepted in class 0 too is
-- this profile's own.
abbrev pub IsSize : List ℕ → Type 0
IsSize value = (n : ℕ) × (value ≡ n ∷ []) × (7 ≤ n) × (n ≤ 13)

-- A TSAP, calling C1 or called C2 (ISO 8073, 13.3.4), has 1 to 16 octets, a limit of this profile's own.
abbrev pub IsTsap : List ℕ → Type 0
IsTsap value = (1 ≤ length value) × (length value ≤ 16)

-- The value is one that the code allows. Any other parameter is skipped: in a CR by ISO 8073, 13.2.3, in a CC by
-- this profile's own rule.
pub record IsGood (p : Parameter) : Type 0 where
  pub size : p.code ≡ 0xC0 → IsSize p.value
  pub calling : p.code ≡ 0xC1 → IsTsap p.value
  pub called : p.code ≡ 0xC2 → IsTsap p.value

-- the value of the last parameter with this code, or `otherwise` if there is none (ISO 8073, 13.2.3)
abbrev pub last_value : ℕ → List ℕ → List Parameter → List ℕ
last_value code otherwise [] = otherwise
last_value code otherwise (p ∷ ps) = last_value code (if p.code == code then p.value else otherwise) ps

-- A connection request or confirm (ISO 8073, 13.3 and 13.4). The length octet counts the octets of the header that
-- follow it. Two rules are this profile's own: a size that isn't given counts as 0A, 1,024 octets, and what follows
-- the header is skipped.
pub record SpellsConnection (code : ℕ) (octets : List ℕ) (c : ConnectionTold) : Type 0 where
  pub dst_high : ℕ
  pub dst_low : ℕ
  pub src_high : ℕ
  pub src_low : ℕ
  pub parameters : List Parameter
  pub behind : List ℕ
  pub spelled : octets ≡ (length (flat_map parameter_octets parameters) + 6) ∷ code ∷ dst_high ∷ dst_low ∷ src_high ∷ src_low ∷ c.class ∷ flat_map parameter_octets parameters ++ behind
  pub good : AllByRecursion IsGood parameters
  pub dst_ref : c.dst_ref ≡ number_of_two dst_high dst_low
  pub src_ref : c.src_ref ≡ number_of_two src_high src_low
  pub size_code : c.size_code ∷ [] ≡ last_value 0xC0 (0x0A ∷ []) parameters
  pub calling : c.calling ≡ last_value 0xC1 [] parameters
  pub called : c.called ≡ last_value 0xC2 [] parameters

-- A fragment (ISO 8073, 13.7). The high bit of its third octet is the end bit; the other bits are ignored.
pub record SpellsFragment (octets : List ℕ) (last : Bool) (user : List ℕ) : Type 0 where
  pub end : ℕ
  pub spelled : octets ≡ 2 ∷ 0xF0 ∷ end ∷ user
  pub bit : last ≡ nat_le 0x80 end

-- A disconnect request (ISO 8073, 13.5). What follows its reason is skipped.
pub record SpellsDisconnect (octets : List ℕ) (reason : ℕ) : Type 0 where
  pub dst_high : ℕ
  pub dst_low : ℕ
  pub src_high : ℕ
  pub src_low : ℕ
  pub more : List ℕ
  pub behind : List ℕ
  pub spelled : octets ≡ (length more + 6) ∷ 0x80 ∷ dst_high ∷ dst_low ∷ src_high ∷ src_low ∷ reason ∷ more ++ behind

-- An error (ISO 8073, 13.12). What follows its cause is skipped.
pub record SpellsReject (octets : List ℕ) (cause : ℕ) : Type 0 where
  pub dst_high : ℕ
  pub dst_low : ℕ
  pub more : List ℕ
  pub behind : List ℕ
  pub spelled : octets ≡ (length more + 4) ∷ 0x70 ∷ dst_high ∷ dst_low ∷ cause ∷ more ++ behind

-- the octets are a TPDU with these fields, and the code is that of its kind (ISO 8073, 13.1)
abbrev pub SpellsTpdu : List ℕ → Told → Type 0
SpellsTpdu octets (connect c) = SpellsConnection 0xE0 octets c
SpellsTpdu octets (confirm c) = SpellsConnection 0xD0 octets c
SpellsTpdu octets (fragment last user) = SpellsFragment octets last user
SpellsTpdu octets (disconnect reason) = SpellsDisconnect octets reason
SpellsTpdu octets (reject cause) = SpellsReject octets cause

-- The octets that are written for a TPDU (ISO 8073, 13.2 to 13.5 and 13.7).
use Rattle.std.specs.Prelude.{ℕ, ◌+◌, ◌≤◌, Bool, if◌then◌else◌, List, [], ◌∷◌, ◌++◌, length}
use Rattle.s7_outer.specs.Numbers.{two_octets}
use Rattle.s7_cotp.specs.Told.{ConnectionTold}

-- the parameter of a TSAP; an absent TSAP has none (ISO 8073, 13.2.3 and 13.3.4)
abbrev pub tsap_octets : ℕ → List ℕ → List ℕ
tsap_octets code [] = []
tsap_octets code (x ∷ more) = code ∷ length (x ∷ more) ∷ x ∷ more

-- the parameters: the TPDU size, and the calling and the called TSAP (ISO 8073, 13.3.4)
abbrev pub parameters_octets : ConnectionTold → List ℕ
parameters_octets c = 0xC0 ∷ 1 ∷ c.size_code ∷ tsap_octets 0xC1 c.calling ++ tsap_octets 0xC2 c.called

-- a CR or CC (ISO 8073, 13.3 and 13.4)
abbrev pub spelling_of_connection : ℕ → ConnectionTold → List ℕ
spelling_of_connection code c =
    (length (parameters_octets c) + 6) ∷ code ∷ two_octets c.dst_ref ++ two_octets c.src_ref ++ c.class ∷ parameters_octets c

abbrev pub spelling_of_connect : ConnectionTold → List ℕ
spelling_of_connect = spelling_of_connection 0xE0

abbrev pub spelling_of_confirm : ConnectionTold → List ℕ
spelling_of_confirm = spelling_of_connection 0xD0

-- the octet of the end bit (ISO 8073, 13.7)
abbrev pub end_octet : Bool → ℕ
end_octet last = if last then 0x80 else 0

-- a DT (ISO 8073, 13.7)
abbrev pub spelling_of_data : Bool → List ℕ → List ℕ
spelling_of_data last user = 2 ∷ 0xF0 ∷ end_octet last ∷ user

-- a DR (ISO 8073, 13.5)
abbrev pub spelling_of_disconnect : ℕ → ℕ → ℕ → List ℕ
spelling_of_disconnect dst_ref src_ref reason = 6 ∷ 0x80 ∷ two_octets dst_ref ++ two_octets src_ref ++ reason ∷ []

-- the values that a CR or CC can carry (ISO 8073, 13.3.4); that a TSAP has at most 16 octets is this profile's own
pub record IsWritable (c : ConnectionTold) : Type 0 where
  pub least_size : 7 ≤ c.size_code
  pub most_size : c.size_code ≤ 13
  pub calling : length c.calling ≤ 16
  pub called : length c.called ≤ 16

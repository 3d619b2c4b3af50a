-- The parameters of user data (Snap7 1.4 sources, s7_types.h: TReqFunTypedParams, TS7Params7): five fixed octets,
-- the group, the subfunction, the sequence octet, and in the long form a data unit reference, the last-data-unit
-- octet and an error word.
use Rattle.std.specs.Prelude.{◌≡◌, ℕ, ◌^◌, ◌<◌, Bool, true, false, ◌==◌, ◌&&◌, nat_eq, if◌then◌else◌, List, [], ◌∷◌, ◌++◌, length, slice_index, Result, Ok, Err}
use Rattle.std.specs.List.{starts_with}
use Rattle.std.specs.Bool.{OnFalse}
use Rattle.s7_outer.specs.Numbers.{two_octets}
use Rattle.s7_header.specs.Octets.{number_at}
use Rattle.s7_header.specs.declared.user_params.UserParams.{UserParams}
use Rattle.s7_header.specs.declared.faults.BadParams.{BadParams}

-- the first octets of the form of 8 octets
abbrev pub short_head : List ℕ
short_head = 0x00 ∷ 0x01 ∷ 0x12 ∷ 0x04 ∷ 0x11 ∷ []

-- the first octets of the form of 12 octets
abbrev pub long_head : List ℕ
long_head = 0x00 ∷ 0x01 ∷ 0x12 ∷ 0x08 ∷ 0x12 ∷ []

-- the octets of user-data parameters; an answer has the long form
abbrev pub user_spelling : UserParams → List ℕ
user_spelling u =
    if u.answer
    then long_head ++ (u.group ∷ u.sub ∷ u.sequence ∷ u.unit ∷ u.more ∷ two_octets u.error)
    else short_head ++ (u.group ∷ u.sub ∷ u.sequence ∷ [])

-- the fields that only the long form has are 0
pub record HasShortForm (u : UserParams) : Type 0 where
  pub unit : u.unit ≡ 0
  pub more : u.more ≡ 0
  pub error : u.error ≡ 0

-- the parameters have a form: the long one for an answer, else the short one
abbrev pub HasForm : UserParams → Type 0
HasForm u = OnFalse u.answer (HasShortForm u)

-- the parameters have a form, and the error is a number of two octets
pub record IsUserParams (u : UserParams) : Type 0 where
  pub form : HasForm u
  pub error : u.error < 2 ^ 16

-- the parameters are these, octet for octet
pub record SpellsUser (params : List ℕ) (u : UserParams) : Type 0 where
  pub octets : params ≡ user_spelling u
  pub is_user : IsUserParams u

-- whether the parameters have the form of 8 octets, or that of 12
abbrev pub is_short : List ℕ → Bool
is_short params = (length params == 8) && starts_with nat_eq params short_head

abbrev pub is_long : List ℕ → Bool
is_long params = (length params == 12) && starts_with nat_eq params long_head

-- the fields, read at their offsets
abbrev pub short_of : List ℕ → UserParams
short_of params = record {
  answer = false;
  group = slice_index params 5;
  sub = slice_index params 6;
  sequence = slice_index params 7;
  unit = 0;
  more = 0;
  error = 0;
}

abbrev pub long_of : List ℕ → UserParams
long_of params = record {
  answer = true;
  group = slice_index params 5;
  sub = slice_index params 6;
  sequence = slice_index params 7;
  unit = slice_index params 8;
  more = slice_index params 9;
  error = number_at params 10;
}

-- the user-data parameters that the octets spell
unfoldable pub user_params_of : List ℕ → Result UserParams BadParams
user_params_of params =
    if is_short params then Ok (short_of params) else (if is_long params then Ok (long_of params) else Err (record {}))

-- The TPDU that octets are read as (ISO 8073, 13.1 to 13.5, 13.7 and 13.12), or the first refusal that applies. The
-- refusals are this profile's own.
use Rattle.std.specs.Prelude.{ℕ, zero, suc, ◌+◌, ◌-◌, nat_le, nat_lt, ◌==◌, ◌&&◌, ◌||◌, if◌then◌else◌, List, [], ◌∷◌, length, take, Result, Ok, Err}
use Rattle.s7_outer.specs.Numbers.{number_of_two}
use Rattle.s7_cotp.specs.Told.{ConnectionTold, SaidTold, Told, connect, confirm, fragment, disconnect, reject, result_map}
use Rattle.s7_cotp.specs.declared.tpdu.CotpFault.{CotpFault}
use Rattle.s7_cotp.specs.declared.tpdu.CotpFault.TheVariants.{BadCode, ShortHeader, BadParameter}

infixl 10 ◌>>=◌
abbrev pub ◌>>=◌ : {A B : Type 0} → Result A CotpFault → (A → Result B CotpFault) → Result B CotpFault
(Ok x) >>= f = f x
(Err e) >>= f = Err e

-- the values before any parameter; a size that isn't given counts as 0A, which is this profile's own
abbrev pub nothing_said : SaidTold
nothing_said = record { size_code = 0x0A; calling = []; called = [] }

-- the size code: one octet from 07 to 0D (ISO 8073, 13.3.4); that 0C and 0D are accepted in class 0 is this
-- profile's own
abbrev pub size_in : List ℕ → Result ℕ CotpFault
size_in [] = Err BadParameter
size_in (n ∷ []) = if nat_le 7 n && nat_le n 13 then Ok n else Err BadParameter
size_in (n ∷ m ∷ more) = Err BadParameter

-- a TSAP (ISO 8073, 13.3.4): 1 to 16 octets, a limit of this profile's own
abbrev pub tsap_in : List ℕ → Result (List ℕ) CotpFault
tsap_in value = if nat_le 1 (length value) && nat_le (length value) 16 then Ok value else Err BadParameter

-- the values after one more parameter: C0 is the TPDU size, C1 the calling and C2 the called TSAP (ISO 8073,
-- 13.3.4)
abbrev pub with_parameter : ℕ → List ℕ → SaidTold → Result SaidTold CotpFault
with_parameter code value said =
    if code == 0xC0 then result_map (λ n. record said { size_code = n }) (size_in value)
    else (if code == 0xC1 then result_map (λ t. record said { calling = t }) (tsap_in value)
    else (if code == 0xC2 then result_map (λ t. record said { called = t }) (tsap_in value)
    else Ok said))

-- the values after the parameters of these octets (ISO 8073, 13.2.3); the first `passed` octets are skipped
abbrev pub said_in : ℕ → List ℕ → SaidTold → Result SaidTold CotpFault
said_in passed [] said = Ok said
said_in (suc passed) (x ∷ octets) said = said_in passed octets said
said_in zero (code ∷ []) said = Err BadParameter
said_in zero (code ∷ size ∷ more) said =
    if nat_lt (length more) size then Err BadParameter
    else (with_parameter code (take size more) said >>= said_in size more)

-- what follows the code of a CR or CC, by the length octet (ISO 8073, 13.3 and 13.4)
abbrev pub connection_in : ℕ → List ℕ → Result ConnectionTold CotpFault
connection_in size (dst_high ∷ dst_low ∷ src_high ∷ src_low ∷ class ∷ more) =
    if nat_lt size 6 || nat_lt (length more + 6) size then Err ShortHeader
    else result_map (λ said. record {
      dst_ref = number_of_two dst_high dst_low;
      src_ref = number_of_two src_high src_low;
      class = class;
      size_code = said.size_code;
      calling = said.calling;
      called = said.called;
    }) (said_in 0 (take (size - 6) more) nothing_said)
connection_in size _ = Err ShortHeader

-- what follows the code of a DT (ISO 8073, 13.7)
abbrev pub fragment_in : ℕ → List ℕ → Result Told CotpFault
fragment_in size [] = Err ShortHeader
fragment_in size (end ∷ user) = if size == 2 then Ok (fragment (nat_le 0x80 end) user) else Err ShortHeader

-- what follows the code of a DR (ISO 8073, 13.5)
abbrev pub disconnect_in : ℕ → List ℕ → Result Told CotpFault
disconnect_in size (dst_high ∷ dst_low ∷ src_high ∷ src_low ∷ reason ∷ more) =
    if nat_lt size 6 || nat_lt (length more + 6) size then Err ShortHeader else Ok (disconnect reason)
disconnect_in size _ = Err ShortHeader

-- what follows the code of an ER (ISO 8073, 13.12)
abbrev pub reject_in : ℕ → List ℕ → Result Told CotpFault
reject_in size (dst_high ∷ dst_low ∷ cause ∷ more) =
    if nat_lt size 4 || nat_lt (length more + 4) size then Err ShortHeader else Ok (reject cause)
reject_in size _ = Err ShortHeader

-- a body of a packet, by the code of its TPDU (ISO 8073, 13.1)
unfoldable pub tpdu_of : List ℕ → Result Told CotpFault
tpdu_of (size ∷ code ∷ rest) =
    if code == 0xE0 then result_map connect (connection_in size rest)
    else (if code == 0xD0 then result_map confirm (connection_in size rest)
    else (if code == 0xF0 then fragment_in size rest
    else (if code == 0x80 then disconnect_in size rest
    else (if code == 0x70 then reject_in size rest
    else Err BadCode))))
tpdu_of _ = Err BadCode

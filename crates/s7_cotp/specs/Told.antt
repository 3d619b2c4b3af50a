-- The fields of a TPDU (ISO 8073, 13.3 to 13.5, 13.7 and 13.12), without the location of its octets.
use Rattle.std.specs.Prelude.{◌≤◌, ℕ, Bool, List, take, Result, Ok, Err}
use Rattle.s7_cotp.specs.Padded.{IsPadded}
use Rattle.s7_cotp.specs.declared.tpdu.Tsap.{Tsap}
use Rattle.s7_cotp.specs.declared.tpdu.Connection.{Connection}
use Rattle.s7_cotp.specs.declared.tpdu.Tpdu.{Tpdu}
use Rattle.s7_cotp.specs.declared.tpdu.Tpdu.TheVariants as tpdus
use Rattle.s7_cotp.specs.declared.said.Said.{Said}

-- the fields of a connection request or confirm (ISO 8073, 13.3 and 13.4); an absent TSAP has no octets
pub record ConnectionTold : Type 0 where
  pub dst_ref : ℕ
  pub src_ref : ℕ
  pub class : ℕ
  pub size_code : ℕ
  pub calling : List ℕ
  pub called : List ℕ

-- the fields of a CR, a CC, a DT, a DR or an ER (ISO 8073, 13.3 to 13.5, 13.7 and 13.12)
pub data Told : Type 0 where
  connect : ConnectionTold → Told
  confirm : ConnectionTold → Told
  fragment : Bool → List ℕ → Told
  disconnect : ℕ → Told
  reject : ℕ → Told

-- the values of the parameters of a connection (ISO 8073, 13.3.4)
pub record SaidTold : Type 0 where
  pub size_code : ℕ
  pub calling : List ℕ
  pub called : List ℕ

abbrev pub tsap_of : Tsap → List ℕ
tsap_of t = take t.len t.octets

abbrev pub connection_of : Connection → ConnectionTold
connection_of c = record {
  dst_ref = c.dst_ref;
  src_ref = c.src_ref;
  class = c.class;
  size_code = c.size_code;
  calling = tsap_of c.calling;
  called = tsap_of c.called;
}

abbrev pub said_of : Said → SaidTold
said_of s = record { size_code = s.size_code; calling = tsap_of s.calling; called = tsap_of s.called }

abbrev pub told_of : Tpdu → Told
told_of (tpdus.Connect c) = connect (connection_of c)
told_of (tpdus.Confirm c) = confirm (connection_of c)
told_of (tpdus.Fragment last user) = fragment last user.now
told_of (tpdus.Disconnect reason) = disconnect reason
told_of (tpdus.Reject cause) = reject cause

-- both TSAPs of a connection have 00 after their octets
abbrev pub IsPaddedConnection : Connection → Type 0
IsPaddedConnection c = IsPadded c.calling × IsPadded c.called

abbrev pub IsPaddedTpdu : Tpdu → Type 0
IsPaddedTpdu (tpdus.Connect c) = IsPaddedConnection c
IsPaddedTpdu (tpdus.Confirm c) = IsPaddedConnection c
IsPaddedTpdu (tpdus.Fragment last user) = Unit {0}
IsPaddedTpdu (tpdus.Disconnect reason) = Unit {0}
IsPaddedTpdu (tpdus.Reject cause) = Unit {0}

-- what is read can be written: the size code is from 07 to 0D (ISO 8073, 13.3.4), and TSAPs have at most 16 octets,
-- a limit of this profile's own
abbrev pub CanBeWritten : Connection → Type 0
CanBeWritten c = (7 ≤ c.size_code) × (c.size_code ≤ 13) × (c.calling.len ≤ 16) × (c.called.len ≤ 16)

abbrev pub CanBeWrittenAgain : Tpdu → Type 0
CanBeWrittenAgain (tpdus.Connect c) = CanBeWritten c
CanBeWrittenAgain (tpdus.Confirm c) = CanBeWritten c
CanBeWrittenAgain (tpdus.Fragment last user) = Unit {0}
CanBeWrittenAgain (tpdus.Disconnect reason) = Unit {0}
CanBeWrittenAgain (tpdus.Reject cause) = Unit {0}

abbrev pub result_map : {A B E : Type 0} → (A → B) → Result A E → Result B E
result_map f (Ok x) = Ok (f x)
result_map f (Err e) = Err e

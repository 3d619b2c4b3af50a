-- The parameters that negotiate a link's PDU and parallel jobs (Snap7 1.4 sources, s7_types.h:
-- TReqFunNegotiateParams): F0, an octet that is ignored, the jobs of the calling side, the jobs of the called side,
-- the PDU length.
use Rattle.std.specs.Prelude.{◌≡◌, ℕ, ◌^◌, ◌<◌, ◌≤◌, Bool, ◌==◌, ◌&&◌, nat_lt, if◌then◌else◌, min, max, List, ◌∷◌, ◌++◌, length, slice_index, Result, Ok, Err}
use Rattle.s7_outer.specs.Numbers.{two_octets}
use Rattle.s7_header.specs.Octets.{number_at}
use Rattle.s7_header.specs.declared.negotiation.Negotiation.{Negotiation}
use Rattle.s7_header.specs.declared.faults.BadParams.{BadParams}
use Rattle.s7_header.specs.declared.faults.TooSmall.{TooSmall}

-- the octets of a negotiation, with this octet at the offset that is ignored
abbrev pub negotiation_octets : ℕ → Negotiation → List ℕ
negotiation_octets passed n = 0xF0 ∷ passed ∷ (two_octets n.calling ++ two_octets n.called ++ two_octets n.pdu)

-- the octets that are written for a negotiation
abbrev pub negotiation_spelling : Negotiation → List ℕ
negotiation_spelling n = negotiation_octets 0 n

-- the fields are numbers of two octets
pub record IsNegotiation (n : Negotiation) : Type 0 where
  pub calling : n.calling < 2 ^ 16
  pub called : n.called < 2 ^ 16
  pub pdu : n.pdu < 2 ^ 16

-- the parameters are the negotiation's, whatever the ignored octet is
pub record SpellsNegotiation (params : List ℕ) (n : Negotiation) : Type 0 where
  pub passed : ℕ
  pub octets : params ≡ negotiation_octets passed n
  pub is_negotiation : IsNegotiation n

-- whether the parameters have the form
abbrev pub negotiates : List ℕ → Bool
negotiates params = (length params == 8) && (slice_index params 0 == 0xF0)

-- the fields, read at their offsets
abbrev pub asked_of : List ℕ → Negotiation
asked_of params = record { calling = number_at params 2; called = number_at params 4; pdu = number_at params 6 }

-- the negotiation that the parameters spell
unfoldable pub negotiation_of : List ℕ → Result Negotiation BadParams
negotiation_of params = if negotiates params then Ok (asked_of params) else Err (record {})

-- the least PDU that is granted; the greatest one, which also limits a message before a negotiation; and the
-- greatest number of jobs granted in each direction. All three are this profile's own
abbrev pub least_pdu : ℕ
least_pdu = 64

abbrev pub most_pdu : ℕ
most_pdu = 1920

abbrev pub most_jobs : ℕ
most_jobs = 8

-- the number of jobs that is granted, which is this profile's own
abbrev pub jobs_granted : ℕ → ℕ
jobs_granted asked = max 1 (min asked most_jobs)

-- the limits that every grant observes, which are this profile's own
pub record IsGrant (n : Negotiation) : Type 0 where
  pub pdu_least : least_pdu ≤ n.pdu
  pub pdu_most : n.pdu ≤ most_pdu
  pub calling_least : 1 ≤ n.calling
  pub calling_most : n.calling ≤ most_jobs
  pub called_least : 1 ≤ n.called
  pub called_most : n.called ≤ most_jobs

-- what is granted, by this profile's own limits
abbrev pub granted : Negotiation → Result Negotiation TooSmall
granted asked =
    if nat_lt asked.pdu least_pdu then Err (record {}) else Ok (record { calling = jobs_granted asked.calling; called = jobs_granted asked.called; pdu = min asked.pdu most_pdu })

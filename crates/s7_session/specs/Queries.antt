-- What user data asks of the plant (Snap7 1.4 sources, s7_types.h: TReqFunTypedParams), as the code has it.
use Rattle.std.specs.Prelude.{◌≡◌, ℕ, Bool, true, false, Option}
use Rattle.s7_clock.specs.Moment.{IsHeld}
use Rattle.s7_plant.specs.declared.request.Request.{Request}
use Rattle.s7_plant.specs.declared.request.Request.TheVariants as request
use Rattle.s7_session.specs.declared.query.Query.{Query}
use Rattle.s7_session.specs.declared.query.Query.TheVariants.{ListAll, ListOf, Info, Szl, ClockRead, ClockSet}
use Rattle.s7_session.specs.Telegrams.{IsAt, moment_of}

abbrev pub group_of : Query → ℕ
group_of ListAll = 0x43
group_of (ListOf kind) = 0x43
group_of (Info name) = 0x43
group_of (Szl id index) = 0x44
group_of ClockRead = 0x47
group_of (ClockSet value) = 0x47

abbrev pub subfunction_of : Query → ℕ
subfunction_of ListAll = 0x01
subfunction_of (ListOf kind) = 0x02
subfunction_of (Info name) = 0x03
subfunction_of (Szl id index) = 0x01
subfunction_of ClockRead = 0x01
subfunction_of (ClockSet value) = 0x02

abbrev pub is_timed : Query → Bool
is_timed ListAll = false
is_timed (ListOf kind) = false
is_timed (Info name) = false
is_timed (Szl id index) = false
is_timed ClockRead = true
is_timed (ClockSet value) = true

-- the request of a query at a moment
abbrev pub request_at : Query → ℕ → Request
request_at ListAll moment = request.ListAll
request_at (ListOf kind) moment = request.ListOf kind
request_at (Info name) moment = request.Info name.kind name.number
request_at (Szl id index) moment = request.Szl id index
request_at ClockRead moment = request.ClockRead moment
request_at (ClockSet value) moment = request.ClockSet moment value

-- a clock is set to a moment that clock octets can represent
abbrev pub IsReadyQuery : Query → Type 0
IsReadyQuery ListAll = Unit {0}
IsReadyQuery (ListOf kind) = Unit {0}
IsReadyQuery (Info name) = Unit {0}
IsReadyQuery (Szl id index) = Unit {0}
IsReadyQuery ClockRead = Unit {0}
IsReadyQuery (ClockSet value) = IsHeld value

-- the request of a query: with the moment that the clock showed if the query needs one, otherwise with 0
pub record IsMade (query : Query) (told : Option ℕ) (request : Request) : Type 0 where
  pub moment : ℕ
  pub request_is : request ≡ request_at query moment
  pub untimed : is_timed query ≡ false → moment ≡ 0
  pub told_is : IsAt told (moment_of request)

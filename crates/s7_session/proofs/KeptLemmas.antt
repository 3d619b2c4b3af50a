-- What a history keeps of requests.
use Rattle.std.proofs.Common.{◌≡◌, ℕ, refl}
use Rattle.std.specs.Prelude.{Option}
use Rattle.s7_plant.specs.declared.request.Request.{Request}
use Rattle.s7_plant.specs.declared.request.Request.TheVariants.{Read, Write, Szl, ClockRead, ClockSet}
use Rattle.s7_plant.specs.declared.request.Request.TheVariants.{Start, Stop, Compress, CopyRam}
use Rattle.s7_plant.specs.declared.request.Request.TheVariants.{ListAll, ListOf, Info, StartUpload, Insert, Delete}
use Rattle.s7_plant.specs.Requests.{kept_request}
use Rattle.s7_session.specs.declared.query.Query.{Query}
use Rattle.s7_session.specs.declared.query.Query.TheVariants as query
use Rattle.s7_session.specs.Judged.{IsPlain}
use Rattle.s7_session.specs.Queries.{request_at}
use Rattle.s7_session.specs.Telegrams.{moment_of}

-- what brings no octets is kept as it is
pub kept_plain : (granted : Option ℕ) (r : Request) → IsPlain granted r → kept_request r ≡ r
kept_plain granted (Read items) plain = refl
kept_plain granted (Write items places octets) plain = absurd plain
kept_plain granted (Szl id index) plain = absurd plain
kept_plain granted (ClockRead moment) plain = absurd plain
kept_plain granted (ClockSet moment value) plain = absurd plain
kept_plain granted (Start cold) plain = refl
kept_plain granted Stop plain = refl
kept_plain granted Compress plain = refl
kept_plain granted CopyRam plain = refl
kept_plain granted ListAll plain = absurd plain
kept_plain granted (ListOf kind) plain = absurd plain
kept_plain granted (Info kind number) plain = absurd plain
kept_plain granted (StartUpload kind number) plain = absurd plain
kept_plain granted (Insert kind number image spare) plain = absurd plain
kept_plain granted (Delete kind number) plain = refl

-- and so is what user data asks
pub kept_query : (q : Query) (moment : ℕ) → kept_request (request_at q moment) ≡ request_at q moment
kept_query query.ListAll moment = refl
kept_query (query.ListOf kind) moment = refl
kept_query (query.Info name) moment = refl
kept_query (query.Szl id index) moment = refl
kept_query query.ClockRead moment = refl
kept_query (query.ClockSet value) moment = refl

-- the moment of a request is kept
pub moment_kept : (r : Request) → moment_of (kept_request r) ≡ moment_of r
moment_kept (Read items) = refl
moment_kept (Write items places octets) = refl
moment_kept (Szl id index) = refl
moment_kept (ClockRead moment) = refl
moment_kept (ClockSet moment value) = refl
moment_kept (Start cold) = refl
moment_kept Stop = refl
moment_kept Compress = refl
moment_kept CopyRam = refl
moment_kept ListAll = refl
moment_kept (ListOf kind) = refl
moment_kept (Info kind number) = refl
moment_kept (StartUpload kind number) = refl
moment_kept (Insert kind number image spare) = refl
moment_kept (Delete kind number) = refl

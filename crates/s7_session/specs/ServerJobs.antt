-- What contracts see of the server's own jobs.
use Rattle.std.specs.Prelude.{ℕ}
use Rattle.s7_session.specs.declared.held.ServerFunction.{ServerFunction}
use Rattle.s7_session.specs.declared.held.ServerFunction.TheVariants.{SendPiece, Close}
use Rattle.s7_session.specs.declared.held.ServerJob.{ServerJob as HeldJob}
use Rattle.s7_session.specs.LinkState.{ServerJob}
use Rattle.s7_session.specs.Transfers.{piece_function, close_function}

abbrev pub function_of : ServerFunction → ℕ
function_of SendPiece = piece_function
function_of Close = close_function

abbrev pub job_of : HeldJob → ServerJob
job_of job = record { sequence = job.sequence; function = function_of job.function }

-- The notifications of a completion.
use Rattle.std.specs.Prelude.{ℕ, ◌+◌, ◌-◌, ◌^◌, min, List, fold, Option, Some}
use Rattle.s7_dialogue.specs.declared.job.Job.{Job}
use Rattle.s7_dialogue.specs.declared.job.Job.TheVariants as job
use Rattle.s7_dialogue.specs.declared.job.JobResult.{JobResult}
use Rattle.s7_client.specs.declared.job.Polled.{Polled}
use Rattle.s7_client.specs.declared.job.Polled.TheVariants as polled
use Rattle.s7_client.specs.declared.client.Client.{Client}
use Rattle.s7_client.specs.declared.connection.Connection.{Connection}

-- the number of notifications, which stays at 2^64 - 1, and the number and the code of the last job
pub record Told : Type 0 where
  pub calls : ℕ
  pub last : Option (ℕ × ℕ)

abbrev pub told_one : Told → ℕ → ℕ → Told
told_one t op code = record { calls = min (t.calls + 1) (2 ^ 64 - 1); last = Some (op, code) }

-- THE NUMBERS OF JOBS
abbrev pub op_of : Job → ℕ
op_of job.Connect = 1
op_of (job.ReadArea item) = 2
op_of (job.WriteArea item octets) = 3
op_of (job.ReadMany items) = 4
op_of (job.WriteMany items octets) = 5
op_of job.List = 6
op_of (job.ListOf kind) = 7
op_of (job.Info kind number) = 8
op_of (job.Upload kind number) = 9
op_of (job.Download image) = 10
op_of (job.Delete kind number) = 11
op_of (job.Szl id index) = 12
op_of job.ClockRead = 13
op_of (job.ClockSet moment) = 14
op_of job.Start = 15
op_of job.ColdStart = 16
op_of job.Stop = 17
op_of job.Compress = 18
op_of job.CopyRam = 19
op_of job.Status = 20
op_of (job.PasswordSet text) = 21
op_of job.PasswordClear = 22
op_of (job.DbGet number) = 23
op_of (job.DbFill number value) = 24
op_of job.Disconnect = 25

-- the notifications, with that of this result added
abbrev pub told_of_result : Told → JobResult → Told
told_of_result t result = told_one t (op_of result.job) result.code

-- the notifications, with those of these results added, in order
abbrev pub told_of_results : Told → List JobResult → Told
told_of_results t results = fold told_of_result t results

-- the notifications after a poll, one more if the job is done
abbrev pub told_by : Polled → Told → Told
told_by (polled.Done result) t = told_of_result t result
told_by polled.Pending t = t
told_by polled.Idle t = t

-- ---- a client

-- the connection of a client
abbrev pub connection_of : {C : Type 0} → Client C → Connection
connection_of client = client.connection

-- the completion of a client, if it has one
abbrev pub completion_of : {C : Type 0} → Client C → Option C
completion_of client = client.done

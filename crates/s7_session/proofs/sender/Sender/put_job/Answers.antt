use Rattle.std.proofs.Common.{ℕ, List, ◌++◌, ap, ◌∙◌}
use Rattle.s7_header.specs.declared.header.Kind.TheVariants.{Job}
use Rattle.s7_header.specs.Header.{spelling_of}
use Rattle.s7_wire.specs.Sent.{sent_message}
use Rattle.s7_session.specs.ServerJobs.{function_of}
use Rattle.s7_session.specs.Transfers.{name_front}
use Rattle.s7_session.proofs.sender.Sender.put_job.Goals as goal

pub returns : goal.returns
returns c =
    let n = c.args.size.octets in
    let head = spelling_of (record { kind = Job; sequence = c.args.job.sequence; param_len = 18; body_len = 0; error = 0 }) in
    let sent : ℕ → List ℕ → List ℕ =
    λ function name. c.args.self.now.outbox.unsent ++ sent_message n (head ++ name_front function ++ name) in
    c.put.ensures.unsent
    ∙ (ap (λ f. sent f c.write_name.new.into) c.function_code-function.ensures
    ∙ ap (sent (function_of c.args.job.function)) c.write_name.ensures)

use Rattle.std.proofs.Common.{subst, ◌∙◌, List, ℕ}
use Rattle.s7_dialogue.specs.Running.{IsResult}
use Rattle.s7_client.proofs.connection.done.Goals as goal

pub returns : goal.returns
returns c = λ end e code.
    subst (λ (x : List ℕ). IsResult c.into_result.result c.args.job.running.job end x)
    (c.of_vec.ensures ∙ c.shrink_to_fit.ensures.items ∙ c.into_vec-carried.ensures ∙ c.take.ensures.taken)
    (c.into_result.ensures end e code)

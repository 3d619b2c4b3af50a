use Rattle.s7_client.proofs.FitLemmas.{messages_short, unanswered_few}
use Rattle.s7_client.proofs.laws.telegrams_fit.Goals as goal

pub returns : goal.returns
returns c = record {
  fits = messages_short;
  few = unanswered_few;
}

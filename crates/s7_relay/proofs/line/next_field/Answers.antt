use Rattle.std.proofs.Common.{Bor, List, ℕ}
use Rattle.s7_relay.proofs.FieldLemmas.{rest_last, rest_more}
use Rattle.s7_relay.proofs.line.next_field.Goals as goal

pub returns-clause-more : goal.returns-clause-more
returns-clause-more c =
    rest_more (λ (t : Bor (List ℕ)). t.now) c.args.text.now c.split_field.result.0.now c.split_field.result.1
    c.split_field.ensures.first c.split_field.ensures.rest

pub returns-clause-last : goal.returns-clause-last
returns-clause-last c =
    rest_last (λ (t : Bor (List ℕ)). t.now) c.args.text.now c.split_field.result.0.now c.split_field.result.1
    c.split_field.ensures.first c.split_field.ensures.rest

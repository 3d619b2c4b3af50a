use Rattle.s7_text.proofs.MomentLemmas.{is_placed}
use Rattle.s7_text.proofs.moment.has_date.Goals as goal

pub value_at-requires-clause-digits : goal.value_at-requires-clause-digits
value_at-requires-clause-digits c = (is_placed c.args.field.now c.requires).year

pub value_at-requires-2-clause-digits : goal.value_at-requires-2-clause-digits
value_at-requires-2-clause-digits c = (is_placed c.args.field.now c.requires).month

pub value_at-requires-3-clause-digits : goal.value_at-requires-3-clause-digits
value_at-requires-3-clause-digits c = (is_placed c.args.field.now c.requires).day

pub value_at-requires-then-is_date-clause-digits : goal.value_at-requires-then-is_date-clause-digits
value_at-requires-then-is_date-clause-digits c = (is_placed c.args.field.now c.requires).hour

pub value_at-requires-then-is_date-2-clause-digits : goal.value_at-requires-then-is_date-2-clause-digits
value_at-requires-then-is_date-2-clause-digits c = (is_placed c.args.field.now c.requires).minute

pub value_at-requires-then-is_date-3-clause-digits : goal.value_at-requires-then-is_date-3-clause-digits
value_at-requires-then-is_date-3-clause-digits c = (is_placed c.args.field.now c.requires).second

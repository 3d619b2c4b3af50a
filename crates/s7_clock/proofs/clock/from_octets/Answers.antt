use Rattle.std.proofs.Common.{◌≡◌, ◌∙◌, Some, None, sym, ap, rules}
use Rattle.std.specs.Prelude.{option_and_then}
use Rattle.s7_clock.specs.Clock.{parts_in}
use Rattle.s7_clock.specs.Moment.{moment_in, moment_of_parts}
use Rattle.s7_clock.proofs.PartsLemmas.{in_clock_years, moment_of_read}
use Rattle.s7_clock.proofs.clock.from_octets.Goals as goal

pub returns-in-Some-clause-moment : goal.returns-in-Some-clause-moment
unfolding moment_in
returns-in-Some-clause-moment c =
    let p = c.in-Some.parts in
    let some : parts_in c.args.octets.now ≡ Some p = search rules in
    moment_of_read p c.to_date_time.result (search rules) (search rules) c.to_date_time.ensures ∙ sym (ap (option_and_then moment_of_parts) some)

pub returns-in-None-clause-moment : goal.returns-in-None-clause-moment
unfolding moment_in
returns-in-None-clause-moment c =
    let none : parts_in c.args.octets.now ≡ None = search rules in
    sym (ap (option_and_then moment_of_parts) none)

pub returns-in-Some-clause-year : goal.returns-in-Some-clause-year
returns-in-Some-clause-year c = in_clock_years c.in-Some.parts c.to_date_time.result (search rules) c.to_date_time.ensures

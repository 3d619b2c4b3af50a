use Rattle.std.proofs.Common.{◌∙◌, ap, rules}
use Rattle.s7_clock.specs.Moment.{HasMoment, moment_octets}
use Rattle.s7_clock.proofs.DayLemmas.{octets_are}
use Rattle.s7_clock.proofs.MomentLemmas.{has_clock_year, moment_is}
use Rattle.s7_clock.proofs.moment.date_of.Goals as goal

pub returns-clause-year : goal.returns-clause-year
returns-clause-year c =
    let has : HasMoment c.to_datetime.result c.args.ms = search rules in
    has_clock_year c.to_datetime.result c.args.ms c.requires has

pub returns-clause-octets : goal.returns-clause-octets
returns-clause-octets c =
    let has : HasMoment c.to_datetime.result c.args.ms = search rules in
    let year = has_clock_year c.to_datetime.result c.args.ms c.requires has in
    octets_are c.to_datetime.result year ∙ ap moment_octets (moment_is c.to_datetime.result c.args.ms has)

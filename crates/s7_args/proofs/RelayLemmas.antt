-- The command line of the relay is built by its line, and its numbers are in their ranges.
use Rattle.std.proofs.Common.{refl, codes, None, Some}
use Rattle.s7_args.specs.Fields.{port, journal}
use Rattle.s7_args.specs.Relay.{relay_line}
use Rattle.s7_args.specs.Tool.{host, polls}
use Rattle.s7_args.proofs.Commands.{IsCommand, ReadsNumber, long_known, number_or_is}

pub relay_is : IsCommand (codes "s7relay") relay_line
relay_is = record {
  is_built = refl;
  is_free = refl;
  is_simple_too = refl;
  has_name = refl;
  fields = refl;
  known = (long_known _ host refl refl, (long_known _ port refl refl, (long_known _ polls refl refl, (long_known _ journal refl refl, tt))));
  placed = (refl, record { long = None; index = Some 1; found = refl; small = refl }, refl);
  operands = (refl, tt);
  options = (refl, (refl, (refl, (refl, tt))));
}

pub port_is : ReadsNumber (codes "s7relay") relay_line relay_is port 16 1 65535 102
port_is = number_or_is (codes "s7relay") relay_line relay_is port 16 1 65535 102 refl refl refl refl

pub polls_is : ReadsNumber (codes "s7relay") relay_line relay_is polls 32 1 4294967295 50
polls_is = number_or_is (codes "s7relay") relay_line relay_is polls 32 1 4294967295 50 refl refl refl refl

pub journal_is : ReadsNumber (codes "s7relay") relay_line relay_is journal 64 1 262144 65536
journal_is = number_or_is (codes "s7relay") relay_line relay_is journal 64 1 262144 65536 refl refl refl refl

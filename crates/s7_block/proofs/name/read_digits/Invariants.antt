use Rattle.std.proofs.Common.{◌≡◌, ◌<◌, ◌^◌, drop}
use Rattle.std.specs.List.{list_all}
use Rattle.std.specs.Char.{is_ascii_digit}
use Rattle.std.specs.Str.Parse.{digits_value, digits_value_after}
use Rattle.s7_block.proofs.name.read_digits.Given as goal

abbrev pub invariant-loop-octet : goal.invariant-loop-octet
invariant-loop-octet l = record {
  digits : list_all is_ascii_digit (drop l.octet-index l.octets) ≡ list_all is_ascii_digit l.octets;
  value : digits_value_after 10 l.number (drop l.octet-index l.octets) ≡ digits_value 10 l.octets;
  small : l.number < 10 ^ l.octet-index;
}

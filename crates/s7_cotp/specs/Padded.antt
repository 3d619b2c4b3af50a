-- A TSAP that is read has 00 after its octets, so two equal TSAPs have equal values. This form is this profile's
-- own.
use Rattle.std.specs.Prelude.{◌≡◌, drop, replicate}
use Rattle.s7_cotp.specs.declared.tpdu.Tsap.{Tsap}

abbrev pub IsPadded : Tsap → Type 0
IsPadded t = drop t.len t.octets ≡ drop t.len (replicate 16 0)

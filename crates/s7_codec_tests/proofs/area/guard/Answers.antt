use Rattle.std.proofs.Common.{[], ◌∷◌, refl, lit≤, rules}
use Rattle.s7_area.specs.Guards.{IsPassword}
use Rattle.s7_codec_tests.proofs.area.guard.Goals.{else-level-ne2-via-then-level-ne2+else-level-ne3, else-level-ne2-via-else-level-ne2}
use Rattle.s7_codec_tests.proofs.area.guard.Goals as goal

password : IsPassword (75 ∷ 101 ∷ 121 ∷ 55 ∷ 32 ∷ 32 ∷ 32 ∷ 32 ∷ [])
password = record {
  word = 75 ∷ 101 ∷ 121 ∷ 55 ∷ [];
  some = lit≤ tt;
  most = lit≤ tt;
  printable = ((lit≤ tt, lit≤ tt), ((lit≤ tt, lit≤ tt), ((lit≤ tt, lit≤ tt), ((lit≤ tt, lit≤ tt), tt))));
  filled = refl;
}

pub returns : goal.returns
returns c = record {
  level = elim c.else-level-ne2.branch [
    | else-level-ne2-via-then-level-ne2+else-level-ne3 w ↦ search rules
    | else-level-ne2-via-else-level-ne2 w ↦ search rules
  ];
  password = password;
}

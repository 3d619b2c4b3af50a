use Rattle.std.proofs.Common.{◌+◌, ◌-◌, ◌∷◌, [], length, ap, ◌∙◌, refl, arith}
use Rattle.s7_cotp.specs.Spelling.{end_octet}
use Rattle.s7_cotp.proofs.WriteLemmas.{written_in_two}
use Rattle.s7_cotp.proofs.writing.write_data.Goals as goal

pub returns-clause-written : goal.returns-clause-written
returns-clause-written c =
    let user = c.args.user.now in
    written_in_two c.copy_from_slice.new.self c.copy_from_slice-2.new.self (2 ∷ 240 ∷ end_octet c.args.last ∷ []) user c.args.into.now 3 (3 + length user - 3) (3 + length user)
    refl (omega arith) (omega arith) (c.copy_from_slice.ensures.after ∙ ap (λ v. 2 ∷ 240 ∷ v ∷ []) c.end_octet.ensures) c.copy_from_slice-2.ensures.after

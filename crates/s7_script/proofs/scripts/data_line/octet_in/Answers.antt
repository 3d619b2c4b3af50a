use Rattle.std.proofs.Common.{◌≡◌, ◌≢◌, ◌∙◌, ℕ, List, [], ◌∷◌, Result, Ok, Err, length, refl, sym}
use Rattle.hex.specs.Hex.{decode_of}
use Rattle.hex.specs.declared.error.FromHexError.{FromHexError}
use Rattle.s7_script.specs.Script.{octet_in}
use Rattle.s7_script.specs.declared.scripts.script_fault.ScriptKind.TheVariants as kind
use Rattle.s7_script.proofs.ScriptLemmas.{sized-refused}
use Rattle.s7_script.proofs.scripts.data_line.octet_in.Goals as goal

-- other octets than one
no_octet : (r : Result (List ℕ) FromHexError) → ((octets : List ℕ) → r ≡ Ok octets → length octets ≢ 1) → octet_in r ≡ Err kind.Digits
no_octet (Err e) other = refl
no_octet (Ok []) other = refl
no_octet (Ok (a ∷ [])) other = absurd (other (a ∷ []) refl refl)
no_octet (Ok (a ∷ b ∷ bs)) other = refl

pub returns-in-Err : goal.returns-in-Err
returns-in-Err c =
    let t = c.args.field.now in
    sym (no_octet (decode_of t) (λ octets is. sized-refused t 1 c.in-Err.field-0 octets (sym c.from_hex.ensures ∙ c.in-Err.is) is))

use Rattle.std.proofs.Common.{◌≡◌, ◌≢◌, ◌∙◌, ℕ, List, [], ◌∷◌, Result, Ok, Err, length, refl, sym}
use Rattle.hex.specs.Hex.{decode_of}
use Rattle.hex.specs.declared.error.FromHexError.{FromHexError}
use Rattle.s7_script.specs.Script.{two_octets_in}
use Rattle.s7_script.specs.declared.scripts.script_fault.ScriptKind.TheVariants as kind
use Rattle.s7_script.proofs.ScriptLemmas.{sized-refused}
use Rattle.s7_script.proofs.scripts.script_line.two_octets_in.Goals as goal

-- other octets than two
no_two : (r : Result (List ℕ) FromHexError) → ((octets : List ℕ) → r ≡ Ok octets → length octets ≢ 2) → two_octets_in r ≡ Err kind.Digits
no_two (Err e) other = refl
no_two (Ok []) other = refl
no_two (Ok (a ∷ [])) other = refl
no_two (Ok (a ∷ b ∷ [])) other = absurd (other (a ∷ b ∷ []) refl refl)
no_two (Ok (a ∷ b ∷ c ∷ cs)) other = refl

pub returns-in-Err : goal.returns-in-Err
returns-in-Err c =
    let t = c.args.field.now in
    sym (no_two (decode_of t) (λ octets is. sized-refused t 2 c.in-Err.field-0 octets (sym c.from_hex.ensures ∙ c.in-Err.is) is))

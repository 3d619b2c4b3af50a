use Rattle.std.proofs.Common.{◌≡◌, ◌≢◌, ◌∙◌, ℕ, List, [], ◌∷◌, Result, Ok, Err, length, refl, sym}
use Rattle.hex.specs.Hex.{decode_of}
use Rattle.hex.specs.declared.error.FromHexError.{FromHexError}
use Rattle.s7_script.specs.Sends.{four_octets_in}
use Rattle.s7_script.specs.declared.scripts.script_fault.ScriptKind.TheVariants as kind
use Rattle.s7_script.proofs.ScriptLemmas.{sized-refused}
use Rattle.s7_script.proofs.sends.send_line.four_octets_in.Goals as goal

-- other octets than four
no_four : (r : Result (List ℕ) FromHexError) → ((octets : List ℕ) → r ≡ Ok octets → length octets ≢ 4) → four_octets_in r ≡ Err kind.Digits
no_four (Err e) other = refl
no_four (Ok []) other = refl
no_four (Ok (a ∷ [])) other = refl
no_four (Ok (a ∷ b ∷ [])) other = refl
no_four (Ok (a ∷ b ∷ c ∷ [])) other = refl
no_four (Ok (a ∷ b ∷ c ∷ d ∷ [])) other = absurd (other (a ∷ b ∷ c ∷ d ∷ []) refl refl)
no_four (Ok (a ∷ b ∷ c ∷ d ∷ e ∷ es)) other = refl

pub returns-in-Err : goal.returns-in-Err
returns-in-Err c =
    let t = c.args.field.now in
    sym (no_four (decode_of t) (λ octets is. sized-refused t 4 c.in-Err.field-0 octets (sym c.from_hex.ensures ∙ c.in-Err.is) is))

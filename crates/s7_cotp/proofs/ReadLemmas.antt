-- Reading parameters one after another.
use Rattle.std.proofs.Common.{◌≡◌, ℕ, zero, suc, ◌≤◌, List, [], ◌∷◌, length, take, drop, get_or, Ok, Err, cond, ap, ◌∙◌, sym, refl, arith, nat_lt}
use Rattle.std.proofs.lemmas.Bool.{le-ltb}
use Rattle.s7_cotp.specs.Told.{SaidTold}
use Rattle.s7_cotp.specs.Reading.{said_in, with_parameter, ◌>>=◌}
use Rattle.s7_cotp.specs.declared.tpdu.CotpFault.TheVariants.{BadParameter}

-- octets that are passed over are dropped
pub said_in-drop : (k : ℕ) (octets : List ℕ) (s : SaidTold) → said_in k octets s ≡ said_in 0 (drop k octets) s
said_in-drop zero octets s = refl
said_in-drop (suc k) [] s = refl
said_in-drop (suc k) (x ∷ octets) s = said_in-drop k octets s

-- one parameter more
pub said_in-step : (octets more value behind : List ℕ) (code size : ℕ) (s t : SaidTold) → 2 ≤ length octets → more ≡ drop 2 octets
    → get_or octets 0 0 ≡ code → get_or octets 1 0 ≡ size → size ≤ length more → value ≡ take size more → behind ≡ drop size more
    → with_parameter code value s ≡ Ok t → said_in 0 behind t ≡ said_in 0 octets s
said_in-step [] more value behind code size s t two m c n le v b e = absurd (omega arith)
said_in-step (x ∷ []) more value behind code size s t two m c n le v b e = absurd (omega arith)
said_in-step (x ∷ y ∷ rest) more value behind code size s t two m c n le v b e =
    ap (λ w. said_in 0 w t) (b ∙ ap (drop size) m)
    ∙ sym (
    ap (λ w. cond (nat_lt (length rest) w) (Err BadParameter) (with_parameter x (take w rest) s >>= said_in w rest)) n
    ∙ ap (λ w. cond w (Err BadParameter) (with_parameter x (take size rest) s >>= said_in size rest)) (le-ltb (length rest) size (omega (arith, ap length m)))
    ∙ ap (λ w. with_parameter w (take size rest) s >>= said_in size rest) c
    ∙ ap (λ w. with_parameter code w s >>= said_in size rest) (ap (take size) (sym m) ∙ sym v)
    ∙ ap (λ w. w >>= said_in size rest) e
    ∙ said_in-drop size rest t)

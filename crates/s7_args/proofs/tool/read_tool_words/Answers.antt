use Rattle.std.proofs.Common.{◌≡◌, ◌∙◌, ap, sym, refl, codes, map, List, [], ◌∷◌, Option, Some, None, Bool, true, false, option_map}
use Rattle.std.specs.Prelude.{option_and_then, slice_get}
use Rattle.std.specs.Borrow.{Bor}
use Rattle.std.specs.Str.{bytes_eq}
use Rattle.std.proofs.lemmas.Slice.Eq.{bytes_eq-Decides}
use Rattle.s7_args.specs.CommandLine.{Text, given_by}
use Rattle.s7_args.specs.Tool.{tool_words, ToolTold, run_line, run_of, rig_line, rig_of, gen_line, gen_of, partner_line, partner_of}
use Rattle.s7_args.proofs.tool.read_tool_words.Goals as goal

-- words that begin with another name are usage
others : (ws : List (Bor Text)) (name : Bor Text) → Some name ≡ slice_get ws 0 → (name.now ≡ codes "run" → ⊥)
    → (name.now ≡ codes "rig" → ⊥) → (name.now ≡ codes "gen" → ⊥) → (name.now ≡ codes "partner" → ⊥)
    → ◌≡◌ {A = Option ToolTold} None (tool_words (map (λ w. w.now) ws))
others [] name is no_run no_rig no_gen no_partner = cc
others (w ∷ ws) name is no_run no_rig no_gen no_partner =
    let same : w ≡ name = cc in
    let first : w.now ≡ name.now = ap (λ (b : Bor Text). b.now) same in
    rw (
      is_other (codes "run") (λ e. no_run (sym first ∙ e)),
      is_other (codes "rig") (λ e. no_rig (sym first ∙ e)),
      is_other (codes "gen") (λ e. no_gen (sym first ∙ e)),
      is_other (codes "partner") (λ e. no_partner (sym first ∙ e)),
    ) refl
  where
    by_test : (text : Text) (b : Bool) → bytes_eq w.now text ≡ b → (w.now ≡ text → ⊥) → b ≡ false
    by_test text true is other = absurd (other ((bytes_eq-Decides w.now text).0 is))
    by_test text false is other = refl

    is_other : (text : Text) → (w.now ≡ text → ⊥) → bytes_eq w.now text ≡ false
    is_other text other = by_test text (bytes_eq w.now text) refl other

pub returns-in_default-name : goal.returns-in_default-name
returns-in_default-name c = record {
  told = others c.args.words.now c.in-Some.name.now c.in-Some.ensures.value c.in_default-name.not-run
      c.in_default-name.not-rig c.in_default-name.not-gen c.in_default-name.not-partner;
}

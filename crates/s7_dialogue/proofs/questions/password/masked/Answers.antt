use Rattle.std.proofs.Common.{◌≡◌, List, ℕ, [], ◌∷◌, get_or, sym, ap, ◌∙◌, rules, arith}
use Rattle.std.proofs.lemmas.Slice.Eq.{text_from_reads}
use Rattle.s7_dialogue.specs.UserData.{encoded}
use Rattle.s7_dialogue.proofs.UserLemmas.{encoded-first_two}
use Rattle.s7_dialogue.proofs.questions.password.masked.Goals as goal

pub returns : goal.returns
returns c =
    let text = c.args.text.now in
    let octets : List ℕ = get_or text 0 0 ∷ get_or text 1 0 ∷ get_or text 2 0 ∷ get_or text 3 0 ∷ get_or text 4 0
    ∷ get_or text 5 0 ∷ get_or text 6 0 ∷ get_or text 7 0 ∷ [] in
    let same : text ≡ octets = text_from_reads text octets (omega arith) (search rules) in
    sym (encoded-first_two _ _ _) ∙ ap encoded (sym same)

-- The areas behind an entry, as they are printed.
use Rattle.std.proofs.Common.{◌≡◌, ◌≤◌, ℕ, Bool, true, false, cond, leb, List, ◌++◌, length, refl, ap, ◌∙◌, Some}
use Rattle.std.specs.Prelude.{codes}
use Rattle.std.specs.Fmt.{decimal}
use Rattle.std.proofs.lemmas.List.{append_assoc}
use Rattle.std.proofs.lemmas.Bool.{le-leb}
use Rattle.s7_plant.specs.Books.{BookTold}
use Rattle.s7_plant.specs.Journals.{at}
use Rattle.s7_plant.specs.State.{state_of}
use Rattle.s7_script.specs.Spelling.{spelling}
use Rattle.s7_program.specs.Lines.{line_end}
use Rattle.s7_server_main.specs.Report.{entry_text}

chosen : (b : Bool) (x y : List ℕ) → b ≡ true → x ≡ cond b x y
chosen true x y is = refl
chosen false x y is = cc

-- the line of an entry that is there, and then the areas
pub there : (book : BookTold) (n : ℕ) (old line all areas : List ℕ) → n ≤ length book.journal.entries
    → all ≡ line ++ areas → line ≡ old ++ (codes "at " ++ (decimal n ++ line_end))
    → areas ≡ spelling (at (state_of book.opening) book.journal.entries n).memory
    → all ≡ old ++ entry_text book (Some n)
there book n old line all areas within is line_is areas_are =
    let text = codes "at " ++ (decimal n ++ line_end) in
    let behind = spelling (at (state_of book.opening) book.journal.entries n).memory in
    is ∙ ap (λ l. l ++ areas) line_is ∙ ap (λ a. (old ++ text) ++ a) areas_are ∙ append_assoc old text behind
    ∙ ap (λ t. old ++ t) (joined n behind ∙ chosen (leb n (length book.journal.entries)) _ _ (le-leb n _ within))
  where
    joined : (n : ℕ) (behind : List ℕ) → (codes "at " ++ (decimal n ++ line_end)) ++ behind
        ≡ codes "at " ++ (decimal n ++ (line_end ++ behind))
    joined n behind =
        append_assoc (codes "at ") (decimal n ++ line_end) behind
        ∙ ap (λ t. codes "at " ++ t) (append_assoc (decimal n) line_end behind)

-- Texts of rigs.
use Rattle.std.specs.List.{list_all, zip}
use Rattle.std.proofs.Common.{◌≡◌, ◌∙◌, ◌⊎◌, ◌&&◌, Bool, ℕ, refl, sym, ap, inl, inr, List, [], ◌∷◌, ◌++◌, append_assoc, map}
use Rattle.s7_dialogue.specs.declared.job.JobResult.{JobResult}
use Rattle.s7_rig.specs.Shown.{ClientTold}
use Rattle.s7_tool_main.specs.declared.head.Head.{Head}
use Rattle.s7_tool_main.specs.Report.{line_by}
use Rattle.s7_tool_main.specs.RigText.{client_line, client_text, clients_text, results_text}

-- ---- what is left of two lists, after a pair of them and at the end

pub results_next : (link : ℕ) (t : List ℕ) (n : Head) (ns ms : List Head) (r : JobResult) (rs qs : List JobResult)
    → ms ≡ n ∷ ns → qs ≡ r ∷ rs
    → (t ++ client_line link (line_by n.line n.tag r)) ++ results_text link ns rs ≡ t ++ results_text link ms qs
unfolding results_text
results_next link t n ns ms r rs qs e f =
    append_assoc t (client_line link (line_by n.line n.tag r)) (results_text link ns rs) ∙ ap (λ x. t ++ x) (sym (ap (results_text link ms) f ∙ ap (λ x. results_text link x (r ∷ rs)) e))

pub results_end : (link : ℕ) (ns : List Head) (rs : List JobResult) → (ns ≡ []) ⊎ (rs ≡ []) → results_text link ns rs ≡ []
unfolding results_text
results_end link [] rs h = refl
results_end link (n ∷ ns) [] h = refl
results_end link (n ∷ ns) (r ∷ rs) (inl h) = absurd (cc)
results_end link (n ∷ ns) (r ∷ rs) (inr h) = absurd (cc)

pub clients_next : (t : List ℕ) (n : List Head) (ns ms : List (List Head)) (c : ClientTold) (cs ds : List ClientTold)
    → ms ≡ n ∷ ns → ds ≡ c ∷ cs
    → (t ++ client_text n c) ++ clients_text ns cs ≡ t ++ clients_text ms ds
unfolding clients_text
clients_next t n ns ms c cs ds e f =
    append_assoc t (client_text n c) (clients_text ns cs) ∙ ap (λ x. t ++ x) (sym (ap (clients_text ms) f ∙ ap (λ x. clients_text x (c ∷ cs)) e))

pub clients_end : (ns : List (List Head)) (cs : List ClientTold) → (ns ≡ []) ⊎ (cs ≡ []) → clients_text ns cs ≡ []
unfolding clients_text
clients_end [] cs h = refl
clients_end (n ∷ ns) [] h = refl
clients_end (n ∷ ns) (c ∷ cs) (inl h) = absurd (cc)
clients_end (n ∷ ns) (c ∷ cs) (inr h) = absurd (cc)

pub either_mapped : {A B C D : Type 0} (f : A → C) (g : B → D) (xs : List A) (ys : List B) → (xs ≡ []) ⊎ (ys ≡ []) → (map f xs ≡ []) ⊎ (map g ys ≡ [])
either_mapped f g xs ys (inl h) = inl (ap (map f) h)
either_mapped f g xs ys (inr h) = inr (ap (map g) h)

-- ---- whether all is good

pub all_mapped : {A B C D : Type 0} (p : C × D → Bool) (f : A → C) (g : B → D) (xs : List A) (ys : List B)
    → list_all (λ (q : A × B). p (f q.0, g q.1)) (zip xs ys) ≡ list_all p (zip (map f xs) (map g ys))
all_mapped p f g [] ys = refl
all_mapped p f g (x ∷ xs) [] = refl
all_mapped p f g (x ∷ xs) (y ∷ ys) = ap (λ b. p (f x, g y) && b) (all_mapped p f g xs ys)

pub all_told : {A C : Type 0} (p : C → Bool) (f : A → C) (xs : List A)
    → list_all (λ (x : A). p (f x)) xs ≡ list_all p (map f xs)
all_told p f [] = refl
all_told p f (x ∷ xs) = ap (λ b. p (f x) && b) (all_told p f xs)

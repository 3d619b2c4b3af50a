-- The call of a history that a link's telegram has, by what the link's calls were answered.
use Rattle.std.proofs.Common.{◌≡◌, ℕ, zero, suc, ◌+◌, Bool, true, false, Some, List, [], ◌∷◌, ◌++◌, map, take}
use Rattle.std.proofs.Common.{slice_get, refl, ap, sym, ◌∙◌, subst, arith}
use Rattle.std.specs.Prelude.{◌==◌, if◌then◌else◌}
use Rattle.std.proofs.lemmas.Bool.Decides.{nat_tests}
use Rattle.s7_turn.specs.declared.view.Entry.{Entry as Call}
use Rattle.s7_turn.specs.Histories.{entry, replay}
use Rattle.s7_plant.specs.declared.request.Ask.{Ask}
use Rattle.s7_plant.specs.Answers.{answer_of, after}
use Rattle.s7_plant.specs.Journals.{after_call}
use Rattle.s7_plant.specs.Replies.{Said}
use Rattle.s7_plant.specs.State.{State}
use Rattle.s7_session.specs.Books.{History, entry_at, own_from}
use Rattle.s7_session.specs.Entry.{Entry, answered}

are_same : (a b : ℕ) → (a == b) ≡ true → a ≡ b
are_same a b e = grind (arith, nat_tests)

-- ---- lists

abbrev pub pair : Ask → Said → Ask × Said
pair ask reply = (ask, reply)

some_is : (x y : Call Ask) → Some x ≡ Some y → x ≡ y
some_is x y is = cc (is)

not_empty : (front : List (Ask × Said)) (x : Ask × Said) (rest : List (Ask × Said)) → [] ≡ front ++ x ∷ rest → ⊥
not_empty [] x rest is = cc
not_empty (y ∷ front) x rest is = cc

same_head : (x y : Ask × Said) (xs ys : List (Ask × Said)) → x ∷ xs ≡ y ∷ ys → x ≡ y
same_head x y xs ys is = cc

same_tail : (x y : Ask × Said) (xs ys : List (Ask × Said)) → x ∷ xs ≡ y ∷ ys → xs ≡ ys
same_tail x y xs ys is = cc

-- ---- a link's call

-- the call that asks this and has this reply: its number, behind the calls of the link that have these replies
pub record IsOwnCall (k : ℕ) (s : State) (link : ℕ) (history : History) (front : List (Ask × Said)) (ask : Ask) (reply : Said) : Type 0 where
  pub number : ℕ
  pub call : slice_get history number ≡ Some (entry link ask)
  pub earlier : map answered (own_from k s link (take number history)) ≡ front
  pub replied : reply ≡ answer_of (replay after_call s (take number history)) ask

-- a call's own answer stands before those of the calls after it, if it is the link's
abbrev with_own : Bool → State → Call Ask → List (Ask × Said) → List (Ask × Said)
with_own true s call front = (pair call.request (answer_of s call.request)) ∷ front
with_own false s call front = front

answered_if : (b c : Bool) (k : ℕ) (s : State) (call : Call Ask) (rest : List Entry) (front : List (Ask × Said)) → c ≡ b → map answered rest ≡ front
    → map answered (if c then entry_at k s call.request ∷ rest else rest) ≡ with_own b s call front
answered_if true c k s call rest front is same =
    ap (λ (d : Bool). map answered (if d then entry_at k s call.request ∷ rest else rest)) is
    ∙ ap (λ (l : List (Ask × Said)). (pair call.request (answer_of s call.request)) ∷ l) same
answered_if false c k s call rest front is same =
    ap (λ (d : Bool). map answered (if d then entry_at k s call.request ∷ rest else rest)) is ∙ same

-- in a history with one more call before
one_before : (b : Bool) (k : ℕ) (s : State) (link : ℕ) (call : Call Ask) (history : History) (front : List (Ask × Said)) (ask : Ask) (reply : Said)
    → (call.caller == link) ≡ b → IsOwnCall (k + 1) (after s call.request) link history front ask reply
    → IsOwnCall k s link (call ∷ history) (with_own b s call front) ask reply
one_before b k s link call history front ask reply is found = record {
  number = suc found.number;
  call = found.call;
  earlier = answered_if b (call.caller == link) k s call (own_from (k + 1) (after s call.request) link (take found.number history)) front is found.earlier;
  replied = found.replied;
}

-- the call is the first of the history
first_call : (k : ℕ) (s : State) (link : ℕ) (call : Call Ask) (history : History) (ask : Ask) (reply : Said)
    → call.caller ≡ link → (pair call.request (answer_of s call.request)) ≡ (pair ask reply) → IsOwnCall k s link (call ∷ history) [] ask reply
first_call k s link call history ask reply mine is =
    let asks : call.request ≡ ask = ap (λ (x : Ask × Said). x.0) is in
    let says : answer_of s call.request ≡ reply = ap (λ (x : Ask × Said). x.1) is in
    record {
      number = zero;
      call = ap (λ (c : ℕ). Some (entry c call.request)) mine ∙ ap (λ (a : Ask). Some (entry link a)) asks;
      earlier = refl;
      replied = sym says ∙ ap (λ (a : Ask). answer_of s a) asks;
    }

call_by : (b : Bool) (k : ℕ) (s : State) (link : ℕ) (call : Call Ask) (history : History) (front : List (Ask × Said)) (ask : Ask) (reply : Said) (rest : List (Ask × Said))
    → (call.caller == link) ≡ b
    → with_own b s call (map answered (own_from (k + 1) (after s call.request) link history)) ≡ front ++ (pair ask reply) ∷ rest
    → ((f : List (Ask × Said)) → map answered (own_from (k + 1) (after s call.request) link history) ≡ f ++ (pair ask reply) ∷ rest
    → IsOwnCall (k + 1) (after s call.request) link history f ask reply)
    → IsOwnCall k s link (call ∷ history) front ask reply
call_by false k s link call history front ask reply rest is are later =
    one_before false k s link call history front ask reply is (later front are)
call_by true k s link call history [] ask reply rest is are later =
    first_call k s link call history ask reply (are_same call.caller link is) (same_head (pair call.request (answer_of s call.request)) (pair ask reply) _ rest are)
call_by true k s link call history (x ∷ front) ask reply rest is are later =
    subst (λ (y : Ask × Said). IsOwnCall k s link (call ∷ history) (y ∷ front) ask reply) (same_head (pair call.request (answer_of s call.request)) x _ _ are)
    (one_before true k s link call history front ask reply is (later front (same_tail (pair call.request (answer_of s call.request)) x _ _ are)))

call_from : (k : ℕ) (s : State) (link : ℕ) (history : History) (front : List (Ask × Said)) (ask : Ask) (reply : Said) (rest : List (Ask × Said))
    → map answered (own_from k s link history) ≡ front ++ (pair ask reply) ∷ rest → IsOwnCall k s link history front ask reply
call_from k s link [] front ask reply rest are = absurd (not_empty front (pair ask reply) rest are)
call_from k s link (call ∷ history) front ask reply rest are =
    call_by (call.caller == link) k s link call history front ask reply rest refl
    (sym (answered_if (call.caller == link) (call.caller == link) k s call (own_from (k + 1) (after s call.request) link history) _ refl refl) ∙ are)
    (λ f is. call_from (k + 1) (after s call.request) link history f ask reply rest is)

-- the call that has the answer behind those of some telegrams
pub call_of : (s : State) (link : ℕ) (history : History) (front : List (Ask × Said)) (ask : Ask) (reply : Said) (rest : List (Ask × Said))
    → map answered (own_from 0 s link history) ≡ front ++ (pair ask reply) ∷ rest → IsOwnCall 0 s link history front ask reply
call_of s link history front ask reply rest are = call_from 0 s link history front ask reply rest are

-- ---- the state after a call

state_after : (s : State) (history : History) (number : ℕ) (call : Call Ask) → slice_get history number ≡ Some call
    → replay after_call s (take (suc number) history) ≡ after_call (replay after_call s (take number history)) call
state_after s [] number call is = absurd (cc (is))
state_after s (x ∷ history) zero call is =
    ap (λ (c : Call Ask). after_call s c) (some_is x call is)
state_after s (x ∷ history) (suc number) call is = state_after (after_call s x) history number call is

plus_one : (n : ℕ) → n + 1 ≡ suc n
plus_one n = omega arith

pub state_next : (s : State) (history : History) (number : ℕ) (call : Call Ask) → slice_get history number ≡ Some call
    → replay after_call s (take (number + 1) history) ≡ after_call (replay after_call s (take number history)) call
state_next s history number call is =
    ap (λ (n : ℕ). replay after_call s (take n history)) (plus_one number) ∙ state_after s history number call is

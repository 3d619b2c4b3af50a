-- A link's own calls in a history.
use Rattle.std.proofs.Common.{◌≡◌, ◌≢◌, ℕ, zero, suc, ◌+◌, ◌<◌, ◌≤◌, Bool, true, false, Some, List, [], ◌∷◌, ◌++◌, length, map, slice_get, refl, ap, sym, ◌∙◌, subst, arith, append_assoc, append-nil, length-append}
use Rattle.std.specs.Prelude.{◌==◌, if◌then◌else◌}
use Rattle.std.specs.List.{AllByRecursion}
use Rattle.std.proofs.lemmas.Bool.Decides.{nat_tests}
use Rattle.std.proofs.Math.Seq.{take-append_seam}
use Rattle.std.proofs.lemmas.List.{take-append-le, append_cancel_left}
use Rattle.s7_turn.specs.declared.view.Entry.{Entry as Call}
use Rattle.s7_turn.specs.Histories.{entry, replay}
use Rattle.s7_plant.specs.Books.{BookTold}
use Rattle.s7_plant.specs.declared.request.Ask.{Ask}
use Rattle.s7_plant.specs.declared.request.Request.{Request}
use Rattle.s7_plant.specs.declared.request.Request.TheVariants as plain
use Rattle.s7_plant.specs.Answers.{answer_of, after}
use Rattle.s7_plant.specs.Journals.{after_call}
use Rattle.s7_plant.specs.Replies.{Said}
use Rattle.s7_plant.specs.State.{State, state_of}
use Rattle.s7_session.specs.Entry.{Entry, answered}
use Rattle.s7_session.specs.Books.{History, history_of, entry_at, own_from, own, AreOf, GoesOnBy}
use Rattle.s7_rig.specs.Numbers.{count_from}
use Rattle.s7_rig.specs.Dialogues.{AreReplies}
use Rattle.s7_rig.specs.Plants.{IsPlant, IsStateFor}
use Rattle.s7_rig.specs.Split.{state_at, Rise}
use Rattle.s7_rig.proofs.ShapeLemmas.{AreShaped, state_same}

pub is_same : (a b : ℕ) → a ≡ b → (a == b) ≡ true
is_same a b e = grind (arith, nat_tests)

pub is_other : (a b : ℕ) → a ≢ b → (a == b) ≡ false
is_other a b e = grind (arith, nat_tests)

are_same : (a b : ℕ) → (a == b) ≡ true → a ≡ b
are_same a b e = grind (arith, nat_tests)

-- the numbers of entries, in order
abbrev pub numbers_of : List Entry → List ℕ
numbers_of entries = map (λ (e : Entry). e.number) entries

-- ---- a history in two parts

append_if : (b : Bool) (x : Entry) (all front back : List Entry) → all ≡ front ++ back
    → (if b then x ∷ all else all) ≡ (if b then x ∷ front else front) ++ back
append_if true x all front back is = ap (λ es. x ∷ es) is
append_if false x all front back is = is

-- the entries of the second part are numbered behind the first, and answered by the state that it left
own_from-append : (number : ℕ) (s : State) (link : ℕ) (xs ys : History)
    → own_from number s link (xs ++ ys) ≡ own_from number s link xs ++ own_from (number + length xs) (replay after_call s xs) link ys
own_from-append number s link [] ys = ap (λ k. own_from k s link ys) (omega arith)
own_from-append number s link (x ∷ xs) ys =
    append_if (x.caller == link) _ _ _ _
    (own_from-append (number + 1) (after s x.request) link xs ys
    ∙ ap (λ k. own_from (number + 1) (after s x.request) link xs ++ own_from k (replay after_call (after s x.request) xs) link ys) (omega arith))

-- calls of another link are none of its own
own_from_other : (number : ℕ) (s : State) (link other : ℕ) (es : History) → other ≢ link → AreOf other es → own_from number s link es ≡ []
own_from_other number s link other [] apart are = refl
own_from_other number s link other (e ∷ es) apart are =
    let not_own : (e.caller == link) ≡ false = ap (λ k. k == link) are.0 ∙ is_other other link apart in
    ap (λ b. if b then entry_at number s e.request ∷ own_from (number + 1) (after s e.request) link es else own_from (number + 1) (after s e.request) link es) not_own
    ∙ own_from_other (number + 1) (after s e.request) link other es apart are.1

pub own_of_another : (s : State) (link other : ℕ) (history es : History) → other ≢ link → AreOf other es → own s link (history ++ es) ≡ own s link history
own_of_another s link other history es apart are =
    own_from-append 0 s link history es
    ∙ ap (λ more. own s link history ++ more) (own_from_other (0 + length history) (replay after_call s history) link other es apart are)
    ∙ append-nil (own s link history)

pub own_more : (s : State) (link : ℕ) (history es : History) → own s link (history ++ es) ≡ own s link history ++ own_from (length history) (replay after_call s history) link es
own_more s link history es =
    own_from-append 0 s link history es
    ∙ ap (λ k. own s link history ++ own_from k (replay after_call s history) link es) (omega arith)

-- calls all of the link are all its own, numbered one after another
pub own_numbers : (number : ℕ) (s : State) (link : ℕ) (es : History) → AreOf link es → numbers_of (own_from number s link es) ≡ count_from number (length es)
unfolding count_from
own_numbers number s link [] are = refl
own_numbers number s link (e ∷ es) are =
    ap (λ b. numbers_of (if b then entry_at number s e.request ∷ own_from (number + 1) (after s e.request) link es else own_from (number + 1) (after s e.request) link es)) (is_same e.caller link are.0)
    ∙ ap (λ ns. number ∷ ns) (own_numbers (number + 1) (after s e.request) link es are.1)

-- the same of a book that goes on
pub own_goes_on : (link : ℕ) (old new : BookTold) (g : GoesOnBy link old new)
    → own (state_of new.opening) link (history_of new) ≡ own (state_of old.opening) link (history_of old) ++ own_from (length (history_of old)) (replay after_call (state_of old.opening) (history_of old)) link g.calls
own_goes_on link old new g =
    ap (λ o. own (state_of o) link (history_of new)) g.opening
    ∙ ap (own (state_of old.opening) link) g.history
    ∙ own_more (state_of old.opening) link (history_of old) g.calls

pub own_stays : (link other : ℕ) (old new : BookTold) → other ≢ link → GoesOnBy other old new → own (state_of new.opening) link (history_of new) ≡ own (state_of old.opening) link (history_of old)
own_stays link other old new apart g =
    ap (λ o. own (state_of o) link (history_of new)) g.opening
    ∙ ap (own (state_of old.opening) link) g.history
    ∙ own_of_another (state_of old.opening) link other (history_of old) g.calls apart g.own

-- ---- where the entries stand

-- the history has what was asked under its number, and the reply is that of the state that all calls before it left
pub record IsOwnAt (s : State) (history : History) (link : ℕ) (e : Entry) : Type 0 where
  pub call : slice_get history e.number ≡ Some (entry link e.ask)
  pub reply : e.reply ≡ answer_of (state_at s history e.number) e.ask

abbrev pub AreOwnAt : State → History → ℕ → List Entry → Type 0
AreOwnAt s history link entries = AllByRecursion (IsOwnAt s history link) entries

slice_get-seam : (front back : History) (e : Call Ask) → slice_get (front ++ e ∷ back) (length front) ≡ Some e
slice_get-seam [] back e = refl
slice_get-seam (x ∷ front) back e = slice_get-seam front back e

replay-one_more : (s : State) (front : History) (e : Call Ask) → after (replay after_call s front) e.request ≡ replay after_call s (front ++ e ∷ [])
replay-one_more s [] e = refl
replay-one_more s (x ∷ front) e = replay-one_more (after s x.request) front e

is_own_at : (s : State) (front back : History) (e : Call Ask) (link : ℕ) → e.caller ≡ link → IsOwnAt s (front ++ e ∷ back) link (entry_at (length front) (replay after_call s front) e.request)
is_own_at s front back e link is = record {
  call = slice_get-seam front back e ∙ ap (λ k. Some (entry k e.request)) is;
  reply = ap (λ es. answer_of (replay after_call s es) e.request) (sym (take-append_seam front (e ∷ back)));
}

all_if : (P : Entry → Type 0) (b : Bool) (x : Entry) (rest : List Entry) → (b ≡ true → P x) → AllByRecursion P rest → AllByRecursion P (if b then x ∷ rest else rest)
all_if P true x rest first others = (first refl, others)
all_if P false x rest first others = others

-- those of a back part, in the whole
own_at_behind : (s : State) (history front es : History) (link number : ℕ) (left : State) → front ++ es ≡ history → number ≡ length front → left ≡ replay after_call s front
    → AreOwnAt s history link (own_from number left link es)
own_at_behind s history front [] link number left whole counted leaves = tt
own_at_behind s history front (e ∷ es) link number left whole counted leaves =
    all_if (IsOwnAt s history link) (e.caller == link) (entry_at number left e.request) (own_from (number + 1) (after left e.request) link es)
    (λ same. subst (λ j. IsOwnAt s j link (entry_at number left e.request)) whole
    (subst (λ k. IsOwnAt s (front ++ e ∷ es) link (entry_at k left e.request)) (sym counted)
    (subst (λ x. IsOwnAt s (front ++ e ∷ es) link (entry_at (length front) x e.request)) (sym leaves)
    (is_own_at s front es e link (are_same e.caller link same)))))
    (own_at_behind s history (front ++ e ∷ []) es link (number + 1) (after left e.request)
    (append_assoc front (e ∷ []) es ∙ whole)
    (ap (λ k. k + 1) counted ∙ sym (length-append front (e ∷ [])))
    (ap (λ x. after x e.request) leaves ∙ replay-one_more s front e))

pub own_at : (s : State) (link : ℕ) (history : History) → AreOwnAt s history link (own s link history)
own_at s link history = own_at_behind s history [] history link 0 s refl refl refl

pub own_back_at : (s : State) (history : History) (link : ℕ) (before mine : List Entry) → AreOwnAt s history link (before ++ mine) → AreOwnAt s history link mine
own_back_at s history link [] mine all = all
own_back_at s history link (e ∷ before) mine all = own_back_at s history link before mine all.1

state_for : (request : Request) (s : State) → IsPlant s → IsStateFor request s
state_for (plain.ListOf kind) s plant = plant
state_for (plain.Info kind number) s plant = plant
state_for _ s plant = tt

replies_of : (s : State) (history : History) (link : ℕ) (es : List Entry)
    → ((n : ℕ) → IsPlant (state_at s history n)) → AreOwnAt s history link es → AreReplies (map answered es)
replies_of s history link [] plants all = tt
replies_of s history link (e ∷ es) plants all =
    let state = state_at s history e.number in (
      (state, all.0.reply, state_for e.ask.request state (plants e.number)),
      replies_of s history link es plants all.1,
    )

pub own_replies : (s : State) (link : ℕ) (history : History) → ((n : ℕ) → IsPlant (state_at s history n))
    → AreReplies (map answered (own s link history))
own_replies s link history plants = replies_of s history link (own s link history) plants (own_at s link history)

shapes_of : (s : State) (history : History) (link : ℕ) (es : List Entry) → AreOwnAt s history link es → AreShaped s.memory (map answered es)
shapes_of s history link [] all = tt
shapes_of s history link (e ∷ es) all = ((state_at s history e.number, state_same s history e.number, all.0.reply), shapes_of s history link es all.1)

-- the replies of a back part are those of states of the opening's shape
pub own_shaped : (s : State) (link : ℕ) (history : History) (before mine : List Entry) → own s link history ≡ before ++ mine → AreShaped s.memory (map answered mine)
own_shaped s link history before mine split =
    shapes_of s history link mine (own_back_at s history link before mine (subst (AreOwnAt s history link) split (own_at s link history)))

-- ---- their numbers rise

rise_rest : (n : ℕ) (ns : List ℕ) → Rise (n ∷ ns) → Rise ns
unfolding Rise
rise_rest n [] up = tt
rise_rest n (k ∷ ns) up = up.1

rise_if : (b : Bool) (low : ℕ) (x : Entry) (rest : List Entry) → low < x.number → Rise (x.number ∷ numbers_of rest) → Rise (low ∷ numbers_of rest) → Rise (low ∷ numbers_of (if b then x ∷ rest else rest))
unfolding Rise
rise_if true low x rest less up others = (less, up)
rise_if false low x rest less up others = others

rise_above : (low number : ℕ) (s : State) (link : ℕ) (es : History) → low < number → Rise (low ∷ numbers_of (own_from number s link es))
unfolding Rise
rise_above low number s link [] less = tt
rise_above low number s link (e ∷ es) less =
    rise_if (e.caller == link) low (entry_at number s e.request) (own_from (number + 1) (after s e.request) link es) less
    (rise_above number (number + 1) (after s e.request) link es (omega arith))
    (rise_above low (number + 1) (after s e.request) link es (omega (arith, less)))

own_if : (b : Bool) (x : Entry) (rest : List Entry) → Rise (x.number ∷ numbers_of rest) → Rise (numbers_of (if b then x ∷ rest else rest))
own_if true x rest up = up
own_if false x rest up = rise_rest x.number (numbers_of rest) up

rise_own : (number : ℕ) (s : State) (link : ℕ) (es : History) → Rise (numbers_of (own_from number s link es))
unfolding Rise
rise_own number s link [] = tt
rise_own number s link (e ∷ es) =
    own_if (e.caller == link) (entry_at number s e.request) (own_from (number + 1) (after s e.request) link es)
    (rise_above number (number + 1) (after s e.request) link es (omega arith))

pub own_rises : (s : State) (link : ℕ) (history : History) → Rise (numbers_of (own s link history))
own_rises s link history = rise_own 0 s link history

pub rise_back : (before mine : List Entry) → Rise (numbers_of (before ++ mine)) → Rise (numbers_of mine)
rise_back [] mine up = up
rise_back (e ∷ before) mine up = rise_back before mine (rise_rest e.number (numbers_of (before ++ mine)) up)

-- what was entered is known in both ways
pub own_are_same : (all front entries : List (Ask × Said)) (mine : List Entry) → all ≡ front ++ map answered mine
    → all ≡ front ++ entries → entries ≡ map answered mine
own_are_same all front entries mine own_are are =
    append_cancel_left front entries (map answered mine) (sym are ∙ own_are)

-- ---- a history that grows

pub slice_get-grows : (history more : History) (k : ℕ) (e : Call Ask) → slice_get history k ≡ Some e
    → slice_get (history ++ more) k ≡ Some e
slice_get-grows [] more k e is = absurd (cc)
slice_get-grows (x ∷ history) more zero e is = is
slice_get-grows (x ∷ history) more (suc k) e is = slice_get-grows history more k e is

pub at_grows : (s : State) (history more : History) (k : ℕ) → k < length history → state_at s history k ≡ state_at s (history ++ more) k
at_grows s history more k less = ap (replay after_call s) (sym (take-append-le k history more (omega (arith, less))))

-- ---- calls of several links

-- each call is of one of the links from low to high
abbrev pub AllLinks : ℕ → ℕ → History → Type 0
AllLinks low high history = AllByRecursion (λ (e : Call Ask). (low ≤ e.caller) × (e.caller ≤ high)) history

are_among : (low high link : ℕ) (es : History) → low ≤ link → link ≤ high → AreOf link es → AllLinks low high es
are_among low high link [] least most are = tt
are_among low high link (e ∷ es) least most are = ((omega (arith, least, are.0), omega (arith, most, are.0)), are_among low high link es least most are.1)

are_all : (low high : ℕ) (xs ys : History) → AllLinks low high xs → AllLinks low high ys → AllLinks low high (xs ++ ys)
are_all low high [] ys xs_are ys_are = ys_are
are_all low high (x ∷ xs) ys xs_are ys_are = (xs_are.0, are_all low high xs ys xs_are.1 ys_are)

pub no_links : (low high : ℕ) → AllLinks low high []
no_links low high = tt

pub all_links_more : (low high link : ℕ) (history es : History) → low ≤ link → link ≤ high → AllLinks low high history → AreOf link es → AllLinks low high (history ++ es)
all_links_more low high link history es least most all are = are_all low high history es all (are_among low high link es least most are)

pub all_links_go_on : (low high link : ℕ) (old new : BookTold) → low ≤ link → link ≤ high → AllLinks low high (history_of old) → GoesOnBy link old new → AllLinks low high (history_of new)
all_links_go_on low high link old new least most all g =
    subst (AllLinks low high) (sym g.history) (all_links_more low high link (history_of old) g.calls least most all g.own)

-- Parameters of user data that are read, and the octets that spell them.
use Rattle.std.proofs.Common.{◌≡◌, ℕ, Bool, true, false, eqb, nat_eq, cond, List, [], ◌++◌, length, drop, Result, Ok, Err, refl, ap, ◌∙◌, subst, arith}
use Rattle.std.specs.List.{starts_with}
use Rattle.std.proofs.lemmas.Bool.{eqb-true, and_parts}
use Rattle.std.proofs.lemmas.Bool.Decides.{Decides-eqb}
use Rattle.std.proofs.lemmas.Slice.Eq.{starts_is}
use Rattle.std.proofs.Math.ListN.{drop_of_length-le}
use Rattle.s7_outer.specs.Numbers.{AreOctets}
use Rattle.s7_header.specs.UserParams.{short_head, long_head, user_spelling, HasForm, IsUserParams, SpellsUser, is_short, is_long, short_of, long_of, user_params_of}
use Rattle.s7_header.specs.declared.user_params.UserParams.{UserParams}
use Rattle.s7_header.specs.declared.faults.BadParams.{BadParams}
use Rattle.s7_header.proofs.Chosen.{passed}
use Rattle.s7_header.proofs.OctetLemmas.{two_of_number, number_at_fits, one_cell, two_cells}

head_is : (params head : List ℕ) → starts_with nat_eq params head ≡ true → params ≡ head ++ drop (length head) params
head_is params head h = (starts_is Decides-eqb params head (starts_with nat_eq params head) refl).0 h

spells_short : (params : List ℕ) → is_short params ≡ true → SpellsUser params (short_of params)
spells_short params form =
    let both = and_parts (eqb (length params) 8) (starts_with nat_eq params short_head) form in
    let len = eqb-true (length params) 8 both.0 in
    let head = head_is params short_head both.1 in
    let group = one_cell params 5 (omega arith) in
    let sub = one_cell params 6 (omega arith) in
    let sequence = one_cell params 7 (omega arith) in
    let rest : drop 8 params ≡ [] = drop_of_length-le params {i = 8} (omega arith) in
    record { octets = cc; is_user = record { form = record { unit = refl; more = refl; error = refl }; error = omega arith } }

spells_long : (params : List ℕ) → AreOctets params → is_long params ≡ true → SpellsUser params (long_of params)
spells_long params are form =
    let both = and_parts (eqb (length params) 12) (starts_with nat_eq params long_head) form in
    let len = eqb-true (length params) 12 both.0 in
    let head = head_is params long_head both.1 in
    let group = one_cell params 5 (omega arith) in
    let sub = one_cell params 6 (omega arith) in
    let sequence = one_cell params 7 (omega arith) in
    let unit = one_cell params 8 (omega arith) in
    let more = one_cell params 9 (omega arith) in
    let error = two_cells params 10 (omega arith) are in
    let rest : drop 12 params ≡ [] = drop_of_length-le params {i = 12} (omega arith) in
    record { octets = cc; is_user = record { form = tt; error = number_at_fits params 10 are } }

-- what is read is spelled
pub spells_user : (params : List ℕ) (u : UserParams) → AreOctets params → user_params_of params ≡ Ok u → SpellsUser params u
unfolding user_params_of
spells_user params u are r =
    let P : UserParams → Type 0 = λ x. SpellsUser params x in
    let E : Bool → Result UserParams BadParams = λ v. cond v (Ok (short_of params)) (cond (is_long params) (Ok (long_of params)) (Err (record {}))) in
    elim (is_short params) as (λ v. is_short params ≡ v → E v ≡ Ok u → SpellsUser params u) [
      | true ↦ λ form e. let fields : short_of params ≡ u = cc in subst P fields (spells_short params form)
      | false ↦ λ form e.
          let none : BadParams = record {} in
          let long = passed (is_long params) none (Ok (long_of params)) u e in
          let fields : long_of params ≡ u = cc in
          subst P fields (spells_long params are long.0)
    ] refl r

spelled_as : (answer : Bool) (group sub sequence unit more error : ℕ)
    → (let u : UserParams = record { answer = answer; group = group; sub = sub; sequence = sequence; unit = unit; more = more; error = error } in HasForm u → user_params_of (user_spelling u) ≡ Ok u)
unfolding user_params_of
spelled_as true group sub sequence unit more error form = let e = two_of_number error in cc
spelled_as false group sub sequence unit more error form = cc

-- what is spelled is read
pub spelled_user : (u : UserParams) → IsUserParams u → user_params_of (user_spelling u) ≡ Ok u
spelled_user u is = spelled_as u.answer u.group u.sub u.sequence u.unit u.more u.error is.form

pub read_of_user : (params : List ℕ) (u : UserParams) → SpellsUser params u → user_params_of params ≡ Ok u
read_of_user params u s = ap user_params_of s.octets ∙ spelled_user u s.is_user

pub one_user : (params : List ℕ) (t u : UserParams) → SpellsUser params t → SpellsUser params u → t ≡ u
one_user params t u s v =
    let first = read_of_user params t s in
    let second = read_of_user params u v in
    cc

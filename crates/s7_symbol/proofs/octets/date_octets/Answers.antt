use Rattle.std.proofs.Common.{◌∙◌, [], ◌∷◌, List, Ok, ℕ, Result, ap, drop, get_or, sym}
use Rattle.s7_symbol.specs.declared.fault.ValueFault.{ValueFault}
use Rattle.s7_symbol.proofs.DateLemmas.{said_in_range, said_no_date, said_past}
use Rattle.s7_symbol.proofs.octets.date_octets.Goals as goal

-- eight octets of ten
abbrev behind_two : List ℕ → List ℕ
behind_two o =
    get_or o 2 0 ∷ get_or o 3 0 ∷ get_or o 4 0 ∷ get_or o 5 0 ∷ get_or o 6 0 ∷ get_or o 7 0 ∷ get_or o 8 0 ∷ get_or o 9 0 ∷ []

abbrev ok : List ℕ → Result (List ℕ) ValueFault
ok o = Ok o

pub returns-in-Some : goal.returns-in-Some
returns-in-Some c =
    ap (λ o. ok (behind_two o)) c.to_octets.ensures
    ∙ ap (λ o. ok (drop 2 o)) c.date_of.ensures.octets
    ∙ sym (said_in_range c.args.text.now c.in-Some.moment (sym c.read_moment.ensures.value ∙ c.in-Some.is))

pub returns-in-None : goal.returns-in-None
returns-in-None c =
    sym (said_past c.args.text.now (sym c.read_moment.ensures.value ∙ c.in-None.is) (sym c.names_date.ensures ∙ c.if-names_date.true))

pub returns-in-None-2 : goal.returns-in-None-2
returns-in-None-2 c = sym (said_no_date c.args.text.now (sym c.names_date.ensures ∙ c.if-names_date.false))

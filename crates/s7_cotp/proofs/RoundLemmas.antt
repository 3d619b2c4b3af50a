-- A message that is cut is joined again.
use Rattle.std.proofs.Common.{◌≡◌, ℕ, ◌+◌, ◌-◌, ◌≤◌, List, [], ◌∷◌, ◌++◌, length, take, drop, map, ap, subst, ◌∙◌, sym, refl, arith, append-nil}
use Rattle.std.specs.List.{between}
use Rattle.std.proofs.lemmas.Bool.{eq-eqb, ne_eqb}
use Rattle.std.proofs.lemmas.List.{drop-drop, take-append-drop, length-map}
use Rattle.std.proofs.lemmas.Slice.{between_to_end}
use Rattle.s7_cotp.specs.Messages.{octets_of, IsGroup, IsMessage, NoMessageAhead, messages_of, rest_of}
use Rattle.s7_cotp.specs.Pairs.{IsCut, pairs_of, part_of, parts_of}
use Rattle.s7_cotp.proofs.CutLemmas.{pairs_cut}
use Rattle.s7_cotp.proofs.JoinLemmas.{one_joining_only}

-- only the last part ends where the message does
parts_group : (message : List ℕ) (room from : ℕ) (ps : List (ℕ × ℕ)) → IsCut room from (length message) ps → IsGroup (map (part_of message) ps)
parts_group message room from [] h = h
parts_group message room from (p ∷ []) h = eq-eqb p.1 (length message) (ap (λ x. x.1) h.0)
parts_group message room from (p ∷ q ∷ ps) h =
    let e : p.1 ≡ from + room = ap (λ x. x.1) h.0 in
    (ne_eqb p.1 (length message) (λ g. omega (arith, e, h.1, g)), parts_group message room (from + room) (q ∷ ps) h.2)

part_and_rest : (message : List ℕ) (room from : ℕ) → between from (from + room) message ++ drop (from + room) message ≡ drop from message
part_and_rest message room from =
    let e : from + room - from ≡ room = omega arith in
    ap (λ v. take v (drop from message) ++ drop (from + room) message) e
    ∙ ap (λ v. take room (drop from message) ++ v) (sym (drop-drop room from message))
    ∙ take-append-drop room (drop from message)

parts_octets : (message : List ℕ) (room from : ℕ) (ps : List (ℕ × ℕ)) → IsCut room from (length message) ps → octets_of (map (part_of message) ps) ≡ drop from message
parts_octets message room from [] h = absurd h
parts_octets message room from (p ∷ []) h =
    append-nil (between p.0 p.1 message)
    ∙ ap (λ x. between x.0 x.1 message) h.0
    ∙ between_to_end message from (length message) (omega arith)
parts_octets message room from (p ∷ q ∷ ps) h =
    ap (λ x. between x.0 x.1 message ++ octets_of (map (part_of message) (q ∷ ps))) h.0
    ∙ ap (λ x. between from (from + room) message ++ x) (parts_octets message room (from + room) (q ∷ ps) h.2)
    ∙ part_and_rest message room from

none_in_none : (limit : ℕ) → NoMessageAhead limit []
none_in_none limit [] more m h e = h.group
none_in_none limit (f ∷ group) more m h e = cc

pub joined_again : (limit tpdu : ℕ) (message : List ℕ) → 4 ≤ tpdu → length message ≤ limit → length (pairs_of (length message) tpdu) ≤ 64
    → (messages_of limit (parts_of tpdu message) ≡ message ∷ []) × (rest_of limit (parts_of tpdu message) ≡ [])
joined_again limit tpdu message least fits few =
    let pairs = pairs_of (length message) tpdu in
    let cut = pairs_cut (length message) tpdu least in
    let is : IsMessage limit (parts_of tpdu message) message = record {
      group = parts_group message (tpdu - 3) 0 pairs cut;
      fragments = subst (λ (n : ℕ). n ≤ 64) (sym (length-map pairs (part_of message))) few;
      octets = sym (parts_octets message (tpdu - 3) 0 pairs cut);
      fits = fits;
    } in
    one_joining_only limit (parts_of tpdu message) (message ∷ []) []
    ((parts_of tpdu message, [], is, sym (append-nil (parts_of tpdu message)), refl), none_in_none limit)

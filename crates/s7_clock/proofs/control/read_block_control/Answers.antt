use Rattle.std.proofs.Common.{◌≡◌, ◌≢◌, ◌∙◌, ◌<◌, ℕ, Bool, true, false, List, slice_index, refl, subst, sym, rules}
use Rattle.std.proofs.lemmas.Bool.Decides.{Decides-eqb}
use Rattle.std.proofs.lemmas.Slice.Eq.{slice_eq-Decides}
use Rattle.std.proofs.lemmas.Bool.{false≢true}
use Rattle.std.specs.Cmp.Lexicographic.{pointwise}
use Rattle.std.specs.Prelude.{nat_eq}
use Rattle.s7_clock.specs.declared.control.Control.TheVariants.{Insert, Delete}
use Rattle.s7_clock.specs.Control.{control_spelling, number_named}
use Rattle.s7_clock.proofs.ControlLemmas.{block_is, delete_read, insert_read, no_kind, no_number, none_by_block, none_by_len, none_read}
use Rattle.s7_clock.proofs.control.read_block_control.Goals as goal

-- octets that are found to be the same, and to be others
same : (params octets : List ℕ) (r : Bool) → r ≡ pointwise nat_eq params octets → r ≡ true → params ≡ octets
same params octets r e is = (slice_eq-Decides Decides-eqb params octets r e).0 is

other : (params octets : List ℕ) (r : Bool) → r ≡ pointwise nat_eq params octets → r ≡ false → params ≢ octets
other params octets r e is h = false≢true (sym is ∙ (slice_eq-Decides Decides-eqb params octets r e).1 h)

pub returns-then-params-ne-BLOCK_LEN : goal.returns-then-params-ne-BLOCK_LEN
returns-then-params-ne-BLOCK_LEN c = sym (none_by_len c.args.params.now c.if-params-ne-BLOCK_LEN.true)

pub returns-in_default : goal.returns-in_default
returns-in_default c =
    let params = c.args.params.now in
    let large : ¬ (number_named params < 65536) = subst (λ (n : ℕ). ¬ (n < 65536)) c.number_named.ensures c.in_default.ensures in
    sym (none_by_block params (no_number (slice_index params 13) (number_named params) large))

pub returns-then-not-is_kind : goal.returns-then-not-is_kind
returns-then-not-is_kind c =
    let params = c.args.params.now in
    sym (none_by_block params (no_kind (slice_index params 13) (number_named params) (sym c.is_kind.ensures ∙ c.if-not-is_kind.true)))

pub returns-then-eq : goal.returns-then-eq
returns-then-eq c =
    let params = c.args.params.now in
    let octets = same params c.as_slice.result.now c.eq.result c.eq.ensures c.if-eq.true ∙ c.as_slice.ensures ∙ c.block_octets.ensures in
    let number : c.in-Ok.number ≡ number_named params = search rules in
    let below : c.in-Ok.number < 65536 = search rules in
    let is = block_is (slice_index params 13) c.in-Ok.number (sym c.is_kind.ensures ∙ c.if-not-is_kind.false) below in
    sym (insert_read params (slice_index params 13) c.in-Ok.number refl number is octets)

pub returns-then-eq-2 : goal.returns-then-eq-2
returns-then-eq-2 c =
    let params = c.args.params.now in
    let kind = slice_index params 13 in
    let insert = c.as_slice.ensures ∙ c.block_octets.ensures in
    let apart : params ≢ control_spelling (Insert kind c.in-Ok.number) = λ e. other params c.as_slice.result.now c.eq.result c.eq.ensures c.if-eq.false (e ∙ sym insert) in
    let octets = same params c.as_slice-2.result.now c.eq-2.result c.eq-2.ensures c.if-eq-2.true ∙ c.as_slice-2.ensures ∙ c.block_octets-2.ensures in
    let number : c.in-Ok.number ≡ number_named params = search rules in
    let below : c.in-Ok.number < 65536 = search rules in
    let is = block_is kind c.in-Ok.number (sym c.is_kind.ensures ∙ c.if-not-is_kind.false) below in
    sym (delete_read params kind c.in-Ok.number refl number is apart octets)

pub returns : goal.returns
returns c =
    let params = c.args.params.now in
    let kind = slice_index params 13 in
    let insert = c.as_slice.ensures ∙ c.block_octets.ensures in
    let delete = c.as_slice-2.ensures ∙ c.block_octets-2.ensures in
    let not_insert : params ≢ control_spelling (Insert kind c.in-Ok.number) = λ e. other params c.as_slice.result.now c.eq.result c.eq.ensures c.if-eq.false (e ∙ sym insert) in
    let not_delete : params ≢ control_spelling (Delete kind c.in-Ok.number) = λ e. other params c.as_slice-2.result.now c.eq-2.result c.eq-2.ensures c.if-eq-2.false (e ∙ sym delete) in
    let number : c.in-Ok.number ≡ number_named params = search rules in
    sym (none_read params kind c.in-Ok.number refl number not_insert not_delete)

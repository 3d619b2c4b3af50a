use Rattle.std.proofs.Common.{◌≡◌, ◌-◌, ◌+◌, length, take, drop, ap, ◌∙◌, sym, arith, length-drop}
use Rattle.s7_szl.specs.Octets.{number_at}
use Rattle.s7_szl.specs.Readers.{is_of, records_in, first_with}
use Rattle.s7_szl.proofs.RecordLemmas.{first_is, first_is_behind, is_field}
use Rattle.s7_szl.proofs.readers.read_component.Goals as goal

pub returns-then-number_at-index : goal.returns-then-number_at-index
returns-then-number_at-index c =
    let image = c.args.image.now in
    let index = c.args.index in
    let rest = c.loop.rest.now in
    let has : number_at (take 34 rest) 0 ≡ index = ap (λ r. number_at r 0) (sym c.split_at.ensures.front) ∙ sym c.number_at.ensures ∙ c.if-number_at-index.true in
    let found = sym c.loop.invariant.1 ∙ first_is index c.number_at-end.result c.loop.counter rest c.loop-test.true has in
    is_field (is_of 0x001C 0 34 image) (first_with index (records_in 34 (number_at image 6) (drop 8 image))) (drop 2 (take 34 rest)) c.text_of.result
    (sym c.is_of.ensures ∙ c.if-not-is_of.false) found (c.text_of.ensures ∙ ap (drop 2) c.split_at.ensures.front)

pub loop-preserved : goal.loop-preserved
loop-preserved c =
    let index = c.args.index in
    let rest = c.loop.rest.now in
    let end = c.number_at-end.result in
    let has_not : number_at (take 34 rest) 0 ≡ index → ⊥ = λ e. c.if-number_at-index.false (c.number_at.ensures ∙ ap (λ r. number_at r 0) c.split_at.ensures.front ∙ e) in (
      omega (arith, c.loop.invariant.0, ap length c.split_at.ensures.back, length-drop 34 rest),
      ap (λ r. first_with index (records_in 34 (end - (c.loop.counter + 1)) r)) c.split_at.ensures.back
          ∙ sym (first_is_behind index end c.loop.counter rest c.loop-test.true has_not)
          ∙ c.loop.invariant.1,
    )

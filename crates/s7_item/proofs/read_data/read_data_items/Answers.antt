use Rattle.std.proofs.Common.{◌≤◌, length, ◌≡◌, ◌+◌, eqb, arith}
use Rattle.std.proofs.lemmas.Grind.{common_steps}
use Rattle.std.proofs.lemmas.List.Elements.{All-push}
use Rattle.s7_item.specs.DataItem.{span_of}
use Rattle.s7_item.specs.declared.places.DataPlace.{DataPlace}
use Rattle.s7_item.proofs.DataLemmas.{places_in-step, places_in-fails, places_in-ends}
use Rattle.s7_item.proofs.read_data.read_data_items.Goals as goal

pub returns-in-Err-clause-read : goal.returns-in-Err-clause-read
returns-in-Err-clause-read c =
    (places_in-fails _ _ _ _ _ _ _ _ c.loop-k-test.true c.loop-k.invariant.so_far c.read_place.ensures.place c.in-Err.is, c.clear-in-Err.ensures)

pub loop-k-preserved : goal.loop-k-preserved
loop-k-preserved c =
    let goes : c.in-Ok.place.from + c.in-Ok.place.len + c.padding_of.result ≡ c.loop-k.at + span_of c.in-Ok.place (eqb (c.loop-k.k + 1) c.args.n) =
    omega (arith, c.in-Ok.ensures.from, c.padding_of.ensures.padding) in
    let ends : c.in-Ok.place.from + c.in-Ok.place.len ≤ length c.args.octets.now = omega (arith, c.in-Ok.ensures.from, c.in-Ok.ensures.fits) in
    record {
      so_far = places_in-step _ _ _ _ _ _ _ _ _ _ c.loop-k-test.true c.loop-k.invariant.so_far c.read_place.ensures.place c.in-Ok.is c.push.ensures goes;
      many = grind (arith, common_steps);
      inside =
          rw c.push.ensures (All-push (λ (place : DataPlace). place.from + place.len ≤ length c.args.octets.now) c.loop-k.into c.in-Ok.place c.loop-k.invariant.inside ends);
      in_range = omega (arith, goes, c.in-Ok.ensures.fits);
    }

pub returns-clause-read : goal.returns-clause-read
returns-clause-read c = places_in-ends _ _ _ _ _ _ c.loop-k-test.false c.if-at-octets.false c.loop-k.invariant.so_far

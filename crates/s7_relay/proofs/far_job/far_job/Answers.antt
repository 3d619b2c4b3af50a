use Rattle.std.proofs.Common.{◌≡◌, ℕ, List, length, map, ap, sym, ◌∙◌, subst}
use Rattle.s7_item.specs.declared.item.Item.{Item}
use Rattle.s7_plant.specs.declared.request.Request.TheVariants.{Write}
use Rattle.s7_plant.specs.Requests.{IsReady}
use Rattle.s7_relay.specs.Travel.{AreGood, request_codes}
use Rattle.s7_relay.specs.Windows.{near_code, put_codes}
use Rattle.s7_relay.proofs.TravelLemmas.{reads_are_good, writes_are_good}
use Rattle.s7_relay.proofs.EnoughLemmas.{length-put}
use Rattle.s7_relay.proofs.far_job.far_job.Goals as goal

pub far_items-requires-clause-good : goal.far_items-requires-clause-good
far_items-requires-clause-good c =
    let ws = c.args.windows.now in
    let items = c.in-Read.items in
    let codes : c.args.codes.now ≡ map (near_code ws) items = c.requires.codes ∙ ap (request_codes ws) c.in-Read.is in
    subst (λ (xs : List Item). AreGood ws xs c.args.codes.now) (sym c.as_slice.ensures.items)
    (subst (λ (cs : List ℕ). AreGood ws items cs) (sym codes) (reads_are_good ws items))

pub far_items-requires-in-Write-clause-codes : goal.far_items-requires-in-Write-clause-codes
far_items-requires-in-Write-clause-codes c =
    let items = c.in-Write.items in
    let ready : IsReady (Write items c.in-Write.places c.in-Write.octets) = subst IsReady c.in-Write.is c.requires.ready in
    ap length (c.requires.codes ∙ ap (request_codes c.args.windows.now) c.in-Write.is)
    ∙ length-put c.args.windows.now items c.in-Write.places c.in-Write.octets ready.0
    ∙ ap length (sym c.as_slice-in-Write.ensures.items)

pub far_items-requires-in-Write-clause-good : goal.far_items-requires-in-Write-clause-good
far_items-requires-in-Write-clause-good c =
    let ws = c.args.windows.now in
    let items = c.in-Write.items in
    let codes : c.args.codes.now ≡ put_codes ws items c.in-Write.places c.in-Write.octets =
    c.requires.codes ∙ ap (request_codes ws) c.in-Write.is in
    subst (λ (xs : List Item). AreGood ws xs c.args.codes.now) (sym c.as_slice-in-Write.ensures.items)
    (subst (λ (cs : List ℕ). AreGood ws items cs) (sym codes)
    (writes_are_good ws items c.in-Write.places c.in-Write.octets))

pub far_octets-requires-clause-places : goal.far_octets-requires-clause-places
far_octets-requires-clause-places c =
    let items = c.in-Write.items in
    let ready : IsReady (Write items c.in-Write.places c.in-Write.octets) = subst IsReady c.in-Write.is c.requires.ready in
    ap length (c.as_slice-in-Write-2.ensures.places ∙ c.list.ensures)
    ∙ ready.0
    ∙ sym (length-put c.args.windows.now items c.in-Write.places c.in-Write.octets ready.0)
    ∙ ap length (sym (c.requires.codes ∙ ap (request_codes c.args.windows.now) c.in-Write.is))

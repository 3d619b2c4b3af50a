-- Jobs that are spelled are judged by their function, parameters and data.
use Rattle.std.proofs.Common.{◌≡◌, ℕ, ◌+◌, ◌<◌, ◌≤◌, Bool, false, cond, Ok, List, [], length, refl, ap, sym, ◌∙◌}
use Rattle.std.proofs.Common.{subst, arith, length-append}
use Rattle.std.specs.Prelude.{Some}
use Rattle.std.proofs.lemmas.Bool.{le-ltb}
use Rattle.std.proofs.Math.Seq.{take-append_seam, drop-append_seam}
use Rattle.s7_header.specs.declared.header.Kind.TheVariants.{Job}
use Rattle.s7_header.specs.declared.header.Header.{Header}
use Rattle.s7_header.specs.Header.{header_of}
use Rattle.s7_header.specs.Header as header
use Rattle.s7_header.proofs.HeaderLemmas.{spelled}
use Rattle.s7_header.proofs.OctetLemmas.{two_of_number}
use Rattle.s7_item.specs.DataItem.{data_octets, data_places_of}
use Rattle.s7_item.specs.Params.{items_params}
use Rattle.s7_item.specs.Sizes.{answer_size}
use Rattle.s7_item.proofs.DataLaws.{data_reads_back}
use Rattle.s7_item.proofs.ItemLaws.{reads_back}
use Rattle.s7_session.specs.LinkState.{LinkState}
use Rattle.s7_session.specs.Judgement.{Judgement, judge, headed, job, function_at, pdu_limit, read, write, write_of}
use Rattle.s7_session.specs.Spelled.{job_spelled, ReadsAreAsked, WritesAreAsked}

-- a job has ten octets of header
length-job : (sequence : ℕ) (params body : List ℕ) → length (job_spelled sequence params body) ≡ 10 + length params + length body
length-job sequence params body = omega (arith, length-append params body)

abbrev job_header : ℕ → List ℕ → List ℕ → Header
job_header sequence params body = record {
  kind = Job;
  sequence = sequence;
  param_len = length params;
  body_len = length body;
  error = 0;
}

job_read : (sequence : ℕ) (params body : List ℕ) → sequence < 65536 → length (job_spelled sequence params body) ≤ 1920
    → header_of (job_spelled sequence params body) ≡ Ok (job_header sequence params body)
job_read sequence params body low most =
    let size = length-job sequence params body in
    spelled 0 0 (job_header sequence params body) params body
    (record {
      sequence = omega (arith, low);
      param_len = omega (arith, size, most);
      body_len = omega (arith, size, most);
      error = omega arith;
      no_error = refl;
    })
    refl refl

not_refused : (t : Bool) (x y : Judgement) → t ≡ false → cond t x y ≡ y
not_refused t x y is = ap (λ v. cond v x y) is

-- a job that fits the PDU is judged by its function, parameters and data
pub judged_job : (link : LinkState) (pdu sequence : ℕ) (params body : List ℕ) → link.granted ≡ Some pdu → pdu ≤ 1920 → sequence < 65536
    → length (job_spelled sequence params body) ≤ pdu → judge link (job_spelled sequence params body) ≡ job link sequence params body
unfolding judge
judged_job link pdu sequence params body granted most low fits =
    let m = job_spelled sequence params body in
    let h = job_header sequence params body in
    let within : length m ≤ pdu_limit link.granted = subst (λ g. length m ≤ pdu_limit g) (sym granted) fits in
    ap (headed link m) (job_read sequence params body low (omega (arith, most, fits)))
    ∙ (not_refused _ _ _ (le-ltb (pdu_limit link.granted) (length m) within)
    ∙ (ap (λ n. job link n (header.params_of m h) (header.body_of m h)) (two_of_number sequence)
    ∙ (ap (λ x. job link sequence x (header.body_of m h)) (take-append_seam params body)
    ∙ ap (job link sequence params) (drop-append_seam params body))))

pub reads_are_asked : ReadsAreAsked
reads_are_asked link pdu sequence items is room =
    judged_job link pdu sequence (items_params 0x04 items) [] is.granted is.pdu_is is.numbered is.fits
    ∙ (ap (λ g. function_at link g 0x04 sequence (items_params 0x04 items) []) is.granted
    ∙ (ap (read link pdu sequence []) (reads_back 0x04 items is.some is.most)
    ∙ not_refused _ _ _ (le-ltb pdu (answer_size items) room)))

pub writes_are_asked : WritesAreAsked
writes_are_asked link pdu sequence items written is many octets room =
    let body = data_octets written in
    let params = items_params 0x05 items in
    let places = ap (λ n. data_places_of n body) (sym many) ∙ (data_reads_back written octets).places in
    judged_job link pdu sequence params body is.granted is.pdu_is is.numbered is.fits
    ∙ (ap (λ g. function_at link g 0x05 sequence params body) is.granted
    ∙ (ap (write link pdu sequence body) (reads_back 0x05 items is.some is.most)
    ∙ (ap (write_of link pdu sequence items body) places
    ∙ not_refused _ _ _ (le-ltb pdu (14 + length items) room))))

-- What a client may send only grows with octets.
use Rattle.std.proofs.Common.{◌≡◌, ℕ, Option, None, Some, List, [], ◌++◌, refl, ap, sym, ◌∙◌, append_assoc, append-nil}
use Rattle.s7_tpkt.specs.Packets.{packets_of, rest_of, state_of}
use Rattle.s7_tpkt.proofs.PacketLemmas.{goes_further}
use Rattle.s7_wire.specs.Reading.{Ending, disconnected, faulted, with_state}
use Rattle.s7_dialogue.specs.Dialogue.{Conduct}
use Rattle.s7_dialogue.specs.Course.{Origin, Course, Awaits, for_confirm, for_answers, for_departure, for_nothing}
use Rattle.s7_dialogue.specs.Course.{conduct_of, asking, read_before, with_ending, unless_over, begun, run, packets_run}
use Rattle.s7_dialogue.specs.Course.{course, limits}
use Rattle.s7_client.specs.Standing.{IsPrefixOf}
use Rattle.s7_client.proofs.CourseLemmas.{run-append}
use Rattle.s7_dialogue.proofs.FlightLemmas.{asks_on}
use Rattle.s7_dialogue.proofs.RowLemmas.{IsKept, run_kept}

abbrev pub OutGrows : Course → Course → Type 0
OutGrows c d = IsPrefixOf c.out d.out

further : (c d : Course) (more : List ℕ) → OutGrows c d → (e : Course) → e.out ≡ d.out ++ more → OutGrows c e
further c d more p e is = (p.0 ++ more, is ∙ (ap (λ x. x ++ more) p.1 ∙ append_assoc c.out p.0 more))

asking_grows : (conduct : Conduct) (c d : Course) → OutGrows c d → OutGrows c (asking conduct d)
asking_grows conduct c d p = further c d _ p (asking conduct d) (asks_on conduct.width conduct d).out

out_kept : (conduct : Conduct) (c : Course) → IsKept conduct (OutGrows c)
out_kept conduct c = record {
  faulted = λ d code carried bad p. p;
  joined = λ d unfinished p. p;
  confirmed = λ d size awaits p. asking_grows conduct c (record d { size = size }) p;
  answered = λ d message rows awaits is p. asking_grows conduct c (record d { rows = rows }) p;
}

ending_out : (c : Course) (ending : Option Ending) → (with_ending c ending).out ≡ c.out
ending_out c None = refl
ending_out c (Some disconnected) = refl
ending_out c (Some (faulted fault at)) = refl

unless_out : (n c : Course) (a : Awaits) → n.out ≡ c.out → (unless_over n c a).out ≡ c.out
unless_out n c for_confirm e = e
unless_out n c for_answers e = e
unless_out n c for_departure e = refl
unless_out n c (for_nothing end carried) e = refl

course_out : (origin : Origin) (b : List ℕ) → (course origin b).out ≡ (packets_run origin b).out
unfolding course
course_out origin b =
    let c = packets_run origin b in
    let s = state_of (limits origin (packets_of (limits origin) b)) (rest_of (limits origin) b) in
    let ending = (with_state (read_before c) s).ending in
    unless_out (with_ending c ending) c c.awaits (ending_out c ending)

-- with more octets more may be sent
pub course_grows : (origin : Origin) (b xs : List ℕ) → OutGrows (course origin b) (course origin (b ++ xs))
course_grows origin b xs =
    let f = goes_further (limits origin) b xs in
    let c = packets_run origin b in
    let g = run_kept origin (OutGrows c) (out_kept (conduct_of origin) c) c f.tail ([], sym (append-nil c.out)) in (
      g.0,
      course_out origin (b ++ xs)
          ∙ (ap (λ (ps : List (List ℕ)). (run origin (begun origin) ps).out) f.packets
          ∙ (ap (λ (c : Course). c.out) (run-append origin (begun origin) (packets_of (limits origin) b) f.tail)
          ∙ (g.1 ∙ ap (λ x. x ++ g.0) (sym (course_out origin b))))),
    )

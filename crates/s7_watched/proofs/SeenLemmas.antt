-- The lines of a watcher's results.
use Rattle.std.proofs.Common.{◌≡◌, ◌≢◌, ◌∙◌, ℕ, Bool, true, false, cond, eqb, List, [], ◌∷◌, ◌++◌, drop, take, refl, ap, sym, subst}
use Rattle.std.specs.Prelude.{Option, if◌then◌else◌, ◌==◌}
use Rattle.std.proofs.lemmas.Bool.{eqb-true}
use Rattle.std.proofs.lemmas.List.{append_assoc}
use Rattle.s7_dialogue.specs.declared.job.Job.{Job}
use Rattle.s7_dialogue.specs.declared.job.Job.TheVariants as job
use Rattle.s7_dialogue.specs.declared.job.JobResult.{JobResult}
use Rattle.s7_plant.specs.State.{State}
use Rattle.s7_session.specs.Books.{History}
use Rattle.s7_split.specs.Groups.{groups_of}
use Rattle.s7_rig.specs.Shown.{ClientTold}
use Rattle.s7_rig.specs.Split.{AllStand, GroupedRead, ReadStands, Rise, StandsAtPlaces}
use Rattle.s7_text.specs.Lines.{Text}
use Rattle.s7_symbol.specs.declared.tag.Tag.{Tag}
use Rattle.s7_watch.specs.Samples.{Sample, items_of, samples_in}
use Rattle.s7_watch.specs.Looks.{Look, job_of, jobs_of, looks}
use Rattle.s7_watch.specs.Lines.{failed_line, look_lines, nothing_seen, result_lines, sampled_lines, samples_of, with_samples}
use Rattle.s7_rig.specs.Followed.{Follow, all_of}
use Rattle.s7_rig.specs.Scripts.{left_behind, reads_many}
use Rattle.s7_watched.specs.Watched.{AreSampled, AreSampledAt, IsSampled, IsWatched, watch_script}
use Rattle.s7_watched.proofs.SampleLemmas.{groups_sampled, groups_whole}

-- nothing is dropped behind a read that came off
kept_behind : (told : JobResult) (rest : List Job) → told.code ≡ 0 → left_behind true told rest ≡ rest
kept_behind told rest good = by (reads_many told.job) refl
  where
    by : (b : Bool) → reads_many told.job ≡ b → left_behind true told rest ≡ rest
    by true is = rw (is, good) refl
    by false is = rw is refl

module _ (opening : State) (history : History) (link pdu : ℕ) where
  -- the samples of a read that came off
  look_sampled : (look : Look) (told : JobResult) (numbers : List ℕ) → told.job ≡ job_of look → told.code ≡ 0
      → StandsAtPlaces opening history link pdu told numbers
      → IsSampled opening history link pdu look.tags numbers (samples_of look told)
  look_sampled look told numbers is good stands =
      let items = items_of look.tags in
      let read : GroupedRead opening history numbers link items pdu told.octets (take told.count told.codes) =
      subst (λ j. ReadStands opening history link pdu j numbers told.octets (take told.count told.codes)) is (stands good) in
      subst (λ all. AreSampledAt opening history link (groups_of pdu false items) numbers
      (samples_in all (take told.count told.codes) told.octets)) (groups_whole pdu false items)
      (groups_sampled opening history link (groups_of pdu false items) numbers told.octets (take told.count told.codes) read.read)

  -- what results show
  record AreSeen (lasts : List (Option Sample)) (ahead : List Look) (results : List JobResult) (places : List (List ℕ)) : Type 0 where
    readings : List (List Sample)
    end : Text
    sampled : AreSampled opening history link pdu ahead results places readings end
    text : result_lines lasts ahead results ≡ sampled_lines lasts ahead readings ++ end

  results_seen : (ahead : List Look) (lasts : List (Option Sample)) (results : List JobResult) (places : List (List ℕ)) (left : List Job)
      → Follow true (jobs_of ahead ++ job.Disconnect ∷ []) results left
      → AllStand opening history link pdu results places → AreSeen lasts ahead results places
  unfolding Follow AllStand AreSampled result_lines sampled_lines
  results_seen [] lasts results places left follow stands =
      record { readings = []; end = []; sampled = (refl, refl); text = refl }
  results_seen (look ∷ ahead) lasts [] places left follow stands =
      record { readings = []; end = []; sampled = (refl, refl); text = refl }
  results_seen (look ∷ ahead) lasts (told ∷ results) [] left follow stands = absurd stands
  results_seen (look ∷ ahead) lasts (told ∷ results) (numbers ∷ places) left follow stands =
      by (eqb told.code 0) refl
      (λ next. results_seen ahead (with_samples lasts look.first (samples_of look told)) results places left next stands.1)
    where
      by : (b : Bool) → eqb told.code 0 ≡ b
          → (Follow true (jobs_of ahead ++ job.Disconnect ∷ []) results left
          → AreSeen (with_samples lasts look.first (samples_of look told)) ahead results places)
          → AreSeen lasts (look ∷ ahead) (told ∷ results) (numbers ∷ places)
      by true is later =
          let good = eqb-true told.code 0 is in
          let script = jobs_of ahead ++ job.Disconnect ∷ [] in
          let samples = samples_of look told in
          let rest = later (subst (λ jobs. Follow true jobs results left) (kept_behind told script good) follow.1) in
          record {
            readings = samples ∷ rest.readings;
            end = rest.end;
            sampled = (good, look_sampled look told numbers follow.0 good stands.0, rest.sampled);
            text = rw is (ap (λ t. look_lines look lasts samples ++ t) rest.text
                ∙ sym (append_assoc (look_lines look lasts samples)
                (sampled_lines (with_samples lasts look.first samples) ahead rest.readings) rest.end));
          }
      by false is later = record {
        readings = [];
        end = failed_line look.round told.code;
        sampled = (λ good. absurd (cc (sym is ∙ ap (λ n. eqb n 0) good)), refl);
        text = rw is refl;
      }

  -- nothing was read
  none_seen : (ahead : List Look) (lasts : List (Option Sample)) (places : List (List ℕ)) → AreSeen lasts ahead [] places
  unfolding AreSampled result_lines sampled_lines
  none_seen [] lasts places = record { readings = []; end = []; sampled = (refl, refl); text = refl }
  none_seen (look ∷ ahead) lasts places = record { readings = []; end = []; sampled = (refl, refl); text = refl }

-- nothing is dropped behind a connect
behind_connect : (told : JobResult) (rest : List Job) → told.job ≡ job.Connect → left_behind true told rest ≡ rest
behind_connect told rest is = let none : reads_many told.job ≡ false = ap reads_many is in rw none refl

-- the same behind the connect
pub watch_seen : (opening : State) (history : History) (pdu : ℕ) (tags : List Tag) (rounds : ℕ) (link : ℕ) (results : List JobResult)
    (places : List (List ℕ)) (left : List Job)
    → Follow true (watch_script tags rounds).jobs results left → AllStand opening history link pdu results places
    → Rise (all_of places)
    → IsWatched opening history pdu tags rounds (record { link = link; results = results; places = places })
    (result_lines (nothing_seen tags) (looks tags rounds) (drop 1 results))
unfolding Follow AllStand
watch_seen opening history pdu tags rounds link [] places left follow stands rise =
    let seen = none_seen opening history link pdu (looks tags rounds) (nothing_seen tags) (drop 1 places) in
    record { readings = seen.readings; end = seen.end; sampled = seen.sampled; text_is = seen.text; rise = rise }
watch_seen opening history pdu tags rounds link (told ∷ results) [] left follow stands rise = absurd stands
watch_seen opening history pdu tags rounds link (told ∷ results) (numbers ∷ places) left follow stands rise =
    let script = jobs_of (looks tags rounds) ++ job.Disconnect ∷ [] in
    let seen = results_seen opening history link pdu (looks tags rounds) (nothing_seen tags) results places left
    (subst (λ jobs. Follow true jobs results left) (behind_connect told script follow.0) follow.1) stands.1 in
    record { readings = seen.readings; end = seen.end; sampled = seen.sampled; text_is = seen.text; rise = rise }

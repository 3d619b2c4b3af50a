use Rattle.std.proofs.Common.{All, ap, refl, subst, sym, codes, Some, map, ◌≡◌, ◌∙◌, ◌*◌, ◌<◌}
use Rattle.std.specs.Prelude.{option_and_then, option_map}
use Rattle.clap.specs.Words.{is_simple_and_free}
use Rattle.s7_args.specs.Fields.{areas}
use Rattle.s7_args.specs.Tool.{ToolTold, client_count, lacks_watch, rig, rig_line, rig_of, rig_with, rounds, scripts, tags, turns, turns_or_none, watch}
use Rattle.s7_args.proofs.Commands.{accepted, refused, text_or_is, text_read, texts_read}
use Rattle.s7_args.proofs.Lines.{rig_is}
use Rattle.s7_args.proofs.RunLemmas.{seed_is, steps_is, rig_pdu_is, rig_journal_is, rig_jobs_is, rounds_given, rounds_is}
use Rattle.s7_args.proofs.RigLemmas.{actors_are, no_turns, no_watch, one_script, paths_of, rig_told, same_length, texts_or_none, too_many}
use Rattle.s7_args.proofs.rig.read_rig.Goals as goal

pub returns-in_default : goal.returns-in_default
returns-in_default c =
    let made = c.in_ok-rig_command.ensures in
    let fails = c.try_get_matches_from.ensures.kinds (ap is_simple_and_free made ∙ rig_is.is_free) in
    let wrong = rw c.in_default.is at c.in_ok-matches.ensures.none in
    sym (ap (option_and_then rig_of) (refused (codes "rig") rig_line rig_is _ _ _ made fails wrong))

pub returns-then-scripts-gt-MOST_SCRIPTS : goal.returns-then-scripts-gt-MOST_SCRIPTS
returns-then-scripts-gt-MOST_SCRIPTS c =
    let made = c.in_ok-rig_command.ensures in
    let fails = c.try_get_matches_from.ensures.kinds (ap is_simple_and_free made ∙ rig_is.is_free) in
    let is_ok = rw c.in-Some.is at c.in_ok-matches.ensures.some in
    let m = c.in-Some.matches in
    let read = accepted (codes "rig") rig_line rig_is _ _ _ m is_ok made fails c.try_get_matches_from.ensures.matches in
    let paths = texts_or_none c.get_raw.result _ c.unwrap_or-scripts.result _ c.unwrap_or-scripts.ensures refl
    (texts_read (codes "rig") rig_line rig_is _ m read scripts.name c.get_raw.result c.get_raw.ensures) in
    let more = c.if-scripts-gt-MOST_SCRIPTS.true in
    let count = same_length c.unwrap_or-scripts.result.now read.given paths in
    too_many read.given (rw (← count) more) ∙ sym (ap (option_and_then rig_of) read.by_line)

pub returns-then-lacks_watch : goal.returns-then-lacks_watch
returns-then-lacks_watch c =
    let made = c.in_ok-rig_command.ensures in
    let fails = c.try_get_matches_from.ensures.kinds (ap is_simple_and_free made ∙ rig_is.is_free) in
    let is_ok = rw c.in-Some.is at c.in_ok-matches.ensures.some in
    let m = c.in-Some.matches in
    let read = accepted (codes "rig") rig_line rig_is _ _ _ m is_ok made fails c.try_get_matches_from.ensures.matches in
    let watch_is = text_read (codes "rig") rig_line rig_is _ m read watch.name c.get_str-watch.result c.get_str-watch.ensures in
    let rounds_are = rounds_given _ m read c.get_one-rounds.result c.get_one-rounds.ensures.none c.get_one-rounds.ensures.value in
    let needs = c.lacks_watch.ensures ∙ λ i. lacks_watch (watch_is i) (rounds_are i) in
    no_watch read.given (sym c.if-lacks_watch.true ∙ needs) ∙ sym (ap (option_and_then rig_of) read.by_line)

pub returns-in_default-2 : goal.returns-in_default-2
returns-in_default-2 c =
    let made = c.in_ok-rig_command.ensures in
    let fails = c.try_get_matches_from.ensures.kinds (ap is_simple_and_free made ∙ rig_is.is_free) in
    let is_ok = rw c.in-Some.is at c.in_ok-matches.ensures.some in
    let m = c.in-Some.matches in
    let read = accepted (codes "rig") rig_line rig_is _ _ _ m is_ok made fails c.try_get_matches_from.ensures.matches in
    let paths = texts_or_none c.get_raw.result _ c.unwrap_or-scripts.result _ c.unwrap_or-scripts.ensures refl
    (texts_read (codes "rig") rig_line rig_is _ m read scripts.name c.get_raw.result c.get_raw.ensures) in
    let count = same_length c.unwrap_or-scripts.result.now read.given paths in
    let given = text_read (codes "rig") rig_line rig_is _ m read turns.name c.get_str.result c.get_str.ensures in
    let watch_is = text_read (codes "rig") rig_line rig_is _ m read watch.name c.get_str-watch.result c.get_str-watch.ensures in
    let acting = ap (λ n. 2 * n) c.client_count-actors.ensures ∙ actors_are _ c.get_str-watch.result read.given count watch_is in
    let told : option_map (λ v. v.items) c.in_ok-turns.field-0 ≡ turns_or_none (2 * c.client_count-actors.result) (option_map (λ s. s.now) c.get_str.result) = c.in_ok-turns.ensures.told in
    let none = rw c.in_default-2.is at told in
    no_turns read.given (none ∙ λ i. turns_or_none (acting i) (given i)) ∙ sym (ap (option_and_then rig_of) read.by_line)

pub invariant_of-rig : goal.invariant_of-rig
invariant_of-rig c =
    let made = c.in_ok-rig_command.ensures in
    let fails = c.try_get_matches_from.ensures.kinds (ap is_simple_and_free made ∙ rig_is.is_free) in
    let is_ok = rw c.in-Some.is at c.in_ok-matches.ensures.some in
    let m = c.in-Some.matches in
    let read = accepted (codes "rig") rig_line rig_is _ _ _ m is_ok made fails c.try_get_matches_from.ensures.matches in
    let paths = texts_or_none c.get_raw.result _ c.unwrap_or-scripts.result _ c.unwrap_or-scripts.ensures refl
    (texts_read (codes "rig") rig_line rig_is _ m read scripts.name c.get_raw.result c.get_raw.ensures) in
    let count = same_length c.unwrap_or-scripts.result.now read.given paths in
    let one = one_script read.given read.required in
    let acting = rw c.in-Some-2.is at c.in_ok-turns.ensures.actors in
    let long = c.in_ok-to_vec.ensures.len in
    let most = c.if-scripts-gt-MOST_SCRIPTS.false in
    let steps_read = steps_is _ m read c.get_one-2.result _ c.unwrap_or-3.ensures c.get_one-2.ensures.none c.get_one-2.ensures.value in
    let pdu_read = rig_pdu_is _ m read c.get_one-3.result _ c.unwrap_or-4.ensures c.get_one-3.ensures.none c.get_one-3.ensures.value in
    let journal_read = rig_journal_is _ m read c.get_one-4.result _ c.unwrap_or-5.ensures c.get_one-4.ensures.none c.get_one-4.ensures.value in
    let jobs_read = rig_jobs_is _ m read c.get_one-5.result _ c.unwrap_or-6.ensures c.get_one-5.ensures.none c.get_one-5.ensures.value in
    let rounds_read = rounds_is _ m read c.get_one-rounds.result _ c.unwrap_or-7.ensures c.get_one-rounds.ensures.none c.get_one-rounds.ensures.value in
    record {
      least_scripts = rw (long, count) one;
      most_scripts = rw long most;
      actors = subst (λ n. All (λ turn. turn < 2 * n) c.in-Some-2.turns.items) (c.client_count-actors.ensures ∙ ap (λ n. client_count n c.get_str-watch.result) (sym long)) acting;
      most_steps = steps_read.most;
      least_pdu = pdu_read.least;
      most_pdu = pdu_read.most;
      least_journal = journal_read.least;
      most_journal = journal_read.most;
      least_jobs = jobs_read.least;
      most_jobs = jobs_read.most;
      least_rounds = rounds_read.least;
      most_rounds = rounds_read.most;
    }

pub returns : goal.returns
returns c =
    let made = c.in_ok-rig_command.ensures in
    let fails = c.try_get_matches_from.ensures.kinds (ap is_simple_and_free made ∙ rig_is.is_free) in
    let is_ok = rw c.in-Some.is at c.in_ok-matches.ensures.some in
    let m = c.in-Some.matches in
    let read = accepted (codes "rig") rig_line rig_is _ _ _ m is_ok made fails c.try_get_matches_from.ensures.matches in
    let paths = texts_or_none c.get_raw.result _ c.unwrap_or-scripts.result _ c.unwrap_or-scripts.ensures refl
    (texts_read (codes "rig") rig_line rig_is _ m read scripts.name c.get_raw.result c.get_raw.ensures) in
    let count = same_length c.unwrap_or-scripts.result.now read.given paths in
    let given = text_read (codes "rig") rig_line rig_is _ m read turns.name c.get_str.result c.get_str.ensures in
    let watch_is = text_read (codes "rig") rig_line rig_is _ m read watch.name c.get_str-watch.result c.get_str-watch.ensures in
    let acting = ap (λ n. 2 * n) c.client_count-actors.ensures ∙ actors_are _ c.get_str-watch.result read.given count watch_is in
    let told : option_map (λ v. v.items) c.in_ok-turns.field-0 ≡ turns_or_none (2 * c.client_count-actors.result) (option_map (λ s. s.now) c.get_str.result) = c.in_ok-turns.ensures.told in
    let order = rw c.in-Some-2.is at told in
    let most = c.if-scripts-gt-MOST_SCRIPTS.false in
    let rounds_are = rounds_given _ m read c.get_one-rounds.result c.get_one-rounds.ensures.none c.get_one-rounds.ensures.value in
    let needs = c.lacks_watch.ensures ∙ λ i. lacks_watch (watch_is i) (rounds_are i) in
    let areas_is = text_or_is c.get_str-2.result _ c.unwrap_or.result _ _ c.unwrap_or.ensures
    (text_read (codes "rig") rig_line rig_is _ m read areas.name c.get_str-2.result c.get_str-2.ensures) refl in
    let seed_read = seed_is _ m read c.get_one.result _ c.unwrap_or-2.ensures c.get_one.ensures.none c.get_one.ensures.value in
    let steps_read = steps_is _ m read c.get_one-2.result _ c.unwrap_or-3.ensures c.get_one-2.ensures.none c.get_one-2.ensures.value in
    let pdu_read = rig_pdu_is _ m read c.get_one-3.result _ c.unwrap_or-4.ensures c.get_one-3.ensures.none c.get_one-3.ensures.value in
    let journal_read = rig_journal_is _ m read c.get_one-4.result _ c.unwrap_or-5.ensures c.get_one-4.ensures.none c.get_one-4.ensures.value in
    let jobs_read = rig_jobs_is _ m read c.get_one-5.result _ c.unwrap_or-6.ensures c.get_one-5.ensures.none c.get_one-5.ensures.value in
    let rounds_read = rounds_is _ m read c.get_one-rounds.result _ c.unwrap_or-7.ensures c.get_one-rounds.ensures.none c.get_one-rounds.ensures.value in
    let tags_are = text_read (codes "rig") rig_line rig_is _ m read tags.name c.get_str-3.result c.get_str-3.ensures in
    let copied = c.in_ok-to_vec.ensures.items_if_clones_equal (λ x y same. same) in
    let scripts_are = ap (map (λ s. s.now)) copied ∙ paths in
    let told_is : ◌≡◌ {A = ToolTold} _ (rig_with read.given (paths_of read.given) c.in-Some-2.turns.items) = λ i. rig (record {
      areas = areas_is i;
      scripts = scripts_are i;
      turns = c.in-Some-2.turns.items;
      seed = seed_read.same i;
      steps = steps_read.same i;
      pdu = pdu_read.same i;
      journal = journal_read.same i;
      jobs = jobs_read.same i;
      tags = tags_are i;
      watch = watch_is i;
      rounds = rounds_read.same i;
    }) in
    ap Some told_is ∙ rig_told read.given c.in-Some-2.turns.items (rw (← count) most) (sym c.if-lacks_watch.false ∙ needs) (order ∙ λ i. turns_or_none (acting i) (given i)) ∙ sym (ap (option_and_then rig_of) read.by_line)

use Rattle.std.proofs.Common.{◌∙◌, Bor, Global, List, Vec, ap, inl, map, option_map, refl, subst, sym}
use Rattle.std.specs.Prelude.{◌&&◌, slice_get}
use Rattle.std.specs.List.{AllByRecursion}
use Rattle.s7_args.specs.Shown.{rig_told_of}
use Rattle.s7_rig.specs.Scripts.{BeginsWell}
use Rattle.s7_rig.specs.declared.end.RigClient.{RigClient}
use Rattle.s7_symbol.specs.declared.tag.Tag.{Tag}
use Rattle.s7_tool_main.specs.declared.head.Head.{Head}
use Rattle.s7_rig.specs.Shown.{client_told, end_told}
use Rattle.s7_rig.proofs.TellsLemmas.{any_err, ran_wanting}
use Rattle.s7_tool_main.specs.RigText.{are_good_by, heads_of, is_watch_good, text_by}
use Rattle.s7_tool_main.specs.Rigging.{JobsWanting, RanJobs, rig_scripts}
use Rattle.s7_tool_main.specs.Taking.{AreWatched}
use Rattle.s7_tool_main.proofs.WatchLemmas.{are_watched, both_given, count_is, heads_count, rig_begins, rig_good_is}
use Rattle.s7_tool_main.proofs.WatchLemmas.{rig_text_is, some_lent, watcher_here}
use Rattle.s7_tool_main.proofs.rigs.rigging.run_scripts.Goals as goal

pub returns-in_err-heads-clause-told_wanting : goal.returns-in_err-heads-clause-told_wanting
returns-in_err-heads-clause-told_wanting g c = any_err _ (inl refl)

pub rig_scripts-requires : goal.rig_scripts-requires
rig_scripts-requires g c =
    some_lent c.as_ref-watched.result c.args.watched c.as_ref-watched.ensures.value c.requires.some

pub returns-in_err-clients-clause-told_wanting : goal.returns-in_err-clients-clause-told_wanting
returns-in_err-clients-clause-told_wanting g c = any_err _ (inl refl)

pub run_clients-requires-clause-len : goal.run_clients-requires-clause-len
run_clients-requires-clause-len g c =
    c.in_ok-clients.ensures.len
    ∙ count_is _ _ c.as_ref-watched.result c.args.words.now.watch c.requires.len
    (both_given c.as_ref-watched.result c.args.watched c.as_ref-watched.ensures.value ∙ c.requires.watch)

pub run_clients-requires-clause-connects : goal.run_clients-requires-clause-connects
run_clients-requires-clause-connects g c =
    let rounds = c.args.words.now.rounds in
    let scripts = c.args.scripts.items in
    let are = c.in_ok-clients.ensures.scripts ∙ ap (λ w. rig_scripts scripts w rounds) c.as_ref-watched.ensures.value in
    subst (AllByRecursion BeginsWell) (sym are) (rig_begins scripts c.args.watched rounds c.requires.connects)

pub returns-in_err-end-clause-told_wanting : goal.returns-in_err-end-clause-told_wanting
returns-in_err-end-clause-told_wanting g c =
    let rounds = c.args.words.now.rounds in
    let scripts = c.args.scripts.items in
    let are = c.in_ok-clients.ensures.scripts ∙ ap (λ w. rig_scripts scripts w rounds) c.as_ref-watched.ensures.value in
    any_err _ (subst (λ all. JobsWanting (rig_told_of c.args.words.now) c.args.areas all
    (option_map g.C.Completion.told c.args.done.now) (option_map g.C.Completion.told c.run_clients.new.done))
    are c.in_err-end.ensures.told_wanting)

pub watch_text-requires-clause-some : goal.watch_text-requires-clause-some
watch_text-requires-clause-some g c =
    some_lent c.as_ref-watched.result c.args.watched c.as_ref-watched.ensures.value c.requires.some

pub watch_text-requires-clause-taken : goal.watch_text-requires-clause-taken
watch_text-requires-clause-taken g c =
    let rounds = c.args.words.now.rounds in
    let scripts = c.args.scripts.items in
    let end = end_told c.in_ok-end.end in
    let lent = c.as_ref-watched.ensures.value in
    let items : Vec Head Global → List Head = λ v. v.items in
    let heads_are = c.in_ok-heads.ensures ∙ ap (map heads_of) c.as_slice.ensures.value in
    let watcher = option_map (λ (x : Bor RigClient). client_told x.now) c.watcher_of-watcher.result in
    let count =
    c.len.ensures ∙ c.in_ok-heads.heads.ok.0 ∙ heads_count c.in_ok-heads.heads.items scripts heads_are in
    let here =
    watcher_here end.clients c.len.result scripts watcher (c.watcher_of-watcher.ensures
    ∙ ap (λ cs. slice_get (map client_told cs) c.len.result) c.as_slice-2.ensures.value) count in
    let are = c.in_ok-clients.ensures.scripts ∙ ap (λ w. rig_scripts scripts w rounds) lent in
    let ran = subst (λ all. RanJobs (rig_told_of c.args.words.now) c.args.areas all end) are c.in_ok-end.ensures.ran in
    subst (λ w. AreWatched w rounds watcher) (sym lent)
    (subst (AreWatched c.args.watched rounds) (sym here)
    (are_watched c.rigs_follow.ensures _ _ _ _ end scripts c.args.watched rounds ran c.in_ok-end.ensures.printable))

pub returns-in_err-lines-clause-told_wanting : goal.returns-in_err-lines-clause-told_wanting
returns-in_err-lines-clause-told_wanting g c =
    let rounds = c.args.words.now.rounds in
    let scripts = c.args.scripts.items in
    let are = c.in_ok-clients.ensures.scripts ∙ ap (λ w. rig_scripts scripts w rounds) c.as_ref-watched.ensures.value in
    any_err _ (ran_wanting _ _ _ _ _ _ _ _
    (subst (λ all. RanJobs (rig_told_of c.args.words.now) c.args.areas all (end_told c.in_ok-end.end)) are
    c.in_ok-end.ensures.ran) c.in_ok-end.ensures.told)

pub returns-in_err-text-clause-told_wanting : goal.returns-in_err-text-clause-told_wanting
returns-in_err-text-clause-told_wanting g c =
    let rounds = c.args.words.now.rounds in
    let scripts = c.args.scripts.items in
    let are = c.in_ok-clients.ensures.scripts ∙ ap (λ w. rig_scripts scripts w rounds) c.as_ref-watched.ensures.value in
    any_err _ (ran_wanting _ _ _ _ _ _ _ _
    (subst (λ all. RanJobs (rig_told_of c.args.words.now) c.args.areas all (end_told c.in_ok-end.end)) are
    c.in_ok-end.ensures.ran) c.in_ok-end.ensures.told)

pub returns-clause-ran : goal.returns-clause-ran
returns-clause-ran g c =
    let rounds = c.args.words.now.rounds in
    let scripts = c.args.scripts.items in
    let are = c.in_ok-clients.ensures.scripts ∙ ap (λ w. rig_scripts scripts w rounds) c.as_ref-watched.ensures.value in
    subst (λ all. RanJobs (rig_told_of c.args.words.now) c.args.areas all (end_told c.in_ok-end.end)) are
    c.in_ok-end.ensures.ran

pub returns-clause-text : goal.returns-clause-text
returns-clause-text g c =
    let rounds = c.args.words.now.rounds in
    let scripts = c.args.scripts.items in
    let end = end_told c.in_ok-end.end in
    let lent = c.as_ref-watched.ensures.value in
    let items : Vec Head Global → List Head = λ v. v.items in
    let heads_are = c.in_ok-heads.ensures ∙ ap (map heads_of) c.as_slice.ensures.value in
    let watcher = option_map (λ (x : Bor RigClient). client_told x.now) c.watcher_of-watcher.result in
    let count =
    c.len.ensures ∙ c.in_ok-heads.heads.ok.0 ∙ heads_count c.in_ok-heads.heads.items scripts heads_are in
    let here =
    watcher_here end.clients c.len.result scripts watcher (c.watcher_of-watcher.ensures
    ∙ ap (λ cs. slice_get (map client_told cs) c.len.result) c.as_slice-2.ensures.value) count in
    let text =
    c.in_ok-text.ensures
    ∙ λ i. text_by (map items (c.as_slice-3.ensures.value i)) (c.as_slice-4.ensures.value i) end in
    rig_text_is (map items c.in_ok-heads.heads.items) scripts _ c.args.watched rounds watcher end
    c.in_ok-lines.lines.items _ heads_are lent here c.in_ok-lines.ensures text

pub returns-clause-good : goal.returns-clause-good
returns-clause-good g c =
    let rounds = c.args.words.now.rounds in
    let scripts = c.args.scripts.items in
    let end = end_told c.in_ok-end.end in
    let lent = c.as_ref-watched.ensures.value in
    let items : Vec Head Global → List Head = λ v. v.items in
    let heads_are = c.in_ok-heads.ensures ∙ ap (map heads_of) c.as_slice.ensures.value in
    let watcher = option_map (λ (x : Bor RigClient). client_told x.now) c.watcher_of-watcher.result in
    let count =
    c.len.ensures ∙ c.in_ok-heads.heads.ok.0 ∙ heads_count c.in_ok-heads.heads.items scripts heads_are in
    let here =
    watcher_here end.clients c.len.result scripts watcher (c.watcher_of-watcher.ensures
    ∙ ap (λ cs. slice_get (map client_told cs) c.len.result) c.as_slice-2.ensures.value) count in
    let clients =
    c.len-count.ensures ∙ c.in_ok-clients.ensures.len
    ∙ count_is _ _ c.as_ref-watched.result c.args.watched c.args.scripts.ok.0
    (both_given c.as_ref-watched.result c.args.watched lent) in
    let tags = option_map (λ (t : Bor (List Tag)). t.now) c.as_ref-watched.result in
    let good =
    c.is_rig_good-is_good.ensures
    ∙ λ i. are_good_by (map items (c.as_slice-5.ensures.value i)) c.len-count.result end.clients
    && is_watch_good tags watcher in
    rig_good_is (map items c.in_ok-heads.heads.items) scripts tags c.args.watched c.len-count.result watcher end.clients _
    heads_are lent here clients good

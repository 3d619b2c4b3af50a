use Rattle.s7_outer.specs.FilesShown.{FilesShown}
use Rattle.std.proofs.Common.{◌≡◌, ◌∙◌, ℕ, List, Bor, Option, inl, map, option_map, refl, subst, sym}
use Rattle.std.specs.Prelude.{Err, Ok}
use Rattle.s7_rig.specs.Shown.{end_told}
use Rattle.s7_script.specs.Loading.{Loads, NamedGives}
use Rattle.s7_script.specs.Naming.{naming}
use Rattle.s7_symbol.specs.declared.tag.Tag.{Tag}
use Rattle.s7_args.specs.Shown.{rig_told_of}
use Rattle.s7_tool_main.specs.Loading.{KeepsPaths, ReadsTags, ReadsWatch, StopsAtWatch}
use Rattle.s7_tool_main.specs.Report.{PrintsText}
use Rattle.s7_tool_main.specs.RigText.{rig_text}
use Rattle.s7_tool_main.specs.Scripts.{ReadsScripts, StopsAt}
use Rattle.s7_tool_main.proofs.ConnectsLemmas.{connect_first}
use Rattle.s7_tool_main.proofs.FileLemmas.{keeps_by_areas}
use Rattle.s7_tool_main.proofs.RanLemmas.{rig_unopened, rig_unread, rig_untagged, rig_unwatched, rigged}
use Rattle.s7_tool_main.proofs.ToldLemmas.{not_wanting, rig_wanting, told_nothing}
use Rattle.s7_tool_main.proofs.rigs.rigging.run_rigging.Goals as goal

pub returns-in-Err-clause-ended : goal.returns-in-Err-clause-ended
returns-in-Err-clause-ended g c =
    rig_untagged (rig_told_of c.args.words) (g.F.Files.shows c.args.files.now) (g.F.Files.shows c.load_tags.new.files)
    (g.O.Out.shows c.args.out.now) (g.O.Out.shows c.print_refusal-ended.new.out) c.in-Err.refused.path.now
    c.in-Err.refused.fault c.print_refusal-ended.result c.in-Err.ensures.err c.print_refusal-ended.ensures

pub returns-in-Err-load_watch-clause-ended : goal.returns-in-Err-load_watch-clause-ended
returns-in-Err-load_watch-clause-ended g c =
    let files = g.F.Files.shows in
    let told = rig_told_of c.args.words in
    let path = c.in-Err-load_watch.refused.path.now in
    let why = c.in-Err-load_watch.refused.fault in
    rig_unwatched told (files c.args.files.now) (files c.load_watch.new.files) (g.O.Out.shows c.args.out.now)
    (g.O.Out.shows c.print_refusal-ended-in-Err-load_watch.new.out) c.in-Ok.tags c.in-Ok.ensures.ok path why
    c.print_refusal-ended-in-Err-load_watch.result
    (subst (λ (f : FilesShown). StopsAtWatch told.watch f (files c.load_watch.new.files) path why)
    c.in-Ok.ensures.unchanged c.in-Err-load_watch.ensures.err) c.print_refusal-ended-in-Err-load_watch.ensures

pub returns-in-Err-load_areas-clause-ended : goal.returns-in-Err-load_areas-clause-ended
returns-in-Err-load_areas-clause-ended g c =
    let files = g.F.Files.shows in
    let told = rig_told_of c.args.words in
    let unmoved = c.in-Ok-load_watch.ensures.unchanged ∙ c.in-Ok.ensures.unchanged in
    let watching =
    subst (λ (f : FilesShown). ReadsWatch told.watch f (λ found. found ≡ c.in-Ok-load_watch.watched))
    c.in-Ok.ensures.unchanged c.in-Ok-load_watch.ensures.ok in
    let loads =
    subst (λ (f : FilesShown). Loads (naming told.areas) f (files c.load_areas.new.files) (Err c.in-Err-load_areas.fault))
    unmoved c.in-Err-load_areas.ensures in
    rig_unopened told (files c.args.files.now) (files c.load_areas.new.files) (g.O.Out.shows c.args.out.now)
    (g.O.Out.shows c.print_areas_refusal.new.out) c.in-Ok.tags c.in-Ok.ensures.ok c.in-Ok-load_watch.watched watching
    c.in-Err-load_areas.fault c.print_areas_refusal.result loads c.print_areas_refusal.ensures

pub returns-in-Err-load_scripts-clause-ended : goal.returns-in-Err-load_scripts-clause-ended
returns-in-Err-load_scripts-clause-ended g c =
    let files = g.F.Files.shows in
    let out = g.O.Out.shows in
    let told = rig_told_of c.args.words in
    let path = c.in-Err-load_scripts.refused.path.now in
    let why = c.in-Err-load_scripts.refused.fault in
    let unmoved = c.in-Ok-load_watch.ensures.unchanged ∙ c.in-Ok.ensures.unchanged in
    let unopened = c.load_areas.ensures.unfailed (λ e. cc (sym c.in-Ok-load_areas.is ∙ e)) in
    let watching =
    subst (λ (f : FilesShown). ReadsWatch told.watch f (λ found. found ≡ c.in-Ok-load_watch.watched))
    c.in-Ok.ensures.unchanged c.in-Ok-load_watch.ensures.ok in
    let opened =
    subst (λ (f : FilesShown). NamedGives (naming told.areas) f (Ok c.in-Ok-load_areas.areas)) unmoved
    c.in-Ok-load_areas.ensures.answers in
    let stops =
    subst (λ (ps : List (Bor (List ℕ))). StopsAt (option_map (λ (t : Bor (List Tag)). t.now) c.as_ref.result)
    (map (λ p. p.now) ps) (files c.load_areas.new.files) (files c.load_scripts.new.files) path why)
    c.as_slice.ensures.value c.in-Err-load_scripts.ensures.err in
    let known =
    subst (λ k. StopsAt k told.scripts (files c.load_areas.new.files) (files c.load_scripts.new.files) path why)
    c.as_ref.ensures.value stops in
    rig_unread told (files c.args.files.now) (files c.load_scripts.new.files) (out c.args.out.now)
    (out c.print_refusal-ended-in-Err-load_scripts.new.out) c.in-Ok.tags c.in-Ok.ensures.ok c.in-Ok-load_watch.watched
    watching c.in-Ok-load_areas.areas opened path why c.print_refusal-ended-in-Err-load_scripts.result
    (subst (λ (f : FilesShown). StopsAt c.in-Ok.tags told.scripts f (files c.load_scripts.new.files) path why)
    (unopened ∙ unmoved) known) c.print_refusal-ended-in-Err-load_scripts.ensures

pub run_scripts-requires-clause-connects : goal.run_scripts-requires-clause-connects
run_scripts-requires-clause-connects g c =
    connect_first c.scripts_keep_links.ensures _ _ (g.F.Files.shows c.load_areas.new.files)
    c.in-Ok-load_scripts.scripts.items c.in-Ok-load_scripts.ensures.ok

pub returns-in-Ok-run_scripts-clause-ended : goal.returns-in-Ok-run_scripts-clause-ended
returns-in-Ok-run_scripts-clause-ended g c =
    let files = g.F.Files.shows in
    let out = g.O.Out.shows in
    let told = rig_told_of c.args.words in
    let watched = c.in-Ok-load_watch.watched in
    let scripts = c.in-Ok-load_scripts.scripts.items in
    let rig = c.in-Ok-run_scripts.rigged in
    let from = out c.args.out.now in
    let to = out c.print_text-ended.new.out in
    let how = c.print_text-ended.result in
    let unmoved = c.in-Ok-load_watch.ensures.unchanged ∙ c.in-Ok.ensures.unchanged in
    let same = c.load_areas.ensures.unfailed (λ e. cc (sym c.in-Ok-load_areas.is ∙ e)) ∙ unmoved in
    let watching =
    subst (λ (f : FilesShown). ReadsWatch told.watch f (λ found. found ≡ watched)) c.in-Ok.ensures.unchanged
    c.in-Ok-load_watch.ensures.ok in
    let opened =
    subst (λ (f : FilesShown). NamedGives (naming told.areas) f (Ok c.in-Ok-load_areas.areas)) unmoved
    c.in-Ok-load_areas.ensures.answers in
    let read =
    subst (λ (ps : List (Bor (List ℕ))). ReadsScripts (option_map (λ (t : Bor (List Tag)). t.now) c.as_ref.result)
    (map (λ p. p.now) ps) (files c.load_areas.new.files) scripts) c.as_slice.ensures.value
    c.in-Ok-load_scripts.ensures.ok in
    let known =
    subst (λ k. ReadsScripts k told.scripts (files c.load_areas.new.files) scripts) c.as_ref.ensures.value read in
    let text = c.as_slice-in-Ok-run_scripts.ensures.value ∙ c.in-Ok-run_scripts.ensures.text in
    let printed =
    subst (λ b. PrintsText (rig_text scripts watched told.rounds (end_told rig.end)) b from to how)
    c.in-Ok-run_scripts.ensures.good (subst (λ t. PrintsText t rig.is_good from to how) text c.print_text-ended.ensures) in
    rigged told (files c.args.files.now) (files c.load_scripts.new.files) from to c.in-Ok.tags c.in-Ok.ensures.ok watched
    watching c.in-Ok-load_areas.areas opened c.rigs_follow.ensures c.rigs_show_watches.ensures
    scripts (subst (λ (f : FilesShown). ReadsScripts c.in-Ok.tags told.scripts f scripts) same known) rig.end
    c.in-Ok-run_scripts.ensures.ran how printed

pub returns-in-Err-load_watch-clause-paths : goal.returns-in-Err-load_watch-clause-paths
returns-in-Err-load_watch-clause-paths g c =
    let files = g.F.Files.shows in
    subst (λ (f : FilesShown). KeepsPaths f (files c.load_watch.new.files)) c.in-Ok.ensures.unchanged
    c.load_watch.ensures.paths

pub returns-in-Err-load_areas-clause-paths : goal.returns-in-Err-load_areas-clause-paths
returns-in-Err-load_areas-clause-paths g c =
    let files = g.F.Files.shows in
    subst (λ (f : FilesShown). KeepsPaths f (files c.load_areas.new.files))
    (c.in-Ok-load_watch.ensures.unchanged ∙ c.in-Ok.ensures.unchanged)
    (keeps_by_areas _ (files c.load_watch.new.files) (files c.load_areas.new.files) c.load_areas.result c.load_areas.ensures)

pub returns-in-Err-load_scripts-clause-paths : goal.returns-in-Err-load_scripts-clause-paths
returns-in-Err-load_scripts-clause-paths g c =
    let files = g.F.Files.shows in
    let unopened = c.load_areas.ensures.unfailed (λ e. cc (sym c.in-Ok-load_areas.is ∙ e)) in
    subst (λ (f : FilesShown). KeepsPaths f (files c.load_scripts.new.files))
    (unopened ∙ c.in-Ok-load_watch.ensures.unchanged ∙ c.in-Ok.ensures.unchanged)
    c.load_scripts.ensures.paths

pub returns-in-Err-clause-told : goal.returns-in-Err-clause-told
returns-in-Err-clause-told g c = λ other. told_nothing _

pub returns-in-Err-load_watch-clause-told : goal.returns-in-Err-load_watch-clause-told
returns-in-Err-load_watch-clause-told g c = λ other. told_nothing _

pub returns-in-Err-load_areas-clause-told : goal.returns-in-Err-load_areas-clause-told
returns-in-Err-load_areas-clause-told g c = λ other. told_nothing _

pub returns-in-Err-load_scripts-clause-told : goal.returns-in-Err-load_scripts-clause-told
returns-in-Err-load_scripts-clause-told g c = λ other. told_nothing _

pub returns-in-Ok-run_scripts-clause-told : goal.returns-in-Ok-run_scripts-clause-told
returns-in-Ok-run_scripts-clause-told g c = λ other. c.in-Ok-run_scripts.ensures.told

pub returns-in-Err-clause-told_wanting : goal.returns-in-Err-clause-told_wanting
returns-in-Err-clause-told_wanting g c = λ is. inl refl

pub returns-in-Err-load_watch-clause-told_wanting : goal.returns-in-Err-load_watch-clause-told_wanting
returns-in-Err-load_watch-clause-told_wanting g c = λ is. inl refl

pub returns-in-Err-load_areas-clause-told_wanting : goal.returns-in-Err-load_areas-clause-told_wanting
returns-in-Err-load_areas-clause-told_wanting g c = λ is. inl refl

pub returns-in-Err-load_scripts-clause-told_wanting : goal.returns-in-Err-load_scripts-clause-told_wanting
returns-in-Err-load_scripts-clause-told_wanting g c = λ is. inl refl

pub returns-in-Ok-run_scripts-clause-told_wanting : goal.returns-in-Ok-run_scripts-clause-told_wanting
returns-in-Ok-run_scripts-clause-told_wanting g c = λ is. absurd (not_wanting _ _ _ _ _ c.print_text-ended.ensures is)

pub returns-clause-told_wanting : goal.returns-clause-told_wanting
returns-clause-told_wanting g c = λ is.
    let files = g.F.Files.shows in
    let told = rig_told_of c.args.words in
    let watched = c.in-Ok-load_watch.watched in
    let scripts = c.in-Ok-load_scripts.scripts.items in
    let unmoved = c.in-Ok-load_watch.ensures.unchanged ∙ c.in-Ok.ensures.unchanged in
    let same = c.load_areas.ensures.unfailed (λ e. cc (sym c.in-Ok-load_areas.is ∙ e)) ∙ unmoved in
    let watching =
    subst (λ (f : FilesShown). ReadsWatch told.watch f (λ found. found ≡ watched)) c.in-Ok.ensures.unchanged
    c.in-Ok-load_watch.ensures.ok in
    let opened =
    subst (λ (f : FilesShown). NamedGives (naming told.areas) f (Ok c.in-Ok-load_areas.areas)) unmoved
    c.in-Ok-load_areas.ensures.answers in
    let read =
    subst (λ (ps : List (Bor (List ℕ))). ReadsScripts (option_map (λ (t : Bor (List Tag)). t.now) c.as_ref.result)
    (map (λ p. p.now) ps) (files c.load_areas.new.files) scripts) c.as_slice.ensures.value
    c.in-Ok-load_scripts.ensures.ok in
    let known =
    subst (λ k. ReadsScripts k told.scripts (files c.load_areas.new.files) scripts) c.as_ref.ensures.value read in
    rig_wanting told (files c.args.files.now) c.in-Ok.tags c.in-Ok-load_areas.areas watched scripts _ _ c.in-Ok.ensures.ok
    watching opened (subst (λ (f : FilesShown). ReadsScripts c.in-Ok.tags told.scripts f scripts) same known)
    c.in-Err-run_scripts.ensures.told_wanting

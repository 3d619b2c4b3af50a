use Rattle.std.proofs.Common.{◌≡◌, subst}
use Rattle.s7_outer.specs.FilesShown.{FilesShown}
use Rattle.s7_args.specs.Shown.{run_told_of}
use Rattle.s7_tool_main.specs.Loading.{IsUnloaded, ReadsScript, script_reader}
use Rattle.s7_tool_main.specs.Ran.{LinesEnd}
use Rattle.s7_tool_main.proofs.EndLemmas.{run_ended, run_unread, run_untagged}
use Rattle.s7_tool_main.proofs.scripts.script_run.run_script.Goals as goal

pub returns-in-Err-clause-ended : goal.returns-in-Err-clause-ended
returns-in-Err-clause-ended g c =
    run_untagged g.L.Link.shows (run_told_of c.args.words) (g.F.Files.shows c.args.files.now)
    (g.F.Files.shows c.load_tags.new.files) (g.K.Dial.shows c.args.dial.now) (g.K.Dial.shows c.args.dial.now)
    (g.O.Out.shows c.args.out.now) (g.O.Out.shows c.print_refusal-ended.new.out) c.in-Err.refused.path.now
    c.in-Err.refused.fault c.print_refusal-ended.result c.in-Err.ensures.err c.print_refusal-ended.ensures

pub returns-clause-ended : goal.returns-clause-ended
returns-clause-ended g c =
    let files = g.F.Files.shows in
    let told = run_told_of c.args.words in
    let why = c.in-Err-load_script.fault in
    let unloaded =
    subst (λ k. IsUnloaded (script_reader k) told.script (files c.load_tags.new.files) (files c.load_script.new.files) why)
    c.as_ref.ensures.value c.in-Err-load_script.ensures.err in
    run_unread g.L.Link.shows told (files c.args.files.now) (files c.load_script.new.files) (g.K.Dial.shows c.args.dial.now)
    (g.K.Dial.shows c.args.dial.now) (g.O.Out.shows c.args.out.now) (g.O.Out.shows c.print_refusal-ended-in-Err-load_script.new.out)
    c.in-Ok.tags c.in-Ok.ensures.ok why c.print_refusal-ended-in-Err-load_script.result
    (subst (λ (f : FilesShown). IsUnloaded (script_reader c.in-Ok.tags) told.script f (files c.load_script.new.files) why)
    c.in-Ok.ensures.unchanged unloaded) c.print_refusal-ended-in-Err-load_script.ensures

pub returns-in-Ok-load_script-clause-ended : goal.returns-in-Ok-load_script-clause-ended
returns-in-Ok-load_script-clause-ended g c =
    let files = g.F.Files.shows in
    let told = run_told_of c.args.words in
    let script = c.in-Ok-load_script.script in
    let read =
    subst (λ k. ReadsScript k told.script (files c.load_tags.new.files) (λ found. found ≡ script))
    c.as_ref.ensures.value c.in-Ok-load_script.ensures.ok in
    run_ended g.L.Link.shows told (files c.args.files.now) (files c.load_script.new.files) (g.K.Dial.shows c.args.dial.now)
    (g.K.Dial.shows c.run_lines.new.dial) (g.O.Out.shows c.args.out.now) (g.O.Out.shows c.run_lines.new.out) c.in-Ok.tags
    c.in-Ok.ensures.ok script
    (subst (λ (f : FilesShown). ReadsScript c.in-Ok.tags told.script f (λ found. found ≡ script)) c.in-Ok.ensures.unchanged
    read) c.run_lines.result.1 c.run_lines.result.0
    (subst (λ ls. LinesEnd g.L.Link.shows told ls (g.K.Dial.shows c.args.dial.now) (g.K.Dial.shows c.run_lines.new.dial)
    (g.O.Out.shows c.args.out.now) (g.O.Out.shows c.run_lines.new.out) c.run_lines.result.1 c.run_lines.result.0)
    c.into_vec.ensures c.run_lines.ensures.ended)

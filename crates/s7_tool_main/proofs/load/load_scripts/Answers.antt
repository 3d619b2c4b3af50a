use Rattle.s7_outer.specs.FilesShown.{FilesShown}
use Rattle.std.proofs.Common.{◌∙◌, ◌+◌, ◌∷◌, List, ℕ, Bor, [], refl, ap, sym, subst, arith, drop, map, option_map, take, slice_index_or}
use Rattle.std.proofs.lemmas.List.{map-append, take_more}
use Rattle.s7_tool_main.specs.Scripts.{ReadsScripts}
use Rattle.s7_symbol.specs.declared.tag.Tag.{Tag}
use Rattle.s7_tool_main.specs.Loading.{IsUnloaded, KeepsPaths, script_reader}
use Rattle.s7_tool_main.specs.Scripts.{AddsScript}
use Rattle.s7_tool_main.proofs.FileLemmas.{map_split, reads_more, reads_none}
use Rattle.s7_tool_main.proofs.load.load_scripts.Goals as goal

pub loop-path-init : goal.loop-path-init
loop-path-init g c = record {
  read = subst (ReadsScripts (option_map (λ (t : Bor (List Tag)). t.now) c.args.known) [] (g.F.Files.shows c.args.files.now))
      (sym c.new-scripts.ensures.items) (reads_none _ _);
  len = c.new-scripts.ensures.len;
  same = refl;
}

pub returns-in-Err-clause-err : goal.returns-in-Err-clause-err
returns-in-Err-clause-err g c =
    let at = c.loop-path in
    let known = option_map (λ (t : Bor (List Tag)). t.now) c.args.known in
    let d : Bor (List ℕ) = record { ref_ptr = (0, 0); now = [] } in
    let p = slice_index_or c.args.paths.now at.path-index d in
    record {
      next = record {
        before = map (λ q. q.now) (take at.path-index c.args.paths.now);
        after = map (λ q. q.now) (drop (at.path-index + 1) c.args.paths.now);
        split = map_split (λ (q : Bor (List ℕ)). q.now) c.args.paths.now at.path-index d c.loop-path-test.true;
        scripts = at.scripts.items;
        read = at.invariant.read;
      };
      unloaded = subst (λ (f : FilesShown). IsUnloaded (script_reader known) p.now f (g.F.Files.shows c.next_script.new.files)
          c.in-Err.fault) at.invariant.same c.in-Err.ensures.err;
    }

pub returns-in-Err-clause-paths : goal.returns-in-Err-clause-paths
returns-in-Err-clause-paths g c =
    subst (λ (f : FilesShown). KeepsPaths f (g.F.Files.shows c.next_script.new.files)) c.loop-path.invariant.same
    c.next_script.ensures.paths

pub loop-path-preserved : goal.loop-path-preserved
loop-path-preserved g c =
    let at = c.loop-path in
    let known = option_map (λ (t : Bor (List Tag)). t.now) c.args.known in
    let d : Bor (List ℕ) = record { ref_ptr = (0, 0); now = [] } in
    let p = slice_index_or c.args.paths.now at.path-index d in
    let more = take_more c.args.paths.now at.path-index d c.loop-path-test.true in
    record {
      read = subst (λ ps. ReadsScripts known ps (g.F.Files.shows c.args.files.now) c.next_script.new.scripts.items)
          (sym (ap (map (λ q. q.now)) more ∙ map-append (λ q. q.now) (take at.path-index c.args.paths.now) (p ∷ [])))
          (reads_more known _ p.now at.scripts.items c.next_script.new.scripts.items (g.F.Files.shows c.args.files.now)
          at.invariant.read (subst (λ (f : FilesShown). AddsScript known p.now f at.scripts.items c.next_script.new.scripts.items) at.invariant.same
          c.in-Ok.ensures.ok));
      len = let was = at.invariant.len in let now = c.in-Ok.ensures.len in omega (arith, was, now);
      same = c.in-Ok.ensures.unchanged ∙ at.invariant.same;
    }

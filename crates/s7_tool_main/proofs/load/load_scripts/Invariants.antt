use Rattle.std.proofs.Common.{◌≡◌, take, map, option_map, vec_len}
use Rattle.s7_tool_main.specs.Scripts.{ReadsScripts}
use Rattle.s7_tool_main.proofs.load.load_scripts.Given as goal

abbrev pub invariant-loop-path : goal.invariant-loop-path
invariant-loop-path g l = record {
  read : ReadsScripts (option_map (λ t. t.now) l.known) (map (λ p. p.now) (take l.path-index l.paths))
      (g.F.Files.shows l.initial.files) l.scripts.items;
  len : vec_len l.scripts ≡ l.path-index;
  same : g.F.Files.shows l.files ≡ g.F.Files.shows l.initial.files;
}

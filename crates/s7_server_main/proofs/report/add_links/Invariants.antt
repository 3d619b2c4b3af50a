use Rattle.std.proofs.Common.{◌≡◌, ◌++◌, drop}
use Rattle.std.specs.List.{flat_map}
use Rattle.s7_server_main.specs.Report.{line_of}
use Rattle.s7_server_main.specs.Told.{all_told}
use Rattle.s7_server_main.proofs.report.add_links.Given as goal

abbrev pub invariant-loop-served : goal.invariant-loop-served
invariant-loop-served g l =
    l.text.items ++ flat_map line_of (all_told g.L.Link.shows (drop l.served-index l.links))
    ≡ l.fn.text.items ++ flat_map line_of (all_told g.L.Link.shows l.links)

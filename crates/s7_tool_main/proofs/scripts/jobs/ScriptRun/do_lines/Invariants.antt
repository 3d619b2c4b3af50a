use Rattle.std.proofs.Common.{◌≡◌, ◌+◌, ◌≤◌, ◌++◌, length, option_map, vec_len, None}
use Rattle.std.specs.Vec.{vec_capacity}
use Rattle.std.specs.Vec.Iter.{into_iter_items, into_iter_len}
use Rattle.s7_client.specs.Completions.{completion_of, connection_of}
use Rattle.s7_client.specs.Polling.{config_of, job_of}
use Rattle.s7_rig.specs.Tells.{Tells}
use Rattle.s7_tool_main.specs.Run.{DoesLines, place}
use Rattle.s7_tool_main.proofs.scripts.jobs.ScriptRun.do_lines.Given as goal

abbrev pub invariant-loop-next : goal.invariant-loop-next
invariant-loop-next g l = record {
  items : l.yielded ++ into_iter_items l.next-iterator ≡ into_iter_items l.initial.next-iterator;
  count : into_iter_len l.next-iterator ≡ length (into_iter_items l.next-iterator);
  does : DoesLines (config_of (connection_of l.initial.self.client)) l.yielded
      (place g.L.Link.shows l.initial.self (g.O.Out.shows l.initial.out))
      (place g.L.Link.shows l.self (g.O.Out.shows l.out));
  idle : job_of (connection_of l.self.client) ≡ None;
  config : config_of (connection_of l.self.client) ≡ config_of (connection_of l.initial.self.client);
  faults : (g.O.Out.shows l.initial.out).faults ≤ (g.O.Out.shows l.out).faults;
  len : vec_len l.self.results + into_iter_len l.next-iterator
      ≡ vec_len l.initial.self.results + into_iter_len l.initial.next-iterator;
  tells : Tells l.initial.self.results.items l.self.results.items
      (option_map g.C.Completion.told (completion_of l.initial.self.client))
      (option_map g.C.Completion.told (completion_of l.self.client));
  capacity : vec_capacity l.initial.self.results ≤ vec_capacity l.self.results;
}

use Rattle.std.proofs.Common.{◌≤◌, vec_len}
use Rattle.s7_os.proofs.std_files.read_whole.Given as goal

abbrev pub invariant-loop : goal.invariant-loop
invariant-loop g l = vec_len l.into ≤ 67108864

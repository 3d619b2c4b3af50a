use Rattle.std.proofs.Common.{◌≡◌, map, take, Some}
use Rattle.s7_args.proofs.Actors.{actors_in}
use Rattle.s7_args.proofs.turns.read_turns.Given as goal

abbrev pub invariant-loop-part : goal.invariant-loop-part
invariant-loop-part l = Some l.turns.items ≡ actors_in l.count (take l.part-index (map (λ s. s.now) l.part-items))

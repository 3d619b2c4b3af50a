use Rattle.std.proofs.Common.{rules, ◌+◌, ◌-◌, ◌%◌, ◌^◌, arith}
use Rattle.s7_turn.proofs.Turning.{rings}
use Rattle.s7_turn.proofs.door.pass.Goals as goal

pub fetch_add-requires : goal.fetch_add-requires
fetch_add-requires g c = (search rules, search rules, rings _ _ _ _ _ _ (λ n. (n + 1) % 2 ^ 64) _ (omega arith))

pub fetch_sub-requires : goal.fetch_sub-requires
fetch_sub-requires g c = (search rules, search rules, rings _ _ _ _ _ _ (λ n. (n + (2 ^ 64 - 1)) % 2 ^ 64) _ (omega arith))

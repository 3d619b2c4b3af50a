use Rattle.std.proofs.Common.{ap, sym, ◌-◌, length, take, drop}
use Rattle.std.specs.Prelude.{Some}
use Rattle.std.proofs.lemmas.List.{take-append-drop}
use Rattle.s7_memory.proofs.memory_out.MemoryOutOut.put.Goals as goal

pub returns-else-piece-free-clause-err : goal.returns-else-piece-free-clause-err
returns-else-piece-free-clause-err c =
    let free = c.room.result - length c.as_slice.result.now in
    (take free c.args.piece.now, drop free c.args.piece.now, sym (take-append-drop free c.args.piece.now), ap Some c.add-else-piece-free.ensures.octets)

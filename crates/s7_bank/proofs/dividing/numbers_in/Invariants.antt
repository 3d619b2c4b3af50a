use Rattle.std.proofs.Common.{◌≡◌, ◌+◌, ◌≤◌, length, vec_capacity}
use Rattle.std.specs.Prelude.{◌++◌, ◌==◌, filter}
use Rattle.std.specs.Map.{keys_of}
use Rattle.s7_item.specs.Codes.{data_blocks}
use Rattle.s7_area.specs.Registers.{db_numbers}
use Rattle.s7_bank.specs.Areas.{bank_of}
use Rattle.s7_bank.proofs.dividing.numbers_in.Given as goal

-- the numbers so far, and those of the bank that are to come, are all of the bank
abbrev pub invariant-loop-number : goal.invariant-loop-number
invariant-loop-number l = record {
  numbers : l.numbers.items ++ filter (λ n. bank_of l.banks data_blocks n == l.bank) l.number-iterator
      ≡ filter (λ n. bank_of l.banks data_blocks n == l.bank) (db_numbers (keys_of l.areas.areas));
  room : length l.numbers.items + length l.number-iterator ≤ vec_capacity l.numbers;
}

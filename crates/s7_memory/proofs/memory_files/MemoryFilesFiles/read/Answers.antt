use Rattle.std.proofs.Common.{◌≡◌, ℕ, ◌<◌, min, List, Option, Some, length, take, sym, ap, ◌∙◌, option_map, arith}
use Rattle.std.proofs.lemmas.Grind.{common_steps}
use Rattle.s7_outer.specs.Files.{IsCutFrom}
use Rattle.s7_memory.specs.MemoryFiles.{file_octets}
use Rattle.s7_memory.proofs.memory_files.MemoryFilesFiles.read.Goals as goal

-- so many octets were taken of a file that has more
cut : (held : Option (List ℕ)) (whole octets : List ℕ) (n : ℕ) → held ≡ Some whole → n ≡ min (length whole) 67108865 → 67108864 < n → octets ≡ take n whole → IsCutFrom held octets
cut held whole octets n is count over taken =
    let all : n ≡ 67108865 = omega (arith, count, over) in
    rw is (omega (arith, count, over), taken ∙ ap (λ m. take m whole) all)

pub returns-then-count-gt-FILE_LIMIT-clause-cut : goal.returns-then-count-gt-FILE_LIMIT-clause-cut
returns-then-count-gt-FILE_LIMIT-clause-cut c = λ _.
    let whole = c.in-Some.octets.now in
    cut _ whole c.extend_from_slice.new.self.items c.min-count.result (sym (ap (λ files. file_octets files c.args.path.now) c.fails.ensures.files) ∙ sym c.octets_in.ensures ∙ ap (option_map (λ octets. octets.now)) c.in-Some.is) (grind (arith, common_steps)) c.if-count-gt-FILE_LIMIT.true (grind (arith, common_steps))

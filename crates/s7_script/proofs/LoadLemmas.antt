-- Files that are loaded.
use Rattle.std.proofs.Common.{◌≡◌, ◌≢◌, ◌∙◌, ◌≤◌, ℕ, refl, sym, ap, List, length, Option, Some, None, Result, Ok, Err}
use Rattle.std.specs.Prelude.{IsTrue}
use Rattle.s7_outer.specs.FilesShown.{FilesShown}
use Rattle.s7_outer.specs.Files.{file_limit, NonePathFell}
use Rattle.s7_area.specs.Memory.{Memory}
use Rattle.s7_text.specs.Lines.{Text}
use Rattle.s7_script.specs.Naming.{Named, path, block, faulty, block_named, block_with}
use Rattle.s7_script.specs.Loading.{Answers, AnswersOctets, Loads, LoadsBlock}
use Rattle.s7_script.specs.declared.areas.load.LoadFault.{LoadFault}
use Rattle.s7_script.specs.declared.areas.load.LoadFault.TheVariants as fault

-- files whose counts are as they were are as they were
pub unchanged : (old new : FilesShown) → new ≡ record old { faults = new.faults } → new.faults ≡ old.faults → new ≡ old
unchanged old new same counts = same ∙ ap (λ c. record old { faults = c }) counts

not_failed : (octets : Text) (result : Result Memory LoadFault) → AnswersOctets octets result → result ≢ Err fault.Failed
not_failed octets (Ok m) h e = cc
not_failed octets (Err fault.Failed) h e = h
not_failed octets (Err fault.TooLong) h e = cc
not_failed octets (Err (fault.Line n)) h e = cc
not_failed octets (Err fault.Memory) h e = cc

-- a file whose octets came
module _ (p : Text) (old new : FilesShown) (octets : Text) (fits : length octets ≤ file_limit)
    (told : IsTrue old.tells → old.held p ≡ Some octets) where
  file_gives : (result : Result Memory LoadFault) → AnswersOctets octets result → Answers (path p) old result
  file_gives (Ok m) h = record { octets = octets; sized = fits; held = told; so = h }
  file_gives (Err fault.Failed) h = tt
  file_gives (Err fault.TooLong) h = absurd h
  file_gives (Err (fault.Line n)) h = record { octets = octets; sized = fits; held = told; so = h }
  file_gives (Err fault.Memory) h = tt

  pub file_read : (result : Result Memory LoadFault) → AnswersOctets octets result
      → new ≡ record old { faults = new.faults } → new.faults ≡ old.faults → NonePathFell old.faults new.faults
      → Loads (path p) old new result
  file_read result answers same counts kept = record {
    answers = file_gives result answers;
    failed = λ e. absurd (not_failed octets result answers e);
    unfailed = λ e. unchanged old new same counts;
    missing = λ h. cc (sym (told h.0) ∙ h.1);
    left = (same, kept);
  }

-- ---- inline words

with_never : (number : ℕ) (octets : Option (List ℕ)) (p : Text) → block_with number octets ≢ path p
with_never number None p e = cc
with_never number (Some octets) p e = cc

-- an inline word is no path
pub never_path : (number : Option ℕ) (digits : Text) (p : Text) → block_named number digits ≢ path p
never_path None digits p e = cc
never_path (Some number) digits p e = with_never number _ p e

pub block_loads : (named : Named) (files : FilesShown) (result : Result Memory LoadFault)
    → ((p : Text) → named ≢ path p) → LoadsBlock named result → Loads named files files result
block_loads (path p) files result inline h = absurd (inline p refl)
block_loads (block number octets) files (Ok m) inline h =
    record { answers = sym h; failed = λ e. cc e; unfailed = λ e. refl; missing = λ x. absurd x; left = refl }
block_loads (block number octets) files (Err fault.Failed) inline h = absurd h
block_loads (block number octets) files (Err fault.TooLong) inline h = absurd h
block_loads (block number octets) files (Err (fault.Line n)) inline h = absurd (cc h)
block_loads (block number octets) files (Err fault.Memory) inline h =
    record { answers = tt; failed = λ e. cc e; unfailed = λ e. refl; missing = λ x. absurd x; left = refl }
block_loads faulty files (Ok m) inline h = absurd (cc h)
block_loads faulty files (Err fault.Failed) inline h = absurd h
block_loads faulty files (Err fault.TooLong) inline h = absurd h
block_loads faulty files (Err (fault.Line n)) inline h =
    record { answers = sym h; failed = λ e. cc e; unfailed = λ e. refl; missing = λ x. absurd x; left = refl }
block_loads faulty files (Err fault.Memory) inline h =
    record { answers = tt; failed = λ e. cc e; unfailed = λ e. refl; missing = λ x. absurd x; left = refl }

-- What holds from files on that were left as they were holds from those before on.
use Rattle.std.proofs.Common.{◌≡◌, ◌≢◌, ◌∙◌, refl, sym, ap, subst, arith, inl, inr, List, ℕ, Option, Some, None}
use Rattle.std.proofs.Common.{Result, Ok, Err}
use Rattle.std.specs.Prelude.{IfSome}
use Rattle.s7_outer.specs.FilesShown.{FilesShown}
use Rattle.s7_outer.specs.OutShown.{OutShown}
use Rattle.s7_outer.specs.Shown.{Shown}
use Rattle.s7_area.specs.Memory.{Memory}
use Rattle.s7_plant.specs.Books.{BookTold}
use Rattle.s7_script.specs.Naming.{Named, naming, path, block, faulty}
use Rattle.s7_script.specs.Loading.{HasFailed, LeavesFiles, Loads}
use Rattle.s7_script.specs.declared.areas.load.LoadFault.{LoadFault}
use Rattle.s7_script.specs.declared.areas.load.LoadFault.TheVariants as fault
use Rattle.s7_server_main.specs.declared.run.Ended.{Ended}
use Rattle.s7_server_main.specs.declared.run.Ended.TheVariants as ended
use Rattle.s7_server_main.specs.declared.run.Run.{Run}
use Rattle.s7_server_main.specs.Asked.{AskedTold}
use Rattle.s7_server_main.specs.End.{Ends, Opens, ReadsNamed}
use Rattle.s7_program.specs.Output.{BreaksOff, Printed}
use Rattle.s7_server_main.specs.Report.{door_line, report_text}
use Rattle.s7_server_main.specs.Statuses.{door, output, status_of}
use Rattle.s7_server_main.specs.Told.{run_told}
use Rattle.s7_server_main.specs.Saving.{ChangesOnly}

-- files that are as they were
pub same_files : (o : Option (List ℕ)) (old new : FilesShown) → new ≡ old → ChangesOnly o old new
same_files None old new h =
    record { kept = (ap (λ f. f.held) h, ap (λ f. f.tells) h); counts = inl (ap (λ f. f.faults) h) }
same_files (Some p) old new h = record {
  kept = (λ other differs. ap (λ f. f.held other) h, ap (λ f. f.tells) h);
  counts = inl (ap (λ f. f.faults) h);
}

failed_by : (n : Named) (old new : FilesShown) → HasFailed n old new → LeavesFiles n old new → ChangesOnly None old new
failed_by (path p) old new failed h =
    record { kept = (ap (λ f. f.held) h.0, ap (λ f. f.tells) h.0); counts = inr (p, failed) }
failed_by (block number octets) old new failed h = absurd failed
failed_by faulty old new failed h = absurd failed

pub left_by : (n : Named) (old new : FilesShown) (result : Result Memory LoadFault) → Loads n old new result
    → ChangesOnly None old new
left_by n old new (Ok m) h = same_files None old new (h.unfailed (λ e. cc e))
left_by n old new (Err fault.Failed) h = failed_by n old new (h.failed refl) h.left
left_by n old new (Err fault.TooLong) h = same_files None old new (h.unfailed (λ e. cc e))
left_by n old new (Err (fault.Line k)) h = same_files None old new (h.unfailed (λ e. cc e))
left_by n old new (Err fault.Memory) h = same_files None old new (h.unfailed (λ e. cc e))

-- what changes only so from files on that are as they were
pub changes : (o : Option (List ℕ)) (a b c : FilesShown) → b ≡ a → ChangesOnly o b c → ChangesOnly o a c
changes o a b c same k = subst (λ (x : FilesShown). ChangesOnly o x c) same k

module _ {L O : Type 0} (shows : L → Shown) (asked : AskedTold) (failed : Type 0) where
  saved : (run : Run L O) (a c : FilesShown) (s t : OutShown) (how : Ended)
      → Ends shows asked ⊥ (Some run) a c s t how → Ends shows asked failed (Some run) a c s t how
  saved run a c s t ended.Done e = e
  saved run a c s t ended.Output e = e
  saved run a c s t ended.Areas e = absurd (cc e.0)
  saved run a c s t ended.File e = e
  saved run a c s t ended.Door e = absurd (cc e.0)
  saved run a c s t ended.Memory e = e

  -- a run was saved and reported over files that were as before, and nothing was printed before
  pub ends : (run : Run L O) (a b c : FilesShown) (s s' t : OutShown) (how : Ended) → b ≡ a → s' ≡ s
      → Ends shows asked ⊥ (Some run) b c s' t how → Ends shows asked failed (Some run) a c s t how
  ends run a b c s s' t how kept same e =
      saved run a c s t how (subst (λ (x : FilesShown). Ends shows asked ⊥ (Some run) x c s t how) kept
      (subst (λ x. Ends shows asked ⊥ (Some run) b c x t how) same e))

-- an output that failed broke the text off, with the areas behind as many entries as were asked for
pub broken : {L O : Type 0} (shows : L → Shown) (asked : AskedTold) (failed : Type 0) (run : Option (Run L O)) (a b : FilesShown)
    (s t : OutShown) (how : Ended) (entry : Option ℕ) → asked.entry ≡ entry → status_of how ≡ output
    → Ends shows asked failed run a b s t how
    → IfSome run (λ r. BreaksOff s t (report_text (run_told shows r) entry))
broken shows asked failed None a b s t how entry same is e = tt
broken shows asked failed (Some run) a b s t ended.Output entry same is e =
    subst (λ n. BreaksOff s t (report_text (run_told shows run) n)) same e.1
broken shows asked failed (Some run) a b s t ended.Done entry same is e = absurd (omega (arith, is))
broken shows asked failed (Some run) a b s t ended.Areas entry same is e = absurd (omega (arith, is))
broken shows asked failed (Some run) a b s t ended.File entry same is e = absurd (omega (arith, is))
broken shows asked failed (Some run) a b s t ended.Door entry same is e = absurd (omega (arith, is))
broken shows asked failed (Some run) a b s t ended.Memory entry same is e = absurd (omega (arith, is))

-- the door failed behind a book that was opened, and nothing was printed before
pub door_ended : {L : Type 0} (O : Type 0) (shows : L → Shown) (asked : AskedTold) (failed : Type 0) (book : BookTold)
    (a b : FilesShown) (s s' t : OutShown) (how : Ended) → Opens asked a book → failed → s' ≡ s → how ≡ ended.Door
    → Printed s' t door_line
    → Ends {L = L} {O = O} shows asked (ReadsNamed (naming asked.areas) a × failed) None a b s t how
door_ended {L} O shows asked failed book a b s s' t how opens met same is printed =
    subst (λ h. Ends {L = L} {O = O} shows asked (ReadsNamed (naming asked.areas) a × failed) None a b s t h) (sym is)
    (refl, ((book.opening.areas, opens.opened), met), subst (λ x. Printed x t door_line) same printed)

-- what holds where the door failed
pub door_told : {L O : Type 0} (shows : L → Shown) (asked : AskedTold) (failed : Type 0) (run : Option (Run L O))
    (a b : FilesShown) (s t : OutShown) (how : Ended) → status_of how ≡ door → Ends shows asked failed run a b s t how
    → failed × Printed s t door_line
door_told shows asked failed run a b s t ended.Door is e = (e.1, e.2)
door_told shows asked failed run a b s t ended.Output is e = absurd (omega (arith, is))
door_told shows asked failed run a b s t ended.Done is e = absurd (omega (arith, is))
door_told shows asked failed run a b s t ended.Areas is e = absurd (omega (arith, is))
door_told shows asked failed run a b s t ended.File is e = absurd (omega (arith, is))
door_told shows asked failed run a b s t ended.Memory is e = absurd (omega (arith, is))

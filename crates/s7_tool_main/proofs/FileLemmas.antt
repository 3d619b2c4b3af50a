-- What was read of files, from call to call.
use Rattle.std.proofs.Common.{◌≡◌, ◌∙◌, ℕ, ◌+◌, ◌<◌, refl, sym, ap, subst, inl, inr, List, [], ◌∷◌, ◌++◌, Ok, Err, Option}
use Rattle.std.proofs.Common.{drop, length, map, slice_index_or, take}
use Rattle.std.specs.Prelude.{Result}
use Rattle.std.proofs.lemmas.List.{drop_more, map-append, take-append-drop}
use Rattle.s7_outer.specs.FilesShown.{FilesShown}
use Rattle.s7_area.specs.Memory.{Memory}
use Rattle.s7_script.specs.Loading.{HasFailed, LeavesFiles, Loads}
use Rattle.s7_script.specs.declared.areas.load.LoadFault.{LoadFault}
use Rattle.s7_script.specs.declared.areas.load.LoadFault.TheVariants as fault
use Rattle.s7_script.specs.Naming.{Named, path, block, faulty}
use Rattle.s7_script.specs.declared.scripts.script_list.ScriptLine.{ScriptLine}
use Rattle.s7_symbol.specs.declared.tag.Tag.{Tag}
use Rattle.s7_tool_main.specs.Loading.{KeepsPaths, ReadsScript}
use Rattle.s7_tool_main.specs.Scripts.{AddsScript, ReadsScripts}

-- ---- paths that are kept

-- files that are as they were
pub keeps_same : (old new : FilesShown) → new ≡ old → KeepsPaths old new
keeps_same old new h = record {
  kept = h ∙ ap (λ counts. record old { faults = counts }) (sym (ap (λ f. f.faults) h));
  counts = inl (ap (λ f. f.faults) h);
}

-- a call on a path failed, and no path changed
keeps_failed : (n : Named) (old new : FilesShown) → HasFailed n old new → LeavesFiles n old new → KeepsPaths old new
keeps_failed (path p) old new failed h = record { kept = h.0; counts = inr (p, failed) }
keeps_failed (block number octets) old new failed h = absurd failed
keeps_failed faulty old new failed h = absurd failed

-- areas that were loaded, or not, leave the paths
pub keeps_by_areas : (n : Named) (old new : FilesShown) (result : Result Memory LoadFault) → Loads n old new result
    → KeepsPaths old new
keeps_by_areas n old new (Ok m) h = keeps_same old new (h.unfailed (λ e. cc e))
keeps_by_areas n old new (Err fault.Failed) h = keeps_failed n old new (h.failed refl) h.left
keeps_by_areas n old new (Err fault.TooLong) h = keeps_same old new (h.unfailed (λ e. cc e))
keeps_by_areas n old new (Err (fault.Line k)) h = keeps_same old new (h.unfailed (λ e. cc e))
keeps_by_areas n old new (Err fault.Memory) h = keeps_same old new (h.unfailed (λ e. cc e))

-- ---- one script after another

-- an element of a list, with those before it and those after it
pub map_split : {A B : Type 0} (f : A → B) (xs : List A) (i : ℕ) (d : A) → i < length xs
    → map f xs ≡ map f (take i xs) ++ f (slice_index_or xs i d) ∷ map f (drop (i + 1) xs)
map_split f xs i d lt =
    ap (map f) (sym (take-append-drop i xs)) ∙ map-append f (take i xs) (drop i xs)
    ∙ ap (λ t. map f (take i xs) ++ map f t) (drop_more xs i d lt)

module _ (known : Option (List Tag)) where
  reads_push : (ps : List (List ℕ)) (p : List ℕ) (ss : List (List ScriptLine)) (s : List ScriptLine) (f : FilesShown)
      → ReadsScripts known ps f ss → ReadsScript known p f (λ read. read ≡ s)
      → ReadsScripts known (ps ++ p ∷ []) f (ss ++ s ∷ [])
  unfolding ReadsScripts
  reads_push [] p [] s f h k = (k, tt)
  reads_push [] p (t ∷ ss) s f h k = absurd h
  reads_push (q ∷ ps) p [] s f h k = absurd h
  reads_push (q ∷ ps) p (t ∷ ss) s f h k = (h.0, reads_push ps p ss s f h.1 k)

  -- one script more
  pub reads_more : (ps : List (List ℕ)) (p : List ℕ) (ss ss' : List (List ScriptLine)) (f : FilesShown)
      → ReadsScripts known ps f ss → AddsScript known p f ss ss' → ReadsScripts known (ps ++ p ∷ []) f ss'
  reads_more ps p ss ss' f h k =
      subst (ReadsScripts known (ps ++ p ∷ []) f) (sym k.so)
      (reads_push ps p ss k.lines f h
      (record { octets = k.octets; lines = k.lines; sized = k.sized; held = k.held; named = k.named; so = refl }))

  pub reads_none : (f : FilesShown) → ReadsScripts known [] f []
  unfolding ReadsScripts
  reads_none f = tt

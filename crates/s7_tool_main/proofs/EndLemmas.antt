-- How a run ended, by what was read and what was done.
use Rattle.std.proofs.Common.{◌≡◌, refl, inl, inr, List, ℕ, None, Some, Option}
use Rattle.s7_outer.specs.DialShown.{DialShown}
use Rattle.s7_outer.specs.FilesShown.{FilesShown}
use Rattle.s7_outer.specs.OutShown.{OutShown}
use Rattle.s7_outer.specs.Shown.{Shown}
use Rattle.s7_script.specs.declared.scripts.script_list.ScriptLine.{ScriptLine}
use Rattle.s7_symbol.specs.declared.tag.Tag.{Tag}
use Rattle.s7_args.specs.Tool.{RunTold}
use Rattle.s7_program.specs.Output.{Printed}
use Rattle.s7_tool_main.specs.declared.ended.Ended.{Ended}
use Rattle.s7_tool_main.specs.declared.ended.Ended.TheVariants as ended
use Rattle.s7_tool_main.specs.declared.ended.RunEnd.{RunEnd}
use Rattle.s7_script.specs.declared.areas.load.LoadFault.{LoadFault}
use Rattle.s7_script.specs.declared.areas.load.LoadFault.TheVariants as fault
use Rattle.s7_tool_main.specs.Loading.{IsUnloaded, PathFails, ReadsScript, ReadsTags, RefusesScript, StopsAtTags}
use Rattle.s7_tool_main.specs.Loading.{refusal_line, script_reader}
use Rattle.s7_tool_main.specs.Ran.{LinesEnd, ReadsAll, RunEnds, RunsDialled}
use Rattle.s7_tool_main.specs.Report.{TellsFault, script_line, tags_line}
use Rattle.s7_tool_main.proofs.TagLemmas.{fails_tags, refuses_tags, refuses_text, with_read, with_tags}

module _ {L : Type 0} (shows : L → Shown) (told : RunTold) (old new : FilesShown) (dial dial' : DialShown L)
    (out out' : OutShown) where
  -- the tag file wasn't loaded
  pub run_untagged : (path : List ℕ) (why : LoadFault) (how : Ended) → StopsAtTags told.tags old new path why
      → TellsFault (refusal_line tags_line why) (why ≡ fault.Failed) path out out' how
      → RunEnds shows told old new dial dial' out out' None how
  run_untagged path why ended.Refused h t =
      (refl, inl (refuses_tags old new path why (Printed out out') told.tags h t))
  run_untagged path why ended.File h t =
      (refl, inl (fails_tags old new path why (Printed out out') told.tags h t.0 t.1))
  run_untagged path why ended.Memory h t = t
  run_untagged path why ended.Done h t = absurd t
  run_untagged path why ended.Jobs h t = absurd t
  run_untagged path why ended.Output h t = absurd t
  run_untagged path why ended.Dial h t = absurd t

  module _ (known : Option (List Tag)) (tagged : ReadsTags told.tags old (λ found. found ≡ known)) where
    -- the script wasn't
    pub run_unread : (why : LoadFault) (how : Ended) → IsUnloaded (script_reader known) told.script old new why
        → TellsFault (refusal_line script_line why) (why ≡ fault.Failed) told.script out out' how
        → RunEnds shows told old new dial dial' out out' None how
    run_unread why ended.Refused h t = (
      refl,
      inr (with_tags told.tags old known (λ k. RefusesScript k told.script old (Printed out out')) tagged
          (refuses_text (script_reader known) script_line told.script why old (Printed out out') h.refused t)),
    )
    run_unread why ended.File h t = (
      refl,
      inr (with_tags told.tags old known (λ k. PathFails told.script old new (Printed out out')) tagged
          (record { rose = h.failed t.0; is_printed = t.1 })),
    )
    run_unread why ended.Memory h t = t
    run_unread why ended.Done h t = absurd t
    run_unread why ended.Jobs h t = absurd t
    run_unread why ended.Output h t = absurd t
    run_unread why ended.Dial h t = absurd t

    module _ (lines : List ScriptLine) (read : ReadsScript known told.script old (λ found. found ≡ lines)) where
      reads_all : (P : List ScriptLine → Type 0) → P lines → ReadsAll told old P
      reads_all P p =
          with_tags told.tags old known (λ k. ReadsScript k told.script old P) tagged
          (with_read (script_reader known) told.script old lines P read p)

      ran_by : (run : RunEnd L) (how : Ended) → RunsDialled shows told dial lines out out' run how
          → ReadsAll told old (λ ls. RunsDialled shows told dial ls out out' run how)
      ran_by run how h = reads_all (λ ls. RunsDialled shows told dial ls out out' run how) h

      -- both were
      pub run_ended : (run : Option (RunEnd L)) (how : Ended) → LinesEnd shows told lines dial dial' out out' run how
          → RunEnds shows told old new dial dial' out out' run how
      run_ended None ended.Done h = absurd h
      run_ended None ended.Jobs h = absurd h
      run_ended None ended.Output h = absurd h
      run_ended None ended.Memory h = h
      run_ended None ended.Refused h = absurd h
      run_ended None ended.File h = absurd h
      run_ended None ended.Dial h =
          (refl, record { read = reads_all (λ ls. Unit {0}) tt; rose = h.1; is_printed = h.2 })
      run_ended (Some run) ended.Done h = ran_by run ended.Done h
      run_ended (Some run) ended.Jobs h = ran_by run ended.Jobs h
      run_ended (Some run) ended.Output h = ran_by run ended.Output h
      run_ended (Some run) ended.Memory h = ran_by run ended.Memory h
      run_ended (Some run) ended.Refused h = absurd h
      run_ended (Some run) ended.File h = absurd h
      run_ended (Some run) ended.Dial h = absurd (cc h.0)

-- The jobs of a script connect first.
use Rattle.std.proofs.Common.{List, Option, [], ◌∷◌, ◌++◌, subst}
use Rattle.std.specs.Prelude.{ℕ, map}
use Rattle.std.specs.List.{AllByRecursion}
use Rattle.s7_outer.specs.FilesShown.{FilesShown}
use Rattle.s7_dialogue.specs.declared.job.Job.{Job}
use Rattle.s7_dialogue.specs.declared.job.Job.TheVariants as job
use Rattle.s7_rig.specs.Scripts.{BeginsWell, IsNoConnect, NoneConnects}
use Rattle.s7_script.specs.Laws.{KeepsLink, ScriptsKeepLinks}
use Rattle.s7_script.specs.Tagged.{script_by}
use Rattle.s7_script.specs.declared.scripts.script_fault.ScriptFault.{ScriptFault}
use Rattle.s7_script.specs.declared.scripts.script_list.ScriptLine.{ScriptLine}
use Rattle.s7_symbol.specs.declared.tag.Tag.{Tag}
use Rattle.s7_tool_main.specs.Rigging.{client_script}
use Rattle.s7_tool_main.specs.Run.{job_in}
use Rattle.s7_tool_main.specs.Scripts.{ReadsScripts}
use Rattle.s7_tool_main.proofs.TagLemmas.{named_by}

keeps_only : (j : Job) → KeepsLink j → IsNoConnect j
keeps_only job.Connect h = absurd h
keeps_only job.Disconnect h = absurd h
keeps_only _ h = tt

none_connects : (lines : List ScriptLine) → AllByRecursion (λ (l : ScriptLine). KeepsLink l.job) lines → NoneConnects (map job_in lines ++ job.Disconnect ∷ [])
none_connects [] h = (tt, tt)
none_connects (l ∷ lines) h = (keeps_only l.job h.0, none_connects lines h.1)

pub connect_first : ScriptsKeepLinks → (known : Option (List Tag)) (paths : List (List ℕ)) (files : FilesShown)
    (scripts : List (List ScriptLine)) → ReadsScripts known paths files scripts
    → AllByRecursion BeginsWell (map client_script scripts)
unfolding ReadsScripts
connect_first law known [] files [] h = tt
connect_first law known [] files (lines ∷ scripts) h = absurd h
connect_first law known (path ∷ paths) files [] h = absurd h
connect_first law known (path ∷ paths) files (lines ∷ scripts) h =
    let named = named_by (λ (e : ScriptFault). e.line) (script_by known h.0.octets) h.0.lines h.0.named in
    let kept = law.keeps known h.0.octets h.0.lines named in (
      none_connects lines (subst (AllByRecursion (λ (l : ScriptLine). KeepsLink l.job)) h.0.so kept),
      connect_first law known paths files scripts h.1,
    )

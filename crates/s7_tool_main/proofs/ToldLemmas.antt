-- What a completion is told of.
use Rattle.std.proofs.Common.{◌≡◌, ℕ, Bool, List, [], ◌∷◌, ◌++◌, Option, None, Some, Result, Ok, option_map, inl, inr, map, sym, subst}
use Rattle.std.specs.Result.{OnErr}
use Rattle.std.proofs.lemmas.Iterator.Adapters.{option_map_id}
use Rattle.s7_area.specs.Memory.{Memory}
use Rattle.s7_dialogue.specs.declared.config.Config.{Config}
use Rattle.s7_dialogue.specs.declared.job.JobResult.{JobResult}
use Rattle.s7_outer.specs.FilesShown.{FilesShown}
use Rattle.s7_outer.specs.OutShown.{OutShown}
use Rattle.s7_script.specs.Loading.{NamedGives}
use Rattle.s7_script.specs.Naming.{naming}
use Rattle.s7_script.specs.declared.scripts.script_list.ScriptLine.{ScriptLine}
use Rattle.s7_symbol.specs.declared.tag.Tag.{Tag}
use Rattle.s7_args.specs.Tool.{RigTold, ToolTold, gen, partner, rig, run}
use Rattle.s7_client.specs.Completions.{Told, told_of_result, told_of_results}
use Rattle.s7_rig.specs.Rigs.{ToldWanting, Turning}
use Rattle.s7_rig.specs.Scripts.{Script}
use Rattle.s7_rig.specs.Tells.{Tells}
use Rattle.s7_rig.proofs.TellsLemmas.{tells_none}
use Rattle.s7_tool_main.specs.declared.ended.Ended.{Ended}
use Rattle.s7_tool_main.specs.declared.ended.Ended.TheVariants as ended
use Rattle.s7_tool_main.specs.End.{HeardWanting}
use Rattle.s7_tool_main.specs.Loading.{ReadsTags, ReadsWatch}
use Rattle.s7_tool_main.specs.Report.{PrintsText}
use Rattle.s7_tool_main.specs.Rigging.{JobsWanting, RigWanting, rig_scripts}
use Rattle.s7_tool_main.specs.Scripts.{ReadsScripts}

-- ---- a run

-- a job that wasn't begun
pub tells_kept : {C : Type 0} (f : C → Told) (rs : List JobResult) (x y : Option C) → y ≡ x
    → Tells rs rs (option_map f x) (option_map f y)
tells_kept f rs x y same =
    subst (λ z. Tells rs rs (option_map f x) (option_map f z)) (sym same) (tells_none rs (option_map f x))

-- a job that was done
pub tells_result : (rs ts : List JobResult) (r : JobResult) (x y : Option Told) → ts ≡ rs ++ r ∷ []
    → y ≡ option_map (λ t. told_of_result t r) x → Tells rs ts x y
tells_result rs ts r x y results told = record { gained = r ∷ []; results = results; told = told }

-- the completion was given to a client that had none, and taken back
pub tells_lent : {C : Type 0} (f : C → Told) (rs ts : List JobResult) (old given left new : Option C) → rs ≡ []
    → given ≡ old → new ≡ left → Tells rs ts (option_map f given) (option_map f left)
    → Tells [] ts (option_map f old) (option_map f new)
tells_lent f rs ts old given left new none from to h =
    subst (λ z. Tells [] ts (option_map f old) (option_map f z)) (sym to)
    (subst (λ z. Tells [] ts (option_map f z) (option_map f left)) from
    (subst (λ z. Tells z ts (option_map f given) (option_map f left)) none h))

-- nothing was told
pub told_nothing : (x : Option Told) → x ≡ option_map (λ t. told_of_results t []) x
told_nothing x = sym (option_map_id x)

-- ---- where memory was wanting

-- a text that was printed, or not, is no want of memory
pub not_wanting : (text : List ℕ) (good : Bool) (old new : OutShown) (how : Ended) → PrintsText text good old new how
    → how ≡ ended.Memory → ⊥
not_wanting text good old new how printed is = subst (λ h. PrintsText text good old new h) is printed

-- a rig of the same, by other words
pub wanting_same : {T E : Type 0} (r : Result T E) (areas areas' : Memory) (limit : ℕ) (config config' : Config)
    (jobs jobs' : List Script) (turns turns' : List ℕ) (seed steps : ℕ) (x y : Option Told) → areas ≡ areas'
    → config ≡ config' → jobs ≡ jobs' → turns ≡ turns'
    → OnErr r (ToldWanting areas limit config jobs (record { turns = turns; seed = seed; steps = steps }) x y)
    → OnErr r (ToldWanting areas' limit config' jobs' (record { turns = turns'; seed = seed; steps = steps }) x y)
wanting_same r areas areas' limit config config' jobs jobs' turns turns' seed steps x y a c j t h =
    let turning : List ℕ → Turning = λ ts. record { turns = ts; seed = seed; steps = steps } in
    subst (λ z. OnErr r (ToldWanting z limit config' jobs' (turning turns') x y)) a
    (subst (λ z. OnErr r (ToldWanting areas limit z jobs' (turning turns') x y)) c
    (subst (λ z. OnErr r (ToldWanting areas limit config z (turning turns') x y)) j
    (subst (λ z. OnErr r (ToldWanting areas limit config jobs (turning z) x y)) t h)))

-- a rig over the files that were read
pub rig_wanting : (told : RigTold) (files : FilesShown) (known : Option (List Tag)) (opening : Memory)
    (watched : Option (List Tag)) (scripts : List (List ScriptLine)) (x y : Option Told)
    → ReadsTags told.tags files (λ found. found ≡ known) → ReadsWatch told.watch files (λ found. found ≡ watched)
    → NamedGives (naming told.areas) files (Ok opening) → ReadsScripts known told.scripts files scripts
    → JobsWanting told opening (rig_scripts scripts watched told.rounds) x y → RigWanting told files x y
rig_wanting told files known opening watched scripts x y tagged watching opened read wanting = inr (record {
  known = known;
  tagged = tagged;
  watched = watched;
  watching = watching;
  opening = opening;
  opened = opened;
  scripts = scripts;
  read = read;
  wanting = wanting;
})

-- whatever the words are, of nothing
pub heard_nothing : (words : Option ToolTold) (files : FilesShown) (x y : Option Told) → y ≡ x
    → HeardWanting words files x y
heard_nothing None files x y same = same
heard_nothing (Some (run told)) files x y same = same
heard_nothing (Some (rig told)) files x y same = inl same
heard_nothing (Some (gen seed)) files x y same = inl same
heard_nothing (Some (partner told)) files x y same = same

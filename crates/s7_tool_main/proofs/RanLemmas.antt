-- What a rig gives, and how it ended.
use Rattle.std.proofs.Common.{◌≡◌, ◌⊎◌, refl, ap, inl, inr, List, ℕ, map, None, Some, Option, Result, Ok, Err}
use Rattle.std.specs.Prelude.{All, IfOk, IsSomeAnd}
use Rattle.std.proofs.lemmas.List.Elements.{All-weaker}
use Rattle.s7_outer.specs.FilesShown.{FilesShown}
use Rattle.s7_outer.specs.OutShown.{OutShown}
use Rattle.s7_area.specs.Memory.{Memory}
use Rattle.s7_dialogue.specs.declared.config.Config.{Config}
use Rattle.s7_rig.specs.declared.end.RigEnd.{RigEnd}
use Rattle.s7_rig.specs.Followed.{RigsFollow}
use Rattle.s7_rig.specs.Formed.{AreFormed, IsFormed, RigsAreFormed}
use Rattle.s7_rig.specs.Rigs.{RigRan, Turning}
use Rattle.s7_rig.specs.Scripts.{Script}
use Rattle.s7_rig.specs.Shown.{EndTold, end_told}
use Rattle.s7_script.specs.Laws.{EndsPrint}
use Rattle.s7_script.specs.Loading.{HasFailed, Loads, NamedGives, PathFailed}
use Rattle.s7_script.specs.Naming.{Named, block_named, block_with, inline_parts, named_by}
use Rattle.s7_script.specs.Naming.{naming}
use Rattle.s7_script.specs.Printing.{IsPrintable}
use Rattle.s7_script.specs.declared.areas.load.LoadFault.{LoadFault}
use Rattle.s7_script.specs.declared.areas.load.LoadFault.TheVariants as fault
use Rattle.s7_script.specs.declared.scripts.script_list.ScriptLine.{ScriptLine}
use Rattle.s7_symbol.specs.declared.tag.Tag.{Tag}
use Rattle.s7_watched.specs.Watched.{RigsShowWatches}
use Rattle.s7_args.specs.Tool.{RigTold}
use Rattle.s7_program.specs.Output.{Printed}
use Rattle.s7_tool_main.specs.Asked.{rig_config, turning_of}
use Rattle.s7_tool_main.specs.declared.ended.Ended.{Ended}
use Rattle.s7_tool_main.specs.declared.ended.Ended.TheVariants as ended
use Rattle.s7_tool_main.specs.Gen.{GenEnds, client_scripts, made_areas, made_config, made_turning}
use Rattle.s7_tool_main.specs.GenText.{are_made_good, made_text}
use Rattle.s7_tool_main.specs.Loading.{ReadsTags, ReadsWatch, StopsAtTags, StopsAtWatch, refusal_line, script_reader}
use Rattle.s7_tool_main.specs.Loading.{watch_reader}
use Rattle.s7_tool_main.specs.Report.{PrintsText, TellsFault, script_line, tags_line}
use Rattle.s7_tool_main.specs.RigText.{ArePrintable, are_clients_good, rig_text}
use Rattle.s7_tool_main.specs.Rigging.{ComesTo, FailsAfterTags, FailsOther, IsPathOf, RanJobs, RanRig, RefusesAfterTags}
use Rattle.s7_tool_main.specs.Rigging.{RefusesAreas, RefusesOneScript, RefusesOther, RigEnds, areas_refusal_line}
use Rattle.s7_tool_main.specs.Rigging.{rig_scripts}
use Rattle.s7_tool_main.specs.Scripts.{ReadsScripts, StopsAt}
use Rattle.s7_tool_main.proofs.ShownLemmas.{watch_shows}
use Rattle.s7_tool_main.proofs.TagLemmas.{fails_tags, fails_tags_by, refuses_tags, refuses_tags_by, refuses_text}
use Rattle.s7_tool_main.proofs.TagLemmas.{with_tags, with_tags_by}

-- all its results can be printed
pub rig_prints : EndsPrint → RigsAreFormed → (opening : Memory) (limit : ℕ) (config : Config)
    (scripts : List Script) (turning : Turning) (end : EndTold)
    → RigRan opening limit config scripts turning end → All ArePrintable end.clients
rig_prints prints law opening limit config scripts turning end ran =
    All-weaker AreFormed ArePrintable
    (λ c formed. All-weaker IsFormed IsPrintable
    (λ told f. prints.prints f.asked f.end f.carried told f.result f.form) c.results formed)
    end.clients (law.results opening limit config scripts turning end ran)

pub if_ok : {A E : Type 0} (P Q : A → Type 0) (r : Result A E) → ((a : A) → P a → Q a) → IfOk r P → IfOk r Q
if_ok P Q (Ok a) f h = f a h
if_ok P Q (Err e) f h = tt

-- ---- areas that weren't loaded

block_unfailed : (number : ℕ) (octets : Option (List ℕ)) (old new : FilesShown)
    → HasFailed (block_with number octets) old new → ⊥
block_unfailed number None old new h = h
block_unfailed number (Some octets) old new h = h

named_unfailed : (number : Option ℕ) (digits : List ℕ) (old new : FilesShown)
    → HasFailed (block_named number digits) old new → ⊥
named_unfailed None digits old new h = h
named_unfailed (Some number) digits old new h = block_unfailed number _ old new h

failed_by : (word : List ℕ) (parts : Option (List ℕ × List ℕ)) (old new : FilesShown)
    → HasFailed (named_by word parts) old new
    → IsPathOf (named_by word parts) word × PathFailed word old.faults new.faults
failed_by word None old new h = (refl, h)
failed_by word (Some parts) old new h = absurd (named_unfailed _ parts.1 old new h)

-- only a path fails, and that path is the word
word_failed : (word : List ℕ) (old new : FilesShown) → HasFailed (naming word) old new
    → IsPathOf (naming word) word × PathFailed word old.faults new.faults
word_failed word old new h = failed_by word (inline_parts word) old new h

refuses_areas : (named : Named) (why : LoadFault) (old new : FilesShown) (P : List ℕ → Type 0)
    → Loads named old new (Err why) → IsSomeAnd (areas_refusal_line why) P → RefusesAreas named old P
refuses_areas named fault.Failed old new P h printed = absurd printed
refuses_areas named fault.TooLong old new P h printed =
    record { fault = fault.TooLong; line = _; refused = h.answers; line_is = refl; is_printed = printed }
refuses_areas named (fault.Line k) old new P h printed =
    record { fault = fault.Line k; line = _; refused = h.answers; line_is = refl; is_printed = printed }
refuses_areas named fault.Memory old new P h printed = absurd printed

-- ---- how it ended

module _ (told : RigTold) (old new : FilesShown) (out out' : OutShown) where
  -- the tag file wasn't loaded
  pub rig_untagged : (p : List ℕ) (f : LoadFault) (how : Ended) → StopsAtTags told.tags old new p f
      → TellsFault (refusal_line tags_line f) (f ≡ fault.Failed) p out out' how → RigEnds told old new out out' None how
  rig_untagged p f ended.Refused h t = (refl, inl (refuses_tags old new p f (Printed out out') told.tags h t))
  rig_untagged p f ended.File h t = (refl, inl (fails_tags old new p f (Printed out out') told.tags h t.0 t.1))
  rig_untagged p f ended.Memory h t = (refl, t)
  rig_untagged p f ended.Done h t = absurd t
  rig_untagged p f ended.Jobs h t = absurd t
  rig_untagged p f ended.Output h t = absurd t
  rig_untagged p f ended.Dial h t = absurd t

  module _ (known : Option (List Tag)) (tagged : ReadsTags told.tags old (λ found. found ≡ known)) where
    refuses : RefusesAfterTags known told old (Printed out out')
        → ReadsTags told.tags old (λ k. RefusesAfterTags k told old (Printed out out'))
    refuses h = with_tags told.tags old known (λ k. RefusesAfterTags k told old (Printed out out')) tagged h

    fails : FailsAfterTags known told old new (Printed out out')
        → ReadsTags told.tags old (λ k. FailsAfterTags k told old new (Printed out out'))
    fails h = with_tags told.tags old known (λ k. FailsAfterTags k told old new (Printed out out')) tagged h

    -- the watch file wasn't loaded
    pub rig_unwatched : (p : List ℕ) (f : LoadFault) (how : Ended) → StopsAtWatch told.watch old new p f
        → TellsFault (refusal_line tags_line f) (f ≡ fault.Failed) p out out' how
        → RigEnds told old new out out' None how
    rig_unwatched p f ended.Refused h t =
        (refl, inr (refuses (inl (refuses_tags_by old new p f (Printed out out') watch_reader told.watch h t))))
    rig_unwatched p f ended.File h t =
        (refl, inr (fails (inl (fails_tags_by old new p f (Printed out out') watch_reader told.watch h t.0 t.1))))
    rig_unwatched p f ended.Memory h t = (refl, t)
    rig_unwatched p f ended.Done h t = absurd t
    rig_unwatched p f ended.Jobs h t = absurd t
    rig_unwatched p f ended.Output h t = absurd t
    rig_unwatched p f ended.Dial h t = absurd t

    module _ (watched : Option (List Tag)) (watching : ReadsWatch told.watch old (λ found. found ≡ watched)) where
      refuses_other : RefusesOther known told old (Printed out out')
          → ReadsTags told.tags old (λ k. RefusesAfterTags k told old (Printed out out'))
      refuses_other h =
          refuses (inr (with_tags_by watch_reader told.watch old watched
          (λ w. RefusesOther known told old (Printed out out')) watching h))

      fails_other : FailsOther known told old new (Printed out out')
          → ReadsTags told.tags old (λ k. FailsAfterTags k told old new (Printed out out'))
      fails_other h =
          fails (inr (with_tags_by watch_reader told.watch old watched
          (λ w. FailsOther known told old new (Printed out out')) watching h))

      -- the areas weren't loaded
      pub rig_unopened : (f : LoadFault) (how : Ended) → Loads (naming told.areas) old new (Err f)
          → TellsFault (areas_refusal_line f) (f ≡ fault.Failed) told.areas out out' how
          → RigEnds told old new out out' None how
      rig_unopened f ended.Refused h t =
          (refl, inr (refuses_other (inl (refuses_areas (naming told.areas) f old new (Printed out out') h t))))
      rig_unopened f ended.File h t =
          let failed = word_failed told.areas old new (h.failed (ap (λ x. Err x) t.0)) in (
            refl,
            inr (fails_other (record {
              path = told.areas;
              named = inl failed.0;
              fails = record { rose = failed.1; is_printed = t.1 };
            })),
          )
      rig_unopened f ended.Memory h t = (refl, t)
      rig_unopened f ended.Done h t = absurd t
      rig_unopened f ended.Jobs h t = absurd t
      rig_unopened f ended.Output h t = absurd t
      rig_unopened f ended.Dial h t = absurd t

      module _ (m : Memory) (opened : NamedGives (naming told.areas) old (Ok m)) where
        comes_to : (p : List ℕ) (f : LoadFault) → StopsAt known told.scripts old new p f → ComesTo known told old p
        comes_to p f h = record { opening = m; opened = opened; next = h.next }

        -- a script wasn't loaded
        pub rig_unread : (p : List ℕ) (f : LoadFault) (how : Ended) → StopsAt known told.scripts old new p f
            → TellsFault (refusal_line script_line f) (f ≡ fault.Failed) p out out' how
            → RigEnds told old new out out' None how
        rig_unread p f ended.Refused h t = (
          refl,
          inr (refuses_other (inr (record {
            path = p;
            next = comes_to p f h;
            refused = refuses_text (script_reader known) script_line p f old (Printed out out') h.unloaded.refused t;
          }))),
        )
        rig_unread p f ended.File h t = (
          refl,
          inr (fails_other (record {
            path = p;
            named = inr (comes_to p f h);
            fails = record { rose = h.unloaded.failed t.0; is_printed = t.1 };
          })),
        )
        rig_unread p f ended.Memory h t = (refl, t)
        rig_unread p f ended.Done h t = absurd t
        rig_unread p f ended.Jobs h t = absurd t
        rig_unread p f ended.Output h t = absurd t
        rig_unread p f ended.Dial h t = absurd t

        -- a rig ran
        module _ (follows : RigsFollow) (shows : RigsShowWatches) (scripts : List (List ScriptLine))
            (read : ReadsScripts known told.scripts old scripts) (rig : RigEnd)
            (ran : RanJobs told m (rig_scripts scripts watched told.rounds) (end_told rig)) where
          abbrev PrintsRig : Ended → Type 0
          PrintsRig how =
              PrintsText (rig_text scripts watched told.rounds (end_told rig))
              (are_clients_good scripts watched (end_told rig).clients) out out' how

          rig_ran : (how : Ended) → PrintsRig how → RanRig told old out out' (end_told rig) how
          rig_ran how printed = record {
            known = known;
            tagged = tagged;
            watched = watched;
            watching = watching;
            opening = m;
            opened = opened;
            scripts = scripts;
            read = read;
            ran = ran;
            printed = printed;
            watch =
                watch_shows follows shows m told.journal (rig_config told.pdu told.jobs) (turning_of told) (end_told rig) scripts
                told.rounds watched ran;
          }

          pub rigged : (how : Ended) → PrintsRig how → RigEnds told old new out out' (Some rig) how
          rigged ended.Done printed = rig_ran ended.Done printed
          rigged ended.Jobs printed = rig_ran ended.Jobs printed
          rigged ended.Output printed = rig_ran ended.Output printed
          rigged ended.Memory printed = absurd printed
          rigged ended.Refused printed = absurd printed
          rigged ended.File printed = absurd printed
          rigged ended.Dial printed = absurd printed

-- the rig of a seed ran
module _ (seed : ℕ) (out out' : OutShown) (rig : RigEnd) where
  abbrev RanSeed : Type 0
  RanSeed = RigRan made_areas 65536 made_config (client_scripts seed) (made_turning seed) (end_told rig)

  abbrev PrintsMade : Ended → Type 0
  PrintsMade how = PrintsText (made_text (end_told rig)) (are_made_good (end_told rig).clients) out out' how

  pub seed_rigged : (how : Ended) → RanSeed → PrintsMade how → GenEnds seed out out' (Some rig) how
  seed_rigged ended.Done ran printed = record { ran = ran; printed = printed }
  seed_rigged ended.Jobs ran printed = record { ran = ran; printed = printed }
  seed_rigged ended.Output ran printed = record { ran = ran; printed = printed }
  seed_rigged ended.Memory ran printed = absurd printed
  seed_rigged ended.Refused ran printed = absurd printed
  seed_rigged ended.File ran printed = absurd printed
  seed_rigged ended.Dial ran printed = absurd printed

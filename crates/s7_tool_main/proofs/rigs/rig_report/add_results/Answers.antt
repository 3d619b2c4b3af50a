use Rattle.std.proofs.Common.{◌≡◌, ◌++◌, ◌∙◌, ap, sym, rules, append-nil}
use Rattle.std.specs.Iterator.Adapters.{zip_first, zip_second}
use Rattle.std.specs.Slice.Iter.{iter_rest}
use Rattle.std.proofs.lemmas.List.Elements.{All-head, All-rest, All-same}
use Rattle.std.proofs.lemmas.Slice.Zip.{Zip-more, either_empty_from_Zip}
use Rattle.s7_script.specs.Printing.{IsPrintable}
use Rattle.s7_tool_main.specs.RigText.{results_text}
use Rattle.s7_tool_main.proofs.TextLemmas.{results_end, results_next}
use Rattle.s7_tool_main.proofs.rigs.rig_report.add_results.Goals as goal

pub add_result-requires : goal.add_result-requires
add_result-requires c =
    let steps = Zip-more c.loop-head.head-iterator c.next.new.self c.next.result (c.in-Some.head, c.in-Some.told) c.in-Some.is c.next.ensures.steps in
    All-head IsPrintable c.in-Some.told.now (iter_rest (zip_second c.next.new.self)) (All-same IsPrintable _ _ (sym steps.1) c.loop-head.invariant.printable)

pub loop-head-preserved : goal.loop-head-preserved
loop-head-preserved c =
    let steps = Zip-more c.loop-head.head-iterator c.next.new.self c.next.result (c.in-Some.head, c.in-Some.told) c.in-Some.is c.next.ensures.steps in
    record {
      text = ap (λ t. t ++ results_text c.args.link (iter_rest (zip_first c.next.new.self)) (iter_rest (zip_second c.next.new.self))) c.in_ok-add_result.ensures
          ∙ results_next c.args.link c.loop-head.text.items c.in-Some.head.now _ _ c.in-Some.told.now _ _ steps.0 steps.1
          ∙ c.loop-head.invariant.text;
      printable = All-rest IsPrintable c.in-Some.told.now (iter_rest (zip_second c.next.new.self)) _ steps.1 c.loop-head.invariant.printable;
    }

pub returns : goal.returns
returns c =
    let it = c.into_iter-head-iterator.result in
    let first : iter_rest (zip_first it) ≡ c.args.heads.now = search rules in
    let second : iter_rest (zip_second it) ≡ c.args.results.now = search rules in
    let end = results_end c.args.link _ _ (either_empty_from_Zip c.loop-head.head-iterator c.next.new.self c.next.result c.in-None.is c.next.ensures.steps) in
    let all = c.loop-head.invariant.text in
    sym (append-nil c.loop-head.text.items) ∙ ap (λ t. c.loop-head.text.items ++ t) (sym end) ∙ all
    ∙ ap (λ ns. c.args.text.now.items ++ results_text c.args.link ns (iter_rest (zip_second it))) first
    ∙ ap (λ rs. c.args.text.now.items ++ results_text c.args.link c.args.heads.now rs) second

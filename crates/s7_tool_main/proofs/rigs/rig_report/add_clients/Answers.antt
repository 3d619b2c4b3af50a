use Rattle.std.proofs.Common.{◌≡◌, ◌++◌, ◌∙◌, List, Global, Vec, ap, map, sym, rules, append-nil}
use Rattle.std.specs.Iterator.Adapters.{zip_first, zip_second}
use Rattle.std.specs.Slice.Iter.{iter_rest}
use Rattle.std.proofs.lemmas.List.Elements.{All-head, All-rest, All-same}
use Rattle.std.proofs.lemmas.Slice.Zip.{Zip-more, either_empty_from_Zip}
use Rattle.s7_rig.specs.Shown.{client_told}
use Rattle.s7_tool_main.specs.declared.head.Head.{Head}
use Rattle.s7_tool_main.specs.RigText.{ArePrintable, client_text, clients_text}
use Rattle.s7_tool_main.proofs.TextLemmas.{clients_end, clients_next, either_mapped}
use Rattle.s7_tool_main.proofs.rigs.rig_report.add_clients.Goals as goal

pub add_client-requires : goal.add_client-requires
add_client-requires c =
    let steps = Zip-more c.loop-lines.lines-iterator c.next.new.self c.next.result (c.in-Some.lines, c.in-Some.client) c.in-Some.is c.next.ensures.steps in
    All-head ArePrintable (client_told c.in-Some.client.now) (map client_told (iter_rest (zip_second c.next.new.self)))
    (All-same ArePrintable _ _ (sym (ap (map client_told) steps.1)) c.loop-lines.invariant.printable)

pub loop-lines-preserved : goal.loop-lines-preserved
loop-lines-preserved c =
    let items : Vec Head Global → List Head = λ v. v.items in
    let steps = Zip-more c.loop-lines.lines-iterator c.next.new.self c.next.result (c.in-Some.lines, c.in-Some.client) c.in-Some.is c.next.ensures.steps in
    let left = clients_text (map items (iter_rest (zip_first c.next.new.self))) (map client_told (iter_rest (zip_second c.next.new.self))) in
    record {
      text = ap (λ t. t ++ left) (c.in_ok-add_client.ensures ∙ ap (λ ns. c.loop-lines.text.items ++ client_text ns (client_told c.in-Some.client.now)) c.as_slice.ensures.value)
          ∙ clients_next c.loop-lines.text.items (items c.in-Some.lines.now) _ _ (client_told c.in-Some.client.now) _ _ (ap (map items) steps.0) (ap (map client_told) steps.1)
          ∙ c.loop-lines.invariant.text;
      printable = All-rest ArePrintable (client_told c.in-Some.client.now) (map client_told (iter_rest (zip_second c.next.new.self))) _ (ap (map client_told) steps.1) c.loop-lines.invariant.printable;
    }

pub returns : goal.returns
returns c =
    let items : Vec Head Global → List Head = λ v. v.items in
    let it = c.into_iter-lines-iterator.result in
    let first : iter_rest (zip_first it) ≡ c.args.heads.now = search rules in
    let second : iter_rest (zip_second it) ≡ c.args.clients.now = search rules in
    let end = clients_end _ _ (either_mapped items client_told _ _ (either_empty_from_Zip c.loop-lines.lines-iterator c.next.new.self c.next.result c.in-None.is c.next.ensures.steps)) in
    sym (append-nil c.loop-lines.text.items) ∙ ap (λ t. c.loop-lines.text.items ++ t) (sym end) ∙ c.loop-lines.invariant.text
    ∙ ap (λ ns. c.args.text.now.items ++ clients_text (map items ns) (map client_told (iter_rest (zip_second it)))) first
    ∙ ap (λ cs. c.args.text.now.items ++ clients_text (map items c.args.heads.now) (map client_told cs)) second

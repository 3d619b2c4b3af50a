use Rattle.std.proofs.Common.{◌≡◌, ◌∙◌, ◌&&◌, ◌==◌, Bool, List, Global, Vec, ap, eq-eqb, map, sym, rules, length, true}
use Rattle.std.specs.Iterator.Adapters.{zip_first, zip_second}
use Rattle.std.specs.Slice.Iter.{iter_rest}
use Rattle.std.specs.List.{list_all, zip}
use Rattle.std.proofs.lemmas.List.{length-map}
use Rattle.std.proofs.lemmas.Iterator.{YieldsList-from_slice, YieldsList-from_zip}
use Rattle.std.proofs.lemmas.Iterator.Search.{all_from_yields_List}
use Rattle.s7_rig.specs.declared.end.RigClient.{RigClient}
use Rattle.s7_rig.specs.Shown.{ClientTold, client_told}
use Rattle.s7_tool_main.specs.declared.head.Head.{Head}
use Rattle.s7_tool_main.specs.RigText.{is_client_good}
use Rattle.s7_tool_main.proofs.TextLemmas.{all_mapped}
use Rattle.s7_tool_main.proofs.rigs.rig_report.are_good.Goals as goal

pub returns-then-clients-count : goal.returns-then-clients-count
returns-then-clients-count c =
    let items : Vec Head Global → List Head = λ v. v.items in
    let good : List Head × ClientTold → Bool = λ p. is_client_good p.0 p.1 in
    let first : iter_rest (zip_first c.zip.result) ≡ c.args.heads.now = search rules in
    let second : iter_rest (zip_second c.zip.result) ≡ c.args.clients.now = search rules in
    let all = all_from_yields_List (λ (p : Vec Head Global × RigClient). good (items p.0, client_told p.1)) c.all.new.self _ c.all.result c.all.ensures.ran
    (YieldsList-from_zip (YieldsList-from_slice c.args.heads.now first) (YieldsList-from_slice c.args.clients.now second))
    (λ x b q k. search rules) in
    let same = c.if-clients-count.true in
    let lengths : (length (map client_told c.args.clients.now) == c.args.count) ≡ true =
    rw (length-map c.args.clients.now client_told) (eq-eqb _ _ same) in
    all ∙ all_mapped good items client_told c.args.heads.now c.args.clients.now
    ∙ sym (ap (λ b. b && list_all good (zip (map items c.args.heads.now) (map client_told c.args.clients.now))) lengths)

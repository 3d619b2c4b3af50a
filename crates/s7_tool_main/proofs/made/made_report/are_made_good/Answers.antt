use Rattle.std.proofs.Common.{◌≡◌, ◌∙◌, ◌&&◌, ◌==◌, ap, eq-eqb, map, sym, rules, length, true}
use Rattle.std.specs.Slice.Iter.{iter_rest}
use Rattle.std.specs.List.{list_all}
use Rattle.std.proofs.lemmas.List.{length-map}
use Rattle.std.proofs.lemmas.Iterator.{YieldsList-from_slice}
use Rattle.std.proofs.lemmas.Iterator.Search.{all_from_yields_List}
use Rattle.s7_rig.specs.declared.end.RigClient.{RigClient}
use Rattle.s7_rig.specs.Shown.{client_told}
use Rattle.s7_tool_main.specs.GenText.{is_made_good}
use Rattle.s7_tool_main.proofs.TextLemmas.{all_told}
use Rattle.s7_tool_main.proofs.made.made_report.are_made_good.Goals as goal

pub returns-then-clients-eq4 : goal.returns-then-clients-eq4
returns-then-clients-eq4 c =
    let rest : iter_rest c.iter.result ≡ c.args.clients.now = search rules in
    let good = λ (client : RigClient). is_made_good (client_told client) in
    let all = all_from_yields_List good c.all.new.self _ c.all.result c.all.ensures.ran
    (YieldsList-from_slice c.args.clients.now rest) (λ x b q k. search rules) in
    let four : (length (map client_told c.args.clients.now) == 4) ≡ true =
    rw (length-map c.args.clients.now client_told) (eq-eqb _ _ c.if-clients-eq4.true) in
    all ∙ all_told is_made_good client_told c.args.clients.now
    ∙ sym (ap (λ b. b && list_all is_made_good (map client_told c.args.clients.now)) four)

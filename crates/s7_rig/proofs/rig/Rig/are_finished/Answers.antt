use Rattle.std.proofs.Common.{sym, ◌∙◌, rules, tests}
use Rattle.std.proofs.lemmas.Iterator.{YieldsList-from_slice}
use Rattle.std.proofs.lemmas.Iterator.Search.{all_from_yields_List}
use Rattle.std.proofs.lemmas.List.Folds.{list_all-map}
use Rattle.s7_rig.specs.State.{is_finished}
use Rattle.s7_rig.specs.Shown.{post_of}
use Rattle.s7_rig.proofs.rig.Rig.are_finished.Goals as goal

pub returns : goal.returns
returns c =
    let xs = c.args.self.now.stations.items in
    all_from_yields_List (λ s. is_finished (post_of s)) _ _ _ c.all.ensures.ran (YieldsList-from_slice xs cc) (λ x b q k. search (rules, tests))
    ∙ sym (list_all-map is_finished post_of xs)

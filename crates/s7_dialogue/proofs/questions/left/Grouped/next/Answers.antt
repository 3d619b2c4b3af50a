use Rattle.std.proofs.Common.{◌∙◌, sym, ap, take, rules}
use Rattle.s7_dialogue.specs.Left.{groups_in}
use Rattle.s7_dialogue.proofs.ProgressLemmas.{cut_none, cut_some}
use Rattle.s7_dialogue.proofs.questions.left.Grouped.next.Goals as goal

pub returns-in_default-end_of-clause-none : goal.returns-in_default-end_of-clause-none
returns-in_default-end_of-clause-none c =
    let ends = take c.in-Groups.groups.count c.in-Groups.groups.ends in (
      ap groups_in c.in-Groups.is
          ∙ cut_none ends c.in-Groups.next c.in-Groups.from c.in-Groups.items (sym c.in_default-end_of.ensures.end),
      search rules,
    )

pub returns-in-Some-end_of-clause-some : goal.returns-in-Some-end_of-clause-some
returns-in-Some-end_of-clause-some c =
    let ends = take c.in-Groups.groups.count c.in-Groups.groups.ends in
    ap groups_in c.in-Groups.is
    ∙ cut_some ends c.in-Groups.next c.in-Groups.from c.in-Some-end_of.end c.in-Groups.items
    c.items_between-group.result (sym c.in-Some-end_of.ensures.end) c.items_between-group.ensures

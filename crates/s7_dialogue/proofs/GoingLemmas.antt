-- Lemmas on what is left to ask.
use Rattle.std.proofs.Common.{◌≡◌, ◌+◌, ◌≤◌, Option, Some, None, List, ◌∷◌, length, ap, ◌∙◌, arith}
use Rattle.std.specs.Prelude.{IfSome, IfNone}
use Rattle.std.proofs.lemmas.List.{length-append}
use Rattle.s7_item.specs.declared.item.Item.{Item}
use Rattle.s7_dialogue.specs.declared.answers.answer.Asked.{Asked}
use Rattle.s7_dialogue.specs.declared.questions.left.Left.{Left}
use Rattle.s7_dialogue.specs.declared.questions.left.Left.TheVariants as left
use Rattle.s7_dialogue.specs.Checks.{octet_count_of}
use Rattle.s7_dialogue.specs.Left.{joined, groups_in, questions_left, items_left, octets_left, items_asked, TakesNext}
use Rattle.s7_dialogue.proofs.GroupLemmas.{octet_count_append}

-- how much less is left, once a question is taken
pub record IsLess (before after : Left) (told : Asked) : Type 0 where
  pub questions : questions_left before ≡ 1 + questions_left after
  pub octets : octets_left before ≡ octet_count_of (items_asked told) + octets_left after
  pub items : items_left before ≡ length (items_asked told) + items_left after

-- the first of groups and the others
group_less : (gs hs : List (List Item)) (items : List Item) → gs ≡ items ∷ hs
    → (length gs ≡ 1 + length hs) × (octet_count_of (joined gs) ≡ octet_count_of items + octet_count_of (joined hs))
    × (length (joined gs) ≡ length items + length (joined hs))
group_less gs hs items is = (
  omega (arith, ap length is),
  ap (λ xs. octet_count_of (joined xs)) is ∙ octet_count_append items (joined hs),
  ap (λ xs. length (joined xs)) is ∙ length-append items (joined hs),
)

pub takes_less : (before after : Left) (told : Asked) → TakesNext before told after → IsLess before after told
takes_less left.Nothing after told takes = absurd takes
takes_less left.Negotiation after told takes =
    record {
      questions = omega (arith, ap questions_left takes.1);
      octets = omega (arith, ap octets_left takes.1, ap (λ t. octet_count_of (items_asked t)) takes.0);
      items = omega (arith, ap items_left takes.1, ap (λ t. length (items_asked t)) takes.0);
    }
takes_less (left.Reads grouped) after told takes =
    let less = group_less (groups_in grouped) (groups_in takes.1) takes.0 takes.4 in
    record {
      questions = omega (arith, less.0, ap questions_left takes.3);
      octets = omega (arith, less.1, ap octets_left takes.3, ap (λ t. octet_count_of (items_asked t)) takes.2);
      items = omega (arith, less.2, ap items_left takes.3, ap (λ t. length (items_asked t)) takes.2);
    }
takes_less (left.Writes grouped) after told takes =
    let less = group_less (groups_in grouped) (groups_in takes.1) takes.0 takes.4 in
    record {
      questions = omega (arith, less.0, ap questions_left takes.3);
      octets = omega (arith, less.1, ap octets_left takes.3, ap (λ t. octet_count_of (items_asked t)) takes.2);
      items = omega (arith, less.2, ap items_left takes.3, ap (λ t. length (items_asked t)) takes.2);
    }

-- no more is left than before, whether a question is taken or not
pub record IsNoMore (before after : Left) : Type 0 where
  pub questions : questions_left after ≤ questions_left before
  pub octets : octets_left after ≤ octets_left before
  pub items : items_left after ≤ items_left before

pub next_no_more : (before after : Left) (told : Option Asked) → IfSome told (λ asked. TakesNext before asked after)
    → IfNone told ((questions_left before ≡ 0) × (after ≡ before)) → IsNoMore before after
next_no_more before after (Some told) some none =
    let less = takes_less before after told some in
    record {
      questions = omega (arith, less.questions);
      octets = omega (arith, less.octets);
      items = omega (arith, less.items);
    }
next_no_more before after None some none =
    record {
      questions = omega (arith, ap questions_left none.1);
      octets = omega (arith, ap octets_left none.1);
      items = omega (arith, ap items_left none.1);
    }

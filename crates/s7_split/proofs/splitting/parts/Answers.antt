use Rattle.std.proofs.Common.{◌≡◌, List, sym, subst}
use Rattle.std.specs.List.{AllByRecursion}
use Rattle.s7_item.specs.declared.item.Item.{Item}
use Rattle.s7_split.specs.Parts.{parts_of, AreParts, CanBeAsked, CanBeSplit}
use Rattle.s7_split.proofs.PartLemmas.{parts_at, are_parts}
use Rattle.s7_split.proofs.PartLaws.{room_some, parts_asked}
use Rattle.s7_split.proofs.splitting.parts.Goals as goal

pub returns : goal.returns
returns c =
    let all : c.of.result ≡ parts_of c.args.item.now c.args.pdu c.args.write =
    parts_at c.args.item.now c.args.pdu c.args.write c.room_of-room.result c.of.result c.room_of-room.ensures.room c.of.ensures in
    let split : CanBeSplit c.args.item.now =
    record { known = c.requires.known; some = c.requires.some; bit = c.requires.bit; inside = c.requires.inside } in
    record {
      parts = all;
      split =
          subst (AreParts c.args.item.now c.args.pdu c.args.write) (sym all)
          (are_parts c.args.item.now c.args.pdu c.args.write c.requires.some (room_some c.args.item.now c.args.pdu c.args.write c.requires.known c.requires.least));
      asked =
          subst (λ (x : List Item). AllByRecursion (CanBeAsked c.args.pdu c.args.write) x) (sym all)
          (parts_asked c.args.item.now c.args.pdu c.args.write split c.requires.least);
    }

use Rattle.std.proofs.Common.{◌∙◌, sym}
use Rattle.s7_symbol.proofs.StringLemmas.{string_past, string_roomless, string_said}
use Rattle.s7_symbol.proofs.strings.put_characters.Goals as goal

pub returns-then-not-has_room : goal.returns-then-not-has_room
returns-then-not-has_room c =
    string_roomless c.args.most c.in-Some.digits.now c.args.text.now c.args.into.now (sym c.has_room.ensures ∙ c.if-not-has_room.true) c.in-Some.ensures.some

pub returns-then-digits-from : goal.returns-then-digits-from
returns-then-digits-from c =
    string_past c.args.most c.in-Some.digits.now c.args.text.now c.from.result c.args.into.now c.from.ensures c.if-digits-from.true c.in-Some.ensures.some

pub returns : goal.returns
returns c =
    string_said c.args.most c.in-Some.digits.now c.args.text.now c.from.result c.args.into.now c.put_pairs.new.into c.put_pairs.result
    (sym c.has_room.ensures ∙ c.if-not-has_room.false) c.from.ensures c.if-digits-from.false c.in-Some.ensures.some c.put_pairs.ensures

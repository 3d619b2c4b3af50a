use Rattle.std.proofs.Common.{[], length, sym, ap, ◌∙◌, arith}
use Rattle.s7_dialogue.specs.Question.{question_octets, gives, inserts}
use Rattle.s7_dialogue.specs.Stages.{question_of_single}
use Rattle.s7_dialogue.proofs.SingleLemmas.{announce_given, insert_given}
use Rattle.s7_dialogue.proofs.questions.requests.write_single.Goals as goal

pub write_announce-requires-clause-least : goal.write_announce-requires-clause-least
write_announce-requires-clause-least c =
    let given = announce_given c.args.job.now c.requires.asks.0 c.args.ask.now c.in-Announce.field-0 c.in-Announce.is
    c.requires.asks.1 in
    omega (arith, given.least, ap length c.image_of.ensures)

pub write_announce-requires-clause-most : goal.write_announce-requires-clause-most
write_announce-requires-clause-most c =
    let given = announce_given c.args.job.now c.requires.asks.0 c.args.ask.now c.in-Announce.field-0 c.in-Announce.is
    c.requires.asks.1 in
    omega (arith, given.most, ap length c.image_of.ensures)

pub write_insert-requires-clause-least : goal.write_insert-requires-clause-least
write_insert-requires-clause-least c =
    let given = insert_given c.args.job.now c.requires.asks.0 c.args.ask.now c.in-Insert.pieces c.in-Insert.call
    c.in-Insert.is c.requires.asks.1 in
    omega (arith, given.least, ap length c.image_of-in-Insert.ensures)

pub returns-in-Give-clause-octets : goal.returns-in-Give-clause-octets
returns-in-Give-clause-octets c = λ some.
    let n = c.args.sequence in
    let give = c.in-Give in
    c.write_given.ensures.octets n
    ∙ (ap (λ image. question_octets n (gives image give.pieces.room give.from give.call)) c.image_of-in-Give.ensures
    ∙ ap (λ asked. question_octets n (question_of_single c.args.job.now asked [])) (sym give.is))

pub returns-in-Insert-clause-octets : goal.returns-in-Insert-clause-octets
returns-in-Insert-clause-octets c = λ some.
    let n = c.args.sequence in
    let insert = c.in-Insert in
    c.write_insert.ensures.octets insert.call
    ∙ (ap (λ image. question_octets n (inserts image insert.call)) c.image_of-in-Insert.ensures
    ∙ ap (λ asked. question_octets n (question_of_single c.args.job.now asked [])) (sym insert.is))

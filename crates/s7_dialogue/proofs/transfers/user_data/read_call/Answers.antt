use Rattle.std.proofs.Common.{ltb, length, sym, ap, ◌∙◌, arith}
use Rattle.std.proofs.lemmas.Bool.{and_parts, ltb-true}
use Rattle.s7_dialogue.specs.declared.stages.single.Ask.TheVariants as asked
use Rattle.s7_dialogue.specs.Question.{awaits_call, gives}
use Rattle.s7_dialogue.specs.Stages.{is_writable, has_image}
use Rattle.s7_dialogue.proofs.DownloadImageLemmas.{image_given}
use Rattle.s7_dialogue.proofs.UserReadLemmas.{call_of}
use Rattle.s7_dialogue.proofs.transfers.user_data.read_call.Goals as goal

pub read_first_call-requires : goal.read_first_call-requires
read_first_call-requires c =
    let given =
    image_given c.args.job.now c.in-AwaitCall.pieces
    (ap (is_writable c.args.job.now) (sym c.in-AwaitCall.is) ∙ c.requires.writable) in
    omega (arith, given.least, ap length c.image_of-image.ensures)

pub read_next_call-requires : goal.read_next_call-requires
read_next_call-requires c =
    let pieces = c.in-Give.pieces in
    let both = and_parts (has_image c.args.job.now pieces) (ltb c.in-Give.from pieces.len)
    (ap (is_writable c.args.job.now) (sym c.in-Give.is) ∙ c.requires.writable) in
    let given = image_given c.args.job.now pieces both.0 in
    let same = ap length c.image_of-image.ensures in
    record {
      least = omega (arith, given.least, same);
      most = omega (arith, given.most, same);
      whole = given.whole ∙ sym same;
      inside = ltb-true c.in-Give.from pieces.len both.1;
    }

pub returns-in-AwaitCall : goal.returns-in-AwaitCall
returns-in-AwaitCall c so_far =
    call_of c.args.job.now c.args.ask.now (asked.AwaitCall c.in-AwaitCall.pieces) so_far c.args.message.now _ _
    c.args.header.now c.read_first_call.result _ c.in-AwaitCall.is c.in-Job.is c.parts.ensures.params
    c.parts.ensures.body (ap awaits_call c.image_of-image.ensures) (c.read_first_call.ensures so_far)

pub returns-in-Give : goal.returns-in-Give
returns-in-Give c so_far =
    let pieces = c.in-Give.pieces in
    let from = c.in-Give.from in
    let call = c.in-Give.call in
    call_of c.args.job.now c.args.ask.now (asked.Give pieces from call) so_far c.args.message.now _ _
    c.args.header.now c.read_next_call.result _ c.in-Give.is c.in-Job.is c.parts.ensures.params
    c.parts.ensures.body (ap (λ xs. gives xs pieces.room from call) c.image_of-image.ensures)
    (c.read_next_call.ensures so_far call)

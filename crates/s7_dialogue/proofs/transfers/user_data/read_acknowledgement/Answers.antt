use Rattle.s7_dialogue.specs.declared.stages.single.Ask.TheVariants as asked
use Rattle.s7_dialogue.specs.Stages.{block_of, image_of}
use Rattle.s7_dialogue.proofs.UserReadLemmas.{told_of, part_inside}
use Rattle.s7_dialogue.proofs.transfers.user_data.read_acknowledgement.Goals as goal

pub returns-in-Upload : goal.returns-in-Upload
returns-in-Upload c job =
    told_of c.args.ask.now asked.Upload c.args.so_far.now c.args.params.now c.args.body.now c.args.error
    c.read_started.result job c.in-Upload.is c.if-error-ne0.false
    (c.read_started.ensures (block_of job) c.args.so_far.now)

pub read_part-requires : goal.read_part-requires
read_part-requires c =
    part_inside c.requires.0 c.args.ask.now c.in-Part.block c.in-Part.place c.in-Part.is c.requires.1

pub returns-in-Part : goal.returns-in-Part
returns-in-Part c job =
    told_of c.args.ask.now (asked.Part c.in-Part.block c.in-Part.place) c.args.so_far.now c.args.params.now
    c.args.body.now c.args.error
    c.read_part.result job c.in-Part.is c.if-error-ne0.false (c.read_part.ensures c.args.so_far.now)

pub returns-in-Announce : goal.returns-in-Announce
returns-in-Announce c job =
    told_of c.args.ask.now (asked.Announce c.in-Announce.pieces) c.args.so_far.now c.args.params.now c.args.body.now
    c.args.error c.read_announced.result job c.in-Announce.is c.if-error-ne0.false
    (c.read_announced.ensures (image_of job) c.args.so_far.now)

pub returns-in-Insert : goal.returns-in-Insert
returns-in-Insert c job =
    told_of c.args.ask.now (asked.Insert c.in-Insert.pieces c.in-Insert.call) c.args.so_far.now c.args.params.now
    c.args.body.now c.args.error c.read_inserted.result job c.in-Insert.is c.if-error-ne0.false
    (c.read_inserted.ensures (image_of job) c.args.so_far.now)

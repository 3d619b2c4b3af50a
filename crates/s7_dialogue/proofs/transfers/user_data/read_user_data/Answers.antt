use Rattle.s7_dialogue.proofs.UserReadLemmas.{first_told, further_told, first_of_head, further_of_head}
use Rattle.s7_dialogue.proofs.transfers.user_data.read_user_data.Goals as goal

pub returns-in-About : goal.returns-in-About
returns-in-About c job =
    first_told job c.args.ask.now c.in-About.subject c.args.so_far.now c.args.params.now c.args.body.now
    c.read_piece.result c.in-About.is (c.requires.first c.in-About.subject c.in-About.is) c.read_piece.ensures

pub returns-in-Further : goal.returns-in-Further
returns-in-Further c job =
    further_told job c.args.ask.now c.in-Further.subject c.in-Further.octet c.args.so_far.now c.args.params.now
    c.args.body.now
    c.read_piece-in-Further.result c.in-Further.is c.read_piece-in-Further.ensures

pub returns-in-Head : goal.returns-in-Head
returns-in-Head c job =
    first_of_head job c.args.ask.now c.in-Head.block c.args.so_far.now c.args.params.now c.args.body.now
    c.read_piece_of_head.result c.in-Head.is (c.requires.alone c.in-Head.block c.in-Head.is)
    c.read_piece_of_head.ensures

pub returns-in-HeadFurther : goal.returns-in-HeadFurther
returns-in-HeadFurther c job =
    further_of_head job c.args.ask.now c.in-HeadFurther.block c.in-HeadFurther.octet c.args.so_far.now
    c.args.params.now
    c.args.body.now
    c.read_piece_of_head-in-HeadFurther.result c.in-HeadFurther.is c.read_piece_of_head-in-HeadFurther.ensures

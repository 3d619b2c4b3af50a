use Rattle.std.proofs.Common.{ap, ◌∙◌}
use Rattle.s7_session.specs.Conversing.{link_of}
use Rattle.s7_session.specs.Events.{by_judgement}
use Rattle.s7_session.specs.Judged.{judgement_of}
use Rattle.s7_session.proofs.conversation.Conversation.transfer.Goals as goal

pub returns-in-End-clause-made : goal.returns-in-End-clause-made
returns-in-End-clause-made c = λ verdicts.
    let link = link_of c.args.self.now.held in
    ap (λ j. by_judgement c.args.size.octets link c.args.sequence verdicts (judgement_of link c.args.sequence j)) c.in-End.is
    ∙ c.end_upload.ensures.made verdicts

pub returns-in-Download-clause-made : goal.returns-in-Download-clause-made
returns-in-Download-clause-made c = λ verdicts.
    let link = link_of c.args.self.now.held in
    ap (λ j. by_judgement c.args.size.octets link c.args.sequence verdicts (judgement_of link c.args.sequence j))
    c.in-Download.is
    ∙ c.start_download.ensures.made verdicts

use Rattle.std.proofs.Common.{refl}
use Rattle.s7_plant.specs.Replies.{said_of}
use Rattle.s7_session.proofs.conversation.Conversation.put_upload_reply.Goals as goal

pub returns-clause-link : goal.returns-clause-link
returns-clause-link c = c.start_upload.ensures.link (said_of c.args.self.now.reply) c.if-self-ne0.false refl

-- What contracts see of a conversation.
use Rattle.std.specs.Prelude.{ℕ, List, Option, None, Some, option_map}
use Rattle.s7_session.specs.declared.conversation.Conversation.{Conversation}
use Rattle.s7_session.specs.declared.held.Held.{Held}
use Rattle.s7_session.specs.declared.size.TpduSize.{TpduSize}
use Rattle.s7_block.specs.declared.block.BlockName.{BlockName}
use Rattle.s7_block.specs.Assembly.{Progress, idle, awaiting, whole}
use Rattle.s7_session.specs.LinkState.{LinkState, Download}
use Rattle.s7_session.specs.ServerJobs.{job_of}
use Rattle.s7_session.specs.Slices.{sliced_of}

-- a link holds a download unless the progress of its image is idle
abbrev pub held_as : BlockName → Progress → Option Download
held_as name idle = None
held_as name (awaiting len octets) = Some (record { name = name; progress = awaiting len octets })
held_as name (whole octets) = Some (record { name = name; progress = whole octets })

-- the state of the link
abbrev pub link_of : Held → LinkState
link_of held = record {
  granted = held.granted;
  right = held.right;
  guard = held.guard;
  user_sequence = held.user_sequence;
  sliced = sliced_of held.slices;
  upload_id = held.upload_id;
  upload = held.upload.upload;
  job_sequence = held.job_sequence;
  download = held_as held.download.name held.download.progress;
  server_job = option_map job_of held.server_job;
}

abbrev pub tpdu_size_of : Option TpduSize → Option ℕ
tpdu_size_of size = option_map (λ (s : TpduSize). s.octets) size

-- the octets that are still to be sent
abbrev pub sends : Conversation → List ℕ
sends c = c.sender.outbox.unsent

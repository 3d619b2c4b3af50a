use Rattle.std.proofs.Common.{◌≡◌, ◌*◌, ◌++◌, [], length, drop}
use Rattle.std.specs.List.{flat_map}
use Rattle.s7_plant.specs.Answers.{kinds, kind_count}
use Rattle.s7_plant.specs.Replies.{IsReadyReply}
use Rattle.s7_plant.specs.State.{state_of}
use Rattle.s7_plant.proofs.lists.say_counts.Given as goal

-- the counts so far, and those of the kinds to come, are those of all
abbrev pub invariant-loop-kind : goal.invariant-loop-kind
invariant-loop-kind l = record {
  error : l.reply.error ≡ 0;
  params : l.reply.params.octets ≡ [];
  told : l.reply.body.octets ++ flat_map (kind_count (state_of l.plant)) (drop l.kind-index l.kind-items) ≡ flat_map (kind_count (state_of l.plant)) kinds;
  items : l.kind-items ≡ kinds;
  len : length l.reply.body.octets ≡ 4 * l.kind-index;
  ready : IsReadyReply l.reply;
}

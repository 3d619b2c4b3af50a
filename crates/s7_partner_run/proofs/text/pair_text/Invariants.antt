use Rattle.std.proofs.Common.{◌≡◌, take}
use Rattle.s7_partner_run.specs.Text.{events_text}
use Rattle.s7_partner_run.proofs.text.pair_text.Given as goal

-- the events before this one have their lines
abbrev pub invariant-loop-event : goal.invariant-loop-event
invariant-loop-event l = l.text.items ≡ events_text (take l.event-index l.events)

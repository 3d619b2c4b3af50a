-- Commands as contracts see them: texts in place of the references to them.
use Rattle.std.specs.Prelude.{◌≤◌, map, option_map}
use Rattle.s7_args.specs.Server.{ServerTold, pipe, serve}
use Rattle.s7_args.specs.Tool.{PartnerTold, RunTold, RigTold, ToolTold, gen, partner, run, rig}
use Rattle.s7_args.specs.declared.partner_words.PartnerWords.{PartnerWords}
use Rattle.s7_args.specs.declared.rig_words.RigWords.{RigWords}
use Rattle.s7_args.specs.declared.run_words.RunWords.{RunWords}
use Rattle.s7_args.specs.declared.server.ServerWords.{ServerWords}
use Rattle.s7_args.specs.declared.server.ServerWords.TheVariants.{Pipe, Serve}
use Rattle.s7_args.specs.declared.tool.ToolWords.{ToolWords}
use Rattle.s7_args.specs.declared.tool.ToolWords.TheVariants.{Run, Rig, Gen, Partner}

abbrev pub server_told_of : ServerWords → ServerTold
server_told_of (Pipe areas save journal) = pipe areas.now (option_map (λ s. s.now) save) journal
server_told_of (Serve areas port links save journal entry) =
    serve areas.now port links (option_map (λ s. s.now) save) journal entry

-- a journal takes from 1 to 262,144 entries
abbrev pub HasRoom : ServerWords → Type 0
HasRoom (Pipe areas save journal) = (1 ≤ journal) × (journal ≤ 262144)
HasRoom (Serve areas port links save journal entry) = (1 ≤ journal) × (journal ≤ 262144)

-- a service has a port from 1 to 65,535
abbrev pub HasPort : ServerWords → Type 0
HasPort (Pipe areas save journal) = Unit {0}
HasPort (Serve areas port links save journal entry) = (1 ≤ port) × (port ≤ 65535)

-- a service takes from 1 to 1,024 links
abbrev pub HasLinks : ServerWords → Type 0
HasLinks (Pipe areas save journal) = Unit {0}
HasLinks (Serve areas port links save journal entry) = (1 ≤ links) × (links ≤ 1024)

abbrev pub run_told_of : RunWords → RunTold
run_told_of r = record {
  script = r.script.now;
  host = r.host.now;
  port = r.port;
  kind = r.kind;
  rack = r.rack;
  slot = r.slot;
  pdu = r.pdu;
  polls = r.polls;
  jobs = r.jobs;
  tags = option_map (λ s. s.now) r.tags;
}

abbrev pub rig_told_of : RigWords → RigTold
rig_told_of r = record {
  areas = r.areas.now;
  scripts = map (λ s. s.now) r.scripts.items;
  turns = r.turns.items;
  seed = r.seed;
  steps = r.steps;
  pdu = r.pdu;
  journal = r.journal;
  jobs = r.jobs;
  tags = option_map (λ s. s.now) r.tags;
  watch = option_map (λ s. s.now) r.watch;
  rounds = r.rounds;
}

abbrev pub partner_told_of : PartnerWords → PartnerTold
partner_told_of p = record {
  one = p.one.now;
  other = option_map (λ s. s.now) p.other;
  host = p.host.now;
  port = p.port;
  seed = p.seed;
  steps = p.steps;
}

abbrev pub tool_told_of : ToolWords → ToolTold
tool_told_of (Run r) = run (run_told_of r)
tool_told_of (Rig r) = rig (rig_told_of r)
tool_told_of (Gen seed) = gen seed
tool_told_of (Partner p) = partner (partner_told_of p)

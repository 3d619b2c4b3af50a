use Rattle.std.proofs.Common.{ap, sym, ◌∙◌, Some, option_map, subst}
use Rattle.s7_listener.specs.Given.{HasFailed}
use Rattle.s7_server_main.specs.Asked.{AskedTold, asked_by, asked_told}
use Rattle.s7_script.specs.Naming.{naming}
use Rattle.s7_server_main.specs.End.{DoorFails, ReadsNamed, entry_asked}
use Rattle.s7_program.specs.Output.{Printed}
use Rattle.s7_server_main.specs.Report.{door_line}
use Rattle.s7_args.specs.Shown.{server_told_of}
use Rattle.s7_server_main.proofs.FileLemmas.{broken, door_told}
use Rattle.s7_server_main.proofs.server.server_main.Goals as goal

pub returns-in-Pipe-clause-broken_off : goal.returns-in-Pipe-clause-broken_off
returns-in-Pipe-clause-broken_off g c =
    let asked = asked_told c.asked_of-asked.result in
    let out = g.U.Out.shows in
    let files = g.F.Files.shows in
    λ is.
    broken g.L.Link.shows asked ⊥ c.run_pipe-ended.result.run (files c.args.files.now) (files c.run_pipe-ended.new.files)
    (out c.args.out.now) (out c.run_pipe-ended.new.out) c.run_pipe-ended.result.ended _
    (ap (λ (a : AskedTold). a.entry) c.asked_of-asked.ensures
    ∙ ap (λ o. entry_asked (option_map server_told_of o)) (sym c.in-Ok-Some.field-0-is)
    ∙ ap entry_asked c.in-Ok-Some.ensures.told)
    (sym c.status_of.ensures ∙ is) c.run_pipe-ended.ensures.ended

pub returns-in-Serve-clause-broken_off : goal.returns-in-Serve-clause-broken_off
returns-in-Serve-clause-broken_off g c =
    let asked = asked_told c.asked_of-asked.result in
    let out = g.U.Out.shows in
    let files = g.F.Files.shows in
    let door = g.D.Door.shows in
    λ is.
    broken g.L.Link.shows asked (ReadsNamed (naming asked.areas) (files c.args.files.now)
    × HasFailed c.in-Serve.port (door c.args.door.now) (door c.run_serve-ended.new.door))
    c.run_serve-ended.result.1 (files c.args.files.now) (files c.run_serve-ended.new.files)
    (out c.args.out.now) (out c.run_serve-ended.new.out) c.run_serve-ended.result.0 _
    (ap (λ (a : AskedTold). a.entry) c.asked_of-asked.ensures
    ∙ ap (λ o. entry_asked (option_map server_told_of o)) (sym c.in-Ok-Some.field-0-is)
    ∙ ap entry_asked c.in-Ok-Some.ensures.told)
    (sym c.status_of-in-Serve.ensures ∙ is) c.run_serve-ended.ensures.ended

pub returns-in-Serve-clause-door_failed : goal.returns-in-Serve-clause-door_failed
returns-in-Serve-clause-door_failed g c =
    let asked = asked_told c.asked_of-asked.result in
    let out = g.U.Out.shows in
    let files = g.F.Files.shows in
    let door = g.D.Door.shows in
    let failed = HasFailed c.in-Serve.port (door c.args.door.now) (door c.run_serve-ended.new.door) in
    λ is.
    subst (λ o. DoorFails o (files c.args.files.now) (door c.args.door.now) (door c.run_serve-ended.new.door)
    (out c.args.out.now) (out c.run_serve-ended.new.out))
    (ap (λ x. Some (server_told_of x)) (sym c.in-Serve.is) ∙ ap (option_map server_told_of) (sym c.in-Ok-Some.field-0-is)
    ∙ c.in-Ok-Some.ensures.told)
    (subst (λ (a : AskedTold). (ReadsNamed (naming a.areas) (files c.args.files.now) × failed)
    × Printed (out c.args.out.now) (out c.run_serve-ended.new.out) door_line)
    (c.asked_of-asked.ensures ∙ ap (λ x. asked_by (server_told_of x)) c.in-Serve.is)
    (door_told g.L.Link.shows asked (ReadsNamed (naming asked.areas) (files c.args.files.now) × failed)
    c.run_serve-ended.result.1 (files c.args.files.now) (files c.run_serve-ended.new.files) (out c.args.out.now)
    (out c.run_serve-ended.new.out) c.run_serve-ended.result.0 (sym c.status_of-in-Serve.ensures ∙ is)
    c.run_serve-ended.ensures.ended))

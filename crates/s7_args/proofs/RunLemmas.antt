-- The numbers of both programs' commands, each in its range.
use Rattle.std.proofs.Common.{refl, codes}
use Rattle.s7_args.specs.Fields.{port, journal}
use Rattle.s7_args.specs.Server.{pipe_line, serve_line, links, at_entry}
use Rattle.s7_args.specs.Tool.{run_line, kind, rack, slot, pdu, polls, jobs, rig_line, seed, steps, rounds, gen_line, made_from, partner_line}
use Rattle.s7_args.proofs.Commands.{ReadsNumber, ReadsOption, number_is, number_or_is}
use Rattle.s7_args.proofs.Lines.{pipe_is, serve_is, run_is, rig_is, gen_is, partner_is}

pub port_is : ReadsNumber (codes "run") run_line run_is port 16 1 65535 102
port_is = number_or_is (codes "run") run_line run_is port 16 1 65535 102 refl refl refl refl

pub kind_is : ReadsNumber (codes "run") run_line run_is kind 8 1 3 1
kind_is = number_or_is (codes "run") run_line run_is kind 8 1 3 1 refl refl refl refl

pub rack_is : ReadsNumber (codes "run") run_line run_is rack 8 0 7 0
rack_is = number_or_is (codes "run") run_line run_is rack 8 0 7 0 refl refl refl refl

pub slot_is : ReadsNumber (codes "run") run_line run_is slot 8 0 31 2
slot_is = number_or_is (codes "run") run_line run_is slot 8 0 31 2 refl refl refl refl

pub pdu_is : ReadsNumber (codes "run") run_line run_is pdu 16 64 1920 480
pdu_is = number_or_is (codes "run") run_line run_is pdu 16 64 1920 480 refl refl refl refl

pub polls_is : ReadsNumber (codes "run") run_line run_is polls 32 1 4294967295 50
polls_is = number_or_is (codes "run") run_line run_is polls 32 1 4294967295 50 refl refl refl refl

pub jobs_is : ReadsNumber (codes "run") run_line run_is jobs 16 1 8 1
jobs_is = number_or_is (codes "run") run_line run_is jobs 16 1 8 1 refl refl refl refl

pub journal_is : ReadsNumber (codes "pipe") pipe_line pipe_is journal 64 1 262144 65536
journal_is = number_or_is (codes "pipe") pipe_line pipe_is journal 64 1 262144 65536 refl refl refl refl

pub serve_port_is : ReadsNumber (codes "serve") serve_line serve_is port 16 1 65535 102
serve_port_is = number_or_is (codes "serve") serve_line serve_is port 16 1 65535 102 refl refl refl refl

pub links_is : ReadsNumber (codes "serve") serve_line serve_is links 16 1 1024 16
links_is = number_or_is (codes "serve") serve_line serve_is links 16 1 1024 16 refl refl refl refl

pub serve_journal_is : ReadsNumber (codes "serve") serve_line serve_is journal 64 1 262144 65536
serve_journal_is = number_or_is (codes "serve") serve_line serve_is journal 64 1 262144 65536 refl refl refl refl

pub at_entry_is : ReadsOption (codes "serve") serve_line serve_is at_entry 64
at_entry_is = number_is (codes "serve") serve_line serve_is at_entry 64 0 262144 refl refl refl

pub seed_is : ReadsNumber (codes "rig") rig_line rig_is seed 32 0 4294967295 0
seed_is = number_or_is (codes "rig") rig_line rig_is seed 32 0 4294967295 0 refl refl refl refl

pub steps_is : ReadsNumber (codes "rig") rig_line rig_is steps 32 0 1000000 0
steps_is = number_or_is (codes "rig") rig_line rig_is steps 32 0 1000000 0 refl refl refl refl

pub rig_pdu_is : ReadsNumber (codes "rig") rig_line rig_is pdu 16 64 1920 480
rig_pdu_is = number_or_is (codes "rig") rig_line rig_is pdu 16 64 1920 480 refl refl refl refl

pub rig_journal_is : ReadsNumber (codes "rig") rig_line rig_is journal 64 1 262144 65536
rig_journal_is = number_or_is (codes "rig") rig_line rig_is journal 64 1 262144 65536 refl refl refl refl

pub rig_jobs_is : ReadsNumber (codes "rig") rig_line rig_is jobs 16 1 8 1
rig_jobs_is = number_or_is (codes "rig") rig_line rig_is jobs 16 1 8 1 refl refl refl refl

pub rounds_given : ReadsOption (codes "rig") rig_line rig_is rounds 32
rounds_given = number_is (codes "rig") rig_line rig_is rounds 32 1 10000 refl refl refl

pub rounds_is : ReadsNumber (codes "rig") rig_line rig_is rounds 32 1 10000 1
rounds_is = number_or_is (codes "rig") rig_line rig_is rounds 32 1 10000 1 refl refl refl refl

pub made_from_is : ReadsNumber (codes "gen") gen_line gen_is made_from 32 0 4294967295 0
made_from_is = number_or_is (codes "gen") gen_line gen_is made_from 32 0 4294967295 0 refl refl refl refl

pub partner_port_is : ReadsNumber (codes "partner") partner_line partner_is port 16 1 65535 102
partner_port_is = number_or_is (codes "partner") partner_line partner_is port 16 1 65535 102 refl refl refl refl

pub partner_seed_is : ReadsNumber (codes "partner") partner_line partner_is seed 32 0 4294967295 0
partner_seed_is = number_or_is (codes "partner") partner_line partner_is seed 32 0 4294967295 0 refl refl refl refl

pub partner_steps_is : ReadsNumber (codes "partner") partner_line partner_is steps 32 0 1000000 0
partner_steps_is = number_or_is (codes "partner") partner_line partner_is steps 32 0 1000000 0 refl refl refl refl

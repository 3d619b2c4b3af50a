use Rattle.s7_partner_run.specs.Pairs.{end_told, state_of}
use Rattle.s7_partner_run.proofs.PairLemmas.{pair_ran}
use Rattle.s7_partner_run.proofs.runs.run_pair.Goals as goal

pub returns : goal.returns
returns c =
    pair_ran c.args.config c.args.one c.args.other
    (record {
      least_pdu = c.requires.least_pdu;
      most_pdu = c.requires.most_pdu;
      least_jobs = c.requires.least_jobs;
      most_jobs = c.requires.most_jobs;
    })
    c.args.seed c.args.steps (end_told c.into_end.result) (state_of c.in_ok-pair.pair) (state_of c.run.new.self)
    c.in_ok-pair.ensures c.in_ok-run.ensures c.into_end.ensures

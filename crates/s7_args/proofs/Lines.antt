-- The commands of both programs are built by their lines.
use Rattle.std.proofs.Common.{refl, codes, None, Some}
use Rattle.s7_args.specs.Fields.{port, journal}
use Rattle.s7_args.specs.Server.{pipe_line, save, serve_line, links, at_entry}
use Rattle.s7_args.specs.Tool.{run_line, host, kind, rack, slot, pdu, polls, jobs, rig_line, turns, seed, steps, tags, watch, rounds, gen_line, partner_line}
use Rattle.s7_args.proofs.Commands.{IsCommand, long_known}

pub pipe_is : IsCommand (codes "pipe") pipe_line
pipe_is = record {
  is_built = refl;
  is_free = refl;
  is_simple_too = refl;
  has_name = refl;
  fields = refl;
  known = (long_known _ save refl refl, (long_known _ journal refl refl, tt));
  placed = (refl, record { long = None; index = Some 1; found = refl; small = refl }, refl);
  operands = (refl, tt);
  options = (refl, (refl, tt));
}

pub serve_is : IsCommand (codes "serve") serve_line
serve_is = record {
  is_built = refl;
  is_free = refl;
  is_simple_too = refl;
  has_name = refl;
  fields = refl;
  known = (long_known _ port refl refl, (long_known _ links refl refl, (long_known _ journal refl refl, (long_known _ save refl refl, (long_known _ at_entry refl refl, tt)))));
  placed = (refl, record { long = None; index = Some 1; found = refl; small = refl }, refl);
  operands = (refl, tt);
  options = (refl, (refl, (refl, (refl, (refl, tt)))));
}

pub run_is : IsCommand (codes "run") run_line
run_is = record {
  is_built = refl;
  is_free = refl;
  is_simple_too = refl;
  has_name = refl;
  fields = refl;
  known = (long_known _ host refl refl, (long_known _ port refl refl, (long_known _ kind refl refl, (long_known _ rack refl refl, (long_known _ slot refl refl, (long_known _ pdu refl refl, (long_known _ polls refl refl, (long_known _ jobs refl refl, (long_known _ tags refl refl, tt)))))))));
  placed = (refl, record { long = None; index = Some 1; found = refl; small = refl }, refl);
  operands = (refl, tt);
  options = (refl, (refl, (refl, (refl, (refl, (refl, (refl, (refl, (refl, tt)))))))));
}

pub rig_is : IsCommand (codes "rig") rig_line
rig_is = record {
  is_built = refl;
  is_free = refl;
  is_simple_too = refl;
  has_name = refl;
  fields = refl;
  known = (long_known _ turns refl refl, (long_known _ seed refl refl, (long_known _ steps refl refl, (long_known _ pdu refl refl, (long_known _ journal refl refl, (long_known _ jobs refl refl, (long_known _ tags refl refl, (long_known _ watch refl refl, (long_known _ rounds refl refl, tt)))))))));
  placed = (refl, record { long = None; index = Some 1; found = refl; small = refl }, (refl, record { long = None; index = Some 2; found = refl; small = refl }, refl));
  operands = (refl, (refl, tt));
  options = (refl, (refl, (refl, (refl, (refl, (refl, (refl, (refl, (refl, tt)))))))));
}

pub gen_is : IsCommand (codes "gen") gen_line
gen_is = record {
  is_built = refl;
  is_free = refl;
  is_simple_too = refl;
  has_name = refl;
  fields = refl;
  known = tt;
  placed = (refl, record { long = None; index = Some 1; found = refl; small = refl }, refl);
  operands = (refl, tt);
  options = tt;
}

pub partner_is : IsCommand (codes "partner") partner_line
partner_is = record {
  is_built = refl;
  is_free = refl;
  is_simple_too = refl;
  has_name = refl;
  fields = refl;
  known = (long_known _ host refl refl, (long_known _ port refl refl, (long_known _ seed refl refl, (long_known _ steps refl refl, tt))));
  placed = (refl, record { long = None; index = Some 1; found = refl; small = refl }, (refl, record { long = None; index = Some 2; found = refl; small = refl }, refl));
  operands = (refl, (refl, tt));
  options = (refl, (refl, (refl, (refl, tt))));
}

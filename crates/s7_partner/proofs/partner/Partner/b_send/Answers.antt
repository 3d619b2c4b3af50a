use Rattle.std.proofs.Common.{◌≡◌, ◌<◌, refl, rules, arith, ap, ◌∙◌}
use Rattle.std.specs.Prelude.{None}
use Rattle.s7_partner.specs.Held.{closed_of, code_in, sending_of}
use Rattle.s7_partner.specs.Calls.{HasSize}
use Rattle.s7_partner.proofs.StandLemmas.{gives_stands}
use Rattle.s7_partner.proofs.partner.Partner.b_send.Goals as goal

pub returns-clause-given : goal.returns-clause-given
returns-clause-given c =
    let opened : closed_of c.args.self.now ≡ None = search rules in
    let idle : sending_of c.args.self.now ≡ None = search rules in
    let size : HasSize c.args.body = search rules in
    let numbered : c.args.rid < 4294967296 = omega (arith, c.ranges.rid.fits) in
    let keeps = c.put_if_going.ensures.keeps in
    record {
      opened = opened;
      idle = idle;
      size = size;
      role = keeps.role;
      config = keeps.config;
      unread = keeps.inbox;
      stands = gives_stands c.args.self.now _ c.put_if_going.new.self _ c.args.rid c.args.body
          (ap code_in c.put_if_going.ensures.rest.stage ∙ opened) idle numbered size
          (record { role = keeps.role; config = keeps.config; reader = keeps.reader; inbox = keeps.inbox })
          refl refl c.number_after-number.ensures refl refl refl refl refl refl refl refl c.put_if_going.ensures.goes;
    }

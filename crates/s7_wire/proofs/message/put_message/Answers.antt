use Rattle.std.proofs.Common.{rules, ◌≡◌, ◌+◌, ◌++◌, length, ap, sym, subst, List, ℕ, arith}
use Rattle.std.specs.List.{flat_map, AllByRecursion}
use Rattle.s7_cotp.specs.Pairs.{pairs_of}
use Rattle.s7_wire.specs.Sent.{fragment_octets}
use Rattle.s7_wire.proofs.SendLemmas.{LiesIn, length-sent, sent_lie}
use Rattle.s7_wire.proofs.message.put_message.Goals as goal

pub loop-start-init : goal.loop-start-init
loop-start-init c =
    let m = c.args.message.now in
    let is : c.into_iter-start-iterator.result ≡ pairs_of (length m) c.args.size = search rules in
    let P : List (ℕ × ℕ) → Type 0 = λ ps. AllByRecursion (LiesIn (length m)) ps in
    record {
      may = tt;
      ends = tt;
      sent = ap (λ ps. c.args.outbox.now.unsent ++ flat_map (fragment_octets m) ps) is;
      room = omega (arith, ap (λ ps. length (flat_map (fragment_octets m) ps)) is, length-sent m c.args.size c.requires.fits c.requires.least, c.requires.room);
      left = ap (λ ps. c.args.outbox.now.room + length (flat_map (fragment_octets m) ps)) (sym is);
      lie = subst P (sym is) (sent_lie m c.args.size);
    }

pub returns-clause-most : goal.returns-clause-most
returns-clause-most c = length-sent c.args.message.now c.args.size c.requires.fits c.requires.least

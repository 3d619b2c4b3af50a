use Rattle.std.proofs.Common.{◌≡◌, arith}
use Rattle.std.specs.Prelude.{unwrap_or}
use Rattle.s7_item.specs.Word.{size_of}
use Rattle.s7_split.proofs.PartLemmas.{size_some}
use Rattle.s7_split.proofs.splitting.size.Goals as goal

pub returns-clause-some : goal.returns-clause-some
returns-clause-some c =
    let is : c.unwrap_or.result ≡ unwrap_or (size_of c.args.item.now.word) 0 = cc in
    omega (arith, is, (size_some c.args.item.now.word c.requires).0)

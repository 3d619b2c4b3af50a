-- What a doer keeps of what it entered.
use Rattle.std.specs.Prelude.{ℕ}
use Rattle.s7_plant.specs.declared.request.Ask.{Ask}
use Rattle.s7_plant.specs.Replies.{Said}

-- an entry: its number in the history, what was asked, as the history keeps it, and the reply
pub record Entry : Type 0 where
  pub number : ℕ
  pub ask : Ask
  pub reply : Said

-- what an entry's telegram asked, and its reply
abbrev pub answered : Entry → Ask × Said
answered e = (e.ask, e.reply)

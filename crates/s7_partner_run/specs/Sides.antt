-- The result of one partner that was given the blocks of a list.
use Rattle.std.specs.Prelude.{◌≡◌, ℕ, List, ◌++◌}
use Rattle.s7_dialogue.specs.declared.config.Config.{Config}
use Rattle.s7_partner.specs.declared.role.Role.{Role}
use Rattle.s7_partner.specs.States.{Act, Parcel, given_in, handed_in}
use Rattle.s7_partner.specs.Partners.{Course}
use Rattle.s7_partner.specs.Pairs as partners
use Rattle.s7_partner_run.specs.declared.event.News.{News}
use Rattle.s7_partner_run.specs.Events.{received_in, sent_in}

-- ONE PARTNER was given a prefix of these blocks, in order, and reported these news: it took a course of acts by the
-- octets that it used and transmitted, and reported each block that it handed out and each end of a send.
pub record IsSide (role : Role) (config : Config) (blocks : List Parcel) (told : List News) : Type 0 where
  pub acts : List Act
  pub used : List ℕ
  pub written : List ℕ
  pub course : Course role config acts used written
  pub rest : List Parcel
  pub given : blocks ≡ given_in acts ++ rest
  pub received : received_in told ≡ handed_in role config acts
  pub sent : sent_in told ≡ partners.sent_in role config acts

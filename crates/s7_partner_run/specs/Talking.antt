-- A partner with the blocks that weren't given to it yet, and its turns over a link.
use Rattle.std.specs.Prelude.{◌≡◌, ◌⊎◌, ℕ, zero, suc, ◌==◌, ◌&&◌, ◌||◌, not, Bool, true, false, List, [], ◌∷◌, ◌++◌}
use Rattle.std.specs.Prelude.{length, map, Option, None, Some, IsSome, is_none, Result, Ok}
use Rattle.s7_outer.specs.Shown.{Shown}
use Rattle.s7_outer.specs.declared.memory.Memory.{Memory}
use Rattle.s7_dialogue.specs.declared.config.Config.{Config}
use Rattle.s7_partner.specs.declared.role.Role.{Role}
use Rattle.s7_partner.specs.declared.event.PartnerEvent.{PartnerEvent}
use Rattle.s7_partner.specs.declared.partner.Partner.{Partner}
use Rattle.s7_partner.specs.States.{Parcel}
use Rattle.s7_partner.specs.Held.{closed_of, sending_of}
use Rattle.s7_partner.specs.Calls.{IsNew, IsGiven, IsPoll}
use Rattle.s7_script.specs.declared.sends.send_list.SendLine.{SendLine}
use Rattle.s7_partner_run.specs.declared.event.News.{News}
use Rattle.s7_partner_run.specs.declared.talker.Talker.{Talker}
use Rattle.s7_partner_run.specs.Events.{news_by, is_idle_by, list_of}

pub record Post : Type 0 where
  -- the blocks that weren't given to it yet
  pub rest : List SendLine
  pub partner : Partner
  -- its last poll reported that nothing is outstanding
  pub is_idle : Bool

abbrev pub post_of : Talker → Post
post_of t = record { rest = t.rest.items; partner = t.partner; is_idle = t.is_idle }

-- a partner that has done nothing
pub record IsFresh (role : Role) (config : Config) (sends : List SendLine) (p : Post) : Type 0 where
  pub rest : p.rest ≡ sends
  pub partner : IsNew p.partner role config
  pub waits : p.is_idle ≡ false

abbrev pub block_of : SendLine → Parcel
block_of line = record { rid = line.rid; body = line.body }

abbrev pub blocks_of : List SendLine → List Parcel
blocks_of lines = map block_of lines

abbrev pub is_sending : Post → Bool
is_sending p = not (is_none (sending_of p.partner))

abbrev pub is_closed : Post → Bool
is_closed p = not (is_none (closed_of p.partner))

-- every block was given and acknowledged
abbrev pub is_acknowledged : Post → Bool
is_acknowledged p = length p.rest == 0 && not (is_sending p)

-- every block was given and acknowledged, and nothing is outstanding
abbrev pub is_done : Post → Bool
is_done p = p.is_idle && is_acknowledged p

-- ---- a turn

-- the next block is given
pub record GivesNext (old new : Post) : Type 0 where
  pub line : SendLine
  pub rest : List SendLine
  pub left : old.rest ≡ line ∷ rest
  pub partner : Partner
  pub given : IsGiven old.partner partner line.rid line.body
  pub same : new ≡ record old { rest = rest; partner = partner }

-- no block is given: one is unacknowledged, or none is left
pub record GivesNone (old new : Post) : Type 0 where
  pub none : (is_sending old ≡ true) ⊎ (old.rest ≡ [])
  pub same : new ≡ old

-- the partner polls once
pub record PollsOnce (old : Post) (link : Shown) (new : Post) (link' : Shown) (result : Result (Option News) Memory)
    : Type 0 where
  pub partner : Partner
  pub told : Result PartnerEvent Memory
  pub poll : IsPoll old.partner link partner link' told
  pub same : new ≡ record old { partner = partner; is_idle = is_idle_by told }
  pub news : result ≡ news_by told

-- A partner that isn't closed is given its next block if none is unacknowledged, and polls once.
pub record Talks (old : Post) (link : Shown) (new : Post) (link' : Shown) (result : Result (Option News) Memory)
    : Type 0 where
  pub opened : is_closed old ≡ false
  pub ready : Post
  pub gives : GivesNext old ready ⊎ GivesNone old ready
  pub polls : PollsOnce ready link new link' result

pub record IsStill (old : Post) (link : Shown) (new : Post) (link' : Shown) (result : Result (Option News) Memory)
    : Type 0 where
  pub closed : is_closed old ≡ true
  pub same : new ≡ old
  pub same_link : link' ≡ link
  pub no_news : result ≡ Ok None

-- A TURN over a link; a partner that is closed does nothing
abbrev pub IsTurn : Post → Shown → Post → Shown → Result (Option News) Memory → Type 0
IsTurn old link new link' result = Talks old link new link' result ⊎ IsStill old link new link' result

-- ---- turns one after another

-- all blocks of the partner are acknowledged, or it is closed
abbrev pub is_over : Post → Bool
is_over p = is_closed p || is_acknowledged p

-- TURNS of a partner over a link, at most this number, with the news in them. They end when all its blocks are
-- acknowledged or it is closed.
unfoldable pub Goes : ℕ → Post → Shown → Post → Shown → List News → Type 0
Goes zero old link new link' news = (new ≡ old) × (link' ≡ link) × (news ≡ [])
Goes (suc more) old link new link' news =
    ((is_over old ≡ true) × (new ≡ old) × (link' ≡ link) × (news ≡ []))
    ⊎ ((is_over old ≡ false) × (middle : Post) × (link'' : Shown) × (first : Option News) × (later : List News)
    × IsTurn old link middle link'' (Ok first) × Goes more middle link'' new link' later
    × (news ≡ list_of first ++ later))

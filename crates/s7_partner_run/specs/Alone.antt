-- An active partner over one link, whose news is printed.
use Rattle.std.specs.Prelude.{◌≡◌, ◌⊎◌, ℕ, ◌<◌, ◌&&◌, not, Bool, true, false, List, [], ◌∷◌, ◌++◌, Option, Some, Result, Ok, Err, if◌then◌else◌}
use Rattle.std.specs.Io.KnownBytes.{prepend_known, append_known}
use Rattle.s7_outer.specs.Count.{Rose}
use Rattle.s7_outer.specs.Out.{AppendsPrefix}
use Rattle.s7_outer.specs.OutShown.{OutShown}
use Rattle.s7_outer.specs.Shown.{Shown}
use Rattle.s7_outer.specs.declared.memory.Memory.{Memory}
use Rattle.s7_dialogue.specs.declared.config.Config.{Config}
use Rattle.s7_partner.specs.declared.role.Role.{Role}
use Rattle.s7_partner.specs.Held.{closed_of}
use Rattle.s7_script.specs.declared.sends.send_list.SendLine.{SendLine}
use Rattle.s7_partner_run.specs.declared.alone.TalkEnd.{TalkEnd}
use Rattle.s7_partner_run.specs.declared.alone.TalkEnd.TheVariants as end
use Rattle.s7_partner_run.specs.declared.event.News.{News}
use Rattle.s7_partner_run.specs.declared.event.News.TheVariants as news
use Rattle.s7_partner_run.specs.Events.{list_of}
use Rattle.s7_partner_run.specs.Text.{active_text, actives_text}
use Rattle.s7_partner_run.specs.Talking.{Post, is_acknowledged, is_closed, is_over, IsTurn, Goes, blocks_of}
use Rattle.s7_partner_run.specs.Sides.{IsSide}

-- the most turns that are taken
abbrev pub most_turns : ℕ
most_turns = 18446744073709551615

-- all blocks of a partner were acknowledged, and it isn't closed
abbrev pub has_sent_all : Post → Bool
has_sent_all p = is_acknowledged p && not (is_closed p)

-- how the turns ended, once no further turn is to be taken
abbrev pub end_of : Post → TalkEnd
end_of p = if has_sent_all p then end.Sent else end.Unsent

-- turns over the link, at most this number, and the lines of all news in them
pub record Tells (most : ℕ) (old : Post) (link : Shown) (out : OutShown) (new : Post) (link' : Shown) (out' : OutShown)
    : Type 0 where
  pub news : List News
  pub goes : Goes most old link new link' news
  pub text : out'.text ≡ append_known out.text (actives_text news)

-- the partner took some turns, fewer than the most, after which it wasn't over, and one more turn, which ended in this
-- way
pub record TellsThen (old : Post) (link : Shown) (out : OutShown) (new : Post) (link' : Shown) (out' : OutShown)
    (ends : OutShown → Result (Option News) Memory → Type 0) : Type 0 where
  pub made : ℕ
  pub middle : Post
  pub link'' : Shown
  pub out'' : OutShown
  pub few : made < most_turns
  pub tells : Tells made old link out middle link'' out''
  pub going : is_over middle ≡ false
  pub result : Result (Option News) Memory
  pub turn : IsTurn middle link'' new link' result
  pub so : ends out'' result

-- the output failed at the line of a partner's news
pub record BreaksOff (out' : OutShown) (out'' : OutShown) (result : Result (Option News) Memory) : Type 0 where
  pub news : News
  pub told : result ≡ Ok (Some news)
  pub front : AppendsPrefix out''.text out'.text (active_text news)
  pub failed : Rose out''.faults out'.faults

-- an allocation failed: for a block that was to be handed out, or for the line of a partner's news, which wasn't
-- printed
pub record LacksMemory (out' : OutShown) (out'' : OutShown) (result : Result (Option News) Memory) : Type 0 where
  pub wanting : ((memory : Memory) × (result ≡ Err memory)) ⊎ ((news : News) × (result ≡ Ok (Some news)))
  pub same : out'.text ≡ out''.text

-- the result of printing the line of its news
abbrev pub PrintsNews : News → OutShown → OutShown → Result Unit TalkEnd → Type 0
PrintsNews news out out' (Ok done) = out'.text ≡ append_known out.text (active_text news)
PrintsNews news out out' (Err end.Sent) = ⊥
PrintsNews news out out' (Err end.Unsent) = ⊥
PrintsNews news out out' (Err end.Output) =
    AppendsPrefix out.text out'.text (active_text news) × Rose out.faults out'.faults
PrintsNews news out out' (Err end.Memory) = out' ≡ out

-- the result of a turn and of printing its line
abbrev pub TalksOnce : Post → Shown → OutShown → Post → Shown → OutShown → Result Unit TalkEnd → Type 0
TalksOnce old link out new link' out' (Ok done) =
    (news : Option News) × IsTurn old link new link' (Ok news)
    × (out'.text ≡ append_known out.text (actives_text (list_of news)))
TalksOnce old link out new link' out' (Err end.Sent) = ⊥
TalksOnce old link out new link' out' (Err end.Unsent) = ⊥
TalksOnce old link out new link' out' (Err end.Output) =
    (result : Result (Option News) Memory) × IsTurn old link new link' result × BreaksOff out' out result
TalksOnce old link out new link' out' (Err end.Memory) =
    (result : Result (Option News) Memory) × IsTurn old link new link' result × LacksMemory out' out result

-- HOW A PARTNER TALKED over a link
abbrev pub Talked : Post → Shown → OutShown → Post → Shown → OutShown → TalkEnd → Type 0
Talked old link out new link' out' end.Sent = Tells most_turns old link out new link' out' × (has_sent_all new ≡ true)
Talked old link out new link' out' end.Unsent =
    Tells most_turns old link out new link' out' × (has_sent_all new ≡ false)
Talked old link out new link' out' end.Output = TellsThen old link out new link' out' (BreaksOff out')
Talked old link out new link' out' end.Memory = TellsThen old link out new link' out' (LacksMemory out')

-- ---- the result

-- the last news of a partner has the error number with which the partner closed
pub record EndsClosed (p : Post) (told : List News) : Type 0 where
  pub front : List News
  pub code : ℕ
  pub closed : closed_of p.partner ≡ Some code
  pub last : told ≡ front ++ news.Closed code ∷ []

-- ONE PARTNER ran over a link: it took from the link the octets that it used, and what it transmitted was written on
-- the link
pub record IsSideOver (role : Role) (config : Config) (sends : List SendLine) (link link' : Shown) (news : List News)
    : Type 0 where
  pub side : IsSide role config (blocks_of sends) news
  -- the octets that it took and didn't use
  pub kept : List ℕ
  pub took : link.left ≡ prepend_known (side.used ++ kept) link'.left
  pub wrote : link'.written ≡ append_known link.written side.written

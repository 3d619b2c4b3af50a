-- What the command `partner` does, by this profile's own rules.
use Rattle.std.specs.Prelude.{◌≡◌, ◌⊎◌, ℕ, Bool, true, List, [], length, Option, Some, None, IsNone, IsSomeAnd, MatchOption}
use Rattle.s7_outer.specs.Count.{Rose}
use Rattle.s7_outer.specs.DialShown.{DialShown}
use Rattle.s7_outer.specs.FilesShown.{FilesShown}
use Rattle.s7_outer.specs.OutShown.{OutShown}
use Rattle.s7_outer.specs.Shown.{Shown}
use Rattle.s7_dialogue.specs.declared.config.Config.{Config}
use Rattle.s7_partner.specs.declared.role.Role.TheVariants.{Active}
use Rattle.s7_script.specs.declared.sends.send_list.SendLine.{SendLine}
use Rattle.s7_partner_run.specs.declared.alone.TalkEnd.{TalkEnd}
use Rattle.s7_partner_run.specs.declared.alone.TalkEnd.TheVariants as end
use Rattle.s7_partner_run.specs.declared.event.News.{News}
use Rattle.s7_partner_run.specs.Events.{sent_in}
use Rattle.s7_partner_run.specs.Text.{actives_text, events_text}
use Rattle.s7_partner_run.specs.Talking.{Post, IsFresh, is_closed}
use Rattle.s7_partner_run.specs.Pairs.{EndTold, PairRan}
use Rattle.s7_partner_run.specs.Alone.{EndsClosed, IsSideOver, Talked}
use Rattle.s7_args.specs.Tool.{PartnerTold}
use Rattle.s7_program.specs.Lines.{memory_line}
use Rattle.s7_program.specs.Output.{Gains, Printed}
use Rattle.s7_tool_main.specs.declared.ended.Ended.{Ended}
use Rattle.s7_tool_main.specs.declared.ended.Ended.TheVariants as ended
use Rattle.s7_tool_main.specs.declared.ended.RunEnd.{RunEnd}
use Rattle.s7_tool_main.specs.Loading.{PathFails, ReadsSends, RefusesSends}
use Rattle.s7_tool_main.specs.Report.{PrintsText, dial_line}

-- the configuration of partners: programming devices at rack 0 and slot 2, with a PDU of 480 and one telegram at a time
abbrev pub partner_config : Config
partner_config = record { calling = 0x0100; called = 0x0102; pdu = 480; jobs = 1; polls = 50 }

-- ---- two partners in memory

-- TWO PARTNERS RAN over two pipes, each given the blocks of its file, and the news of both was printed
pub record RanPair (told : PartnerTold) (one other : List SendLine) (out out' : OutShown) (how : Ended) : Type 0 where
  pub end : EndTold
  pub ran : PairRan partner_config one other told.seed told.steps end
  pub printed : PrintsText (events_text end.events) end.is_done out out' how

abbrev pub RanBoth : PartnerTold → List ℕ → FilesShown → OutShown → OutShown → Ended → Type 0
RanBoth told path files out out' how =
    ReadsSends told.one files (λ one. ReadsSends path files (λ other. RanPair told one other out out' how))

-- ---- one partner over a link

-- how the partner talked over the link; if memory ran out, a line that says so is then printed
abbrev pub TalksAs : Post → Shown → OutShown → Post → Shown → OutShown → Ended → Type 0
TalksAs start link out last link' out' ended.Done = Talked start link out last link' out' end.Sent
TalksAs start link out last link' out' ended.Jobs = Talked start link out last link' out' end.Unsent
TalksAs start link out last link' out' ended.Output =
    Talked start link out last link' out' end.Output × Rose out.faults out'.faults
TalksAs start link out last link' out' ended.Memory =
    (middle : OutShown) × Talked start link out last link' middle end.Memory × Printed middle out' memory_line
TalksAs start link out last link' out' ended.Refused = ⊥
TalksAs start link out last link' out' ended.File = ⊥
TalksAs start link out last link' out' ended.Dial = ⊥

-- An active partner that was given these blocks in order ran over the link: its news follow from the octets that it
-- took from the link and transmitted on it. The lines of its news were printed. If all went well, each block was
-- reported as sent; if not, and it closed, the last line has the number of the error. Nothing is stated here if the
-- output failed or memory ran out.
abbrev pub ComesTo : List SendLine → Shown → OutShown → Post → Shown → OutShown → Ended → Type 0
ComesTo sends link out last link' out' ended.Done =
    (news : List News) × IsSideOver Active partner_config sends link link' news × Gains out out' (actives_text news)
    × (sent_in news ≡ length sends)
ComesTo sends link out last link' out' ended.Jobs =
    (news : List News) × IsSideOver Active partner_config sends link link' news × Gains out out' (actives_text news)
    × (is_closed last ≡ true → EndsClosed last news)
ComesTo sends link out last link' out' ended.Output = Unit {0}
ComesTo sends link out last link' out' ended.Memory = Unit {0}
ComesTo sends link out last link' out' ended.Refused = Unit {0}
ComesTo sends link out last link' out' ended.File = Unit {0}
ComesTo sends link out last link' out' ended.Dial = Unit {0}

pub record TalksOver {L : Type 0} (shows : L → Shown) (sends : List SendLine) (link : Shown) (out out' : OutShown)
    (run : RunEnd L) (how : Ended) : Type 0 where
  pub start : Post
  pub last : Post
  pub fresh : IsFresh Active partner_config sends start
  pub talks : TalksAs start link out last (shows run.line) out' how
  pub comes : ComesTo sends link out last (shows run.line) out' how
  -- a partner has no results
  pub none : run.results.items ≡ []

-- A LINK WAS DIALLED, the link that the dial gives for the host and the port if it shows that, and the active partner
-- talked over it
pub record TalksDialled {L : Type 0} (shows : L → Shown) (told : PartnerTold) (dial : DialShown L)
    (sends : List SendLine) (out out' : OutShown) (run : RunEnd L) (how : Ended) : Type 0 where
  pub link : Shown
  pub given : (next : L) → dial.next told.host told.port ≡ Some next → link ≡ shows next
  pub talks : TalksOver shows sends link out out' run how

abbrev pub RanAlone : {L : Type 0} → (L → Shown) → PartnerTold → FilesShown → DialShown L → OutShown → OutShown
    → RunEnd L → Ended → Type 0
RanAlone shows told files dial out out' run how =
    ReadsSends told.one files (λ sends. TalksDialled shows told dial sends out out' run how)

-- ---- what was refused, and what failed

-- A SENDS FILE WAS REFUSED: the first that can't be read
abbrev pub RefusesOne : PartnerTold → Option (List ℕ) → FilesShown → (List ℕ → Type 0) → Type 0
RefusesOne told None files printed = RefusesSends told.one files printed
RefusesOne told (Some path) files printed =
    RefusesSends told.one files printed ⊎ ReadsSends told.one files (λ one. RefusesSends path files printed)

-- A SENDS FILE FAILED, the first, or the second after the first was read
abbrev pub FailsOne : PartnerTold → Option (List ℕ) → FilesShown → FilesShown → (List ℕ → Type 0) → Type 0
FailsOne told None files files' printed = PathFails told.one files files' printed
FailsOne told (Some path) files files' printed =
    PathFails told.one files files' printed ⊎ ReadsSends told.one files (λ one. PathFails path files files' printed)

-- the call failed after the file was read: the counter of its host and port rose, and the line for this was printed
pub record DialFailsFor {L : Type 0} (told : PartnerTold) (files : FilesShown) (dial dial' : DialShown L)
    (printed : List ℕ → Type 0) : Type 0 where
  pub read : ReadsSends told.one files (λ one. Unit {0})
  pub rose : Rose (dial.faults told.host told.port) (dial'.faults told.host told.port)
  pub is_printed : printed dial_line

-- THE CALL FAILED: only a partner over a link dials
abbrev pub CallFailsFor : {L : Type 0} → PartnerTold → Option (List ℕ) → FilesShown → DialShown L → DialShown L
    → (List ℕ → Type 0) → Type 0
CallFailsFor told None files dial dial' printed = DialFailsFor told files dial dial' printed
CallFailsFor told (Some path) files dial dial' printed = ⊥

-- ---- how it ended

-- WHAT RAN, and ended in this way: two partners in memory, or one over a link that is left
abbrev pub RanPartners : {L : Type 0} → (L → Shown) → PartnerTold → Option (List ℕ) → FilesShown → DialShown L
    → OutShown → OutShown → Option (RunEnd L) → Ended → Type 0
RanPartners shows told None files dial out out' run how =
    IsSomeAnd run (λ r. RanAlone shows told files dial out out' r how)
RanPartners shows told (Some path) files dial out out' run how = IsNone run × RanBoth told path files out out' how

-- MEMORY RAN OUT: a run is left that ended early, or there is none and the line for this was printed
abbrev pub PartnersLack : {L : Type 0} → (L → Shown) → PartnerTold → Option (List ℕ) → FilesShown → DialShown L
    → OutShown → OutShown → Option (RunEnd L) → Type 0
PartnersLack shows told None files dial out out' run =
    MatchOption run (Printed out out' memory_line) (λ r. RanAlone shows told files dial out out' r ended.Memory)
PartnersLack shows told (Some path) files dial out out' run = IsNone run × Printed out out' memory_line

-- HOW `partner` ENDED, by the files, the dial and the output before and after, and the run if there is one
abbrev pub PartnerEnds : {L : Type 0} → (L → Shown) → PartnerTold → FilesShown → FilesShown → DialShown L
    → DialShown L → OutShown → OutShown → Option (RunEnd L) → Ended → Type 0
PartnerEnds shows told files files' dial dial' out out' run ended.Done =
    RanPartners shows told told.other files dial out out' run ended.Done
PartnerEnds shows told files files' dial dial' out out' run ended.Jobs =
    RanPartners shows told told.other files dial out out' run ended.Jobs
PartnerEnds shows told files files' dial dial' out out' run ended.Output =
    RanPartners shows told told.other files dial out out' run ended.Output
PartnerEnds shows told files files' dial dial' out out' run ended.Memory =
    PartnersLack shows told told.other files dial out out' run
PartnerEnds shows told files files' dial dial' out out' run ended.Refused =
    IsNone run × RefusesOne told told.other files (Printed out out')
PartnerEnds shows told files files' dial dial' out out' run ended.File =
    IsNone run × FailsOne told told.other files files' (Printed out out')
PartnerEnds shows told files files' dial dial' out out' run ended.Dial =
    IsNone run × CallFailsFor told told.other files dial dial' (Printed out out')

-- ---- the same after the first file was read

pub record PairTells (one other : List SendLine) (seed steps : ℕ) (text : List ℕ) (done : Bool) : Type 0 where
  pub end : EndTold
  pub ran : PairRan partner_config one other seed steps end
  pub text_is : text ≡ events_text end.events
  pub done_is : done ≡ end.is_done

abbrev pub BothEnd : PartnerTold → List SendLine → List ℕ → FilesShown → FilesShown → OutShown → OutShown → Ended
    → Type 0
BothEnd told one path files files' out out' ended.Done =
    ReadsSends path files (λ other. RanPair told one other out out' ended.Done)
BothEnd told one path files files' out out' ended.Jobs =
    ReadsSends path files (λ other. RanPair told one other out out' ended.Jobs)
BothEnd told one path files files' out out' ended.Output =
    ReadsSends path files (λ other. RanPair told one other out out' ended.Output)
BothEnd told one path files files' out out' ended.Memory = Printed out out' memory_line
BothEnd told one path files files' out out' ended.Refused = RefusesSends path files (Printed out out')
BothEnd told one path files files' out out' ended.File = PathFails path files files' (Printed out out')
BothEnd told one path files files' out out' ended.Dial = ⊥

-- how the command ended, by how the partner talked
abbrev pub EndsBy : TalkEnd → OutShown → OutShown → Ended → Type 0
EndsBy end.Sent out out' how = (how ≡ ended.Done) × (out' ≡ out)
EndsBy end.Unsent out out' how = (how ≡ ended.Jobs) × (out' ≡ out)
EndsBy end.Output out out' how = (how ≡ ended.Output) × (out' ≡ out)
EndsBy end.Memory out out' how = (how ≡ ended.Memory) × Printed out out' memory_line

pub record TalkedOver {L : Type 0} (shows : L → Shown) (start : Post) (link : Shown) (out out' : OutShown)
    (run : RunEnd L) (how : Ended) : Type 0 where
  pub last : Post
  pub talks : TalksAs start link out last (shows run.line) out' how
  pub none : run.results.items ≡ []

abbrev pub AloneEnds : {L : Type 0} → (L → Shown) → PartnerTold → List SendLine → DialShown L → DialShown L
    → OutShown → OutShown → Option (RunEnd L) → Ended → Type 0
AloneEnds shows told one dial dial' out out' run ended.Done =
    IsSomeAnd run (λ r. TalksDialled shows told dial one out out' r ended.Done)
AloneEnds shows told one dial dial' out out' run ended.Jobs =
    IsSomeAnd run (λ r. TalksDialled shows told dial one out out' r ended.Jobs)
AloneEnds shows told one dial dial' out out' run ended.Output =
    IsSomeAnd run (λ r. TalksDialled shows told dial one out out' r ended.Output)
AloneEnds shows told one dial dial' out out' run ended.Memory =
    MatchOption run (Printed out out' memory_line) (λ r. TalksDialled shows told dial one out out' r ended.Memory)
AloneEnds shows told one dial dial' out out' run ended.Refused = ⊥
AloneEnds shows told one dial dial' out out' run ended.File = ⊥
AloneEnds shows told one dial dial' out out' run ended.Dial =
    IsNone run × (Rose (dial.faults told.host told.port) (dial'.faults told.host told.port))
    × Printed out out' dial_line

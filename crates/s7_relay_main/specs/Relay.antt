-- A link that was served over windows on another server.
use Rattle.std.specs.Prelude.{◌≡◌, ◌⊎◌, ℕ, ◌-◌, ◌≤◌, Bool, if◌then◌else◌, List, [], ◌∷◌, ◌++◌, length, map, None, option_map, IfSome}
use Rattle.std.specs.Io.KnownBytes.{prepend_known, append_known}
use Rattle.s7_outer.specs.Calls.{shut_down}
use Rattle.s7_outer.specs.Count.{RoseExactly}
use Rattle.s7_outer.specs.DialShown.{DialShown}
use Rattle.s7_outer.specs.FilesShown.{FilesShown}
use Rattle.s7_outer.specs.Shown.{Shown}
use Rattle.s7_session.specs.declared.outcome.Outcome.{Outcome}
use Rattle.s7_session.specs.declared.outcome.Outcome.TheVariants as outcome
use Rattle.s7_session.specs.Entry.{answered}
use Rattle.s7_session.specs.LinkRun.{IsEnd, IsWritten}
use Rattle.s7_session.specs.LinkState.{LinkState, first_link}
use Rattle.s7_session.specs.Owed.{telegrams}
use Rattle.s7_session.specs.Stands.{FailsBy}
use Rattle.s7_session.specs.Telegrams.{AllAt, AnyFull, FullStays, MemoryIsLast, Met, NoneTimed}
use Rattle.s7_session.specs.Telegrams.{clock_failures, entered_of, looks_in, verdicts_of}
use Rattle.s7_relay.specs.Acts.{Act, Lead, lacks, relays}
use Rattle.s7_relay.specs.Doer.{DoerModel, GoesOn, begins, entries_of}
use Rattle.s7_relay.specs.declared.passage.Relayed.{Relayed}
use Rattle.s7_relay.specs.declared.windows.Window.{Window}
use Rattle.s7_args.specs.Relay.{RelayTold}
use Rattle.s7_relay_main.specs.Asked.{relay_config}
use Rattle.s7_relay_main.specs.Loading.{ReadsWindows}

-- ---- the near link

-- the state in which the near link begins: no guard protects what is far
abbrev pub first : LinkState
first = first_link None

-- THE NEAR LINK WAS SERVED by a doer that kept these telegrams and has this limit: what the link showed before, and
-- the result
pub record IsRelayedLink (limit : ℕ) (pipe line : Shown) (result : Outcome) (kept : List Relayed) : Type 0 where
  -- what the link showed after its last octet; then it was shut
  pub served : Shown
  pub shut : line ≡ shut_down served
  pub unshut : served.shut ≡ pipe.shut
  -- the octets taken from it, those written on it, and its telegrams that asked, with their verdicts
  pub taken : List ℕ
  pub written : List ℕ
  pub mets : List Met
  pub took : pipe.left ≡ prepend_known taken served.left
  pub wrote : served.written ≡ append_known pipe.written written
  -- the link's room shrank by the octets written, it works on the same external object, and its clock shows the same
  -- moment
  pub fits : IfSome pipe.space (λ s. length written ≤ s)
  pub space : served.space ≡ option_map (λ s. s - length written) pipe.space
  pub lent : served.lent ≡ pipe.lent
  pub moment : served.moment ≡ pipe.moment
  -- the octets taken ask for these requests, and these are their verdicts
  pub asked : telegrams first taken (verdicts_of mets) ≡ mets
  -- the expected output was written, or a prefix of it if a transmit failed
  pub answers : IsWritten first result taken (verdicts_of mets) written
  -- the telegrams that are kept are those that were answered, in order and each once, and with these replies
  pub entered : map answered (entries_of kept) ≡ entered_of mets
  -- a telegram was refused for lack of room only if as many are kept as the limit says, and none was answered
  -- afterwards
  pub full : AnyFull (verdicts_of mets) → length kept ≡ limit
  pub full_stays : FullStays (verdicts_of mets)
  -- an allocation failed for the last telegram at most
  pub memory : MemoryIsLast (verdicts_of mets)
  -- a request that needs a moment has the one that the clock showed
  pub moments : AllAt pipe.moment (entries_of kept)
  -- the clock failed as often as the verdicts say, and was read only if a telegram needs a moment
  pub clock : RoseExactly (clock_failures (verdicts_of mets)) pipe.clock_faults served.clock_faults
  pub unasked : NoneTimed mets → served.clock_faults ≡ pipe.clock_faults
  pub looks : RoseExactly (looks_in mets) pipe.looks served.looks
  -- the link failed once if that ended it, and otherwise not at all
  pub fails : FailsBy result pipe.faults served.faults
  pub end : IsEnd pipe served first taken (verdicts_of mets) result

-- an allocation for the link's buffers failed: the link was shut, and nothing else was done with it
pub record IsLeftAlone (pipe line : Shown) (result : Outcome) (kept : List Relayed) : Type 0 where
  pub shut : line ≡ shut_down pipe
  pub result_is : result ≡ outcome.Memory
  pub none : kept ≡ []

-- ---- the far side

-- the acts of calls that relayed these telegrams, one in each call, and of a last call for which an allocation failed,
-- if there was one
abbrev pub acts_of : List Relayed → Bool → List Act
acts_of kept lacking = map relays kept ++ (if lacking then lacks ∷ [] else [])

-- A DOER WENT ON by calls for the link's telegrams alone. Each relayed one telegram, which is kept, or changed nothing,
-- but for a last one for which an allocation failed.
pub record RelaysOn {M : Type 0} (shows : M → Shown) (old new : DoerModel M) : Type 0 where
  pub windows : new.windows ≡ old.windows
  pub server : new.server ≡ old.server
  pub limit : new.limit ≡ old.limit
  pub more : List Relayed
  pub lacking : Bool
  pub kept : new.kept ≡ old.kept ++ more
  pub lead : Lead shows old.server old.windows old.far (acts_of more lacking) new.far

-- ---- both sides

-- THE LINK WAS SERVED OVER THE WINDOWS THAT ARE NAMED. The windows are those of the file, if the files show its octets.
-- The doer began with these windows, the host, the port, the configuration and the limit that are named, and the dial
-- that was handed in. It went on from there: each telegram that it kept was relayed over what the dial and its links
-- gave, and its reply follows from how far it got. What was written on the near link follows from the octets taken and
-- these replies.
pub record Relays {M : Type 0} (shows : M → Shown) (told : RelayTold) (files : FilesShown) (dial : DialShown M)
    (pipe line : Shown) (result : Outcome) (doer : DoerModel M) : Type 0 where
  pub windows : List Window
  pub read : ReadsWindows told.windows files windows
  pub goes_on : GoesOn shows (begins windows told.host told.port (relay_config told.polls) told.journal dial) doer
  pub relays_on : RelaysOn shows (begins windows told.host told.port (relay_config told.polls) told.journal dial) doer
  pub came : IsRelayedLink told.journal pipe line result doer.kept ⊎ IsLeftAlone pipe line result doer.kept

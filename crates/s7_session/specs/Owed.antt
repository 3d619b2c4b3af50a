-- The expected output of a link for the octets taken from it, and how the link ends. The link begins with a given
-- state.
use Rattle.std.specs.Prelude.{ℕ, List, [], ◌∷◌, ◌++◌, Option, None, Some}
use Rattle.s7_plant.specs.declared.request.Ask.{Ask}
use Rattle.s7_plant.specs.Replies.{Said}
use Rattle.s7_wire.specs.Reading.{Event, Ending, disconnected, faulted, reading, torn_of}
use Rattle.s7_wire.specs.declared.found.Opening.TheVariants.{Request}
use Rattle.s7_wire.specs.declared.found.ReadFault.{ReadFault}
use Rattle.s7_wire.specs.declared.found.ReadFault.TheVariants as fault
use Rattle.s7_session.specs.declared.outcome.Outcome.{Outcome}
use Rattle.s7_session.specs.declared.outcome.Outcome.TheVariants as outcome
use Rattle.s7_session.specs.Events.{Standing, lives, stops, unjudged, closes, Made, made}
use Rattle.s7_session.specs.LinkState.{LinkState}
use Rattle.s7_session.specs.Telegrams.{Met, entered_of}
use Rattle.s7_session.specs.Verdict.{Verdict}

-- the result of the events so far
pub record Past : Type 0 where
  -- the TPDU size, `None` before the connect request
  pub size : Option ℕ
  pub link : LinkState
  -- the whole expected output
  pub owed : List ℕ
  -- the telegrams that asked the plant, with their verdicts
  pub mets : List Met
  -- the verdicts of the telegrams to come
  pub verdicts : List Verdict
  pub standing : Standing

abbrev pub start : LinkState → List Verdict → Past
start first verdicts =
    record { size = None; link = first; owed = []; mets = []; verdicts = verdicts; standing = lives }

abbrev pub with_made : Past → Made → Past
with_made p m = record {
  size = m.size;
  link = m.link;
  owed = p.owed ++ m.out;
  mets = p.mets ++ m.mets;
  verdicts = m.verdicts;
  standing = m.standing;
}

-- a further event counts only if the events before it haven't ended the link
abbrev pub if_lives : Standing → Past → Past → Past
if_lives lives next p = next
if_lives stops next p = p
if_lives unjudged next p = p
if_lives (closes end) next p = p

-- the next event
abbrev pub next : Past → Event → Past
next p event = if_lives p.standing (with_made p (made p.size p.link event p.verdicts)) p

abbrev pub run : Past → List Event → Past
run p [] = p
run p (event ∷ events) = run (next p event) events

-- ---- how a link ends

-- a packet that can't be read, with its offset
abbrev pub outcome_of : ReadFault → ℕ → Outcome
outcome_of fault.BadFrame at = outcome.BadFrame at
outcome_of fault.FrameTooLong at = outcome.FrameTooLong at
outcome_of fault.BadTpdu at = outcome.BadTpdu at
outcome_of fault.Unexpected at = outcome.Unexpected at
outcome_of fault.TooManyFragments at = outcome.TooManyFragments at
outcome_of fault.TooLong at = outcome.TooLong at

-- the client ended the link: between two messages, or within a packet or message of which this number of octets came
abbrev pub torn_or_ended : Option ℕ → Outcome
torn_or_ended None = outcome.Ended
torn_or_ended (Some octets) = outcome.Torn octets

abbrev pub ended_by : Option ℕ → Ending → Outcome
ended_by torn disconnected = torn_or_ended torn
ended_by torn (faulted fault at) = outcome_of fault at

-- how the end of the octets changes the standing, if no message ended the link before
abbrev pub standing_with : Option ℕ → Standing → Option Ending → Standing
standing_with torn lives None = lives
standing_with torn lives (Some ending) = closes (ended_by torn ending)
standing_with torn stops ending = stops
standing_with torn unjudged ending = unjudged
standing_with torn (closes end) ending = closes end

abbrev pub with_ending : Option ℕ → Option Ending → Past → Past
with_ending torn ending p = record p { standing = standing_with torn p.standing ending }

-- THE RESULT OF THESE OCTETS, with the verdicts of their telegrams in order
unfoldable pub past : LinkState → List ℕ → List Verdict → Past
past first b verdicts =
    with_ending (torn_of Request b) (reading Request b).ending (run (start first verdicts) (reading Request b).events)

-- THE EXPECTED OUTPUT for the octets taken from a link
abbrev pub owed : LinkState → List ℕ → List Verdict → List ℕ
owed first b verdicts = (past first b verdicts).owed

-- the telegrams that asked the plant, in order, with their verdicts
abbrev pub telegrams : LinkState → List ℕ → List Verdict → List Met
telegrams first b verdicts = (past first b verdicts).mets

-- what was entered, in order, with the replies
abbrev pub entered : LinkState → List ℕ → List Verdict → List (Ask × Said)
entered first b verdicts = entered_of (telegrams first b verdicts)

-- A telegram lacks a verdict only if a transmit failed, or if the link isn't at its end.
abbrev pub end_by : Standing → Option ℕ → Outcome
end_by lives torn = torn_or_ended torn
end_by stops torn = outcome.Memory
end_by unjudged torn = outcome.WriteFault
end_by (closes end) torn = end

-- THE OUTCOME of a link that took these octets and no more
abbrev pub end_of : LinkState → List ℕ → List Verdict → Outcome
end_of first b verdicts = end_by (past first b verdicts).standing (torn_of Request b)

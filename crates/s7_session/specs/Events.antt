-- What an event of a link leads to: a connect request, or a message.
use Rattle.std.specs.Prelude.{ℕ, Bool, true, false, ◌==◌, ◌&&◌, nat_le, List, [], ◌∷◌, length}
use Rattle.std.specs.Prelude.{slice_index, Option, None, Some, if◌then◌else◌}
use Rattle.s7_tpkt.specs.Packets.{packet_of}
use Rattle.s7_cotp.specs.Told.{ConnectionTold}
use Rattle.s7_cotp.specs.Spelling.{spelling_of_confirm}
use Rattle.s7_wire.specs.Bounds.{size_of_code}
use Rattle.s7_wire.specs.Reading.{Event, opened, message}
use Rattle.s7_wire.specs.Sent.{sent_message, sent_messages}
use Rattle.s7_session.specs.declared.outcome.Outcome.{Outcome}
use Rattle.s7_session.specs.declared.outcome.Outcome.TheVariants.{NotS7}
use Rattle.s7_session.specs.Errors.{error_of, FULL, CLOCK_FAILED}
use Rattle.s7_session.specs.Judgement.{Judgement, Asking, refuse, own, ask, judge, sequence_of, refusal_octets}
use Rattle.s7_session.specs.LinkState.{LinkState}
use Rattle.s7_session.specs.Telegrams.{Met, met}
use Rattle.s7_session.specs.Verdict.{Verdict, Entered, Full, ClockFailed, NoMemory}

-- whether a link goes on
pub data Standing : Type 0 where
  lives : Standing
  -- an allocation for a telegram failed: nothing more is sent
  stops : Standing
  -- a telegram that asks the plant has no verdict: nothing more is sent
  unjudged : Standing
  -- a fault or a disconnect request closes the link
  closes : (end : Outcome) → Standing

-- what an event and the verdict of its telegram lead to
pub record Made : Type 0 where
  -- the TPDU size of the connect request, `None` before it
  pub size : Option ℕ
  pub link : LinkState
  -- the octets to send
  pub out : List ℕ
  -- the telegram that asked the plant, with its verdict, if there is one
  pub mets : List Met
  -- the verdicts of the telegrams to come
  pub verdicts : List Verdict
  pub standing : Standing

-- ---- a message

-- what a message leads to that is answered without the plant, or needs no answer
abbrev pub settled : Option ℕ → LinkState → List ℕ → List Verdict → Made
settled size link out verdicts =
    record { size = size; link = link; out = out; mets = []; verdicts = verdicts; standing = lives }

abbrev pub refusal_sent : ℕ → ℕ → ℕ → List ℕ
refusal_sent size sequence error = sent_message size (refusal_octets sequence error)

-- what a message leads to whose telegram got this verdict
abbrev pub judged : Option ℕ → LinkState → List ℕ → Asking → Verdict → List Verdict → Standing → Made
judged size link out asking verdict later standing =
    record {
      size = size;
      link = link;
      out = out;
      mets = met asking verdict ∷ [];
      verdicts = later;
      standing = standing;
    }

-- the clock is read only for a request that needs a moment
abbrev pub by_clock : Bool → ℕ → LinkState → ℕ → Asking → List Verdict → Made
by_clock true size link sequence asking later =
    judged (Some size) link (refusal_sent size sequence CLOCK_FAILED) asking ClockFailed later lives
by_clock false size link sequence asking later = judged (Some size) link [] asking ClockFailed later stops

abbrev pub by_verdict : ℕ → LinkState → ℕ → Asking → Verdict → List Verdict → Made
by_verdict size link sequence asking (Entered reply moment) later =
    judged (Some size) (asking.link reply) (sent_messages size (asking.messages reply)) asking (Entered reply moment)
    later lives
by_verdict size link sequence asking Full later =
    judged (Some size) link (refusal_sent size sequence FULL) asking Full later lives
by_verdict size link sequence asking ClockFailed later = by_clock asking.is_timed size link sequence asking later
by_verdict size link sequence asking NoMemory later = judged (Some size) link [] asking NoMemory later stops

-- From the first telegram on that asks the plant and has no verdict, nothing is sent.
abbrev pub asks : ℕ → LinkState → ℕ → Asking → List Verdict → Made
asks size link sequence asking [] =
    record { size = Some size; link = link; out = []; mets = []; verdicts = []; standing = unjudged }
asks size link sequence asking (verdict ∷ later) = by_verdict size link sequence asking verdict later

abbrev pub by_judgement : ℕ → LinkState → ℕ → List Verdict → Judgement → Made
by_judgement size link sequence verdicts (refuse refusal) =
    settled (Some size) link (refusal_sent size sequence (error_of refusal)) verdicts
by_judgement size link sequence verdicts (own messages next) =
    settled (Some size) next (sent_messages size messages) verdicts
by_judgement size link sequence verdicts (ask asking) = asks size link sequence asking verdicts

-- a message of S7 (Snap7 1.4 sources, s7_types.h: TS7ReqHeader)
abbrev pub is_s7 : List ℕ → Bool
is_s7 m = nat_le 10 (length m) && slice_index m 0 == 0x32

abbrev pub message_made : ℕ → LinkState → List ℕ → ℕ → List Verdict → Made
message_made size link m at verdicts =
    if is_s7 m then by_judgement size link (sequence_of m) verdicts (judge link m)
    else record {
      size = Some size;
      link = link;
      out = [];
      mets = [];
      verdicts = verdicts;
      standing = closes (NotS7 at);
    }

-- ---- events

-- the confirm of a connect request (ISO 8073, 13.4): its destination reference is the source reference of the request,
-- the server's reference is 0001, the class 00
abbrev pub confirmed : ConnectionTold → ConnectionTold
confirmed c = record {
  dst_ref = c.src_ref;
  src_ref = 1;
  class = 0;
  size_code = c.size_code;
  calling = c.calling;
  called = c.called;
}

-- WHAT AN EVENT LEADS TO, by the TPDU size and the state of the link, and the verdicts of its telegrams; a message
-- before the connect request changes nothing
unfoldable pub made : Option ℕ → LinkState → Event → List Verdict → Made
made size link (opened c) verdicts =
    settled (Some (size_of_code c.size_code)) link (packet_of (spelling_of_confirm (confirmed c))) verdicts
made None link (message m at) verdicts = settled None link [] verdicts
made (Some size) link (message m at) verdicts = message_made size link m at verdicts

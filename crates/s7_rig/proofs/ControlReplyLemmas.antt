-- How a session replies to a control.
use Rattle.std.proofs.Common.{◌≡◌, inr, ℕ, ◌<◌, Bool, true, false, cond, List, Option, None, Some, refl, arith}
use Rattle.s7_block.specs.Names.{is_name}
use Rattle.s7_clock.specs.declared.control.Control.{Control}
use Rattle.s7_clock.specs.declared.control.Control.TheVariants as control
use Rattle.s7_plant.specs.declared.request.Request.{Request}
use Rattle.s7_dialogue.specs.Question.{controls}
use Rattle.s7_session.specs.Judgement.{plainly}
use Rattle.s7_session.specs.LinkState.{LinkState}
use Rattle.s7_session.specs.Owed.{past}
use Rattle.s7_session.specs.Verdict.{Verdict}
use Rattle.s7_rig.specs.Exchanges.{is_told, request_of}
use Rattle.s7_rig.proofs.Askable.{CanCall}
use Rattle.s7_rig.proofs.RepliedLemmas.{IsServed, is_sent, asking_replied, refused_replied}
use Rattle.s7_rig.proofs.ReplyLemmas.{RepliesOnce}
use Rattle.s7_rig.proofs.UserControlLemmas.{control_well}
use Rattle.s7_rig.proofs.UserJudgedLemmas.{judged_control, judged_barred}

small_by : (name : Bool) → cond name 0x8F03 0x8404 < 65536
small_by true = omega arith
small_by false = omega arith

-- a deletion that the plant isn't asked for is refused
barred_replied : {first : LinkState} (b : List ℕ) (js vs : List Verdict) (pdu s kind number : ℕ)
    → IsServed first b js vs pdu s (controls (control.Delete kind number))
    → request_of (control.Delete kind number) ≡ None
    → RepliesOnce first b js vs pdu (controls (control.Delete kind number)) s
barred_replied {first} b js vs pdu s kind number served none =
    let name = is_name kind number in
    refused_replied served (cond name 0x8F03 0x8404)
    (judged_barred (past first b js).link pdu s kind number (is_sent served) none) (small_by name)
    (λ answer. tt)
    (is_told (inr (refl, (none, refl))))

-- only a deletion is one that the plant isn't asked for
unasked_replied : {first : LinkState} (b : List ℕ) (js vs : List Verdict) (pdu s : ℕ) (c : Control) → CanCall c
    → IsServed first b js vs pdu s (controls c) → request_of c ≡ None → RepliesOnce first b js vs pdu (controls c) s
unasked_replied b js vs pdu s control.Start can served none = absurd (cc)
unasked_replied b js vs pdu s control.ColdStart can served none = absurd (cc)
unasked_replied b js vs pdu s control.Stop can served none = absurd (cc)
unasked_replied b js vs pdu s control.Compress can served none = absurd (cc)
unasked_replied b js vs pdu s control.CopyRam can served none = absurd (cc)
unasked_replied b js vs pdu s (control.Insert kind number) can served none = absurd can
unasked_replied b js vs pdu s (control.Delete kind number) can served none =
    barred_replied b js vs pdu s kind number served none

pub control_replied : {first : LinkState} (b : List ℕ) (js vs : List Verdict) (pdu s : ℕ) (c : Control)
    (request : Option Request) → IsServed first b js vs pdu s (controls c) → CanCall c → request_of c ≡ request
    → RepliesOnce first b js vs pdu (controls c) s
control_replied b js vs pdu s c None served can is = unasked_replied b js vs pdu s c can served is
control_replied {first} b js vs pdu s c (Some request) served can is =
    let link = (past first b js).link in
    asking_replied served (plainly link s request)
    (judged_control link pdu s c request (is_sent served) is) (λ reply. refl)
    (λ answer. tt) (control_well pdu link s c request served.low is)

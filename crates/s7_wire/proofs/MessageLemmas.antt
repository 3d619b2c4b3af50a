-- The messages that are read are those of the fragments behind the opening.
use Rattle.std.proofs.Common.{◌≡◌, ℕ, List, [], ◌∷◌, ◌++◌, length, false, refl, ap, sym, ◌∙◌, subst, append-nil, append_assoc, Ok, Err}
use Rattle.std.specs.Prelude.{Option, None, Some, Result}
use Rattle.s7_tpkt.specs.Packets.{packets_of}
use Rattle.s7_cotp.specs.Told.{Told, ConnectionTold, connect, confirm, fragment, disconnect, reject}
use Rattle.s7_cotp.specs.Reading.{tpdu_of}
use Rattle.s7_cotp.specs.Gathered.{is_fault}
use Rattle.s7_cotp.specs.Messages.{Fragment, octets_of, is_over, messages_of, rest_of, Step, StepSays, more, whole, too_many_fragments, too_long, joined_with, answer_of}
use Rattle.s7_cotp.specs.declared.tpdu.CotpFault.{CotpFault}
use Rattle.s7_cotp.proofs.MessageLemmas.{over_none}
use Rattle.s7_cotp.proofs.StepLemmas.{one_step_says, fault_is, none_held, none_rest}
use Rattle.s7_wire.specs.Bounds.{message_limit, size_of_code}
use Rattle.s7_wire.specs.declared.found.Opening.{Opening}
use Rattle.s7_wire.specs.Reading.{Event, opened, message, Progress, start, limits, opening_of, with_opening, with_joining, connected, with_told, with_tpdu, with_body, with_bodies, reading, messages_in, nothing_unfinished, AreData, JoinsMessages}
use Rattle.s7_wire.proofs.ReadingLemmas.{body_at, bodies_are, bodies_before, body_keeps}
use Rattle.s7_wire.proofs.GrowthLemmas.{bodies_grow}

messages_in-append : (xs ys : List Event) → messages_in (xs ++ ys) ≡ messages_in xs ++ messages_in ys
messages_in-append [] ys = refl
messages_in-append (opened c ∷ xs) ys = messages_in-append xs ys
messages_in-append (message octets at ∷ xs) ys = ap (λ x. octets ∷ x) (messages_in-append xs ys)

-- what is read is the messages of these fragments, and their rest
record AreJoined (p : Progress) (fs : List Fragment) : Type 0 where
  pub messages : messages_in p.events ≡ messages_of message_limit fs
  pub octets : p.unfinished.octets ≡ octets_of (rest_of message_limit fs)
  pub count : p.unfinished.count ≡ length (rest_of message_limit fs)
  pub fits : is_over message_limit (rest_of message_limit fs) ≡ false

step_joins : (p : Progress) (body : List ℕ) (fs : List Fragment) (f : Fragment) (s : Step) → AreJoined p fs → StepSays message_limit fs f s
    → is_over message_limit (rest_of message_limit fs ++ f ∷ []) ≡ is_fault (answer_of s) → (with_joining p body s).ending ≡ None → AreJoined (with_joining p body s) (fs ++ f ∷ [])
step_joins p body fs f (more octets count) h says over none = record {
  messages = h.messages ∙ sym says.0.messages;
  octets = says.1 ∙ ap octets_of (sym says.0.rest);
  count = says.2 ∙ ap length (sym says.0.rest);
  fits = ap (is_over message_limit) says.0.rest ∙ over;
}
step_joins p body fs f (whole octets) h says over none = record {
  messages = messages_in-append p.events (message octets p.at ∷ []) ∙ (ap (λ x. x ++ octets ∷ []) h.messages ∙ sym says.messages);
  octets = ap octets_of (sym says.rest);
  count = ap length (sym says.rest);
  fits = ap (is_over message_limit) says.rest ∙ over_none message_limit;
}
step_joins p body fs f too_many_fragments h says over none = cc
step_joins p body fs f too_long h says over none = cc

-- one fragment more
fragment_joins : (p : Progress) (body : List ℕ) (fs : List Fragment) (f : Fragment) → AreJoined p fs → (connected p body (fragment f.last f.user)).ending ≡ None
    → AreJoined (connected p body (fragment f.last f.user)) (fs ++ f ∷ [])
fragment_joins p body fs f h =
    let rest = rest_of message_limit fs in
    let P : Step → Type 0 = λ s. (with_joining p body s).ending ≡ None → AreJoined (with_joining p body s) (fs ++ f ∷ []) in
    subst (λ (x : List ℕ). P (joined_with message_limit x p.unfinished.count f)) (sym h.octets)
    (subst (λ (n : ℕ). P (joined_with message_limit (octets_of rest) n f)) (sym h.count)
    (step_joins p body fs f (joined_with message_limit (octets_of rest) (length rest) f) h (one_step_says message_limit fs f h.fits) (fault_is message_limit rest f)))

-- one TPDU more is a fragment
record IsData (fs : List Fragment) (t : Result Told CotpFault) (p' : Progress) : Type 0 where
  pub one : Fragment
  pub spelled : t ≡ Ok (fragment one.last one.user)
  pub joined : AreJoined p' (fs ++ one ∷ [])

told_joins : (p : Progress) (body : List ℕ) (fs : List Fragment) (t : Told) → AreJoined p fs → (connected p body t).ending ≡ None → IsData fs (Ok t) (connected p body t)
told_joins p body fs (fragment last user) h none =
    let f : Fragment = record { last = last; user = user } in
    record { one = f; spelled = refl; joined = fragment_joins p body fs f h none }
told_joins p body fs (disconnect reason) h none = cc
told_joins p body fs (connect c) h none = cc
told_joins p body fs (confirm c) h none = cc
told_joins p body fs (reject cause) h none = cc

sized_joins : (opening : Opening) (p : Progress) (body : List ℕ) (fs : List Fragment) (size : Option ℕ) (n : ℕ) (t : Told) → size ≡ Some n → AreJoined p fs
    → (with_told opening p body size t).ending ≡ None → IsData fs (Ok t) (with_told opening p body size t)
sized_joins opening p body fs None n t e h none = cc
sized_joins opening p body fs (Some size) n t e h none = told_joins p body fs t h none

tpdu_joins : (opening : Opening) (p : Progress) (body : List ℕ) (fs : List Fragment) (n : ℕ) (t : Result Told CotpFault) → p.size ≡ Some n → AreJoined p fs
    → (with_tpdu opening p body t).ending ≡ None → IsData fs t (with_tpdu opening p body t)
tpdu_joins opening p body fs n (Err fault) e h none = cc
tpdu_joins opening p body fs n (Ok t) e h none = sized_joins opening p body fs p.size n t e h none

body_joins : (opening : Opening) (p : Progress) (body : List ℕ) (fs : List Fragment) (n : ℕ) → p.size ≡ Some n → AreJoined p fs
    → p.ending ≡ None → (with_body opening p body).ending ≡ None → IsData fs (tpdu_of body) (with_body opening p body)
body_joins opening p body fs n e h before none =
    let here = body_at opening p body before in
    subst (λ (q : Progress). IsData fs (tpdu_of body) q) (sym here) (tpdu_joins opening p body fs n (tpdu_of body) e h (ap (λ q. q.ending) (sym here) ∙ none))

-- all bodies are fragments
record AllJoined (fs : List Fragment) (bodies : List (List ℕ)) (p' : Progress) : Type 0 where
  pub fragments : List Fragment
  pub spelled : AreData bodies fragments
  pub joined : AreJoined p' (fs ++ fragments)

bodies_join : (opening : Opening) (p : Progress) (bodies : List (List ℕ)) (fs : List Fragment) (n : ℕ) → p.size ≡ Some n → AreJoined p fs
    → (with_bodies opening p bodies).ending ≡ None → AllJoined fs bodies (with_bodies opening p bodies)
bodies_join opening p [] fs n e h none = record { fragments = []; spelled = tt; joined = subst (AreJoined p) (sym (append-nil fs)) h }
bodies_join opening p (body ∷ bodies) fs n e h none =
    let q = with_body opening p body in
    let one = body_joins opening p body fs n e h (bodies_before opening p (body ∷ bodies) none) (bodies_before opening q bodies none) in
    let all = bodies_join opening q bodies (fs ++ one.one ∷ []) n (body_keeps opening p body n e) one.joined none in
    record {
      fragments = one.one ∷ all.fragments;
      spelled = (one.spelled, all.spelled);
      joined = subst (AreJoined (with_bodies opening q bodies)) (append_assoc fs (one.one ∷ []) all.fragments) all.joined;
    }

-- ---- the opening

-- where the first packet ends nothing it opens
record IsOpened (opening : Opening) (t : Result Told CotpFault) (p : Progress) : Type 0 where
  pub connection : ConnectionTold
  pub told : Told
  pub spelled : t ≡ Ok told
  pub opens : opening_of opening told ≡ Some connection
  pub size : p.size ≡ Some (size_of_code connection.size_code)
  pub events : p.events ≡ opened connection ∷ []
  pub unfinished : p.unfinished ≡ nothing_unfinished

opening_opens : (opening : Opening) (body : List ℕ) (t : Told) (o : Option ConnectionTold) → opening_of opening t ≡ o → (with_opening start body o).ending ≡ None → IsOpened opening (Ok t) (with_opening start body o)
opening_opens opening body t None e h = cc
opening_opens opening body t (Some c) e h = record { connection = c; told = t; spelled = refl; opens = e; size = refl; events = refl; unfinished = refl }

tpdu_opens : (opening : Opening) (body : List ℕ) (t : Result Told CotpFault) → (with_tpdu opening start body t).ending ≡ None → IsOpened opening t (with_tpdu opening start body t)
tpdu_opens opening body (Err fault) h = cc
tpdu_opens opening body (Ok t) h = opening_opens opening body t (opening_of opening t) refl h

body_opens : (opening : Opening) (body : List ℕ) → (with_body opening start body).ending ≡ None → IsOpened opening (tpdu_of body) (with_body opening start body)
body_opens opening body h =
    let here = body_at opening start body refl in
    subst (λ (q : Progress). IsOpened opening (tpdu_of body) q) (sym here) (tpdu_opens opening body (tpdu_of body) (ap (λ q. q.ending) (sym here) ∙ h))

none_joined : (p : Progress) (c : ConnectionTold) → p.events ≡ opened c ∷ [] → p.unfinished ≡ nothing_unfinished → AreJoined p []
unfolding messages_of
none_joined p c events unfinished = record {
  messages = ap messages_in events;
  octets = ap (λ u. u.octets) unfinished ∙ ap octets_of (sym (none_rest message_limit));
  count = ap (λ u. u.count) unfinished ∙ ap length (sym (none_rest message_limit));
  fits = none_held message_limit;
}

pub joins_messages : (opening : Opening) (b first : List ℕ) (bodies : List (List ℕ)) → packets_of (limits opening) b ≡ first ∷ bodies → (reading opening b).ending ≡ None
    → JoinsMessages opening first bodies (reading opening b)
joins_messages opening b first bodies packets none =
    let same : reading opening b ≡ with_bodies opening start (first ∷ bodies) = bodies_are opening b none ∙ ap (with_bodies opening start) packets in
    let q = with_body opening start first in
    let none' : (with_bodies opening q bodies).ending ≡ None = ap (λ p. p.ending) (sym same) ∙ none in
    let o = body_opens opening first (bodies_before opening q bodies none') in
    let all = bodies_join opening q bodies [] (size_of_code o.connection.size_code) o.size (none_joined q o.connection o.events o.unfinished) none' in
    let grown = bodies_grow opening q bodies in
    subst (λ (p : Progress). JoinsMessages opening first bodies p) (sym same) (record {
      connection = o.connection;
      opens = record { told = o.told; spelled = o.spelled; opens = o.opens };
      further = grown.further;
      events = grown.events ∙ ap (λ x. x ++ grown.further) o.events;
      fragments = all.fragments;
      spelled = all.spelled;
      messages = all.joined.messages;
      octets = all.joined.octets;
      count = all.joined.count;
    })

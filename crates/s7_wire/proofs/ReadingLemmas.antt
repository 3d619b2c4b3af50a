-- What octets are read as, by those before them.
use Rattle.std.proofs.Common.{◌≡◌, ℕ, List, [], ◌∷◌, ◌++◌, refl, ap, sym, ◌∙◌, Ok, Err}
use Rattle.std.specs.Prelude.{Option, None, Some, Result}
use Rattle.s7_tpkt.specs.Packets.{packets_of, rest_of, state_of, GoesOn, EndsPacket}
use Rattle.s7_tpkt.specs.declared.state.FedState.{FedState}
use Rattle.s7_tpkt.specs.declared.state.FedState.TheVariants as fed
use Rattle.s7_cotp.specs.Told.{Told, ConnectionTold, connect, confirm, fragment, disconnect, reject}
use Rattle.s7_cotp.specs.Reading.{tpdu_of}
use Rattle.s7_cotp.specs.Messages.{Step, more, whole, too_many_fragments, too_long, joined_with}
use Rattle.s7_cotp.specs.declared.tpdu.CotpFault.{CotpFault}
use Rattle.s7_wire.specs.Bounds.{message_limit, size_of_code}
use Rattle.s7_wire.specs.declared.found.Opening.{Opening}
use Rattle.s7_wire.specs.Reading.{Ending, Progress, start, limits, limit_by, limit_after, opening_of, size_told, with_opening, with_joining, connected, with_told, with_tpdu, unless_ended, with_body, with_bodies, with_state, with_rest, state_behind, reading}

-- ---- behind an ending nothing is read

pub stays_at : (o : Option Ending) (next p : Progress) → (unless_ended o next p).ending ≡ None → p.ending ≡ o → p.ending ≡ None
stays_at None next p h e = e
stays_at (Some ending) next p h e = h

body_ended : (opening : Opening) (p : Progress) (body : List ℕ) (ending : Ending) → p.ending ≡ Some ending → with_body opening p body ≡ p
unfolding with_body
body_ended opening p body ending h = ap (λ o. unless_ended o (with_tpdu opening p body (tpdu_of body)) p) h

pub bodies_ended : (opening : Opening) (p : Progress) (bodies : List (List ℕ)) (ending : Ending) → p.ending ≡ Some ending → with_bodies opening p bodies ≡ p
bodies_ended opening p [] ending h = refl
bodies_ended opening p (body ∷ bodies) ending h =
    ap (λ q. with_bodies opening q bodies) (body_ended opening p body ending h) ∙ bodies_ended opening p bodies ending h

body_before : (opening : Opening) (p : Progress) (body : List ℕ) → (with_body opening p body).ending ≡ None → p.ending ≡ None
unfolding with_body
body_before opening p body h = stays_at p.ending _ p h refl

pub bodies_before : (opening : Opening) (p : Progress) (bodies : List (List ℕ)) → (with_bodies opening p bodies).ending ≡ None → p.ending ≡ None
bodies_before opening p [] h = h
bodies_before opening p (body ∷ bodies) h = body_before opening p body (bodies_before opening (with_body opening p body) bodies h)

-- a packet where nothing has ended
pub body_at : (opening : Opening) (p : Progress) (body : List ℕ) → p.ending ≡ None → with_body opening p body ≡ with_tpdu opening p body (tpdu_of body)
unfolding with_body
body_at opening p body h = ap (λ o. unless_ended o (with_tpdu opening p body (tpdu_of body)) p) h

pub with_bodies-append : (opening : Opening) (p : Progress) (xs ys : List (List ℕ)) → with_bodies opening p (xs ++ ys) ≡ with_bodies opening (with_bodies opening p xs) ys
with_bodies-append opening p [] ys = refl
with_bodies-append opening p (x ∷ xs) ys = with_bodies-append opening (with_body opening p x) xs ys

-- ---- the octets behind the packets

calm_by : (p : Progress) (s : FedState) (o : Option Ending) → (unless_ended o (with_state p s) p).ending ≡ None → unless_ended o (with_state p s) p ≡ p
calm_by p fed.BadVersion None h = cc
calm_by p fed.BadLength None h = cc
calm_by p fed.TooLong None h = cc
calm_by p fed.More None h = refl
calm_by p fed.Whole None h = refl
calm_by p s (Some ending) h = refl

-- where nothing has ended they show nothing
calm : (p : Progress) (s : FedState) → (with_rest p s).ending ≡ None → with_rest p s ≡ p
calm p s h = calm_by p s p.ending h

more_by : (p : Progress) (o : Option Ending) → unless_ended o p p ≡ p
more_by p None = refl
more_by p (Some ending) = refl

pub rest_more : (p : Progress) → with_rest p fed.More ≡ p
rest_more p = more_by p p.ending

pub rest_ended : (p : Progress) (s : FedState) (ending : Ending) → p.ending ≡ Some ending → with_rest p s ≡ p
rest_ended p s ending h = ap (λ o. unless_ended o (with_state p s) p) h

pub rest_at : (p : Progress) (s : FedState) → p.ending ≡ None → with_rest p s ≡ with_state p s
rest_at p s h = ap (λ o. unless_ended o (with_state p s) p) h

pub bodies_are : (opening : Opening) (b : List ℕ) → (reading opening b).ending ≡ None → reading opening b ≡ with_bodies opening start (packets_of (limits opening) b)
unfolding reading
bodies_are opening b h = calm (with_bodies opening start (packets_of (limits opening) b)) (state_behind opening b) h

-- ---- more octets

pub reading_is : (opening : Opening) (b : List ℕ) → reading opening b ≡ with_rest (with_bodies opening start (packets_of (limits opening) b)) (state_behind opening b)
unfolding reading
reading_is opening b = refl

-- no packet ends
pub reading_more : (opening : Opening) (b used : List ℕ) → GoesOn (limits opening) b used → (reading opening b).ending ≡ None
    → reading opening (b ++ used) ≡ with_rest (reading opening b) (state_of (limits opening (packets_of (limits opening) b)) (rest_of (limits opening) b ++ used))
reading_more opening b used goes none =
    let f : List (List ℕ) → List ℕ → Progress = λ ps rest. with_rest (with_bodies opening start ps) (state_of (limits opening ps) rest) in
    let s = state_of (limits opening (packets_of (limits opening) b)) (rest_of (limits opening) b ++ used) in
    reading_is opening (b ++ used)
    ∙ (ap (λ ps. f ps (rest_of (limits opening) (b ++ used))) goes.packets
    ∙ (ap (f (packets_of (limits opening) b)) goes.rest
    ∙ ap (λ p. with_rest p s) (sym (bodies_are opening b none))))

-- a packet with this body ends
pub reading_whole : (opening : Opening) (b used body : List ℕ) → EndsPacket (limits opening) b used body → (reading opening b).ending ≡ None
    → reading opening (b ++ used) ≡ with_body opening (reading opening b) body
reading_whole opening b used body ends none =
    let ps = packets_of (limits opening) b in
    let f : List (List ℕ) → List ℕ → Progress = λ qs rest. with_rest (with_bodies opening start qs) (state_of (limits opening qs) rest) in
    reading_is opening (b ++ used)
    ∙ (ap (λ qs. f qs (rest_of (limits opening) (b ++ used))) ends.packets
    ∙ (ap (f (ps ++ body ∷ [])) ends.rest
    ∙ (rest_more (with_bodies opening start (ps ++ body ∷ []))
    ∙ (with_bodies-append opening start ps (body ∷ [])
    ∙ ap (λ p. with_body opening p body) (sym (bodies_are opening b none))))))

-- ---- the limit of packets is that of the opening

-- once there is a TPDU size it stays
joining_keeps : (p : Progress) (body : List ℕ) (s : Step) → (with_joining p body s).size ≡ p.size
joining_keeps p body (more octets count) = refl
joining_keeps p body (whole octets) = refl
joining_keeps p body too_many_fragments = refl
joining_keeps p body too_long = refl

connected_keeps : (p : Progress) (body : List ℕ) (t : Told) → (connected p body t).size ≡ p.size
connected_keeps p body (fragment last user) = joining_keeps p body (joined_with message_limit p.unfinished.octets p.unfinished.count (record { last = last; user = user }))
connected_keeps p body (disconnect reason) = refl
connected_keeps p body (connect c) = refl
connected_keeps p body (confirm c) = refl
connected_keeps p body (reject cause) = refl

told_keeps : (opening : Opening) (p : Progress) (body : List ℕ) (o : Option ℕ) (n : ℕ) (t : Told) → o ≡ Some n → p.size ≡ o → (with_told opening p body o t).size ≡ Some n
told_keeps opening p body None n t e h = cc
told_keeps opening p body (Some m) n t e h = connected_keeps p body t ∙ h ∙ e

tpdu_keeps : (opening : Opening) (p : Progress) (body : List ℕ) (t : Result Told CotpFault) (n : ℕ) → p.size ≡ Some n → (with_tpdu opening p body t).size ≡ Some n
tpdu_keeps opening p body (Err fault) n h = h
tpdu_keeps opening p body (Ok t) n h = told_keeps opening p body p.size n t h refl

unless_keeps : (o : Option Ending) (next p : Progress) (n : ℕ) → next.size ≡ Some n → p.size ≡ Some n → (unless_ended o next p).size ≡ Some n
unless_keeps None next p n a b = a
unless_keeps (Some ending) next p n a b = b

pub body_keeps : (opening : Opening) (p : Progress) (body : List ℕ) (n : ℕ) → p.size ≡ Some n → (with_body opening p body).size ≡ Some n
unfolding with_body
body_keeps opening p body n h = unless_keeps p.ending _ p n (tpdu_keeps opening p body (tpdu_of body) n h) h

bodies_keep : (opening : Opening) (p : Progress) (bodies : List (List ℕ)) (n : ℕ) → p.size ≡ Some n → (with_bodies opening p bodies).size ≡ Some n
bodies_keep opening p [] n h = h
bodies_keep opening p (body ∷ bodies) n h = bodies_keep opening (with_body opening p body) bodies n (body_keeps opening p body n h)

-- the first packet, where it ends nothing
pub record HasSize (limit : ℕ) (p : Progress) : Type 0 where
  pub size : ℕ
  pub is : p.size ≡ Some size
  pub limit_is : limit ≡ limit_by (Some size)

first_opening : (body : List ℕ) (o : Option ConnectionTold) (opening : Opening) (t : Told) → opening_of opening t ≡ o → (with_opening start body o).ending ≡ None
    → HasSize (limit_after opening (Ok t)) (with_opening start body o)
first_opening body None opening t e h = cc
first_opening body (Some c) opening t e h = record { size = size_of_code c.size_code; is = refl; limit_is = ap (λ x. limit_by (size_told x)) e }

first_tpdu : (opening : Opening) (body : List ℕ) (t : Result Told CotpFault) → (with_tpdu opening start body t).ending ≡ None → HasSize (limit_after opening t) (with_tpdu opening start body t)
first_tpdu opening body (Err fault) h = cc
first_tpdu opening body (Ok t) h = first_opening body (opening_of opening t) opening t refl h

bodies_limit : (opening : Opening) (bodies : List (List ℕ)) → (with_bodies opening start bodies).ending ≡ None → limits opening bodies ≡ limit_by (with_bodies opening start bodies).size
bodies_limit opening [] h = refl
bodies_limit opening (body ∷ bodies) h =
    let here = body_at opening start body refl in
    let none = ap (λ p. p.ending) (sym here) ∙ bodies_before opening (with_body opening start body) bodies h in
    let first = first_tpdu opening body (tpdu_of body) none in
    first.limit_is ∙ ap limit_by (sym (bodies_keep opening (with_body opening start body) bodies first.size (ap (λ p. p.size) here ∙ first.is)))

-- the limit of the next packet
pub limit_is : (opening : Opening) (b : List ℕ) → (reading opening b).ending ≡ None → limits opening (packets_of (limits opening) b) ≡ limit_by (reading opening b).size
limit_is opening b h =
    let e = bodies_are opening b h in
    bodies_limit opening (packets_of (limits opening) b) (ap (λ p. p.ending) (sym e) ∙ h) ∙ ap (λ p. limit_by p.size) (sym e)

-- ---- the limit by the first packet

pub limit_opened : (opening : Opening) (body : List ℕ) (bodies : List (List ℕ)) (told : Told) (c : ConnectionTold) → tpdu_of body ≡ Ok told → opening_of opening told ≡ Some c
    → limits opening (body ∷ bodies) ≡ limit_by (Some (size_of_code c.size_code))
limit_opened opening body bodies told c h e = ap (limit_after opening) h ∙ ap (λ o. limit_by (size_told o)) e

pub limit_other : (opening : Opening) (body : List ℕ) (bodies : List (List ℕ)) (told : Told) → tpdu_of body ≡ Ok told → opening_of opening told ≡ None
    → limits opening (body ∷ bodies) ≡ limit_by None
limit_other opening body bodies told h e = ap (limit_after opening) h ∙ ap (λ o. limit_by (size_told o)) e

pub limit_no_tpdu : (opening : Opening) (body : List ℕ) (bodies : List (List ℕ)) (fault : CotpFault) → tpdu_of body ≡ Err fault → limits opening (body ∷ bodies) ≡ limit_by None
limit_no_tpdu opening body bodies fault h = ap (limit_after opening) h

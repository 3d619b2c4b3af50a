-- The laws of a pair: what each hands out, and what each tells as sent.
use Rattle.std.proofs.Common.{◌≡◌, ℕ, ◌≤◌, List, [], ◌∷◌, ◌++◌, length, refl, ap, sym, ◌∙◌, subst, arith}
use Rattle.std.proofs.lemmas.List.{append_cancel_left}
use Rattle.s7_tpkt.specs.Packets.{packet_of}
use Rattle.s7_cotp.specs.Told.{ConnectionTold, connect, confirm}
use Rattle.s7_cotp.specs.Spelling.{spelling_of_connect, spelling_of_confirm}
use Rattle.s7_cotp.proofs.SpellLemmas.{connect_again, confirm_again}
use Rattle.s7_wire.specs.declared.found.Opening.{Opening}
use Rattle.s7_wire.specs.declared.found.Opening.TheVariants.{Request, Confirm}
use Rattle.s7_wire.specs.Reading.{Event, opened, Progress, reading}
use Rattle.s7_wire.specs.Sent.{sent_messages}
use Rattle.s7_dialogue.specs.declared.config.Config.{Config}
use Rattle.s7_dialogue.specs.Course.{request_of, connect_octets}
use Rattle.s7_partner.specs.declared.role.Role.TheVariants.{Active, Passive}
use Rattle.s7_partner.specs.States.{Act, start, confirmed, after, Parcel, given_in, read_in, handed_in}
use Rattle.s7_partner.specs.Partners.{IsPrefixOf}
use Rattle.s7_partner.specs.Pairs.{ArePaired, Delivered, BlocksAreDelivered, sent_in, SentAreHandedOut}
use Rattle.s7_partner.proofs.GrowthLemmas.{prefix_both, acts_grow}
use Rattle.s7_partner.proofs.ListLemmas.{tail_same}
use Rattle.s7_partner.proofs.NewLemmas.{reading_none}
use Rattle.s7_partner.proofs.PairFronts.{AreMessages, none, AreShort}
use Rattle.s7_partner.proofs.PairOpening.{IsFirst, FirstRead, nothing, all, first_read, OpenedRead, opened_read}
use Rattle.s7_partner.proofs.PairOpening.{messages_read}
use Rattle.s7_partner.proofs.PairTelegrams.{Said, messages_of}
use Rattle.s7_partner.proofs.PairTalks.{IsSpoken, Heard, heard_front, messages_same, talks_meet}
use Rattle.s7_partner.proofs.PairSides.{unread, Side, active_unread, active_side, passive_side}

-- ---- the packets that open

request_opens : (config : Config) → IsFirst Request (spelling_of_connect (request_of config)) (request_of config)
request_opens config = record {
  least = omega arith;
  most = omega arith;
  opens = record {
    told = connect (request_of config);
    spelled = connect_again (request_of config) (record {
      least_size = omega arith;
      most_size = omega arith;
      calling = omega arith;
      called = omega arith;
    });
    opens = refl;
  };
  size = refl;
}

abbrev confirm_of : Config → ConnectionTold
confirm_of config = confirmed (request_of config)

confirm_opens : (config : Config) → IsFirst Confirm (spelling_of_confirm (confirm_of config)) (confirm_of config)
confirm_opens config = record {
  least = omega arith;
  most = omega arith;
  opens = record {
    told = confirm (confirm_of config);
    spelled = confirm_again (confirm_of config) (record {
      least_size = omega arith;
      most_size = omega arith;
      calling = omega arith;
      called = omega arith;
    });
    opens = refl;
  };
  size = refl;
}

-- ---- what one hears of the other

-- the messages of a side, of which a front is heard
heard_of : (opening : Opening) (body u v : List ℕ) (c : ConnectionTold) (further : List Event)
    (ms first : List (List ℕ))
    (says : List Said) → IsFirst opening body c → IsSpoken first says → AreShort (first ++ messages_of says)
    → sent_messages 1024 (first ++ messages_of says) ≡ u ++ v
    → (reading opening (packet_of body ++ u)).events ≡ opened c ∷ further → AreMessages further ms → Heard ms says
heard_of opening body u v c further ms first says h spoken short e read hears =
    let r = messages_read opening body u v c (first ++ messages_of says) h short e in
    let same = tail_same (opened c) (opened c) r.further further (sym r.events ∙ read) in
    let front = messages_same hears (subst (λ es. AreMessages es r.front) same r.are) in
    subst (λ x. Heard x says) (sym front) (heard_front first r.front r.behind says spoken r.all)

-- a side that heard nothing
heard_none : (ms first : List (List ℕ)) (says : List Said) → IsSpoken first says → AreMessages [] ms → Heard ms says
heard_none ms first says spoken hears =
    subst (λ x. Heard x says) (messages_same none hears)
    (heard_front first [] (first ++ messages_of says) says spoken refl)

-- ---- both together

-- what comes of a pair in both directions
record Meets (config config' : Config) (acts acts' : List Act) : Type 0 where
  there : Delivered (given_in acts) (handed_in Passive config' acts')
  back : Delivered (given_in acts') (handed_in Active config acts)
  sent : sent_in Active config acts ≤ length (handed_in Passive config' acts')
  sent_back : sent_in Passive config' acts' ≤ length (handed_in Active config acts)

sides_meet : (config config' : Config) (acts acts' : List Act) (body body' : List ℕ) (further further' : List Event)
    → (a : Side Active config acts body further) → (p : Side Passive config' acts' body' further')
    → Heard a.ms p.says → Heard p.ms a.says → Meets config config' acts acts'
sides_meet config config' acts acts' body body' further further' a p h h' =
    let there = talks_meet (given_in acts) (handed_in Active config acts) (given_in acts')
    (handed_in Passive config' acts')
    (sent_in Active config acts) (sent_in Passive config' acts') a.ms p.ms a.says p.says a.talk p.talk h h' in
    let back = talks_meet (given_in acts') (handed_in Passive config' acts') (given_in acts)
    (handed_in Active config acts)
    (sent_in Passive config' acts') (sent_in Active config acts) p.ms a.ms p.says a.says p.talk a.talk h' h in
    record { there = there.0; back = back.0; sent = there.1; sent_back = back.1 }

none_front : (xs ys zs : List ℕ) → zs ≡ xs ++ ys → zs ≡ [] → xs ≡ []
none_front [] ys zs e n = refl
none_front (x ∷ xs) ys zs e n = let d : [] ≡ x ∷ (xs ++ ys) = sym n ∙ e in absurd (cc)

none_delivered : (gs ps : List Parcel) → ps ≡ [] → Delivered gs ps
none_delivered gs ps e = (gs, ap (λ z. z ++ gs) (sym e))

module _ (config config' : Config) (acts acts' : List Act) (b b' written written' : List ℕ)
    (pair : ArePaired config config' acts acts' b b' written written') where
  abbrev request : List ℕ
  request = spelling_of_connect (request_of config)

  abbrev confirmation : List ℕ
  confirmation = spelling_of_confirm (confirmed (request_of config))

  -- what a side used is a front of what the other may send
  to_passive : IsPrefixOf b' (after Active config acts).out
  to_passive = prefix_both b' written (after Active config acts).out pair.to_passive pair.active.owed

  to_active : IsPrefixOf b (after Passive config' acts').out
  to_active = prefix_both b written' (after Passive config' acts').out pair.to_active pair.passive.owed

  grown : IsPrefixOf (connect_octets config) (after Active config acts).out
  grown = acts_grow Active config (start Active config) acts

  -- neither was opened
  unopened : (reading Request b').events ≡ [] → Meets config config' acts acts'
  unopened none_read =
      let p = unread Passive config' acts' pair.passive.taken (pair.passive.events ∙ none_read) in
      let empty = none_front b to_active.0 (after Passive config' acts').out to_active.1 p.out in
      let quiet = ap (λ x. (reading Confirm x).events) empty ∙ ap (λ (q : Progress). q.events) (reading_none Confirm) in
      let a = unread Active config acts pair.active.taken (pair.active.events ∙ quiet) in
      record {
        there = none_delivered (given_in acts) (handed_in Passive config' acts') p.hands_them;
        back = none_delivered (given_in acts') (handed_in Active config acts) a.hands_them;
        sent = omega (arith, a.ends_them);
        sent_back = omega (arith, p.ends_them);
      }

  -- the passive side was opened: then it heard a front of what the active one says
  module _ (u v : List ℕ) (used : b' ≡ packet_of request ++ u) (parted : grown.0 ≡ u ++ v) where
    opened_passive : OpenedRead Request (packet_of request ++ u) (request_of config)
    opened_passive = opened_read Request request u (request_of config) (request_opens config)

    read_passive : read_in acts' ≡ opened (request_of config) ∷ opened_passive.further
    read_passive =
        pair.passive.events ∙ (ap (λ x. (reading Request x).events) used ∙ opened_passive.events)

    passive : Side Passive config' acts' confirmation opened_passive.further
    passive =
        passive_side config' acts' (request_of config) opened_passive.further pair.other refl opened_passive.only
        pair.passive.taken read_passive

    passive_heard : (further : List Event) → (a : Side Active config acts request further) → Heard passive.ms a.says
    passive_heard further a =
        let rest = append_cancel_left (packet_of request) grown.0 (sent_messages 1024 (a.first ++ messages_of a.says))
        (sym grown.1 ∙ a.out) in
        heard_of Request request u v (request_of config) opened_passive.further passive.ms a.first a.says
        (request_opens config) a.spoken a.short (sym rest ∙ parted) opened_passive.events passive.hears

    -- the active side wasn't
    half_opened : (reading Confirm b).events ≡ [] → Meets config config' acts acts'
    half_opened none_read =
        let a = active_unread config acts pair.active.taken (pair.active.events ∙ none_read) in
        sides_meet config config' acts acts' request confirmation [] opened_passive.further a passive
        (heard_none a.ms passive.first passive.says passive.spoken a.hears) (passive_heard [] a)

    -- both were
    both_opened : (w z : List ℕ) → b ≡ packet_of confirmation ++ w
        → sent_messages 1024 (passive.first ++ messages_of passive.says) ≡ w ++ z → Meets config config' acts acts'
    both_opened w z used' parted' =
        let c = confirmed (request_of config) in
        let o = opened_read Confirm confirmation w c (confirm_opens config) in
        let a = active_side config acts c o.further pair.one refl o.only pair.active.taken
        (pair.active.events ∙ (ap (λ x. (reading Confirm x).events) used' ∙ o.events)) in
        sides_meet config config' acts acts' request confirmation o.further opened_passive.further a passive
        (heard_of Confirm confirmation w z c o.further a.ms passive.first passive.says (confirm_opens config)
        passive.spoken passive.short parted' o.events a.hears)
        (passive_heard o.further a)

    passive_opened : Meets config config' acts acts'
    passive_opened = by (first_read Confirm b to_active.0 confirmation
        (sent_messages 1024 (passive.first ++ messages_of passive.says)) (confirmed (request_of config))
        (confirm_opens config) (sym passive.out ∙ to_active.1))
      where
        by : FirstRead Confirm b confirmation (sent_messages 1024 (passive.first ++ messages_of passive.says))
            (confirmed (request_of config))
            → Meets config config' acts acts'
        by (nothing none_read) = half_opened none_read
        by (all w z used' parted') = both_opened w z used' parted'

  meets : Meets config config' acts acts'
  meets = by (first_read Request b' to_passive.0 request grown.0 (request_of config) (request_opens config)
      (sym grown.1 ∙ to_passive.1))
    where
      by : FirstRead Request b' request grown.0 (request_of config) → Meets config config' acts acts'
      by (nothing none_read) = unopened none_read
      by (all u v used parted) = passive_opened u v used parted

-- WHAT A PARTNER HANDS OUT is a front of what the other was given
pub delivers : BlocksAreDelivered
delivers config config' acts acts' b b' written written' pair =
    let m = meets config config' acts acts' b b' written written' pair in
    (m.there, m.back)

-- AS MANY BLOCKS AS ONE TELLS AS SENT the other has handed out
pub sent_handed_out : SentAreHandedOut
sent_handed_out config config' acts acts' b b' written written' pair =
    let m = meets config config' acts acts' b b' written written' pair in
    (m.sent, m.sent_back)

-- What acts of a partner give, hand out and end, one list behind another, and what a poll tells of its acts.
use Rattle.std.proofs.Common.{◌≡◌, ℕ, ◌+◌, ◌&&◌, not, Bool, true, false, List, [], ◌∷◌, ◌++◌, refl, ap, sym, ◌∙◌, subst}
use Rattle.std.proofs.Common.{append_assoc, append-nil, arith, if◌then◌else◌}
use Rattle.std.specs.Prelude.{Option, None, Some, Result, Ok, Err}
use Rattle.s7_outer.specs.Shown.{Shown}
use Rattle.s7_outer.specs.declared.memory.Memory.{Memory}
use Rattle.s7_dialogue.specs.declared.config.Config.{Config}
use Rattle.s7_partner.specs.declared.role.Role.{Role}
use Rattle.s7_partner.specs.declared.event.PartnerEvent.{PartnerEvent}
use Rattle.s7_partner.specs.declared.event.PartnerEvent.TheVariants as told
use Rattle.s7_partner.specs.States.{State, Block, Act, gives, reads, hands, acknowledges, with_act, with_acts, Parcel}
use Rattle.s7_partner.specs.States.{given_by, given_in, handed_by, handed_from, parcel_of, is_sending}
use Rattle.s7_partner.specs.Acts.{IsQuiet, AreQuiet, EndsSend}
use Rattle.s7_partner.specs.Pairs.{ends_send, sends_ended}
use Rattle.s7_partner.specs.Partners.{Tells}
use Rattle.s7_partner.proofs.CountedLemmas.{sends_on, hands_on}
use Rattle.s7_partner_run.specs.declared.event.News.{News}
use Rattle.s7_partner_run.specs.Events.{news_of, list_of, received_in, sent_in}

-- ---- lists of acts

pub given_in-append : (xs ys : List Act) → given_in (xs ++ ys) ≡ given_in xs ++ given_in ys
given_in-append [] ys = refl
given_in-append (x ∷ xs) ys =
    ap (λ e. given_by x ++ e) (given_in-append xs ys) ∙ sym (append_assoc (given_by x) (given_in xs) (given_in ys))

module _ (role : Role) (config : Config) where
  pub handed_from-append : (s : State) (xs ys : List Act)
      → handed_from role config s (xs ++ ys)
      ≡ handed_from role config s xs ++ handed_from role config (with_acts role config s xs) ys
  handed_from-append s [] ys = refl
  handed_from-append s (x ∷ xs) ys =
      let next = with_act role config s x in
      ap (λ e. handed_by s x ++ e) (handed_from-append next xs ys)
      ∙ sym
      (append_assoc (handed_by s x) (handed_from role config next xs)
      (handed_from role config (with_acts role config next xs) ys))

  pub sends_ended-append : (s : State) (xs ys : List Act)
      → sends_ended role config s (xs ++ ys)
      ≡ sends_ended role config s xs + sends_ended role config (with_acts role config s xs) ys
  sends_ended-append s [] ys = omega arith
  sends_ended-append s (x ∷ xs) ys =
      let next = with_act role config s x in
      let h = sends_ended-append next xs ys in
      omega (arith, h)

  -- ---- acts of which nothing is told

  no_end : (a b : Bool) → (a ≡ true → b ≡ true) → ◌≡◌ {A = ℕ} (if a && not b then 1 else 0) 0
  no_end true true h = refl
  no_end true false h = absurd (let e = h refl in cc)
  no_end false b h = refl

  record IsNothing (s : State) (act : Act) : Type 0 where
    given : given_by act ≡ []
    handed : handed_by s act ≡ []
    ended : ◌≡◌ {A = ℕ} (if ends_send role config s act then 1 else 0) 0

  quiet_act : (s : State) (act : Act) → IsQuiet role config s act → IsNothing s act
  unfolding with_act
  quiet_act s (gives rid body) q = absurd q
  quiet_act s (reads event) q = record { given = refl; handed = refl; ended = no_end _ _ q }
  quiet_act s hands q = absurd q
  quiet_act s acknowledges q =
      record { given = refl; handed = refl; ended = no_end _ _ (λ e. sends_on s s.handed ∙ e) }

  -- what acts add is what is told
  pub record Adds (s : State) (acts : List Act) (news : List News) : Type 0 where
    pub given : given_in acts ≡ []
    pub handed : handed_from role config s acts ≡ received_in news
    pub ended : sends_ended role config s acts ≡ sent_in news

  pub quiet_adds : (s : State) (acts : List Act) → AreQuiet role config s acts → Adds s acts []
  quiet_adds s [] q = record { given = refl; handed = refl; ended = refl }
  quiet_adds s (act ∷ acts) q =
      let one = quiet_act s act q.0 in
      let rest = quiet_adds (with_act role config s act) acts q.1 in
      record {
        given = ap (λ e. e ++ given_in acts) one.given ∙ rest.given;
        handed = ap (λ e. e ++ handed_from role config (with_act role config s act) acts) one.handed ∙ rest.handed;
        ended = omega (arith, one.ended, rest.ended);
      }

  -- behind quiet acts one that is told
  then_one : (s : State) (front : List Act) (act : Act) (acts : List Act) (news : List News) → acts ≡ front ++ act ∷ []
      → AreQuiet role config s front → given_by act ≡ []
      → handed_by (with_acts role config s front) act ≡ received_in news
      → (if ends_send role config (with_acts role config s front) act then 1 else 0) ≡ sent_in news → Adds s acts news
  then_one s front act acts news is quiet given handed ended =
      let q = quiet_adds s front quiet in
      let at = with_acts role config s front in
      let e = sends_ended-append s front (act ∷ []) in
      subst (λ xs. Adds s xs news) (sym is) (record {
        given =
            given_in-append front (act ∷ [])
            ∙ (ap (λ e. e ++ (given_by act ++ [])) q.given ∙ ap (λ e. e ++ []) given);
        handed =
            handed_from-append s front (act ∷ [])
            ∙ (ap (λ e. e ++ (handed_by at act ++ [])) q.handed
            ∙ (append-nil (handed_by at act) ∙ handed));
        ended = omega (arith, e, q.ended, ended);
      })

  ends_is : (s : State) (act : Act) → EndsSend role config s act
      → ◌≡◌ {A = ℕ} (if ends_send role config s act then 1 else 0) 1
  ends_is s act h = rw (h.before, h.after) refl

  hands_none : (s : State) → ◌≡◌ {A = ℕ} (if ends_send role config s hands then 1 else 0) 0
  unfolding with_act
  hands_none s = no_end _ _ (λ e. hands_on s s.whole ∙ e)

  received_is : (block : Block) (rid : ℕ) (body : List ℕ) → rid ≡ block.rid → body ≡ block.octets
      → parcel_of (Some block) ≡ received_in (list_of (news_of (told.Received rid body)))
  received_is block rid body r b = rw (r, b) refl

  pub told_adds : (s : State) (acts : List Act) (link link' : Shown) (kept b written : List ℕ) (event : PartnerEvent)
      → Tells role config s acts link link' kept b written (Ok event) → Adds s acts (list_of (news_of event))
  told_adds s acts link link' kept b written told.Sent t =
      then_one s t.0 (reads t.1) acts _ t.2 t.3 refl refl (ends_is _ _ t.4)
  told_adds s acts link link' kept b written (told.Received rid body) t =
      then_one s t.0 hands acts _ t.2 t.3 refl (ap parcel_of t.4 ∙ received_is t.1 rid body t.5 t.6) (hands_none _)
  told_adds s acts link link' kept b written told.Pending t = quiet_adds s acts t.0
  told_adds s acts link link' kept b written told.Idle t = quiet_adds s acts t.0
  told_adds s acts link link' kept b written (told.Closed code) t =
      let q = quiet_adds s acts t.0 in
      record { given = q.given; handed = q.handed; ended = q.ended }

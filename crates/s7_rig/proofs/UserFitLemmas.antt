-- What a plant replies to user data is whole.
use Rattle.std.proofs.Common.{◌≡◌, inl, inr, ℕ, ◌<◌, Bool, true, false, cond, List, [], Option, None, Some, ℤ, pos, negsuc, ◌+ℤ◌, refl, ap, sym, ◌∙◌, arith}
use Rattle.std.specs.Prelude.{is_some, option_and_then}
use Rattle.s7_szl.specs.Images.{image_of}
use Rattle.s7_szl.specs.Readers.{mode_of}
use Rattle.s7_szl.proofs.TableLemmas.{images_add_up, images_are_short, mode_is_read}
use Rattle.s7_clock.specs.Moment.{IsHeld, held}
use Rattle.s7_plant.specs.Answers as plant
use Rattle.s7_plant.specs.Answers.{listed, refused, guarded, is_barred}
use Rattle.s7_plant.specs.Replies.{said}
use Rattle.s7_plant.specs.State.{State, clock_at}
use Rattle.s7_plant.specs.declared.request.Request.TheVariants as plain
use Rattle.s7_dialogue.specs.declared.questions.subject.Subject.{Subject}
use Rattle.s7_dialogue.specs.declared.questions.subject.Subject.TheVariants.{StatusList, RunState, Clock, ClockSetting}
use Rattle.s7_rig.proofs.UserHeardLemmas.{IsRest}
use Rattle.s7_rig.proofs.UserServedLemmas.{IsFit}
use Rattle.s7_rig.proofs.UserClockLemmas.{clock_read, length-clock}

-- a refusal fits whatever was asked
pub refusal_fits : (subject : Subject) (error : ℕ) → 0 < error → error < 65536 → IsFit subject (refused error)
refusal_fits subject error some small = record { small = small; rest = λ is. absurd (omega (arith, is, some)) }

-- ---- status lists

listed_fits : (subject : Subject) (found : Option (List ℕ))
    → ((image : List ℕ) → found ≡ Some image → IsRest subject [] image) → IsFit subject (listed found)
listed_fits subject None each = refusal_fits subject 0xD401 (omega arith) (omega arith)
listed_fits subject (Some image) each = record { small = omega arith; rest = λ is. each image refl }

pub list_fits : (id index : ℕ) (state : State) (right : Bool)
    → IsFit StatusList (plant.answer state right (plain.Szl id index))
list_fits id index state right =
    listed_fits StatusList (image_of id index state.running) (λ image is.
    record {
      whole = images_add_up id index state.running image is;
      most = omega (arith, images_are_short id index state.running image is);
      short = inl refl;
    })

-- the list that tells whether the controller runs
mode_told : (found : Option (List ℕ)) (image : List ℕ) (running : Bool) → found ≡ Some image
    → option_and_then mode_of found ≡ Some running → is_some (mode_of image) ≡ true
mode_told found image running is told =
    ap is_some (ap (option_and_then mode_of) (sym is) ∙ told)

pub state_fits : (state : State) (right : Bool) → IsFit RunState (plant.answer state right (plain.Szl 0x0424 0))
state_fits state right =
    listed_fits RunState (image_of 0x0424 0 state.running) (λ image is.
    record {
      whole = mode_told (image_of 0x0424 0 state.running) image state.running is (mode_is_read state.running);
      most = omega (arith, images_are_short 0x0424 0 state.running image is);
      short = inl refl;
    })

-- ---- the clock

is_held : (z : ℤ) → IsHeld (held z)
is_held (pos n) = record { from = omega arith; to = omega arith }
is_held (negsuc n) = record { from = omega arith; to = omega arith }

pub clock_fits : (moment : ℕ) (state : State) (right : Bool)
    → IsFit Clock (plant.answer state right (plain.ClockRead moment))
clock_fits moment state right =
    let now = clock_at state moment in
    let long = length-clock now in
    record {
      small = omega arith;
      rest = λ is. record {
        whole = ap is_some (clock_read now (is_held (pos (held (pos moment)) +ℤ state.offset)));
        most = omega (arith, long);
        short = inr (omega (arith, long));
      };
    }

setting_by : (barred : Bool) → IsFit ClockSetting (cond barred (refused 0xD241) (said 0 [] []))
setting_by true = refusal_fits ClockSetting 0xD241 (omega arith) (omega arith)
setting_by false = record {
  small = omega arith;
  rest = λ is. record { whole = refl; most = omega arith; short = inr (omega arith) };
}

pub setting_fits : (moment value : ℕ) (state : State) (right : Bool)
    → IsFit ClockSetting (plant.answer state right (plain.ClockSet moment value))
setting_fits moment value state right = setting_by (is_barred state right)

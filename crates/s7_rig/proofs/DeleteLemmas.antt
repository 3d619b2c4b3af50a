-- Which deletions a session can read, and which of them it asks of the plant.
use Rattle.std.proofs.Common.{◌≡◌, ℕ, ◌+◌, ◌-◌, ◌*◌, ◌/◌, ◌%◌, Bool, true, false, ◌&&◌, ◌||◌, cond, eqb, ltb, Err, refl}
use Rattle.std.proofs.Common.{ap, sym, ◌∙◌, arith}
use Rattle.std.specs.Prelude.{Option, None, Some, is_some}
use Rattle.std.proofs.lemmas.Bool.{and_from, and_parts}
use Rattle.s7_block.specs.Kinds.{head_code, is_stored_kind}
use Rattle.s7_block.specs.Names.{is_name}
use Rattle.s7_clock.specs.Control.{control_of, control_spelling, is_block, is_control}
use Rattle.s7_clock.specs.declared.control.Control.TheVariants as control
use Rattle.s7_clock.proofs.ControlLemmas.{none_by_block}
use Rattle.s7_plant.specs.declared.request.Request.{Request}
use Rattle.s7_plant.specs.declared.request.Request.TheVariants as plain
use Rattle.s7_dialogue.proofs.FlightLemmas.{same_some}
use Rattle.s7_rig.specs.Exchanges.{request_of}

-- ---- kinds

-- what a head has for a kind, by which kind it is
abbrev code_by : Bool → Bool → Bool → Bool → Bool → Bool → Bool → Option ℕ
code_by a b c d e f g =
    cond a (Some 0x08) (cond b (Some 0x0A) (cond c (Some 0x0B) (cond d (Some 0x0C) (cond e (Some 0x0D)
    (cond f (Some 0x0E) (cond g (Some 0x0F) None))))))

known_by : (a b c d e f g : Bool) → is_some (code_by a b c d e f g) ≡ (a || b || c || d || e || f || g)
known_by true b c d e f g = refl
known_by false true c d e f g = refl
known_by false false true d e f g = refl
known_by false false false true e f g = refl
known_by false false false false true f g = refl
known_by false false false false false true g = refl
known_by false false false false false false true = refl
known_by false false false false false false false = refl

stored_by : (a b c d e f g : Bool) → (a || d || f) ≡ true → is_some (code_by a b c d e f g) ≡ true
stored_by true b c d e f g is = refl
stored_by false true c d e f g is = refl
stored_by false false true d e f g is = refl
stored_by false false false true e f g is = refl
stored_by false false false false true f g is = refl
stored_by false false false false false true g is = refl
stored_by false false false false false false g is = absurd (cc)

-- a block that there can be is one that a control can name
pub block_named : (kind number : ℕ) → is_name kind number ≡ is_block kind number
block_named kind number =
    ap (λ b. b && ltb number 65536)
    (known_by (eqb kind 0x38) (eqb kind 0x41) (eqb kind 0x42) (eqb kind 0x43) (eqb kind 0x44) (eqb kind 0x45)
    (eqb kind 0x46))

stored_known : (kind : ℕ) → is_stored_kind kind ≡ true → is_some (head_code kind) ≡ true
stored_known kind is =
    stored_by (eqb kind 0x38) (eqb kind 0x41) (eqb kind 0x42) (eqb kind 0x43) (eqb kind 0x44) (eqb kind 0x45)
    (eqb kind 0x46) is

-- ---- what is read

number_back : (n : ℕ)
    → (0x30 + n / 10000 - 0x30) * 10000 + (0x30 + n / 1000 % 10 - 0x30) * 1000 + (0x30 + n / 100 % 10 - 0x30) * 100
    + (0x30 + n / 10 % 10 - 0x30) * 10 + (0x30 + n % 10 - 0x30) ≡ n
number_back n = omega arith

-- a block that there can't be makes the control unreadable
pub delete_unread : (kind number : ℕ) → is_name kind number ≡ false
    → control_of (control_spelling (control.Delete kind number)) ≡ Err (record {})
unfolding control_of
delete_unread kind number is =
    none_by_block (control_spelling (control.Delete kind number))
    (ap (is_block kind) (number_back number) ∙ (sym (block_named kind number) ∙ is))

pub delete_read : (kind number : ℕ) → is_name kind number ≡ true → is_control (control.Delete kind number) ≡ true
delete_read kind number is = sym (block_named kind number) ∙ is

-- ---- what is asked

parts_by : (stored small : Bool) (one request : Request) → cond (stored && small) (Some one) None ≡ Some request
    → (stored ≡ true) × (small ≡ true) × (one ≡ request)
parts_by true true one request is = (refl, refl, same_some one request is)
parts_by true false one request is = absurd (cc)
parts_by false small one request is = absurd (cc)

-- what is asked of the plant can be read
pub record IsDeletion (kind number : ℕ) (request : Request) : Type 0 where
  pub read : is_control (control.Delete kind number) ≡ true
  pub stored : is_stored_kind kind ≡ true
  pub is : plain.Delete kind number ≡ request

pub deletion : (kind number : ℕ) (request : Request) → request_of (control.Delete kind number) ≡ Some request
    → IsDeletion kind number request
deletion kind number request asked =
    let parts = parts_by (is_stored_kind kind) (ltb number 65536) (plain.Delete kind number) request asked in
    record {
      read = delete_read kind number (and_from _ _ (stored_known kind parts.0) parts.1);
      stored = parts.0;
      is = parts.2;
    }

unstored_by : (stored small : Bool) (one : Request) → small ≡ true → cond (stored && small) (Some one) None ≡ None
    → stored ≡ false
unstored_by true true one is none = absurd (cc)
unstored_by true false one is none = absurd (cc)
unstored_by false small one is none = refl

-- one that can be read and isn't asked of the plant is of a kind that isn't stored
pub unstored : (kind number : ℕ) → request_of (control.Delete kind number) ≡ None → is_name kind number ≡ true
    → is_stored_kind kind ≡ false
unstored kind number none is =
    unstored_by (is_stored_kind kind) (ltb number 65536) (plain.Delete kind number)
    (and_parts (is_some (head_code kind)) (ltb number 65536) is).1 none

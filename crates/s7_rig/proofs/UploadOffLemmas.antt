-- The upload of a data block that is there comes off.
use Rattle.std.proofs.Common.{◌≡◌, ℕ, ◌≤◌, Bool, false, cond, ltb, Option, None, Some, List, length, refl}
use Rattle.std.proofs.Common.{sym, ap, ◌∙◌, subst, arith}
use Rattle.std.specs.Prelude.{MatchOption, option_map}
use Rattle.std.proofs.lemmas.Bool.{le-ltb}
use Rattle.s7_area.specs.Guards.{is_read_barred}
use Rattle.s7_area.specs.Memory.{Memory}
use Rattle.s7_plant.specs.Answers.{answer, db_image, refused, upload_params, upload_told}
use Rattle.s7_plant.specs.declared.request.Request.TheVariants as plain
use Rattle.s7_plant.specs.Replies.{said}
use Rattle.s7_plant.specs.State.{State}
use Rattle.s7_rig.specs.Complete.{data_block, HasBlock}
use Rattle.s7_rig.proofs.BlockOffLemmas.{same_block}
use Rattle.s7_rig.proofs.ShapeLemmas.{SameShape}

-- ---- a data block that is there stays there

abbrev IsFew : Option (List ℕ) → Type 0
IsFew found = MatchOption found ⊥ (λ octets. length octets ≤ 65536)

few_found : (found : Option (List ℕ)) → IsFew found
    → (octets : List ℕ) × (found ≡ Some octets) × (length octets ≤ 65536)
few_found None few = absurd few
few_found (Some octets) few = (octets, refl, few)

-- it has its octets in every memory of the same shape
has_block : (m n : Memory) (number : ℕ) → SameShape m n → IsFew (data_block n number) → IsFew (data_block m number)
has_block m n number same few =
    let known = few_found (data_block n number) few in
    let found = same_block m n number known.0 same known.1 in
    let short : length found.stood ≤ 65536 = omega (arith, found.long, known.2) in subst IsFew (sym found.is) short

-- ---- what is replied

unlong : (number : ℕ) (octets : List ℕ) → length octets ≤ 65536 → ltb 65572 (length (db_image number octets)) ≡ false
unlong number octets few = le-ltb 65572 (length (db_image number octets)) (omega (arith, few))

told_good : (number : ℕ) (found : Option (List ℕ)) → IsFew found
    → (upload_told (option_map (db_image number) found)).error ≡ 0
told_good number None few = absurd few
told_good number (Some octets) few =
    let image = db_image number octets in
    ap (λ (long : Bool). (cond long (refused 0x8F04) (said 0 (upload_params (length image)) image)).error)
    (unlong number octets few)

-- the reply to the start of its upload has no error, in every state of the shape
pub upload_good : (s : State) (right : Bool) (n : Memory) (number : ℕ) → SameShape s.memory n
    → is_read_barred n.guard right ≡ false → HasBlock n number
    → (answer s right (plain.StartUpload 0x41 number)).error ≡ 0
upload_good s right n number same free has =
    let told = upload_told (option_map (db_image number) (data_block s.memory number)) in
    ap (λ g. (cond (is_read_barred g right) (refused 0xD241) told).error) same.guard
    ∙ (ap (λ (barred : Bool). (cond barred (refused 0xD241) told).error) free
    ∙ told_good number (data_block s.memory number) (has_block s.memory n number same has.1))

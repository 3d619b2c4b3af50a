-- Lemmas on images of blocks that pass their check, and on the pieces that such an image is given in.
use Rattle.std.proofs.Common.{◌≡◌, ℕ, ◌≤◌, Bool, true, false, cond, eqb, leb, List, length}
use Rattle.std.specs.Prelude.{◌==◌, ◌&&◌}
use Rattle.std.proofs.lemmas.Bool.{and_parts, eqb-true, leb-true}
use Rattle.s7_block.specs.Heads.{begins_head, head_of, is_of_block, head_agrees}
use Rattle.s7_dialogue.specs.declared.job.Job.{Job}
use Rattle.s7_dialogue.specs.declared.transfers.download.Pieces.{Pieces}
use Rattle.s7_dialogue.specs.Codes.{no_fault}
use Rattle.s7_dialogue.specs.Downloads.{name_in}
use Rattle.s7_dialogue.specs.Checks.{check_image}
use Rattle.s7_dialogue.specs.Stages.{image_of, has_image}

agrees_if : (agrees : Bool) → (cond agrees 0 0x00200000 == 0) ≡ true → agrees ≡ true
agrees_if true good = good
agrees_if false good = good

sized : (image : List ℕ) (kind number : ℕ) → head_agrees image kind number ≡ true
    → (36 ≤ length image) × (length image ≤ 65536)
unfolding head_agrees
sized image kind number agrees =
    let least : Bool = leb 36 (length image) in
    let most : Bool = leb (length image) 65536 in
    let begins : Bool = begins_head image in
    let head =
    and_parts (least && most && begins) (is_of_block (length image) kind number (head_of image)) agrees in
    let both = and_parts least most (and_parts (least && most) begins head.0).0 in
    (leb-true 36 (length image) both.0, leb-true (length image) 65536 both.1)

-- an image that passes its check has room for a head, and is no longer than any may be
pub image_sized : (image : List ℕ) → (check_image image == no_fault) ≡ true
    → (36 ≤ length image) × (length image ≤ 65536)
image_sized image good =
    sized image (name_in image).kind (name_in image).number
    (agrees_if (head_agrees image (name_in image).kind (name_in image).number) good)

-- What is known of an image that is given in such pieces.
pub record IsGiven (image : List ℕ) (pieces : Pieces) : Type 0 where
  pub least : 36 ≤ length image
  pub most : length image ≤ 65536
  pub whole : pieces.len ≡ length image
  pub some : 46 ≤ pieces.room
  pub few : pieces.room ≤ 1902

-- a job that has an image for the pieces gives it in them
pub image_given : (done : Job) (pieces : Pieces) → has_image done pieces ≡ true → IsGiven (image_of done) pieces
image_given done pieces has =
    let image = image_of done in
    let good : Bool = check_image image == no_fault in
    let whole : Bool = eqb pieces.len (length image) in
    let parts =
    and_parts (good && whole) (leb 46 pieces.room && leb pieces.room 1902) has in
    let checked = and_parts good whole parts.0 in
    let sizes = image_sized image checked.0 in
    let room = and_parts (leb 46 pieces.room) (leb pieces.room 1902) parts.1 in
    record {
      least = sizes.0;
      most = sizes.1;
      whole = eqb-true pieces.len (length image) checked.1;
      some = leb-true 46 pieces.room room.0;
      few = leb-true pieces.room 1902 room.1;
    }

-- The image of a status list: id, index, record length and record count, each a number of two octets, and the records
-- (Snap7 1.4 reference manual, `Cli_ReadSZL`: TS7SZL).
use Rattle.std.specs.Prelude.{ℕ, ◌+◌, ◌*◌, ◌==◌, Bool, List, ◌++◌, length, drop, Option, None, Some}
use Rattle.std.specs.List.{concat}
use Rattle.std.specs.Option.{option_map}
use Rattle.s7_outer.specs.Numbers.{two_octets}
use Rattle.s7_szl.specs.Octets.{number_at}
use Rattle.s7_szl.specs.Tables.{Table, table_of}

-- the 8 octets before the records
abbrev pub head_octets : ℕ → ℕ → ℕ → ℕ → List ℕ
head_octets id index record_len count = two_octets id ++ two_octets index ++ two_octets record_len ++ two_octets count

-- the image of a list
abbrev pub image_with : ℕ → ℕ → Table → List ℕ
image_with id index t = head_octets id index t.record_len (length t.records) ++ concat t.records

-- the image of the list of an id and an index
abbrev pub image_of : ℕ → ℕ → Bool → Option (List ℕ)
image_of id index running = option_map (image_with id index) (table_of id index running)

-- octets whose beginning is replaced by the image, if there is one
abbrev pub with_image : Option (List ℕ) → List ℕ → List ℕ
with_image None octets = octets
with_image (Some image) octets = image ++ drop (length image) octets

-- an image has exactly the records after its head that the head states
abbrev pub adds_up : List ℕ → Bool
adds_up image = length image == 8 + number_at image 4 * number_at image 6

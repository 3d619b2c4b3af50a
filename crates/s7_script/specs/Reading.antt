-- The guard and the areas of an area file, or its first faulty line.
use Rattle.std.specs.Prelude.{ℕ, Bool, true, false, ◌==◌, ◌&&◌, ◌+◌, ◌-◌, ◌≡◌, nat_lt, nat_le, List, [], ◌∷◌, ◌++◌, length, replicate, slice_index, codes, Option, Some, None, Result, Ok, Err, if◌then◌else◌}
use Rattle.std.specs.List.{list_all}
use Rattle.std.specs.Str.{bytes_eq}
use Rattle.hex.specs.Hex.{decode_of, decode_sized}
use Rattle.hex.specs.declared.error.FromHexError.{FromHexError}
use Rattle.s7_item.specs.Codes.{inputs, outputs, flags, data_blocks, counters, timers}
use Rattle.s7_area.specs.Memory.{Memory, no_areas, with_area}
use Rattle.s7_area.specs.Registers.{fault_of, is_wrong_size}
use Rattle.s7_area.specs.declared.guard.Guard.{Guard}
use Rattle.s7_area.specs.declared.key.AreaKey.{AreaKey}
use Rattle.s7_area.specs.declared.register.RegisterFault.{RegisterFault}
use Rattle.s7_area.specs.declared.register.RegisterFault.TheVariants as refusal
use Rattle.s7_text.specs.Lines.{Text, is_passed, lines, next_line}
use Rattle.s7_text.specs.Fields.{field_of, number_of, parts_around, rest_of}
use Rattle.s7_script.specs.declared.areas.version.Version.{Version}
use Rattle.s7_script.specs.declared.areas.version.Version.TheVariants.{One, Two}
use Rattle.s7_script.specs.declared.areas.fault.AreasFault.{AreasFault}
use Rattle.s7_script.specs.declared.areas.fault.AreasKind.{AreasKind}
use Rattle.s7_script.specs.declared.areas.fault.AreasKind.TheVariants as kind

infixl 10 ◌>>=◌
abbrev pub ◌>>=◌ : {A B : Type 0} → Result A AreasFault → (A → Result B AreasFault) → Result B AreasFault
(Ok x) >>= f = f x
(Err e) >>= f = Err e

abbrev pub fault_at : {A : Type 0} → ℕ → AreasKind → Result A AreasFault
fault_at line kind = Err (record { line = line; kind = kind })

-- a number that is in the range of its field
abbrev pub number_within : ℕ → ℕ → Option ℕ → ℕ → Result ℕ AreasFault
number_within low high None line = fault_at line kind.Number
number_within low high (Some n) line =
    if nat_le low n && nat_le n high then Ok n else fault_at line kind.Number

-- the version that the first line names
abbrev pub version_of : Text → Option Version
version_of text =
    if bytes_eq text (codes "s7 areas 1") then Some One
    else (if bytes_eq text (codes "s7 areas 2") then Some Two
    else None)

-- ---- the line of the guard

-- printable ASCII without space
abbrev pub is_graphic : ℕ → Bool
is_graphic b = nat_le 0x21 b && nat_le b 0x7E

-- one to eight printable ASCII octets without space
abbrev pub is_word : Text → Bool
is_word text = (nat_le 1 (length text) && nat_le (length text) 8) && list_all is_graphic text

-- a word, padded with spaces to eight octets
abbrev pub password_of : Text → List ℕ
password_of word = word ++ replicate (8 - length word) 0x20

-- the password, which is the last field, since a word has no space
abbrev pub with_word : ℕ → ℕ → Option Text → Result Guard AreasFault
with_word line level None = fault_at line kind.Line
with_word line level (Some text) =
    if is_word text then Ok (record { level = level; password = password_of text }) else fault_at line kind.Line

-- the level and the password
abbrev pub guard_line : ℕ → Option Text → Result Guard AreasFault
guard_line line None = fault_at line kind.Line
guard_line line (Some text) = do
  level ← number_within 2 3 (number_of (field_of text)) line
  with_word line level (rest_of text)

-- ---- a line that begins an area

abbrev pub area_named : Text → Option ℕ
area_named name =
    if bytes_eq name (codes "PE") then Some inputs
    else (if bytes_eq name (codes "PA") then Some outputs
    else (if bytes_eq name (codes "MK") then Some flags
    else (if bytes_eq name (codes "CT") then Some counters
    else (if bytes_eq name (codes "TM") then Some timers
    else (if bytes_eq name (codes "DB") then Some data_blocks
    else None)))))

-- the name and the length of an area, if no field is left after them
abbrev pub ended : ℕ → AreaKey × ℕ → Option Text → Result (AreaKey × ℕ) AreasFault
ended line area None = Ok area
ended line area (Some rest) = fault_at line kind.Line

-- the length, which is the last field
abbrev pub with_size : ℕ → AreaKey → Option Text → Result (AreaKey × ℕ) AreasFault
with_size line key None = fault_at line kind.Line
with_size line key (Some text) = do
  size ← number_within 0 9999999999 (number_of (field_of text)) line
  ended line (key, size) (rest_of text)

-- the number of a data block, and its length
abbrev pub block_line : ℕ → Option Text → Result (AreaKey × ℕ) AreasFault
block_line line None = fault_at line kind.Line
block_line line (Some text) = do
  number ← number_within 1 65535 (number_of (field_of text)) line
  with_size line (record { area = data_blocks; number = number }) (rest_of text)

abbrev pub named_line : ℕ → Option ℕ → Option Text → Result (AreaKey × ℕ) AreasFault
named_line line None rest = fault_at line kind.Line
named_line line (Some area) rest =
    if area == data_blocks then block_line line rest
    else with_size line (record { area = area; number = 0 }) rest

-- the name and the length of an area
abbrev pub area_line : ℕ → Text → Result (AreaKey × ℕ) AreasFault
area_line line text = named_line line (area_named (field_of text))
    (rest_of text)

-- ---- a line of octets

-- the octets that the hexadecimal digits of a line spell, or the line's fault
abbrev pub hex_octets : ℕ → Result (List ℕ) FromHexError → Result (List ℕ) AreasFault
hex_octets line (Ok octets) = Ok octets
hex_octets line (Err e) = fault_at line kind.Digits

-- the octet that two hexadecimal digits spell, or the line's fault
abbrev pub run_octet : ℕ → Result (List ℕ) FromHexError → Result ℕ AreasFault
run_octet line (Ok octets) = Ok (slice_index octets 0)
run_octet line (Err e) = fault_at line kind.Digits

-- the count and the octet of a run, from the texts before and after its `*`
abbrev pub run_of : ℕ → Text × Text → Result (ℕ × ℕ) AreasFault
run_of line parts = do
  count ← number_within 1 9999999999 (number_of parts.0) line
  octet ← run_octet line (decode_sized parts.1 1)
  Ok (count, octet)

abbrev pub run_octets : ℕ → Text × Text → Result (List ℕ) AreasFault
run_octets line parts = do
  run ← run_of line parts
  Ok (replicate run.0 run.1)

-- the texts before and after the `*` of a run; version 1 has no runs
abbrev pub run_parts : Version → Text → Option (Text × Text)
run_parts One text = None
run_parts Two text = parts_around 42 text

abbrev pub octets_by : ℕ → Text → Option (Text × Text) → Result (List ℕ) AreasFault
octets_by line text None = hex_octets line (decode_of text)
octets_by line text (Some parts) = run_octets line parts

-- the octets that a line states
abbrev pub line_octets : ℕ → Version → Text → Result (List ℕ) AreasFault
line_octets line version text = octets_by line text (run_parts version text)

-- ---- the lines in order

-- an area whose octets are being read, and the line that began it
pub record Open : Type 0 where
  pub line : ℕ
  pub key : AreaKey
  pub size : ℕ
  pub octets : List ℕ

pub record State : Type 0 where
  pub version : Version
  -- no guard and no area came yet
  pub may_guard : Bool
  -- the complete areas, and the guard
  pub areas : Memory
  pub current : Option Open

-- a line that gives a guard, wherever it stands
abbrev pub is_guard_line : Text → Bool
is_guard_line text = bytes_eq (field_of text) (codes "protect")

-- the fault of an area that is refused
abbrev pub kind_of : RegisterFault → AreasKind
kind_of refusal.Memory = kind.Memory
kind_of refusal.Key = kind.Register refusal.Key
kind_of refusal.Size = kind.Register refusal.Size
kind_of refusal.Exists = kind.Register refusal.Exists
kind_of refusal.TooManyDbs = kind.Register refusal.TooManyDbs

abbrev pub with_guard : Memory → Guard → Memory
with_guard m guard = record m { guard = Some guard }

-- the state after a guard; at most one may come, and only before any area
abbrev pub guarded : ℕ → State → Option Text → Result State AreasFault
guarded line s rest =
    if s.may_guard
    then guard_line line rest >>= (λ guard. Ok (record s { may_guard = false; areas = with_guard s.areas guard }))
    else fault_at line kind.Line

abbrev pub joined : State → Open → Option RegisterFault → Result State AreasFault
joined s a None = Ok (record s { areas = with_area s.areas a.key a.octets; current = None })
joined s a (Some fault) = fault_at a.line (kind.Register fault)

-- an area that is complete joins the others
abbrev pub registered : State → Open → Result State AreasFault
registered s a = joined s a (fault_of s.areas a.key (length a.octets))

-- an area with more octets, which may be complete now
abbrev pub filled : State → Open → Result State AreasFault
filled s a = if length a.octets == a.size then registered s a else Ok (record s { current = Some a })

-- an area of a wrong size is refused before its octets are read
abbrev pub opened : ℕ → State → AreaKey × ℕ → Result State AreasFault
opened line s area = if is_wrong_size s.areas area.0 area.1
    then fault_at line (kind.Register refusal.Size)
    else Ok (record s {
      may_guard = false;
      current = Some (record { line = line; key = area.0; size = area.1; octets = [] });
    })

-- the octets of a line are appended to those before
abbrev pub with_more : ℕ → State → Open → List ℕ → Result State AreasFault
with_more line s a octets = if nat_lt a.size (length a.octets + length octets)
    then fault_at line kind.Length
    else filled s (record a { octets = a.octets ++ octets })

abbrev pub with_octets : ℕ → State → Open → Result (List ℕ) AreasFault → Result State AreasFault
with_octets line s a (Err e) = Err e
with_octets line s a (Ok octets) = with_more line s a octets

abbrev pub by_current : ℕ → State → Option Open → Text → Result State AreasFault
by_current line s None text = do
  area ← area_line line text
  opened line s area
by_current line s (Some a) text = with_octets line s a (line_octets line s.version text)

unfoldable pub with_line : ℕ → State → Text → Result State AreasFault
with_line line s text =
    if is_passed text then Ok s
    else (if is_guard_line text then guarded line s (rest_of text)
    else by_current line s s.current text)

abbrev pub closed : ℕ → State → Option Open → Result Memory AreasFault
closed line s None = Ok s.areas
closed line s (Some a) = fault_at line kind.Ended

-- the areas and the guard after the lines from this number on, or the first faulty line
unfoldable pub read_lines : ℕ → State → List Text → Result Memory AreasFault
read_lines line s [] = closed line s s.current
read_lines line s (text ∷ rest) = do
  next ← with_line line s text
  read_lines (next_line line) next rest

abbrev pub nothing_read : Version → State
nothing_read version = record { version = version; may_guard = true; areas = no_areas; current = None }

abbrev pub by_version : Option Version → List Text → Result Memory AreasFault
by_version None rest = fault_at 1 kind.Head
by_version (Some version) rest = read_lines 2 (nothing_read version) rest

abbrev pub after_header : List Text → Result Memory AreasFault
after_header [] = fault_at 1 kind.Head
after_header (text ∷ rest) = by_version (version_of text) rest

-- the guard and the areas that an area file names, or its first faulty line
abbrev pub areas : Text → Result Memory AreasFault
areas text = after_header (lines text)

-- the call returned this fault; nothing is said of the call if the fault is that memory ran out
abbrev pub FailsAs : {Y : Type 0} → AreasFault → AreasKind → Result Y AreasFault → Type 0
FailsAs e kind.Memory told = Unit {0}
FailsAs e _ told = told ≡ Err e

abbrev pub Gives : {X Y : Type 0} → (X → Y) → Result X AreasFault → Result Y AreasFault → Type 0
Gives view (Ok x) told = told ≡ Ok (view x)
Gives view (Err e) told = FailsAs e e.kind told

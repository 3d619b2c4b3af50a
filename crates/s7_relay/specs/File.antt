-- What a windows file says, or its first faulty line: this profile's own.
use Rattle.std.specs.Prelude.{◌≡◌, ◌+◌, Bool, not, List, [], ◌∷◌, ◌++◌, length, map, filter, min, Option, None, Some, Result, Ok, Err, if◌then◌else◌}
use Rattle.std.specs.List.{IsDistinct, list_any}
use Rattle.s7_area.specs.declared.key.AreaKey.{AreaKey}
use Rattle.s7_text.specs.Lines.{Text, is_passed, lines}
use Rattle.s7_relay.specs.Keys.{same_key}
use Rattle.s7_relay.specs.Line.{Terms, line_said}
use Rattle.s7_relay.specs.declared.fault.WindowFault.{WindowFault}
use Rattle.s7_relay.specs.declared.fault.WindowKind.{WindowKind}
use Rattle.s7_relay.specs.declared.fault.WindowKind.TheVariants as fault
use Rattle.s7_relay.specs.declared.windows.Window.{Window}

-- a window, as a line states it
abbrev pub terms_in : Window → Terms
terms_in w = record { near = w.near; length = w.length; far = w.far; offset = w.offset }

abbrev pub near_of : Terms → AreaKey
near_of terms = terms.near

-- the lines that aren't skipped
abbrev pub spoken : List Text → List Text
spoken texts = filter (λ text. not (is_passed text)) texts

-- THESE LINES STATE THESE WINDOWS: each line that isn't skipped states one, in order, and their near areas differ
pub record Say (texts : List Text) (windows : List Terms) : Type 0 where
  pub each : map line_said (spoken texts) ≡ map Ok windows
  pub apart : IsDistinct same_key (map near_of windows)

-- ---- the first faulty line

-- one of these windows, which the lines before state, has this near area
abbrev pub is_met : AreaKey → List Terms → Bool
is_met key windows = list_any (λ (terms : Terms). same_key terms.near key) windows

abbrev pub fault_in : List Terms → Result Terms WindowKind → Option WindowKind
fault_in windows (Ok terms) = if is_met terms.near windows then Some fault.Double else None
fault_in windows (Err kind) = Some kind

-- what is wrong with a line, if the lines before it state these windows
abbrev pub fault_behind : List Terms → Text → Option WindowKind
fault_behind windows text = if is_passed text then None else fault_in windows (line_said text)

-- THE FIRST FAULTY LINE: the lines before it state windows, and after these it has this fault. Lines are numbered from
-- 1; all lines after line 4,294,967,295 have that number.
pub record IsFirstFault (texts : List Text) (e : WindowFault) : Type 0 where
  pub before : List Text
  pub text : Text
  pub after : List Text
  pub windows : List Terms
  pub lines : texts ≡ before ++ text ∷ after
  pub said : Say before windows
  pub kind : fault_behind windows text ≡ Some e.kind
  pub line : e.line ≡ min (length before + 1) 4294967295

-- ---- a file

-- THE WINDOWS that a file states
abbrev pub SaysWindows : Text → List Window → Type 0
SaysWindows text windows = Say (lines text) (map terms_in windows)

-- the claim holds, unless memory ran out
abbrev pub FailsBy : WindowKind → Type 0 → Type 0
FailsBy fault.Memory Claim = Unit {0}
FailsBy kind Claim = Claim

abbrev pub SaysFault : Text → WindowFault → Type 0
SaysFault text e = FailsBy e.kind (IsFirstFault (lines text) e)

-- ---- what a line adds

abbrev pub ok_list : Result Terms WindowKind → List Terms
ok_list (Ok terms) = terms ∷ []
ok_list (Err kind) = []

-- the window that a line states, none if the line is skipped
abbrev pub said_by : Text → List Terms
said_by text = if is_passed text then [] else ok_list (line_said text)

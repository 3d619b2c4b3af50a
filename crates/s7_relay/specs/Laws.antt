-- Laws of windows.
use Rattle.std.specs.Prelude.{◌≡◌, ℕ, ◌+◌, ◌%◌, ◌^◌, ◌<◌, Bool, false, IsTrue, List, length, map, None, Some, option_map, true, if◌then◌else◌}
use Rattle.std.specs.List.{AllByRecursion, IsDistinct}
use Rattle.s7_item.specs.Codes.{good, no_area, wrong_word}
use Rattle.s7_item.specs.declared.item.Item.{Item}
use Rattle.s7_area.specs.Keys.{is_numbered}
use Rattle.s7_area.specs.Memory.{Memory, area_octets, read_code, write_code}
use Rattle.s7_area.specs.Places.{is_inside, is_misfit, key_of, start_of}
use Rattle.s7_area.specs.declared.key.AreaKey.{AreaKey}
use Rattle.s7_text.specs.Lines.{Text}
use Rattle.s7_relay.specs.File.{IsFirstFault, Say, SaysWindows, near_of, terms_in}
use Rattle.s7_relay.specs.Keys.{same_key}
use Rattle.s7_relay.specs.Line.{Terms}
use Rattle.s7_relay.specs.Spelling.{windows_text}
use Rattle.s7_relay.specs.Windows.{far_item, near_code, near_put_code, window_of}
use Rattle.s7_relay.specs.declared.fault.WindowFault.{WindowFault}
use Rattle.s7_relay.specs.declared.windows.Window.{Window}

-- ---- files

-- lines state at most one list of windows and have at most one first fault, and not both
pub record FilesAreOne : Type 0 where
  pub windows : (texts : List Text) (ws vs : List Terms) → Say texts ws → Say texts vs → ws ≡ vs
  pub fault : (texts : List Text) (e d : WindowFault) → IsFirstFault texts e → IsFirstFault texts d → e ≡ d
  pub either : (texts : List Text) (ws : List Terms) (e : WindowFault) → Say texts ws → IsFirstFault texts e → ⊥

-- the numbers of data blocks have two octets, as everywhere in code
pub record HasNumbers (w : Window) : Type 0 where
  pub near : w.near.number < 65536
  pub far : w.far.number < 65536

-- the text of windows whose near areas differ states these windows
abbrev pub WindowsHaveTexts : Type 0
WindowsHaveTexts =
    (ws : List Window) → AllByRecursion HasNumbers ws → IsDistinct same_key (map near_of (map terms_in ws))
    → SaysWindows (windows_text ws) ws

-- ---- near codes

abbrev pub length_of : Window → ℕ
length_of w = w.length

-- a memory without guard whose areas are those of the windows, each as long as its window
pub record IsAsLong (m : Memory) (windows : List Window) : Type 0 where
  pub unguarded : m.guard ≡ None
  pub areas : (key : AreaKey) → option_map length (area_octets m key) ≡ option_map length_of (window_of windows key)

-- the near codes are those of reads and writes in any such memory, and there is such a memory
pub record NearCodesAreCodes : Type 0 where
  pub reads :
      (m : Memory) (windows : List Window) → IsAsLong m windows
      → (right : Bool) (item : Item) → near_code windows item ≡ read_code m right item
  pub writes :
      (m : Memory) (windows : List Window) → IsAsLong m windows
      → (right : Bool) (item : Item) (octets : List ℕ)
      → near_put_code windows item octets ≡ write_code m right item octets
  pub some : (windows : List Window) → (m : Memory) × IsAsLong m windows
  -- no window has counters or timers
  pub numbered :
      (windows : List Window) (item : Item) → is_numbered item.area ≡ true
      → near_code windows item ≡ (if is_misfit item then wrong_word else no_area)

-- ---- far items

-- the far item is in the far area of the window, further on by the window's offset, and inside the part that is shown
pub record LiesIn (w : Window) (item far : Item) : Type 0 where
  pub area : key_of far ≡ w.far
  pub start : start_of far ≡ start_of item + w.offset
  pub bit : far.address % 8 ≡ item.address % 8
  pub word : far.word ≡ item.word
  pub count : far.count ≡ item.count
  pub inside : IsTrue (is_inside far (w.offset + w.length))
  pub fits : is_misfit far ≡ false
  pub address : far.address < 2 ^ 24

-- the far item of an item with the near code FF lies where its window says
abbrev pub FarItemsLie : Type 0
FarItemsLie =
    (windows : List Window) (item : Item) → near_code windows item ≡ good
    → (w : Window) × (window_of windows (key_of item) ≡ Some w) × LiesIn w item (far_item windows item)

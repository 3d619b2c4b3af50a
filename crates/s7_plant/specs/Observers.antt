-- What is seen of an observer after the events that it was notified of, by its mask (Snap7 1.4 reference manual,
-- `Srv_SetMask`). The tail of last events is this profile's own.
use Rattle.std.specs.Prelude.{◌≡◌, ℕ, ◌+◌, ◌-◌, ◌^◌, ◌==◌, List, [], ◌∷◌, ◌++◌, length, fold, slice_get}
use Rattle.std.specs.Prelude.{Option, None, if◌then◌else◌, bit_and, min, nat_lt}
use Rattle.circular_buffer.specs.Buffer.{keep_last}
use Rattle.s7_plant.specs.declared.event.Event.{Event}

-- a mask of codes, the greatest number of events that are kept, the number of events counted, and the events kept
pub record Seen : Type 0 where
  pub mask : ℕ
  pub depth : ℕ
  pub count : ℕ
  pub tail : List Event

abbrev pub seen_with : ℕ → ℕ → ℕ → List Event → Seen
seen_with mask depth count tail = record { mask = mask; depth = depth; count = count; tail = tail }

-- an observer with the same mask and depth that has counted nothing
abbrev pub fresh : Seen → Seen
fresh s = seen_with s.mask s.depth 0 []

-- an observer has counted nothing yet
abbrev pub IsFresh : Seen → Type 0
IsFresh s = s ≡ fresh s

-- an observer after one event: if the event's code shares a bit with the mask, the count rises by one, at most to 2^64
-- - 1, and the event is appended to the tail, of which the last `depth` events stay; any other event changes nothing
abbrev pub told_one : Seen → Event → Seen
told_one s e =
    if bit_and e.code s.mask == 0 then s
    else seen_with s.mask s.depth (min (s.count + 1) (2 ^ 64 - 1)) (keep_last s.depth (s.tail ++ e ∷ []))

-- an observer after these events, in order
abbrev pub told : Seen → List Event → Seen
told s events = fold told_one s events

-- the event that n kept events follow
abbrev pub newest_of : List Event → ℕ → Option Event
newest_of tail n = if nat_lt n (length tail) then slice_get tail (length tail - n - 1) else None

-- an observer of a book, with the length that the journal had when the observer came
pub record Watch : Type 0 where
  pub seen : Seen
  pub since : ℕ

abbrev pub watch : Seen → ℕ → Watch
watch s since = record { seen = s; since = since }

abbrev pub watch_one : Event → Watch → Watch
watch_one e w = watch (told_one w.seen e) w.since

abbrev pub watch_all : List Event → Watch → Watch
watch_all events w = watch (told w.seen events) w.since

-- What the reader of windows files holds, as contracts see it.
use Rattle.std.specs.Prelude.{◌≡◌, ◌++◌, List, None, Some}
use Rattle.s7_text.specs.Lines.{Text}
use Rattle.s7_relay.specs.File.{fault_behind, said_by}
use Rattle.s7_relay.specs.Line.{Parts, Terms}
use Rattle.s7_relay.specs.declared.fault.WindowKind.{WindowKind}
use Rattle.s7_relay.specs.declared.fault.WindowKind.TheVariants as fault
use Rattle.s7_relay.specs.declared.line.LineFields.{LineFields}

abbrev pub parts_told : LineFields → Parts
parts_told f = record { near = f.near.now; length = f.length.now; far = f.far.now; offset = f.offset.now }

-- after these windows the line has no fault; `more` are these windows and the one that the line states, if there is one
pub record Adds (windows : List Terms) (text : Text) (more : List Terms) : Type 0 where
  pub faultless : fault_behind windows text ≡ None
  pub said : more ≡ windows ++ said_by text

-- this is what is wrong with the line, unless memory ran out
abbrev pub FailsLine : List Terms → Text → WindowKind → Type 0
FailsLine windows text fault.Memory = Unit {0}
FailsLine windows text kind = fault_behind windows text ≡ Some kind

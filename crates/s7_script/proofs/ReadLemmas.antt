-- The lines one by one.
use Rattle.std.proofs.Common.{◌≡◌, ℕ, refl, ap, List, [], ◌∷◌, Result, Ok}
use Rattle.s7_text.specs.Lines.{Text, next_line}
use Rattle.s7_script.specs.Reading.{State, FailsAs, with_line, read_lines, closed, ◌>>=◌}
use Rattle.s7_script.specs.declared.areas.fault.AreasFault.{AreasFault}
use Rattle.s7_script.specs.declared.areas.fault.AreasKind.{AreasKind}
use Rattle.s7_script.specs.declared.areas.fault.AreasKind.TheVariants as kind

-- a step that fails makes the whole fail
fails_on : {A B : Type 0} (e : AreasFault) (k : AreasKind) (r : Result A AreasFault) (f : A → Result B AreasFault) → FailsAs e k r → FailsAs e k (r >>= f)
fails_on e kind.Memory r f h = tt
fails_on e kind.Head r f h = ap (λ x. x >>= f) h
fails_on e kind.Line r f h = ap (λ x. x >>= f) h
fails_on e kind.Number r f h = ap (λ x. x >>= f) h
fails_on e kind.Digits r f h = ap (λ x. x >>= f) h
fails_on e kind.Length r f h = ap (λ x. x >>= f) h
fails_on e (kind.Register g) r f h = ap (λ x. x >>= f) h
fails_on e kind.Ended r f h = ap (λ x. x >>= f) h

pub line_fails : (line : ℕ) (s : State) (text : Text) (rest : List Text) (e : AreasFault) → FailsAs e e.kind (with_line line s text)
    → FailsAs e e.kind (read_lines line s (text ∷ rest))
unfolding read_lines
line_fails line s text rest e h = fails_on e e.kind (with_line line s text) (λ next. read_lines (next_line line) next rest) h

pub line_passes : (line : ℕ) (s next : State) (text : Text) (rest : List Text) → with_line line s text ≡ Ok next
    → read_lines line s (text ∷ rest) ≡ read_lines (next_line line) next rest
unfolding read_lines
line_passes line s next text rest h = ap (λ r. r >>= λ now. read_lines (next_line line) now rest) h

pub ends : (line : ℕ) (s : State) → read_lines line s [] ≡ closed line s s.current
unfolding read_lines
ends line s = refl

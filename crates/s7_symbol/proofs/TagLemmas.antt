-- The lines of a tag file one after another.
use Rattle.std.proofs.Common.{◌≡◌, ℕ, List, [], ◌∷◌, Ok, Err, refl}
use Rattle.s7_text.specs.Lines.{Text, next_line}
use Rattle.s7_symbol.specs.LineShown.{FailsLine}
use Rattle.s7_symbol.specs.Tags.{FailsAs, tags_from, with_tag}
use Rattle.s7_symbol.specs.declared.fault.TagFaultKind.{TagFaultKind}
use Rattle.s7_symbol.specs.declared.fault.TagFaultKind.TheVariants as fault
use Rattle.s7_symbol.specs.declared.tag.Tag.{Tag}

pub tags-ended : (line : ℕ) (found : List Tag) → tags_from line found [] ≡ Ok found
unfolding tags_from
tags-ended line found = refl

pub tags-step : (line : ℕ) (found new : List Tag) (text : Text) (rest : List Text) → with_tag found text ≡ Ok new
    → tags_from line found (text ∷ rest) ≡ tags_from (next_line line) new rest
unfolding tags_from
tags-step line found new text rest is = rw is refl

fails_by : (line : ℕ) (found : List Tag) (text : Text) (rest : List Text) (e : TagFaultKind) → with_tag found text ≡ Err e
    → tags_from line found (text ∷ rest) ≡ Err (record { line = line; kind = e })
unfolding tags_from
fails_by line found text rest e is = rw is refl

pub tags-fail : (line : ℕ) (found : List Tag) (text : Text) (rest : List Text) (e : TagFaultKind) → FailsLine found text e
    → FailsAs (record { line = line; kind = e }) e (tags_from line found (text ∷ rest))
tags-fail line found text rest fault.Fields is = fails_by line found text rest fault.Fields is
tags-fail line found text rest fault.Name is = fails_by line found text rest fault.Name is
tags-fail line found text rest fault.Type is = fails_by line found text rest fault.Type is
tags-fail line found text rest fault.Place is = fails_by line found text rest fault.Place is
tags-fail line found text rest fault.Double is = fails_by line found text rest fault.Double is
tags-fail line found text rest fault.TooMany is = fails_by line found text rest fault.TooMany is
tags-fail line found text rest fault.Memory is = tt

-- Items, lines and jobs one by one.
use Rattle.std.proofs.Common.{◌≡◌, ◌≢◌, ◌∙◌, ◌<◌, ℕ, Bool, true, false, refl, sym, ap, arith, List, [], ◌∷◌, ◌++◌, length, Result, Ok, Err, append_assoc, append-nil, cond, Option, None, Some, option_map}
use Rattle.std.specs.Prelude.{◌==◌, unwrap_or}
use Rattle.hex.specs.Hex.{decode_of, decode_sized}
use Rattle.hex.specs.declared.error.FromHexError.{FromHexError}
use Rattle.hex.proofs.HexLemmas.{decode_of-ok, decode_sized-twice}
use Rattle.s7_item.specs.declared.item.Item.{Item}
use Rattle.s7_item.specs.Word.{Row, of_size, size_of}
use Rattle.s7_symbol.specs.declared.tag.Tag.{Tag}
use Rattle.s7_text.specs.Lines.{Text, next_line}
use Rattle.s7_script.specs.Script.{FailsAs, LineFails, Written, element_size, read_item, read_items, written_item, written_items, ◌>>=◌}
use Rattle.s7_script.specs.Tagged.{line_jobs, script_lines}
use Rattle.s7_script.specs.ScriptShown.{appended, written_after}
use Rattle.s7_script.specs.declared.scripts.script_list.ScriptLine.{ScriptLine}
use Rattle.s7_script.specs.declared.scripts.script_fault.ScriptFault.{ScriptFault}
use Rattle.s7_script.specs.declared.scripts.script_fault.ScriptKind.{ScriptKind}
use Rattle.s7_script.specs.declared.scripts.script_fault.ScriptKind.TheVariants as kind

-- a step that fails makes the whole fail
pub fails_on : {A B : Type 0} (e : ScriptKind) (r : Result A ScriptKind) (f : A → Result B ScriptKind) → FailsAs e r → FailsAs e (r >>= f)
fails_on kind.Memory r f h = tt
fails_on kind.Word r f h = ap (λ x. x >>= f) h
fails_on kind.Number r f h = ap (λ x. x >>= f) h
fails_on kind.Digits r f h = ap (λ x. x >>= f) h
fails_on kind.Fields r f h = ap (λ x. x >>= f) h

-- what fails with this fault fails so
pub fails_exactly : {A : Type 0} (e : ScriptKind) (r : Result A ScriptKind) → r ≡ Err e → FailsAs e r
fails_exactly kind.Memory r h = tt
fails_exactly kind.Word r h = h
fails_exactly kind.Number r h = h
fails_exactly kind.Digits r h = h
fails_exactly kind.Fields r h = h

pub line_fails_on : {A B : Type 0} (e : ScriptFault) (k : ScriptKind) (r : Result A ScriptFault) (f : A → Result B ScriptFault) → LineFails e k r → LineFails e k (r >>= f)
line_fails_on e kind.Memory r f h = tt
line_fails_on e kind.Word r f h = ap (λ x. x >>= f) h
line_fails_on e kind.Number r f h = ap (λ x. x >>= f) h
line_fails_on e kind.Digits r f h = ap (λ x. x >>= f) h
line_fails_on e kind.Fields r f h = ap (λ x. x >>= f) h

-- a text that is refused for so many octets has other ones
pub sized-refused : (text : Text) (n : ℕ) (e : FromHexError) (octets : List ℕ) → decode_sized text n ≡ Err e → decode_of text ≡ Ok octets → length octets ≢ n
sized-refused text n e octets refused is =
    λ len. let whole = (decode_of-ok text octets is).2 in
    cc (sym refused ∙ decode_sized-twice text n (omega (arith, whole, len)) ∙ is)

-- one more item
one_more : (items : List Item) (item : Item) (more : Result (List Item) ScriptKind) → appended items (more >>= (λ others. Ok (item ∷ others))) ≡ appended (items ++ item ∷ []) more
one_more items item (Ok others) = ap Ok (sym (append_assoc items (item ∷ []) others))
one_more items item (Err e) = refl

pub items-step : (items : List Item) (part : Text) (rest : List Text) (item : Item) → read_item part ≡ Ok item → appended items (read_items (part ∷ rest)) ≡ appended (items ++ item ∷ []) (read_items rest)
unfolding read_items
items-step items part rest item h =
    ap (λ r. appended items (r >>= (λ first. read_items rest >>= (λ others. Ok (first ∷ others))))) h
    ∙ one_more items item (read_items rest)

pub items-fail : (items : List Item) (part : Text) (rest : List Text) (e : ScriptKind) → read_item part ≡ Err e → FailsAs e (appended items (read_items (part ∷ rest)))
unfolding read_items
items-fail items part rest e h =
    fails_exactly e (appended items (read_items (part ∷ rest)))
    (ap (λ r. appended items (r >>= (λ first. read_items rest >>= (λ others. Ok (first ∷ others))))) h)

-- one more item with its octets
written_more : (w : List Item × List ℕ) (first : Written) (more : Result (List Item × List ℕ) ScriptKind)
    → written_after w (more >>= (λ others. Ok (first.0 ∷ others.0, first.1 ++ others.1))) ≡ written_after (w.0 ++ first.0 ∷ [], w.1 ++ first.1) more
written_more w first (Ok others) =
    ap (λ items. Ok (items, w.1 ++ (first.1 ++ others.1))) (sym (append_assoc w.0 (first.0 ∷ []) others.0))
    ∙ ap (λ octets. Ok ((w.0 ++ first.0 ∷ []) ++ others.0, octets)) (sym (append_assoc w.1 first.1 others.1))
written_more w first (Err e) = refl

pub written-step : (w : List Item × List ℕ) (part : Text) (rest : List Text) (first : Written) → written_item part ≡ Ok first
    → written_after w (written_items (part ∷ rest)) ≡ written_after (w.0 ++ first.0 ∷ [], w.1 ++ first.1) (written_items rest)
unfolding written_items
written-step w part rest first h =
    ap (λ r. written_after w (r >>= (λ (one : Written). written_items rest >>= (λ others. Ok (one.0 ∷ others.0, one.1 ++ others.1))))) h
    ∙ written_more w first (written_items rest)

pub written-fail : (w : List Item × List ℕ) (part : Text) (rest : List Text) (e : ScriptKind) → FailsAs e (written_item part) → FailsAs e (written_after w (written_items (part ∷ rest)))
unfolding written_items
written-fail w part rest e h =
    fails_on e (written_items (part ∷ rest)) (λ others. Ok (w.0 ++ others.0, w.1 ++ others.1))
    (fails_on e (written_item part) (λ (one : Written). written_items rest >>= (λ others. Ok (one.0 ∷ others.0, one.1 ++ others.1))) h)

-- one more line
pub append-step : {X E : Type 0} (found new : List X) (r more : Result (List X) E) → appended found r ≡ Ok new
    → appended found (r >>= (λ first. more >>= (λ others. Ok (first ++ others)))) ≡ appended new more
append-step found new (Ok first) (Ok others) h =
    let same : found ++ first ≡ new = cc in
    ap Ok (sym (append_assoc found first others)) ∙ ap (λ l. Ok (l ++ others)) same
append-step found new (Ok first) (Err e) h = refl
append-step found new (Err e) more h = cc

-- a line that fails
pub append-fail : {X : Type 0} (found : List X) (r more : Result (List X) ScriptFault) (e : ScriptFault) → LineFails e e.kind r
    → LineFails e e.kind (appended found (r >>= (λ first. more >>= (λ others. Ok (first ++ others)))))
append-fail found r more e h =
    line_fails_on e e.kind (r >>= (λ first. more >>= (λ others. Ok (first ++ others)))) (λ others. Ok (found ++ others))
    (line_fails_on e e.kind r (λ first. more >>= (λ others. Ok (first ++ others))) h)

pub lines-step : (tags : Option (List Tag)) (found new : List ScriptLine) (line : ℕ) (text : Text) (rest : List Text)
    → appended found (line_jobs tags line text) ≡ Ok new
    → appended found (script_lines tags line (text ∷ rest)) ≡ appended new (script_lines tags (next_line line) rest)
unfolding script_lines
lines-step tags found new line text rest h =
    append-step found new (line_jobs tags line text) (script_lines tags (next_line line) rest) h

pub lines-fail : (tags : Option (List Tag)) (found : List ScriptLine) (line : ℕ) (text : Text) (rest : List Text) (e : ScriptFault)
    → LineFails e e.kind (line_jobs tags line text)
    → LineFails e e.kind (appended found (script_lines tags line (text ∷ rest)))
unfolding script_lines
lines-fail tags found line text rest e h =
    append-fail found (line_jobs tags line text) (script_lines tags (next_line line) rest) e h

-- no element is empty
some_size : (a b c d e f g h i j : Bool)
    → 0 < unwrap_or (option_map (λ (r : Row). r.size) (cond a (Some (of_size 1 0x03)) (cond b (Some (of_size 1 0x04)) (cond c (Some (of_size 1 0x09)) (cond d (Some (of_size 2 0x04)) (cond e (Some (of_size 2 0x05)) (cond f (Some (of_size 4 0x04)) (cond g (Some (of_size 4 0x05)) (cond h (Some (of_size 4 0x07)) (cond i (Some (of_size 2 0x09)) (cond j (Some (of_size 2 0x09)) None))))))))))) 1
some_size true b c d e f g h i j = omega arith
some_size false true c d e f g h i j = omega arith
some_size false false true d e f g h i j = omega arith
some_size false false false true e f g h i j = omega arith
some_size false false false false true f g h i j = omega arith
some_size false false false false false true g h i j = omega arith
some_size false false false false false false true h i j = omega arith
some_size false false false false false false false true i j = omega arith
some_size false false false false false false false false true j = omega arith
some_size false false false false false false false false false true = omega arith
some_size false false false false false false false false false false = omega arith

pub some-size : (word : ℕ) → 0 < element_size word
unfolding size_of
some-size word =
    some_size (word == 0x01) (word == 0x02) (word == 0x03) (word == 0x04) (word == 0x05) (word == 0x06) (word == 0x07) (word == 0x08) (word == 0x1C) (word == 0x1D)

-- nothing is left
pub lines-ended : (tags : Option (List Tag)) (found : List ScriptLine) (line : ℕ) → appended found (script_lines tags line []) ≡ Ok found
unfolding script_lines
lines-ended tags found line = ap Ok (append-nil found)

pub items-ended : (items : List Item) → appended items (read_items []) ≡ Ok items
unfolding read_items
items-ended items = ap Ok (append-nil items)

pub written-ended : (w : List Item × List ℕ) → written_after w (written_items []) ≡ Ok w
unfolding written_items
written-ended w = ap (λ items. Ok (items, w.1 ++ [])) (append-nil w.0) ∙ ap (λ octets. Ok (w.0, octets)) (append-nil w.1)

-- What was read of tag files and of texts whose lines may name tags.
use Rattle.std.proofs.Common.{◌≡◌, ◌∙◌, ◌<◌, refl, sym, ap, arith, subst, List, [], ◌∷◌, length, ℕ, false, true≢false, None, Some, Option, Result, Ok, Err}
use Rattle.std.specs.Prelude.{◌==◌, IsSomeAnd}
use Rattle.s7_outer.specs.FilesShown.{FilesShown}
use Rattle.s7_symbol.specs.declared.tag.Tag.{Tag}
use Rattle.s7_program.specs.Lines.{file_line}
use Rattle.s7_script.specs.declared.areas.load.LoadFault.{LoadFault}
use Rattle.s7_script.specs.declared.areas.load.LoadFault.TheVariants as fault
use Rattle.s7_tool_main.specs.Loading.{FailsTags, IsRefusedFor, IsUnloaded, ReadsTags, ReadsTagsBy, ReadsText, Reader}
use Rattle.s7_tool_main.specs.Loading.{RefusesTags, RefusesTagsBy, RefusesText, StopsAtTags, StopsAtTagsBy, numbered}
use Rattle.s7_tool_main.specs.Loading.{refusal_line, some_tags, tag_reader, watch_reader}
use Rattle.s7_tool_main.specs.Report.{tags_line}

-- ---- readers

-- what a text names, whatever the number of a faulty line is
pub named_by : {A E : Type 0} (line_of : E → ℕ) (read : Result A E) (x : A) → numbered line_of read ≡ Ok x
    → read ≡ Ok x
named_by line_of (Ok y) x is = cc
named_by line_of (Err e) x is = absurd (cc)

-- the number of a faulty line
pub faulty_by : {A E : Type 0} (line_of : E → ℕ) (read : Result A E) (e : E) → read ≡ Err e
    → numbered line_of read ≡ Err (line_of e)
faulty_by line_of read e is = ap (numbered line_of) is

-- ---- texts that were read

-- what holds with what was read
pub with_read : {A : Type 0} (reader : Reader A) (path : List ℕ) (files : FilesShown) (lines : List A)
    (P : List A → Type 0) → ReadsText reader path files (λ read. read ≡ lines) → P lines
    → ReadsText reader path files P
with_read reader path files lines P h p =
    record { octets = h.octets; lines = h.lines; sized = h.sized; held = h.held; named = h.named; so = subst P (sym h.so) p }

-- what holds with the tags that were read, if any
pub with_tags_by : (reader : Reader Tag) (path : Option (List ℕ)) (files : FilesShown) (known : Option (List Tag))
    (P : Option (List Tag) → Type 0) → ReadsTagsBy reader path files (λ found. found ≡ known) → P known
    → ReadsTagsBy reader path files P
with_tags_by reader None files known P h p = subst P (sym h) p
with_tags_by reader (Some path) files known P h p =
    record { octets = h.octets; lines = h.lines; sized = h.sized; held = h.held; named = h.named; so = subst P (sym h.so) p }

pub with_tags : (path : Option (List ℕ)) (files : FilesShown) (known : Option (List Tag))
    (P : Option (List Tag) → Type 0) → ReadsTags path files (λ found. found ≡ known) → P known
    → ReadsTags path files P
with_tags path files known P h p = with_tags_by tag_reader path files known P h p

-- ---- watch files

kept : (named : List Tag) → 0 < length named → some_tags (Ok named) ≡ Ok named
kept [] some = absurd (omega (arith, some))
kept (tag ∷ named) some = refl

emptied : (named : List Tag) → length named ≡ 0 → some_tags (Ok named) ≡ Err 1
emptied [] none = refl
emptied (tag ∷ named) none = absurd (omega (arith, none))

pub some_by : (named : List Tag) → (length named == 0) ≡ false → 0 < length named
some_by [] none = absurd (true≢false none)
some_by (tag ∷ named) none = omega arith

-- a tag file with a tag is read as a watch file
pub watch_read : (path : List ℕ) (files : FilesShown) (named : List Tag) → 0 < length named
    → ReadsText tag_reader path files (λ read. read ≡ named)
    → ReadsText watch_reader path files (λ read. read ≡ named)
watch_read path files named some h = record {
  octets = h.octets;
  lines = h.lines;
  sized = h.sized;
  held = h.held;
  named = ap some_tags h.named ∙ kept h.lines (subst (λ (l : List Tag). 0 < length l) (sym h.so) some);
  so = h.so;
}

-- one without a tag isn't
pub watch_empty : (path : List ℕ) (old new : FilesShown) (named : List Tag) → length named ≡ 0 → new ≡ old
    → ReadsText tag_reader path old (λ read. read ≡ named) → IsUnloaded watch_reader path old new (fault.Line 1)
watch_empty path old new named none same h = record {
  refused = record {
    octets = h.octets;
    sized = h.sized;
    held = h.held;
    fails = ap some_tags h.named ∙ emptied h.lines (ap (λ (l : List Tag). length l) h.so ∙ none);
  };
  failed = λ other. absurd (cc);
  unfailed = λ other. same;
}

refused_too : (path : List ℕ) (old : FilesShown) (why : LoadFault) → IsRefusedFor tag_reader path old why
    → IsRefusedFor watch_reader path old why
refused_too path old fault.Failed h = tt
refused_too path old fault.TooLong h = h
refused_too path old (fault.Line n) h =
    record { octets = h.octets; sized = h.sized; held = h.held; fails = ap some_tags h.fails }
refused_too path old fault.Memory h = tt

-- what isn't loaded as a tag file isn't as a watch file
pub watch_unloaded : (path : List ℕ) (old new : FilesShown) (why : LoadFault) → IsUnloaded tag_reader path old new why
    → IsUnloaded watch_reader path old new why
watch_unloaded path old new why h =
    record { refused = refused_too path old why h.refused; failed = h.failed; unfailed = h.unfailed }

-- ---- texts that weren't

pub refuses_text : {A : Type 0} (reader : Reader A) (faulty : ℕ → List ℕ) (path : List ℕ) (why : LoadFault)
    (files : FilesShown) (P : List ℕ → Type 0) → IsRefusedFor reader path files why
    → IsSomeAnd (refusal_line faulty why) P → RefusesText reader faulty path files P
refuses_text reader faulty path fault.Failed files P h printed = absurd printed
refuses_text reader faulty path fault.TooLong files P h printed =
    record { fault = fault.TooLong; line = _; refused = h; line_is = refl; is_printed = printed }
refuses_text reader faulty path (fault.Line k) files P h printed =
    record { fault = fault.Line k; line = _; refused = h; line_is = refl; is_printed = printed }
refuses_text reader faulty path fault.Memory files P h printed = absurd printed

module _ (old new : FilesShown) (path : List ℕ) (why : LoadFault) (P : List ℕ → Type 0) where
  pub refuses_tags_by : (reader : Reader Tag) (tags : Option (List ℕ)) → StopsAtTagsBy reader tags old new path why
      → IsSomeAnd (refusal_line tags_line why) P → RefusesTagsBy reader tags old P
  refuses_tags_by reader tags h printed =
      subst (λ t. RefusesTagsBy reader t old P) (sym h.is)
      (refuses_text reader tags_line path why old P h.unloaded.refused printed)

  pub refuses_tags : (tags : Option (List ℕ)) → StopsAtTags tags old new path why
      → IsSomeAnd (refusal_line tags_line why) P → RefusesTags tags old P
  refuses_tags tags h printed = refuses_tags_by tag_reader tags h printed

  pub fails_tags_by : (reader : Reader Tag) (tags : Option (List ℕ)) → StopsAtTagsBy reader tags old new path why
      → why ≡ fault.Failed → P (file_line path) → FailsTags tags old new P
  fails_tags_by reader tags h failed printed =
      subst (λ t. FailsTags t old new P) (sym h.is)
      (record { rose = h.unloaded.failed failed; is_printed = printed })

  pub fails_tags : (tags : Option (List ℕ)) → StopsAtTags tags old new path why → why ≡ fault.Failed
      → P (file_line path) → FailsTags tags old new P
  fails_tags tags h failed printed = fails_tags_by tag_reader tags h failed printed

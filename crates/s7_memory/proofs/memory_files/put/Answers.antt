use Rattle.std.proofs.Common.{◌≡◌, ◌≢◌, ℕ, List, Option, String, sym, ap, ◌∙◌, false}
use Rattle.std.specs.BTreeMap.{BTreeMap, UpdatesBy, get_by_text, is_at}
use Rattle.std.specs.Cmp.Lexicographic.{slice_cmp}
use Rattle.std.specs.Map.{lookup}
use Rattle.std.specs.Ordering.{nat_cmp}
use Rattle.std.specs.String.{string_bytes, string_cmp}
use Rattle.std.specs.declared.alloc.Global.{Global}
use Rattle.std.specs.Str.{bytes_eq}
use Rattle.std.proofs.lemmas.Bool.{false_from_ne_true, cond-false}
use Rattle.std.proofs.lemmas.Slice.Eq.{bytes_eq-Decides}
use Rattle.std.proofs.lemmas.Map.Text.{btree_map_updates_text}
use Rattle.s7_memory.proofs.memory_files.put.Goals as goal

-- a path that differs keeps its octets
keeps : (path : List ℕ) (m n : BTreeMap (String Global) (List ℕ)) (w : Option (List ℕ)) → UpdatesBy string_cmp (λ k. slice_cmp nat_cmp path (string_bytes k)) m n w → (other : List ℕ) → other ≢ path → get_by_text n other ≡ get_by_text m other
keeps path m n w updates other differs =
    let apart : bytes_eq path other ≡ false = false_from_ne_true (bytes_eq path other) (λ e. differs (sym ((bytes_eq-Decides path other).0 e))) in
    btree_map_updates_text path m n w updates other ∙ cond-false (bytes_eq path other) w (get_by_text m other) apart

pub returns-in-Ok-clause-others : goal.returns-in-Ok-clause-others
returns-in-Ok-clause-others c = λ other differs.
    let path = string_bytes c.in_ok-key.key in
    let spelled : path ≡ c.args.path.now = c.in_ok-key.ensures.ok in
    let differs' : other ≢ path = λ e. differs (e ∙ spelled) in
    keeps path c.taken_map-map.result c.insert-inserted.new.self _ c.in-Ok.ensures.updates other differs'
    ∙ ap (λ entries. lookup (is_at (λ key. slice_cmp nat_cmp other (string_bytes key))) entries) c.taken_map-map.ensures

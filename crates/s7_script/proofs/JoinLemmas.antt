-- An area that `register` takes or refuses.
use Rattle.std.proofs.Common.{◌≡◌, ◌∙◌, ◌≤◌, ◌+◌, ◌-◌, ◌++◌, ℕ, Bool, true, false, cond, refl, sym, ap, subst, arith, List, length, take, replicate, Option, Some, None, Ok, Err, Result, eq-eqb, le-ltb}
use Rattle.std.specs.Prelude.{◌==◌, IfSome, IfNone}
use Rattle.std.specs.List.Sorted.{IsStrictlySortedBy}
use Rattle.std.specs.Map.{keys_of}
use Rattle.std.proofs.lemmas.List.{length-replicate, take_all}
use Rattle.s7_area.specs.Memory.{Memory, key_cmp, with_area}
use Rattle.s7_area.specs.Registers.{most_in_all, total_of, fault_of}
use Rattle.s7_area.specs.declared.key.AreaKey.{AreaKey}
use Rattle.s7_area.specs.declared.register.RegisterFault.{RegisterFault}
use Rattle.s7_area.specs.declared.register.RegisterFault.TheVariants as fault
use Rattle.s7_area.specs.Laws.{AreasJoin}
use Rattle.s7_text.specs.Lines.{Text}
use Rattle.s7_script.specs.Reading.{Open, State, ◌>>=◌, FailsAs, filled, joined, kind_of, registered, run_octets, run_of, with_octets}
use Rattle.s7_script.specs.declared.areas.fault.AreasFault.{AreasFault}
use Rattle.s7_script.specs.declared.areas.fault.AreasKind.{AreasKind}
use Rattle.s7_script.proofs.KeptLemmas.{sorted-insert}

pub record Joins (new : Memory) (total : ℕ) : Type 0 where
  pub is_total : total ≡ total_of new
  pub fits : total ≤ most_in_all
  pub ordered : IsStrictlySortedBy key_cmp (keys_of new.areas)

pub joins : AreasJoin → (m new : Memory) (key : AreaKey) (octets : List ℕ) (total len : ℕ) → IsStrictlySortedBy key_cmp (keys_of m.areas) → total ≡ total_of m → fault_of m key (length octets) ≡ None → new ≡ with_area m key octets → len ≡ length octets → Joins new (total + len)
joins law m new key octets total len sorted is none made long =
    let no = law.faultless m key (length octets) none in
    subst (λ x. Joins x (total + len)) (sym made) (record {
      is_total = omega (arith, is, long, law.total m key octets sorted no.absent);
      fits = omega (arith, is, long, no.fits);
      ordered = sorted-insert key_cmp law.ordered m.areas key octets sorted;
    })

abbrev Same : Result (Unit {0}) (RegisterFault × List ℕ) → Result (Unit {0}) (RegisterFault × List ℕ) → Type 0
Same a b = a ≡ b

abbrev SamePair : RegisterFault × List ℕ → RegisterFault × List ℕ → Type 0
SamePair a b = a ≡ b

-- what an answer Ok tells
pub taken_by : (f : Option RegisterFault) (u : Unit {0}) (octets : List ℕ) (new made : Memory) → IfSome f (λ fault. Same (Ok u) (Err (fault, octets))) → IfNone f (new ≡ made) → (f ≡ None) × (new ≡ made)
taken_by None u octets new made refused taken = (refl, taken)
taken_by (Some fault) u octets new made refused taken = cc

-- an area that is taken joins the others
pub registers : (s : State) (new : Memory) (a : Open) (octets : List ℕ) → octets ≡ a.octets → fault_of s.areas a.key (length octets) ≡ None → new ≡ with_area s.areas a.key octets
    → registered s a ≡ Ok (record s { areas = new; current = None })
registers s new a octets same none made =
    let fits : fault_of s.areas a.key (length a.octets) ≡ None = ap (λ o. fault_of s.areas a.key (length o)) (sym same) ∙ none in
    ap (joined s a) fits ∙ ap (λ o. Ok (record s { areas = with_area s.areas a.key o; current = None })) (sym same) ∙ ap (λ x. Ok (record s { areas = x; current = None })) (sym made)

pub whole_joins : (s : State) (a : Open) → length a.octets ≡ a.size → filled s a ≡ registered s a
whole_joins s a whole = let same : (length a.octets == a.size) ≡ true = eq-eqb (length a.octets) a.size whole in rw same refl

-- octets that were filled up
pub resized : (old new : List ℕ) (len count octet held : ℕ) (ok : Bool) → new ≡ cond ok (take (len + count) old ++ replicate ((len + count) - held) octet) old → ok ≡ true → len ≡ length old → held ≡ length old
    → new ≡ old ++ replicate count octet
resized old new len count octet held true is ok whole all =
    let more : (len + count) - held ≡ count = omega arith in
    is ∙ rw (take_all (len + count) old (omega arith), more) refl
resized old new len count octet held false is ok whole all = cc

-- a run that fits
pub run_fills : (line : ℕ) (s : State) (a : Open) (parts : Text × Text) (count octet : ℕ) (items : List ℕ) → run_of line parts ≡ Ok (count, octet) → length a.octets + count ≤ a.size
    → items ≡ a.octets ++ replicate count octet → with_octets line s a (run_octets line parts) ≡ filled s (record a { octets = items })
run_fills line s a parts count octet items is fits made =
    let by_run : Result (ℕ × ℕ) AreasFault → Result State AreasFault = λ r. with_octets line s a (r >>= (λ run. Ok (replicate run.0 run.1))) in
    let long = length-replicate count octet in
    ap by_run is
    ∙ rw (le-ltb a.size (length a.octets + length (replicate count octet)) (omega arith)) refl
    ∙ ap (λ o. filled s (record a { octets = o })) (sym made)

abbrev pub fault_of_kind : ℕ → AreasKind → AreasFault
fault_of_kind line kind = record { line = line; kind = kind }

abbrev IsTold : State → Open → Option RegisterFault → RegisterFault → Type 0
IsTold s a f refusal = FailsAs (fault_of_kind a.line (kind_of refusal)) (kind_of refusal) (joined s a f)

by_kind : (refusal : RegisterFault) (s : State) (a : Open) → IsTold s a (Some refusal) refusal
by_kind fault.Key s a = refl
by_kind fault.Size s a = refl
by_kind fault.Exists s a = refl
by_kind fault.TooManyDbs s a = refl
by_kind fault.Memory s a = tt

-- what a refusal tells
told_by : (f : Option RegisterFault) (refusal : RegisterFault) (back octets : List ℕ) (s : State) (a : Open)
    → IfSome f (λ fault. Same (Err (refusal, back)) (Err (fault, octets))) → IfNone f (SamePair (refusal, back) (fault.Memory, octets)) → IsTold s a f refusal
told_by None refusal back octets s a refused taken =
    let is : fault.Memory ≡ refusal = ap (λ p. p.0) (sym taken) in
    subst (λ r. IsTold s a None r) is tt
told_by (Some fault) refusal back octets s a refused taken =
    let pair : SamePair (refusal, back) (fault, octets) = cc in
    let is : fault ≡ refusal = ap (λ p. p.0) (sym pair) in
    subst (λ r. IsTold s a (Some fault) r) is (by_kind fault s a)

pub refused_by : (s : State) (a : Open) (refusal : RegisterFault) (back octets : List ℕ) (e : AreasFault) (kind : AreasKind) → octets ≡ a.octets → e ≡ fault_of_kind a.line kind → kind ≡ kind_of refusal
    → IfSome (fault_of s.areas a.key (length octets)) (λ fault. Same (Err (refusal, back)) (Err (fault, octets))) → IfNone (fault_of s.areas a.key (length octets)) (SamePair (refusal, back) (fault.Memory, octets))
    → FailsAs e e.kind (registered s a)
refused_by s a refusal back octets e kind same is is_kind refused taken =
    let told = told_by (fault_of s.areas a.key (length octets)) refusal back octets s a refused taken in
    let whole : e ≡ fault_of_kind a.line (kind_of refusal) = is ∙ ap (fault_of_kind a.line) is_kind in
    subst (λ x. FailsAs x x.kind (registered s a)) (sym whole) (subst (λ o. IsTold s a (fault_of s.areas a.key (length o)) refusal) same told)

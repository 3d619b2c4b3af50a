-- Parameters that are read are those that are spelled.
use Rattle.std.proofs.Common.{◌≡◌, ℕ, zero, suc, ◌≤◌, Bool, true, false, nat_le, nat_lt, ◌==◌, ◌&&◌, inl, inr, List, [], ◌∷◌, ◌++◌, length, take, drop, Result, Ok, Err, cond, ap, subst, ◌∙◌, sym, refl, arith, length-append, length-drop}
use Rattle.std.proofs.lemmas.Bool.{cases_Bool, eqb-true, eqb-false, le-ltb, ltb-false, le-leb, leb-true, and_from, and_parts}
use Rattle.std.proofs.lemmas.List.{take_at, drop_at, length-take-le, take-append-drop}
use Rattle.std.specs.List.{flat_map, AllByRecursion}
use Rattle.s7_cotp.specs.Told.{SaidTold, result_map}
use Rattle.s7_cotp.specs.Tpdus.{Parameter, parameter_octets, IsSize, IsTsap, IsGood, last_value}
use Rattle.s7_cotp.specs.Reading.{◌>>=◌, size_in, tsap_in, with_parameter, said_in}
use Rattle.s7_cotp.specs.declared.tpdu.CotpFault.{CotpFault}
use Rattle.s7_cotp.specs.declared.tpdu.CotpFault.TheVariants.{BadParameter}
use Rattle.s7_cotp.proofs.ReadLemmas.{said_in-drop}

-- what one parameter changes
pub record Changes (code : ℕ) (value : List ℕ) (s t : SaidTold) : Type 0 where
  pub size : t.size_code ∷ [] ≡ cond (code == 0xC0) value (s.size_code ∷ [])
  pub calling : t.calling ≡ cond (code == 0xC1) value s.calling
  pub called : t.called ≡ cond (code == 0xC2) value s.called

-- a good parameter is read
pub record IsRead (code : ℕ) (value : List ℕ) (s : SaidTold) : Type 0 where
  pub said : SaidTold
  pub read : with_parameter code value s ≡ Ok said
  pub changes : Changes code value s said

-- a parameter that is read is good
pub record WasRead (code : ℕ) (value : List ℕ) (s t : SaidTold) : Type 0 where
  pub good : IsGood (record { code = code; value = value })
  pub changes : Changes code value s t

-- the four cases of a code
pub data CodeCase (code : ℕ) : Type 0 where
  is_size : code ≡ 0xC0 → CodeCase code
  is_calling : code ≡ 0xC1 → CodeCase code
  is_called : code ≡ 0xC2 → CodeCase code
  is_other : (code == 0xC0) ≡ false → (code == 0xC1) ≡ false → (code == 0xC2) ≡ false → CodeCase code

code_case : (code : ℕ) → CodeCase code
code_case code = elim (cases_Bool (code == 0xC0)) [
  | inl a ↦ is_size (eqb-true code 0xC0 a)
  | inr a ↦ elim (cases_Bool (code == 0xC1)) [
    | inl b ↦ is_calling (eqb-true code 0xC1 b)
    | inr b ↦ elim (cases_Bool (code == 0xC2)) [
      | inl d ↦ is_called (eqb-true code 0xC2 d)
      | inr d ↦ is_other a b d
    ]
  ]
]

size_read : (n : ℕ) → 7 ≤ n → n ≤ 13 → size_in (n ∷ []) ≡ Ok n
size_read n least most = ap (λ v. cond v (Ok n) (Err BadParameter)) (and_from (nat_le 7 n) (nat_le n 13) (le-leb 7 n least) (le-leb n 13 most))

tsap_read : (value : List ℕ) → IsTsap value → tsap_in value ≡ Ok value
tsap_read value h =
    ap (λ v. cond v (Ok value) (Err BadParameter)) (and_from (nat_le 1 (length value)) (nat_le (length value) 16) (le-leb 1 (length value) h.0) (le-leb (length value) 16 h.1))

read_size : (value : List ℕ) (s : SaidTold) → IsSize value → IsRead 0xC0 value s
read_size value s h =
    subst (λ (v : List ℕ). IsRead 0xC0 v s) (sym h.1)
    (record {
      said = record s { size_code = h.0 };
      read = ap (result_map (λ n. record s { size_code = n })) (size_read h.0 h.2 h.3);
      changes = record { size = refl; calling = refl; called = refl };
    })

read_calling : (value : List ℕ) (s : SaidTold) → IsTsap value → IsRead 0xC1 value s
read_calling value s h = record {
  said = record s { calling = value };
  read = ap (result_map (λ t. record s { calling = t })) (tsap_read value h);
  changes = record { size = refl; calling = refl; called = refl };
}

read_called : (value : List ℕ) (s : SaidTold) → IsTsap value → IsRead 0xC2 value s
read_called value s h = record {
  said = record s { called = value };
  read = ap (result_map (λ t. record s { called = t })) (tsap_read value h);
  changes = record { size = refl; calling = refl; called = refl };
}

other_read : (code : ℕ) (value : List ℕ) (s : SaidTold) → (code == 0xC0) ≡ false → (code == 0xC1) ≡ false → (code == 0xC2) ≡ false → with_parameter code value s ≡ Ok s
other_read code value s a b d =
    ap (λ v. cond v (result_map (λ n. record s { size_code = n }) (size_in value)) (cond (code == 0xC1) (result_map (λ t. record s { calling = t }) (tsap_in value)) (cond (code == 0xC2) (result_map (λ t. record s { called = t }) (tsap_in value)) (Ok s)))) a
    ∙ ap (λ v. cond v (result_map (λ t. record s { calling = t }) (tsap_in value)) (cond (code == 0xC2) (result_map (λ t. record s { called = t }) (tsap_in value)) (Ok s))) b
    ∙ ap (λ v. cond v (result_map (λ t. record s { called = t }) (tsap_in value)) (Ok s)) d

other_changes : (code : ℕ) (value : List ℕ) (s : SaidTold) → (code == 0xC0) ≡ false → (code == 0xC1) ≡ false → (code == 0xC2) ≡ false → Changes code value s s
other_changes code value s a b d = record {
  size = sym (ap (λ v. cond v value (s.size_code ∷ [])) a);
  calling = sym (ap (λ v. cond v value s.calling) b);
  called = sym (ap (λ v. cond v value s.called) d);
}

pub good_read : (code : ℕ) (value : List ℕ) (s : SaidTold) → IsGood (record { code = code; value = value }) → IsRead code value s
good_read code value s g = elim (code_case code) [
  | is_size e ↦ subst (λ (k : ℕ). IsRead k value s) (sym e) (read_size value s (g.size e))
  | is_calling e ↦ subst (λ (k : ℕ). IsRead k value s) (sym e) (read_calling value s (g.calling e))
  | is_called e ↦ subst (λ (k : ℕ). IsRead k value s) (sym e) (read_called value s (g.called e))
  | is_other a b d ↦ record { said = s; read = other_read code value s a b d; changes = other_changes code value s a b d }
]

-- what `result_map` gave came from an `Ok`
pub mapped : {A B : Type 0} (f : A → B) (r : Result A CotpFault) (y : B) → result_map f r ≡ Ok y → (x : A) × (r ≡ Ok x) × (f x ≡ y)
mapped f (Ok x) y e = (x, refl, cc)
mapped f (Err e') y e = absurd (cc)

pub bound : {A B : Type 0} (r : Result A CotpFault) (f : A → Result B CotpFault) (y : B) → (r >>= f) ≡ Ok y → (x : A) × (r ≡ Ok x) × (f x ≡ Ok y)
bound (Ok x) f y e = (x, refl, e)
bound (Err e') f y e = absurd (cc)

-- what was not refused
pub guarded : {A : Type 0} (b : Bool) (f : CotpFault) (r : Result A CotpFault) (y : A) → cond b (Err f) r ≡ Ok y → (b ≡ false) × (r ≡ Ok y)
guarded true f r y e = absurd (cc)
guarded false f r y e = (refl, e)

pub allowed : {A : Type 0} (b : Bool) (f : CotpFault) (x y : A) → cond b (Ok x) (Err f) ≡ Ok y → (b ≡ true) × (x ≡ y)
allowed true f x y e = (refl, cc)
allowed false f x y e = absurd (cc)

size_was : (value : List ℕ) (n : ℕ) → size_in value ≡ Ok n → IsSize value × (value ≡ n ∷ [])
size_was [] n e = absurd (cc)
size_was (m ∷ []) n e =
    let a = allowed (nat_le 7 m && nat_le m 13) BadParameter m n e in
    let b = and_parts (nat_le 7 m) (nat_le m 13) a.0 in
    ((m, refl, leb-true 7 m b.0, leb-true m 13 b.1), ap (λ x. x ∷ []) a.1)
size_was (m ∷ k ∷ value) n e = absurd (cc)

tsap_was : (value t : List ℕ) → tsap_in value ≡ Ok t → IsTsap value × (value ≡ t)
tsap_was value t e =
    let a = allowed (nat_le 1 (length value) && nat_le (length value) 16) BadParameter value t e in
    let b = and_parts (nat_le 1 (length value)) (nat_le (length value) 16) a.0 in
    ((leb-true 1 (length value) b.0, leb-true (length value) 16 b.1), a.1)

was_size : (value : List ℕ) (s t : SaidTold) → with_parameter 0xC0 value s ≡ Ok t → WasRead 0xC0 value s t
was_size value s t e =
    let m = mapped (λ n. record s { size_code = n }) (size_in value) t e in
    let w = size_was value m.0 m.1 in
    subst (λ (x : SaidTold). WasRead 0xC0 value s x) m.2
    (record {
      good = record { size = λ _. w.0; calling = λ h. absurd (omega (arith, h)); called = λ h. absurd (omega (arith, h)) };
      changes = record { size = sym w.1; calling = refl; called = refl };
    })

was_calling : (value : List ℕ) (s t : SaidTold) → with_parameter 0xC1 value s ≡ Ok t → WasRead 0xC1 value s t
was_calling value s t e =
    let m = mapped (λ n. record s { calling = n }) (tsap_in value) t e in
    let w = tsap_was value m.0 m.1 in
    subst (λ (x : SaidTold). WasRead 0xC1 value s x) m.2
    (record {
      good = record { size = λ h. absurd (omega (arith, h)); calling = λ _. w.0; called = λ h. absurd (omega (arith, h)) };
      changes = record { size = refl; calling = sym w.1; called = refl };
    })

was_called : (value : List ℕ) (s t : SaidTold) → with_parameter 0xC2 value s ≡ Ok t → WasRead 0xC2 value s t
was_called value s t e =
    let m = mapped (λ n. record s { called = n }) (tsap_in value) t e in
    let w = tsap_was value m.0 m.1 in
    subst (λ (x : SaidTold). WasRead 0xC2 value s x) m.2
    (record {
      good = record { size = λ h. absurd (omega (arith, h)); calling = λ h. absurd (omega (arith, h)); called = λ _. w.0 };
      changes = record { size = refl; calling = refl; called = sym w.1 };
    })

was_other : (code : ℕ) (value : List ℕ) (s t : SaidTold) → (code == 0xC0) ≡ false → (code == 0xC1) ≡ false → (code == 0xC2) ≡ false → with_parameter code value s ≡ Ok t → WasRead code value s t
was_other code value s t a b d e =
    let o : s ≡ t = let i = other_read code value s a b d in cc in
    subst (λ (x : SaidTold). WasRead code value s x) o
    (record {
      good = record { size = λ h. absurd (eqb-false code 0xC0 a h); calling = λ h. absurd (eqb-false code 0xC1 b h); called = λ h. absurd (eqb-false code 0xC2 d h) };
      changes = other_changes code value s a b d;
    })

pub read_good : (code : ℕ) (value : List ℕ) (s t : SaidTold) → with_parameter code value s ≡ Ok t → WasRead code value s t
read_good code value s t e = elim (code_case code) [
  | is_size h ↦ subst (λ (k : ℕ). WasRead k value s t) (sym h) (was_size value s t (ap (λ k. with_parameter k value s) (sym h) ∙ e))
  | is_calling h ↦ subst (λ (k : ℕ). WasRead k value s t) (sym h) (was_calling value s t (ap (λ k. with_parameter k value s) (sym h) ∙ e))
  | is_called h ↦ subst (λ (k : ℕ). WasRead k value s t) (sym h) (was_called value s t (ap (λ k. with_parameter k value s) (sym h) ∙ e))
  | is_other a b d ↦ was_other code value s t a b d e
]

-- what good parameters say
pub record SaidBy (ps : List Parameter) (s t : SaidTold) : Type 0 where
  pub good : AllByRecursion IsGood ps
  pub size : t.size_code ∷ [] ≡ last_value 0xC0 (s.size_code ∷ []) ps
  pub calling : t.calling ≡ last_value 0xC1 s.calling ps
  pub called : t.called ≡ last_value 0xC2 s.called ps

same_said : (s t : SaidTold) → s.size_code ≡ t.size_code → s.calling ≡ t.calling → s.called ≡ t.called → s ≡ t
same_said s t a b d =
    let e : record { size_code = s.size_code; calling = s.calling; called = s.called } ≡ t =
    ap (λ v. record { size_code = v; calling = s.calling; called = s.called }) a
    ∙ ap (λ v. record { size_code = t.size_code; calling = v; called = s.called }) b
    ∙ ap (λ v. record { size_code = t.size_code; calling = t.calling; called = v }) d in
    e

-- parameters that are spelled are read
pub parameters_read : (ps : List Parameter) (s t : SaidTold) → SaidBy ps s t → said_in 0 (flat_map parameter_octets ps) s ≡ Ok t
parameters_read [] s t h =
    let a : s.size_code ≡ t.size_code = let i = h.size in cc in
    ap Ok (same_said s t a (sym h.calling) (sym h.called))
parameters_read (p ∷ ps) s t h =
    let code = p.code in
    let value = p.value in
    let more = flat_map parameter_octets ps in
    let r = good_read code value s h.good.0 in
    let said = r.said in
    let rest : SaidBy ps said t = record {
      good = h.good.1;
      size = h.size ∙ ap (λ v. last_value 0xC0 v ps) (sym r.changes.size);
      calling = h.calling ∙ ap (λ v. last_value 0xC1 v ps) (sym r.changes.calling);
      called = h.called ∙ ap (λ v. last_value 0xC2 v ps) (sym r.changes.called);
    } in
    ap (λ v. cond v (Err BadParameter) (with_parameter code (take (length value) (value ++ more)) s >>= said_in (length value) (value ++ more)))
    (le-ltb (length (value ++ more)) (length value) (omega (arith, length-append value more)))
    ∙ ap (λ v. with_parameter code v s >>= said_in (length value) (value ++ more)) (take_at value more (length value) refl)
    ∙ ap (λ v. v >>= said_in (length value) (value ++ more)) r.read
    ∙ said_in-drop (length value) (value ++ more) said
    ∙ ap (λ v. said_in 0 v said) (drop_at value more (length value) refl)
    ∙ parameters_read ps said t rest

-- parameters that are read are spelled
pub record Spelled (octets : List ℕ) (s t : SaidTold) : Type 0 where
  pub parameters : List Parameter
  pub spelled : octets ≡ flat_map parameter_octets parameters
  pub said : SaidBy parameters s t

pub read_parameters : (n : ℕ) (octets : List ℕ) (s t : SaidTold) → length octets ≤ n → said_in 0 octets s ≡ Ok t → Spelled octets s t
read_parameters n [] s t le e =
    let i : s ≡ t = cc in
    record { parameters = []; spelled = refl; said = record { good = tt; size = ap (λ v. v.size_code ∷ []) (sym i); calling = ap (λ v. v.calling) (sym i); called = ap (λ v. v.called) (sym i) } }
read_parameters n (code ∷ []) s t le e = absurd (cc)
read_parameters zero (code ∷ size ∷ more) s t le e = absurd (omega arith)
read_parameters (suc n) (code ∷ size ∷ more) s t le e =
    let g = guarded (nat_lt (length more) size) BadParameter (with_parameter code (take size more) s >>= said_in size more) t e in
    let fits = ltb-false (length more) size g.0 in
    let b = bound (with_parameter code (take size more) s) (said_in size more) t g.1 in
    let w = read_good code (take size more) s b.0 b.1 in
    let i = read_parameters n (drop size more) b.0 t (omega (arith, le, length-drop size more)) (sym (said_in-drop size more b.0) ∙ b.2) in
    record {
      parameters = record { code = code; value = take size more } ∷ i.parameters;
      spelled =
          ap (λ v. code ∷ v ∷ more) (sym (length-take-le size more fits))
          ∙ ap (λ v. code ∷ length (take size more) ∷ v) (sym (take-append-drop size more))
          ∙ ap (λ v. code ∷ length (take size more) ∷ (take size more ++ v)) i.spelled;
      said = record {
        good = (w.good, i.said.good);
        size = i.said.size ∙ ap (λ v. last_value 0xC0 v i.parameters) w.changes.size;
        calling = i.said.calling ∙ ap (λ v. last_value 0xC1 v i.parameters) w.changes.calling;
        called = i.said.called ∙ ap (λ v. last_value 0xC2 v i.parameters) w.changes.called;
      };
    }

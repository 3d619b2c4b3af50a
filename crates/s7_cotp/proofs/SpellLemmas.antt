-- Octets are read as a TPDU exactly where they spell it.
use Rattle.std.proofs.Common.{◌≡◌, ℕ, ◌+◌, ◌-◌, ◌/◌, ◌%◌, ◌≤◌, Bool, true, false, nat_le, nat_lt, ◌==◌, ◌||◌, inl, inr, List, [], ◌∷◌, ◌++◌, length, take, drop, Ok, Err, cond, ap, subst, ◌∙◌, sym, refl, arith, append-nil, length-append}
use Rattle.std.proofs.lemmas.Bool.{cases_Bool, eqb-true}
use Rattle.std.proofs.lemmas.Bool.Decides.{nat_tests}
use Rattle.std.proofs.lemmas.List.{take_at, length-take-le, take-append-drop}
use Rattle.std.specs.List.{flat_map, AllByRecursion}
use Rattle.s7_outer.specs.Numbers.{number_of_two}
use Rattle.s7_cotp.specs.Told.{ConnectionTold, SaidTold, Told, connect, confirm, fragment, disconnect, reject, result_map}
use Rattle.s7_cotp.specs.Tpdus.{last_value, Parameter, parameter_octets, IsGood, SpellsConnection, SpellsTpdu}
use Rattle.s7_cotp.specs.Reading.{said_in, nothing_said, connection_in, fragment_in, disconnect_in, reject_in, tpdu_of}
use Rattle.s7_cotp.specs.Spelling.{IsWritable, parameters_octets, spelling_of_connection, spelling_of_connect, spelling_of_confirm, spelling_of_data, spelling_of_disconnect}
use Rattle.s7_cotp.specs.declared.tpdu.CotpFault.TheVariants.{BadCode, ShortHeader}
use Rattle.s7_cotp.proofs.ParameterLemmas.{SaidBy, Spelled, mapped, guarded, allowed, parameters_read, read_parameters}

-- ---- what is spelled is read

fits : (least more behind : ℕ) → (nat_lt (more + least) least || nat_lt (more + behind + least) (more + least)) ≡ false
fits least more behind = grind (arith, nat_tests)

fits_in : (least : ℕ) (front behind : List ℕ) → (nat_lt (length front + least) least || nat_lt (length (front ++ behind) + least) (length front + least)) ≡ false
fits_in least front behind =
    ap (λ v. nat_lt (length front + least) least || nat_lt (v + least) (length front + least)) (length-append front behind)
    ∙ fits least (length front) (length behind)

same_connection : (c : ConnectionTold) (d s z : ℕ) (a b : List ℕ) → c.dst_ref ≡ d → c.src_ref ≡ s → c.size_code ≡ z → c.calling ≡ a → c.called ≡ b
    → record { dst_ref = d; src_ref = s; class = c.class; size_code = z; calling = a; called = b } ≡ c
same_connection c d s z a b hd hs hz ha hb =
    ap (λ v. record { dst_ref = v; src_ref = s; class = c.class; size_code = z; calling = a; called = b }) (sym hd)
    ∙ ap (λ v. record { dst_ref = c.dst_ref; src_ref = v; class = c.class; size_code = z; calling = a; called = b }) (sym hs)
    ∙ ap (λ v. record { dst_ref = c.dst_ref; src_ref = c.src_ref; class = c.class; size_code = v; calling = a; called = b }) (sym hz)
    ∙ ap (λ v. record { dst_ref = c.dst_ref; src_ref = c.src_ref; class = c.class; size_code = c.size_code; calling = v; called = b }) (sym ha)
    ∙ ap (λ v. record { dst_ref = c.dst_ref; src_ref = c.src_ref; class = c.class; size_code = c.size_code; calling = c.calling; called = v }) (sym hb)

abbrev connection_by : ℕ → ℕ → ℕ → ℕ → ℕ → SaidTold → ConnectionTold
connection_by dh dl sh sl class said = record {
  dst_ref = number_of_two dh dl;
  src_ref = number_of_two sh sl;
  class = class;
  size_code = said.size_code;
  calling = said.calling;
  called = said.called;
}

connection_spelled : (code : ℕ) (octets : List ℕ) (c : ConnectionTold) (h : SpellsConnection code octets c)
    → connection_in (length (flat_map parameter_octets h.parameters) + 6) (h.dst_high ∷ h.dst_low ∷ h.src_high ∷ h.src_low ∷ c.class ∷ flat_map parameter_octets h.parameters ++ h.behind) ≡ Ok c
connection_spelled code octets c h =
    let front = flat_map parameter_octets h.parameters in
    let said : SaidTold = record { size_code = c.size_code; calling = c.calling; called = c.called } in
    let by : SaidBy h.parameters nothing_said said = record { good = h.good; size = h.size_code; calling = h.calling; called = h.called } in
    let from : SaidTold → ConnectionTold = connection_by h.dst_high h.dst_low h.src_high h.src_low c.class in
    let size_is : length front + 6 - 6 ≡ length front = omega arith in
    ap (λ v. cond v (Err ShortHeader) (result_map from (said_in 0 (take (length front + 6 - 6) (front ++ h.behind)) nothing_said))) (fits_in 6 front h.behind)
    ∙ ap (λ v. result_map from (said_in 0 (take v (front ++ h.behind)) nothing_said)) size_is
    ∙ ap (λ v. result_map from (said_in 0 v nothing_said)) (take_at front h.behind (length front) refl)
    ∙ ap (result_map from) (parameters_read h.parameters nothing_said said by)
    ∙ ap Ok (same_connection c (number_of_two h.dst_high h.dst_low) (number_of_two h.src_high h.src_low) c.size_code c.calling c.called h.dst_ref h.src_ref refl refl refl)

pub spelled_read : (octets : List ℕ) (t : Told) → SpellsTpdu octets t → tpdu_of octets ≡ Ok t
unfolding tpdu_of
spelled_read octets (connect c) h = ap tpdu_of h.spelled ∙ ap (result_map connect) (connection_spelled 0xE0 octets c h)
spelled_read octets (confirm c) h = ap tpdu_of h.spelled ∙ ap (result_map confirm) (connection_spelled 0xD0 octets c h)
spelled_read octets (fragment last user) h = ap tpdu_of h.spelled ∙ ap (λ v. Ok (fragment v user)) (sym h.bit)
spelled_read octets (disconnect reason) h =
    ap tpdu_of h.spelled ∙ ap (λ v. cond v (Err ShortHeader) (Ok (disconnect reason))) (fits_in 6 h.more h.behind)
spelled_read octets (reject cause) h =
    ap tpdu_of h.spelled ∙ ap (λ v. cond v (Err ShortHeader) (Ok (reject cause))) (fits_in 4 h.more h.behind)

-- ---- what is read is spelled

fitted_by : (least size more : ℕ) → (nat_lt size least || nat_lt (more + least) size) ≡ false → (least ≤ size) × (size - least ≤ more)
fitted_by least size more h = (grind (arith, nat_tests), grind (arith, nat_tests))

-- the header's octets after its named fields, and those behind it
fitted : (least size : ℕ) (more : List ℕ) → (nat_lt size least || nat_lt (length more + least) size) ≡ false → size ≡ length (take (size - least) more) + least
fitted least size more h =
    let f = fitted_by least size (length more) h in
    omega (arith, f.0, length-take-le (size - least) more f.1)

parts : (n : ℕ) (more : List ℕ) → more ≡ take n more ++ drop n more
parts n more = sym (take-append-drop n more)

connection_was : (code size dh dl sh sl class : ℕ) (more front behind : List ℕ) (said : SaidTold) → size ≡ length front + 6 → more ≡ front ++ behind → Spelled front nothing_said said
    → SpellsConnection code (size ∷ code ∷ dh ∷ dl ∷ sh ∷ sl ∷ class ∷ more) (connection_by dh dl sh sl class said)
connection_was code size dh dl sh sl class more front behind said e m p = record {
  dst_high = dh;
  dst_low = dl;
  src_high = sh;
  src_low = sl;
  parameters = p.parameters;
  behind = behind;
  spelled =
      ap (λ v. v ∷ code ∷ dh ∷ dl ∷ sh ∷ sl ∷ class ∷ more) e
      ∙ ap (λ v. (length front + 6) ∷ code ∷ dh ∷ dl ∷ sh ∷ sl ∷ class ∷ v) m
      ∙ ap (λ v. (length v + 6) ∷ code ∷ dh ∷ dl ∷ sh ∷ sl ∷ class ∷ v ++ behind) p.spelled;
  good = p.said.good;
  dst_ref = refl;
  src_ref = refl;
  size_code = p.said.size;
  calling = p.said.calling;
  called = p.said.called;
}

connection_read : (code size : ℕ) (rest : List ℕ) (c : ConnectionTold) → connection_in size rest ≡ Ok c → SpellsConnection code (size ∷ code ∷ rest) c
connection_read code size [] c e = absurd (cc)
connection_read code size (dh ∷ []) c e = absurd (cc)
connection_read code size (dh ∷ dl ∷ []) c e = absurd (cc)
connection_read code size (dh ∷ dl ∷ sh ∷ []) c e = absurd (cc)
connection_read code size (dh ∷ dl ∷ sh ∷ sl ∷ []) c e = absurd (cc)
connection_read code size (dh ∷ dl ∷ sh ∷ sl ∷ class ∷ more) c e =
    let from : SaidTold → ConnectionTold = connection_by dh dl sh sl class in
    let front = take (size - 6) more in
    let g = guarded (nat_lt size 6 || nat_lt (length more + 6) size) ShortHeader (result_map from (said_in 0 front nothing_said)) c e in
    let m = mapped from (said_in 0 front nothing_said) c g.1 in
    let p = read_parameters (length front) front nothing_said m.0 (omega arith) m.1 in
    subst (SpellsConnection code (size ∷ code ∷ dh ∷ dl ∷ sh ∷ sl ∷ class ∷ more)) m.2
    (connection_was code size dh dl sh sl class more front (drop (size - 6) more) m.0 (fitted 6 size more g.0) (parts (size - 6) more) p)

fragment_read : (size : ℕ) (rest : List ℕ) (t : Told) → fragment_in size rest ≡ Ok t → SpellsTpdu (size ∷ 0xF0 ∷ rest) t
fragment_read size [] t e = absurd (cc)
fragment_read size (end ∷ user) t e =
    let a = allowed (size == 2) ShortHeader (fragment (nat_le 0x80 end) user) t e in
    subst (SpellsTpdu (size ∷ 0xF0 ∷ end ∷ user)) a.1 (record { end = end; spelled = ap (λ v. v ∷ 0xF0 ∷ end ∷ user) (eqb-true size 2 a.0); bit = refl })

disconnect_read : (size : ℕ) (rest : List ℕ) (t : Told) → disconnect_in size rest ≡ Ok t → SpellsTpdu (size ∷ 0x80 ∷ rest) t
disconnect_read size [] t e = absurd (cc)
disconnect_read size (dh ∷ []) t e = absurd (cc)
disconnect_read size (dh ∷ dl ∷ []) t e = absurd (cc)
disconnect_read size (dh ∷ dl ∷ sh ∷ []) t e = absurd (cc)
disconnect_read size (dh ∷ dl ∷ sh ∷ sl ∷ []) t e = absurd (cc)
disconnect_read size (dh ∷ dl ∷ sh ∷ sl ∷ reason ∷ more) t e =
    let g = guarded (nat_lt size 6 || nat_lt (length more + 6) size) ShortHeader (Ok (disconnect reason)) t e in
    let same : disconnect reason ≡ t = let h = g.1 in cc in
    subst (SpellsTpdu (size ∷ 0x80 ∷ dh ∷ dl ∷ sh ∷ sl ∷ reason ∷ more)) same
    (record {
      dst_high = dh;
      dst_low = dl;
      src_high = sh;
      src_low = sl;
      more = take (size - 6) more;
      behind = drop (size - 6) more;
      spelled =
          ap (λ v. v ∷ 0x80 ∷ dh ∷ dl ∷ sh ∷ sl ∷ reason ∷ more) (fitted 6 size more g.0)
          ∙ ap (λ v. (length (take (size - 6) more) + 6) ∷ 0x80 ∷ dh ∷ dl ∷ sh ∷ sl ∷ reason ∷ v) (parts (size - 6) more);
    })

reject_read : (size : ℕ) (rest : List ℕ) (t : Told) → reject_in size rest ≡ Ok t → SpellsTpdu (size ∷ 0x70 ∷ rest) t
reject_read size [] t e = absurd (cc)
reject_read size (dh ∷ []) t e = absurd (cc)
reject_read size (dh ∷ dl ∷ []) t e = absurd (cc)
reject_read size (dh ∷ dl ∷ cause ∷ more) t e =
    let g = guarded (nat_lt size 4 || nat_lt (length more + 4) size) ShortHeader (Ok (reject cause)) t e in
    let same : reject cause ≡ t = let h = g.1 in cc in
    subst (SpellsTpdu (size ∷ 0x70 ∷ dh ∷ dl ∷ cause ∷ more)) same
    (record {
      dst_high = dh;
      dst_low = dl;
      more = take (size - 4) more;
      behind = drop (size - 4) more;
      spelled =
          ap (λ v. v ∷ 0x70 ∷ dh ∷ dl ∷ cause ∷ more) (fitted 4 size more g.0)
          ∙ ap (λ v. (length (take (size - 4) more) + 4) ∷ 0x70 ∷ dh ∷ dl ∷ cause ∷ v) (parts (size - 4) more);
    })

-- the cases of a code
data Which (code : ℕ) : Type 0 where
  is_connect : code ≡ 0xE0 → Which code
  is_confirm : code ≡ 0xD0 → Which code
  is_data : code ≡ 0xF0 → Which code
  is_disconnect : code ≡ 0x80 → Which code
  is_reject : code ≡ 0x70 → Which code
  is_none : (code == 0xE0) ≡ false → (code == 0xD0) ≡ false → (code == 0xF0) ≡ false → (code == 0x80) ≡ false → (code == 0x70) ≡ false → Which code

which : (code : ℕ) → Which code
which code = elim (cases_Bool (code == 0xE0)) [
  | inl a ↦ is_connect (eqb-true code 0xE0 a)
  | inr a ↦ elim (cases_Bool (code == 0xD0)) [
    | inl b ↦ is_confirm (eqb-true code 0xD0 b)
    | inr b ↦ elim (cases_Bool (code == 0xF0)) [
      | inl d ↦ is_data (eqb-true code 0xF0 d)
      | inr d ↦ elim (cases_Bool (code == 0x80)) [
        | inl e ↦ is_disconnect (eqb-true code 0x80 e)
        | inr e ↦ elim (cases_Bool (code == 0x70)) [
          | inl f ↦ is_reject (eqb-true code 0x70 f)
          | inr f ↦ is_none a b d e f
        ]
      ]
    ]
  ]
]

none_of : (size code : ℕ) (rest : List ℕ) → (code == 0xE0) ≡ false → (code == 0xD0) ≡ false → (code == 0xF0) ≡ false → (code == 0x80) ≡ false → (code == 0x70) ≡ false
    → tpdu_of (size ∷ code ∷ rest) ≡ Err BadCode
unfolding tpdu_of
none_of size code rest a b d e f =
    let connects = result_map connect (connection_in size rest) in
    let confirms = result_map confirm (connection_in size rest) in
    ap (λ v. cond v connects (cond (code == 0xD0) confirms (cond (code == 0xF0) (fragment_in size rest) (cond (code == 0x80) (disconnect_in size rest) (cond (code == 0x70) (reject_in size rest) (Err BadCode)))))) a
    ∙ ap (λ v. cond v confirms (cond (code == 0xF0) (fragment_in size rest) (cond (code == 0x80) (disconnect_in size rest) (cond (code == 0x70) (reject_in size rest) (Err BadCode))))) b
    ∙ ap (λ v. cond v (fragment_in size rest) (cond (code == 0x80) (disconnect_in size rest) (cond (code == 0x70) (reject_in size rest) (Err BadCode)))) d
    ∙ ap (λ v. cond v (disconnect_in size rest) (cond (code == 0x70) (reject_in size rest) (Err BadCode))) e
    ∙ ap (λ v. cond v (reject_in size rest) (Err BadCode)) f

connect_read : (size : ℕ) (rest : List ℕ) (t : Told) → tpdu_of (size ∷ 0xE0 ∷ rest) ≡ Ok t → SpellsTpdu (size ∷ 0xE0 ∷ rest) t
unfolding tpdu_of
connect_read size rest t e =
    let m = mapped connect (connection_in size rest) t e in
    subst (SpellsTpdu (size ∷ 0xE0 ∷ rest)) m.2 (connection_read 0xE0 size rest m.0 m.1)

confirm_read : (size : ℕ) (rest : List ℕ) (t : Told) → tpdu_of (size ∷ 0xD0 ∷ rest) ≡ Ok t → SpellsTpdu (size ∷ 0xD0 ∷ rest) t
unfolding tpdu_of
confirm_read size rest t e =
    let m = mapped confirm (connection_in size rest) t e in
    subst (SpellsTpdu (size ∷ 0xD0 ∷ rest)) m.2 (connection_read 0xD0 size rest m.0 m.1)

read_by : (size code : ℕ) (rest : List ℕ) (t : Told) → Which code → tpdu_of (size ∷ code ∷ rest) ≡ Ok t → SpellsTpdu (size ∷ code ∷ rest) t
unfolding tpdu_of
read_by size code rest t (is_connect h) e = subst (λ (k : ℕ). SpellsTpdu (size ∷ k ∷ rest) t) (sym h) (connect_read size rest t (ap (λ k. tpdu_of (size ∷ k ∷ rest)) (sym h) ∙ e))
read_by size code rest t (is_confirm h) e = subst (λ (k : ℕ). SpellsTpdu (size ∷ k ∷ rest) t) (sym h) (confirm_read size rest t (ap (λ k. tpdu_of (size ∷ k ∷ rest)) (sym h) ∙ e))
read_by size code rest t (is_data h) e = subst (λ (k : ℕ). SpellsTpdu (size ∷ k ∷ rest) t) (sym h) (fragment_read size rest t (ap (λ k. tpdu_of (size ∷ k ∷ rest)) (sym h) ∙ e))
read_by size code rest t (is_disconnect h) e = subst (λ (k : ℕ). SpellsTpdu (size ∷ k ∷ rest) t) (sym h) (disconnect_read size rest t (ap (λ k. tpdu_of (size ∷ k ∷ rest)) (sym h) ∙ e))
read_by size code rest t (is_reject h) e = subst (λ (k : ℕ). SpellsTpdu (size ∷ k ∷ rest) t) (sym h) (reject_read size rest t (ap (λ k. tpdu_of (size ∷ k ∷ rest)) (sym h) ∙ e))
read_by size code rest t (is_none a b d f g) e = let n = none_of size code rest a b d f g in absurd (cc)

pub read_spelled : (octets : List ℕ) (t : Told) → tpdu_of octets ≡ Ok t → SpellsTpdu octets t
unfolding tpdu_of
read_spelled [] t e = absurd (cc)
read_spelled (size ∷ []) t e = absurd (cc)
read_spelled (size ∷ code ∷ rest) t e = read_by size code rest t (which code) e

-- ---- what is written is read

reference_is : (n : ℕ) → n ≡ number_of_two (n / 256) (n % 256)
reference_is n = omega arith

size_good : (z : ℕ) → 7 ≤ z → z ≤ 13 → IsGood (record { code = 0xC0; value = z ∷ [] })
size_good z least most = record { size = λ _. (z, refl, least, most); calling = λ h. absurd (omega (arith, h)); called = λ h. absurd (omega (arith, h)) }

calling_good : (x : ℕ) (a : List ℕ) → length (x ∷ a) ≤ 16 → IsGood (record { code = 0xC1; value = x ∷ a })
calling_good x a most = record { size = λ h. absurd (omega (arith, h)); calling = λ _. (omega arith, most); called = λ h. absurd (omega (arith, h)) }

called_good : (y : ℕ) (b : List ℕ) → length (y ∷ b) ≤ 16 → IsGood (record { code = 0xC2; value = y ∷ b })
called_good y b most = record { size = λ h. absurd (omega (arith, h)); calling = λ h. absurd (omega (arith, h)); called = λ _. (omega arith, most) }

-- a connection whose parameters are these
spells_by : (code : ℕ) (c : ConnectionTold) (ps : List Parameter) → parameters_octets c ≡ flat_map parameter_octets ps → AllByRecursion IsGood ps
    → c.size_code ∷ [] ≡ last_value 0xC0 (0x0A ∷ []) ps → c.calling ≡ last_value 0xC1 [] ps → c.called ≡ last_value 0xC2 [] ps
    → SpellsConnection code (spelling_of_connection code c) c
spells_by code c ps e good size calling called = record {
  dst_high = c.dst_ref / 256;
  dst_low = c.dst_ref % 256;
  src_high = c.src_ref / 256;
  src_low = c.src_ref % 256;
  parameters = ps;
  behind = [];
  spelled =
      ap (λ v. (length v + 6) ∷ code ∷ (c.dst_ref / 256) ∷ (c.dst_ref % 256) ∷ (c.src_ref / 256) ∷ (c.src_ref % 256) ∷ c.class ∷ v) e
      ∙ ap (λ v. (length (flat_map parameter_octets ps) + 6) ∷ code ∷ (c.dst_ref / 256) ∷ (c.dst_ref % 256) ∷ (c.src_ref / 256) ∷ (c.src_ref % 256) ∷ c.class ∷ v) (sym (append-nil (flat_map parameter_octets ps)));
  good = good;
  dst_ref = reference_is c.dst_ref;
  src_ref = reference_is c.src_ref;
  size_code = size;
  calling = calling;
  called = called;
}

abbrev size_parameter : ℕ → Parameter
size_parameter z = record { code = 0xC0; value = z ∷ [] }

spells : (code d s k z : ℕ) (a b : List ℕ) → 7 ≤ z → z ≤ 13 → length a ≤ 16 → length b ≤ 16
    → SpellsConnection code (spelling_of_connection code (record { dst_ref = d; src_ref = s; class = k; size_code = z; calling = a; called = b })) (record { dst_ref = d; src_ref = s; class = k; size_code = z; calling = a; called = b })
spells code d s k z [] [] least most ha hb =
    spells_by code (record { dst_ref = d; src_ref = s; class = k; size_code = z; calling = []; called = [] })
    (size_parameter z ∷ []) refl (size_good z least most, tt) refl refl refl
spells code d s k z (x ∷ a) [] least most ha hb =
    spells_by code (record { dst_ref = d; src_ref = s; class = k; size_code = z; calling = x ∷ a; called = [] })
    (size_parameter z ∷ record { code = 0xC1; value = x ∷ a } ∷ [])
    refl
    (size_good z least most, (calling_good x a ha, tt)) refl refl refl
spells code d s k z [] (y ∷ b) least most ha hb =
    spells_by code (record { dst_ref = d; src_ref = s; class = k; size_code = z; calling = []; called = y ∷ b })
    (size_parameter z ∷ record { code = 0xC2; value = y ∷ b } ∷ [])
    (ap (λ v. 0xC0 ∷ 1 ∷ z ∷ 0xC2 ∷ length (y ∷ b) ∷ y ∷ v) (sym (append-nil b)))
    (size_good z least most, (called_good y b hb, tt)) refl refl refl
spells code d s k z (x ∷ a) (y ∷ b) least most ha hb =
    spells_by code (record { dst_ref = d; src_ref = s; class = k; size_code = z; calling = x ∷ a; called = y ∷ b })
    (size_parameter z ∷ record { code = 0xC1; value = x ∷ a } ∷ record { code = 0xC2; value = y ∷ b } ∷ [])
    (ap (λ v. 0xC0 ∷ 1 ∷ z ∷ 0xC1 ∷ length (x ∷ a) ∷ x ∷ a ++ 0xC2 ∷ length (y ∷ b) ∷ y ∷ v) (sym (append-nil b)))
    (size_good z least most, (calling_good x a ha, (called_good y b hb, tt))) refl refl refl

pub connect_again : (c : ConnectionTold) → IsWritable c → tpdu_of (spelling_of_connect c) ≡ Ok (connect c)
connect_again c h =
    spelled_read (spelling_of_connect c) (connect c) (spells 0xE0 c.dst_ref c.src_ref c.class c.size_code c.calling c.called h.least_size h.most_size h.calling h.called)

pub confirm_again : (c : ConnectionTold) → IsWritable c → tpdu_of (spelling_of_confirm c) ≡ Ok (confirm c)
confirm_again c h =
    spelled_read (spelling_of_confirm c) (confirm c) (spells 0xD0 c.dst_ref c.src_ref c.class c.size_code c.calling c.called h.least_size h.most_size h.calling h.called)

pub data_again : (last : Bool) (user : List ℕ) → tpdu_of (spelling_of_data last user) ≡ Ok (fragment last user)
unfolding tpdu_of
data_again true user = refl
data_again false user = refl

pub disconnect_again : (dst_ref src_ref reason : ℕ) → tpdu_of (spelling_of_disconnect dst_ref src_ref reason) ≡ Ok (disconnect reason)
unfolding tpdu_of
disconnect_again dst_ref src_ref reason = refl

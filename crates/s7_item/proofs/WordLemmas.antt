-- Lemmas on the table of words and on stated lengths.
use Rattle.std.proofs.Common.{◌≡◌, ℕ, ◌+◌, ◌*◌, ◌/◌, ◌≤◌, Bool, true, false, ◌&&◌, cond, eqb, Option, Some, None, refl, sym, arith}
use Rattle.std.specs.Prelude.{is_some, unwrap_or, IfSome, IsSome}
use Rattle.std.specs.Option.{option_map}
use Rattle.std.proofs.lemmas.Bool.{cond_both, eqb-true}
use Rattle.s7_item.specs.Word.{Row, row_of, size_of, transport_of, is_transport, counts_bits}
use Rattle.s7_item.specs.DataItem.{octets_meant, stated_length}

-- a row's transport size is one that data items have
abbrev IsSent : Option Row → Type 0
IsSent o = IfSome o (λ (r : Row). is_transport r.transport ≡ true)

rows_are_sent : (word : ℕ) → IsSent (row_of word)
unfolding is_transport
rows_are_sent word =
    cond_both (eqb word 1) _ _ IsSent (λ _. refl) (λ _.
    cond_both (eqb word 2) _ _ IsSent (λ _. refl) (λ _.
    cond_both (eqb word 3) _ _ IsSent (λ _. refl) (λ _.
    cond_both (eqb word 4) _ _ IsSent (λ _. refl) (λ _.
    cond_both (eqb word 5) _ _ IsSent (λ _. refl) (λ _.
    cond_both (eqb word 6) _ _ IsSent (λ _. refl) (λ _.
    cond_both (eqb word 7) _ _ IsSent (λ _. refl) (λ _.
    cond_both (eqb word 8) _ _ IsSent (λ _. refl) (λ _.
    cond_both (eqb word 28) _ _ IsSent (λ _. refl) (λ _.
    cond_both (eqb word 29) _ _ IsSent (λ _. refl) (λ _. tt))))))))))

sent_row : (o : Option Row) → IsSent o → is_some (option_map (λ (r : Row). r.size) o) ≡ true → is_transport (unwrap_or (option_map (λ (r : Row). r.transport) o) 0) ≡ true
sent_row None sent known = absurd (cc)
sent_row (Some r) sent known = sent

-- a known word has a transport size that data items have
pub is_transport-transport_of : (word : ℕ) → IsSome (size_of word) → is_transport (transport_of word) ≡ true
unfolding size_of transport_of
is_transport-transport_of word known = sent_row (row_of word) (rows_are_sent word) known

meant_by_tests : (n : ℕ) (bits three one : Bool) → (three ≡ true → bits ≡ true) → (one ≡ true → n ≡ 1) → cond bits ((cond (three && one) 1 (cond bits (8 * n) n) + 7) / 8) (cond (three && one) 1 (cond bits (8 * n) n)) ≡ n
meant_by_tests n true true true b o = sym (o refl)
meant_by_tests n true true false b o = omega arith
meant_by_tests n true false one b o = omega arith
meant_by_tests n false true one b o = absurd (let e : false ≡ true = b refl in cc)
meant_by_tests n false false one b o = refl

-- bits are counted for the transport size of bits
counts_bits-bits : (transport : ℕ) → transport ≡ 3 → counts_bits transport ≡ true
unfolding counts_bits
counts_bits-bits transport is = rw is refl

-- the length that is stated of so many octets means as many
pub octets_meant-stated_length : (transport n : ℕ) → octets_meant transport (stated_length transport n) ≡ n
octets_meant-stated_length transport n =
    meant_by_tests n (counts_bits transport) (eqb transport 3) (eqb n 1) (λ e. counts_bits-bits transport (eqb-true transport 3 e)) (λ e. eqb-true n 1 e)

-- no length that is stated is below the number of octets
pub at_most_stated : (transport n : ℕ) → n ≤ stated_length transport n
at_most_stated transport n = stated_by_tests n (counts_bits transport) (eqb transport 3) (eqb n 1) (λ e. eqb-true n 1 e)
  where
    stated_by_tests : (n : ℕ) (bits three one : Bool) → (one ≡ true → n ≡ 1) → n ≤ cond (three && one) 1 (cond bits (8 * n) n)
    stated_by_tests n bits true true o = omega (arith, o refl)
    stated_by_tests n true true false o = omega arith
    stated_by_tests n false true false o = omega arith
    stated_by_tests n true false one o = omega arith
    stated_by_tests n false false one o = omega arith

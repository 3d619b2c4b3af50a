-- Laws of answers to user data, and of their slices.
use Rattle.std.proofs.Common.{◌≡◌, ◌≢◌, ℕ, Bool, true, false, cond, List, length, take, ap, sym, ◌∙◌, refl, arith}
use Rattle.std.specs.Prelude.{None, Some, nat_lt, ◌==◌}
use Rattle.std.proofs.lemmas.Bool.{ltb-false}
use Rattle.std.proofs.lemmas.Bool.Decides.{nat_tests}
use Rattle.std.proofs.lemmas.List.{nil_from_length}
use Rattle.s7_header.specs.declared.user_params.UserParams.{UserParams}
use Rattle.s7_plant.specs.Replies.{Said}
use Rattle.s7_session.specs.Judgement.{user_octets, user_answer, user_data, user_reply, group_of_answer}
use Rattle.s7_session.specs.Judgement.{slice_room, slice_octets}
use Rattle.s7_session.specs.LinkState.{LinkState, Sliced, next_octet}
use Rattle.s7_session.specs.Passwords.{no_data}
use Rattle.s7_session.specs.Slices.{is_left, sliced_of, rest_of}

-- ---- what is held

rest_by : (b : Bool) (s : Sliced) → is_left s ≡ b → rest_of (cond b (Some s) None) ≡ s.rest
rest_by true s is = refl
rest_by false s is = sym (nil_from_length s.rest (omega (arith, ltb-false 0 (length s.rest) is)))

-- the octets of an answer that is held are those that are left
pub rest_held : (s : Sliced) → rest_of (sliced_of s) ≡ s.rest
rest_held s = rest_by (is_left s) s refl

-- ---- what goes out

-- a slice is the answer with the first octets
pub slice_of : (sequence group subfunction octet pdu more : ℕ) (params : UserParams) (first octets : List ℕ)
    → first ≡ take (slice_room pdu) octets
    → params ≡ record (user_answer (group_of_answer group) subfunction octet 0) { more = more }
    → (b : Bool) → nat_lt (slice_room pdu) (length octets) ≡ b → more ≡ cond b 1 0
    → user_octets sequence params (user_data first) ≡ slice_octets sequence group subfunction octet pdu octets
slice_of sequence group subfunction octet pdu more params first octets first_is params_is b test more_is =
    ap (λ xs. user_octets sequence params (user_data xs)) first_is
    ∙ (ap (λ p. user_octets sequence p (user_data (take (slice_room pdu) octets)))
    (params_is ∙ ap (λ n. record (user_answer (group_of_answer group) subfunction octet 0) { more = n }) (more_is ∙ ap (λ t. cond t 1 0) (sym test))))

not_zero : (n : ℕ) → n ≢ 0 → (n == 0) ≡ false
not_zero n h = grind (arith, nat_tests)

-- a reply with an error word is answered without octets
pub error_reply : (link : LinkState) (pdu sequence group subfunction : ℕ) (said : Said) → said.error ≢ 0
    → user_octets sequence (user_answer (group_of_answer group) subfunction (next_octet link.user_sequence) said.error) no_data
    ≡ user_reply link pdu sequence group subfunction said
error_reply link pdu sequence group subfunction said error =
    ap (λ (b : Bool). cond b (slice_octets sequence group subfunction (next_octet link.user_sequence) pdu said.body)
    (user_octets sequence (user_answer (group_of_answer group) subfunction (next_octet link.user_sequence) said.error) no_data))
    (sym (not_zero said.error error))

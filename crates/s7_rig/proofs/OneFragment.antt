-- A message that has room in one fragment goes out in one packet.
use Rattle.std.proofs.Common.{◌≡◌, ℕ, ◌≤◌, true, List, [], ◌∷◌, length, refl, ap, ◌∙◌, arith, append-nil}
use Rattle.std.specs.Prelude.{slice_range}
use Rattle.std.specs.List.{flat_map}
use Rattle.std.proofs.lemmas.Bool.{eq-eqb}
use Rattle.std.proofs.lemmas.Slice.{between_to_end}
use Rattle.s7_tpkt.specs.Packets.{packet_of}
use Rattle.s7_cotp.specs.Pairs.{pairs_of}
use Rattle.s7_cotp.specs.Spelling.{spelling_of_data}
use Rattle.s7_cotp.proofs.CutLemmas.{pairs_cut, same_cut}
use Rattle.s7_wire.specs.Sent.{fragment_octets, sent_message}

-- the only fragment is the whole
one_pair : (n : ℕ) → n ≤ 1021 → pairs_of n 1024 ≡ (0, n) ∷ []
one_pair n most = same_cut 1021 0 n (pairs_of n 1024) ((0, n) ∷ []) (pairs_cut n 1024 (omega arith)) (refl, omega arith, omega (arith, most))

whole_fragment : (m : List ℕ) → fragment_octets m (0, length m) ≡ packet_of (spelling_of_data true m)
whole_fragment m =
    ap (λ last. packet_of (spelling_of_data last (slice_range m 0 (length m)))) (eq-eqb (length m) (length m) refl)
    ∙ ap (λ user. packet_of (spelling_of_data true user)) (between_to_end m 0 (length m) (omega arith))

pub message_is_one_packet : (m : List ℕ) → length m ≤ 1021 → sent_message 1024 m ≡ packet_of (spelling_of_data true m)
message_is_one_packet m most =
    ap (flat_map (fragment_octets m)) (one_pair (length m) most)
    ∙ (append-nil (fragment_octets m (0, length m)) ∙ whole_fragment m)

-- Laws of the telegrams.
use Rattle.std.proofs.Common.{◌≡◌, ℕ, Bool, true, List, ap, sym, ◌∙◌, if◌then◌else◌}
use Rattle.std.specs.Prelude.{None, Some, Ok}
use Rattle.s7_header.specs.declared.header.Header.{Header}
use Rattle.s7_header.specs.declared.header.Kind.TheVariants.{User}
use Rattle.s7_header.specs.declared.user_params.UserParams.{UserParams}
use Rattle.s7_header.specs.Header.{header_of, params_of, body_of}
use Rattle.s7_header.specs.UserParams.{user_params_of}
use Rattle.s7_dialogue.specs.UserData.{octets_in}
use Rattle.s7_partner.specs.Telegrams.{piece_of_data, piece_of_octets, is_piece, piece_by, piece_of_kind}
use Rattle.s7_partner.specs.Telegrams.{piece_of_header, piece_in}

-- the fragment by the parts of its message
pub piece_is : (first : Bool) (message octets : List ℕ) (h : Header) (params : UserParams) → header_of message ≡ Ok h
    → h.kind ≡ User → user_params_of (params_of message h) ≡ Ok params → is_piece params ≡ true
    → octets_in (body_of message h) ≡ Some octets → piece_of_data first params octets ≡ piece_in first message
unfolding piece_in
piece_is first message octets h params header kind user is_one body =
    sym
    (ap (piece_of_header first message) header
    ∙ (ap (piece_of_kind first h message) kind
    ∙ (ap (piece_by first h message) user
    ∙ (ap (λ (b : Bool). if b then piece_of_octets first params (octets_in (body_of message h)) else None) is_one
    ∙ ap (piece_of_octets first params) body))))

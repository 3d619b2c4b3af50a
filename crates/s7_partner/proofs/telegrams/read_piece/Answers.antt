use Rattle.std.proofs.Common.{◌≡◌, rules, sym, ap, ◌∙◌}
use Rattle.s7_header.specs.declared.header.Kind.TheVariants.{User}
use Rattle.s7_header.specs.UserParams.{user_params_of}
use Rattle.s7_dialogue.specs.UserData.{octets_in}
use Rattle.s7_partner.proofs.TelegramLemmas.{piece_is}
use Rattle.s7_partner.proofs.telegrams.read_piece.Goals as goal

pub returns-in-Some : goal.returns-in-Some
returns-in-Some c =
    let kind : c.in-Ok.header.kind ≡ User = search rules in
    c.piece_of_data.ensures
    ∙ piece_is c.args.first c.args.message.now c.in-Some.octets.now c.in-Ok.header c.in-Ok-read_user.params
    (sym c.in-Ok.ensures) kind (sym (c.in-Ok-read_user.ensures ∙ ap user_params_of c.parts.ensures.params))
    (sym c.is_piece.ensures ∙ c.if-not-is_piece.false)
    (ap octets_in (sym c.parts.ensures.body) ∙ c.in-Some.ensures)

use Rattle.std.proofs.Common.{◌∙◌, ap, not, eqb, length}
use Rattle.s7_session.specs.Stands.{used_of}
use Rattle.s7_plant.specs.Books.{book_told}
use Rattle.s7_rig.specs.Shown.{post_of}
use Rattle.s7_rig.proofs.StandingLemmas.{counted, still_stands, session_turn_is, moved_is, or_more, or_rest}
use Rattle.s7_rig.proofs.station.Station.session_turn.Goals as goal

pub invariant_of-self-clause-stands : goal.invariant_of-self-clause-stands
invariant_of-self-clause-stands c =
    still_stands _ _ _ _ _ _ _ _ c.turn_over-turn.ensures c.args.self.now.stands

pub returns-then-ne-clause-turn : goal.returns-then-ne-clause-turn
returns-then-ne-clause-turn c =
    let noted = c.in_ok-note.ensures in
    let before = c.count_held-before.ensures in
    let after = c.count_held.ensures in
    let pipes = c.turn_over-turn.new.pipes in
    session_turn_is (post_of c.args.self.now) (post_of c.note.new.self) (book_told c.args.book.now) (book_told c.turn_over-turn.new.book) c.turn_over-turn.new.session pipes c.turn_over-turn.result
    c.len-first.result c.len.result _ c.turn_over-turn.ensures c.args.self.now.stands (counted (book_told c.args.book.now) c.len-first.ensures.len) (counted (book_told c.turn_over-turn.new.book) c.len.ensures.len) noted (c.was_wanting.ensures c.if-was_wanting.false)
    (or_more c.ne.result _ _
    (moved_is c.args.self.now.pipes pipes _ _ _ _ _ before.to_client before.to_server
    (after.to_client ∙ ap (λ p. length p.pipes.to_client) noted) (after.to_server ∙ ap (λ p. length p.pipes.to_server) noted) c.ne.ensures)
    c.if-ne.true)

pub returns-else-ne-clause-turn : goal.returns-else-ne-clause-turn
returns-else-ne-clause-turn c =
    let noted = c.in_ok-note.ensures in
    let before = c.count_held-before.ensures in
    let after = c.count_held.ensures in
    let pipes = c.turn_over-turn.new.pipes in
    let session = c.turn_over-turn.new.session in
    session_turn_is (post_of c.args.self.now) (post_of c.note.new.self) (book_told c.args.book.now) (book_told c.turn_over-turn.new.book) session pipes c.turn_over-turn.result
    c.len-first.result c.len.result _ c.turn_over-turn.ensures c.args.self.now.stands (counted (book_told c.args.book.now) c.len-first.ensures.len) (counted (book_told c.turn_over-turn.new.book) c.len.ensures.len) noted (c.was_wanting.ensures c.if-was_wanting.false)
    (ap (λ n. not (eqb n c.used-used.result)) (c.used.ensures ∙ ap (λ p. used_of p.session) noted)
    ∙ (ap (λ n. not (eqb (used_of session) n)) c.used-used.ensures
    ∙ or_rest c.ne.result _ _
    (moved_is c.args.self.now.pipes pipes _ _ _ _ _ before.to_client before.to_server
    (after.to_client ∙ ap (λ p. length p.pipes.to_client) noted) (after.to_server ∙ ap (λ p. length p.pipes.to_server) noted) c.ne.ensures)
    c.if-ne.false))

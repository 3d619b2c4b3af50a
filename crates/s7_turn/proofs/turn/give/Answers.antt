use Rattle.std.proofs.Common.{rules, ◌≡◌, [], ◌∷◌, ap, ◌∙◌, Some}
use Rattle.atomic_table.specs.Table.{rest}
use Rattle.s7_turn.specs.declared.view.Stage.TheVariants.{Idle}
use Rattle.s7_turn.specs.Turns.{left_by}
use Rattle.s7_turn.proofs.Turning.{enters_as, has_entered, gives_back_as, advances}
use Rattle.s7_turn.proofs.turn.give.Goals as goal

pub load-requires : goal.load-requires
load-requires g c = let me = c.args.place.now.me in let took = c.requires.took in
    let held : c.exchange-found.new.seat.me ≡ (me.0, (0, Some c.args.machine) ∷ []) = c.exchange-found.ensures.3 ∙ ap (λ l. (me.0, (0, Some c.args.machine) ∷ rest l)) took.0 in
    (search rules, search rules, enters_as _ _ _ _ _ me _ _ _ c.args.machine held took.1.2 took.1.3)

pub load-requires-2 : goal.load-requires-2
load-requires-2 g c = let me = c.args.place.now.me in let took = c.requires.took in let from = c.requires.origin in
    let held : c.exchange-found.new.seat.me ≡ (me.0, (0, Some c.args.machine) ∷ []) = c.exchange-found.ensures.3 ∙ ap (λ l. (me.0, (0, Some c.args.machine) ∷ rest l)) took.0 in
    let noted = has_entered _ 0 0 me _ _ took.1.0 took.1.1 c.args.machine held took.1.2 c.load.ensures.2 in
    (search rules, search rules, gives_back_as _ _ _ _ _ me _ took.1.0 c.args.machine noted from)

pub fetch_add-last-requires : goal.fetch_add-last-requires
fetch_add-last-requires g c = (search rules, search rules, advances _ _ _ _ _ _ _ _ (ap (λ m. m.0.stage) c.load-2.ensures.2))

pub returns-clause-gave : goal.returns-clause-gave
returns-clause-gave g c = let me = c.args.place.now.me in let took = c.requires.took in
    let held : c.exchange-found.new.seat.me ≡ (me.0, (0, Some c.args.machine) ∷ []) = c.exchange-found.ensures.3 ∙ ap (λ l. (me.0, (0, Some c.args.machine) ∷ rest l)) took.0 in
    let noted = has_entered _ 0 0 me _ _ took.1.0 took.1.1 c.args.machine held took.1.2 c.load.ensures.2 in
    c.«open».ensures.seat.2 ∙ (c.ring.ensures.seat.2 ∙ (c.fetch_add-last.ensures.2 ∙ (ap (λ m. (record m.0 { seen = left_by m.0.stage; stage = Idle }, m.1)) c.load-2.ensures.2 ∙ ap (λ m. (record m.0 { seen = left_by m.0.stage; stage = Idle }, [])) noted)))

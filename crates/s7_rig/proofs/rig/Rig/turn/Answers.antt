use Rattle.s7_plant.specs.Books.{book_told}
use Rattle.std.proofs.Common.{◌≡◌, ◌<◌, ◌-◌, length, map, refl, arith}
use Rattle.std.proofs.lemmas.List.{map-set, length-map}
use Rattle.std.proofs.lemmas.Result.{IfOk-weaker, on_ok_weaker}
use Rattle.s7_rig.specs.Shown.{post_of}
use Rattle.s7_rig.proofs.PostsLemmas.{client_turned, mapped_at, session_turned, both_ok}
use Rattle.s7_rig.proofs.TellsLemmas.{any_err, any_ok, on_ok_from, session_keeps, tells_first, tells_other}
use Rattle.s7_rig.proofs.rig.Rig.turn.Goals as goal

pub returns-then-actor-eq0-clause-turn : goal.returns-then-actor-eq0-clause-turn
returns-then-actor-eq0-clause-turn g c =
    let xs = c.args.self.now.stations.items in
    let below : c.args.actor < length xs = omega (arith, c.requires, c.if-actor-eq0.true) in
    IfOk-weaker _ _ _ (λ stirs t. client_turned xs c.args.actor _ c.told_turn.new.self (book_told c.args.self.now.book) stirs below
    c.index_mut.ensures.value t) c.told_turn.ensures.turn

pub returns-then-actor-eq0-clause-tells : goal.returns-then-actor-eq0-clause-tells
returns-then-actor-eq0-clause-tells g c =
    let xs = c.args.self.now.stations.items in
    let below : c.args.actor < length xs = omega (arith, c.requires, c.if-actor-eq0.true) in
    on_ok_weaker c.told_turn.result (λ t. tells_first xs c.args.actor _ c.told_turn.new.self _ _
    c.if-actor-eq0.true below c.index_mut.ensures.value t) c.told_turn.ensures.tells

pub returns-then-actor-count-clause-turn : goal.returns-then-actor-count-clause-turn
returns-then-actor-count-clause-turn g c =
    let xs = c.args.self.now.stations.items in
    let below : c.args.actor < length xs = omega (arith, c.args.self.now.stations.ok.0) in
    IfOk-weaker _ _ _ (λ stirs t. client_turned xs c.args.actor _ c.client_turn.new.self (book_told c.args.self.now.book) stirs below
    c.index_mut-then-actor-count.ensures.value t) c.client_turn.ensures

pub returns-then-actor-count-clause-tells : goal.returns-then-actor-count-clause-tells
returns-then-actor-count-clause-tells g c =
    let xs = c.args.self.now.stations.items in
    let below : c.args.actor < length xs = omega (arith, c.args.self.now.stations.ok.0) in
    any_ok c.client_turn.result (tells_other xs c.args.actor _ c.client_turn.new.self _ below
    c.index_mut-then-actor-count.ensures.value (λ zeroth. absurd (omega (arith, zeroth, c.if-actor-eq0.false))))

pub returns-else-actor-count-clause-turn : goal.returns-else-actor-count-clause-turn
returns-else-actor-count-clause-turn g c =
    let xs = c.args.self.now.stations.items in
    let i = c.args.actor - c.len-count.result in
    let below : i < length xs = omega (arith, c.args.self.now.stations.ok.0) in
    let count : length (map post_of xs) ≡ c.len-count.result = omega (arith, length-map xs post_of, c.args.self.now.stations.ok.0) in
    IfOk-weaker _ _ _ (λ stirs t. session_turned c.args.actor c.len-count.result _ _ stirs count (omega arith) record {
      post = post_of c.index_mut-else-actor-count.result.now;
      post' = post_of c.session_turn.new.self;
      at = mapped_at post_of xs i _ below c.index_mut-else-actor-count.ensures.value;
      turn = t.0;
      ready = t.1;
      same = map-set post_of xs i c.session_turn.new.self;
    }) (both_ok _ _ c.session_turn.result c.session_turn.ensures.turn c.session_turn.ensures.ready)

pub returns-else-actor-count-clause-tells : goal.returns-else-actor-count-clause-tells
returns-else-actor-count-clause-tells g c =
    let xs = c.args.self.now.stations.items in
    let i = c.args.actor - c.len-count.result in
    let below : i < length xs = omega (arith, c.args.self.now.stations.ok.0) in
    on_ok_from _ c.session_turn.result c.session_turn.ensures.turn (λ stirs t. tells_other xs i _
    c.session_turn.new.self _ below c.index_mut-else-actor-count.ensures.value
    (λ zeroth. session_keeps _ _ _ _ stirs t))

pub returns-then-actor-count-clause-untold : goal.returns-then-actor-count-clause-untold
returns-then-actor-count-clause-untold g c = any_err c.client_turn.result refl

pub returns-else-actor-count-clause-untold : goal.returns-else-actor-count-clause-untold
returns-else-actor-count-clause-untold g c = any_err c.session_turn.result refl

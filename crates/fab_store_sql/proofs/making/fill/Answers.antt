use Rattle.std.proofs.Common.{arith}
use Rattle.std.proofs.lemmas.Result.{on_ok_weaker}
use Rattle.sqlite.specs.State.{HasCleanDisk}
use Rattle.sqlite.specs.Held.{state}
use Rattle.sqlite.proofs.InsideLemmas.{keeps_then}
use Rattle.sqlite.proofs.StateLemmas.{survives_then}
use Rattle.fab_store_sql.specs.Trees.{tables_of}
use Rattle.fab_store_sql.proofs.Makings.{made_inside, filled}
use Rattle.fab_store_sql.proofs.making.fill.Goals as goal

pub returns-clause-inside : goal.returns-clause-inside
returns-clause-inside g c clean has =
    let mid = state g.S.Store c.create_all.new.tx.conn.now in
    let early : HasCleanDisk mid = omega (arith, c.add_all.ensures.survives.clean) in
    let made = c.in_ok-create_all.ensures.made early has in
    on_ok_weaker c.add_all.result (λ added. added.inside) (c.add_all.ensures.done clean (made_inside mid made.0 made.1))

pub returns-clause-done : goal.returns-clause-done
returns-clause-done g c clean has =
    let mid = state g.S.Store c.create_all.new.tx.conn.now in
    let new = state g.S.Store c.add_all.new.tx.conn.now in
    let early : HasCleanDisk mid = omega (arith, c.add_all.ensures.survives.clean) in
    let made = c.in_ok-create_all.ensures.made early has in
    on_ok_weaker c.add_all.result (λ added. filled mid made.0 c.args.lines.now (tables_of new.now.trees) added.change) (c.add_all.ensures.done clean (made_inside mid made.0 made.1))

pub returns-clause-kept : goal.returns-clause-kept
returns-clause-kept g c clean has =
    let mid = state g.S.Store c.create_all.new.tx.conn.now in
    let early : HasCleanDisk mid = omega (arith, c.add_all.ensures.survives.clean) in
    let made = c.in_ok-create_all.ensures.made early has in
    keeps_then (state g.S.Store c.args.tx.now.conn.now) mid (state g.S.Store c.add_all.new.tx.conn.now) (c.in_ok-create_all.ensures.kept early has) (c.add_all.ensures.kept clean (made_inside mid made.0 made.1))

pub returns-clause-survives : goal.returns-clause-survives
returns-clause-survives g c =
    survives_then (state g.S.Store c.args.tx.now.conn.now) (state g.S.Store c.create_all.new.tx.conn.now) (state g.S.Store c.add_all.new.tx.conn.now) _ _ (λ _. ⊥) (λ _ db none. none) (λ _ db none. none)
    c.in_ok-create_all.ensures.survives c.add_all.ensures.survives

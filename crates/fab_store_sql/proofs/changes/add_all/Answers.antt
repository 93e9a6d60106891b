use Rattle.std.proofs.Common.{◌∙◌, ◌++◌, ap, sym, subst, take, [], ◌∷◌, List, arith}
use Rattle.std.proofs.lemmas.List.{take_more, take_all}
use Rattle.sqlite.specs.State.{HasCleanDisk}
use Rattle.sqlite.specs.Held.{state}
use Rattle.sqlite.proofs.InsideLemmas.{keeps_then}
use Rattle.sqlite.proofs.StateLemmas.{survives_then}
use Rattle.fab_store_tables.specs.declared.stored_line.TableLine.{TableLine}
use Rattle.fab_store_tables.specs.Tables.{IsAmong}
use Rattle.fab_store_sql.specs.States.{IsOf, Gains, Walks}
use Rattle.fab_store_sql.proofs.Walks.{walks_more, gains_more, joins_rows}
use Rattle.fab_store_sql.proofs.changes.add_all.Goals as goal

pub loop-line-preserved : goal.loop-line-preserved
loop-line-preserved g c =
    let old = state g.S.Store c.args.tx.now.conn.now in
    let mid = state g.S.Store c.loop-line.tx.conn.now in
    let new = state g.S.Store c.insert_line.new.tx.conn.now in
    let was = c.loop-line.invariant in
    let one = c.in_ok-insert_line.ensures in
    let before = take c.loop-line.line-index c.args.lines.now in
    let line = c.line-item.result in
    record {
      same_reference = one.same_reference ∙ was.same_reference;
      survives = survives_then old mid new _ _ (λ _. ⊥) (λ _ db none. none) (λ _ db none. none) was.survives one.survives;
      kept = λ clean inside.
          let early : HasCleanDisk mid = omega (arith, one.survives.clean) in
          keeps_then old mid new (was.kept early inside) (one.kept clean (was.walked early inside).inside);
      walked = λ clean inside.
          let first = was.walked (omega (arith, one.survives.clean)) inside in
          let all = IsAmong (before ++ line ∷ []) in
          let both = walks_more (Gains (IsAmong before)) (Gains (IsOf line)) (Gains all) (λ x y z. gains_more (IsAmong before) (IsOf line) all x y z (joins_rows before line)) old mid new first (one.done clean first.inside) in
          subst (λ (lines : List (TableLine _)). Walks (Gains (IsAmong lines)) old new) (sym (take_more c.args.lines.now c.loop-line.line-index line (omega (arith, c.loop-line-test.true)) ∙ ap (λ r. before ++ r ∷ []) (sym c.line-item.is))) both;
    }

pub returns-in_err-insert_line-clause-kept : goal.returns-in_err-insert_line-clause-kept
returns-in_err-insert_line-clause-kept g c clean inside =
    let old = state g.S.Store c.args.tx.now.conn.now in
    let mid = state g.S.Store c.loop-line.tx.conn.now in
    let new = state g.S.Store c.insert_line.new.tx.conn.now in
    let was = c.loop-line.invariant in
    let one = c.in_err-insert_line.ensures in
    let early : HasCleanDisk mid = omega (arith, one.survives.clean) in
    keeps_then old mid new (was.kept early inside) (one.kept clean (was.walked early inside).inside)

pub returns-in_err-insert_line-clause-survives : goal.returns-in_err-insert_line-clause-survives
returns-in_err-insert_line-clause-survives g c =
    survives_then (state g.S.Store c.args.tx.now.conn.now) (state g.S.Store c.loop-line.tx.conn.now) (state g.S.Store c.insert_line.new.tx.conn.now) _ _ (λ _. ⊥) (λ _ db none. none) (λ _ db none. none) c.loop-line.invariant.survives c.in_err-insert_line.ensures.survives

pub returns-clause-done : goal.returns-clause-done
returns-clause-done g c clean inside =
    let all = take_all c.loop-line.line-index c.args.lines.now (omega (arith, c.loop-line-test.false)) in
    subst (λ (lines : List (TableLine _)). Walks (Gains (IsAmong lines)) (state g.S.Store c.args.tx.now.conn.now) (state g.S.Store c.loop-line.tx.conn.now)) all (c.loop-line.invariant.walked clean inside)

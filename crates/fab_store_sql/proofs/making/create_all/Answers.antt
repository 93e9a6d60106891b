use Rattle.std.proofs.Common.{◌∙◌, ◌+◌, sym, subst, arith}
use Rattle.sqlite.specs.State.{HasCleanDisk}
use Rattle.sqlite.specs.Held.{state}
use Rattle.sqlite.proofs.InsideLemmas.{keeps_then}
use Rattle.sqlite.proofs.StateLemmas.{survives_then}
use Rattle.fab_store_sql.specs.NewDesk.{HasMade}
use Rattle.fab_store_sql.proofs.Creates.{made_more, made_first}
use Rattle.fab_store_sql.proofs.Makings.{place_at}
use Rattle.fab_store_sql.proofs.making.create_all.Goals as goal

pub loop-table-preserved : goal.loop-table-preserved
loop-table-preserved g c =
    let old = state g.S.Store c.args.tx.now.conn.now in
    let mid = state g.S.Store c.loop-table.tx.conn.now in
    let new = state g.S.Store c.create.new.tx.conn.now in
    let was = c.loop-table.invariant in
    let one = c.in_ok-create.ensures in
    let at = place_at c.loop-table.table-index _ (omega (arith, c.loop-table-test.true)) in
    let made = λ (early : HasCleanDisk mid) (has : HasMade 0 old). subst (λ n. HasMade n mid) (sym at) (was.made early has) in
    record {
      same_reference = one.same_reference ∙ was.same_reference;
      survives = survives_then old mid new _ _ (λ _. ⊥) (λ _ db none. none) (λ _ db none. none) was.survives one.survives;
      kept = λ clean has.
          let early : HasCleanDisk mid = omega (arith, one.survives.clean) in
          keeps_then old mid new (was.kept early has) (one.kept clean (was.made early has).inside);
      made = λ clean has.
          let early : HasCleanDisk mid = omega (arith, one.survives.clean) in
          subst (λ n. HasMade (n + 1) new) at (made_more _ mid new (made early has) (one.made clean (made_first _ mid (made early has))).0);
      sound = λ clean has some.
          let early : HasCleanDisk mid = omega (arith, one.survives.clean) in
          (one.made clean (made_first _ mid (made early has))).1;
    }

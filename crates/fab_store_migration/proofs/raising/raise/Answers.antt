use Rattle.std.proofs.Common.{arith}
use Rattle.std.proofs.lemmas.Result.{on_ok_weaker}
use Rattle.sqlite.specs.State.{HasCleanDisk}
use Rattle.sqlite.specs.Held.{state}
use Rattle.sqlite.proofs.InsideLemmas.{keeps_then}
use Rattle.sqlite.proofs.StateLemmas.{survives_then}
use Rattle.fab_store_migration.proofs.Raises.{begun, raised}
use Rattle.fab_store_migration.proofs.raising.raise.Goals as goal

pub returns-clause-done : goal.returns-clause-done
returns-clause-done g c clean was =
    let old = state g.S.Store c.args.tx.now.conn.now in
    let made = state g.S.Store c.create.new.tx.conn.now in
    let lost = state g.S.Store c.forget_schema.new.tx.conn.now in
    let new = state g.S.Store c.tell_schema.new.tx.conn.now in
    let late : HasCleanDisk lost = omega (arith, c.tell_schema.ensures.survives.clean) in
    let early : HasCleanDisk made = omega (arith, late, c.in_ok-forget_schema.ensures.survives.clean) in
    let more = c.in_ok-create.ensures.made early (record { inside = was.inside; schema = was.schema }) in
    let gone = c.in_ok-forget_schema.ensures.done late (begun old made was more.0) in
    on_ok_weaker c.tell_schema.result (λ put. raised old made lost new more.0 gone put) (c.tell_schema.ensures.done clean gone.rising)

pub returns-clause-kept : goal.returns-clause-kept
returns-clause-kept g c clean was =
    let old = state g.S.Store c.args.tx.now.conn.now in
    let made = state g.S.Store c.create.new.tx.conn.now in
    let lost = state g.S.Store c.forget_schema.new.tx.conn.now in
    let new = state g.S.Store c.tell_schema.new.tx.conn.now in
    let late : HasCleanDisk lost = omega (arith, c.tell_schema.ensures.survives.clean) in
    let early : HasCleanDisk made = omega (arith, late, c.in_ok-forget_schema.ensures.survives.clean) in
    let more = c.in_ok-create.ensures.made early (record { inside = was.inside; schema = was.schema }) in
    let rising = begun old made was more.0 in
    let gone = c.in_ok-forget_schema.ensures.done late rising in
    keeps_then old lost new (keeps_then old made lost (c.in_ok-create.ensures.kept early was.inside) (c.in_ok-forget_schema.ensures.kept late rising)) (c.tell_schema.ensures.kept clean gone.rising)

pub returns-clause-survives : goal.returns-clause-survives
returns-clause-survives g c =
    let old = state g.S.Store c.args.tx.now.conn.now in
    let made = state g.S.Store c.create.new.tx.conn.now in
    let lost = state g.S.Store c.forget_schema.new.tx.conn.now in
    let new = state g.S.Store c.tell_schema.new.tx.conn.now in
    let first = survives_then old made lost _ _ (λ _. ⊥) (λ _ db none. none) (λ _ db none. none) c.in_ok-create.ensures.survives c.in_ok-forget_schema.ensures.survives in
    survives_then old lost new _ _ (λ _. ⊥) (λ _ db none. none) (λ _ db none. none) first c.tell_schema.ensures.survives

pub returns-in_err-forget_schema-clause-kept : goal.returns-in_err-forget_schema-clause-kept
returns-in_err-forget_schema-clause-kept g c clean was =
    let old = state g.S.Store c.args.tx.now.conn.now in
    let made = state g.S.Store c.create.new.tx.conn.now in
    let lost = state g.S.Store c.forget_schema.new.tx.conn.now in
    let early : HasCleanDisk made = omega (arith, c.in_err-forget_schema.ensures.survives.clean) in
    let more = c.in_ok-create.ensures.made early (record { inside = was.inside; schema = was.schema }) in
    keeps_then old made lost (c.in_ok-create.ensures.kept early was.inside) (c.in_err-forget_schema.ensures.kept clean (begun old made was more.0))

pub returns-in_err-forget_schema-clause-survives : goal.returns-in_err-forget_schema-clause-survives
returns-in_err-forget_schema-clause-survives g c =
    survives_then (state g.S.Store c.args.tx.now.conn.now) (state g.S.Store c.create.new.tx.conn.now) (state g.S.Store c.forget_schema.new.tx.conn.now) _ _ (λ _. ⊥) (λ _ db none. none) (λ _ db none. none) c.in_ok-create.ensures.survives c.in_err-forget_schema.ensures.survives

use Rattle.std.proofs.Common.{sym, ap, subst}
use Rattle.std.proofs.lemmas.Result.{IfErr-weaker}
use Rattle.fab_store_base.specs.Calls.{IsCounted}
use Rattle.fab_desk.specs.Desks.{IsTied}
use Rattle.fab_desk.specs.Ledgers.{LedgerRows}
use Rattle.fab_desk.proofs.Tied.{found_tied, ok_as}
use Rattle.fab_desk.proofs.opening.opened.Goals as goal

pub returns-in-Ok-clause-tied : goal.returns-in-Ok-clause-tied
returns-in-Ok-clause-tied g c clean =
    let ready = c.in-Ok.ensures.ready clean in
    let tied = found_tied g.S.Store c.load.new.self c.in-Ok.world g.met.S.Store.settled ready.0 ready.1 c.in-Ok.ensures.world.1 (c.in-Ok.ensures.rows clean) in
    ok_as c.ledger_of.result (λ ledger is. (ready.0, subst (IsTied g.S.Store c.load.new.self) (ap (λ (l : LedgerRows). l.world) (sym is)) tied)) c.ledger_of.ensures.ledger

pub returns-in-Ok-clause-counted : goal.returns-in-Ok-clause-counted
returns-in-Ok-clause-counted g c =
    IfErr-weaker c.ledger_of.result _ _ (λ f is. subst (IsCounted (g.S.Store.refused c.args.store.now) (g.S.Store.refused c.load.new.self)) (sym is) c.in-Ok.ensures.uncounted) c.ledger_of.ensures.fault

use Rattle.std.proofs.Common.{sym, ap, subst}
use Rattle.fab_desk_machine.specs.fab_desk_base.Refusals.{IsEffect}
use Rattle.fab_desk_machine.specs.fab_desk_base.declared.command.Command.TheVariants.{Show}
use Rattle.fab_desk_machine.specs.fab_desk_base.declared.command.Query.TheVariants.{Paths}
use Rattle.fab_desk_machine.specs.Proposals.{CountsStep, IsEffectOf, request_of}
use Rattle.fab_desk.specs.Desks.{IsHandled, IsInDoubt, IsTied}
use Rattle.fab_desk.specs.Ledgers.{LedgerRows}
use Rattle.fab_desk.proofs.answering.serve.Goals as goal

pub returns-in-Some-clause-answers : goal.returns-in-Some-clause-answers
returns-in-Some-clause-answers g c clean tied =
    let q = request_of c.args.token.now c.args.moment in
    let same = ap (λ (l : LedgerRows). l.world) c.ledger.view_is in
    let told = c.read_paths-told.ensures.answers clean (subst (IsTied g.S.Store c.args.store.now) (sym same) tied) in
    let asked = subst (λ k. IsHandled c.args.policy.now c.ledger.inside.world (q k) c.read_paths-told.result c.ledger.inside.world) (sym c.in-Some.ensures) told in
    subst (λ w. IsHandled c.args.policy.now w (q c.args.asked) c.read_paths-told.result w) same asked

pub returns-in-None-clause-answers : goal.returns-in-None-clause-answers
returns-in-None-clause-answers g c clean tied =
    let same = ap (λ (l : LedgerRows). l.world) c.ledger.view_is in
    subst (λ w. IsHandled c.args.policy.now w (request_of c.args.token.now c.args.moment c.args.asked) c.act.result.reply c.act.new.world) same c.act.ensures.answers

-- a read has no effect
pub returns-in-Some-clause-bounds : goal.returns-in-Some-clause-bounds
returns-in-Some-clause-bounds g c accepted v (id, caller, has, at, is) =
    let shown : IsEffect c.args.ledger.now.world caller.name (Show (Paths c.in-Some.host)) v = subst (λ k. IsEffect c.args.ledger.now.world caller.name k v) c.in-Some.ensures is in
    absurd shown.makes

pub returns-in-None-clause-bounds : goal.returns-in-None-clause-bounds
returns-in-None-clause-bounds g c accepted =
    let q = request_of c.args.token.now c.args.moment c.args.asked in
    subst (λ (l : LedgerRows). CountsStep g.B.PathBook.bounds l.world (IsEffectOf c.args.policy.now l.world q) l.asked (g.B.PathBook.count c.act.new.book)) c.ledger.view_is (c.act.ensures.bounds accepted)

pub returns-in-Some-clause-halts : goal.returns-in-Some-clause-halts
returns-in-Some-clause-halts g c is = (λ shut. absurd cc, λ no. absurd (no (Paths c.in-Some.host, c.in-Some.ensures)))

pub returns-in-None-clause-halts : goal.returns-in-None-clause-halts
returns-in-None-clause-halts g c is = (λ shut. c.act.ensures.change is, λ no. c.act.ensures.halts is)

pub returns-in-None-clause-doubt : goal.returns-in-None-clause-doubt
returns-in-None-clause-doubt g c clean tied =
    let same = ap (λ (l : LedgerRows). l.world) c.ledger.view_is in
    subst (λ w. IsInDoubt g.S.Store c.args.policy.now w (request_of c.args.token.now c.args.moment c.args.asked) c.act.new.store) same
    (c.act.ensures.doubt clean (subst (IsTied g.S.Store c.args.store.now) (sym same) tied))

pub returns-in-None-clause-counted : goal.returns-in-None-clause-counted
returns-in-None-clause-counted g c = c.act.ensures.counted

pub returns-in-None-clause-uncounted : goal.returns-in-None-clause-uncounted
returns-in-None-clause-uncounted g c = c.act.ensures.uncounted

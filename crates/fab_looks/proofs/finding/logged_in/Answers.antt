use Rattle.std.proofs.Common.{◌≡◌, ◌∷◌, [], ◌++◌, ◌+◌, List, take, sym, subst, arith}
use Rattle.fab_inventory.specs.declared.port.Port.{Port}
use Rattle.fab_reach_base.specs.Views.{seen}
use Rattle.fab_reach_base.proofs.Adding.{Before}
use Rattle.fab_reach_base.proofs.Same.{same_some}
use Rattle.fab_looks.specs.Inner.Offers.{AreJust, IsLoggedIn}
use Rattle.fab_looks.proofs.Filled.{gathered_next, gathered_pass, gathered_last}
use Rattle.fab_looks.proofs.finding.logged_in.Goals as goal
use Rattle.fab_looks.proofs.finding.logged_in.Goals.{in-Some+in_ok-push, in_default}

pub loop-name-preserved : goal.loop-name-preserved
loop-name-preserved g c =
    let Q = IsLoggedIn (seen c.args.view.now) in
    let ns = take (c.loop-name.name-index + 1) c.args.names.now in
    elim c.match-login_of.branch [
      | in-Some+in_ok-push w ↦
          let made : c.match-login_of.ports.items ≡ c.loop-name.ports.items ++ w.in-Some.port ∷ [] = cc (w.ports-is, w.in_ok-push.ensures.items) in
          subst (λ (ps : List Port). AreJust (Before Q ns) ps) (sym made)
          (gathered_next Q c.args.names.now c.loop-name.name-index c.name-item.result c.loop-name.ports.items w.in-Some.port c.loop-name-test.true c.name-item.is (λ y h. same_some h.0 w.in-Some.ensures.0) w.in-Some.ensures c.loop-name.invariant)
      | in_default w ↦
          let made : c.match-login_of.ports.items ≡ c.loop-name.ports.items = cc (w.ports-is) in
          subst (λ (ps : List Port). AreJust (Before Q ns) ps) (sym made)
          (gathered_pass Q c.args.names.now c.loop-name.name-index c.name-item.result c.loop-name.ports.items c.loop-name-test.true c.name-item.is w.in_default.ensures c.loop-name.invariant)
    ]

pub returns : goal.returns
returns g c = gathered_last (IsLoggedIn (seen c.args.view.now)) c.args.names.now c.loop-name.name-index c.loop-name.ports.items (omega (arith, c.loop-name-test.false)) c.loop-name.invariant

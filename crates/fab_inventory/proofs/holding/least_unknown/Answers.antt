use Rattle.std.proofs.Common.{◌≡◌, ◌+◌, ◌∷◌, [], ◌++◌, ℕ, List, None, sym, ap, ◌∙◌, subst, take, arith}
use mathlib.Core.Bool.{true≢false}
use Rattle.std.specs.Option.{is_some}
use Rattle.std.specs.Ordering.{nat_cmp}
use Rattle.std.specs.BTreeMap.{get}
use Rattle.fab_inventory.proofs.Leasts.{LeastSoFar, least_skip, least_take, none_from_test}
use Rattle.fab_inventory.proofs.Steps.{one_more}
use Rattle.fab_inventory.proofs.holding.least_unknown.Goals as goal
use Rattle.fab_inventory.proofs.holding.least_unknown.Goals.{then-not-contains_key, else-not-contains_key}

pub loop-port-preserved : goal.loop-port-preserved
loop-port-preserved g c =
    let P : ℕ → Type 0 = λ q. get nat_cmp c.args.ports.now q ≡ None in
    let xs : List ℕ = take c.loop-port.port-index c.args.listed.now in
    let x : ℕ = c.port-item.result in
    let e : xs ++ x ∷ [] ≡ take (c.loop-port.port-index + 1) c.args.listed.now = one_more c.args.listed.now c.loop-port.port-index x (omega arith) c.port-item.is in
    subst (λ ys. LeastSoFar P ys c.if-not-contains_key.least) e (elim c.if-not-contains_key.branch [
      | then-not-contains_key w ↦ subst (LeastSoFar P (xs ++ x ∷ [])) (sym (w.least-is ∙ w.note.ensures)) (least_take P xs x c.loop-port.least (none_from_test (get nat_cmp c.args.ports.now x) (sym c.contains_key.ensures ∙ w.if-not-contains_key.true)) c.loop-port.invariant)
      | else-not-contains_key w ↦ subst (LeastSoFar P (xs ++ x ∷ [])) (sym w.least-is) (least_skip P xs x c.loop-port.least (λ n. true≢false (sym (sym c.contains_key.ensures ∙ w.if-not-contains_key.false) ∙ ap is_some n)) c.loop-port.invariant)
    ])

use Rattle.std.proofs.Common.{◌≡◌, ◌+◌, ◌∷◌, [], ◌++◌, ℕ, List, sym, ◌∙◌, subst, take, arith}
use Rattle.std.proofs.lemmas.List.{take_all}
use Rattle.std.specs.Ordering.{nat_cmp}
use Rattle.std.specs.BTreeMap.{get}
use Rattle.fab_inventory.specs.Holders.{holder_in, IsHeldByOther}
use Rattle.fab_inventory.proofs.Leasts.{LeastSoFar, least_skip, least_take}
use Rattle.fab_inventory.proofs.NameTests.{other_is, other_none, free_from_least}
use Rattle.fab_inventory.proofs.Steps.{one_more}
use Rattle.fab_inventory.proofs.holding.least_held.Goals as goal
use Rattle.fab_inventory.proofs.holding.least_held.Goals.{in-Some, in_default}

pub loop-port-preserved : goal.loop-port-preserved
loop-port-preserved g c =
    let P : ℕ → Type 0 = λ q. (h : List ℕ) × IsHeldByOther (get nat_cmp c.args.ports.now) c.args.name.now q h in
    let xs : List ℕ = take c.loop-port.port-index c.args.listed.now in
    let x : ℕ = c.port-item.result in
    let e : xs ++ x ∷ [] ≡ take (c.loop-port.port-index + 1) c.args.listed.now = one_more c.args.listed.now c.loop-port.port-index x (omega arith) c.port-item.is in
    subst (λ ys. LeastSoFar P ys c.match-other_holder.least) e (elim c.match-other_holder.branch [
      | in-Some w ↦
          let other = other_is c.args.name.now (holder_in (get nat_cmp c.args.ports.now) x) w.in-Some.field-0 (sym c.other_holder.ensures ∙ w.in-Some.is) in
          subst (LeastSoFar P (xs ++ x ∷ [])) (sym (w.least-is ∙ w.note.ensures)) (least_take P xs x c.loop-port.least (w.in-Some.field-0, other) c.loop-port.invariant)
      | in_default w ↦ subst (LeastSoFar P (xs ++ x ∷ [])) (sym w.least-is) (least_skip P xs x c.loop-port.least (λ p. p.1.1 (other_none c.args.name.now (holder_in (get nat_cmp c.args.ports.now) x) p.0 (sym c.other_holder.ensures ∙ w.in_default.is) p.1.0)) c.loop-port.invariant)
    ])

pub returns : goal.returns
returns g c = free_from_least (get nat_cmp c.args.ports.now) c.args.name.now c.args.listed.now c.loop-port.least
    (subst (λ ys. LeastSoFar (λ q. (h : List ℕ) × IsHeldByOther (get nat_cmp c.args.ports.now) c.args.name.now q h) ys c.loop-port.least) (take_all c.loop-port.port-index c.args.listed.now (omega (arith, c.loop-port-test.false))) c.loop-port.invariant)

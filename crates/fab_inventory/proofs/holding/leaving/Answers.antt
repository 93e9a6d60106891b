use Rattle.std.proofs.Common.{◌≡◌, ℕ, ◌∷◌, [], ◌++◌, true, false, cond, sym, ap, ◌∙◌, subst}
use Rattle.std.specs.BTreeMap.{get}
use Rattle.std.specs.Ordering.{nat_cmp}
use Rattle.std.specs.Map.Iter.{deref_pair}
use Rattle.std.proofs.lemmas.Map.Iter.{rest_more, rest_all}
use Rattle.fab_lemmas.specs.Lists.{IsListOf}
use Rattle.fab_lemmas.proofs.Filters.{keys_where, keys_more}
use Rattle.fab_lemmas.proofs.Walks.{walked, walk_end}
use Rattle.fab_inventory.specs.declared.port.Known.{Known}
use Rattle.fab_inventory.specs.Holders.{is_leaving, Leaves}
use Rattle.fab_inventory.proofs.Holdings.{leaving_listed}
use Rattle.fab_inventory.proofs.holding.leaving.Goals as goal

pub loop-port-preserved-in-Continue-1 : goal.loop-port-preserved-in-Continue-1
loop-port-preserved-in-Continue-1 g c =
    let test = is_leaving c.args.name.now c.args.listed.now in
    let e : ℕ × Known = (c.in-Some.port.now, c.in-Some.known.now) in
    let passes : test e.0 e.1 ≡ true = sym c.is_leaving.ensures ∙ c.if-is_leaving.true in (
      c.loop-port.invariant.0 ++ e ∷ [],
      walked c.args.ports.now.entries c.loop-port.invariant.0 c.loop-port.port-iterator c.next.new.self e c.loop-port.invariant.1 (rest_more deref_pair c.loop-port.port-iterator c.next.new.self c.next.result (c.in-Some.port, c.in-Some.known) c.in-Some.is c.next.ensures.steps),
      c.in_ok-push.ensures.items ∙ ap (λ xs. xs ++ e.0 ∷ []) c.loop-port.invariant.2 ∙ ap (λ b. cond b (keys_where test c.loop-port.invariant.0 ++ e.0 ∷ []) (keys_where test c.loop-port.invariant.0)) (sym passes) ∙ sym (keys_more test c.loop-port.invariant.0 e),
    )

pub loop-port-preserved : goal.loop-port-preserved
loop-port-preserved g c =
    let test = is_leaving c.args.name.now c.args.listed.now in
    let e : ℕ × Known = (c.in-Some.port.now, c.in-Some.known.now) in
    let passes : test e.0 e.1 ≡ false = sym c.is_leaving.ensures ∙ c.if-is_leaving.false in (
      c.loop-port.invariant.0 ++ e ∷ [],
      walked c.args.ports.now.entries c.loop-port.invariant.0 c.loop-port.port-iterator c.next.new.self e c.loop-port.invariant.1 (rest_more deref_pair c.loop-port.port-iterator c.next.new.self c.next.result (c.in-Some.port, c.in-Some.known) c.in-Some.is c.next.ensures.steps),
      c.loop-port.invariant.2 ∙ ap (λ b. cond b (keys_where test c.loop-port.invariant.0 ++ e.0 ∷ []) (keys_where test c.loop-port.invariant.0)) (sym passes) ∙ sym (keys_more test c.loop-port.invariant.0 e),
    )

pub returns : goal.returns
returns g c =
    let test = is_leaving c.args.name.now c.args.listed.now in
    subst (IsListOf nat_cmp (Leaves (get nat_cmp c.args.ports.now) c.args.name.now c.args.listed.now))
    (sym (c.loop-port.invariant.2 ∙ ap (keys_where test) (walk_end c.args.ports.now.entries c.loop-port.invariant.0 c.loop-port.port-iterator c.loop-port.invariant.1 (rest_all deref_pair c.loop-port.port-iterator c.next.new.self c.next.result c.in-None.is c.next.ensures.steps))))
    (leaving_listed c.args.name.now c.args.listed.now c.args.ports.now.entries c.into_iter-port-iterator.ensures.into_iter_gives.5)

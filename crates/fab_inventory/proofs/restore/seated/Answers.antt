use Rattle.std.proofs.Common.{ℕ, ◌∷◌, [], ◌++◌, ◌∙◌, ap, Some, Option, cond, rules}
use Rattle.std.specs.Ordering.{nat_cmp}
use Rattle.std.specs.BTreeMap.{get, is_at}
use Rattle.std.specs.Map.{lookup}
use Rattle.std.specs.Map.Iter.{deref_pair}
use Rattle.std.proofs.lemmas.Map.Iter.{rest_more, rest_all}
use Rattle.fab_lemmas.proofs.Walks.{walked, walk_end}
use Rattle.fab_inventory.specs.declared.port.Seat.{Seat}
use Rattle.fab_inventory.specs.Restores.{seated}
use Rattle.fab_inventory.proofs.Seating.{seats_none, seats_more, seats_all}
use Rattle.fab_inventory.proofs.restore.seated.Goals as goal

pub loop-port-init : goal.loop-port-init
loop-port-init g c = ([], search rules, seats_none (get nat_cmp c.args.addresses.now) (get nat_cmp c.new-ports.result) (λ q. ap (lookup (is_at (nat_cmp q))) c.new-ports.ensures.empty))

pub loop-port-preserved : goal.loop-port-preserved
loop-port-preserved g c =
    let i = c.loop-port.invariant in
    let e : ℕ × Seat = (c.in-Some.port.now, c.in-Some.seat.now) in
    let steps = rest_more deref_pair c.loop-port.port-iterator c.next.new.self c.next.result (c.in-Some.port, c.in-Some.seat) c.in-Some.is c.next.ensures.steps in
    let whole = walked c.args.seats.now.entries i.0 c.loop-port.port-iterator c.next.new.self e i.1 steps in (
      i.0 ++ e ∷ [],
      whole,
      seats_more (get nat_cmp c.args.addresses.now) c.args.seats.now c.into_iter-port-iterator.ensures.into_iter_gives.5 i.0 c.next.new.self e (get nat_cmp c.loop-port.ports) (get nat_cmp c.insert.new.self) whole i.2 (λ q. c.in_ok-insert.ensures.updates.0 q ∙ ap (λ (a : Option ℕ). cond (is_at (nat_cmp e.0) q) (seated (Some e.1) a) (get nat_cmp c.loop-port.ports q)) (c.copied.ensures ∙ c.get.ensures.value)),
    )

pub returns : goal.returns
returns g c =
    let i = c.loop-port.invariant in
    let is = walk_end c.args.seats.now.entries i.0 c.loop-port.port-iterator i.1 (rest_all deref_pair c.loop-port.port-iterator c.next.new.self c.next.result c.in-None.is c.next.ensures.steps) in
    seats_all (get nat_cmp c.args.addresses.now) c.args.seats.now c.into_iter-port-iterator.ensures.into_iter_gives.5 i.0 (get nat_cmp c.loop-port.ports) is i.2

use Rattle.std.proofs.Common.{◌≡◌, ℕ, ◌∷◌, [], ◌++◌, Bool, true, false, refl, ap, sym, rules, arith}
use mathlib.Core.Bool.{true≢false}
use Rattle.std.specs.Bool.{OnTrue, OnFalse}
use Rattle.std.specs.BTreeMap.{get, is_at}
use Rattle.std.specs.Map.{lookup}
use Rattle.std.specs.Map.Iter.{deref_pair}
use Rattle.std.proofs.lemmas.Map.Iter.{rest_more, rest_all}
use Rattle.fab_names.specs.Orders.{name_cmp}
use Rattle.fab_lemmas.proofs.Walks.{walked, walk_end}
use Rattle.fab_inventory.specs.RestoreTests.{count_of}
use Rattle.fab_inventory.specs.declared.port.Known.{Known}
use Rattle.fab_inventory.proofs.Restoring.{counts_more, few_more, too_many, all_few}
use Rattle.fab_inventory.proofs.restore.hold_few.Goals as goal

on_true : {P : Type 0} (b : Bool) → OnTrue b P → b ≡ true → P
on_true true h e = h
on_true false h e = absurd (true≢false (sym e))

on_false : {P : Type 0} (b : Bool) → OnFalse b P → b ≡ false → P
on_false true h e = absurd (true≢false e)
on_false false h e = h

pub loop-port-init : goal.loop-port-init
loop-port-init g c = ([], search rules, λ h. ap (λ es. count_of (lookup (is_at (name_cmp h)) es)) c.new-counts.ensures.empty, λ h. omega arith)

pub returns-then-not-branch : goal.returns-then-not-branch
returns-then-not-branch g c =
    let e : ℕ × Known = (c.in-Some._port.now, c.in-Some.known.now) in
    let steps = rest_more deref_pair c.loop-port._port-iterator c.next.new.self c.next.result (c.in-Some._port, c.in-Some.known) c.in-Some.is c.next.ensures.steps in (
      λ t. absurd (true≢false (sym t)),
      λ all. absurd (too_many c.args.ports.now.entries c.loop-port.invariant.0 c.next.new.self e.0 e.1 (get name_cmp c.loop-port.counts) c.into_iter-port-iterator.ensures.into_iter_gives.5
          (walked c.args.ports.now.entries c.loop-port.invariant.0 c.loop-port._port-iterator c.next.new.self e c.loop-port.invariant.1 steps) c.loop-port.invariant.2
          (on_false c.in_ok-count_port.field-0 c.in_ok-count_port.ensures.most c.if-not-branch.true) all),
    )

pub loop-port-preserved : goal.loop-port-preserved
loop-port-preserved g c =
    let e : ℕ × Known = (c.in-Some._port.now, c.in-Some.known.now) in
    let steps = rest_more deref_pair c.loop-port._port-iterator c.next.new.self c.next.result (c.in-Some._port, c.in-Some.known) c.in-Some.is c.next.ensures.steps in (
      c.loop-port.invariant.0 ++ e ∷ [],
      walked c.args.ports.now.entries c.loop-port.invariant.0 c.loop-port._port-iterator c.next.new.self e c.loop-port.invariant.1 steps,
      counts_more c.loop-port.invariant.0 e.0 e.1 (get name_cmp c.loop-port.counts) (get name_cmp c.count_port.new.counts) c.loop-port.invariant.2 (on_true c.in_ok-count_port.field-0 c.in_ok-count_port.ensures.counted c.if-not-branch.false),
      few_more c.loop-port.invariant.0 e.0 e.1 (get name_cmp c.loop-port.counts) c.loop-port.invariant.2 (on_true c.in_ok-count_port.field-0 c.in_ok-count_port.ensures.few c.if-not-branch.false) c.loop-port.invariant.3,
    )

pub returns : goal.returns
returns g c =
    let is = walk_end c.args.ports.now.entries c.loop-port.invariant.0 c.loop-port._port-iterator c.loop-port.invariant.1 (rest_all deref_pair c.loop-port._port-iterator c.next.new.self c.next.result c.in-None.is c.next.ensures.steps) in
    (λ t. all_few c.args.ports.now.entries c.loop-port.invariant.0 c.into_iter-port-iterator.ensures.into_iter_gives.5 is c.loop-port.invariant.3, λ h. refl)

use Rattle.std.proofs.Common.{ℕ, ◌≡◌, List, ◌∷◌, [], ◌++◌, false, sym, ap, ◌∙◌}
use mathlib.Core.Bool.{true≢false}
use Rattle.std.specs.Ordering.{nat_cmp, eq_by_cmp}
use Rattle.std.specs.Cmp.{nat_cmp_total}
use Rattle.std.specs.FinSet as set
use Rattle.std.specs.List.{list_any}
use Rattle.std.specs.Map.Iter.{deref}
use Rattle.std.proofs.lemmas.Map.Iter.{rest_more, rest_all}
use Rattle.fab_inventory.proofs.fab_lemmas.Walks.{all_push, all_found, walked, walk_end, first_key, key_there}
use Rattle.fab_mapping_base.specs.Groups.{Ports}
use Rattle.fab_mapping_base.proofs.clash.shared_target.Goals as goal

-- a member of a set is among its keys
listed : (s : Ports) (ks : List ℕ) → set.from_list ks ≡ s → (q : ℕ) → set.contains s q ≡ list_any (eq_by_cmp nat_cmp q) ks
listed s ks is q = ap (λ (x : Ports). set.contains x q) (sym is) ∙ set.contains-from_list nat_cmp_total ks q

pub loop-target-init : goal.loop-target-init
loop-target-init g c = (c.targets-target-items.result, c.targets-target-items.ensures.targets, c.targets-target-items.ensures.ordered, [], sym c.into_iter-target-iterator.ensures.into_iter_gives, tt)

pub returns-then-has_target : goal.returns-then-has_target
returns-then-has_target g c =
    let i = c.loop-target.invariant in
    let next = rest_more deref c.loop-target.target-iterator c.next.new.self c.next.result c.in-Some.target c.in-Some.is c.next.ensures.steps in
    let targets = c.args.a.now.targets in (
      (listed targets i.0 i.1 c.in-Some.target.now ∙ key_there nat_cmp_total set.nat_cmp-IsAntisymmetric i.0 i.3 c.loop-target.target-iterator c.next.new.self c.in-Some.target.now i.4 next, sym c.has_target.ensures ∙ c.if-has_target.true),
      λ q h. first_key nat_cmp_total set.nat_cmp-IsAntisymmetric (set.contains c.args.b.now.targets) i.0 i.3 c.loop-target.target-iterator c.next.new.self c.in-Some.target.now i.4 next i.2 i.5 q (sym (listed targets i.0 i.1 q) ∙ h.0) h.1,
    )

pub loop-target-preserved : goal.loop-target-preserved
loop-target-preserved g c =
    let i = c.loop-target.invariant in (
      i.0,
      i.1,
      i.2,
      i.3 ++ c.in-Some.target.now ∷ [],
      walked i.0 i.3 c.loop-target.target-iterator c.next.new.self c.in-Some.target.now i.4 (rest_more deref c.loop-target.target-iterator c.next.new.self c.next.result c.in-Some.target c.in-Some.is c.next.ensures.steps),
      all_push (λ q. set.contains c.args.b.now.targets q ≡ false) i.3 c.in-Some.target.now i.5 (sym c.has_target.ensures ∙ c.if-has_target.false),
    )

pub returns : goal.returns
returns g c q h =
    let i = c.loop-target.invariant in
    let all = walk_end i.0 i.3 c.loop-target.target-iterator i.4 (rest_all deref c.loop-target.target-iterator c.next.new.self c.next.result c.in-None.is c.next.ensures.steps) in
    true≢false (sym h.1 ∙ all_found nat_cmp_total set.nat_cmp-IsAntisymmetric (λ q. set.contains c.args.b.now.targets q ≡ false) i.3 q i.5 (ap (list_any (eq_by_cmp nat_cmp q)) all ∙ sym (listed c.args.a.now.targets i.0 i.1 q) ∙ h.0))

use Rattle.std.proofs.Common.{ℕ, ◌≡◌, List, ◌∷◌, [], ◌++◌, Some, true, sym, ap, ◌∙◌, subst}
use mathlib.Core.Bool.{true≢false}
use Rattle.std.specs.Ordering.{nat_cmp, eq_by_cmp}
use Rattle.std.specs.Cmp.{nat_cmp_total}
use Rattle.std.specs.FinMap as map
use Rattle.std.specs.FinSet as set
use Rattle.std.specs.List.{list_any}
use Rattle.std.specs.Map.{keys_of}
use Rattle.std.specs.Map.Iter.{deref_pair}
use Rattle.std.specs.List.Sorted.{IsStrictlySortedBy}
use Rattle.std.proofs.lemmas.Map.Iter.{rest_more, rest_all}
use Rattle.fab_inventory.proofs.fab_lemmas.SeenEntries.{sorted}
use Rattle.fab_inventory.proofs.fab_lemmas.Walks.{all_push, walked, walk_end}
use Rattle.fab_mapping_base.specs.Groups.{StorageGroupRows}
use Rattle.fab_mapping_base.specs.ClashSearch.{IsUnlike, MapsOther}
use Rattle.fab_mapping_base.proofs.Walked.{key_there, least_has, none_has, entry_here}
use Rattle.fab_mapping_base.proofs.clash.unlike_unit.Goals as goal

-- what is at a unit, and not unlike there
not_unlike : (a b : StorageGroupRows) (u : ℕ) (v : List ℕ) → map.get a.units u ≡ Some v → ¬ MapsOther b u v → ¬ IsUnlike a b u
not_unlike a b u v at none w = let e : Some w.0 ≡ Some v = sym w.1 ∙ at in none (subst (MapsOther b u) (one w.0 v e) w.2)
  where
    one : (x y : List ℕ) → Some x ≡ Some y → x ≡ y
    one x y e = cc

-- the volume at the unit of a step
at_step : (a : StorageGroupRows) (listed before it more : List (ℕ × List ℕ)) (u : ℕ) (v : List ℕ) → listed ≡ map.entries a.units → listed ≡ before ++ it → it ≡ (u, v) ∷ more → map.get a.units u ≡ Some v
at_step a listed before it more u v is so_far next = entry_here nat_cmp_total set.nat_cmp-IsAntisymmetric a.units before more u v (sym is ∙ so_far ∙ ap (λ (x : List (ℕ × List ℕ)). before ++ x) next)

pub loop-unit-init : goal.loop-unit-init
loop-unit-init g c = (c.units-unit-items.result, c.units-unit-items.ensures, [], sym c.into_iter-unit-iterator.ensures.into_iter_gives, tt)

pub returns-then-maps_other : goal.returns-then-maps_other
returns-then-maps_other g c =
    let i = c.loop-unit.invariant in
    let next = rest_more deref_pair c.loop-unit.unit-iterator c.next.new.self c.next.result (c.in-Some.unit, c.in-Some.volume) c.in-Some.is c.next.ensures.steps in
    let a = c.args.a.now in
    let whole : map.entries a.units ≡ i.2 ++ (c.in-Some.unit.now, c.in-Some.volume.now) ∷ c.next.new.self = sym i.1 ∙ i.3 ∙ ap (λ (x : List (ℕ × List ℕ)). i.2 ++ x) next in (
      (c.in-Some.volume.now, at_step a i.0 i.2 c.loop-unit.unit-iterator c.next.new.self c.in-Some.unit.now c.in-Some.volume.now i.1 i.3 next, c.maps_other.ensures.0 c.if-maps_other.true),
      λ u w. least_has nat_cmp_total set.nat_cmp-IsAntisymmetric (IsUnlike a c.args.b.now) i.2 (c.in-Some.unit.now, c.in-Some.volume.now) c.next.new.self
          (subst (λ (es : List (ℕ × List ℕ)). IsStrictlySortedBy nat_cmp (keys_of es)) whole (sorted nat_cmp (map.entries a.units) (map.entries_sorted a.units))) i.4 u
          (subst (λ (es : List (ℕ × List ℕ)). list_any (eq_by_cmp nat_cmp u) (keys_of es) ≡ true) whole (key_there nat_cmp a.units u w.0 w.1)) w,
    )

pub loop-unit-preserved : goal.loop-unit-preserved
loop-unit-preserved g c =
    let i = c.loop-unit.invariant in
    let next = rest_more deref_pair c.loop-unit.unit-iterator c.next.new.self c.next.result (c.in-Some.unit, c.in-Some.volume) c.in-Some.is c.next.ensures.steps in
    let a = c.args.a.now in (
      i.0,
      i.1,
      i.2 ++ (c.in-Some.unit.now, c.in-Some.volume.now) ∷ [],
      walked i.0 i.2 c.loop-unit.unit-iterator c.next.new.self (c.in-Some.unit.now, c.in-Some.volume.now) i.3 next,
      all_push (λ (e : ℕ × List ℕ). ¬ IsUnlike a c.args.b.now e.0) i.2 (c.in-Some.unit.now, c.in-Some.volume.now) i.4
          (not_unlike a c.args.b.now c.in-Some.unit.now c.in-Some.volume.now (at_step a i.0 i.2 c.loop-unit.unit-iterator c.next.new.self c.in-Some.unit.now c.in-Some.volume.now i.1 i.3 next)
          (λ h. true≢false (sym (c.maps_other.ensures.1 h) ∙ c.if-maps_other.false))),
    )

pub returns : goal.returns
returns g c u w =
    let i = c.loop-unit.invariant in
    let a = c.args.a.now in
    let all = walk_end i.0 i.2 c.loop-unit.unit-iterator i.3 (rest_all deref_pair c.loop-unit.unit-iterator c.next.new.self c.next.result c.in-None.is c.next.ensures.steps) in
    none_has nat_cmp_total set.nat_cmp-IsAntisymmetric (IsUnlike a c.args.b.now) i.2 i.4 u
    (subst (λ (es : List (ℕ × List ℕ)). list_any (eq_by_cmp nat_cmp u) (keys_of es) ≡ true) (sym (all ∙ i.1)) (key_there nat_cmp a.units u w.0 w.1)) w

use Rattle.std.proofs.Common.{ℕ, ◌≡◌, List, [], ◌∷◌, ◌++◌, Some, refl, sym, ap, ◌∙◌}
use mathlib.Core.Bool.{true≢false}
use Rattle.std.specs.Cmp.{nat_cmp_total}
use Rattle.std.specs.Cmp.Lexicographic.{bytes_decides}
use Rattle.std.specs.FinMap as map
use Rattle.std.specs.Map.Iter.{deref_pair}
use Rattle.std.proofs.lemmas.Map.Iter.{rest_more, rest_all}
use Rattle.fab_inventory.proofs.fab_lemmas.Walks.{all_push, walked, walk_end, no_hit}
use Rattle.fab_inventory.proofs.fab_lemmas.SeenMaps.{looked_up, get_entries}
use Rattle.fab_mapping_base.specs.Groups.{StorageGroupRows, Units}
use Rattle.fab_mapping_base.proofs.Walked.{here_looked_up}
use Rattle.fab_mapping_base.proofs.storage_group.StorageGroup.has_volume.Goals as goal

pub loop-unit-init : goal.loop-unit-init
loop-unit-init g c = (c.self.inside.units.entries, ap (λ (v : StorageGroupRows). v.units) c.self.view_is, c.into_iter-unit-iterator.ensures.into_iter_gives.5, [], sym c.into_iter-unit-iterator.ensures.into_iter_gives.0, tt)

pub returns-then-eq : goal.returns-then-eq
returns-then-eq g c =
    let i = c.loop-unit.invariant in
    let next = rest_more deref_pair c.loop-unit._unit-iterator c.next.new.self c.next.result (c.in-Some._unit, c.in-Some.there) c.in-Some.is c.next.ensures.steps in
    let at = here_looked_up nat_cmp_total i.0 i.3 c.loop-unit._unit-iterator c.next.new.self (c.in-Some._unit.now, c.in-Some.there.now) i.4 next i.2 in (
      λ t. (c.in-Some._unit.now, looked_up nat_cmp_total i.0 c.args.self.now.units c.in-Some._unit.now (Some c.in-Some.there.now) i.1 (sym at) ∙ ap Some ((bytes_decides c.in-Some.there.now c.args.volume.now).0 (sym c.eq.ensures ∙ c.if-eq.true))),
      λ w. refl,
    )

pub loop-unit-preserved : goal.loop-unit-preserved
loop-unit-preserved g c =
    let i = c.loop-unit.invariant in (
      i.0,
      i.1,
      i.2,
      i.3 ++ (c.in-Some._unit.now, c.in-Some.there.now) ∷ [],
      walked i.0 i.3 c.loop-unit._unit-iterator c.next.new.self (c.in-Some._unit.now, c.in-Some.there.now) i.4 (rest_more deref_pair c.loop-unit._unit-iterator c.next.new.self c.next.result (c.in-Some._unit, c.in-Some.there) c.in-Some.is c.next.ensures.steps),
      all_push (λ (e : ℕ × List ℕ). ¬ (e.1 ≡ c.args.volume.now)) i.3 (c.in-Some._unit.now, c.in-Some.there.now) i.5 (λ same. true≢false (sym ((bytes_decides c.in-Some.there.now c.args.volume.now).1 same) ∙ sym c.eq.ensures ∙ c.if-eq.false)),
    )

pub returns : goal.returns
returns g c =
    let i = c.loop-unit.invariant in (
      λ t. absurd (true≢false (sym t)),
      λ w. absurd (no_hit nat_cmp_total (λ v. v ≡ c.args.volume.now) i.0 i.3 w.0 c.args.volume.now
          (walk_end i.0 i.3 c.loop-unit._unit-iterator i.4 (rest_all deref_pair c.loop-unit._unit-iterator c.next.new.self c.next.result c.in-None.is c.next.ensures.steps)) i.5
          (sym (get_entries nat_cmp_total i.0 w.0) ∙ ap (λ (m : Units). map.get m w.0) i.1 ∙ w.1) refl),
    )

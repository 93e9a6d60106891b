use Rattle.std.proofs.Common.{◌≡◌, ℕ, List, Bool, true, false, not, Option, Some, None, refl, sym, ap, ◌∙◌}
use mathlib.Core.Bool.{true≢false}
use Rattle.std.specs.Cmp.{nat_cmp_total}
use Rattle.std.specs.Cmp.Lexicographic.{bytes_decides}
use Rattle.fab_inventory.proofs.fab_lemmas.SeenMaps.{looked_up}
use Rattle.fab_mapping_base.specs.Groups.{StorageGroupRows}
use Rattle.fab_mapping_base.proofs.storage_group.StorageGroup.maps_other.Goals as goal

from_not : (b : Bool) → not b ≡ true → b ≡ false
from_not true e = sym e
from_not false e = refl

to_not : (b : Bool) → (b ≡ true → ⊥) → not b ≡ true
to_not true h = absurd (h refl)
to_not false h = refl

one : (x y : List ℕ) → Some x ≡ Some y → x ≡ y
one x y e = cc

pub returns-in-Some : goal.returns-in-Some
returns-in-Some g c =
    let there = looked_up nat_cmp_total c.self.inside.units.entries c.args.self.now.units c.args.unit (Some c.in-Some.there.now) (ap (λ (v : StorageGroupRows). v.units) c.self.view_is) c.in-Some.ensures.value in (
      λ t. (c.in-Some.there.now, there, λ same. true≢false (sym ((bytes_decides c.in-Some.there.now c.args.volume.now).1 (sym same)) ∙ from_not _ (sym c.ne.ensures ∙ t))),
      λ w. c.ne.ensures ∙ to_not _ (λ same. w.2 (sym ((bytes_decides c.in-Some.there.now c.args.volume.now).0 same) ∙ one c.in-Some.there.now w.0 (sym there ∙ w.1))),
    )

pub returns-in-None : goal.returns-in-None
returns-in-None g c =
    let none = looked_up nat_cmp_total c.self.inside.units.entries c.args.self.now.units c.args.unit None (ap (λ (v : StorageGroupRows). v.units) c.self.view_is) c.in-None.ensures.value in
    (λ t. absurd (true≢false (sym t)), λ w. let e : ◌≡◌ {A = Option (List ℕ)} None (Some w.0) = sym none ∙ w.1 in absurd cc)

-- What tests of a configuration and of its paths tell.
use Rattle.std.proofs.Common.{ℕ, ◌≡◌, ◌≤◌, List, length, Option, None, Some, is_some, not, Bool, true, false, MatchOption, sym, ap, ◌∙◌, arith}
use mathlib.Core.Bool.{true≢false}
use Rattle.std.specs.Cmp.{eq_by_cmp_equiv}
use Rattle.std.proofs.lemmas.Map.Keys.{IsDistinct-from_sorted}
use Rattle.std.proofs.lemmas.Map.Made.{length-le_from_is_member, is_member-Decides}
use Rattle.fab_reach_base.proofs.fab_lemmas.SeenSets.{tie_decides}
use Rattle.fab_reach_base.specs.fab_names.declared.fabric.Fabric.{Fabric}
use Rattle.fab_reach_base.specs.fab_names.declared.fabric.Fabric.TheVariants.{A, B}
use Rattle.fab_reach_base.specs.fab_zoning.Soundness as zonings
use Rattle.fab_reach_base.specs.fab_mapping_base.declared.nexus.Nexus.{Nexus}
use Rattle.fab_reach_base.specs.fab_mapping.Mappings.{MappingRows, HasNoClash, IsLeastClash}
use Rattle.fab_reach_base.specs.Limits.{MoreThan}
use Rattle.fab_reach_base.specs.Orders.{path_order, IsListOf}
use Rattle.fab_reach_base.specs.Records.{ConfigRows, zoning_at}
use Rattle.fab_reach_base.specs.Soundness.{HasSoundZonings}
use Rattle.fab_reach_base.specs.declared.path.Path.{Path}
use Rattle.fab_reach_base.specs.PathOrder.{path_total, path_exact}

-- the zonings of both fabrics
pub both_sound : (c : ConfigRows) → ((zoning_at c A).fabric ≡ A) × zonings.IsSound (zoning_at c A) → ((zoning_at c B).fabric ≡ B) × zonings.IsSound (zoning_at c B) → HasSoundZonings c
both_sound c a b = record { fabrics = fabrics; sound = each }
  where
    fabrics : (f : Fabric) → (zoning_at c f).fabric ≡ f
    fabrics A = a.0
    fabrics B = b.0

    each : (f : Fabric) → zonings.IsSound (zoning_at c f)
    each A = a.1
    each B = b.1

-- where no clash is found, and where one is
pub none_found : (m : MappingRows) (o : Option Nexus) (r : Bool) → is_some o ≡ not r → MatchOption o (HasNoClash m) (IsLeastClash m) → r ≡ true → HasNoClash m
none_found m None r is h t = h
none_found m (Some n) r is h t = absurd (true≢false (is ∙ ap not t))

pub not_found : (m : MappingRows) (o : Option Nexus) (r : Bool) → is_some o ≡ not r → MatchOption o (HasNoClash m) (IsLeastClash m) → HasNoClash m → r ≡ true
not_found m None true is h none = λ i. true
not_found m None false is h none = absurd (true≢false (sym is))
not_found m (Some n) r is h none = absurd (none n h.0)

-- a list of all is as long as any
pub not_more : (most : ℕ) (P : Path → Type 0) (xs : List Path) → IsListOf P xs → length xs ≤ most → ¬ MoreThan most P
not_more most P xs l few more =
    let fewer : length more.some ≤ length xs =
    length-le_from_is_member (eq_by_cmp_equiv path_total) more.some xs (IsDistinct-from_sorted path_order more.some more.sorted)
    (λ q member. (is_member-Decides (tie_decides path_total path_exact) xs q).1 (l.complete q (more.sound q ((is_member-Decides (tie_decides path_total path_exact) more.some q).0 member)))) in
    omega (arith, few, fewer, more.many)

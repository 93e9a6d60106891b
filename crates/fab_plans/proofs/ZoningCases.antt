-- Each step of zoning: nothing refuses it where the zoning accepts it, and what the zoning answers is
-- its first refusal.
use Rattle.std.proofs.Common.{ℕ, ◌≡◌, ◌≤◌, List, length, Option, None, Some, is_some, true, false, refl, sym, subst, arith}
use mathlib.Core.Bool.{true≢false}
use Rattle.std.specs.FinMap as map
use Rattle.std.specs.FinSet as set
use Rattle.fab_reach_base.specs.fab_names.declared.fabric.Fabric.{Fabric}
use Rattle.fab_reach_base.specs.fab_names.declared.member.Member.{Member}
use Rattle.fab_reach_base.specs.fab_names.declared.member.Member.TheVariants as member
use Rattle.fab_reach_base.specs.fab_names.Orders.{name_cmp}
use Rattle.fab_reach_base.specs.fab_lemmas.MapsOfSets.{in_set}
use Rattle.fab_reach_base.specs.fab_zoning.declared.fault.ZoningFault.{ZoningFault}
use Rattle.fab_reach_base.specs.fab_zoning.declared.fault.ZoningFault.TheVariants as fault
use Rattle.fab_reach_base.specs.fab_zoning.declared.fault.ZoningLimit.TheVariants as limit
use Rattle.fab_reach_base.specs.fab_zoning_rows.Limits.{most_rows}
use Rattle.fab_reach_base.specs.fab_zoning.Limits.{most_zones, most_sets}
use Rattle.fab_reach_base.specs.fab_zoning_rows.Rows.{Rows}
use Rattle.fab_reach_base.specs.fab_zoning.Zonings.{FabricZoning}
use Rattle.fab_reach_base.specs.fab_zoning.Resolved.{IsResolved, AreResolved, MoreThan}
use Rattle.fab_reach_base.specs.fab_zoning.Steps as base
use Rattle.fab_reach_base.proofs.fab_zoning_rows.RowSets.{row_total, row_exact}
use Rattle.fab_plans_text.specs.fab_plans_base.Steps.{alias_put, alias_drop, zone_put, zone_drop, set_put, activate}
use Rattle.fab_plans.specs.Checks.{PassesAll, IsFirstRefusal}
use Rattle.fab_plans.specs.ZoningSteps.{ZoningFails}
use Rattle.fab_plans.specs.Telling.{IsFaultOf, TellsZoning}
use Rattle.fab_plans.specs.declared.fault.Item.TheVariants as item
use Rattle.fab_plans.specs.declared.fault.Refusal.{Refusal}
use Rattle.fab_plans.specs.declared.fault.Refusal.TheVariants as refusal
use Rattle.fab_plans.proofs.FirstChecks.{passes_all, first_own, first_other, first_user, first_room}
use Rattle.fab_plans.proofs.Facts.{not_both, none_without, room_or_full}
use Rattle.fab_reach_base.proofs.fab_lemmas.Sizes.{part_of_set, some_member}

-- a check that no step has
none : (r : Refusal) → ⊥ → ⊥
none r h = h

-- what holds of a name holds of the same name
for_name : (P : Refusal → Type 0) (tell : List ℕ → Refusal) (m n : List ℕ) → m ≡ n → P (tell n) → P (tell m)
for_name P tell m n same h = subst (λ x. P (tell x)) (sym same) h

-- a resolved row is of a set that is there
resolved_of : (z : FabricZoning) (s : List ℕ) → MoreThan most_rows (IsResolved z s) → map.contains_key z.sets s ≡ false → ⊥
resolved_of z s many gone =
    let row = some_member row_total row_exact many.0 (omega (arith, many.1)) in
    by row.0.0 (map.get z.sets s) gone (many.2 row.0 row.1).zone
  where
    by : (x : List ℕ) (o : Option (set.FinSet name_cmp)) → is_some o ≡ false → in_set o x ≡ true → ⊥
    by x None e h = true≢false (sym h)
    by x (Some t) e h = true≢false e

-- the rows of a set are not more than those that are all of them
not_more : (z : FabricZoning) (s : List ℕ) (rows : Rows) → AreResolved z s rows → set.len rows ≤ most_rows → ¬ MoreThan most_rows (IsResolved z s)
not_more z s rows all few many =
    let n = part_of_set row_total row_exact many.0 rows (λ r h. (all r).1 (many.2 r h)) in
    omega (arith, few, n, many.1)

module _ (z : FabricZoning) (f : Fabric) (n : List ℕ) where
  -- ---- aliases

  pub alias_put_told : (ms : List Member) → base.IsListing (length ms) → (e : ZoningFault) → base.IsPutAliasFault z n ms e → TellsZoning (IsFaultOf (ZoningFails z (alias_put f n ms))) e
  alias_put_told ms listing fault.Empty h = absurd (omega (arith, h, listing.0))
  alias_put_told ms listing (fault.Limit limit.Members) h = absurd (omega (arith, h, listing.1))
  alias_put_told ms listing (fault.Limit limit.Aliases) h = first_room (ZoningFails z (alias_put f n ms)) _ (refl, h.1) none none none none none
  alias_put_told ms listing fault.Memory h = tt
  alias_put_told ms listing _ h = absurd h

  pub alias_drop_told : (e : ZoningFault) → base.IsDropAliasFault z n e → TellsZoning (IsFaultOf (ZoningFails z (alias_drop f n))) e
  alias_drop_told (fault.Unknown m) h = for_name (IsFirstRefusal (ZoningFails z (alias_drop f n))) (λ x. refusal.Unknown (item.Name x)) m n h.0 (first_own (ZoningFails z (alias_drop f n)) _ (refl, h.1))
  alias_drop_told (fault.InUse m by) h =
      for_name (IsFirstRefusal (ZoningFails z (alias_drop f n))) (λ x. refusal.InUse x by) m n h.0 (first_user (ZoningFails z (alias_drop f n)) _ (by, (refl, h.2)) (λ r k. not_both h.1 k.1) none none none)
  alias_drop_told _ h = absurd h

  -- ---- zones
  pub zone_put_passes : (ms : List Member) → base.CanPutZone z n ms → PassesAll (ZoningFails z (zone_put f n ms))
  zone_put_passes ms can =
      passes_all (ZoningFails z (zone_put f n ms)) none (λ r h. none_without (base.HasAlias z) ms (member.Alias h.0) can.known h.1.1) none none none (λ r h. room_or_full z.zones n most_zones can.room h.1)

  pub zone_put_told : (ms : List Member) → base.IsListing (length ms) → (e : ZoningFault) → base.IsPutZoneFault z n ms e → TellsZoning (IsFaultOf (ZoningFails z (zone_put f n ms))) e
  zone_put_told ms listing fault.Empty h = absurd (omega (arith, h, listing.0))
  zone_put_told ms listing (fault.Limit limit.Members) h = absurd (omega (arith, h, listing.1))
  zone_put_told ms listing (fault.Unknown a) h = first_other (ZoningFails z (zone_put f n ms)) _ (a, (refl, h.1)) none
  zone_put_told ms listing (fault.Limit limit.Zones) h = first_room (ZoningFails z (zone_put f n ms)) _ (refl, h.2) none (λ r k. none_without (base.HasAlias z) ms (member.Alias k.0) h.1 k.1.1) none none none
  zone_put_told ms listing fault.Memory h = tt
  zone_put_told ms listing _ h = absurd h

  pub zone_drop_told : (e : ZoningFault) → base.IsDropZoneFault z n e → TellsZoning (IsFaultOf (ZoningFails z (zone_drop f n))) e
  zone_drop_told (fault.Unknown m) h = for_name (IsFirstRefusal (ZoningFails z (zone_drop f n))) (λ x. refusal.Unknown (item.Name x)) m n h.0 (first_own (ZoningFails z (zone_drop f n)) _ (refl, h.1))
  zone_drop_told (fault.InUse m by) h =
      for_name (IsFirstRefusal (ZoningFails z (zone_drop f n))) (λ x. refusal.InUse x by) m n h.0 (first_user (ZoningFails z (zone_drop f n)) _ (by, (refl, h.2)) (λ r k. not_both h.1 k.1) none none none)
  zone_drop_told _ h = absurd h

  -- ---- zone sets
  pub set_put_passes : (zs : List (List ℕ)) → base.CanPutSet z n zs → PassesAll (ZoningFails z (set_put f n zs))
  set_put_passes zs can = passes_all (ZoningFails z (set_put f n zs)) none (λ r h. none_without (base.HasZone z) zs h.0 can.known h.1.1) none none none (λ r h. room_or_full z.sets n most_sets can.room h.1)

  pub set_put_told : (zs : List (List ℕ)) → base.IsListing (length zs) → (e : ZoningFault) → base.IsPutSetFault z n zs e → TellsZoning (IsFaultOf (ZoningFails z (set_put f n zs))) e
  set_put_told zs listing fault.Empty h = absurd (omega (arith, h, listing.0))
  set_put_told zs listing (fault.Limit limit.Members) h = absurd (omega (arith, h, listing.1))
  set_put_told zs listing (fault.Unknown a) h = first_other (ZoningFails z (set_put f n zs)) _ (a, (refl, h.1)) none
  set_put_told zs listing (fault.Limit limit.Sets) h = first_room (ZoningFails z (set_put f n zs)) _ (refl, h.2) none (λ r k. none_without (base.HasZone z) zs k.0 h.1 k.1.1) none none none
  set_put_told zs listing fault.Memory h = tt
  set_put_told zs listing _ h = absurd h

  -- ---- what is active
  pub activate_passes : (rows : Rows) → map.contains_key z.sets n ≡ true → AreResolved z n rows → set.len rows ≤ most_rows → PassesAll (ZoningFails z (activate f n))
  activate_passes rows known all few = passes_all (ZoningFails z (activate f n)) (λ r h. not_both known h.1) none none none none (λ r h. not_more z n rows all few h.1)

  pub activate_told : (e : ZoningFault) → base.IsActivateFault z n e → TellsZoning (IsFaultOf (ZoningFails z (activate f n))) e
  activate_told (fault.Unknown m) h = for_name (IsFirstRefusal (ZoningFails z (activate f n))) (λ x. refusal.Unknown (item.Name x)) m n h.0 (first_own (ZoningFails z (activate f n)) _ (refl, h.1))
  activate_told (fault.Limit limit.Active) h = first_room (ZoningFails z (activate f n)) _ (refl, h) (λ r k. resolved_of z n h k.1) none none none none
  activate_told fault.Memory h = tt
  activate_told _ h = absurd h

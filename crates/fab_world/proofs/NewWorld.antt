-- A new world is sound.
use Rattle.std.proofs.Common.{ℕ, ◌≡◌, ◌<◌, List, [], ◌∷◌, length, Contains, Option, None, Some, refl, sym, ap, ◌∙◌, arith}
use Rattle.std.specs.Cmp.{eq_by_cmp_equiv}
use Rattle.std.specs.FinMap as map
use Rattle.std.specs.Option.{option_map}
use Rattle.std.specs.Ordering.{nat_cmp}
use Rattle.std.proofs.lemmas.Map.Made.{IsDistinct-from_count}
use Rattle.fab_reach_base.specs.fab_names.Orders.{name_cmp}
use Rattle.fab_reach_base.proofs.fab_names.OrderLaws.{name_total}
use Rattle.fab_reach_base.specs.fab_names.declared.fabric.Fabric.{Fabric}
use Rattle.fab_reach_base.specs.fab_names.declared.fabric.Fabric.TheVariants.{A, B}
use Rattle.fab_reach_base.specs.fab_inventory.Inventories.{no_rows}
use Rattle.fab_reach_base.specs.fab_inventory.Ports.{port_of}
use Rattle.fab_reach_base.proofs.fab_mapping_base.fab_inventory.Soundness.{sound_none}
use Rattle.fab_reach_base.proofs.fab_zoning.Keeping.{new_is_sound}
use Rattle.fab_reach_base.specs.fab_zoning.Soundness as zonings
use Rattle.fab_reach_base.specs.fab_mapping.Mappings.{no_groups, HasNoClash}
use Rattle.fab_reach_base.proofs.fab_mapping.Keeping.{none_is_sound, none_fits}
use Rattle.fab_reach_base.specs.Reach.{Reaches}
use Rattle.fab_reach_base.specs.Records.{zoning_at}
use Rattle.fab_reach_base.specs.declared.path.Path.{Path}
use Rattle.fab_reach_base.specs.declared.listing.TheConstants.{MOST_PATHS}
use Rattle.fab_world.specs.PlanRecords.{PlanRecord}
use Rattle.fab_world.specs.Soundness.{ListsActive, IsSound}
use Rattle.fab_world.specs.Worlds.{new_world, records_of}

-- nothing is found where nothing is
no_value : {X : Type 0} (o : Option X) (x : X) → o ≡ None → ¬ (o ≡ Some x)
no_value o x none some = let e : ◌≡◌ {A = Option _} None (Some x) = sym none ∙ some in absurd cc

no_group : (n : List ℕ) → map.get no_groups.groups n ≡ None
no_group n = map.get-empty name_cmp n

no_plan : (n : List ℕ) → map.get new_world.plans n ≡ None
no_plan n = map.get-empty name_cmp n

-- no port is known, so no path is there
pub no_path : (x : Path) → ¬ Reaches (records_of new_world) x
no_path x h = no_value (option_map (port_of x.initiator) (map.get new_world.inventory.ports x.initiator)) h.from (ap (option_map (port_of x.initiator)) (map.get-empty nat_cmp x.initiator)) h.from_is

few : (xs : List Path) → ((x : Path) → Contains xs x → Reaches (records_of new_world) x) → ¬ (MOST_PATHS < length xs)
few [] h many = omega (arith, many)
few (x ∷ xs) h many = no_path x (h x (0, omega arith, refl))

no_clash : HasNoClash no_groups
no_clash n h = no_value (map.get no_groups.groups h.2.0) h.2.1 (no_group h.2.0) h.2.2

lists_none : ListsActive (map.get new_world.plans) []
lists_none = record {
  lists = λ n. ((λ h. absurd (omega (arith, h.1))), λ h. absurd (no_value (map.get new_world.plans n) h.0 (no_plan n) h.1));
  each_once = IsDistinct-from_count (eq_by_cmp_equiv name_total) [] refl;
}

pub new_world_is_sound : IsSound new_world
new_world_is_sound = record {
  inventory = sound_none;
  config = record { parts = record { zonings = record { fabrics = fabrics; sound = each }; mapping = none_is_sound }; no_clash = no_clash };
  fits = none_fits no_rows;
  few_paths = λ more. few more.some more.sound more.many;
  few_plans = let none = map.len-empty name_cmp PlanRecord in omega (arith, none);
  plans = λ n p at. absurd (no_value (map.get new_world.plans n) p (no_plan n) at);
  order = lists_none;
  earlier = tt;
  few_changes = omega arith;
}
  where
    fabrics : (f : Fabric) → (zoning_at new_world.config f).fabric ≡ f
    fabrics A = refl
    fabrics B = refl

    each : (f : Fabric) → zonings.IsSound (zoning_at new_world.config f)
    each A = new_is_sound A
    each B = new_is_sound B

-- What an import that is tried makes, and what refuses it.
use Rattle.std.proofs.Common.{ℕ, ◌≡◌, ◌<◌, inl, inr, List, refl, sym, ap, ◌∙◌, subst, arith}
use Rattle.std.specs.Cmp.{nat_cmp_total}
use Rattle.std.specs.declared.vec.Vec.{Vec}
use Rattle.std.specs.FinMap as map
use Rattle.std.specs.FinSet as set
use Rattle.std.proofs.lemmas.Option.{slice_get_within, get_or_from_slice_get}
use Rattle.fab_reach_base.specs.fab_names.declared.fabric.Fabric.{Fabric}
use Rattle.fab_reach_base.specs.fab_inventory.Imports.{Agrees, IsClash, IsImported, ImportFails}
use Rattle.fab_reach_base.specs.fab_inventory.Inventories as inventories
use Rattle.fab_reach_base.specs.fab_inventory.Ports.{KnownPorts}
use Rattle.fab_reach_base.specs.fab_inventory.declared.fault.InventoryFault.{InventoryFault}
use Rattle.fab_reach_base.specs.fab_inventory.declared.fault.InventoryFault.TheVariants.{PortClash, Limit, Memory}
use Rattle.fab_reach_base.specs.fab_inventory.declared.fault.InventoryLimit.TheVariants.{Ports}
use Rattle.fab_reach_base.specs.fab_inventory.declared.port.PortRow.{PortRow}
use Rattle.fab_reach_base.proofs.fab_inventory.Soundness.{listed_or_not}
use Rattle.fab_reach_base.proofs.fab_inventory.Steps.{in_take}
use Rattle.fab_world.specs.Worlds.{WorldRows}
use Rattle.fab_desk_base.specs.Effects.{counted, with_inventory}
use Rattle.fab_desk_base.specs.Refusals.{records, room, ListsManyPorts}
use Rattle.fab_desk_base.specs.Trying.{IsMade, IsTryFault}
use Rattle.fab_desk_base.specs.declared.command.Command.TheVariants.{Import}
use Rattle.fab_desk_commands.specs.Answered.{answered}
use Rattle.fab_desk_commands.proofs.Checks.{import_passes}

-- the inventory after an import
pub record ImportTried (f : Fabric) (rows : List PortRow) (old new : inventories.InventoryRows) : Type 0 where
  pub imported : IsImported f rows old.ports new.ports
  pub rest : new ≡ record old { ports = new.ports }
  pub sound : inventories.IsSound new

-- an import makes one thing
one_import : (f : Fabric) (rows : List PortRow) (old new other : KnownPorts) → IsImported f rows old new → IsImported f rows old other → new ≡ other
one_import f rows old new other a b = map.same_map nat_cmp_total set.nat_cmp-IsAntisymmetric new other (λ q. elim (listed_or_not rows q) [
  | inl w ↦ subst (λ p. map.get new p ≡ map.get other p) w.2 (a.listed w.0 w.1 ∙ sym (b.listed w.0 w.1))
  | inr none ↦ a.others q none ∙ sym (b.others q none)
])

-- records that agree do not clash
no_clash : (rows : List PortRow) (q : ℕ) → Agrees rows → ¬ IsClash rows q
no_clash rows q agrees clash = clash.differs (agrees clash.earlier clash.row (in_take rows clash.at clash.earlier clash.among) (clash.at, slice_get_within rows clash.at clash.row clash.is, get_or_from_slice_get rows clash.at clash.row clash.row clash.is) clash.same)

module _ {A : Type 0} (w : WorldRows) (caller : List ℕ) (f : Fabric) (rows : Vec PortRow A) where
  -- there are not too many ports after an import that was done
  fits_in : (v : inventories.InventoryRows) → ImportTried f rows.items w.inventory v → ¬ ListsManyPorts w (Import f rows)
  fits_in v tried many = let few = tried.sound.few_ports in let too_many : 4096 < map.len v.ports = subst (λ ports. 4096 < map.len ports) (one_import f rows.items w.inventory.ports many.0 v.ports many.1 tried.imported) many.2 in omega (arith, few, too_many)

  pub import_made : (v : inventories.InventoryRows) → ImportTried f rows.items w.inventory v → IsMade w caller (Import f rows) (counted (with_inventory v w))
  import_made v tried = record {
    passes = import_passes A w caller 12 (omega arith) f rows (λ lt q. no_clash rows.items q tried.imported.agrees) (λ lt. fits_in v tried);
    makes = (v.ports, tried.imported, ap (λ x. counted (with_inventory x w)) tried.rest);
  }

  pub import_refused : (e : InventoryFault) → ImportFails f rows.items w.inventory.ports e → IsTryFault w caller (Import f rows) (answered e)
  import_refused (PortClash q) h = record { check = records; here = (q, (refl, h)); before = import_passes A w caller 2 (omega arith) f rows (λ lt. absurd (omega (arith, lt))) (λ lt. absurd (omega (arith, lt))) }
  import_refused (Limit Ports) h = record { check = room; here = (refl, h); before = import_passes A w caller 11 (omega arith) f rows (λ lt q. no_clash rows.items q h.1.agrees) (λ lt. absurd (omega (arith, lt))) }
  import_refused Memory h = tt
  import_refused _ h = absurd h

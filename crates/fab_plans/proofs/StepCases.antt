-- A step on a part of a configuration is one on the configuration.
use Rattle.std.proofs.Common.{◌≡◌, None, Some, Result, OnOk, IfErr, refl, sym, ap, ◌∙◌, subst}
use Rattle.fab_reach_base.specs.fab_names.declared.fabric.Fabric.{Fabric}
use Rattle.fab_reach_base.specs.fab_names.declared.fabric.Fabric.TheVariants.{A, B}
use Rattle.fab_reach_base.specs.fab_inventory.Inventories.{InventoryRows}
use Rattle.fab_reach_base.specs.fab_zoning.Soundness as zonings
use Rattle.fab_reach_base.specs.fab_zoning.Zonings.{FabricZoning}
use Rattle.fab_reach_base.specs.fab_mapping.Mappings.{MappingRows}
use Rattle.fab_reach_base.specs.fab_mapping.Soundness as mappings
use Rattle.fab_reach_base.specs.Records.{ConfigRows, zoning_at}
use Rattle.fab_reach_base.specs.Soundness.{IsSoundBeside}
use Rattle.fab_plans_text.specs.fab_plans_base.Actions.{mapping_step}
use Rattle.fab_plans_text.specs.fab_plans_base.Steps.{PlanStep, alias_put, alias_drop, zone_put, zone_drop, set_put, set_drop, activate, deactivate, default_zone}
use Rattle.fab_plans_text.specs.fab_plans_base.declared.mapping_action.MappingAction.{MappingAction}
use Rattle.fab_plans_text.specs.fab_plans_base.declared.mapping_action.MappingAction.TheVariants as mapping
use Rattle.fab_plans.specs.MappingSteps.{MappingFails, MappingDone}
use Rattle.fab_plans.specs.Steps.{fabric_of, with_zoning, with_mapping, FailsIn, DoneIn, StepDone}
use Rattle.fab_plans.specs.Telling.{IsFaultOf}
use Rattle.fab_plans.specs.ZoningSteps.{ZoningFails, ZoningMakes, ZoningDone}
use Rattle.fab_plans.specs.declared.fault.StepFault.{StepFault}
use Rattle.fab_plans.proofs.Facts.{on_both}
use Rattle.fab_reach_base.proofs.fab_mapping.GroupChanges.{if_err}
use Rattle.fab_reach_base.proofs.fab_mapping.GroupChanges.{on_ok}

-- a step of mapping is of no fabric
pub of_no_fabric : {A : Type 0} (action : MappingAction A) → fabric_of (mapping_step action) ≡ None
of_no_fabric (mapping.HostGroupPut n t hs) = refl
of_no_fabric (mapping.HostGroupDrop n) = refl
of_no_fabric (mapping.GroupNew n t r) = refl
of_no_fabric (mapping.GroupDrop n) = refl
of_no_fabric (mapping.GroupHost n k) = refl
of_no_fabric (mapping.GroupUnhost n k) = refl
of_no_fabric (mapping.GroupTarget n w) = refl
of_no_fabric (mapping.GroupUntarget n w) = refl
of_no_fabric (mapping.GroupMap n u v) = refl
of_no_fabric (mapping.GroupUnmap n u) = refl
of_no_fabric (mapping.GroupExpose n) = refl
of_no_fabric (mapping.GroupHide n) = refl

-- a step of zoning leaves whose fabric it is
same_fabric : (s : PlanStep) (z y : FabricZoning) → ZoningMakes s z y → y.fabric ≡ z.fabric
same_fabric (alias_put f n ms) z y h = ap (λ (x : FabricZoning). x.fabric) h
same_fabric (alias_drop f n) z y h = ap (λ (x : FabricZoning). x.fabric) h
same_fabric (zone_put f n ms) z y h = ap (λ (x : FabricZoning). x.fabric) h
same_fabric (zone_drop f n) z y h = ap (λ (x : FabricZoning). x.fabric) h
same_fabric (set_put f n zs) z y h = ap (λ (x : FabricZoning). x.fabric) h
same_fabric (set_drop f n) z y h = ap (λ (x : FabricZoning). x.fabric) h
same_fabric (activate f s) z y h = ap (λ (x : FabricZoning). x.fabric) h.1
same_fabric (deactivate f) z y h = ap (λ (x : FabricZoning). x.fabric) h
same_fabric (default_zone f d) z y h = ap (λ (x : FabricZoning). x.fabric) h
same_fabric _ z y h = absurd h

module _ (v : InventoryRows) (s : PlanStep) (c : ConfigRows) where
  module _ (f : Fabric) (is : fabric_of s ≡ Some f) where
    zoning_done : (y : FabricZoning) → ZoningDone s (zoning_at c f) y → StepDone v s c (with_zoning f y c)
    zoning_done y h = subst (λ o. DoneIn o v s c (with_zoning f y c)) (sym is) (y, h, refl)

    zoning_failed : (e : StepFault) → IsFaultOf (ZoningFails (zoning_at c f) s) e → IsFaultOf (FailsIn (fabric_of s) v c s) e
    zoning_failed e = subst (λ o. IsFaultOf (FailsIn o v c s) e) (sym is)

  module _ (is : fabric_of s ≡ None) where
    mapping_done : (m : MappingRows) → MappingDone v s c.mapping m → StepDone v s c (with_mapping m c)
    mapping_done m h = subst (λ o. DoneIn o v s c (with_mapping m c)) (sym is) (m, h, refl)

    mapping_failed : (e : StepFault) → IsFaultOf (MappingFails v c.mapping s) e → IsFaultOf (FailsIn (fabric_of s) v c s) e
    mapping_failed e = subst (λ o. IsFaultOf (FailsIn o v c s) e) (sym is)

  sound_zoning : (f : Fabric) (y : FabricZoning) → ZoningDone s (zoning_at c f) y → (zonings.IsSound (zoning_at c f) → zonings.IsSound y) → IsSoundBeside v c → IsSoundBeside v (with_zoning f y c)
  sound_zoning A y h keeps sound = record {
    parts = record { zonings = record { fabrics = by; sound = each }; mapping = sound.parts.mapping };
    fits = sound.fits;
  }
    where
      by : (f : Fabric) → (zoning_at (with_zoning A y c) f).fabric ≡ f
      by A = same_fabric s c.a y h.makes ∙ sound.parts.zonings.fabrics A
      by B = sound.parts.zonings.fabrics B

      each : (f : Fabric) → zonings.IsSound (zoning_at (with_zoning A y c) f)
      each A = keeps (sound.parts.zonings.sound A)
      each B = sound.parts.zonings.sound B
  sound_zoning B y h keeps sound = record {
    parts = record { zonings = record { fabrics = by; sound = each }; mapping = sound.parts.mapping };
    fits = sound.fits;
  }
    where
      by : (f : Fabric) → (zoning_at (with_zoning B y c) f).fabric ≡ f
      by A = sound.parts.zonings.fabrics A
      by B = same_fabric s c.b y h.makes ∙ sound.parts.zonings.fabrics B

      each : (f : Fabric) → zonings.IsSound (zoning_at (with_zoning B y c) f)
      each A = sound.parts.zonings.sound A
      each B = keeps (sound.parts.zonings.sound B)

  sound_mapping : (m : MappingRows) → mappings.Keeps v c.mapping m → IsSoundBeside v c → IsSoundBeside v (with_mapping m c)
  sound_mapping m keeps sound = record {
    parts = record { zonings = record { fabrics = fabrics; sound = each }; mapping = keeps.sound sound.parts.mapping };
    fits = keeps.fits sound.fits;
  }
    where
      fabrics : (f : Fabric) → (zoning_at (with_mapping m c) f).fabric ≡ f
      fabrics A = sound.parts.zonings.fabrics A
      fabrics B = sound.parts.zonings.fabrics B

      each : (f : Fabric) → zonings.IsSound (zoning_at (with_mapping m c) f)
      each A = sound.parts.zonings.sound A
      each B = sound.parts.zonings.sound B

-- what a call on a part answers, the step answers: at the same step and the same configuration
module _ (v : InventoryRows) (s t : PlanStep) (same : s ≡ t) (c d : ConfigRows) (view : c ≡ d) (r : Result (Unit {0}) StepFault) where
  abbrev Done : ConfigRows → Type 0
  Done e = OnOk r (StepDone v t d e)

  abbrev Fails : Type 0
  Fails = IfErr r (IsFaultOf (FailsIn (fabric_of t) v d t))

  abbrev KeepsSound : ConfigRows → Type 0
  KeepsSound e = OnOk r (IsSoundBeside v d → IsSoundBeside v e)

  there : (e : ConfigRows) → StepDone v s c e → StepDone v t d e
  there e h = subst (λ w. StepDone v t w e) view (subst (λ x. StepDone v x c e) same h)

  failed : (e : StepFault) → IsFaultOf (FailsIn (fabric_of s) v c s) e → IsFaultOf (FailsIn (fabric_of t) v d t) e
  failed e h = subst (λ w. IsFaultOf (FailsIn (fabric_of t) v w t) e) view (subst (λ x. IsFaultOf (FailsIn (fabric_of x) v c x) e) same h)

  module _ (f : Fabric) (is : fabric_of s ≡ Some f) (y : FabricZoning) where
    pub zoning_ok : OnOk r (ZoningDone s (zoning_at c f) y) → Done (with_zoning f y c)
    zoning_ok h = on_ok r h (λ x. there (with_zoning f y c) (zoning_done v s c f is y x))

    pub zoning_sound : OnOk r (ZoningDone s (zoning_at c f) y) → OnOk r (zonings.IsSound (zoning_at c f) → zonings.IsSound y) → KeepsSound (with_zoning f y c)
    zoning_sound h k = on_both r h k (λ x keeps sound. sound_zoning v s c f y x keeps (subst (IsSoundBeside v) (sym view) sound))

    pub zoning_err : IfErr r (IsFaultOf (ZoningFails (zoning_at c f) s)) → Fails
    zoning_err h = if_err r h (λ e x. failed e (zoning_failed v s c f is e x))

  module _ (is : fabric_of s ≡ None) (m : MappingRows) where
    pub mapping_ok : OnOk r (MappingDone v s c.mapping m) → Done (with_mapping m c)
    mapping_ok h = on_ok r h (λ x. there (with_mapping m c) (mapping_done v s c is m x))

    pub mapping_sound : OnOk r (mappings.Keeps v c.mapping m) → KeepsSound (with_mapping m c)
    mapping_sound h = on_ok r h (λ keeps sound. sound_mapping v s c m keeps (subst (IsSoundBeside v) (sym view) sound))

    pub mapping_err : IfErr r (IsFaultOf (MappingFails v c.mapping s)) → Fails
    mapping_err h = if_err r h (λ e x. failed e (mapping_failed v s c is e x))

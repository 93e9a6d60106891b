-- Whose things steps give and name, kind by kind.
use Rattle.std.proofs.Common.{◌≡◌, ℕ, List, ◌⊎◌, inl, inr, refl, subst}
use Rattle.fab_reach_base.specs.fab_inventory.declared.holder.HolderKind.TheVariants as kind
use Rattle.fab_reach_base.specs.Adding.{Adds}
use Rattle.fab_reach_base.specs.Records.{Records}
use Rattle.fab_reach_base.proofs.Adding.{adds_as, adds_none}
use Rattle.fab_world.specs.fab_plans_base.Actions.{zoning_step}
use Rattle.fab_world.specs.fab_plans_base.Steps.{PlanStep, host_group_put, host_group_drop, group_new, group_drop, group_host, group_map}
use Rattle.fab_world.specs.fab_plans_base.declared.zoning_action.ZoningAction.{ZoningAction}
use Rattle.fab_world.specs.fab_plans_base.declared.zoning_action.ZoningAction.TheVariants as zoning
use Rattle.fab_desk_base.specs.Tenants.{Thing, holder, volume, host_group, storage_group, IsTenantOf, IsVolumeOf, IsHostGroupOf, IsGroupOf}
use Rattle.fab_desk_trials.specs.Gathered.{IsOfSomeHost, IsOfStep}
use Rattle.fab_desk_trials.proofs.TenantSets.{both_added}

-- sets of tenants
abbrev pub Tenants : Type 1
Tenants = List ℕ → Type 0

-- the same tenant is another thing's, where the two are one
pub same_thing : (w : Records) (x y : Thing) (t : List ℕ) → x ≡ y → IsTenantOf w x t → IsTenantOf w y t
same_thing w x y t e = subst (λ z. IsTenantOf w z t) e

pub of_host_group_put : (w : Records) (n u : List ℕ) (hs : List (List ℕ)) (a b c d : Tenants) → Adds (λ t. t ≡ u) a b → Adds (IsHostGroupOf w.config.mapping n) b c → Adds (IsOfSomeHost w hs) c d → Adds (IsOfStep w (host_group_put n u hs)) a d
of_host_group_put w n u hs a b c d gives named hosts = adds_as (λ t. ((t ≡ u) ⊎ IsHostGroupOf w.config.mapping n t) ⊎ IsOfSomeHost w hs t) (IsOfStep w (host_group_put n u hs)) a d
    (λ t s. elim s [
      | inl p ↦ elim p [ inl e ↦ inl e | inr g ↦ inr (host_group n, inl refl, g) ]
      | inr h ↦ inr (holder kind.Host h.0, inr (h.0, h.1, refl), h.2)
    ])
    (λ t s. elim s [
      | inl e ↦ inl (inl e)
      | inr x ↦ elim x.1 [
        | inl e ↦ inl (inr (same_thing w x.0 (host_group n) t e x.2))
        | inr h ↦ inr (h.0, h.1, same_thing w x.0 (holder kind.Host h.0) t h.2 x.2)
      ]
    ])
    (both_added (λ t. (t ≡ u) ⊎ IsHostGroupOf w.config.mapping n t) (IsOfSomeHost w hs) a c d (both_added (λ t. t ≡ u) (IsHostGroupOf w.config.mapping n) a b c gives named) hosts)

pub of_host_group_alone : (w : Records) (n : List ℕ) (a b : Tenants) → Adds (IsHostGroupOf w.config.mapping n) a b → Adds (IsOfStep w (host_group_drop n)) a b
of_host_group_alone w n a b = adds_as (IsHostGroupOf w.config.mapping n) (IsOfStep w (host_group_drop n)) a b
    (λ t g. inr (host_group n, refl, g))
    (λ t s. elim s [ inl none ↦ absurd none | inr x ↦ same_thing w x.0 (host_group n) t x.1 x.2 ])

pub of_group_new : (w : Records) (n u r : List ℕ) (a b c : Tenants) → Adds (λ t. t ≡ u) a b → Adds (IsGroupOf w.config.mapping n) b c → Adds (IsOfStep w (group_new n u r)) a c
of_group_new w n u r a b c gives named = adds_as (λ t. (t ≡ u) ⊎ IsGroupOf w.config.mapping n t) (IsOfStep w (group_new n u r)) a c
    (λ t s. elim s [ inl e ↦ inl e | inr g ↦ inr (storage_group n, refl, g) ])
    (λ t s. elim s [ inl e ↦ inl e | inr x ↦ inr (same_thing w x.0 (storage_group n) t x.1 x.2) ])
    (both_added (λ t. t ≡ u) (IsGroupOf w.config.mapping n) a b c gives named)

pub of_group_alone : (w : Records) (n : List ℕ) (a b : Tenants) → Adds (IsGroupOf w.config.mapping n) a b → Adds (IsOfStep w (group_drop n)) a b
of_group_alone w n a b = adds_as (IsGroupOf w.config.mapping n) (IsOfStep w (group_drop n)) a b
    (λ t g. inr (storage_group n, refl, g))
    (λ t s. elim s [ inl none ↦ absurd none | inr x ↦ same_thing w x.0 (storage_group n) t x.1 x.2 ])

pub of_group_host : (w : Records) (n k : List ℕ) (a b c : Tenants) → Adds (IsGroupOf w.config.mapping n) a b → Adds (IsHostGroupOf w.config.mapping k) b c → Adds (IsOfStep w (group_host n k)) a c
of_group_host w n k a b c group hosts = adds_as (λ t. IsGroupOf w.config.mapping n t ⊎ IsHostGroupOf w.config.mapping k t) (IsOfStep w (group_host n k)) a c
    (λ t s. elim s [ inl g ↦ inr (storage_group n, inl refl, g) | inr h ↦ inr (host_group k, inr refl, h) ])
    (λ t s. elim s [
      | inl none ↦ absurd none
      | inr x ↦ elim x.1 [ inl e ↦ inl (same_thing w x.0 (storage_group n) t e x.2) | inr e ↦ inr (same_thing w x.0 (host_group k) t e x.2) ]
    ])
    (both_added (IsGroupOf w.config.mapping n) (IsHostGroupOf w.config.mapping k) a b c group hosts)

pub of_group_map : (w : Records) (n v : List ℕ) (u : ℕ) (a b c : Tenants) → Adds (IsGroupOf w.config.mapping n) a b → Adds (IsVolumeOf w.inventory v) b c → Adds (IsOfStep w (group_map n u v)) a c
of_group_map w n v u a b c group named = adds_as (λ t. IsGroupOf w.config.mapping n t ⊎ IsVolumeOf w.inventory v t) (IsOfStep w (group_map n u v)) a c
    (λ t s. elim s [ inl g ↦ inr (storage_group n, inl refl, g) | inr x ↦ inr (volume v, inr refl, x) ])
    (λ t s. elim s [
      | inl none ↦ absurd none
      | inr x ↦ elim x.1 [ inl e ↦ inl (same_thing w x.0 (storage_group n) t e x.2) | inr e ↦ inr (same_thing w x.0 (volume v) t e x.2) ]
    ])
    (both_added (IsGroupOf w.config.mapping n) (IsVolumeOf w.inventory v) a b c group named)

-- a step of zoning gives and names nothing that has a tenant
no_tenant : {A : Type 0} (w : Records) (action : ZoningAction A) (t : List ℕ) → ¬ IsOfStep w (zoning_step action) t
no_tenant w (zoning.AliasPut f n ms) t s = elim s [ inl none ↦ none | inr x ↦ x.1 ]
no_tenant w (zoning.AliasDrop f n) t s = elim s [ inl none ↦ none | inr x ↦ x.1 ]
no_tenant w (zoning.ZonePut f n ms) t s = elim s [ inl none ↦ none | inr x ↦ x.1 ]
no_tenant w (zoning.ZoneDrop f n) t s = elim s [ inl none ↦ none | inr x ↦ x.1 ]
no_tenant w (zoning.SetPut f n zs) t s = elim s [ inl none ↦ none | inr x ↦ x.1 ]
no_tenant w (zoning.SetDrop f n) t s = elim s [ inl none ↦ none | inr x ↦ x.1 ]
no_tenant w (zoning.Activate f n) t s = elim s [ inl none ↦ none | inr x ↦ x.1 ]
no_tenant w (zoning.Deactivate f) t s = elim s [ inl none ↦ none | inr x ↦ x.1 ]
no_tenant w (zoning.Default f d) t s = elim s [ inl none ↦ none | inr x ↦ x.1 ]

pub of_zoning : {A : Type 0} (w : Records) (action : ZoningAction A) (s : PlanStep) (a : Tenants) → zoning_step action ≡ s → Adds (IsOfStep w s) a a
of_zoning w action s a is = subst (λ x. Adds (IsOfStep w x) a a) is (adds_none (IsOfStep w (zoning_step action)) a (no_tenant w action))

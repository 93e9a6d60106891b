-- A step has one outcome.
use Rattle.std.proofs.Common.{◌≡◌, ℕ, List, [], Option, None, Some, Bool, true, false, refl, sym, ap, ◌∙◌}
use Rattle.std.specs.declared.cmp.Ordering.{Ordering}
use Rattle.std.specs.FinMap as map
use Rattle.std.specs.FinSet as set
use Rattle.fab_reach_base.proofs.fab_names.OrderLaws.{name_total, name_exact}
use Rattle.fab_reach_base.specs.fab_names.Orders.{name_cmp}
use Rattle.fab_reach_base.specs.fab_names.declared.fabric.Fabric.{Fabric}
use Rattle.fab_reach_base.specs.fab_names.declared.member.Member.{Member}
use Rattle.fab_reach_base.specs.fab_names.declared.member.Member.TheVariants as member
use Rattle.fab_reach_base.specs.fab_lemmas.Firsts.{IsFirstWithout}
use Rattle.fab_reach_base.specs.fab_lemmas.MapsOfSets.{MapOfSets, IsFirstUser}
use Rattle.fab_reach_base.specs.fab_inventory.Inventories.{InventoryRows, IsHost}
use Rattle.fab_reach_base.specs.fab_zoning.Resolved.{AreResolved}
use Rattle.fab_reach_base.specs.fab_zoning_rows.Rows.{Rows}
use Rattle.fab_reach_base.specs.fab_zoning.Steps.{HasAlias, HasZone}
use Rattle.fab_reach_base.specs.fab_zoning.Zonings.{FabricZoning}
use Rattle.fab_reach_base.proofs.fab_zoning_rows.RowSets.{row_total, row_exact}
use Rattle.fab_reach_base.specs.fab_mapping_base.Groups.{StorageGroupRows, with_hosts, without_hosts, with_target, without_target, with_unit, without_unit, exposed_as}
use Rattle.fab_reach_base.specs.fab_mapping.Mappings.{MappingRows, ChangesGroup, IsLeastServing}
use Rattle.fab_reach_base.specs.Records.{ConfigRows, zoning_at}
use Rattle.fab_plans_text.specs.fab_plans_base.Steps.{PlanStep, alias_put, alias_drop, zone_put, zone_drop, set_put, set_drop, activate, deactivate, default_zone, host_group_put, host_group_drop, group_new, group_drop, group_host, group_unhost, group_target, group_untarget, group_map, group_unmap, group_expose, group_hide}
use Rattle.fab_plans.specs.Checks.{Check, own_name, other_names, right_array, free_unit, no_user, room, IsFirstRefusal}
use Rattle.fab_plans.specs.MappingSteps.{MappingFails, MappingMakes}
use Rattle.fab_plans.specs.Steps.{fabric_of, with_zoning, with_mapping, FailsIn, DoneIn, StepDone, StepRefused}
use Rattle.fab_plans.specs.ZoningSteps.{ZoningFails, ZoningMakes}
use Rattle.fab_plans.specs.declared.fault.Item.TheVariants as item
use Rattle.fab_plans.specs.declared.fault.Refusal.{Refusal}
use Rattle.fab_plans.specs.declared.fault.Refusal.TheVariants as refusal
use Rattle.fab_plans.proofs.Facts.{one_value}
use Rattle.fab_plans.proofs.OneFirst.{same_first, one_without, one_first}

-- ---- zoning
-- the first user is one
one_user : {K : Type 0} {R : K → K → Ordering} (m : MapOfSets name_cmp R) (x : K) (a b : List ℕ) → IsFirstUser m x a → IsFirstUser m x b → a ≡ b
one_user m x a b h k = same_first name_total name_exact a b (h.first b k.uses) (k.first a h.uses)

-- the name of an alias
alias_name : Member → List ℕ
alias_name (member.Alias a) = a
alias_name (member.Port w) = []
alias_name (member.Node w) = []
alias_name (member.Place p) = []
alias_name (member.Address n) = []

one_alias : (z : FabricZoning) (ms : List Member) (a b : List ℕ) → IsFirstWithout (HasAlias z) ms (member.Alias a) → IsFirstWithout (HasAlias z) ms (member.Alias b) → a ≡ b
unfolding alias_name
one_alias z ms a b h k = ap alias_name (one_without (HasAlias z) ms (member.Alias a) (member.Alias b) h k)

one_zoning_failure : (z : FabricZoning) (s : PlanStep) (k : Check) (r q : Refusal) → ZoningFails z s k r → ZoningFails z s k q → r ≡ q
one_zoning_failure z (alias_put f n ms) room r q h k = h.0 ∙ sym k.0
one_zoning_failure z (alias_drop f n) own_name r q h k = h.0 ∙ sym k.0
one_zoning_failure z (alias_drop f n) no_user r q h k = h.1.0 ∙ ap (refusal.InUse n) (one_user z.zones (member.Alias n) h.0 k.0 h.1.1 k.1.1) ∙ sym k.1.0
one_zoning_failure z (zone_put f n ms) other_names r q h k = h.1.0 ∙ ap (λ a. refusal.Unknown (item.Name a)) (one_alias z ms h.0 k.0 h.1.1 k.1.1) ∙ sym k.1.0
one_zoning_failure z (zone_put f n ms) room r q h k = h.0 ∙ sym k.0
one_zoning_failure z (zone_drop f n) own_name r q h k = h.0 ∙ sym k.0
one_zoning_failure z (zone_drop f n) no_user r q h k = h.1.0 ∙ ap (refusal.InUse n) (one_user z.sets n h.0 k.0 h.1.1 k.1.1) ∙ sym k.1.0
one_zoning_failure z (set_put f n zs) other_names r q h k = h.1.0 ∙ ap (λ a. refusal.Unknown (item.Name a)) (one_without (HasZone z) zs h.0 k.0 h.1.1 k.1.1) ∙ sym k.1.0
one_zoning_failure z (set_put f n zs) room r q h k = h.0 ∙ sym k.0
one_zoning_failure z (set_drop f n) own_name r q h k = h.0 ∙ sym k.0
one_zoning_failure z (activate f n) own_name r q h k = h.0 ∙ sym k.0
one_zoning_failure z (activate f n) room r q h k = h.0 ∙ sym k.0
one_zoning_failure z _ _ r q h k = absurd h

-- all rows of a set are one set of rows
same_test : (a b : Bool) → (a ≡ true → b ≡ true) → (b ≡ true → a ≡ true) → a ≡ b
same_test true b f g = sym (f refl)
same_test false true f g = g refl
same_test false false f g = refl

one_rows : (z : FabricZoning) (s : List ℕ) (a b : Rows) → AreResolved z s a → AreResolved z s b → a ≡ b
one_rows z s a b h k = set.same_set row_total row_exact a b (λ r. same_test (set.contains a r) (set.contains b r) (λ t. (k r).1 ((h r).0 t)) (λ t. (h r).1 ((k r).0 t)))

one_zoning : (s : PlanStep) (z a b : FabricZoning) → ZoningMakes s z a → ZoningMakes s z b → a ≡ b
one_zoning (alias_put f n ms) z a b h k = h ∙ sym k
one_zoning (alias_drop f n) z a b h k = h ∙ sym k
one_zoning (zone_put f n ms) z a b h k = h ∙ sym k
one_zoning (zone_drop f n) z a b h k = h ∙ sym k
one_zoning (set_put f n zs) z a b h k = h ∙ sym k
one_zoning (set_drop f n) z a b h k = h ∙ sym k
one_zoning (activate f n) z a b h k = h.1 ∙ ap (λ rows. record z { active = Some n; rows = rows }) (one_rows z n a.rows b.rows h.0 k.0) ∙ sym k.1
one_zoning (deactivate f) z a b h k = h ∙ sym k
one_zoning (default_zone f d) z a b h k = h ∙ sym k
one_zoning _ z a b h k = absurd h

-- ---- mapping
one_serving : (m : MappingRows) (n a b : List ℕ) → IsLeastServing (map.get m.groups) n a → IsLeastServing (map.get m.groups) n b → a ≡ b
one_serving m n a b h k = same_first name_total name_exact a b (h.1 b k.0) (k.1 a h.0)

one_mapping_failure : (v : InventoryRows) (m : MappingRows) (s : PlanStep) (k : Check) (r q : Refusal) → MappingFails v m s k r → MappingFails v m s k q → r ≡ q
one_mapping_failure v m (host_group_put n t hs) other_names r q h k = h.1.0 ∙ ap (λ a. refusal.Unknown (item.Name a)) (one_without (IsHost v.holders) hs h.0 k.0 h.1.1 k.1.1) ∙ sym k.1.0
one_mapping_failure v m (host_group_put n t hs) room r q h k = h.0 ∙ sym k.0
one_mapping_failure v m (host_group_drop n) own_name r q h k = h.0 ∙ sym k.0
one_mapping_failure v m (host_group_drop n) no_user r q h k = h.1.0 ∙ ap (refusal.InUse n) (one_serving m n h.0 k.0 h.1.1 k.1.1) ∙ sym k.1.0
one_mapping_failure v m (group_new n t array) own_name r q h k = h.0 ∙ sym k.0
one_mapping_failure v m (group_new n t array) other_names r q h k = h.0 ∙ sym k.0
one_mapping_failure v m (group_new n t array) room r q h k = h.0 ∙ sym k.0
one_mapping_failure v m (group_drop n) own_name r q h k = h.0 ∙ sym k.0
one_mapping_failure v m (group_host n x) own_name r q h k = h.0 ∙ sym k.0
one_mapping_failure v m (group_host n x) other_names r q h k = h.0 ∙ sym k.0
one_mapping_failure v m (group_host n x) room r q h k = h.0 ∙ sym k.0
one_mapping_failure v m (group_unhost n x) own_name r q h k = h.0 ∙ sym k.0
one_mapping_failure v m (group_unhost n x) other_names r q h k = h.0 ∙ sym k.0
one_mapping_failure v m (group_target n w) own_name r q h k = h.0 ∙ sym k.0
one_mapping_failure v m (group_target n w) other_names r q h k = h.0 ∙ sym k.0
one_mapping_failure v m (group_target n w) right_array r q h k = h.0 ∙ sym k.0
one_mapping_failure v m (group_target n w) room r q h k = h.0 ∙ sym k.0
one_mapping_failure v m (group_untarget n w) own_name r q h k = h.0 ∙ sym k.0
one_mapping_failure v m (group_untarget n w) other_names r q h k = h.0 ∙ sym k.0
one_mapping_failure v m (group_map n u x) own_name r q h k = h.0 ∙ sym k.0
one_mapping_failure v m (group_map n u x) other_names r q h k = h.0 ∙ sym k.0
one_mapping_failure v m (group_map n u x) right_array r q h k = h.0 ∙ sym k.0
one_mapping_failure v m (group_map n u x) free_unit r q h k = h.0 ∙ sym k.0
one_mapping_failure v m (group_map n u x) room r q h k = h.0 ∙ sym k.0
one_mapping_failure v m (group_unmap n u) own_name r q h k = h.0 ∙ sym k.0
one_mapping_failure v m (group_unmap n u) other_names r q h k = h.0 ∙ sym k.0
one_mapping_failure v m (group_expose n) own_name r q h k = h.0 ∙ sym k.0
one_mapping_failure v m (group_hide n) own_name r q h k = h.0 ∙ sym k.0
one_mapping_failure v m _ _ r q h k = absurd h

one_change : (n : List ℕ) (change : StorageGroupRows → StorageGroupRows) (m a b : MappingRows) → ChangesGroup n change m a → ChangesGroup n change m b → a ≡ b
one_change n change m a b h k = h.after ∙ ap (λ g. record m { groups = map.insert m.groups n (change g) }) (one_value h.there k.there) ∙ sym k.after

one_mapping : (s : PlanStep) (m a b : MappingRows) → MappingMakes s m a → MappingMakes s m b → a ≡ b
one_mapping (host_group_put n t hs) m a b h k = h ∙ sym k
one_mapping (host_group_drop n) m a b h k = h ∙ sym k
one_mapping (group_new n t array) m a b h k = h ∙ sym k
one_mapping (group_drop n) m a b h k = h ∙ sym k
one_mapping (group_host n x) m a b h k = one_change n (with_hosts x) m a b h k
one_mapping (group_unhost n x) m a b h k = one_change n (without_hosts x) m a b h k
one_mapping (group_target n w) m a b h k = one_change n (with_target w) m a b h k
one_mapping (group_untarget n w) m a b h k = one_change n (without_target w) m a b h k
one_mapping (group_map n u x) m a b h k = one_change n (with_unit u x) m a b h k
one_mapping (group_unmap n u) m a b h k = one_change n (without_unit u) m a b h k
one_mapping (group_expose n) m a b h k = one_change n (exposed_as true) m a b h k
one_mapping (group_hide n) m a b h k = one_change n (exposed_as false) m a b h k
one_mapping _ m a b h k = absurd h

-- ---- configurations
module _ (v : InventoryRows) (s : PlanStep) (c : ConfigRows) where
  done_in : (o : Option Fabric) (a b : ConfigRows) → DoneIn o v s c a → DoneIn o v s c b → a ≡ b
  done_in (Some f) a b h k = h.2 ∙ ap (λ y. with_zoning f y c) (one_zoning s (zoning_at c f) h.0 k.0 h.1.makes k.1.makes) ∙ sym k.2
  done_in None a b h k = h.2 ∙ ap (λ y. with_mapping y c) (one_mapping s c.mapping h.0 k.0 h.1.makes k.1.makes) ∙ sym k.2

  failed_in : (o : Option Fabric) (k : Check) (r q : Refusal) → FailsIn o v c s k r → FailsIn o v c s k q → r ≡ q
  failed_in (Some f) = one_zoning_failure (zoning_at c f) s
  failed_in None = one_mapping_failure v c.mapping s

  apart_in : (o : Option Fabric) (a : ConfigRows) (r : Refusal) → DoneIn o v s c a → IsFirstRefusal (FailsIn o v c s) r → ⊥
  apart_in (Some f) a r h k = h.1.passes k.check r k.here
  apart_in None a r h k = h.1.passes k.check r k.here

  -- what a step makes is one
  pub one_step : (a b : ConfigRows) → StepDone v s c a → StepDone v s c b → a ≡ b
  one_step = done_in (fabric_of s)

  -- what refuses it first is one
  pub one_refusal : (r q : Refusal) → StepRefused v c s r → StepRefused v c s q → r ≡ q
  one_refusal = one_first (FailsIn (fabric_of s) v c s) (failed_in (fabric_of s))

  -- what is done is not refused
  pub done_or_refused : (a : ConfigRows) (r : Refusal) → StepDone v s c a → StepRefused v c s r → ⊥
  done_or_refused = apart_in (fabric_of s)

-- One part of a storage group becomes another.
use Rattle.std.proofs.Common.{ℕ, ◌≡◌, List, Bool, Some, cond, sym, ap, ◌∙◌, refl, true, false}
use Rattle.std.specs.Cmp.{nat_cmp_total, Equal-is}
use Rattle.std.specs.Ordering.{nat_cmp, eq_by_cmp}
use Rattle.std.specs.FinMap as map
use Rattle.std.specs.FinSet as set
use Rattle.fab_mapping_base.specs.Groups.{StorageGroupRows, Names, Ports, Units, with_hosts, without_hosts, with_target, without_target, with_unit, without_unit}

-- a host group is put in
pub hosts_put : (v w : StorageGroupRows) (s : Names) (k : List ℕ) → v ≡ w → s ≡ set.insert v.host_groups k → ◌≡◌ {A = StorageGroupRows} (record v { host_groups = s }) (with_hosts k w)
hosts_put v w s k is made = ap (λ (x : Names). record v { host_groups = x }) made ∙ ap (with_hosts k) is

-- a host group is taken out
pub hosts_gone : (v w : StorageGroupRows) (s : Names) (k : List ℕ) → v ≡ w → s ≡ set.remove v.host_groups k → ◌≡◌ {A = StorageGroupRows} (record v { host_groups = s }) (without_hosts k w)
hosts_gone v w s k is made = ap (λ (x : Names). record v { host_groups = x }) made ∙ ap (without_hosts k) is

-- a target is put in
pub target_put : (v w : StorageGroupRows) (s : Ports) (k : ℕ) → v ≡ w → s ≡ set.insert v.targets k → ◌≡◌ {A = StorageGroupRows} (record v { targets = s }) (with_target k w)
target_put v w s k is made = ap (λ (x : Ports). record v { targets = x }) made ∙ ap (with_target k) is

-- a target is taken out
pub target_gone : (v w : StorageGroupRows) (s : Ports) (k : ℕ) → v ≡ w → s ≡ set.remove v.targets k → ◌≡◌ {A = StorageGroupRows} (record v { targets = s }) (without_target k w)
target_gone v w s k is made = ap (λ (x : Ports). record v { targets = x }) made ∙ ap (without_target k) is

-- a volume is put at a unit
pub unit_put : (v w : StorageGroupRows) (m : Units) (k : ℕ) (volume : List ℕ) → v ≡ w → m ≡ map.insert v.units k volume → ◌≡◌ {A = StorageGroupRows} (record v { units = m }) (with_unit k volume w)
unit_put v w m k volume is made = ap (λ (x : Units). record v { units = x }) made ∙ ap (with_unit k volume) is

-- a unit is emptied
pub unit_gone : (v w : StorageGroupRows) (m : Units) (k : ℕ) → v ≡ w → m ≡ map.remove v.units k → ◌≡◌ {A = StorageGroupRows} (record v { units = m }) (without_unit k w)
unit_gone v w m k is made = ap (λ (x : Units). record v { units = x }) made ∙ ap (without_unit k) is

-- the volume that is there, put again, changes nothing
pub unit_again : (g : StorageGroupRows) (k : ℕ) (volume : List ℕ) → map.get g.units k ≡ Some volume → g ≡ with_unit k volume g
unit_again g k volume at = λ i. record g { units = same i }
  where
    by : (q : ℕ) (b : Bool) → eq_by_cmp nat_cmp q k ≡ b → map.get g.units q ≡ cond b (Some volume) (map.get g.units q)
    by q true e = ap (map.get g.units) (set.nat_cmp-IsAntisymmetric q k ((Equal-is (nat_cmp q k)).0 e)) ∙ at
    by q false e = refl

    -- the units stay
    same : g.units ≡ map.insert g.units k volume
    same = map.same_map nat_cmp_total set.nat_cmp-IsAntisymmetric _ _ (λ q. by q (eq_by_cmp nat_cmp q k) refl ∙ sym (map.get-insert nat_cmp_total g.units k volume q))

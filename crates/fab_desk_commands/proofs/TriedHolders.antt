-- What a command on a host or an array that is tried makes, and what refuses it.
use Rattle.std.proofs.Common.{ℕ, ◌≡◌, ◌≤◌, List, length, Option, None, Some, MatchOption, is_some, false, refl, sym, ap, ◌∙◌, arith}
use mathlib.Core.Bool.{true≢false}
use Rattle.std.specs.declared.vec.Vec.{Vec}
use Rattle.std.specs.FinMap as map
use Rattle.std.specs.Option.{option_map}
use Rattle.fab_reach_base.specs.fab_inventory.Holders.{HasNoVolume, AreKnown, AreFree, IsLeast, IsUnknownIn, IsHeldIn}
use Rattle.fab_reach_base.specs.fab_inventory.Inventories as inventories
use Rattle.fab_reach_base.specs.fab_inventory.Inventories.{InventoryRows, HolderRows, kind_of, CanPutHolder, PutHolderFails, IsHolderPut, DropHolderFails, IsHolderDropped}
use Rattle.fab_reach_base.specs.fab_inventory.Limits.{most_ports_of_holder}
use Rattle.fab_reach_base.specs.fab_inventory.declared.fault.InventoryFault.{InventoryFault}
use Rattle.fab_reach_base.specs.fab_inventory.declared.fault.InventoryFault.TheVariants.{UnknownPort, PortHeld, Unknown, WrongKind, InUse, Limit, Memory}
use Rattle.fab_reach_base.specs.fab_inventory.declared.fault.InventoryLimit.TheVariants.{Holders, PortsOfHolder}
use Rattle.fab_reach_base.specs.fab_inventory.declared.holder.Holder.{Holder}
use Rattle.fab_reach_base.specs.fab_inventory.declared.holder.HolderKind.{HolderKind}
use Rattle.fab_reach_base.specs.fab_inventory.declared.holder.HolderKind.TheVariants as kind
use Rattle.fab_reach_base.specs.fab_mapping_base.Groups.{HoldsHost, IsOfArray, HasTarget}
use Rattle.fab_reach_base.specs.fab_mapping.Mappings.{MappingRows}
use Rattle.fab_reach_base.specs.fab_mapping.Soundness.{Fits}
use Rattle.fab_world.specs.fab_plans.declared.fault.Item.TheVariants as item
use Rattle.fab_world.specs.Worlds.{WorldRows}
use Rattle.fab_desk_base.specs.Effects.{counted, with_inventory}
use Rattle.fab_desk_base.specs.Refusals.{own_name, others, free_ports, no_user, no_volume, room, IsFirstFault}
use Rattle.fab_desk_base.specs.Trying.{IsMade, IsTryFault}
use Rattle.fab_desk_base.specs.Users.{IsHolderUser, LeavesGroup}
use Rattle.fab_desk_base.specs.declared.command.Command.TheVariants.{PutHolder, DropHolder}
use Rattle.fab_desk_base.specs.declared.fault.DeskFault.{DeskFault}
use Rattle.fab_desk_base.specs.declared.fault.DeskFault.TheVariants as fault
use Rattle.fab_desk_commands.specs.Answered.{answered}
use Rattle.fab_desk_commands.specs.Keeping.{IsKeptTarget, IsUsedBy}
use Rattle.fab_desk_commands.proofs.Checks.{holder_put_passes, holder_dropped_passes}
use Rattle.fab_desk_commands.proofs.NoUser.{no_first}
use Rattle.fab_desk_base.proofs.KeptHosts.{no_least}
use Rattle.fab_desk_commands.proofs.StillFits.{UsesHolder, fits_holder_put, fits_holder_dropped}

-- ---- holders that are put

-- the inventory after a put of a holder
pub record HolderPutTried (k : HolderKind) (n t : List ℕ) (listed : List ℕ) (old new : InventoryRows) : Type 0 where
  pub can : CanPutHolder old n k listed
  pub put : IsHolderPut n (record { kind = k; tenant = t }) listed old new
  pub sound : inventories.IsSound new

module _ (v : InventoryRows) (n listed : List ℕ) where
  all_known : AreKnown (map.get v.ports) listed → (q : ℕ) → ¬ IsLeast (IsUnknownIn (map.get v.ports) listed) q
  all_known known q h = true≢false (sym (known q h.0.0) ∙ ap is_some h.0.1)

  all_free : AreFree (map.get v.ports) n listed → (q : ℕ) → ¬ IsLeast (IsHeldIn (map.get v.ports) n listed) q
  all_free free q h = h.0.1.1.1 (free q h.0.1.0 h.0.0 h.0.1.1.0)

  -- who is not there holds no port
  holds_none : inventories.IsSound v → map.contains_key v.holders n ≡ false → (m : MappingRows) (k : HolderKind) (e : ℕ × List ℕ) → ¬ IsKeptTarget v m k n listed e
  holds_none sound absent m kind.Host e h = h
  holds_none sound absent m kind.Array e h = true≢false (sym (sound.holdings e.0 n h.0.0.0.0) ∙ absent)

  -- where no target is the least that leaves, none leaves
  none_leaves : (m : MappingRows) (k : HolderKind) → ((e : ℕ × List ℕ) → ¬ IsKeptTarget v m k n listed e) → k ≡ kind.Array → (q : ℕ) → ¬ LeavesGroup v m n listed q
  none_leaves m kind.Host none is q = absurd cc
  none_leaves m kind.Array none is q = no_least (LeavesGroup v m n listed) (λ q least. no_first m.groups (HasTarget q) (λ g first. none (q, g) (least, first)) least.0.1.0 least.0.1.1) q

-- the target that keeps a holder from having just the listed ports, or that there is none
abbrev pub FindsKept : HolderKind → List ℕ → List ℕ → InventoryRows → MappingRows → Option (ℕ × List ℕ) → Type 0
FindsKept k n listed v m o = MatchOption o ((e : ℕ × List ℕ) → ¬ IsKeptTarget v m k n listed e) (IsKeptTarget v m k n listed)

pub holder_put_fits : (w : WorldRows) (k : HolderKind) (n t listed : List ℕ) (v : InventoryRows) → HolderPutTried k n t listed w.inventory v → ((e : ℕ × List ℕ) → ¬ IsKeptTarget w.inventory w.config.mapping k n listed e) → Fits w.inventory w.config.mapping → Fits v w.config.mapping
holder_put_fits w k n t listed v tried none = fits_holder_put n (record { kind = k; tenant = t }) listed w.inventory v tried.can.kind tried.can.free tried.put w.config.mapping (none_leaves w.inventory n listed w.config.mapping k none)

module _ {A : Type 0} (w : WorldRows) (caller : List ℕ) (k : HolderKind) (n t : List ℕ) (ports : Vec ℕ A) where
  pub holder_put_made : (v : InventoryRows) → HolderPutTried k n t ports.items w.inventory v → ((e : ℕ × List ℕ) → ¬ IsKeptTarget w.inventory w.config.mapping k n ports.items e) → IsMade w caller (PutHolder k n t ports) (counted (with_inventory v w))
  holder_put_made v tried none = record {
    passes = holder_put_passes A w caller 12 (omega arith) k n t ports (λ lt o. o.2 (tried.can.kind o.0 o.1)) (λ lt. all_known w.inventory n ports.items tried.can.known) (λ lt. all_free w.inventory n ports.items tried.can.free) (λ lt. none)
        (λ lt full. let few = tried.can.room full.0 in let many = full.1 in omega (arith, few, many));
    makes = (v, tried.put, refl);
  }

  pub holder_put_refused : inventories.IsSound w.inventory → length ports.items ≤ most_ports_of_holder → (e : InventoryFault) → PutHolderFails w.inventory n k ports.items e → IsTryFault w caller (PutHolder k n t ports) (answered e)
  holder_put_refused sound few (Limit PortsOfHolder) h = absurd (omega (arith, few, h))
  holder_put_refused sound few (WrongKind m) h = record {
    check = own_name;
    here = (ap fault.Exists h.1, h.2);
    before = holder_put_passes A w caller 1 (omega arith) k n t ports (λ lt. absurd (omega (arith, lt))) (λ lt. absurd (omega (arith, lt))) (λ lt. absurd (omega (arith, lt))) (λ lt. absurd (omega (arith, lt))) (λ lt. absurd (omega (arith, lt)));
  }
  holder_put_refused sound few (UnknownPort q) h = record {
    check = others;
    here = (q, (refl, h.2));
    before = holder_put_passes A w caller 3 (omega arith) k n t ports (λ lt o. o.2 (h.1 o.0 o.1)) (λ lt. absurd (omega (arith, lt))) (λ lt. absurd (omega (arith, lt))) (λ lt. absurd (omega (arith, lt))) (λ lt. absurd (omega (arith, lt)));
  }
  holder_put_refused sound few (PortHeld q by) h = record {
    check = free_ports;
    here = (q, by, (refl, (h.2.1, h.2.2)));
    before = holder_put_passes A w caller 4 (omega arith) k n t ports (λ lt o. o.2 (h.1 o.0 o.1)) (λ lt. all_known w.inventory n ports.items h.2.0) (λ lt. absurd (omega (arith, lt))) (λ lt. absurd (omega (arith, lt))) (λ lt. absurd (omega (arith, lt)));
  }
  holder_put_refused sound few (Limit Holders) h = record {
    check = room;
    here = (refl, (h.4, h.5));
    before = holder_put_passes A w caller 11 (omega arith) k n t ports (λ lt o. o.2 (h.1 o.0 o.1)) (λ lt. all_known w.inventory n ports.items h.2) (λ lt. all_free w.inventory n ports.items h.3) (λ lt. holds_none w.inventory n ports.items sound h.4 w.config.mapping k)
        (λ lt. absurd (omega (arith, lt)));
  }
  holder_put_refused sound few Memory h = tt
  holder_put_refused sound few _ h = absurd h

-- a target that would leave an array
pub holder_put_kept : {A : Type 0} (w : WorldRows) (caller : List ℕ) (k : HolderKind) (n t : List ℕ) (ports : Vec ℕ A) → CanPutHolder w.inventory n k ports.items → (e : ℕ × List ℕ) → IsKeptTarget w.inventory w.config.mapping k n ports.items e → IsFirstFault w caller (PutHolder k n t ports) (fault.InUse (item.Port e.0) e.1)
holder_put_kept w caller kind.Host n t ports can e is = absurd is
holder_put_kept {A = A} w caller kind.Array n t ports can e is = record {
  check = no_user;
  here = (e.0, e.1, (refl, is));
  before = holder_put_passes A w caller 5 (omega arith) kind.Array n t ports (λ lt o. o.2 (can.kind o.0 o.1)) (λ lt. all_known w.inventory n ports.items can.known) (λ lt. all_free w.inventory n ports.items can.free) (λ lt. absurd (omega (arith, lt))) (λ lt. absurd (omega (arith, lt)));
}

-- ---- holders that are dropped

-- where no group is the first user of the holder, none uses it
none_uses : (m : MappingRows) (k : HolderKind) (n : List ℕ) → ((g : List ℕ) → ¬ IsHolderUser m k n g) → ¬ UsesHolder m k n
none_uses m kind.Host n none u = no_first m.host_groups (HoldsHost n) none u.0 u.1
none_uses m kind.Array n none u = no_first m.groups (IsOfArray n) none u.0 u.1

-- the inventory after a drop of a holder
pub record HolderDropTried (n : List ℕ) (old new : InventoryRows) : Type 0 where
  pub bare : HasNoVolume (map.get old.volumes) n
  pub dropped : IsHolderDropped n old new
  pub sound : inventories.IsSound new

pub holder_dropped_fits : (w : WorldRows) (k : HolderKind) (n : List ℕ) (v : InventoryRows) → kind_of w.inventory.holders n ≡ Some k → HolderDropTried n w.inventory v → ((g : List ℕ) → ¬ IsHolderUser w.config.mapping k n g) → Fits w.inventory w.config.mapping → Fits v w.config.mapping
holder_dropped_fits w k n v is tried none = fits_holder_dropped n k w.config.mapping w.inventory v is (none_uses w.config.mapping k n none) tried.dropped

-- a holder of a kind is there
is_there : (holders : HolderRows) (n : List ℕ) (k : HolderKind) → kind_of holders n ≡ Some k → ¬ (map.contains_key holders n ≡ false)
is_there holders n k is absent = by (map.get holders n) is absent
  where
    by : (o : Option Holder) → option_map (λ (h : Holder). h.kind) o ≡ Some k → ¬ (is_some o ≡ false)
    by None is absent = absurd cc
    by (Some h) is absent = true≢false absent

module _ (A : Type 0) (w : WorldRows) (caller : List ℕ) (k : HolderKind) (n : List ℕ) where
  pub holder_dropped_used : (r : DeskFault) → IsUsedBy w.config.mapping k n r → IsTryFault {A = A} w caller (DropHolder k n) r
  holder_dropped_used (fault.InUse (item.Name a) user) h = record {
    check = no_user;
    here = (user, (ap (λ b. fault.InUse (item.Name b) user) h.0, h.1));
    before = holder_dropped_passes A w caller 5 (omega arith) k n (λ lt. absurd (omega (arith, lt))) (λ lt. absurd (omega (arith, lt)));
  }
  holder_dropped_used _ h = absurd h

  pub holder_dropped_made : (v : InventoryRows) → HolderDropTried n w.inventory v → ((g : List ℕ) → ¬ IsHolderUser w.config.mapping k n g) → IsMade {A = A} w caller (DropHolder k n) (counted (with_inventory v w))
  holder_dropped_made v tried none = record { passes = holder_dropped_passes A w caller 12 (omega arith) k n (λ lt. none) (λ lt x least. tried.bare x least.0); makes = (v, tried.dropped, refl) }

  pub holder_dropped_refused : kind_of w.inventory.holders n ≡ Some k → ((g : List ℕ) → ¬ IsHolderUser w.config.mapping k n g) → (e : InventoryFault) → DropHolderFails w.inventory n e → IsTryFault {A = A} w caller (DropHolder k n) (answered e)
  holder_dropped_refused is none (Unknown m) h = absurd (is_there w.inventory.holders n k is h.1)
  holder_dropped_refused is none (InUse m x) h = record {
    check = no_volume;
    here = (x, (ap (λ a. fault.InUse (item.Name a) x) h.0, h.2));
    before = holder_dropped_passes A w caller 6 (omega arith) k n (λ lt. none) (λ lt. absurd (omega (arith, lt)));
  }
  holder_dropped_refused is none _ h = absurd h

-- What becomes of ports.
use Rattle.std.proofs.Common.{◌≡◌, ℕ, List, [], Some, None, Option, is_some, cond, true, sym, ap, ◌∙◌, subst}
use mathlib.Core.Bool.{true≢false}
use Rattle.std.proofs.lemmas.Option.{none-some, same_Some}
use Rattle.std.specs.Option.{option_map}
use Rattle.std.specs.BTreeMap.{is_at}
use Rattle.std.specs.BTreeSet.{BTreeSet, contains}
use Rattle.std.specs.Cmp.{nat_cmp_total}
use Rattle.std.specs.FinMap as map
use Rattle.std.specs.FinSet as set
use Rattle.std.specs.Ordering.{nat_cmp}
use Rattle.fab_inventory.specs.Inventories.{InventoryRows}
use Rattle.fab_inventory.specs.Ports.{KnownPorts, port_at, port_of}
use Rattle.fab_inventory.specs.declared.port.Known.{Known}
use Rattle.fab_inventory.specs.declared.port.Port.{Port}
use Rattle.fab_inventory.specs.declared.port.PortRow.{PortRow}
use Rattle.fab_looks_tries.specs.Inner.Gathered.{HasPort, IsMoveAt, IsMoveOfSome}
use Rattle.fab_looks_tries.specs.Ports.{AreNewPorts, HasMove, IsListed, IsMoveOf}
use Rattle.fab_looks_tries.specs.declared.ports.PortMove.{PortMove}
use Rattle.fab_looks_tries.specs.declared.ports.PortMove.TheVariants as kind
use Rattle.fab_reach_base.specs.Adding.{Adds}
use Rattle.fab_reach_base.proofs.Adding.{adds_as, adds_none, from_none}
use Rattle.fab_reach_base.proofs.Sets.{adds_insert, none_in}

-- a port was inserted
abbrev pub InsertsPort : BTreeSet ℕ → BTreeSet ℕ → ℕ → Type 0
InsertsPort s t n = (q : ℕ) → contains nat_cmp t q ≡ cond (is_at (nat_cmp n) q) true (contains nat_cmp s q)

pub port_added : (s t : BTreeSet ℕ) (n : ℕ) → InsertsPort s t n → Adds (λ y. y ≡ n) (HasPort s) (HasPort t)
port_added = adds_insert nat_cmp_total set.nat_cmp-IsAntisymmetric

-- the port of a record
pub row_added : (r : PortRow) (s t : BTreeSet ℕ) → InsertsPort s t r.name → Adds (λ n. r.name ≡ n) (HasPort s) (HasPort t)
row_added r s t u = adds_as (λ y. y ≡ r.name) (λ n. r.name ≡ n) (HasPort s) (HasPort t) (λ y e. sym e) (λ y e. sym e) (port_added s t r.name u)

module _ (k : PortMove) (w : InventoryRows) where
  -- a port of which this becomes
  pub move_added : (after : Port) (s t : BTreeSet ℕ) → IsMoveOf k (port_at w.ports after.name) after → InsertsPort s t after.name → Adds (IsMoveAt k w after) (HasPort s) (HasPort t)
  move_added after s t move u = adds_as (λ y. y ≡ after.name) (IsMoveAt k w after) (HasPort s) (HasPort t) (λ y e. (move, e)) (λ y m. m.1) (port_added s t after.name u)

  -- and one of which it does not
  pub move_skipped : (after : Port) (s : BTreeSet ℕ) → (IsMoveOf k (port_at w.ports after.name) after → ⊥) → Adds (IsMoveAt k w after) (HasPort s) (HasPort s)
  move_skipped after s none = adds_none (IsMoveAt k w after) (HasPort s) (λ y m. none m.0)

-- a known port has its name
named_in : (n : ℕ) (o : Option Known) (p : Port) → option_map (port_of n) o ≡ Some p → p.name ≡ n
named_in n None p e = absurd (none-some p e)
named_in n (Some x) p e = sym (ap (λ (y : Port). y.name) (same_Some (port_of n x) p e))

pub named : (ports : KnownPorts) (n : ℕ) (p : Port) → port_at ports n ≡ Some p → p.name ≡ n
named ports n p e = named_in n (map.get ports n) p e

-- what became something is not so before
differs : (k : PortMove) (o : Option Port) (after : Port) → IsMoveOf k o after → o ≡ Some after → ⊥
differs kind.New None after m e = none-some after e
differs kind.New (Some before) after m e = absurd m
differs kind.Moved None after m e = absurd m
differs kind.Moved (Some before) after m e = m.1 (ap (λ (p : Port). p.at) (same_Some before after e))
differs kind.LoggedOut None after m e = absurd m
differs kind.LoggedOut (Some before) after m e = true≢false (sym m.0 ∙ ap is_some (ap (λ (p : Port). p.at) (same_Some before after e) ∙ m.1))

-- the ports that differ, of which this becomes, are all of which it does
pub moves_are : (k : PortMove) (w v : InventoryRows) (ports : List Port) (s t : BTreeSet ℕ) → s.keys ≡ [] → AreNewPorts w v ports → Adds (IsMoveOfSome k w ports) (HasPort s) (HasPort t)
    → (n : ℕ) → (HasPort t n → HasMove k w v n) × (HasMove k w v n → HasPort t n)
moves_are k w v ports s t none list a n =
    let d = from_none (IsMoveOfSome k w ports) (HasPort s) (HasPort t) (none_in nat_cmp_total set.nat_cmp-IsAntisymmetric s none) a n in (
      (λ h.
          let m = d.0 h in
          let is : m.0.name ≡ n = sym m.2.1 in
          (m.0, subst (λ i. port_at v.ports i ≡ Some m.0) is (list.sound m.0 m.1).there, subst (λ i. IsMoveOf k (port_at w.ports i) m.0) is m.2.0)),
      λ h.
          let is : h.0.name ≡ n = named v.ports n h.0 h.1 in
          let move : IsMoveOf k (port_at w.ports h.0.name) h.0 = subst (λ i. IsMoveOf k (port_at w.ports i) h.0) (sym is) h.2 in
          d.1 (h.0, list.complete h.0 (record { there = subst (λ i. port_at v.ports i ≡ Some h.0) (sym is) h.1; not_there = λ e. differs k (port_at w.ports h.0.name) h.0 move e }), (move, sym is)),
    )

-- the records' ports
pub listed_are : (rows : List PortRow) (s t : BTreeSet ℕ) → s.keys ≡ [] → Adds (IsListed rows) (HasPort s) (HasPort t) → (n : ℕ) → (HasPort t n → IsListed rows n) × (IsListed rows n → HasPort t n)
listed_are rows s t none a n = from_none (IsListed rows) (HasPort s) (HasPort t) (none_in nat_cmp_total set.nat_cmp-IsAntisymmetric s none) a n

-- A command makes one inventory of another at most.
use Rattle.std.proofs.Common.{ℕ, ◌≡◌, ◌≢◌, ◌⊎◌, inl, inr, List, [], ◌∷◌, suc, zero, Contains, refl, sym, ap, ◌∙◌, subst, arith}
use Rattle.std.specs.Cmp.{nat_cmp_total}
use Rattle.std.specs.FinMap as map
use Rattle.std.specs.FinSet as set
use Rattle.std.proofs.lemmas.Bool.Decides.{eqb_tells}
use Rattle.fab_reach_base.specs.fab_names.declared.fabric.Fabric.{Fabric}
use Rattle.fab_reach_base.specs.fab_inventory.declared.holder.Holder.{Holder}
use Rattle.fab_reach_base.specs.fab_inventory.declared.port.PortRow.{PortRow}
use Rattle.fab_reach_base.specs.fab_inventory.Imports.{IsImported, IsUnlisted}
use Rattle.fab_reach_base.specs.fab_inventory.Inventories.{InventoryRows, IsHolderPut, IsHolderDropped}
use Rattle.fab_reach_base.specs.fab_inventory.Ports.{KnownPorts}

-- some record is of the port
abbrev IsRecorded : List PortRow → ℕ → Type 0
IsRecorded rows q = (r : PortRow) × Contains rows r × (r.name ≡ q)

-- one record more
more_recorded : (s : PortRow) (rows : List PortRow) (q : ℕ) → IsRecorded rows q → IsRecorded (s ∷ rows) q
more_recorded s rows q (r, (k, below, at), name) = (r, (suc k, omega (arith, below), at), name)

more_unlisted : (s : PortRow) (rows : List PortRow) (q : ℕ) → s.name ≢ q → IsUnlisted rows q → IsUnlisted (s ∷ rows) q
more_unlisted s rows q apart none r (zero, below, at) e = apart (ap (λ (x : PortRow). x.name) at ∙ e)
more_unlisted s rows q apart none r (suc k, below, at) e = none r (k, omega (arith, below), at) e

recorded_or_unlisted : (rows : List PortRow) (q : ℕ) → IsRecorded rows q ⊎ IsUnlisted rows q
recorded_or_unlisted [] q = inr (λ r listed e. omega (arith, listed.1))
recorded_or_unlisted (s ∷ rows) q = elim (eqb_tells s.name q) [
  | inl e ↦ inl (s, (0, omega arith, refl), e.1)
  | inr e ↦ elim (recorded_or_unlisted rows q) [ inl h ↦ inl (more_recorded s rows q h) | inr none ↦ inr (more_unlisted s rows q e.1 none) ]
]

-- two of the same ports
same_ports : (a b : KnownPorts) → ((q : ℕ) → map.get a q ≡ map.get b q) → a ≡ b
same_ports a b alike = map.same_map nat_cmp_total set.nat_cmp-IsAntisymmetric a b alike

pub one_import : (f : Fabric) (rows : List PortRow) (old a b : KnownPorts) → IsImported f rows old a → IsImported f rows old b → a ≡ b
one_import f rows old a b h k = same_ports a b (λ q. elim (recorded_or_unlisted rows q) [
  | inl r ↦ subst (λ n. map.get a n ≡ map.get b n) r.2 (h.listed r.0 r.1 ∙ sym (k.listed r.0 r.1))
  | inr none ↦ h.others q none ∙ sym (k.others q none)
])

pub one_put : (name : List ℕ) (holder : Holder) (listed : List ℕ) (old a b : InventoryRows) → IsHolderPut name holder listed old a → IsHolderPut name holder listed old b → a ≡ b
one_put name holder listed old a b h k =
    let ports = same_ports a.ports b.ports (λ q. h.ports q ∙ sym (k.ports q)) in
    let holders = h.holders ∙ sym k.holders in
    let volumes = h.volumes ∙ sym k.volumes in
    λ i. record { ports = ports i; holders = holders i; volumes = volumes i }

pub one_drop : (name : List ℕ) (old a b : InventoryRows) → IsHolderDropped name old a → IsHolderDropped name old b → a ≡ b
one_drop name old a b h k =
    let ports = same_ports a.ports b.ports (λ q. h.ports q ∙ sym (k.ports q)) in
    let holders = h.holders ∙ sym k.holders in
    let volumes = h.volumes ∙ sym k.volumes in
    λ i. record { ports = ports i; holders = holders i; volumes = volumes i }

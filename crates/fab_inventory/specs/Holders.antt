-- Who holds which ports, and which volumes are on an array.
use Rattle.std.specs.Prelude.{ℕ, ◌≡◌, ◌≢◌, ◌≤◌, List, Contains, Option, None, Some, Bool, is_some, true, false, nat_eq, min, ◌&&◌, not, if◌then◌else◌}
use Rattle.std.specs.List.{list_any}
use Rattle.std.specs.Option.{option_and_then}
use Rattle.std.specs.Ordering.{is_gt}
use Rattle.std.specs.Cmp.Lexicographic.{pointwise}
use Rattle.fab_names.specs.Orders.{name_cmp}
use Rattle.fab_inventory.specs.declared.port.Known.{Known}
use Rattle.fab_inventory.specs.declared.holder.Volume.{Volume}
use Rattle.fab_inventory.specs.declared.fault.InventoryFault.{InventoryFault}
use Rattle.fab_inventory.specs.declared.fault.InventoryFault.TheVariants.{UnknownPort, PortHeld}

-- what is known of each port
abbrev pub PortLookUp : Type 0
PortLookUp = ℕ → Option Known

-- who holds the port
abbrev pub holder_in : PortLookUp → ℕ → Option (List ℕ)
holder_in ports q = option_and_then (λ (k : Known). k.holder) (ports q)

-- whether two names are one
abbrev pub same_name : List ℕ → List ℕ → Bool
same_name a b = pointwise nat_eq a b

-- the holder, where it is another one than this
abbrev pub other_than : List ℕ → Option (List ℕ) → Option (List ℕ)
other_than name None = None
other_than name (Some h) = if same_name h name then None else Some h

-- who holds the port, where it is another holder than this
abbrev pub other_holder_in : PortLookUp → List ℕ → ℕ → Option (List ℕ)
other_holder_in ports name q = other_than name (holder_in ports q)

-- who holds a port once the holder has just the listed ports: that holder, where the port is
-- listed, and else the one that held it, if that is another
abbrev pub holder_after : List ℕ → List ℕ → ℕ → Option (List ℕ) → Option (List ℕ)
holder_after name listed q old = if list_any (λ p. nat_eq p q) listed then Some name else other_than name old

-- what is known of a port once the holder has just the listed ports
abbrev pub held_after : List ℕ → List ℕ → ℕ → Known → Known
held_after name listed q k = record { node = k.node; at = k.at; address = k.address; holder = holder_after name listed q k.holder }

-- the number has the property, and no number below it has
abbrev pub IsLeast : (ℕ → Type 0) → ℕ → Type 0
IsLeast P n = P n × ((q : ℕ) → P q → n ≤ q)

-- the lesser of two numbers, or the one that there is
abbrev pub min_of : Option ℕ → ℕ → ℕ
min_of None n = n
min_of (Some m) n = min m n

-- each listed port is known
abbrev pub AreKnown : PortLookUp → List ℕ → Type 0
AreKnown ports listed = (q : ℕ) → Contains listed q → is_some (ports q) ≡ true

-- no listed port is held by another holder
abbrev pub AreFree : PortLookUp → List ℕ → List ℕ → Type 0
AreFree ports name listed = (q : ℕ) (h : List ℕ) → Contains listed q → holder_in ports q ≡ Some h → h ≡ name

-- the port is listed and is not known
abbrev pub IsUnknownIn : PortLookUp → List ℕ → ℕ → Type 0
IsUnknownIn ports listed q = Contains listed q × (ports q ≡ None)

-- another holder, h, holds the port
abbrev pub IsHeldByOther : PortLookUp → List ℕ → ℕ → List ℕ → Type 0
IsHeldByOther ports name q h = (holder_in ports q ≡ Some h) × (h ≢ name)

-- the port is listed, and another holder holds it
abbrev pub IsHeldIn : PortLookUp → List ℕ → List ℕ → ℕ → Type 0
IsHeldIn ports name listed q = Contains listed q × ((h : List ℕ) × IsHeldByOther ports name q h)

-- why the holder cannot have the listed ports: the least that is not known, or else the least that
-- another holder holds
abbrev pub IsPortFault : PortLookUp → List ℕ → List ℕ → InventoryFault → Type 0
IsPortFault ports name listed (UnknownPort q) = IsLeast (IsUnknownIn ports listed) q
IsPortFault ports name listed (PortHeld q h) = AreKnown ports listed × IsLeast (IsHeldIn ports name listed) q × IsHeldByOther ports name q h
IsPortFault ports name listed _ = ⊥

-- the volumes by name
abbrev pub VolumeLookUp : Type 0
VolumeLookUp = List ℕ → Option Volume

-- the volume of this name is on the array
abbrev pub IsOn : VolumeLookUp → List ℕ → List ℕ → Type 0
IsOn volumes array n = (v : Volume) × (volumes n ≡ Some v) × (v.array ≡ array)

-- no volume is on the array
abbrev pub HasNoVolume : VolumeLookUp → List ℕ → Type 0
HasNoVolume volumes array = (n : List ℕ) → ¬ IsOn volumes array n

-- the volume is on the array, and none before it by name is
abbrev pub IsLeastVolume : VolumeLookUp → List ℕ → List ℕ → Type 0
IsLeastVolume volumes array n = IsOn volumes array n × ((m : List ℕ) → IsOn volumes array m → is_gt (name_cmp n m) ≡ false)

-- ---- the ports of a holder

-- the holder holds the port
abbrev pub Holds : PortLookUp → List ℕ → ℕ → Type 0
Holds ports h q = holder_in ports q ≡ Some h

-- the holder holds the port, and it is not listed: nobody would hold it once the holder had just
-- the listed ports
abbrev pub Leaves : PortLookUp → List ℕ → List ℕ → ℕ → Type 0
Leaves ports h listed q = Holds ports h q × ¬ Contains listed q

-- whether there is a holder, and it is this one
abbrev pub holder_is : List ℕ → Option (List ℕ) → Bool
holder_is name None = false
holder_is name (Some h) = same_name h name

-- whether the holder holds a port of which this is known, and it is not listed
abbrev pub is_leaving : List ℕ → List ℕ → ℕ → Known → Bool
is_leaving h listed q k = holder_is h k.holder && not (list_any (λ p. nat_eq p q) listed)

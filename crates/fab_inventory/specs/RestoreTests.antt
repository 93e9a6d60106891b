-- The tests of a restore's loops: what they tell of one port, of one volume, and of a count.
use Rattle.std.specs.Prelude.{ℕ, ◌≡◌, ◌≤◌, ◌<◌, ◌+◌, List, Option, None, Some, Bool, true, false, is_some, ◌&&◌, nat_le, cond}
use Rattle.std.specs.Option.{option_map}
use Rattle.fab_inventory.specs.declared.port.Known.{Known}
use Rattle.fab_inventory.specs.declared.port.Seat.{Seat}
use Rattle.fab_inventory.specs.declared.holder.Holder.{Holder}
use Rattle.fab_inventory.specs.declared.holder.Volume.{Volume}
use Rattle.fab_inventory.specs.declared.holder.HolderKind.{HolderKind}
use Rattle.fab_inventory.specs.declared.holder.HolderKind.TheVariants.{Host, Array}
use Rattle.fab_inventory.specs.Limits.{most_bytes, most_ports_of_holder}
use Rattle.fab_inventory.specs.Holders.{holder_is}

-- there is a seat, and the port is logged in
abbrev pub is_seated : Option Seat → Bool
is_seated None = false
is_seated (Some s) = is_some s.at

-- whether a holder, if there is one, passes
abbrev pub passes : (List ℕ → Bool) → Option (List ℕ) → Bool
passes test None = true
passes test (Some h) = test h

-- its holder, if it has one, is there
abbrev pub has_known_holder : (List ℕ → Option Holder) → Known → Bool
has_known_holder holders k = passes (λ h. is_some (holders h)) k.holder

-- it is there, and is an array
abbrev pub is_array_kind : Option HolderKind → Bool
is_array_kind None = false
is_array_kind (Some Host) = false
is_array_kind (Some Array) = true

-- its array is there, and its capacity is one
abbrev pub is_placed : (List ℕ → Option Holder) → Volume → Bool
is_placed holders v = is_array_kind (option_map (λ (h : Holder). h.kind) (holders v.array)) && (nat_le 1 v.bytes && nat_le v.bytes most_bytes)

-- how many are counted
abbrev pub count_of : Option ℕ → ℕ
count_of None = 0
count_of (Some n) = n

-- the port of which this is known is counted with its holder
abbrev pub CountsPort : Known → (List ℕ → Option ℕ) → (List ℕ → Option ℕ) → Type 0
CountsPort k old new = (h : List ℕ) → count_of (new h) ≡ cond (holder_is h k.holder) (count_of (old h) + 1) (count_of (old h))

-- its holder has few ports so far
abbrev pub HasFew : Known → (List ℕ → Option ℕ) → Type 0
HasFew k counts = (h : List ℕ) → holder_is h k.holder ≡ true → count_of (counts h) < most_ports_of_holder

-- its holder has as many as it may have
abbrev pub HasMost : Known → (List ℕ → Option ℕ) → Type 0
HasMost k counts = (h : List ℕ) × (holder_is h k.holder ≡ true) × (most_ports_of_holder ≤ count_of (counts h))

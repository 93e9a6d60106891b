-- The first of the seats so far, and the first end of those who have them.
use Rattle.std.specs.Prelude.{ℕ, ◌≡◌, Bool, Option, Some, None, min}
use Rattle.std.specs.declared.cmp.Ordering.{Ordering}
use Rattle.std.specs.declared.cmp.Ordering.TheVariants.{Less}
use Rattle.fab_wire_gathering.specs.Seats.{ends_at}
use Rattle.fab_wire_gathering.specs.declared.guest.Guest.{Guest}

-- one more: it takes the place of the first so far where it has less
abbrev pub earlier_of : {K : Type 0} → ℕ × K → ℕ → K → Ordering → Option (ℕ × K)
earlier_of first place has Less = Some (place, has)
earlier_of first place has other = Some first

abbrev pub earlier : {K : Type 0} → (K → K → Ordering) → Option (ℕ × K) → ℕ → Option K → Option (ℕ × K)
earlier R first place None = first
earlier R None place (Some has) = Some (place, has)
earlier R (Some first) place (Some has) = earlier_of first place has (R has first.1)

-- the sooner of an end and that of the one in a seat
abbrev pub IsSooner : Bool → Option Guest → ℕ → ℕ → Type 0
IsSooner crowded None first end = end ≡ first
IsSooner crowded (Some guest) first end = end ≡ min first (ends_at crowded guest)

-- The order of times.
use Rattle.std.specs.declared.cmp.Ordering.{Ordering}
use Rattle.std.specs.declared.time.Instant.{Instant}
use Rattle.std.specs.contracts.time.InstantOrd.TheImpl.{ghosts}

abbrev pub order : Instant → Instant → Ordering
order = ghosts.cmp

-- What clauses see of a reader or a writer that counts its failures.
use Rattle.std.specs.Prelude.{ℕ}
use Rattle.fab_wire_streams.specs.declared.counted.Counted.{Counted}

-- the reader or writer itself
abbrev pub inner_of : {T : Type 0} → Counted T → T
inner_of counted = counted.inner

-- how many of its reads and writes have failed
abbrev pub failures_of : {T : Type 0} → Counted T → ℕ
failures_of counted = counted.failures

-- What taking a body comes to.
use Rattle.std.specs.Prelude.{ℕ, ◌≡◌, ◌<◌, ◌≤◌, List, ◌++◌, Option, IfSome, length, take}
use Rattle.std.specs.Io.KnownBytes.{Consumes}
use Rattle.fab_wire_streams.specs.Failures.{one_more}
use Rattle.fab_wire_base.specs.declared.bodies.Body.{Body}
use Rattle.fab_wire_base.specs.declared.bodies.Body.TheVariants.{Whole, Short, ReadFailed, Memory}
use Rattle.fab_wire_base.specs.declared.bodies.Filled.{Filled}
use Rattle.fab_wire_base.specs.declared.bodies.Filled.TheVariants as filled

-- the first bytes of those at hand and those of the input behind them, or there are too few, or a read or memory failed
abbrev pub TakesBody : {A : Type 0} → Option (List ℕ) → List ℕ → ℕ → Body A → Type 0
TakesBody old have size (Whole body) = IfSome old (λ more. (size ≤ length (have ++ more)) × (body.items ≡ take size (have ++ more)))
TakesBody old have size Short = IfSome old (λ more. length (have ++ more) < size)
TakesBody old have size ReadFailed = Unit {0}
TakesBody old have size Memory = Unit {0}

-- the count of failures, which only a failed read raises
abbrev pub failures_after_body : {A : Type 0} → Body A → ℕ → ℕ
failures_after_body (Whole body) before = before
failures_after_body Short before = before
failures_after_body ReadFailed before = one_more before
failures_after_body Memory before = before

-- the buffer has the next bytes of the input, or the input had fewer, or a read failed
abbrev pub Fills : Option (List ℕ) → Option (List ℕ) → List ℕ → Filled → Type 0
Fills old new buf filled.Whole = Consumes old new buf
Fills old new buf filled.Short = IfSome old (λ input. length input < length buf)
Fills old new buf filled.Failed = Unit {0}

-- the same count
abbrev pub failures_after_fill : Filled → ℕ → ℕ
failures_after_fill filled.Whole before = before
failures_after_fill filled.Short before = before
failures_after_fill filled.Failed before = one_more before

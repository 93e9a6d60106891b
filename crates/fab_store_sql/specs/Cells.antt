-- Values on their way into a table.
use Rattle.sqlite_value.specs.declared.value.Value.{Value}
use Rattle.sqlite_value.specs.declared.value.ValueRef.{ValueRef}
use Rattle.sqlite_value.specs.Value.{owned}
use Rattle.sqlite.specs.Values.{bound_value}

-- what a parameter gives
abbrev pub value_of : ValueRef → Value
value_of v = bound_value (owned v)

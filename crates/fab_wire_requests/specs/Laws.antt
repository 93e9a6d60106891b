-- Laws of what requests mean.
use Rattle.std.specs.Prelude.{ℕ, ◌≡◌, List}
use Rattle.fab_wire_base.specs.declared.kinds.Kind.{Kind}
use Rattle.fab_wire_requests.specs.Meanings.{Meaning, Means}

-- a kind, a target and a body mean one thing at most
abbrev pub MeansOne : Type 0
MeansOne = (k : Kind) (target body : List ℕ) (m n : Meaning) → Means k target body m → Means k target body n → m ≡ n

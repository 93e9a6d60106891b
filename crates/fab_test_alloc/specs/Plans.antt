use Rattle.std.specs.Prelude.{◌≡◌, ◌≤◌, ℕ}
use Rattle.fab_test_alloc.specs.declared.plan.Plan.{Plan}
use Rattle.fab_test_alloc.specs.declared.plan.Plan.TheVariants.{PassAll, RefuseAfter, Refused, RefuseAllAfter, RefusesAll}

-- the plan refuses the request that comes after this many others
abbrev pub RefusesAfter : Plan → ℕ → Type 0
RefusesAfter PassAll n = ⊥
RefusesAfter (RefuseAfter requests) n = n ≡ requests
RefusesAfter Refused n = ⊥
RefusesAfter (RefuseAllAfter requests) n = requests ≤ n
RefusesAfter RefusesAll n = Unit {0}

-- the plan tells that a request was refused
abbrev pub HasRefused : Plan → Type 0
HasRefused PassAll = ⊥
HasRefused (RefuseAfter requests) = ⊥
HasRefused Refused = Unit {0}
HasRefused (RefuseAllAfter requests) = ⊥
HasRefused RefusesAll = Unit {0}

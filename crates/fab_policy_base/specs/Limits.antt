-- How much a policy may hold.
use Rattle.std.specs.Prelude.{ℕ}

abbrev pub most_callers : ℕ
most_callers = 256

abbrev pub most_windows : ℕ
most_windows = 64

abbrev pub most_rules : ℕ
most_rules = 64

-- of a caller
abbrev pub most_roles : ℕ
most_roles = 16

abbrev pub most_tenants : ℕ
most_tenants = 64

-- how many minutes a week has
abbrev pub week_minutes : ℕ
week_minutes = 10080

-- of a window
abbrev pub most_weekly : ℕ
most_weekly = 64

abbrev pub most_freezes : ℕ
most_freezes = 256

-- that a rule may ask for
abbrev pub most_approvals : ℕ
most_approvals = 16

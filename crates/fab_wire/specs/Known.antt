-- Whose tokens are known.
use Rattle.std.specs.Prelude.{ℕ, Bool, false, ◌||◌, List, [], ◌∷◌}
use Rattle.fab_policy_base.specs.Callers.{is_same}
use Rattle.fab_policy_base.specs.Policies.{CallerRow, PolicyRows}

-- whether one of these has the token
abbrev pub has_one : List CallerRow → List ℕ → Bool
has_one [] token = false
has_one (c ∷ cs) token = is_same c.token token || has_one cs token

-- whether a caller of the policy has the token
abbrev pub is_known : PolicyRows → List ℕ → Bool
is_known p token = has_one p.callers token

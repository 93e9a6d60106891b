-- The callers of a policy.
use Rattle.std.specs.Prelude.{◌≡◌, ℕ, Bool, true, false, nat_eq, List, Some, None, IsSomeAnd, slice_get}
use Rattle.std.specs.List.{list_any}
use Rattle.std.specs.Option.{option_map_or}
use Rattle.std.specs.Cmp.Lexicographic.{pointwise}
use Rattle.fab_policy_base.specs.Policies.{TenantNames, CallerRow, PolicyRows}

-- whether two texts are the same
abbrev pub is_same : List ℕ → List ℕ → Bool
is_same = pointwise nat_eq

-- whether the name is among these
abbrev pub has_name : List (List ℕ) → List ℕ → Bool
has_name names name = list_any (λ y. is_same y name) names

-- whether the tenant is among these
abbrev pub is_among : TenantNames → List ℕ → Bool
is_among None tenant = true
is_among (Some names) tenant = has_name names tenant

-- whether the tenant is the caller's
abbrev pub has_tenant : CallerRow → List ℕ → Bool
has_tenant c tenant = is_among c.tenants tenant

-- whether these are a list that names the tenant: every tenant is no list
abbrev pub is_listed : TenantNames → List ℕ → Bool
is_listed None tenant = false
is_listed (Some names) tenant = has_name names tenant

-- whether the caller's list names the tenant
abbrev pub lists_tenant : CallerRow → List ℕ → Bool
lists_tenant c tenant = is_listed c.tenants tenant

-- the caller at that place has the token
abbrev pub HasToken : PolicyRows → List ℕ → ℕ → Type 0
HasToken p token id = IsSomeAnd (slice_get p.callers id) (λ c. c.token ≡ token)

-- and no other has
pub record IsOnlyWith (p : PolicyRows) (token : List ℕ) (id : ℕ) : Type 0 where
  pub has : HasToken p token id
  pub only : (other : ℕ) → HasToken p token other → other ≡ id

-- whether the tenant is that of the caller at that place
abbrev pub sees : PolicyRows → ℕ → List ℕ → Bool
sees p id tenant = option_map_or (λ c. has_tenant c tenant) (slice_get p.callers id) false

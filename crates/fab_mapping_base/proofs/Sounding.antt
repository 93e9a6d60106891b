-- The tests of soundness by numbers.
use Rattle.std.proofs.Common.{ℕ, ◌≡◌, ◌<◌, ◌≤◌, true, nat_le, nat_lt, arith}
use Rattle.std.specs.FinSet as set
use Rattle.fab_inventory.proofs.fab_lemmas.Tests.{within, from_within, from_below}
use Rattle.fab_mapping_base.specs.declared.limits.TheConstants.{MOST_HOSTS}
use Rattle.fab_mapping_base.specs.Groups.{HostGroupRows}
use Rattle.fab_mapping_base.specs.Soundness.{IsSoundHostGroup}

-- the size of a host group that has a host
pub sound_hosts : (g : HostGroupRows) (n : ℕ) → n ≡ set.len g.hosts → 0 < n → (nat_le n MOST_HOSTS ≡ true → IsSoundHostGroup g) × (IsSoundHostGroup g → nat_le n MOST_HOSTS ≡ true)
sound_hosts g n is some = (
  λ t. record { some_host = omega (arith, is, some); few_hosts = let few = from_within n MOST_HOSTS t in omega (arith, is, few) },
  λ s. within n MOST_HOSTS (omega (arith, is, s.few_hosts)),
)

-- the size of one that has none
pub no_hosts : (g : HostGroupRows) (n : ℕ) → n ≡ set.len g.hosts → n ≤ 0 → (nat_lt 0 n ≡ true → IsSoundHostGroup g) × (IsSoundHostGroup g → nat_lt 0 n ≡ true)
no_hosts g n is none = (λ t. absurd (let some = from_below 0 n t in omega (arith, none, some)), λ s. absurd (omega (arith, is, none, s.some_host)))

-- more than the most is no count within it
pub too_many : (n m most : ℕ) → n ≡ m → most < n → ¬ (m ≤ most)
too_many n m most same many few = omega (arith, same, many, few)

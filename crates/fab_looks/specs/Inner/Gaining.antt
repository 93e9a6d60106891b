-- How the hosts that reach a volume are gathered: what the private loops say of themselves. No public
-- contract names anything of this file.
use Rattle.std.specs.Prelude.{ℕ, ◌≡◌, ◌⊎◌, List, Some}
use Rattle.std.specs.BTreeMap.{BTreeMap, get}
use Rattle.fab_names.specs.Orders.{name_cmp}
use Rattle.fab_reach_base.specs.Records.{Records}
use Rattle.fab_looks.specs.Links.{IsReached}
use Rattle.fab_looks.specs.Reachers.{IsReacher}
use Rattle.fab_looks.specs.declared.reaching.Counts.{Counts}

-- those with P that reach the volume were added, and no others
pub record AddsReachers (P : List ℕ → Type 0) (w : Records) (volume : List ℕ) (old new : BTreeMap (List ℕ) Counts) : Type 0 where
  pub sound : (host : List ℕ) (n : Counts) → get name_cmp new host ≡ Some n → (get name_cmp old host ≡ Some n) ⊎ IsReacher w volume host n
  pub kept : (host : List ℕ) (n : Counts) → get name_cmp old host ≡ Some n → (o : Counts) × (get name_cmp new host ≡ Some o)
  pub there : (host : List ℕ) → P host → IsReached w host volume → (n : Counts) × (get name_cmp new host ≡ Some n)

-- this host
abbrev pub AddsHost : Records → List ℕ → List ℕ → BTreeMap (List ℕ) Counts → BTreeMap (List ℕ) Counts → Type 0
AddsHost w volume host = AddsReachers (λ h. h ≡ host) w volume

-- all hosts
abbrev pub AddsHosts : Records → List ℕ → BTreeMap (List ℕ) Counts → BTreeMap (List ℕ) Counts → Type 0
AddsHosts w volume = AddsReachers (λ _. Unit {0}) w volume

-- Who reaches a volume, as a caller is told.
use Rattle.std.specs.Prelude.{ℕ, ◌≡◌, List, Some}
use Rattle.std.specs.BTreeMap.{BTreeMap, get}
use Rattle.fab_reach_base.specs.fab_names.Orders.{name_cmp}
use Rattle.fab_policy.specs.fab_policy_base.Policies.{PolicyRows}
use Rattle.fab_world.specs.Worlds.{WorldRows, records_of}
use Rattle.fab_looks.specs.Links.{IsReached}
use Rattle.fab_looks.specs.Reachers.{IsReacher}
use Rattle.fab_looks.specs.declared.reaching.Counts.{Counts}
use Rattle.fab_looks.specs.Told.{SeesHost, SeesVolume}

-- just the caller's hosts that reach the volume, each with its counts; nobody, where the volume is not
-- the caller's
pub record AreTold (p : PolicyRows) (w : WorldRows) (id : ℕ) (volume : List ℕ) (m : BTreeMap (List ℕ) Counts) : Type 0 where
  pub volume_is_own : (host : List ℕ) (n : Counts) → get name_cmp m host ≡ Some n → SeesVolume p w id volume
  pub host_is_own : (host : List ℕ) (n : Counts) → get name_cmp m host ≡ Some n → SeesHost p w id host
  pub sound : (host : List ℕ) (n : Counts) → get name_cmp m host ≡ Some n → IsReacher (records_of w) volume host n
  pub complete : SeesVolume p w id volume → (host : List ℕ) → SeesHost p w id host → IsReached (records_of w) host volume → (n : Counts) × (get name_cmp m host ≡ Some n)

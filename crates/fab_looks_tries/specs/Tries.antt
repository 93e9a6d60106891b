-- What an import and the activation of a plan would do.
use Rattle.std.specs.Prelude.{ℕ, ◌≡◌, List, Some, slice_get}
use Rattle.std.specs.declared.vec.Vec.{Vec}
use Rattle.fab_desk_machine.specs.fab_desk_base.Acts.{IsJudged}
use Rattle.fab_desk_machine.specs.fab_desk_base.Answers.{Request}
use Rattle.fab_desk_machine.specs.fab_desk_base.Refusals.{IsEffect}
use Rattle.fab_desk_machine.specs.fab_desk_base.declared.command.Command.TheVariants as command
use Rattle.fab_desk_machine.specs.Proposals.{request_of}
use Rattle.fab_inventory.specs.declared.port.PortRow.{PortRow}
use Rattle.fab_looks_tries.specs.Hosts.{ArePathsMoved}
use Rattle.fab_looks_tries.specs.Ports.{ArePortsMoved, IsNumberListed}
use Rattle.fab_looks_tries.specs.declared.imports.TriedImport.{TriedImport}
use Rattle.fab_looks_tries.specs.declared.plans.TriedPlan.{TriedPlan}
use Rattle.fab_names.specs.declared.fabric.Fabric.{Fabric}
use Rattle.fab_policy.specs.declared.act.Verdict.TheVariants.{Allowed}
use Rattle.fab_policy_base.specs.Callers.{IsOnlyWith}
use Rattle.fab_policy_base.specs.Policies.{CallerRow, PolicyRows}
use Rattle.fab_store_rows.specs.Differences.{IsDifference}
use Rattle.fab_world.specs.Worlds.{WorldRows, records_of}

-- one caller has the token, the policy allows what is asked, nothing refuses it, and this is the world
-- that it makes; a dry run makes what the activation does
pub record WouldMake {A : Type 0} (p : PolicyRows) (w : WorldRows) (r : Request A) (v : WorldRows) : Type 0 where
  pub id : ℕ
  pub caller : CallerRow
  pub only : IsOnlyWith p r.token id
  pub there : slice_get p.callers id ≡ Some caller
  pub allowed : IsJudged p w id caller.name r.moment r.command Allowed
  pub effect : IsEffect w caller.name r.command v

-- the import would do this
pub record IsTriedImport {A : Type 0} (p : PolicyRows) (w : WorldRows) (token : List ℕ) (moment : ℕ) (f : Fabric) (rows : Vec PortRow A) (t : TriedImport A) : Type 0 where
  pub after : WorldRows
  pub makes : WouldMake {A = A} p w (request_of token moment (command.Import f rows)) after
  pub listed : IsNumberListed rows.items t.listed
  pub ports : ArePortsMoved w.inventory after.inventory t.ports
  pub paths : ArePathsMoved (records_of w) (records_of after) t.paths

-- the activation of the plan would do this; the caller may have the plan tried
pub record IsTriedPlan {A : Type 0} (p : PolicyRows) (w : WorldRows) (token : List ℕ) (moment : ℕ) (n : List ℕ) (t : TriedPlan A) : Type 0 where
  pub after : WorldRows
  pub makes : WouldMake {A = A} p w (request_of token moment (command.DryRun n)) after
  pub revision : t.revision ≡ w.revision
  pub rows : IsDifference w.config after.config t.rows.taken.items t.rows.added.items
  pub paths : ArePathsMoved (records_of w) (records_of after) t.paths

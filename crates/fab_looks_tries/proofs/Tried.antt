-- What is told of imports and plans.
use Rattle.std.proofs.Common.{◌≡◌, ℕ, List}
use Rattle.std.specs.declared.vec.Vec.{Vec}
use Rattle.fab_desk_machine.specs.fab_desk_base.Answers.{Request}
use Rattle.fab_desk_machine.specs.fab_desk_base.declared.command.Command.{Command}
use Rattle.fab_desk_machine.specs.fab_desk_base.declared.command.Command.TheVariants as command
use Rattle.fab_desk_machine.specs.Foreseen.{IsForeseen}
use Rattle.fab_desk_machine.specs.Proposals.{request_of}
use Rattle.fab_desk_machine.specs.fab_desk_trials.Trials.{EffectSuits, IsStepReady, effect_world}
use Rattle.fab_desk_machine.specs.fab_desk_trials.declared.steps.Prepared.{Prepared}
use Rattle.fab_inventory.specs.declared.port.PortRow.{PortRow}
use Rattle.fab_looks_tries.specs.Hosts.{ArePathsMoved}
use Rattle.fab_looks_tries.specs.Ports.{ArePortsMoved, IsNumberListed}
use Rattle.fab_looks_tries.specs.Tries.{IsTriedImport, IsTriedPlan, WouldMake}
use Rattle.fab_looks_tries.specs.declared.imports.TriedImport.{TriedImport}
use Rattle.fab_looks_tries.specs.declared.plans.TriedPlan.{TriedPlan}
use Rattle.fab_names.specs.declared.fabric.Fabric.{Fabric}
use Rattle.fab_policy_base.specs.Policies.{PolicyRows}
use Rattle.fab_reach_base.specs.Records.{Records}
use Rattle.fab_store_rows.specs.Differences.{IsDifference}
use Rattle.fab_world.specs.Worlds.{WorldRows, records_of}

module _ {A R : Type 0} (leads : R → Records → Records → Type 0) (p : PolicyRows) (w : WorldRows) where
  -- what is foreseen is what would be made
  pub would_make : (r : Request A) (t : Prepared A R) (f : IsForeseen leads p w r t) → WouldMake p w r (effect_world w f.caller.name r.command t.effect)
  would_make r t f = record { id = f.id; caller = f.caller; only = f.only; there = f.there; allowed = f.allowed; effect = f.prepared.effect.is }

  pub tried_import : (token : List ℕ) (moment : ℕ) (f : Fabric) (rows : Vec PortRow A) (t : Prepared A R) (told : TriedImport A) → IsForeseen leads p w (request_of token moment (command.Import f rows)) t → IsNumberListed rows.items told.listed
      → ((caller : List ℕ) (c : Command A) → EffectSuits w c t.effect → ArePortsMoved w.inventory (effect_world w caller c t.effect).inventory told.ports)
      → ((v : Records) → IsStepReady leads (records_of w) v t.step → ArePathsMoved (records_of w) v told.paths) → IsTriedImport p w token moment f rows told
  tried_import token moment f rows t told seen listed ports paths =
      let c = command.Import f rows in
      let v = effect_world w seen.caller.name c t.effect in record {
        after = v;
        makes = would_make (request_of token moment c) t seen;
        listed = listed;
        ports = ports seen.caller.name c seen.prepared.effect.suits;
        paths = paths (records_of v) seen.prepared.step;
      }

  pub tried_plan : (token : List ℕ) (moment : ℕ) (n : List ℕ) (t : Prepared A R) (told : TriedPlan A) → IsForeseen leads p w (request_of token moment (command.DryRun n)) t → told.revision ≡ w.revision
      → ((caller : List ℕ) (c : Command A) → EffectSuits w c t.effect → IsDifference w.config (effect_world w caller c t.effect).config told.rows.taken.items told.rows.added.items)
      → ((v : Records) → IsStepReady leads (records_of w) v t.step → ArePathsMoved (records_of w) v told.paths) → IsTriedPlan p w token moment n told
  tried_plan token moment n t told seen revision rows paths =
      let c : Command A = command.DryRun n in
      let v = effect_world w seen.caller.name c t.effect in record {
        after = v;
        makes = would_make (request_of token moment c) t seen;
        revision = revision;
        rows = rows seen.caller.name c seen.prepared.effect.suits;
        paths = paths (records_of v) seen.prepared.step;
      }

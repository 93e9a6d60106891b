use Rattle.std.proofs.Common.{take}
use Rattle.fab_plans.specs.Outcomes.{AllDone}
use Rattle.fab_reach_base.specs.Soundness.{IsSoundBeside}
use Rattle.fab_plans.proofs.outcome.take_steps.Given as goal

abbrev pub invariant-loop-place : goal.invariant-loop-place
invariant-loop-place g l = record {
  done : AllDone l.inventory (take l.place l.steps) l.initial.config l.config;
  sound : IsSoundBeside l.inventory l.initial.config → IsSoundBeside l.inventory l.config;
}

-- What the staging of a plan makes of a world.
use Rattle.std.proofs.Common.{ℕ, ◌≡◌, ◌<◌, inl, inr, List, None, Some, Option, is_some, false, refl, sym, ap, ◌∙◌, subst, arith}
use mathlib.Core.Bool.{true≢false}
use Rattle.std.specs.FinMap as map
use Rattle.std.specs.declared.vec.Vec.{Vec}
use Rattle.fab_reach_base.specs.fab_lemmas.Room.{HasRoom, IsFull}
use Rattle.fab_reach_base.specs.fab_names.Orders.{name_cmp}
use Rattle.fab_reach_base.proofs.Same.{same_some}
use Rattle.fab_world.specs.fab_plans_base.Plans.{IsWithinLimits}
use Rattle.fab_world.specs.fab_plans_base.Steps.{PlanStep}
use Rattle.fab_world.specs.PlanRecords.{PlanRecord}
use Rattle.fab_world.specs.Soundness.{IsSoundPlan}
use Rattle.fab_world.specs.Worlds.{WorldRows}
use Rattle.fab_world.specs.declared.limits.TheConstants.{MOST_PLANS}
use Rattle.fab_desk_base.specs.Commands.{IsPlan}
use Rattle.fab_desk_base.specs.Effects.{staged_plan, with_plan}
use Rattle.fab_desk_base.specs.Refusals.{IsOtherPlan}
use Rattle.fab_desk_base.specs.Trying.{IsMade}
use Rattle.fab_desk_base.specs.declared.command.Command.TheVariants.{Stage}
use Rattle.fab_desk_commands.specs.Trials.{IsSoundAfter}
use Rattle.fab_desk_commands.proofs.PlanChecks.{stage_passes}
use Rattle.fab_desk_commands.proofs.PlanPut.{sound_put}
use Rattle.fab_desk_commands.proofs.SoundAfter.{sound_serves}
use Rattle.fab_desk_commands.proofs.Undos.{undo_at}

-- there is room, or there is none
not_both : (w : WorldRows) (n : List ℕ) → HasRoom w.plans n MOST_PLANS → ¬ IsFull w.plans n MOST_PLANS
not_both w n (inl there) full = true≢false (sym there ∙ full.0)
not_both w n (inr few) full = let less : map.len w.plans < MOST_PLANS = few in let many = full.1 in omega (arith, less, many)

module _ {A : Type 0} (w : WorldRows) (caller n : List ℕ) (steps : Vec PlanStep A) where
  -- ---- a plan is there

  module _ (p : PlanRecord) (is : IsPlan w n p) where
    pub same_made : p.author ≡ caller → p.steps ≡ steps.items → IsMade w caller (Stage n steps) w
    same_made author same = record {
      passes = stage_passes w caller n steps (λ h. h.1 (p, is, author, same)) (λ full. true≢false (sym (ap is_some is) ∙ full.0));
      makes = inl ((p, is, author, same), refl);
    }

    pub other_plan : ¬ ((p.author ≡ caller) × (p.steps ≡ steps.items)) → IsOtherPlan w caller n steps.items
    other_plan apart = ((p, is), λ h. let one : h.0 ≡ p = same_some h.1 is in apart (subst (λ (q : PlanRecord). (q.author ≡ caller) × (q.steps ≡ steps.items)) one (h.2, h.3)))

  -- ---- the name is free

  module _ (free : map.get w.plans n ≡ None) where
    pub no_other_plan : ¬ IsOtherPlan w caller n steps.items
    no_other_plan h = let e : ◌≡◌ {A = Option PlanRecord} None (Some h.0.0) = sym free ∙ h.0.1 in cc

    pub is_new : map.contains_key w.plans n ≡ false
    is_new = ap is_some free

    module _ (room : HasRoom w.plans n MOST_PLANS) where
      pub new_made : IsMade w caller (Stage n steps) (with_plan n (staged_plan caller steps.items) w)
      new_made = record { passes = stage_passes w caller n steps no_other_plan (not_both w n room); makes = inr (free, refl) }

      pub new_sound : IsWithinLimits steps.items → IsSoundAfter w (Stage n steps) (with_plan n (staged_plan caller steps.items) w)
      new_sound limits = record { serves = sound_serves w; sound = λ sound few counts. sound_put w n (staged_plan caller steps.items) sound plan (ap undo_at free) room }
        where
          plan : IsSoundPlan (staged_plan caller steps.items)
          plan = record { steps = limits; approvals = λ k revision at. let e : ◌≡◌ {A = Option ℕ} None (Some revision) = sym (map.get-empty name_cmp k) ∙ at in absurd cc }

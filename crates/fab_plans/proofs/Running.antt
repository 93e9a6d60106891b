-- Steps one after the other.
use Rattle.std.proofs.Common.{◌≡◌, ◌<◌, ◌+◌, ℕ, List, [], ◌∷◌, ◌++◌, length, take, get_or, Some, refl, sym, ap, ◌∙◌, subst, inl}
use Rattle.std.proofs.lemmas.List.{take_more}
use Rattle.std.proofs.lemmas.Option.{slice_get-get_or}
use Rattle.fab_reach_base.specs.fab_inventory.Inventories.{InventoryRows}
use Rattle.fab_reach_base.specs.Records.{ConfigRows}
use Rattle.fab_plans_text.specs.fab_plans_base.Steps.{PlanStep}
use Rattle.fab_plans.specs.Steps.{StepDone, FailsIn, fabric_of}
use Rattle.fab_plans.specs.Outcomes.{AllDone, IsTrialFault}
use Rattle.fab_plans.specs.Telling.{IsFaultOf, fault_at}
use Rattle.fab_plans.specs.declared.fault.StepFault.{StepFault}
use Rattle.fab_plans.specs.declared.fault.StepFault.TheVariants.{Refused, Memory}

module _ (v : InventoryRows) where
  -- one step more
  done_more : (ss : List PlanStep) (s : PlanStep) (c d e : ConfigRows) → AllDone v ss c d → StepDone v s d e → AllDone v (ss ++ s ∷ []) c e
  done_more [] s c d e same h = (e, subst (λ x. StepDone v s x e) same h, refl)
  done_more (t ∷ ss) s c d e all h = (all.0, all.1, done_more ss s all.0 d e all.2 h)

  module _ (steps : List PlanStep) (i : ℕ) (s : PlanStep) (below : i < length steps) (is : s ≡ get_or steps i s) where
    pub one_done : (c d e : ConfigRows) → AllDone v (take i steps) c d → StepDone v s d e → AllDone v (take (i + 1) steps) c e
    one_done c d e all h = subst (λ ss. AllDone v ss c e) (sym (take_more steps i s below ∙ ap (λ x. take i steps ++ x ∷ []) (sym is))) (done_more (take i steps) s c d e all h)

    pub one_failed : (c d : ConfigRows) (e : StepFault) → AllDone v (take i steps) c d → IsFaultOf (FailsIn (fabric_of s) v d s) e → IsTrialFault v steps c (fault_at i e)
    one_failed c d (Refused r) all h = inl (record {
      at = i;
      number_is = refl;
      step = s;
      is = slice_get-get_or steps i s below ∙ ap Some (sym is);
      before = d;
      done = all;
      refused = h;
    })
    one_failed c d Memory all h = tt

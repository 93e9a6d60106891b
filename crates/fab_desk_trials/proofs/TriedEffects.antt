-- What the trial of a command gives, said of the command.
use Rattle.std.proofs.Common.{ℕ, ◌≡◌, List, [], Option, Some, MatchOption, Result, Ok, Err, IfOk, IfErr, Bool, true, false, IsTrue, inl, inr, refl, sym, subst}
use Rattle.std.specs.FinMap as map
use Rattle.std.specs.declared.vec.Vec.{Vec}
use Rattle.fab_reach_base.specs.fab_inventory.Inventories.{InventoryRows}
use Rattle.fab_world.specs.fab_plans_base.Steps.{PlanStep}
use Rattle.fab_policy.specs.fab_policy_base.Policies.{PolicyRows}
use Rattle.fab_store_world.specs.Inventories.{IsInventoryDifference}
use Rattle.fab_store_world.specs.declared.inventories.InventoryDifference.{InventoryDifference}
use Rattle.fab_world.specs.Worlds.{WorldRows}
use Rattle.fab_desk_commands.specs.Kinds.{IsTurn}
use Rattle.fab_desk_commands.specs.Nexts.{next_world, Suits, TellsRows}
use Rattle.fab_desk_commands.specs.Trials.{IsSoundAfter}
use Rattle.fab_desk_commands.specs.declared.next.Next.{Next}
use Rattle.fab_desk_commands.specs.declared.next.Next.TheVariants.{Same, Stock, Staged, Turned, Reconfigured}
use Rattle.fab_desk_base.specs.Refusals.{MayCount}
use Rattle.fab_desk_base.specs.Answers.{IsThere}
use Rattle.fab_desk_base.specs.Commands.{is_counted, tried}
use Rattle.fab_desk_base.specs.Effects.{counted, staged_plan, with_inventory, with_plan}
use Rattle.fab_desk_base.specs.Trying.{IsMade, IsTryFault}
use Rattle.fab_desk_base.specs.declared.command.Command.{Command}
use Rattle.fab_desk_base.specs.declared.command.Command.TheVariants.{Stage}
use Rattle.fab_desk_base.specs.declared.fault.DeskFault.{DeskFault}
use Rattle.fab_desk_commands.proofs.SoundAfter.{sound_serves}
use Rattle.fab_desk_trials.specs.Trials.{IsStockEffect, IsStockFault, plan_effect, staging_effect, IsTried}
use Rattle.fab_desk_trials.specs.declared.effects.Effect.{Effect}
use Rattle.fab_desk_trials.specs.declared.effects.Effect.TheVariants.{Parts, NewPlan}

-- a policy, where any does
pub no_policy : PolicyRows
no_policy = record { callers = []; windows = []; rules = [] }

-- what the command is about is there, once it is known which command it is
pub there : {A : Type 0} (w : WorldRows) (c k : Command A) → c ≡ k → ((p : PolicyRows) (id : ℕ) → IsThere p w id c) → (p : PolicyRows) (id : ℕ) → IsThere p w id k
there w c k is h p id = subst (IsThere p w id) is (h p id)

-- a turn leaves the inventory and the configuration as they are, and tells no row
pub turn_tells : {A : Type 0} (w : WorldRows) (n : List ℕ) (next : Next A) → IsTurn n next → TellsRows w next
turn_tells w n Same h = absurd h
turn_tells w n (Stock v d) h = absurd h
turn_tells w n (Staged m p) h = absurd h
turn_tells w n (Turned m t) h = tt
turn_tells w n (Reconfigured c m t) h = absurd h

-- a plan that was staged before stays, and else there is one more
pub staging_ok : {A : Type 0} (w : WorldRows) (caller n : List ℕ) (steps : Vec PlanStep A) (c : Command A) → c ≡ Stage n steps → (r : Result Bool DeskFault)
    → IfOk r (λ b. IsTrue b → IsMade w caller (Stage n steps) w)
    → IfOk r (λ b. b ≡ false → (map.contains_key w.plans n ≡ false) × IsMade w caller (Stage n steps) (with_plan n (staged_plan caller steps.items) w))
    → IfOk r (λ b. b ≡ false → IsSoundAfter w (Stage n steps) (with_plan n (staged_plan caller steps.items) w)) → IfOk (staging_effect {A = A} r) (IsTried w caller c)
staging_ok w caller n steps c is (Ok true) same new sound = subst (λ k. IsTried w caller k (Parts Same)) (sym is) (record { made = same refl; suits = λ _. tt; tells = tt; sound = record { serves = sound_serves w; sound = λ before _ _. before } })
staging_ok w caller n steps c is (Ok false) same new sound = subst (λ k. IsTried w caller k NewPlan) (sym is) (record { made = (new refl).1; suits = λ _. (new refl).0; tells = tt; sound = sound refl })
staging_ok w caller n steps c is (Err q) same new sound = tt

-- t is the command as it is tried
module _ {A : Type 0} (w : WorldRows) (caller : List ℕ) (c t : Command A) (same : t ≡ tried c) where
  -- the effect on the inventory, once it is known which one
  stock_tried : (v : InventoryRows) (d : InventoryDifference A) → is_counted t ≡ true → IsMade w caller t (counted (with_inventory v w)) → IsSoundAfter w t (counted (with_inventory v w)) → IsInventoryDifference w.inventory v d → IsTried w caller c (Parts (Stock v d))
  stock_tried v d counts made sound differs = record {
    made = subst (λ x. IsMade w caller x (counted (with_inventory v w))) same made;
    suits = λ may. (may (subst (λ x. is_counted x ≡ true) same counts), differs);
    tells = differs;
    sound = subst (λ x. IsSoundAfter w x (counted (with_inventory v w))) same sound;
  }

  pub stock_ok : (r : Result InventoryRows DeskFault) (x : Result (Effect A) DeskFault) → is_counted t ≡ true → IfOk r (λ v. IsMade w caller t (counted (with_inventory v w))) → IfOk r (λ v. IsSoundAfter w t (counted (with_inventory v w))) → IfOk x (IsStockEffect w r) → IfOk x (IsTried w caller c)
  stock_ok r (Ok e) counts made sound h =
      let made_here = subst (λ y. IfOk y (λ v. IsMade w caller t (counted (with_inventory v w)))) h.1 made in
      let sound_here = subst (λ y. IfOk y (λ v. IsSoundAfter w t (counted (with_inventory v w)))) h.1 sound in
      subst (IsTried w caller c) (sym h.2.1) (stock_tried h.0 h.2.0 counts made_here sound_here h.2.2)
  stock_ok r (Err q) counts made sound h = h

  pub stock_err : (r : Result InventoryRows DeskFault) (x : Result (Effect A) DeskFault) → IfErr r (IsTryFault w caller t) → IfErr x (IsStockFault r) → IfErr x (IsTryFault w caller (tried c))
  stock_err r (Ok e) h why = why
  stock_err r (Err q) h (inl e) = subst (IsTryFault w caller (tried c)) (sym e) tt
  stock_err r (Err q) h (inr e) = subst (λ x. IsTryFault w caller x q) same (subst (λ y. IfErr y (IsTryFault w caller t)) e h)

  pub plan_ok : (r : Result (Next A) DeskFault) → IfOk r (λ n. IsMade w caller t (next_world w n)) → IfOk r (λ n. MayCount w t → Suits w n) → IfOk r (TellsRows w) → IfOk r (λ n. IsSoundAfter w t (next_world w n)) → IfOk (plan_effect r) (IsTried w caller c)
  plan_ok (Ok n) made suits tells sound = record {
    made = subst (λ x. IsMade w caller x (next_world w n)) same made;
    suits = λ may. suits (subst (MayCount w) (sym same) may);
    tells = tells;
    sound = subst (λ x. IsSoundAfter w x (next_world w n)) same sound;
  }
  plan_ok (Err q) made suits tells sound = made

  pub plan_err : (r : Result (Next A) DeskFault) → IfErr r (IsTryFault w caller t) → IfErr (plan_effect r) (IsTryFault w caller (tried c))
  plan_err (Ok n) h = h
  plan_err (Err q) h = subst (λ x. IsTryFault w caller x q) same h

-- what holds of what is there
pub something : {X : Type 0} (P : Type 0) (Q : X → Type 0) (o : Option X) (x : X) → o ≡ Some x → MatchOption o P Q → Q x
something P Q o x some h = subst (λ y. MatchOption y P Q) some h

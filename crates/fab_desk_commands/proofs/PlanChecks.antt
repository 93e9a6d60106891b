-- Which checks the commands on plans have, and which fault is the first.
use Rattle.std.proofs.Common.{ℕ, ◌≡◌, ◌<◌, ◌⊎◌, inl, inr, List, refl, ap, arith}
use Rattle.std.specs.declared.vec.Vec.{Vec}
use Rattle.fab_reach_base.specs.fab_lemmas.Room.{IsFull}
use Rattle.fab_reach_base.specs.fab_mapping_base.declared.gone.Gone.{Gone}
use Rattle.fab_store_rows.specs.declared.record_row.PlanState.{PlanState}
use Rattle.fab_store_rows.specs.declared.record_row.PlanState.TheVariants as state
use Rattle.fab_world.specs.fab_plans_base.Steps.{PlanStep}
use Rattle.fab_world.specs.fab_plans.declared.fault.Refusal.{Refusal}
use Rattle.fab_world.specs.Worlds.{WorldRows}
use Rattle.fab_world.specs.declared.limits.TheConstants.{MOST_PLANS}
use Rattle.fab_desk_base.specs.Refusals.{Check, plan_state, own_name, records, others, free_ports, no_user, no_volume, not_author, last_in_force, nothing_gone, steps_done, room, few_paths, few_changes, place_of, Fails, FailsWith, IsFirstFault, IsInOtherState, IsOtherPlan, IsAuthor, IsOtherLast, IsGoneBefore, IsPlanRefused}
use Rattle.fab_desk_base.specs.Trying.{IsOfRecords, IsTryFault}
use Rattle.fab_desk_base.specs.declared.command.Command.{Command}
use Rattle.fab_desk_base.specs.declared.command.Command.TheVariants.{Stage, Withdraw, Approve, Activate, Rollback}
use Rattle.fab_desk_base.specs.declared.fault.DeskFault.{DeskFault}
use Rattle.fab_desk_base.specs.declared.fault.DeskFault.TheVariants as fault
use Rattle.fab_desk_base.specs.declared.fault.DeskLimit.TheVariants.{Plans}

-- the first fault is why a command makes nothing
tried : {A : Type 0} (w : WorldRows) (caller : List ℕ) (c : Command A) (r : DeskFault) → IsFirstFault w caller c r → IsTryFault w caller c r
tried w caller c fault.NoCaller h = h
tried w caller c (fault.BadBody line) h = h
tried w caller c (fault.Denied rule name need) h = h
tried w caller c fault.NotFound h = h
tried w caller c (fault.Exists name) h = h
tried w caller c (fault.InUse item by) h = h
tried w caller c (fault.Unknown item) h = h
tried w caller c (fault.Limit limit) h = h
tried w caller c (fault.WrongState s) h = h
tried w caller c (fault.NotLast name) h = h
tried w caller c (fault.Gone gone) h = h
tried w caller c fault.OwnPlan h = h
tried w caller c (fault.PortClash port) h = h
tried w caller c (fault.Plan step refusal) h = h
tried w caller c fault.Memory h = tt
tried w caller c fault.Store h = h
tried w caller c fault.Halted h = h

-- the plan is in another state than the command wants
abbrev pub IsStateFault : WorldRows → List ℕ → PlanState → DeskFault → Type 0
IsStateFault w n wanted r = (s : PlanState) × FailsWith (fault.WrongState s) (IsInOtherState w n wanted s) r

-- the plan is in no other state than the command wants
abbrev pub IsInState : WorldRows → List ℕ → PlanState → Type 0
IsInState w n wanted = (s : PlanState) → ¬ IsInOtherState w n wanted s

-- no check comes before that of the state
first_of_all : {A : Type 0} (w : WorldRows) (caller : List ℕ) (c : Command A) (r : DeskFault) → Fails w caller c plan_state r → IsTryFault w caller c r
first_of_all w caller c r here = tried w caller c r (record { check = plan_state; here = here; before = λ k q earlier. absurd (omega arith) })

-- ---- each command: the checks that it has, and what refuses it

module _ (A : Type 0) (w : WorldRows) (caller n : List ℕ) where
  -- a withdrawal has a check of the state alone
  withdraw_fails : (k : Check) (q : DeskFault) → IsOfRecords k → Fails {A = A} w caller (Withdraw n) k q → IsStateFault w n state.Staged q
  withdraw_fails plan_state q first f = f
  withdraw_fails own_name q first f = absurd f
  withdraw_fails records q first f = absurd f
  withdraw_fails others q first f = absurd f
  withdraw_fails free_ports q first f = absurd f
  withdraw_fails no_user q first f = absurd f
  withdraw_fails no_volume q first f = absurd f
  withdraw_fails not_author q first f = absurd f
  withdraw_fails last_in_force q first f = absurd f
  withdraw_fails nothing_gone q first f = absurd f
  withdraw_fails steps_done q first f = absurd f
  withdraw_fails room q first f = absurd f
  withdraw_fails few_paths q first f = absurd (omega arith)
  withdraw_fails few_changes q first f = absurd (omega arith)

  pub withdraw_passes : IsInState w n state.Staged → (k : Check) (q : DeskFault) → IsOfRecords k → ¬ Fails {A = A} w caller (Withdraw n) k q
  withdraw_passes is k q first f = let h = withdraw_fails k q first f in is h.0 h.1.1

  pub withdraw_refused : (r : DeskFault) → IsStateFault w n state.Staged r → IsTryFault {A = A} w caller (Withdraw n) r
  withdraw_refused r here = first_of_all w caller (Withdraw n) r here

  -- an approval has one of the author behind it
  approve_fails : (k : Check) (q : DeskFault) → IsOfRecords k → Fails {A = A} w caller (Approve n) k q → IsStateFault w n state.Staged q ⊎ ((k ≡ not_author) × IsAuthor w n caller)
  approve_fails plan_state q first f = inl f
  approve_fails own_name q first f = absurd f
  approve_fails records q first f = absurd f
  approve_fails others q first f = absurd f
  approve_fails free_ports q first f = absurd f
  approve_fails no_user q first f = absurd f
  approve_fails no_volume q first f = absurd f
  approve_fails not_author q first f = inr (refl, f.1)
  approve_fails last_in_force q first f = absurd f
  approve_fails nothing_gone q first f = absurd f
  approve_fails steps_done q first f = absurd f
  approve_fails room q first f = absurd f
  approve_fails few_paths q first f = absurd (omega arith)
  approve_fails few_changes q first f = absurd (omega arith)

  pub approve_passes : IsInState w n state.Staged → ¬ IsAuthor w n caller → (k : Check) (q : DeskFault) → IsOfRecords k → ¬ Fails {A = A} w caller (Approve n) k q
  approve_passes is other k q first f = elim (approve_fails k q first f) [ inl h ↦ is h.0 h.1.1 | inr h ↦ other h.1 ]

  pub approve_refused : (r : DeskFault) → IsStateFault w n state.Staged r → IsTryFault {A = A} w caller (Approve n) r
  approve_refused r here = first_of_all w caller (Approve n) r here

  pub author_refused : IsInState w n state.Staged → IsAuthor w n caller → IsTryFault {A = A} w caller (Approve n) fault.OwnPlan
  author_refused is author = tried w caller (Approve n) fault.OwnPlan (record { check = not_author; here = (refl, author); before = before })
    where
      before : (k : Check) (q : DeskFault) → place_of k < place_of not_author → ¬ Fails {A = A} w caller (Approve n) k q
      before k q earlier f = elim (approve_fails k q (omega arith) f) [ inl h ↦ is h.0 h.1.1 | inr h ↦ let at = ap place_of h.0 in omega arith ]

  -- an activation has one of the steps
  activate_fails : (k : Check) (q : DeskFault) → IsOfRecords k → Fails {A = A} w caller (Activate n) k q → IsStateFault w n state.Staged q ⊎ ((k ≡ steps_done) × ((number : ℕ) × (r : Refusal) × IsPlanRefused w n number r))
  activate_fails plan_state q first f = inl f
  activate_fails own_name q first f = absurd f
  activate_fails records q first f = absurd f
  activate_fails others q first f = absurd f
  activate_fails free_ports q first f = absurd f
  activate_fails no_user q first f = absurd f
  activate_fails no_volume q first f = absurd f
  activate_fails not_author q first f = absurd f
  activate_fails last_in_force q first f = absurd f
  activate_fails nothing_gone q first f = absurd f
  activate_fails steps_done q first f = inr (refl, (f.0, f.1, f.2.1))
  activate_fails room q first f = absurd f
  activate_fails few_paths q first f = absurd (omega arith)
  activate_fails few_changes q first f = absurd (omega arith)

  pub activate_passes : IsInState w n state.Staged → ((number : ℕ) (r : Refusal) → ¬ IsPlanRefused w n number r) → (k : Check) (q : DeskFault) → IsOfRecords k → ¬ Fails {A = A} w caller (Activate n) k q
  activate_passes is done k q first f = elim (activate_fails k q first f) [ inl h ↦ is h.0 h.1.1 | inr h ↦ done h.1.0 h.1.1 h.1.2 ]

  pub activate_refused : (r : DeskFault) → IsStateFault w n state.Staged r → IsTryFault {A = A} w caller (Activate n) r
  activate_refused r here = first_of_all w caller (Activate n) r here

  pub steps_refused : IsInState w n state.Staged → (number : ℕ) (r : Refusal) → IsPlanRefused w n number r → IsTryFault {A = A} w caller (Activate n) (fault.Plan number r)
  steps_refused is number r refused = record { check = steps_done; here = (number, r, (refl, refused)); before = before }
    where
      before : (k : Check) (q : DeskFault) → place_of k < place_of steps_done → ¬ Fails {A = A} w caller (Activate n) k q
      before k q earlier f = elim (activate_fails k q (omega arith) f) [ inl h ↦ is h.0 h.1.1 | inr h ↦ let at = ap place_of h.0 in omega arith ]

  -- a rollback has one of the last in force, and then one of what is gone
  rollback_fails : (k : Check) (q : DeskFault) → IsOfRecords k → Fails {A = A} w caller (Rollback n) k q
      → IsStateFault w n state.Active q ⊎ (((k ≡ last_in_force) × ((last : List ℕ) × IsOtherLast w n last)) ⊎ ((k ≡ nothing_gone) × ((g : Gone) × IsGoneBefore w n g)))
  rollback_fails plan_state q first f = inl f
  rollback_fails own_name q first f = absurd f
  rollback_fails records q first f = absurd f
  rollback_fails others q first f = absurd f
  rollback_fails free_ports q first f = absurd f
  rollback_fails no_user q first f = absurd f
  rollback_fails no_volume q first f = absurd f
  rollback_fails not_author q first f = absurd f
  rollback_fails last_in_force q first f = inr (inl (refl, (f.0, f.1.1)))
  rollback_fails nothing_gone q first f = inr (inr (refl, (f.0, f.1.1)))
  rollback_fails steps_done q first f = absurd f
  rollback_fails room q first f = absurd f
  rollback_fails few_paths q first f = absurd (omega arith)
  rollback_fails few_changes q first f = absurd (omega arith)

  pub rollback_refused : (r : DeskFault) → IsStateFault w n state.Active r → IsTryFault {A = A} w caller (Rollback n) r
  rollback_refused r here = first_of_all w caller (Rollback n) r here

  module _ (is : IsInState w n state.Active) where
    pub rollback_passes : ((last : List ℕ) → ¬ IsOtherLast w n last) → ((g : Gone) → ¬ IsGoneBefore w n g) → (k : Check) (q : DeskFault) → IsOfRecords k → ¬ Fails {A = A} w caller (Rollback n) k q
    rollback_passes last there k q first f = elim (rollback_fails k q first f) [
      | inl h ↦ is h.0 h.1.1
      | inr m ↦ elim m [ inl h ↦ last h.1.0 h.1.1 | inr h ↦ there h.1.0 h.1.1 ]
    ]

    pub other_last_refused : (r : DeskFault) → (last : List ℕ) × FailsWith (fault.NotLast last) (IsOtherLast w n last) r → IsTryFault {A = A} w caller (Rollback n) r
    other_last_refused r here = tried w caller (Rollback n) r (record { check = last_in_force; here = here; before = before })
      where
        before : (k : Check) (q : DeskFault) → place_of k < place_of last_in_force → ¬ Fails {A = A} w caller (Rollback n) k q
        before k q earlier f = elim (rollback_fails k q (omega arith) f) [
          | inl h ↦ is h.0 h.1.1
          | inr m ↦ elim m [ inl h ↦ let at = ap place_of h.0 in omega arith | inr h ↦ let at = ap place_of h.0 in omega arith ]
        ]

    pub gone_refused : ((last : List ℕ) → ¬ IsOtherLast w n last) → (g : Gone) → IsGoneBefore w n g → IsTryFault {A = A} w caller (Rollback n) (fault.Gone g)
    gone_refused last g gone = record { check = nothing_gone; here = (g, (refl, gone)); before = before }
      where
        before : (k : Check) (q : DeskFault) → place_of k < place_of nothing_gone → ¬ Fails {A = A} w caller (Rollback n) k q
        before k q earlier f = elim (rollback_fails k q (omega arith) f) [
          | inl h ↦ is h.0 h.1.1
          | inr m ↦ elim m [ inl h ↦ last h.1.0 h.1.1 | inr h ↦ let at = ap place_of h.0 in omega arith ]
        ]

-- ---- stage

module _ {A : Type 0} (w : WorldRows) (caller n : List ℕ) (steps : Vec PlanStep A) where
  -- a staging has a check of the name, and then one of the room
  stage_fails : (k : Check) (q : DeskFault) → IsOfRecords k → Fails w caller (Stage n steps) k q → ((k ≡ own_name) × IsOtherPlan w caller n steps.items) ⊎ ((k ≡ room) × IsFull w.plans n MOST_PLANS)
  stage_fails plan_state q first f = absurd f
  stage_fails own_name q first f = inl (refl, f.1)
  stage_fails records q first f = absurd f
  stage_fails others q first f = absurd f
  stage_fails free_ports q first f = absurd f
  stage_fails no_user q first f = absurd f
  stage_fails no_volume q first f = absurd f
  stage_fails not_author q first f = absurd f
  stage_fails last_in_force q first f = absurd f
  stage_fails nothing_gone q first f = absurd f
  stage_fails steps_done q first f = absurd f
  stage_fails room q first f = inr (refl, f.1)
  stage_fails few_paths q first f = absurd (omega arith)
  stage_fails few_changes q first f = absurd (omega arith)

  pub stage_passes : ¬ IsOtherPlan w caller n steps.items → ¬ IsFull w.plans n MOST_PLANS → (k : Check) (q : DeskFault) → IsOfRecords k → ¬ Fails w caller (Stage n steps) k q
  stage_passes own free k q first f = elim (stage_fails k q first f) [ inl h ↦ own h.1 | inr h ↦ free h.1 ]

  pub name_refused : IsOtherPlan w caller n steps.items → IsTryFault w caller (Stage n steps) (fault.Exists n)
  name_refused other = record { check = own_name; here = (refl, other); before = before }
    where
      before : (k : Check) (q : DeskFault) → place_of k < place_of own_name → ¬ Fails w caller (Stage n steps) k q
      before k q earlier f = elim (stage_fails k q (omega arith) f) [ inl h ↦ let at = ap place_of h.0 in omega arith | inr h ↦ let at = ap place_of h.0 in omega arith ]

  pub room_refused : ¬ IsOtherPlan w caller n steps.items → IsFull w.plans n MOST_PLANS → IsTryFault w caller (Stage n steps) (fault.Limit Plans)
  room_refused own full = record { check = room; here = (refl, full); before = before }
    where
      before : (k : Check) (q : DeskFault) → place_of k < place_of room → ¬ Fails w caller (Stage n steps) k q
      before k q earlier f = elim (stage_fails k q (omega arith) f) [ inl h ↦ own h.1 | inr h ↦ let at = ap place_of h.0 in omega arith ]

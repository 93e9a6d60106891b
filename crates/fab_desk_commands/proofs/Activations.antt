-- What an activation makes of a world.
use Rattle.std.proofs.Common.{ℕ, ◌≡◌, ◌≢◌, ◌++◌, ◌<◌, List, [], ◌∷◌, reverse, Contains, Option, is_some, refl, sym, ap, ◌∙◌, subst, inl, arith}
use mathlib.Core.Bool.{true≢false}
use Rattle.std.specs.FinMap as map
use Rattle.std.specs.Option.{option_to_list}
use Rattle.fab_reach_base.specs.fab_lemmas.Firsts.{HasAt}
use Rattle.fab_reach_base.proofs.fab_lemmas.Changed.{entry_put}
use Rattle.fab_reach_base.proofs.fab_lemmas.Sizes.{map_put}
use Rattle.fab_reach_base.proofs.fab_names.OrderLaws.{name_total, name_exact}
use Rattle.fab_reach_base.specs.Records.{ConfigRows}
use Rattle.fab_reach_base.specs.Soundness.{IsSoundBeside}
use Rattle.fab_reach_base.proofs.Lawful.{serves}
use Rattle.fab_store_rows.specs.Differences.{IsDifference}
use Rattle.fab_store_rows.specs.declared.listing.RowDifference.{RowDifference}
use Rattle.fab_store_rows.specs.declared.record_row.PlanState.TheVariants as state
use Rattle.fab_world.specs.fab_plans.Outcomes.{IsOutcome, IsRefusedOutcome}
use Rattle.fab_world.specs.fab_plans.declared.fault.Refusal.{Refusal}
use Rattle.fab_world.proofs.fab_plans.OnePlan.{outcome_or_refused}
use Rattle.fab_world.specs.History.{changes_of, LeadsBack}
use Rattle.fab_world.specs.PlanRecords.{PlanRecord, active}
use Rattle.fab_world.specs.Plans.{Change, change_in, state_of, IsActive}
use Rattle.fab_world.specs.Soundness.{IsSound, IsSoundPlan}
use Rattle.fab_world.specs.Worlds.{WorldRows, records_of}
use Rattle.fab_world.specs.declared.limits.TheConstants.{MOST_PLANS, MOST_CHANGES}
use Rattle.fab_desk_base.specs.Commands.{IsPlan}
use Rattle.fab_desk_base.specs.Effects.{counted, with_plan}
use Rattle.fab_desk_base.specs.Refusals.{IsPlanRefused}
use Rattle.fab_desk_base.specs.Trying.{IsMade, IsTryFault}
use Rattle.fab_desk_base.specs.declared.command.Command.TheVariants.{Activate}
use Rattle.fab_desk_base.specs.declared.fault.DeskFault.{DeskFault}
use Rattle.fab_desk_base.specs.declared.fault.DeskFault.TheVariants as fault
use Rattle.fab_desk_commands.specs.Nexts.{next_world, with_turn}
use Rattle.fab_desk_commands.specs.declared.next.Next.TheVariants.{Reconfigured}
use Rattle.fab_desk_commands.specs.declared.next.Turn.TheVariants.{Activated}
use Rattle.fab_desk_commands.specs.Trials.{IsOutcomeFault, IsSoundAfter}
use Rattle.fab_desk_commands.proofs.PlanChecks.{activate_passes, steps_refused}
use Rattle.fab_desk_commands.proofs.Orders.{absent_reversed, changes_beside, last_first, listing_with}
use Rattle.fab_desk_commands.proofs.PlanTurns.{in_state, not_undone, one_plan, there}
use Rattle.fab_desk_commands.proofs.Undos.{undo_at, active_undone, put_there, put_beside}

-- another configuration and order, by one change more
abbrev pub placed : ConfigRows → List (List ℕ) → WorldRows → WorldRows
placed c order w = counted (record w { config = c; order = order })

-- a plan that is staged is not active
pub waits_inactive : (w : WorldRows) (n : List ℕ) (p : PlanRecord) → IsPlan w n p → state_of p.standing ≡ state.Staged → ¬ HasAt (map.get w.plans) IsActive n
waits_inactive w n p is waits h = true≢false (sym (active_undone (map.get w.plans n) h) ∙ ap (λ o. is_some (undo_at o)) is ∙ ap is_some (not_undone p.standing waits))

-- the plan, active with the change
abbrev pub in_force : PlanRecord → Change → PlanRecord
in_force p change = record p { standing = active change.taken change.added }

-- the world after the activation
abbrev pub after : WorldRows → List ℕ → PlanRecord → ConfigRows → Change → WorldRows
after w n p c change = counted (with_plan n (in_force p change) (record w { config = c; order = w.order ++ (n ∷ []) }))

module _ (w : WorldRows) (n : List ℕ) (p : PlanRecord) (is : IsPlan w n p) (waits : state_of p.standing ≡ state.Staged) (c : ConfigRows) (change : Change) where
  beside : (k : List ℕ) → k ≢ n → undo_at (map.get (map.insert w.plans n (in_force p change)) k) ≡ undo_at (map.get w.plans k)
  beside k apart = ap undo_at (put_beside w.plans n (in_force p change) k apart)

  -- it is active now
  now_active : HasAt (map.get (map.insert w.plans n (in_force p change))) IsActive n
  now_active = (in_force p change, put_there w.plans n (in_force p change), refl)

  -- the way back begins with what it changed
  way_back : IsSound w → changes_of (map.get (map.insert w.plans n (in_force p change))) (reverse (w.order ++ n ∷ [])) ≡ change ∷ changes_of (map.get w.plans) (reverse w.order)
  way_back sound =
      let now = map.get (map.insert w.plans n (in_force p change)) in
      let absent : ¬ Contains w.order n = λ h. waits_inactive w n p is waits ((sound.order.lists n).0 h) in
      last_first now w.order n
      ∙ ap (λ (o : Option PlanRecord). option_to_list (undo_at o) ++ changes_of now (reverse w.order)) (put_there w.plans n (in_force p change))
      ∙ ap (λ (changes : List Change). change ∷ changes) (changes_beside (map.get w.plans) now n beside (reverse w.order) (absent_reversed w.order n absent))

  pub activation_sound : (A : Type 0) → IsOutcome w.inventory p.steps w.config c → IsDifference w.config c change.taken change.added → (IsSoundBeside w.inventory w.config → IsSoundBeside w.inventory c) → IsSoundAfter {A = A} w (Activate n) (after w n p c change)
  activation_sound A outcome differs keeps = record {
    serves = λ sound. serves (records_of (after w n p c change)) (now sound);
    sound = λ sound few counts.
        let old = sound.plans n p is in
        let plan : IsSoundPlan (in_force p change) = record { steps = old.steps; approvals = old.approvals } in
        let room : w.revision < MOST_CHANGES = counts refl in
        record {
          inventory = sound.inventory;
          config = record { parts = (now sound).parts; no_clash = outcome.no_clash };
          fits = (now sound).fits;
          few_paths = few;
          few_plans = map_put name_total w.plans n (in_force p change) MOST_PLANS (inl (there w n p is)) sound.few_plans;
          plans = entry_put name_total w.plans n name_exact (λ _ q. IsSoundPlan q) (in_force p change) plan sound.plans;
          order = listing_with (map.get w.plans) (map.get (map.insert w.plans n (in_force p change))) n beside w.order sound.order (waits_inactive w n p is waits) now_active;
          earlier = subst (λ changes. LeadsBack changes c) (sym (way_back sound)) (w.config, record { sound = sound.config; differs = differs }, sound.earlier);
          few_changes = omega arith;
        };
  }
    where
      now : IsSound w → IsSoundBeside w.inventory c
      now sound = keeps (record { parts = sound.config.parts; fits = sound.fits })

  pub activation_made : (A : Type 0) (caller : List ℕ) → IsOutcome w.inventory p.steps w.config c → IsDifference w.config c change.taken change.added → IsMade {A = A} w caller (Activate n) (after w n p c change)
  activation_made A caller outcome differs = record {
    passes = activate_passes A w caller n (in_state w n p is state.Staged waits) done;
    makes = record { plan = p; is = is; config = c; outcome = outcome; change = change; differs = differs; makes = refl };
  }
    where
      done : (number : ℕ) (r : Refusal) → ¬ IsPlanRefused w n number r
      done number r h = outcome_or_refused w.inventory p.steps w.config c number r outcome (subst (λ (q : PlanRecord). IsRefusedOutcome w.inventory q.steps w.config number r) (one_plan w n p is h.0 h.1) h.2)

-- ---- why it is refused

module _ (A : Type 0) (w : WorldRows) (caller n : List ℕ) (p : PlanRecord) (is : IsPlan w n p) (waits : state_of p.standing ≡ state.Staged) where
  pub outcome_refused : (r : DeskFault) → IsOutcomeFault w p.steps r → IsTryFault {A = A} w caller (Activate n) r
  outcome_refused fault.NoCaller h = absurd h
  outcome_refused (fault.BadBody line) h = absurd h
  outcome_refused (fault.Denied rule name need) h = absurd h
  outcome_refused fault.NotFound h = absurd h
  outcome_refused (fault.Exists name) h = absurd h
  outcome_refused (fault.InUse item by) h = absurd h
  outcome_refused (fault.Unknown item) h = absurd h
  outcome_refused (fault.Limit limit) h = absurd h
  outcome_refused (fault.WrongState s) h = absurd h
  outcome_refused (fault.NotLast name) h = absurd h
  outcome_refused (fault.Gone gone) h = absurd h
  outcome_refused fault.OwnPlan h = absurd h
  outcome_refused (fault.PortClash port) h = absurd h
  outcome_refused (fault.Plan step refusal) h = steps_refused A w caller n (in_state w n p is state.Staged waits) step refusal (p, is, h)
  outcome_refused fault.Memory h = tt
  outcome_refused fault.Store h = absurd h
  outcome_refused fault.Halted h = absurd h

-- ---- the parts of the world after it

-- the world is the one after the activation
pub activated_world : {A : Type 0} (w : WorldRows) (n : List ℕ) (p : PlanRecord) → IsPlan w n p → (c : ConfigRows) (d : RowDifference A) → next_world w (Reconfigured c n (Activated d)) ≡ after w n p c (change_in d)
activated_world w n p is c d = ap (λ o. placed c (w.order ++ (n ∷ [])) (with_turn n (Activated d) o w)) is

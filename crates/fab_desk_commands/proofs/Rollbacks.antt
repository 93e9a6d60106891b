-- What a rollback makes of a world.
use Rattle.std.proofs.Common.{ℕ, ◌≡◌, ◌≢◌, ◌++◌, ◌<◌, List, [], ◌∷◌, length, reverse, Option, Some, is_some, refl, sym, ap, ◌∙◌, subst, inl, arith}
use mathlib.Core.Bool.{true≢false}
use Rattle.std.specs.FinMap as map
use Rattle.std.specs.Option.{option_to_list}
use Rattle.std.proofs.lemmas.List.{reverse-append}
use Rattle.fab_reach_base.specs.fab_lemmas.Firsts.{HasAt}
use Rattle.fab_reach_base.proofs.fab_lemmas.Changed.{entry_put}
use Rattle.fab_reach_base.proofs.fab_lemmas.Sizes.{map_put}
use Rattle.fab_reach_base.proofs.fab_names.OrderLaws.{name_total, name_exact}
use Rattle.fab_reach_base.specs.fab_inventory.Inventories.{InventoryRows, IsArray}
use Rattle.fab_reach_base.specs.fab_mapping_base.declared.gone.Gone.{Gone}
use Rattle.fab_reach_base.specs.fab_mapping_base.declared.gone.Gone.TheVariants as gone
use Rattle.fab_reach_base.specs.fab_mapping.Gone.{IsFirstGone}
use Rattle.fab_reach_base.specs.fab_mapping.Mappings.{MappingRows}
use Rattle.fab_reach_base.specs.fab_mapping.Soundness.{Fits}
use Rattle.fab_reach_base.specs.Records.{ConfigRows}
use Rattle.fab_reach_base.specs.Soundness.{IsSoundBeside}
use Rattle.fab_reach_base.proofs.Lawful.{serves}
use Rattle.fab_reach_base.proofs.Same.{same_some}
use Rattle.fab_store_rows.specs.declared.record_row.PlanState.TheVariants as state
use Rattle.fab_world.specs.History.{IsEarlier, changes_of, LeadsBack}
use Rattle.fab_store_rows.specs.Differences.{IsDifference}
use Rattle.fab_world.specs.PlanRecords.{PlanRecord, Standing, staged, active, rolled_back, withdrawn}
use Rattle.fab_world.specs.Plans.{Change, state_of, undo_of, IsActive}
use Rattle.fab_world.specs.Soundness.{IsSound, IsSoundPlan, ListsActive}
use Rattle.fab_world.specs.Worlds.{WorldRows, records_of}
use Rattle.fab_world.specs.declared.limits.TheConstants.{MOST_PLANS, MOST_CHANGES}
use Rattle.fab_desk_base.specs.Commands.{IsPlan}
use Rattle.fab_desk_base.specs.Effects.{counted, with_plan, IsBefore, IsLastAfter}
use Rattle.fab_desk_base.specs.Refusals.{IsOtherLast, IsGoneBefore}
use Rattle.fab_desk_base.specs.Trying.{IsMade, IsTryFault}
use Rattle.fab_desk_base.specs.declared.command.Command.TheVariants.{Rollback}
use Rattle.fab_desk_base.specs.declared.fault.DeskFault.{DeskFault}
use Rattle.fab_desk_base.specs.declared.fault.DeskFault.TheVariants as fault
use Rattle.fab_desk_commands.specs.Nexts.{all_but_last, next_world, turned_at, with_turn, Suits, TellsRows}
use Rattle.fab_desk_commands.specs.declared.next.Next.{Next}
use Rattle.fab_desk_commands.specs.declared.next.Next.TheVariants.{Same, Stock, Staged, Turned, Reconfigured}
use Rattle.fab_desk_commands.specs.declared.next.Turn.TheVariants.{Withdrawn, Approved, Activated, RolledBack}
use Rattle.fab_desk_commands.specs.Trials.{HasEarlier, IsBeforePlan, IsRollback, IsRestoreFault, IsSoundAfter}
use Rattle.fab_desk_commands.proofs.Activations.{placed}
use Rattle.fab_desk_commands.proofs.PlanChecks.{rollback_passes, gone_refused}
use Rattle.fab_desk_commands.proofs.Orders.{absent_before, absent_reversed, changes_beside, last_first, listing_without}
use Rattle.fab_desk_commands.proofs.Placing.{without_last}
use Rattle.fab_desk_commands.proofs.PlanTurns.{in_state, one_plan, there}
use Rattle.fab_desk_commands.proofs.Undos.{undo_at, active_undone, put_there, put_beside}

-- something undoes an active plan
pub undone_by : (s : Standing) → state_of s ≡ state.Active → (change : Change) × (undo_of s ≡ Some change)
undone_by staged is = absurd cc
undone_by (active taken added) is = (record { taken = taken; added = added }, refl)
undone_by rolled_back is = absurd cc
undone_by withdrawn is = absurd cc

-- names that end with two names end with one
one_last : (order rest others : List (List ℕ)) (n last : List ℕ) → order ≡ rest ++ n ∷ [] → order ≡ others ++ last ∷ [] → last ≡ n
one_last order rest others n last is other = let e : n ∷ reverse rest ≡ last ∷ reverse others = sym (reverse-append rest (n ∷ [])) ∙ ap reverse (sym is ∙ other) ∙ reverse-append others (last ∷ []) in cc

-- no other plan is the last in force
pub none_later : (w : WorldRows) (n : List ℕ) (rest : List (List ℕ)) → IsLastAfter w rest n → (last : List ℕ) → ¬ IsOtherLast w n last
none_later w n rest is last other = other.1 (one_last w.order rest other.0.0 n last is other.0.1)

-- nothing is gone of what fits
nothing_gone : (v : InventoryRows) (m : MappingRows) → Fits v m → (g : Gone) → ¬ IsFirstGone v m g
nothing_gone v m fits (gone.Host host) h = let x = h.0.1 in x.2.1 (fits.host_groups h.0.0 x.0 x.1 host x.2.0)
nothing_gone v m fits (gone.Array array) h = let x = h.1.0.1 in x.2.1 (subst (IsArray v.holders) (sym x.2.0) (fits.groups h.1.0.0 x.0 x.1).on_array)
nothing_gone v m fits (gone.Target q) h = let x = h.2.0.1 in x.2.1 ((fits.groups h.2.0.0 x.0 x.1).targets q x.2.0)
nothing_gone v m fits (gone.Volume volume) h = let x = h.3.0.1 in x.2.1 ((fits.groups h.3.0.0 x.0 x.1).volumes x.2.0.0 volume x.2.0.1)

-- the plan, rolled back
abbrev pub undone : PlanRecord → PlanRecord
undone p = record p { standing = rolled_back }

-- the world after the rollback
abbrev pub after : WorldRows → List ℕ → PlanRecord → ConfigRows → List (List ℕ) → WorldRows
after w n p c rest = counted (with_plan n (undone p) (record w { config = c; order = rest }))

module _ (w : WorldRows) (n : List ℕ) (p : PlanRecord) (is : IsPlan w n p) (works : state_of p.standing ≡ state.Active) (sound : IsSound w) where
  pub is_active : IsActive p
  is_active = ap is_some (undone_by p.standing works).1

  -- some plan is in force
  pub some_in_force : 0 < length w.order
  some_in_force = let h = (sound.order.lists n).1 (p, is, is_active) in omega (arith, h.1)

  module _ (rest : List (List ℕ)) (last : IsLastAfter w rest n) where
    -- the way back begins with what undoes the plan
    way_back : (change : Change) → undo_of p.standing ≡ Some change → LeadsBack (change ∷ changes_of (map.get w.plans) (reverse rest)) w.config
    way_back change undo =
        subst (λ changes. LeadsBack changes w.config)
        (ap (λ names. changes_of (map.get w.plans) (reverse names)) last ∙ last_first (map.get w.plans) rest n ∙ ap (λ (o : Option Change). option_to_list o ++ changes_of (map.get w.plans) (reverse rest)) (ap undo_at is ∙ undo))
        sound.earlier

    pub has_earlier : HasEarlier w p
    has_earlier = let u = undone_by p.standing works in let back = way_back u.0 u.1 in (u.0, u.1, (back.0, back.1))

    module _ (c : ConfigRows) (before : IsBeforePlan w p c) (fits : Fits w.inventory c.mapping) where
      beside : (k : List ℕ) → k ≢ n → undo_at (map.get (map.insert w.plans n (undone p)) k) ≡ undo_at (map.get w.plans k)
      beside k apart = ap undo_at (put_beside w.plans n (undone p) k apart)

      -- it is active no longer
      now_inactive : ¬ HasAt (map.get (map.insert w.plans n (undone p))) IsActive n
      now_inactive h = true≢false (sym (active_undone (map.get (map.insert w.plans n (undone p)) n) h) ∙ ap (λ o. is_some (undo_at o)) (put_there w.plans n (undone p)))

      listed : ListsActive (map.get w.plans) (rest ++ n ∷ [])
      listed = subst (ListsActive (map.get w.plans)) last sound.order

      -- the rest of the way back
      rest_back : LeadsBack (changes_of (map.get (map.insert w.plans n (undone p))) (reverse rest)) c
      rest_back =
          let back = way_back before.0 before.1 in
          let same = changes_beside (map.get w.plans) (map.get (map.insert w.plans n (undone p))) n beside (reverse rest) (absent_reversed rest n (absent_before rest n listed.each_once)) in
          subst (λ changes. LeadsBack changes c) (sym same) (subst (LeadsBack (changes_of (map.get w.plans) (reverse rest))) (before.2.only back.0 back.1) back.2)

      pub rollback_sound : (A : Type 0) → IsSoundAfter {A = A} w (Rollback n) (after w n p c rest)
      rollback_sound A = record {
        serves = λ _. let now : IsSoundBeside w.inventory c = record { parts = before.2.is.sound.parts; fits = fits } in serves (records_of (after w n p c rest)) now;
        sound = λ _ few counts.
            let old = sound.plans n p is in
            let plan : IsSoundPlan (undone p) = record { steps = old.steps; approvals = old.approvals } in
            let room : w.revision < MOST_CHANGES = counts refl in
            record {
              inventory = sound.inventory;
              config = before.2.is.sound;
              fits = fits;
              few_paths = few;
              few_plans = map_put name_total w.plans n (undone p) MOST_PLANS (inl (there w n p is)) sound.few_plans;
              plans = entry_put name_total w.plans n name_exact (λ _ q. IsSoundPlan q) (undone p) plan sound.plans;
              order = listing_without (map.get w.plans) (map.get (map.insert w.plans n (undone p))) n beside rest listed now_inactive;
              earlier = rest_back;
              few_changes = omega arith;
            };
      }

      -- what was before the plan is this
      one_before : (q : PlanRecord) (b : ConfigRows) → IsBefore w n q b → b ≡ c
      one_before q b h =
          let undo : undo_of p.standing ≡ Some h.change = ap (λ (r : PlanRecord). undo_of r.standing) (sym (one_plan w n p is q h.is)) ∙ h.undo in
          let same : h.change ≡ before.0 = same_some undo before.1 in
          before.2.only b (subst (λ (change : Change). IsEarlier w.config change b) same h.earlier)

      none_gone : (g : Gone) → ¬ IsGoneBefore w n g
      none_gone g h = nothing_gone w.inventory c.mapping fits g (subst (λ (b : ConfigRows). IsFirstGone w.inventory b.mapping g) (one_before h.0 h.1 h.2) h.3)

      pub rollback_made : (A : Type 0) (caller : List ℕ) → IsMade {A = A} w caller (Rollback n) (after w n p c rest)
      rollback_made A caller = record {
        passes = rollback_passes A w caller n (in_state w n p is state.Active works) (none_later w n rest last) none_gone;
        makes = record { plan = p; before = c; is = record { is = is; change = before.0; undo = before.1; earlier = before.2.is }; rest = rest; last = last; makes = refl };
      }

-- ---- why it is refused

module _ (A : Type 0) (w : WorldRows) (caller n : List ℕ) (p : PlanRecord) (is : IsPlan w n p) (works : state_of p.standing ≡ state.Active) (rest : List (List ℕ)) (last : IsLastAfter w rest n) where
  pub restore_refused : (r : DeskFault) → IsRestoreFault w p r → IsTryFault {A = A} w caller (Rollback n) r
  restore_refused fault.NoCaller h = absurd h
  restore_refused (fault.BadBody line) h = absurd h
  restore_refused (fault.Denied rule name need) h = absurd h
  restore_refused fault.NotFound h = absurd h
  restore_refused (fault.Exists name) h = absurd h
  restore_refused (fault.InUse item by) h = absurd h
  restore_refused (fault.Unknown item) h = absurd h
  restore_refused (fault.Limit limit) h = absurd h
  restore_refused (fault.WrongState s) h = absurd h
  restore_refused (fault.NotLast name) h = absurd h
  restore_refused (fault.Gone g) h =
      gone_refused A w caller n (in_state w n p is state.Active works) (none_later w n rest last) g
      (p, h.0, record { is = is; change = h.1.0; undo = h.1.1; earlier = h.1.2.is }, h.2)
  restore_refused fault.OwnPlan h = absurd h
  restore_refused (fault.PortClash port) h = absurd h
  restore_refused (fault.Plan step refusal) h = absurd h
  restore_refused fault.Memory h = tt
  restore_refused fault.Store h = absurd h
  restore_refused fault.Halted h = absurd h

-- ---- the parts of the world after it

pub rolled_world : {A : Type 0} (w : WorldRows) (n : List ℕ) (c : ConfigRows) (rest : List (List ℕ)) → IsLastAfter w rest n → (next : Next A) → IsRollback w n c next → (p : PlanRecord) → IsPlan w n p → next_world w next ≡ after w n p c rest
rolled_world w n c rest last Same h p is = absurd h
rolled_world w n c rest last (Stock v d) h p is = absurd h
rolled_world w n c rest last (Staged m q) h p is = absurd h
rolled_world w n c rest last (Turned m t) h p is = absurd h
rolled_world w n c rest last (Reconfigured config m Withdrawn) h p is = absurd h
rolled_world w n c rest last (Reconfigured config m (Approved given)) h p is = absurd h
rolled_world w n c rest last (Reconfigured config m (Activated d)) h p is = absurd h
rolled_world {A} w n c rest last (Reconfigured config m (RolledBack d)) h p is =
    (λ i. placed (h.0 i) (all_but_last (last i)) (turned_at (h.1 i) (RolledBack d) w))
    ∙ ap (λ (order : List (List ℕ)). placed c order (turned_at {A = A} n (RolledBack d) w)) (without_last rest n)
    ∙ ap (λ o. placed c rest (with_turn n (RolledBack d) o w)) is

-- it tells what it changed
pub rollback_tells : {A : Type 0} (w : WorldRows) (n : List ℕ) (c : ConfigRows) (next : Next A) → IsRollback w n c next → TellsRows w next
rollback_tells w n c Same h = absurd h
rollback_tells w n c (Stock v d) h = absurd h
rollback_tells w n c (Staged m q) h = absurd h
rollback_tells w n c (Turned m t) h = absurd h
rollback_tells w n c (Reconfigured config m Withdrawn) h = absurd h
rollback_tells w n c (Reconfigured config m (Approved given)) h = absurd h
rollback_tells w n c (Reconfigured config m (Activated d)) h = absurd h
rollback_tells w n c (Reconfigured config m (RolledBack d)) h = subst (λ k. IsDifference w.config k d.taken.items d.added.items) (sym h.0) h.2

pub rollback_suits : {A : Type 0} (w : WorldRows) (n : List ℕ) (p : PlanRecord) → IsPlan w n p → state_of p.standing ≡ state.Active → (c : ConfigRows) (next : Next A) → IsRollback w n c next → w.revision < MOST_CHANGES → Suits w next
rollback_suits w n p is works c Same h few = absurd h
rollback_suits w n p is works c (Stock v d) h few = absurd h
rollback_suits w n p is works c (Staged m q) h few = absurd h
rollback_suits w n p is works c (Turned m t) h few = absurd h
rollback_suits w n p is works c (Reconfigured config m Withdrawn) h few = absurd h
rollback_suits w n p is works c (Reconfigured config m (Approved given)) h few = absurd h
rollback_suits w n p is works c (Reconfigured config m (Activated d)) h few = absurd h
rollback_suits w n p is works c (Reconfigured config m (RolledBack d)) h few = ((p, subst (λ k. IsPlan w k p) (sym h.1) is, works), few, rollback_tells w n c (Reconfigured config m (RolledBack d)) h)

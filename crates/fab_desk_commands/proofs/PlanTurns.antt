-- The world with one plan turned, and what the withdrawal and the approval of a plan make.
use Rattle.std.proofs.Common.{ℕ, ◌≡◌, ◌≤◌, List, None, is_some, true, refl, sym, ap, ◌∙◌, subst, inl}
use Rattle.std.specs.BTreeMap.{BTreeMap}
use Rattle.std.specs.FinMap as map
use Rattle.fab_reach_base.proofs.fab_lemmas.Changed.{entry_put}
use Rattle.fab_reach_base.specs.fab_names.Orders.{name_cmp}
use Rattle.fab_reach_base.proofs.fab_names.OrderLaws.{name_total, name_exact}
use Rattle.fab_reach_base.proofs.Same.{same_some}
use Rattle.fab_store_rows.specs.declared.record_row.PlanState.{PlanState}
use Rattle.fab_store_rows.specs.declared.record_row.PlanState.TheVariants as state
use Rattle.fab_world.specs.PlanRecords.{PlanRecord, Standing, staged, active, rolled_back, withdrawn}
use Rattle.fab_world.specs.Plans.{state_of, undo_of}
use Rattle.fab_world.specs.Soundness.{IsSound, IsSoundPlan}
use Rattle.fab_world.specs.Worlds.{WorldRows}
use Rattle.fab_world.specs.declared.limits.TheConstants.{MOST_CHANGES}
use Rattle.fab_desk_base.specs.Commands.{IsPlan}
use Rattle.fab_desk_base.specs.Effects.{with_plan}
use Rattle.fab_desk_base.specs.Refusals.{IsAuthor}
use Rattle.fab_desk_base.specs.Trying.{IsMade}
use Rattle.fab_desk_base.specs.declared.command.Command.TheVariants.{Withdraw, Approve}
use Rattle.fab_desk_commands.specs.Nexts.{turned, turned_at, with_turn}
use Rattle.fab_desk_commands.specs.Trials.{IsSoundAfter}
use Rattle.fab_desk_commands.specs.declared.next.Turn.{Turn}
use Rattle.fab_desk_commands.specs.declared.next.Turn.TheVariants.{Withdrawn, Approved}
use Rattle.fab_desk_commands.proofs.PlanChecks.{IsInState, withdraw_passes, approve_passes}
use Rattle.fab_desk_commands.proofs.PlanPut.{sound_put}
use Rattle.fab_desk_commands.proofs.SoundAfter.{sound_serves}
use Rattle.fab_desk_commands.proofs.Undos.{undo_at}

-- nothing undoes a staged plan
pub not_undone : (s : Standing) → state_of s ≡ state.Staged → undo_of s ≡ None
not_undone staged is = refl
not_undone (active taken added) is = absurd cc
not_undone rolled_back is = refl
not_undone withdrawn is = refl

module _ (w : WorldRows) (n : List ℕ) (p : PlanRecord) (is : IsPlan w n p) where
  -- the plan of the name is this one
  pub one_plan : (q : PlanRecord) → IsPlan w n q → q ≡ p
  one_plan q other = same_some other is

  -- a caller who is the author of the plan of the name is its author
  pub one_author : (caller : List ℕ) → IsAuthor w n caller → caller ≡ p.author
  one_author caller h = h.2 ∙ ap (λ (q : PlanRecord). q.author) (one_plan h.0 h.1)

  pub in_state : (wanted : PlanState) → state_of p.standing ≡ wanted → IsInState w n wanted
  in_state wanted stands s other = other.3 (other.2 ∙ ap (λ (q : PlanRecord). state_of q.standing) (one_plan other.0 other.1) ∙ stands)

  pub turned_is : {A : Type 0} (t : Turn A) → turned_at n t w ≡ with_plan n (turned t p) w
  turned_is t = ap (λ o. with_turn n t o w) is

  -- it is there, and there is room for it
  pub there : map.contains_key w.plans n ≡ true
  there = ap is_some is

  module _ (A : Type 0) (waits : state_of p.standing ≡ state.Staged) where
    -- ---- withdraw
    pub withdraw_made : (caller : List ℕ) → IsMade {A = A} w caller (Withdraw n) (turned_at {A = A} n Withdrawn w)
    withdraw_made caller = record { passes = withdraw_passes A w caller n (in_state state.Staged waits); makes = (p, is, turned_is {A = A} Withdrawn) }

    pub withdraw_sound : IsSoundAfter {A = A} w (Withdraw n) (turned_at {A = A} n Withdrawn w)
    withdraw_sound = record {
      serves = sound_serves w;
      sound = λ sound few counted.
          let old = sound.plans n p is in
          let plan : IsSoundPlan (turned {A = A} Withdrawn p) = record { steps = old.steps; approvals = old.approvals } in
          subst IsSound (sym (turned_is {A = A} Withdrawn)) (sound_put w n (turned {A = A} Withdrawn p) sound plan (ap undo_at is ∙ not_undone p.standing waits) (inl there));
    }

    -- ---- approve
    module _ (caller : List ℕ) (given : BTreeMap (List ℕ) ℕ) (adds : map.from_entries {R = name_cmp} given.entries ≡ map.insert p.approvals caller w.revision) where
      made_of : turned_at {A = A} n (Approved given) w ≡ with_plan n (record p { approvals = map.insert p.approvals caller w.revision }) w
      made_of = turned_is {A = A} (Approved given) ∙ ap (λ (m : map.FinMap name_cmp ℕ). with_plan n (record p { approvals = m }) w) adds

      pub approve_made : ¬ IsAuthor w n caller → IsMade {A = A} w caller (Approve n) (turned_at {A = A} n (Approved given) w)
      approve_made other = record { passes = approve_passes A w caller n (in_state state.Staged waits) other; makes = (p, is, made_of) }

      pub approve_sound : IsSoundAfter {A = A} w (Approve n) (turned_at {A = A} n (Approved given) w)
      approve_sound = record {
        serves = sound_serves w;
        sound = λ sound few counted.
            let old = sound.plans n p is in
            let plan : IsSoundPlan (record p { approvals = map.insert p.approvals caller w.revision }) = record {
              steps = old.steps;
              approvals = entry_put name_total p.approvals caller name_exact (λ _ revision. revision ≤ MOST_CHANGES) w.revision sound.few_changes old.approvals;
            } in
            subst IsSound (sym made_of) (sound_put w n (record p { approvals = map.insert p.approvals caller w.revision }) sound plan (ap undo_at is) (inl there));
      }

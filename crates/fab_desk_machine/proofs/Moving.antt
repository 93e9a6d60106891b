-- Whose paths a command moves.
use Rattle.std.proofs.Common.{ℕ, ◌≡◌, ◌↔◌, List, [], subst}
use Rattle.std.specs.BTreeSet.{BTreeSet}
use Rattle.fab_reach_base.proofs.fab_names.OrderLaws.{name_total, name_exact}
use Rattle.fab_reach_base.proofs.Sets.{none_in}
use Rattle.fab_reach_base.specs.Records.{Records}
use Rattle.fab_world.specs.Worlds.{WorldRows, records_of}
use Rattle.fab_desk_base.specs.Commands.{tried}
use Rattle.fab_desk_base.specs.Tenants.{Has}
use Rattle.fab_desk_base.specs.Touching.{MovesTenant, MovesPathOf}
use Rattle.fab_desk_base.specs.declared.command.Command.{Command}
use Rattle.fab_desk_base.proofs.Confined.{still}
use Rattle.fab_desk_base.proofs.Tried.{one_done}
use Rattle.fab_desk_trials.specs.Trials.{effect_world, HasEffect}
use Rattle.fab_desk_trials.specs.declared.effects.Effect.{Effect}

-- an empty set has just the tenants of which there is none
pub has_none : (s : BTreeSet (List ℕ)) (P : List ℕ → Type 0) → s.keys ≡ [] → ((t : List ℕ) → ¬ P t) → (t : List ℕ) → Has s t ↔ P t
has_none s P empty none t = ((λ h. absurd (none_in name_total name_exact s empty t h)), λ p. absurd (none t p))

module _ {A : Type 0} (w : WorldRows) (caller : List ℕ) (c : Command A) (e : Effect A) (h : HasEffect w caller c e) where
  -- a command that has the effect moves what the effect does
  pub tenant_moved : (t : List ℕ) → MovesPathOf (records_of w) (records_of (effect_world w caller c e)) t ↔ MovesTenant w caller c t
  tenant_moved t = (
    λ moves. (effect_world w caller c e, h.is, moves),
    λ m. subst (λ x. MovesPathOf (records_of w) (records_of x) t) (one_done w caller (tried c) m.0 (effect_world w caller c e) m.1 h.is) m.2,
  )

  pub none_moved : records_of (effect_world w caller c e) ≡ records_of w → (t : List ℕ) → ¬ MovesTenant w caller c t
  none_moved kept t m = still (records_of w) (records_of (effect_world w caller c e)) t kept ((tenant_moved t).1 m)

  pub tenants_moved : (s : BTreeSet (List ℕ)) (old new : Records) → old ≡ records_of w → new ≡ records_of (effect_world w caller c e) → ((t : List ℕ) → Has s t ↔ MovesPathOf old new t) → (t : List ℕ) → Has s t ↔ MovesTenant w caller c t
  tenants_moved s old new is after has t =
      let told = subst (λ x. Has s t ↔ MovesPathOf x (records_of (effect_world w caller c e)) t) is (subst (λ x. Has s t ↔ MovesPathOf old x t) after (has t)) in
      ((λ y. (tenant_moved t).0 (told.0 y)), λ y. told.1 ((tenant_moved t).1 y))

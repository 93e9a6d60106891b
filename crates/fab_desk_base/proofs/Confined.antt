-- Where each action that moves paths is scoped, a request moves paths of the caller's tenants alone.
use Rattle.std.proofs.Common.{ℕ, ◌≡◌, inl, inr, List, Contains, Bool, true, false, not, ◌||◌, is_some, Option, None, Some, IsSome, IfSome, slice_get, refl, sym, ap, ◌∙◌, subst}
use mathlib.Core.Bool.{true≢false}
use Rattle.std.specs.Option.{option_map_or}
use Rattle.std.proofs.lemmas.List.Elements.{All-contains}
use Rattle.std.proofs.lemmas.List.Sums.{AllPass-from_list_all}
use Rattle.std.proofs.lemmas.Option.{same_Some}
use Rattle.fab_policy.specs.fab_policy_base.Callers.{has_tenant, sees, HasToken}
use Rattle.fab_policy.specs.fab_policy_base.Policies.{CallerRow, PolicyRows}
use Rattle.fab_policy.specs.fab_policy_base.declared.policy.Action.{Action}
use Rattle.fab_policy.specs.fab_policy_base.declared.policy.Scope.{Scope}
use Rattle.fab_policy.specs.Verdicts.{is_own, Applies, Holds}
use Rattle.fab_policy.specs.declared.act.Need.TheVariants as need
use Rattle.fab_policy.specs.declared.act.Verdict.TheVariants.{Allowed}
use Rattle.fab_reach_base.specs.Records.{Records}
use Rattle.fab_world.specs.Worlds.{WorldRows, records_of}
use Rattle.fab_desk_base.specs.Acts.{IsJudged}
use Rattle.fab_desk_base.specs.Answers.{IsCarriedOut, Request, IsStep}
use Rattle.fab_desk_base.specs.Commands.{action_of}
use Rattle.fab_world.specs.fab_plans_base.Steps.{PlanStep}
use Rattle.fab_desk_base.specs.Effects.{StageMakes}
use Rattle.fab_desk_base.specs.Refusals.{IsEffect}
use Rattle.fab_desk_base.specs.Touching.{MovesPathOf}
use Rattle.fab_desk_base.specs.declared.command.Command.{Command}
use Rattle.fab_desk_base.specs.declared.command.Command.TheVariants.{Import, PutHolder, PutVolume, DropHolder, DropVolume, Stage, Withdraw, Approve, DryRun, Activate, Rollback, Show}
use Rattle.fab_desk_base.specs.declared.reply.Reply.{Reply}
use Rattle.fab_desk_base.specs.Laws.{IsScoped, ConfinesPaths}
use Rattle.fab_desk_base.proofs.Ends.{kept_or_done}

-- nothing moves where the records stay
pub still : (w v : Records) (t : List ℕ) → v ≡ w → ¬ MovesPathOf w v t
still w v t same moves = by (subst (λ x. MovesPathOf w x t) same moves)
  where
    by : ¬ MovesPathOf w w t
    by (x, inl h) = h.0.before h.0.now
    by (x, inr h) = h.0.before h.0.now

-- the tenants that are touched are the caller's, where they have to be
own_seen : (o : Option CallerRow) (tenants : List (List ℕ)) (t : List ℕ) → is_own tenants o ≡ true → Contains tenants t → option_map_or (λ (c : CallerRow). has_tenant c t) o false ≡ true
own_seen None tenants t h there = absurd (true≢false (sym h))
own_seen (Some c) tenants t h there = All-contains (λ x. has_tenant c x ≡ true) tenants t (AllPass-from_list_all (has_tenant c) tenants h) there

scope_asked : (o : Option Scope) (own : Bool) → IsSome o → (not (is_some o) || own) ≡ true → own ≡ true
scope_asked None own h met = absurd (true≢false (sym h))
scope_asked (Some s) own h met = met

module _ {A : Type 0} (p : PolicyRows) (w : WorldRows) (id : ℕ) (caller : List ℕ) (moment : ℕ) (c : Command A) where
  scoped : (x : Action) → IsScoped p x → action_of c ≡ Some x → IsJudged p w id caller moment c Allowed → (effect : WorldRows) → IsEffect w caller c effect → (t : List ℕ) → MovesPathOf (records_of w) (records_of effect) t → sees p id t ≡ true
  scoped x (rule, among, for_it, any_fabric, asks) action (a, act, allowed) effect is t moves =
      let same : x ≡ a.action = same_Some x a.action (sym action ∙ act.action) in
      let applies : Applies rule a = (subst (Contains rule.actions) same for_it, subst (λ o. IfSome o (λ f. Contains a.fabrics.now f)) (sym any_fabric) tt) in
      let holds : Holds p a rule = All-contains (λ r. Applies r a → Holds p a r) p.rules rule allowed.all among applies in
      let own = scope_asked rule.scope (is_own a.touched.now (slice_get p.callers a.caller)) asks (holds need.Scope) in
      let touched = (act.touched t).1 (inr (inr (effect, is, moves))) in
      own_seen (slice_get p.callers id) a.touched.now t (ap (λ i. is_own a.touched.now (slice_get p.callers i)) (sym act.caller_is) ∙ own) touched

-- a plan that is staged leaves the records as they were
staged_still : (w : WorldRows) (n author : List ℕ) (steps : List PlanStep) (effect : WorldRows) → StageMakes w author n steps effect → records_of effect ≡ records_of w
staged_still w n author steps effect (inl h) = ap records_of h.1
staged_still w n author steps effect (inr h) = ap records_of h.1

-- the command is carried out: its action is scoped, or the records stay
module _ {A : Type 0} (p : PolicyRows) (confines : ConfinesPaths p) (w : WorldRows) (id : ℕ) (caller : List ℕ) (moment : ℕ) where
  by_scope : (c : Command A) (x : Action) → IsScoped p x → action_of c ≡ Some x → (effect new : WorldRows) → IsJudged p w id caller moment c Allowed → IsEffect w caller c effect → new ≡ effect → (t : List ℕ) → MovesPathOf (records_of w) (records_of new) t → sees p id t ≡ true
  by_scope c x scope action effect new judged is same t moves = scoped p w id caller moment c x scope action judged effect is t (subst (λ v. MovesPathOf (records_of w) (records_of v) t) same moves)

  carried_out : (c : Command A) (r : Reply A) (new : WorldRows) → IsCarriedOut p w id caller moment c r new → (t : List ℕ) → MovesPathOf (records_of w) (records_of new) t → sees p id t ≡ true
  carried_out (Import f rows) r new h t moves = by_scope (Import f rows) _ confines.imports refl h.effect new h.allowed h.is h.left t moves
  carried_out (PutHolder kind n o ports) r new h t moves = by_scope (PutHolder kind n o ports) _ confines.inventory refl h.effect new h.allowed h.is h.left t moves
  carried_out (PutVolume n x) r new h t moves = by_scope (PutVolume n x) _ confines.inventory refl h.effect new h.allowed h.is h.left t moves
  carried_out (DropHolder kind n) r new h t moves = by_scope (DropHolder kind n) _ confines.inventory refl h.effect new h.allowed h.is h.left t moves
  carried_out (DropVolume n) r new h t moves = by_scope (DropVolume n) _ confines.inventory refl h.effect new h.allowed h.is h.left t moves
  carried_out (Activate n) r new h t moves = by_scope (Activate n) _ confines.activations refl h.effect new h.allowed h.is h.left t moves
  carried_out (Rollback n) r new h t moves = by_scope (Rollback n) _ confines.rollbacks refl h.effect new h.allowed h.is h.left t moves
  carried_out (Stage n steps) r new h t moves = absurd (still (records_of w) (records_of new) t (ap records_of h.left ∙ staged_still w n caller steps.items h.effect h.is.makes) moves)
  carried_out (Withdraw n) r new h t moves = absurd (still (records_of w) (records_of new) t (ap records_of h.left ∙ ap records_of h.is.makes.2) moves)
  carried_out (Approve n) r new h t moves = absurd (still (records_of w) (records_of new) t (ap records_of h.left ∙ ap records_of h.is.makes.2) moves)
  carried_out (DryRun n) r new h t moves = absurd (still (records_of w) (records_of new) t (ap records_of h.left) moves)
  carried_out (Show q) r new h t moves = absurd h.report

-- the caller at the place has the token
pub confined : {A : Type 0} (p : PolicyRows) → ConfinesPaths p → (w : WorldRows) (q : Request A) (r : Reply A) (new : WorldRows) → IsStep p w q r new → (id : ℕ) → HasToken p q.token id → (t : List ℕ) → MovesPathOf (records_of w) (records_of new) t → sees p id t ≡ true
confined p confines w q r new (inl h) id has t moves = absurd (h.0 id has)
confined p confines w q r new (inr (i, caller, only, row, h)) id has t moves = ap (λ j. sees p j t) (only.only id has) ∙ elim (kept_or_done p w i caller.name q.moment q.command r new h) [
  | inl same ↦ absurd (still (records_of w) (records_of new) t (ap records_of same) moves)
  | inr done ↦ carried_out p confines w i caller.name q.moment q.command r new done t moves
]

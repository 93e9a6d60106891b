-- Whose things a command gives and names.
use Rattle.std.proofs.Common.{◌≡◌, ◌↔◌, ℕ, ◌⊎◌, List, Contains, inl, inr, refl, sym, subst}
use Rattle.std.specs.BTreeSet.{BTreeSet}
use Rattle.std.proofs.lemmas.Map.Views.{btree_set_contains_iff}
use Rattle.fab_reach_base.proofs.fab_names.OrderLaws.{name_total, name_exact}
use Rattle.fab_reach_base.specs.Adding.{Adds}
use Rattle.fab_reach_base.specs.Records.{Records}
use Rattle.fab_reach_base.proofs.Adding.{adds_as}
use Rattle.fab_world.specs.fab_plans_base.Steps.{PlanStep}
use Rattle.fab_world.specs.Worlds.{WorldRows, records_of}
use Rattle.fab_desk_base.specs.Commands.{HasStep}
use Rattle.fab_desk_base.specs.Tenants.{Thing, holder, volume, IsTenantOf, Has}
use Rattle.fab_desk_base.specs.Touching.{BodyGives, IsAbout, MovesTenant, Touches}
use Rattle.fab_desk_base.specs.declared.command.Command.{Command}
use Rattle.fab_desk_base.specs.declared.command.Command.TheVariants.{Import, PutHolder, PutVolume, DropHolder, DropVolume, Stage, Withdraw, Approve, DryRun, Activate, Rollback, Show}
use Rattle.fab_desk_trials.specs.Gathered.{IsOfStep, IsOfSomeStep, IsOfBody, IsOfCommand}
use Rattle.fab_desk_trials.proofs.StepTenants.{Tenants, same_thing}
use Rattle.fab_desk_trials.proofs.TenantSets.{both_added}

-- what the command gives and names, its body and its steps
pub named_added : {A : Type 0} (w : WorldRows) (c : Command A) (r : Records) (steps : List PlanStep) (a b d : Tenants) → r ≡ records_of w → ((s : PlanStep) → Contains steps s ↔ HasStep w c s) → Adds (IsOfBody r.inventory c) a b → Adds (IsOfSomeStep r steps) b d → Adds (IsOfCommand w c) a d
named_added w c r steps a b d is all body some = adds_as (λ t. IsOfBody r.inventory c t ⊎ IsOfSomeStep r steps t) (IsOfCommand w c) a d
    (λ t h. elim h [
      | inl x ↦ inl (subst (λ (v : Records). IsOfBody v.inventory c t) is x)
      | inr s ↦ inr (s.0, (all s.0).0 s.1, subst (λ v. IsOfStep v s.0 t) is s.2)
    ])
    (λ t h. elim h [
      | inl x ↦ inl (subst (λ (v : Records). IsOfBody v.inventory c t) (sym is) x)
      | inr s ↦ inr (s.0, (all s.0).1 s.1, subst (λ v. IsOfStep v s.0 t) (sym is) s.2)
    ])
    (both_added (IsOfBody r.inventory c) (IsOfSomeStep r steps) a b d body some)

-- the body gives the tenant, or the command is about what is the tenant's
abbrev IsOfItself : {A : Type 0} → WorldRows → Command A → List ℕ → Type 0
IsOfItself w c t = BodyGives c t ⊎ ((x : Thing) × IsAbout c x × IsTenantOf (records_of w) x t)

body_to : {A : Type 0} (w : WorldRows) (c : Command A) (t : List ℕ) → IsOfBody w.inventory c t → IsOfItself w c t
body_to w (PutHolder k n u ports) t h = elim h [ inl e ↦ inl e | inr x ↦ inr (holder k n, refl, x) ]
body_to w (PutVolume n v) t h = elim h [ inl e ↦ inl e | inr x ↦ inr (volume n, refl, x) ]
body_to w (DropHolder k n) t h = inr (holder k n, refl, h)
body_to w (DropVolume n) t h = inr (volume n, refl, h)
body_to w (Import f rows) t h = absurd h
body_to w (Stage n steps) t h = absurd h
body_to w (Withdraw n) t h = absurd h
body_to w (Approve n) t h = absurd h
body_to w (DryRun n) t h = absurd h
body_to w (Activate n) t h = absurd h
body_to w (Rollback n) t h = absurd h
body_to w (Show q) t h = absurd h

body_gives : {A : Type 0} (w : WorldRows) (c : Command A) (t : List ℕ) → BodyGives c t → IsOfBody w.inventory c t
body_gives w (PutHolder k n u ports) t e = inl e
body_gives w (PutVolume n v) t e = inl e
body_gives w (DropHolder k n) t e = absurd e
body_gives w (DropVolume n) t e = absurd e
body_gives w (Import f rows) t e = absurd e
body_gives w (Stage n steps) t e = absurd e
body_gives w (Withdraw n) t e = absurd e
body_gives w (Approve n) t e = absurd e
body_gives w (DryRun n) t e = absurd e
body_gives w (Activate n) t e = absurd e
body_gives w (Rollback n) t e = absurd e
body_gives w (Show q) t e = absurd e

body_about : {A : Type 0} (w : WorldRows) (c : Command A) (x : Thing) (t : List ℕ) → IsAbout c x → IsTenantOf (records_of w) x t → IsOfBody w.inventory c t
body_about w (PutHolder k n u ports) x t e h = inr (same_thing (records_of w) x (holder k n) t e h)
body_about w (PutVolume n v) x t e h = inr (same_thing (records_of w) x (volume n) t e h)
body_about w (DropHolder k n) x t e h = same_thing (records_of w) x (holder k n) t e h
body_about w (DropVolume n) x t e h = same_thing (records_of w) x (volume n) t e h
body_about w (Import f rows) x t e h = absurd e
body_about w (Stage n steps) x t e h = absurd e
body_about w (Withdraw n) x t e h = absurd e
body_about w (Approve n) x t e h = absurd e
body_about w (DryRun n) x t e h = absurd e
body_about w (Activate n) x t e h = absurd e
body_about w (Rollback n) x t e h = absurd e
body_about w (Show q) x t e h = absurd e

-- what the command gives, names and moves
touches_to : {A : Type 0} (w : WorldRows) (caller : List ℕ) (c : Command A) (t : List ℕ) → IsOfCommand w c t → Touches w caller c t
touches_to w caller c t h = elim h [
  | inl x ↦ elim (body_to w c t x) [ inl e ↦ inl (inl e) | inr y ↦ inr (inl (y.0, inl y.1, y.2)) ]
  | inr s ↦ elim s.2 [ inl e ↦ inl (inr (s.0, s.1, e)) | inr y ↦ inr (inl (y.0, inr (s.0, s.1, y.1), y.2)) ]
]

touches_from : {A : Type 0} (w : WorldRows) (caller : List ℕ) (c : Command A) (t : List ℕ) → Touches w caller c t → MovesTenant w caller c t ⊎ IsOfCommand w c t
touches_from w caller c t h = elim h [
  | inl g ↦ elim g [ inl e ↦ inr (inl (body_gives w c t e)) | inr s ↦ inr (inr (s.0, s.1, inl s.2)) ]
  | inr r ↦ elim r [
    | inl y ↦ elim y.1 [
      | inl e ↦ inr (inl (body_about w c y.0 t e y.2))
      | inr s ↦ inr (inr (s.0, s.1, inr (y.0, s.2, y.2)))
    ]
    | inr m ↦ inl m
  ]
]

-- the list of what was gathered beside the moved tenants
pub touched_listed : {A : Type 0} (w : WorldRows) (caller : List ℕ) (c : Command A) (moved s : BTreeSet (List ℕ)) (list : List (List ℕ)) → ((t : List ℕ) → Has moved t ↔ MovesTenant w caller c t) → Adds (IsOfCommand w c) (Has moved) (Has s) → list ≡ s.keys → (t : List ℕ) → Contains list t ↔ Touches w caller c t
touched_listed w caller c moved s list all a is t = (
  λ h. elim (a.sound t ((btree_set_contains_iff name_total name_exact s t).1 (subst (λ xs. Contains xs t) is h))) [
    | inl m ↦ inr (inr ((all t).0 m))
    | inr x ↦ touches_to w caller c t x
  ],
  λ h. subst (λ xs. Contains xs t) (sym is) ((btree_set_contains_iff name_total name_exact s t).0 (elim (touches_from w caller c t h) [
    | inl m ↦ a.kept t ((all t).1 m)
    | inr x ↦ a.there t x
  ])),
)

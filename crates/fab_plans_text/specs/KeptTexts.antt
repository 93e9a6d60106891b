-- What a text that is kept says of steps.
use Rattle.std.specs.Prelude.{ℕ, ◌≡◌, ◌⊎◌, List, [], ◌∷◌}
use Rattle.std.proofs.Common.{refl, sym, ◌∙◌, subst, inl, inr}
use base.Stored.{Coded-set, coded_list}
use mathlib.Core.HLevel.{Σ_prop_path}
use mathlib.Core.Logic.{∥∥₁_elim, ∥∥₁_prop}
use Rattle.fab_plans_base.specs.Texts.{lines_of}
use Rattle.fab_plans_base.specs.Steps.{PlanStep}
use Rattle.fab_plans_base.specs.Plans.{SpellsLines, Spells, plan_text}
use Rattle.fab_plans_base.proofs.Unique.{one_plan}
use Rattle.fab_plans_text.specs.Codes.{step_code}

-- the text is the printed form of the steps, and spells them
pub record IsTextOf (text : List ℕ) (steps : List PlanStep) : Type 0 where
  pub spells : Spells text steps
  pub printed : text ≡ plan_text steps

-- the text is kept for the steps: it is their printed form and spells them, or there is neither a text
-- nor a step
abbrev pub IsKeptFor : List ℕ → List PlanStep → Type 0
IsKeptFor text steps = ((text ≡ []) × (steps ≡ [])) ⊎ IsTextOf text steps

-- there are steps that the text is kept for
abbrev pub HasSteps : List ℕ → Type 0
HasSteps text = (steps : List PlanStep) × ∥ IsKeptFor text steps ∥₁

-- no line spells no step
pub no_steps : (steps : List PlanStep) → SpellsLines [] steps → steps ≡ []
no_steps [] h = refl
no_steps (s ∷ steps) h = absurd h

-- a text is kept for one list of steps
pub kept_once : (text : List ℕ) (a b : List PlanStep) → IsKeptFor text a → IsKeptFor text b → a ≡ b
kept_once text a b (inl h) (inl k) = h.1 ∙ sym k.1
kept_once text a b (inl h) (inr k) = h.1 ∙ sym (no_steps b (subst (λ t. SpellsLines (lines_of t) b) h.0 k.spells.lines))
kept_once text a b (inr h) (inl k) = no_steps a (subst (λ t. SpellsLines (lines_of t) a) k.0 h.spells.lines) ∙ sym k.1
kept_once text a b (inr h) (inr k) = one_plan (lines_of text) a b h.spells.lines k.spells.lines

pub HasSteps-prop : (text : List ℕ) → IsProp (HasSteps text)
HasSteps-prop text h k =
    let same : IsProp (h.0 ≡ k.0) = Coded-set (coded_list step_code) h.0 k.0 in
    Σ_prop_path (λ steps. ∥∥₁_prop) (∥∥₁_elim h.1 same (λ a. ∥∥₁_elim k.1 same (λ b. kept_once text h.0 k.0 a b)))

-- A text that is kept, and its steps.
use Rattle.std.proofs.Common.{◌≡◌, ◌↔◌, ℕ, List, [], ◌∷◌, length, Bool, IsTrue, refl, sym, ap, ◌∙◌, subst, inl, inr, nat_eq, arith}
use Rattle.std.specs.Bool.{Decides}
use Rattle.std.specs.Cmp.Lexicographic.{pointwise}
use Rattle.std.proofs.lemmas.Slice.Eq.{bytes_eq-Decides}
use Rattle.fab_plans_base.specs.Steps.{PlanStep}
use Rattle.fab_plans_base.specs.Plans.{plan_text}
use Rattle.fab_plans_text.specs.KeptTexts.{IsKeptFor, HasSteps, HasSteps-prop, kept_once}

-- the steps that there are are those that it is kept for
pub spelled_is : (text : List ℕ) (h : HasSteps text) (steps : List PlanStep) → IsKeptFor text steps → h.0 ≡ steps
spelled_is text h steps k = ap (λ (x : HasSteps text). x.0) (HasSteps-prop text h (steps, ∣ k ∣₁))

-- and it is kept for them
pub kept_for : (text : List ℕ) (h : HasSteps text) (steps : List PlanStep) → IsKeptFor text steps → IsKeptFor text h.0
kept_for text h steps k = subst (IsKeptFor text) (sym (spelled_is text h steps k)) k

-- no text is kept for no steps
pub blank_kept : (text : List ℕ) → text ≡ [] → IsKeptFor text []
blank_kept text e = inl (e, refl)

-- and so is a text of no length
pub nothing_kept : (text : List ℕ) (steps : List PlanStep) → IsKeptFor text steps → length text ≡ 0 → steps ≡ []
nothing_kept [] steps h e = kept_once [] steps [] h (blank_kept [] refl)
nothing_kept (b ∷ bytes) steps h e = absurd (omega arith)

-- a text that is kept is the printed form
pub kept_printed : (text : List ℕ) (steps : List PlanStep) → IsKeptFor text steps → text ≡ plan_text steps
kept_printed text steps (inl h) = h.0 ∙ ap plan_text (sym h.1)
kept_printed text steps (inr h) = h.printed

-- texts are the same just where their steps are
pub same_kept : (a b : List PlanStep) (text others : List ℕ) → IsKeptFor text a → IsKeptFor others b → text ≡ others ↔ a ≡ b
same_kept a b text others h k = (
  λ e. kept_once others a b (subst (λ t. IsKeptFor t a) e h) k,
  λ e. kept_printed text a h ∙ ap plan_text e ∙ sym (kept_printed others b k),
)

-- so texts that are compared tell it
pub same_told : (a b : List PlanStep) (text others found against : List ℕ) (is : Bool) → is ≡ pointwise nat_eq found against → found ≡ text → against ≡ others → IsKeptFor text a → IsKeptFor others b → IsTrue is ↔ a ≡ b
same_told a b text others found against is told f g h k =
    let d : Decides is (found ≡ against) = subst (λ b. Decides b (found ≡ against)) (sym told) (bytes_eq-Decides found against) in
    let same = same_kept a b text others h k in
    (λ t. same.0 (sym f ∙ d.0 t ∙ g), λ e. d.1 (f ∙ same.1 e ∙ sym g))

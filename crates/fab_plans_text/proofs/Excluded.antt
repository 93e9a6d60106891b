-- A text with a fault spells no steps.
use Rattle.std.proofs.Common.{ℕ, ◌≡◌, List, [], ◌∷◌, ◌++◌, length, length-append, map, refl, sym, ap, ◌∙◌, subst, arith, ◌⊎◌, inl, inr}
use Rattle.fab_plans_base.specs.Texts.{lines_of, words_of}
use Rattle.fab_plans_base.specs.Values.{Value, kind_of, SpellsValues}
use Rattle.fab_plans_base.specs.Steps.{PlanStep}
use Rattle.fab_plans_base.specs.Forms.{keyword_text, form_of, keyword_of, values_of, Takes, kinds_in}
use Rattle.fab_plans_base.specs.Plans.{SpellsStep, SpellsLines, Spells}
use Rattle.fab_plans_text.specs.Faults.{IsFirstFault, IsLineFault, HasTooManyLines, HasFaultyLine}
use Rattle.fab_plans_text.specs.declared.fault.PlanFaultKind.{PlanFaultKind}
use Rattle.fab_plans_text.specs.declared.fault.PlanFaultKind.TheVariants as kind
use Rattle.fab_plans_text.specs.declared.fault.PlanFault.{PlanFault}
use Rattle.fab_plans_text.proofs.PlanReadings.{as_many}
use Rattle.fab_plans_base.proofs.Unique.{one_keyword, kinds_of_step, as_many_values}

-- words that spell values have no fault
no_first_fault : (words : List (List ℕ)) (vs : List Value) (fault : PlanFaultKind) → SpellsValues words vs → ¬ (IsFirstFault (map kind_of vs) words fault)
no_first_fault [] [] fault h f = f
no_first_fault [] (v ∷ vs) fault h f = h
no_first_fault (w ∷ words) [] fault h f = h
no_first_fault (w ∷ words) (v ∷ vs) fault h (inl misread) = misread.wrong (record { value = v; same = refl; spelled = h.0 })
no_first_fault (w ∷ words) (v ∷ vs) fault h (inr later) = no_first_fault words vs fault h.1 later.1

-- a line with a fault spells no step
no_line_fault : (words : List (List ℕ)) (step : PlanStep) (fault : PlanFaultKind) → SpellsStep words step → ¬ (IsLineFault words fault)
no_line_fault [] step fault h f = h
no_line_fault (first ∷ others) step fault h (inl f) = f.unknown (keyword_of step) others (ap (λ word. word ∷ others) h.keyword)
no_line_fault (first ∷ others) step fault h (inr (inl f)) =
    let word : keyword_text (keyword_of step) ≡ keyword_text f.keyword = sym h.keyword ∙ cons_head f.first in
    let same : keyword_of step ≡ f.keyword = one_keyword (keyword_of step) f.keyword word in
    f.count (subst (λ k. Takes (form_of k) (length f.others)) same (subst (λ ws. Takes (form_of (keyword_of step)) (length ws)) (cons_tail f.first) h.count))
  where
    cons_head : {x y : List ℕ} {xs ys : List (List ℕ)} → x ∷ xs ≡ y ∷ ys → x ≡ y
    cons_head e = cc

    cons_tail : {x y : List ℕ} {xs ys : List (List ℕ)} → x ∷ xs ≡ y ∷ ys → xs ≡ ys
    cons_tail e = cc
no_line_fault (first ∷ others) step fault h (inr (inr f)) =
    let head : first ≡ keyword_text f.keyword = cc (f.first) in
    let tail : others ≡ f.others = cc (f.first) in
    let same : f.keyword ≡ keyword_of step = one_keyword f.keyword (keyword_of step) (sym head ∙ h.keyword) in
    let count : length f.others ≡ length (values_of step) = sym (ap length tail) ∙ as_many_values others (values_of step) h.values in
    let kinds : kinds_in (form_of f.keyword) (length f.others) ≡ map kind_of (values_of step) = (λ i. kinds_in (form_of (same i)) (count i)) ∙ sym (kinds_of_step step) in
    no_first_fault others (values_of step) fault h.values (subst (λ ws. IsFirstFault (map kind_of (values_of step)) ws fault) (sym tail) (subst (λ ks. IsFirstFault ks f.others fault) kinds f.word))

-- each line of a text that is spelled spells a step
spelled_at : (before : List (List ℕ)) (line : List ℕ) (after : List (List ℕ)) (steps : List PlanStep) → SpellsLines (before ++ line ∷ after) steps → (step : PlanStep) × SpellsStep (words_of line) step
spelled_at [] line after [] h = absurd h
spelled_at [] line after (s ∷ steps) h = (s, h.0)
spelled_at (l ∷ before) line after [] h = absurd h
spelled_at (l ∷ before) line after (s ∷ steps) h = spelled_at before line after steps h.1

pub no_line_too_many : (text : List ℕ) (steps : List PlanStep) (fault : PlanFault) → Spells text steps → ¬ (HasTooManyLines text fault)
no_line_too_many text steps fault h f =
    omega (arith, h.few, f.many, as_many (lines_of text) steps h.lines, ap length f.lines, length-append f.before (f.line ∷ f.after))

pub no_faulty_line : (text : List ℕ) (steps : List PlanStep) (fault : PlanFault) → Spells text steps → ¬ (HasFaultyLine text fault)
no_faulty_line text steps fault h f =
    let spelled = spelled_at f.before f.line f.after steps (subst (λ lines. SpellsLines lines steps) f.lines h.lines) in
    no_line_fault (words_of f.line) spelled.0 fault.kind spelled.1 f.first

-- so what refuses a text that spells steps is want of memory
pub only_memory : (text : List ℕ) (steps : List PlanStep) (fault : PlanFault) → Spells text steps → (fault.kind ≡ kind.Memory) ⊎ (HasTooManyLines text fault ⊎ HasFaultyLine text fault) → fault.kind ≡ kind.Memory
only_memory text steps fault h (inl memory) = memory
only_memory text steps fault h (inr (inl many)) = absurd (no_line_too_many text steps fault h many)
only_memory text steps fault h (inr (inr line)) = absurd (no_faulty_line text steps fault h line)

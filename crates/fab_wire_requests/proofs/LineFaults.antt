-- A text has one first faulty line as a plan, or spells steps, and never both.
use Rattle.std.proofs.Common.{ℕ, ◌≡◌, ◌+◌, ◌<◌, ◌≤◌, List, [], ◌∷◌, ◌++◌, length, length-append, map, refl, sym, ap, ◌∙◌, subst, arith, inl, inr}
use Rattle.fab_plans_base.specs.Limits.{most_bytes}
use Rattle.fab_plans_base.specs.Texts.{lines_of, words_of}
use Rattle.fab_plans_base.specs.Values.{Value, kind_of, SpellsValues}
use Rattle.fab_plans_base.specs.Steps.{PlanStep}
use Rattle.fab_plans_base.specs.Forms.{keyword_text, form_of, keyword_of, values_of, Takes, kinds_in}
use Rattle.fab_plans_base.specs.Plans.{SpellsStep, SpellsLines, Spells, plan_text}
use Rattle.fab_plans_text.specs.Faults.{IsFirstFault, IsLineFault, IsTooLong, IsEmptyPlan, HasTooManyLines, HasFaultyLine, PrintsTooLong, IsPlanFault}
use Rattle.fab_plans_text.specs.declared.fault.PlanFaultKind.{PlanFaultKind}
use Rattle.fab_plans_text.specs.declared.fault.PlanFault.{PlanFault}
use Rattle.fab_plans_text.proofs.PlanReadings.{as_many}
use Rattle.fab_plans_base.proofs.Unique.{one_keyword, kinds_of_step, as_many_values, one_plan}
use Rattle.fab_plans_text.proofs.Excluded.{no_line_too_many, no_faulty_line}
use Rattle.std.proofs.lemmas.Bool.{cases_order}

-- words that spell values have no fault
no-first-fault : (words : List (List ℕ)) (vs : List Value) (fault : PlanFaultKind) → SpellsValues words vs → ¬ (IsFirstFault (map kind_of vs) words fault)
no-first-fault [] [] fault h f = f
no-first-fault [] (v ∷ vs) fault h f = h
no-first-fault (w ∷ words) [] fault h f = h
no-first-fault (w ∷ words) (v ∷ vs) fault h (inl misread) = misread.wrong (record { value = v; same = refl; spelled = h.0 })
no-first-fault (w ∷ words) (v ∷ vs) fault h (inr later) = no-first-fault words vs fault h.1 later.1

-- a line that spells a step has no fault
no-line-fault : (words : List (List ℕ)) (step : PlanStep) (fault : PlanFaultKind) → SpellsStep words step → ¬ (IsLineFault words fault)
no-line-fault [] step fault h f = h
no-line-fault (first ∷ others) step fault h (inl f) = f.unknown (keyword_of step) others (ap (λ word. word ∷ others) h.keyword)
no-line-fault (first ∷ others) step fault h (inr (inl f)) =
    let head : first ≡ keyword_text f.keyword = cc (f.first) in
    let tail : others ≡ f.others = cc (f.first) in
    let same : keyword_of step ≡ f.keyword = one_keyword (keyword_of step) f.keyword (sym h.keyword ∙ head) in
    f.count (subst (λ k. Takes (form_of k) (length f.others)) same (subst (λ (ws : List (List ℕ)). Takes (form_of (keyword_of step)) (length ws)) tail h.count))
no-line-fault (first ∷ others) step fault h (inr (inr f)) =
    let head : first ≡ keyword_text f.keyword = cc (f.first) in
    let tail : others ≡ f.others = cc (f.first) in
    let same : f.keyword ≡ keyword_of step = one_keyword f.keyword (keyword_of step) (sym head ∙ h.keyword) in
    let count : length f.others ≡ length (values_of step) = sym (ap length tail) ∙ as_many_values others (values_of step) h.values in
    let kinds : kinds_in (form_of f.keyword) (length f.others) ≡ map kind_of (values_of step) = (λ i. kinds_in (form_of (same i)) (count i)) ∙ sym (kinds_of_step step) in
    no-first-fault others (values_of step) fault h.values (subst (λ ws. IsFirstFault (map kind_of (values_of step)) ws fault) (sym tail) (subst (λ ks. IsFirstFault ks f.others fault) kinds f.word))

-- the line behind fewer lines is one of those that spell steps
inside : (before : List (List ℕ)) (line : List ℕ) (after others rest : List (List ℕ)) (steps : List PlanStep) → before ++ line ∷ after ≡ others ++ rest → SpellsLines others steps → length before < length others
    → (step : PlanStep) × SpellsStep (words_of line) step
inside before line after [] rest steps e h less = absurd (omega (arith, less))
inside before line after (l ∷ others) rest [] e h less = absurd h
inside [] line after (l ∷ others) rest (s ∷ steps) e h less = let same : line ≡ l = cc e in (s, subst (λ (x : List ℕ). SpellsStep (words_of x) s) (sym same) h.0)
inside (k ∷ before) line after (l ∷ others) rest (s ∷ steps) e h less = let tail : before ++ line ∷ after ≡ others ++ rest = cc e in inside before line after others rest steps tail h.1 (omega (arith, less))

-- the same where all lines spell steps
inside-all : (before : List (List ℕ)) (line : List ℕ) (after lines : List (List ℕ)) (steps : List PlanStep) → lines ≡ before ++ line ∷ after → SpellsLines lines steps → (step : PlanStep) × SpellsStep (words_of line) step
inside-all before line after [] steps e h = absurd (omega (arith, ap length e, length-append before (line ∷ after)))
inside-all before line after (l ∷ lines) [] e h = absurd h
inside-all [] line after (l ∷ lines) (s ∷ steps) e h = let same : line ≡ l = cc e in (s, subst (λ (x : List ℕ). SpellsStep (words_of x) s) (sym same) h.0)
inside-all (k ∷ before) line after (l ∷ lines) (s ∷ steps) e h = let tail : lines ≡ before ++ line ∷ after = cc e in inside-all before line after lines steps tail h.1

-- the empty text has no line
no-line : (text : List ℕ) (before : List (List ℕ)) (line : List ℕ) (after : List (List ℕ)) → text ≡ [] → lines_of text ≡ before ++ line ∷ after → ⊥
no-line text before line after e h = absurd (omega (arith, ap (λ (t : List ℕ). length (lines_of t)) e, ap length h, length-append before (line ∷ after)))

-- no text that spells steps has a fault
pub no-plan-fault : (text : List ℕ) (steps : List PlanStep) (fault : PlanFault) → Spells text steps → IsPlanFault text fault → ⊥
no-plan-fault text steps fault h (inl f) = absurd (omega (arith, h.short, f.long))
no-plan-fault text steps fault h (inr (inl f)) =
    absurd (omega (arith, h.some, ap (λ (t : List ℕ). length (lines_of t)) f.empty, as_many (lines_of text) steps h.lines))
no-plan-fault text steps fault h (inr (inr (inl f))) = no_line_too_many text steps fault h f
no-plan-fault text steps fault h (inr (inr (inr (inl f)))) = no_faulty_line text steps fault h f
no-plan-fault text steps fault h (inr (inr (inr (inr f)))) =
    let same : f.steps ≡ steps = one_plan (lines_of text) f.steps steps f.spelled h.lines in
    absurd (omega (arith, f.long, h.printed_short, ap (λ (s : List PlanStep). length (plan_text s)) same))

-- so many lines are too many for a faulty line among those that a plan may have
many-or-line : (text : List ℕ) (f g : PlanFault) → HasTooManyLines text f → HasFaultyLine text g → ⊥
many-or-line text f g h k =
    let at = inside k.before k.line k.after h.before (h.line ∷ h.after) h.steps (sym k.lines ∙ h.lines) h.spelled (omega (arith, k.few, h.many)) in
    no-line-fault (words_of k.line) at.0 g.kind at.1 k.first

many-or-printed : (text : List ℕ) (f g : PlanFault) → HasTooManyLines text f → PrintsTooLong text g → ⊥
many-or-printed text f g h k =
    absurd (omega (arith, h.many, k.few, ap length h.lines, length-append h.before (h.line ∷ h.after), as_many (lines_of text) k.steps k.spelled))

line-or-printed : (text : List ℕ) (f g : PlanFault) → HasFaultyLine text f → PrintsTooLong text g → ⊥
line-or-printed text f g h k =
    let at = inside-all h.before h.line h.after (lines_of text) k.steps h.lines k.spelled in no-line-fault (words_of h.line) at.0 f.kind at.1 h.first

empty-or-printed : (text : List ℕ) (f g : PlanFault) → IsEmptyPlan text f → PrintsTooLong text g → ⊥
empty-or-printed text f g h k =
    let none : length k.steps ≡ 0 = sym (as_many (lines_of text) k.steps k.spelled) ∙ ap (λ (t : List ℕ). length (lines_of t)) h.empty in no-steps k.steps none k.long
  where
    no-steps : (steps : List PlanStep) → length steps ≡ 0 → most_bytes < length (plan_text steps) → ⊥
    no-steps [] e long = absurd (omega (arith, long))
    no-steps (s ∷ steps) e long = absurd (omega (arith, e))

-- a faulty line stands behind no other
behind : (text : List ℕ) (f g : PlanFault) (h : HasFaultyLine text f) (k : HasFaultyLine text g) → length h.before < length k.before → ⊥
behind text f g h k less =
    let at = inside h.before h.line h.after k.before (k.line ∷ k.after) k.steps (sym h.lines ∙ k.lines) k.spelled less in
    no-line-fault (words_of h.line) at.0 f.kind at.1 h.first

-- two faulty lines are one
line-or-line : (text : List ℕ) (f g : PlanFault) → HasFaultyLine text f → HasFaultyLine text g → f.line ≡ g.line
line-or-line text f g h k =
    elim (cases_order (length h.before) (length k.before)) [
      | inl same ↦ h.place ∙ ap (λ n. n + 1) same ∙ sym k.place
      | inr (inl less) ↦ absurd (behind text f g h k less)
      | inr (inr more) ↦ absurd (behind text g f k h more)
    ]

-- a text that is not too long is not too long
short-or-long : (text : List ℕ) (f : PlanFault) → length text ≤ most_bytes → IsTooLong text f → ⊥
short-or-long text f short h = absurd (omega (arith, short, h.long))

empty-or-long : (text : List ℕ) (f g : PlanFault) → IsEmptyPlan text f → IsTooLong text g → ⊥
empty-or-long text f g h k = absurd (omega (arith, k.long, ap length h.empty))

-- the faults of a text stand at one line
pub one-plan-fault : (text : List ℕ) (f g : PlanFault) → IsPlanFault text f → IsPlanFault text g → f.line ≡ g.line
one-plan-fault text f g (inl h) (inl k) = ap (λ x. x.line) (h.which ∙ sym k.which)
one-plan-fault text f g (inl h) (inr (inl k)) = absurd (empty-or-long text g f k h)
one-plan-fault text f g (inl h) (inr (inr (inl k))) = absurd (short-or-long text f k.short h)
one-plan-fault text f g (inl h) (inr (inr (inr (inl k)))) = absurd (short-or-long text f k.short h)
one-plan-fault text f g (inl h) (inr (inr (inr (inr k)))) = absurd (short-or-long text f k.short h)
one-plan-fault text f g (inr (inl h)) (inl k) = absurd (empty-or-long text f g h k)
one-plan-fault text f g (inr (inl h)) (inr (inl k)) = ap (λ x. x.line) (h.which ∙ sym k.which)
one-plan-fault text f g (inr (inl h)) (inr (inr (inl k))) = absurd (no-line text k.before k.line k.after h.empty k.lines)
one-plan-fault text f g (inr (inl h)) (inr (inr (inr (inl k)))) = absurd (no-line text k.before k.line k.after h.empty k.lines)
one-plan-fault text f g (inr (inl h)) (inr (inr (inr (inr k)))) = absurd (empty-or-printed text f g h k)
one-plan-fault text f g (inr (inr (inl h))) (inl k) = absurd (short-or-long text g h.short k)
one-plan-fault text f g (inr (inr (inl h))) (inr (inl k)) = absurd (no-line text h.before h.line h.after k.empty h.lines)
one-plan-fault text f g (inr (inr (inl h))) (inr (inr (inl k))) = ap (λ x. x.line) (h.which ∙ sym k.which)
one-plan-fault text f g (inr (inr (inl h))) (inr (inr (inr (inl k)))) = absurd (many-or-line text f g h k)
one-plan-fault text f g (inr (inr (inl h))) (inr (inr (inr (inr k)))) = absurd (many-or-printed text f g h k)
one-plan-fault text f g (inr (inr (inr (inl h)))) (inl k) = absurd (short-or-long text g h.short k)
one-plan-fault text f g (inr (inr (inr (inl h)))) (inr (inl k)) = absurd (no-line text h.before h.line h.after k.empty h.lines)
one-plan-fault text f g (inr (inr (inr (inl h)))) (inr (inr (inl k))) = absurd (many-or-line text g f k h)
one-plan-fault text f g (inr (inr (inr (inl h)))) (inr (inr (inr (inl k)))) = line-or-line text f g h k
one-plan-fault text f g (inr (inr (inr (inl h)))) (inr (inr (inr (inr k)))) = absurd (line-or-printed text f g h k)
one-plan-fault text f g (inr (inr (inr (inr h)))) (inl k) = absurd (short-or-long text g h.short k)
one-plan-fault text f g (inr (inr (inr (inr h)))) (inr (inl k)) = absurd (empty-or-printed text g f k h)
one-plan-fault text f g (inr (inr (inr (inr h)))) (inr (inr (inl k))) = absurd (many-or-printed text g f k h)
one-plan-fault text f g (inr (inr (inr (inr h)))) (inr (inr (inr (inl k)))) = absurd (line-or-printed text g f k h)
one-plan-fault text f g (inr (inr (inr (inr h)))) (inr (inr (inr (inr k)))) = ap (λ x. x.line) (h.which ∙ sym k.which)

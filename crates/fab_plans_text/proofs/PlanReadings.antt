-- What is read of a text, line by line.
use Rattle.std.specs.List.{onto_first}
use Rattle.std.proofs.Common.{ℕ, ◌≡◌, ◌≢◌, ◌<◌, ◌≤◌, ◌+◌, ◌↔◌, suc, Bool, true, false, IsTrue, cond, eqb, List, [], ◌∷◌, ◌++◌, length, length-append, append_assoc, append-nil, refl, sym, ap, ◌∙◌, subst, ◌⊎◌, inl, inr, arith}
use Rattle.std.specs.Str.{IsUtf8}
use Rattle.std.proofs.lemmas.Bool.{false≢true, ne_eqb}
use mathlib.Core.Bool.{true≢false}
use Rattle.fab_plans_base.specs.Limits.{most_bytes, most_steps}
use Rattle.fab_plans_base.specs.Texts.{lines_of, words_of}
use Rattle.fab_plans_base.specs.Steps.{PlanStep}
use Rattle.fab_plans_base.specs.Plans.{SpellsStep, SpellsLines, Spells, plan_text}
use Rattle.fab_plans_text.specs.Faults.{IsFaultAt, HasTooManyLines, HasFaultyLine, IsPlanFault}
use Rattle.fab_plans_text.specs.declared.fault.PlanFault.{PlanFault}
use Rattle.fab_plans_text.specs.declared.fault.PlanFaultKind.TheVariants as kind

-- the lines up to the rest are read as the steps
pub record HasRead (text rest : List ℕ) (steps : List PlanStep) : Type 0 where
  pub before : List (List ℕ)
  pub lines : lines_of text ≡ before ++ lines_of rest
  pub spelled : SpellsLines before steps
  pub few : length steps ≤ most_steps
  pub utf8 : IsUtf8 rest

-- each line has a step
pub as_many : (lines : List (List ℕ)) (steps : List PlanStep) → SpellsLines lines steps → length lines ≡ length steps
as_many [] [] h = refl
as_many [] (s ∷ steps) h = absurd h
as_many (l ∷ lines) [] h = absurd h
as_many (l ∷ lines) (s ∷ steps) h = ap suc (as_many lines steps h.1)

one_more : (lines : List (List ℕ)) (steps : List PlanStep) (line : List ℕ) (step : PlanStep) → SpellsLines lines steps → SpellsStep (words_of line) step → SpellsLines (lines ++ line ∷ []) (steps ++ step ∷ [])
one_more [] [] line step h s = (s, tt)
one_more [] (x ∷ steps) line step h s = absurd h
one_more (l ∷ lines) [] line step h s = absurd h
one_more (l ∷ lines) (x ∷ steps) line step h s = (h.0, one_more lines steps line step h.1 s)

-- at first nothing is read
pub read_none : (text : List ℕ) → IsUtf8 text → HasRead text text []
read_none text utf8 = record { before = []; lines = refl; spelled = tt; few = omega arith; utf8 = utf8 }

-- one line more is read
pub read_more : (text rest line after : List ℕ) (steps : List PlanStep) (step : PlanStep) → HasRead text rest steps → lines_of rest ≡ line ∷ lines_of after → SpellsStep (words_of line) step → length steps + 1 ≤ most_steps → IsUtf8 after
    → HasRead text after (steps ++ step ∷ [])
read_more text rest line after steps step h cut spelled few utf8 = record {
  before = h.before ++ line ∷ [];
  lines = h.lines ∙ ap (λ more. h.before ++ more) cut ∙ sym (append_assoc h.before (line ∷ []) (lines_of after));
  spelled = one_more h.before steps line step h.spelled spelled;
  few = omega (arith, length-append steps (step ∷ []));
  utf8 = utf8;
}

-- at last all is read
pub read_all : (text : List ℕ) (steps : List PlanStep) → HasRead text [] steps → SpellsLines (lines_of text) steps
read_all text steps h = subst (λ lines. SpellsLines lines steps) (sym (h.lines ∙ append-nil h.before)) h.spelled

-- what refuses the next line refuses the text
pub refused : (text rest line after : List ℕ) (steps : List PlanStep) (number : ℕ) (fault : PlanFault) → length text ≤ most_bytes → HasRead text rest steps → lines_of rest ≡ line ∷ lines_of after → number ≡ length steps + 1
    → (fault.kind ≡ kind.Memory) ⊎ IsFaultAt number (words_of line) fault → (fault.kind ≡ kind.Memory) ⊎ (HasTooManyLines text fault ⊎ HasFaultyLine text fault)
refused text rest line after steps number fault short h cut is (inl memory) = inl memory
refused text rest line after steps number fault short h cut is (inr (inl f)) =
    let all : number ≡ most_steps + 1 = omega (arith, h.few, f.many) in
    inr (inl (record {
      short = short;
      before = h.before;
      line = line;
      after = lines_of after;
      lines = h.lines ∙ ap (λ more. h.before ++ more) cut;
      steps = steps;
      spelled = h.spelled;
      many = omega (arith, as_many h.before steps h.spelled);
      which = f.which ∙ (λ i. record { line = all i; kind = kind.Steps });
    }))
refused text rest line after steps number fault short h cut is (inr (inr f)) = inr (inr (record {
  short = short;
  before = h.before;
  line = line;
  after = lines_of after;
  lines = h.lines ∙ ap (λ more. h.before ++ more) cut;
  steps = steps;
  spelled = h.spelled;
  few = omega (arith, f.few, as_many h.before steps h.spelled);
  place = omega (arith, f.place, as_many h.before steps h.spelled);
  first = f.first;
}))

onto_some : (b : Bool) (c : ℕ) (more lines : List (List ℕ)) → ¬ (cond b ([] ∷ more) (onto_first c lines) ≡ [])
onto_some true c more lines e = cc
onto_some false c more [] e = cc
onto_some false c more (l ∷ lines) e = cc

-- a text that is not empty has a line, and so its lines spell a step
pub some_step : (text : List ℕ) (steps : List PlanStep) → text ≢ [] → SpellsLines (lines_of text) steps → 1 ≤ length steps
some_step [] steps some h = absurd (some refl)
some_step (c ∷ cs) [] some h = absurd (onto_some (eqb c 10) c (lines_of cs) (lines_of cs) (none (lines_of (c ∷ cs)) h))
  where
    none : (lines : List (List ℕ)) → SpellsLines lines [] → lines ≡ []
    none [] h = refl
    none (l ∷ lines) h = absurd h
some_step (c ∷ cs) (s ∷ steps) some h = omega arith

-- a text that is called empty is
pub ended : (text : List ℕ) (empty : Bool) → empty ≡ eqb (length text) 0 → empty ≡ true → text ≡ []
ended [] empty says h = refl
ended (c ∷ cs) empty says h = absurd (false≢true (sym (says ∙ ne_eqb (length (c ∷ cs)) 0 (λ e. omega arith)) ∙ h))

-- an empty text spells no steps
pub spells_none : (text : List ℕ) (steps : List PlanStep) → text ≡ [] → ¬ (Spells text steps)
spells_none text [] e h = omega (arith, h.some)
spells_none text (s ∷ steps) e h = subst (λ t. SpellsLines (lines_of t) (s ∷ steps)) e h.lines

-- what refuses the lines of a text refuses it as a plan
pub plan_fault : (text : List ℕ) (fault : PlanFault) → (fault.kind ≡ kind.Memory) ⊎ (HasTooManyLines text fault ⊎ HasFaultyLine text fault) → (fault.kind ≡ kind.Memory) ⊎ IsPlanFault text fault
plan_fault text fault (inl memory) = inl memory
plan_fault text fault (inr (inl many)) = inr (inr (inr (inl many)))
plan_fault text fault (inr (inr line)) = inr (inr (inr (inr (inl line))))

-- steps that are not told short are printed too long
pub long_printed : (steps told : List PlanStep) (short : Bool) → told ≡ steps → IsTrue short ↔ (length (plan_text told) ≤ most_bytes) → short ≡ false → most_bytes < length (plan_text steps)
long_printed steps told short same says refused =
    let long : ¬ (length (plan_text told) ≤ most_bytes) = λ fits. true≢false (sym (says.1 fits) ∙ refused) in
    let as_long = ap (λ x. length (plan_text x)) same in
    omega arith

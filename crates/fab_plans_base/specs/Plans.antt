-- The grammar of plan texts, and the printed form of a plan.
use Rattle.std.specs.Prelude.{ℕ, ◌≡◌, ◌≤◌, List, [], ◌∷◌, ◌++◌, length, codes}
use Rattle.std.specs.List.{flat_map}
use Rattle.fab_plans_base.specs.Limits.{most_bytes, most_steps}
use Rattle.fab_plans_base.specs.Texts.{lines_of, words_of}
use Rattle.fab_plans_base.specs.Values.{Value, SpellsValues, value_text}
use Rattle.fab_plans_base.specs.Steps.{PlanStep}
use Rattle.fab_plans_base.specs.Forms.{keyword_text, form_of, keyword_of, values_of, Takes}

-- the first word of a line is that of the step, and the others are texts of its values, not too few or too many
pub record SpellsWords (first : List ℕ) (others : List (List ℕ)) (step : PlanStep) : Type 0 where
  pub keyword : first ≡ keyword_text (keyword_of step)
  pub values : SpellsValues others (values_of step)
  pub count : Takes (form_of (keyword_of step)) (length others)

-- the words of a line spell the step
abbrev pub SpellsStep : List (List ℕ) → PlanStep → Type 0
SpellsStep [] step = ⊥
SpellsStep (first ∷ others) step = SpellsWords first others step

-- some line spells the step
abbrev pub IsStep : PlanStep → Type 0
IsStep step = (line : List ℕ) × SpellsStep (words_of line) step

-- each line spells a step
abbrev pub SpellsLines : List (List ℕ) → List PlanStep → Type 0
SpellsLines [] [] = Unit {0}
SpellsLines [] (s ∷ ss) = ⊥
SpellsLines (l ∷ ls) [] = ⊥
SpellsLines (l ∷ ls) (s ∷ ss) = SpellsStep (words_of l) s × SpellsLines ls ss

-- the printed form of a value in a line, behind one space
abbrev pub spaced : Value → List ℕ
spaced value = codes " " ++ value_text value

-- the printed form of a step, ended by a line feed
abbrev pub step_text : PlanStep → List ℕ
step_text step = keyword_text (keyword_of step) ++ flat_map spaced (values_of step) ++ codes "\n"

-- the printed form of steps
abbrev pub plan_text : List PlanStep → List ℕ
plan_text steps = flat_map step_text steps

-- so many steps may stand in a plan, and their printed form is not too long
pub record IsWithinLimits (steps : List PlanStep) : Type 0 where
  pub some : 1 ≤ length steps
  pub few : length steps ≤ most_steps
  pub short : length (plan_text steps) ≤ most_bytes

-- the lines of the text spell the steps, which are not too many
pub record AreRead (text : List ℕ) (steps : List PlanStep) : Type 0 where
  pub lines : SpellsLines (lines_of text) steps
  pub some : 1 ≤ length steps
  pub few : length steps ≤ most_steps

-- the text spells the steps, line by line, and neither it nor their printed form is too long
pub record Spells (text : List ℕ) (steps : List PlanStep) : Type 0 where
  pub lines : SpellsLines (lines_of text) steps
  pub some : 1 ≤ length steps
  pub few : length steps ≤ most_steps
  pub short : length text ≤ most_bytes
  pub printed_short : length (plan_text steps) ≤ most_bytes

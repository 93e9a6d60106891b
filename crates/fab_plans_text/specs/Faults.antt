-- The faults of plan texts: which stands, and that it stands first.
use Rattle.std.specs.Prelude.{ℕ, ◌≡◌, ◌+◌, ◌<◌, ◌≤◌, List, [], ◌∷◌, ◌++◌, length, ◌⊎◌, Result, MatchResult}
use Rattle.fab_plans_base.specs.Limits.{most_bytes, most_steps}
use Rattle.fab_plans_base.specs.Texts.{lines_of, words_of}
use Rattle.fab_plans_base.specs.Values.{Kind, kind_of, Value, SpellsValue, a_fabric, a_name, a_flag, a_member, a_port_member, a_wwn, a_unit}
use Rattle.fab_plans_base.specs.Steps.{PlanStep}
use Rattle.fab_plans_base.specs.Forms.{keyword_text, form_of, Takes, kinds_in}
use Rattle.fab_plans_base.specs.Plans.{SpellsStep, SpellsLines, plan_text}
use Rattle.fab_plans_base.specs.declared.keyword.Keyword.{Keyword}
use Rattle.fab_plans_text.specs.declared.fault.PlanFaultKind.{PlanFaultKind}
use Rattle.fab_plans_text.specs.declared.fault.PlanFaultKind.TheVariants as kind
use Rattle.fab_plans_text.specs.declared.fault.PlanFault.{PlanFault}

-- the fault of a word that should be of a kind and is not
abbrev pub fault_of : Kind → PlanFaultKind
fault_of a_fabric = kind.Fabric
fault_of a_name = kind.Name
fault_of a_flag = kind.Flag
fault_of a_member = kind.Member
fault_of a_port_member = kind.Member
fault_of a_wwn = kind.Wwn
fault_of a_unit = kind.Number

-- the word is a text of some value of the kind
pub record IsOfKind (kind : Kind) (word : List ℕ) : Type 0 where
  pub value : Value
  pub same : kind_of value ≡ kind
  pub spelled : SpellsValue word value

-- the word is no text of the kind, and this is its fault
pub record IsMisread (kind : Kind) (word : List ℕ) (fault : PlanFaultKind) : Type 0 where
  pub wrong : ¬ IsOfKind kind word
  pub which : fault ≡ fault_of kind

-- from left to right, the first word that is not of its kind has this fault
abbrev pub IsFirstFault : List Kind → List (List ℕ) → PlanFaultKind → Type 0
IsFirstFault [] words fault = ⊥
IsFirstFault (k ∷ ks) [] fault = ⊥
IsFirstFault (k ∷ ks) (w ∷ ws) fault = IsMisread k w fault ⊎ (IsOfKind k w × IsFirstFault ks ws fault)

-- memory was refused, or the fault is as said
abbrev pub MemoryOr : (PlanFaultKind → Type 0) → PlanFaultKind → Type 0
MemoryOr IsFault fault = (fault ≡ kind.Memory) ⊎ IsFault fault

-- what is read of the words that follow a keyword: a step that they spell, or their first fault
abbrev pub ReadsWords : Keyword → List (List ℕ) → Result PlanStep PlanFaultKind → Type 0
ReadsWords keyword others result =
    MatchResult result (SpellsStep (keyword_text keyword ∷ others)) (MemoryOr (IsFirstFault (kinds_in (form_of keyword) (length others)) others))

-- the first word begins no line
pub record IsUnknown (words : List (List ℕ)) (fault : PlanFaultKind) : Type 0 where
  pub unknown : (keyword : Keyword) (others : List (List ℕ)) → ¬ (words ≡ keyword_text keyword ∷ others)
  pub which : fault ≡ kind.Word

-- so many words may not follow the first
pub record IsMiscounted (words : List (List ℕ)) (fault : PlanFaultKind) : Type 0 where
  pub keyword : Keyword
  pub others : List (List ℕ)
  pub first : words ≡ keyword_text keyword ∷ others
  pub count : ¬ (Takes (form_of keyword) (length others))
  pub which : fault ≡ kind.Count

-- the number of words is right, and one of them has the fault
pub record HasFaultyWord (words : List (List ℕ)) (fault : PlanFaultKind) : Type 0 where
  pub keyword : Keyword
  pub others : List (List ℕ)
  pub first : words ≡ keyword_text keyword ∷ others
  pub count : Takes (form_of keyword) (length others)
  pub word : IsFirstFault (kinds_in (form_of keyword) (length others)) others fault

-- the first fault of a line: its first word, then the number of its words, then the words from left to right
abbrev pub IsLineFault : List (List ℕ) → PlanFaultKind → Type 0
IsLineFault words fault = IsUnknown words fault ⊎ (IsMiscounted words fault ⊎ HasFaultyWord words fault)

-- a plan has no line of this number
pub record IsLineTooMany (number : ℕ) (fault : PlanFault) : Type 0 where
  pub many : most_steps < number
  pub which : fault ≡ record { line = number; kind = kind.Steps }

-- the line of this number has the fault
pub record IsFaultInLine (number : ℕ) (words : List (List ℕ)) (fault : PlanFault) : Type 0 where
  pub few : number ≤ most_steps
  pub place : fault.line ≡ number
  pub first : IsLineFault words fault.kind

-- what refuses the line of this number
abbrev pub IsFaultAt : ℕ → List (List ℕ) → PlanFault → Type 0
IsFaultAt number words fault = IsLineTooMany number fault ⊎ IsFaultInLine number words fault

-- the text itself is too long
pub record IsTooLong (text : List ℕ) (fault : PlanFault) : Type 0 where
  pub long : most_bytes < length text
  pub which : fault ≡ record { line = 0; kind = kind.Text }

-- the text has no line
pub record IsEmptyPlan (text : List ℕ) (fault : PlanFault) : Type 0 where
  pub empty : text ≡ []
  pub which : fault ≡ record { line = 1; kind = kind.Empty }

-- as many lines as a plan has at most spell steps, and there is one more
pub record HasTooManyLines (text : List ℕ) (fault : PlanFault) : Type 0 where
  pub short : length text ≤ most_bytes
  pub before : List (List ℕ)
  pub line : List ℕ
  pub after : List (List ℕ)
  pub lines : lines_of text ≡ before ++ line ∷ after
  pub steps : List PlanStep
  pub spelled : SpellsLines before steps
  pub many : length before ≡ most_steps
  pub which : fault ≡ record { line = most_steps + 1; kind = kind.Steps }

-- one of the lines up to the last that a plan may have has the fault, and each before it spells a step
pub record HasFaultyLine (text : List ℕ) (fault : PlanFault) : Type 0 where
  pub short : length text ≤ most_bytes
  pub before : List (List ℕ)
  pub line : List ℕ
  pub after : List (List ℕ)
  pub lines : lines_of text ≡ before ++ line ∷ after
  pub steps : List PlanStep
  pub spelled : SpellsLines before steps
  pub few : length before < most_steps
  pub place : fault.line ≡ length before + 1
  pub first : IsLineFault (words_of line) fault.kind

-- the printed form of the steps that the lines spell is too long
pub record PrintsTooLong (text : List ℕ) (fault : PlanFault) : Type 0 where
  pub short : length text ≤ most_bytes
  pub steps : List PlanStep
  pub spelled : SpellsLines (lines_of text) steps
  pub few : length steps ≤ most_steps
  pub long : most_bytes < length (plan_text steps)
  pub which : fault ≡ record { line = 0; kind = kind.Text }

-- the fault that comes first: the text's own length, then the first line with a fault, then the printed form's length
abbrev pub IsPlanFault : List ℕ → PlanFault → Type 0
IsPlanFault text fault = IsTooLong text fault ⊎ (IsEmptyPlan text fault ⊎ (HasTooManyLines text fault ⊎ (HasFaultyLine text fault ⊎ PrintsTooLong text fault)))

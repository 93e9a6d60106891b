-- Lists in a word of the command line.
use Rattle.std.specs.Prelude.{◌≡◌, ℕ, ◌<◌, ◌==◌, List, ◌∷◌, ◌++◌, length, All}
use Rattle.std.specs.List.{slice_split}
use Rattle.fab_names.specs.Names.{IsNameText}
use Rattle.fab_policy.specs.declared.act.Approval.{Approval}
use Rattle.fab_program_words.specs.Values.{SpellsNumber64}
use Rattle.fab_program_words.specs.declared.lists.Part.{Part}
use Rattle.fab_program_words.specs.declared.lists.Part.TheVariants as part

-- what stands between commas
abbrev pub parts_of : List ℕ → List (List ℕ)
parts_of text = slice_split (λ c. c == 44) text

-- the name of who approved, `@`, and the revision
pub record SpellsApproval (text : List ℕ) (a : Approval) : Type 0 where
  pub number : List ℕ
  pub parts : text ≡ a.caller ++ 64 ∷ number
  pub named : IsNameText a.caller
  pub numbered : SpellsNumber64 number a.revision

-- the text of a part of this kind
abbrev pub IsPart : Part → List ℕ → Type 0
IsPart part.Name text = IsNameText text
IsPart part.Approval text = (a : Approval) × SpellsApproval text a

-- each part of the text is of this kind
abbrev pub IsListText : Part → List ℕ → Type 0
IsListText kind text = All (IsPart kind) (parts_of text)

-- such a text, for itself
abbrev pub SpellsList : Part → List ℕ → List ℕ → Type 0
SpellsList kind text x = (x ≡ text) × IsListText kind text

-- the first part of a text, and the text behind the comma that ends it
pub record IsPartCut (text first rest : List ℕ) : Type 0 where
  pub parts : parts_of text ≡ first ∷ parts_of rest
  pub shorter : length rest < length text

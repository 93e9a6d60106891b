-- How the rows of an inventory are listed, table by table: what the private functions say of
-- themselves. No public contract names anything of this file.
use Rattle.std.specs.Prelude.{◌≡◌, ◌++◌, ◌∷◌, [], ◌⊎◌, List, Contains, Option, None, Some}

-- the row, if there is one, was put at the end if it has P, and else nothing was
abbrev pub IsPushed : {R : Type 0} → (R → Type 0) → Option R → List R → List R → Type 0
IsPushed P None old new = new ≡ old
IsPushed P (Some r) old new = (P r × (new ≡ old ++ r ∷ [])) ⊎ (¬ P r × (new ≡ old))

-- the row is the entry's, and has P
abbrev pub IsRowOfEntry : {K X R : Type 0} → (K → X → Option R) → (R → Type 0) → K × X → R → Type 0
IsRowOfEntry row P e r = P r × (row e.0 e.1 ≡ Some r)

-- the row of one of the entries
abbrev pub IsRowOfEntries : {K X R : Type 0} → (K → X → Option R) → (R → Type 0) → List (K × X) → R → Type 0
IsRowOfEntries {K} {X} row P es r = (e : K × X) × Contains es e × IsRowOfEntry row P e r

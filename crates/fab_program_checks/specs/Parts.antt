-- What the parts of a list spell.
use Rattle.std.specs.Prelude.{◌≡◌, ◌⊎◌, ℕ, List, [], ◌∷◌, ◌++◌, Option, Some, None}
use Rattle.fab_program_words.specs.Lists.{parts_of}

-- what the parts spell, in their order: each part that spells something has its place
abbrev pub AreRead : {X : Type 0} → (List ℕ → X → Type 0) → List (List ℕ) → List X → Type 0
AreRead Spells [] xs = xs ≡ []
AreRead {X} Spells (t ∷ ts) xs =
    ((x : X) × (rest : List X) × (xs ≡ x ∷ rest) × Spells t x × AreRead Spells ts rest) ⊎ (((x : X) → ¬ Spells t x) × AreRead Spells ts xs)

-- what the parts of a text spell; nothing where there is no text
abbrev pub AreReadIn : {X : Type 0} → (List ℕ → X → Type 0) → Option (List ℕ) → List X → Type 0
AreReadIn Spells None xs = xs ≡ []
AreReadIn Spells (Some text) xs = AreRead Spells (parts_of text) xs

-- what a part spells is added, if it spells something
abbrev pub AddsRead : {X : Type 0} → (List ℕ → X → Type 0) → List ℕ → List X → List X → Type 0
AddsRead {X} Spells t old new = ((x : X) × Spells t x × (new ≡ old ++ x ∷ [])) ⊎ (((x : X) → ¬ Spells t x) × (new ≡ old))

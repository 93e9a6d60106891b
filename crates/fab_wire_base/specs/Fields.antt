-- What the values of the header lines of one name say.
use Rattle.std.specs.Prelude.{ℕ, ◌≡◌, ◌≢◌, List, [], ◌∷◌, Bool, true, false, ◌==◌, if◌then◌else◌, Option, Some, None, codes, take, drop, length, All}
use Rattle.httparse.specs.Spans.{span_bytes, IsWithin}
use Rattle.fab_names.specs.Numbers.{SpellsNumber}
use Rattle.fab_wire_base.specs.Lines.{are_same_name}
use Rattle.fab_wire_base.specs.declared.fields.Length.{Length}
use Rattle.fab_wire_base.specs.declared.fields.Length.TheVariants.{Missing, Is, Bad}
use Rattle.fab_wire_base.specs.declared.fields.Only.{Only}
use Rattle.fab_wire_base.specs.declared.fields.Only.TheVariants.{Nothing, One, Several}

-- the length that Content-Length values give: none where there are none, the number that each of them spells, or a bad one where no number is spelled by each
abbrev pub IsLengthOf : List (List ℕ) → Length → Type 0
IsLengthOf values Missing = values ≡ []
IsLengthOf values (Is number) = (values ≢ []) × All (λ value. SpellsNumber value number) values
IsLengthOf values Bad = (number : ℕ) → ¬ (All (λ value. SpellsNumber value number) values)

-- a text without the spaces at its start
abbrev pub skip_spaces : List ℕ → List ℕ
skip_spaces [] = []
skip_spaces (c ∷ text) = if c == 32 then skip_spaces text else c ∷ text

-- what stands behind one or more spaces
abbrev pub behind_spaces : List ℕ → Option (List ℕ)
behind_spaces [] = None
behind_spaces (c ∷ text) = if c == 32 then Some (skip_spaces text) else None

-- the token of an Authorization value: 'Bearer' in any case, one or more spaces, and the token
abbrev pub bearer_of : List ℕ → Option (List ℕ)
bearer_of value = if are_same_name (take 6 value) (codes "bearer") then behind_spaces (drop 6 value) else None

-- the token of the caller, where there is exactly one Authorization value
abbrev pub token_of : List (List ℕ) → Option (List ℕ)
token_of [] = None
token_of (value ∷ []) = bearer_of value
token_of (value ∷ another ∷ values) = None

-- whether there is a value
abbrev pub is_given : List (List ℕ) → Bool
is_given [] = false
is_given (value ∷ values) = true

-- no value, exactly the one of the span, or two at least
abbrev pub IsOnly : List ℕ → List (List ℕ) → Only → Type 0
IsOnly buf values Nothing = values ≡ []
IsOnly buf values (One span) = (values ≡ span_bytes buf span ∷ []) × IsWithin (length buf) span
IsOnly buf values Several = (first : List ℕ) × (second : List ℕ) × (rest : List (List ℕ)) × (values ≡ first ∷ second ∷ rest)

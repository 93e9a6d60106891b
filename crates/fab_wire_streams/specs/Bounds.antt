-- How long texts of JSON are at most.
use Rattle.std.specs.Prelude.{ℕ, ◌+◌, ◌*◌, length, List, [], ◌∷◌, Option, Some, None}

-- a string of so many bytes: six for each, and the quotes
abbrev pub string_most : ℕ → ℕ
string_most bytes = 6 * bytes + 2

-- a comma, a key and its colon
abbrev pub key_most : List ℕ → ℕ
key_most key = string_most (length key) + 2

-- a bound on the text of a value, or of null
abbrev pub or_most : {X : Type 0} → (X → ℕ) → Option X → ℕ
or_most f None = 4
or_most f (Some x) = f x

-- a bound on the text of a value, if there is one
abbrev pub maybe_most : {X : Type 0} → (X → ℕ) → Option X → ℕ
maybe_most f None = 0
maybe_most f (Some x) = f x

-- the sum over a list
abbrev pub sum_of : {X : Type 0} → (X → ℕ) → List X → ℕ
sum_of f [] = 0
sum_of f (x ∷ xs) = f x + sum_of f xs

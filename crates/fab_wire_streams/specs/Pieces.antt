-- Pieces of the text of JSON, of which the clauses of private functions speak.
use Rattle.std.specs.Prelude.{ℕ, List, [], ◌∷◌, ◌++◌, Bool}
use Rattle.json.specs.Print.{quoted}
use Rattle.serde_json.specs.Data.{Data, Items}
use Rattle.serde_json.specs.Written.{compact_text, items_text, comma_if}

-- a key and its colon, after others or as the first
unfoldable pub key_json : Bool → List ℕ → List ℕ
key_json later k = comma_if later ++ (quoted k ++ 58 ∷ [])

-- the text of an item, after others or as the first
unfoldable pub item_json : Bool → Data → List ℕ
item_json later d = comma_if later ++ compact_text d

-- the text of items, after others or as the first, with the closing bracket
unfoldable pub items_json : Bool → Items → List ℕ
items_json later ds = items_text later ds

-- The JSON values that bodies are made of.
use Rattle.std.specs.Prelude.{ℕ, ◌≡◌, ◌≤◌, List, [], ◌∷◌, length}
use Rattle.serde_json.specs.Data.{Data, unsigned, number, string, array, Items, no_items, item}
use Rattle.fab_names.specs.Names.{IsNameText}
use Rattle.fab_names.specs.WorldWideNames.{SpellsWwn}
use Rattle.fab_inventory.specs.Limits.{most_bytes, most_ports_of_holder}

-- the value is a string, and its text is the name
pub record IsName (value : Data) (name : List ℕ) : Type 0 where
  pub is : value ≡ string name
  pub text : IsNameText name

-- the value is a string, and its text spells the world-wide name
pub record IsPort (value : Data) (port : ℕ) : Type 0 where
  pub text : List ℕ
  pub is : value ≡ string text
  pub spells : SpellsWwn text port

-- the items spell the world-wide names, in order
abbrev pub SpellsPorts : Items → List ℕ → Type 0
SpellsPorts no_items [] = Unit {0}
SpellsPorts no_items (p ∷ ps) = ⊥
SpellsPorts (item d ds) [] = ⊥
SpellsPorts (item d ds) (p ∷ ps) = IsPort d p × SpellsPorts ds ps

-- the value is an array whose items spell the world-wide names, no more than may be listed
pub record ArePorts (value : Data) (ports : List ℕ) : Type 0 where
  pub items : Items
  pub is : value ≡ array items
  pub spells : SpellsPorts items ports
  pub few : length ports ≤ most_ports_of_holder

-- the value is a number that is written whole, and a volume may have as many bytes
pub record IsCapacity (value : Data) (bytes : ℕ) : Type 0 where
  pub is : value ≡ number (unsigned bytes)
  pub some : 1 ≤ bytes
  pub few : bytes ≤ most_bytes

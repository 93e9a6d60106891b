-- Places and their texts.
use Rattle.std.specs.Prelude.{ℕ, ◌≡◌, ◌≤◌, List, ◌∷◌, ◌++◌, codes, decimal}
use Rattle.fab_names.specs.Numbers.{SpellsNumber}

-- what contracts see of a place: a Domain_ID and a physical port
pub record Position : Type 0 where
  pub domain : ℕ
  pub slot : ℕ

-- the least and the greatest Domain_ID, and the greatest physical port
abbrev pub first_domain : ℕ
first_domain = 1

abbrev pub last_domain : ℕ
last_domain = 239

abbrev pub last_slot : ℕ
last_slot = 4095

-- both numbers are in range
pub record IsPosition (p : Position) : Type 0 where
  pub some : first_domain ≤ p.domain
  pub few : p.domain ≤ last_domain
  pub slot : p.slot ≤ last_slot

-- the texts are number texts of the domain and of the physical port, in range
pub record SpellsPosition (domain slot : List ℕ) (p : Position) : Type 0 where
  pub domain_number : SpellsNumber domain p.domain
  pub slot_number : SpellsNumber slot p.slot
  pub in_range : IsPosition p

-- the text is both, joined by a comma
abbrev pub SpellsPlace : List ℕ → Position → Type 0
SpellsPlace text p = (domain : List ℕ) × (slot : List ℕ) × (text ≡ domain ++ 44 ∷ slot) × SpellsPosition domain slot p

-- the printed form
abbrev pub place_text : Position → List ℕ
place_text p = decimal p.domain ++ codes "," ++ decimal p.slot

-- the text is the printed form of the place
abbrev pub SpellsPrintedPlace : List ℕ → Position → Type 0
SpellsPrintedPlace text p = SpellsPlace text p × (text ≡ place_text p)

-- What a fault says of the text that is refused.
use Rattle.std.specs.Prelude.{ℕ, ◌≡◌, ◌≢◌, ◌<◌, List, [], ◌∷◌, ◌++◌, length, codes, IsTrue, ◌⊎◌, EachIndex, slice_index, true}
use Rattle.std.specs.Char.{is_ascii_hexdigit}
use Rattle.std.specs.List.{list_all}
use Rattle.std.specs.Str.{chars}
use Rattle.fab_names.specs.Names.{most_characters, begins_with_letter, is_name_char}
use Rattle.fab_names.specs.Numbers.{SpellsNumber}
use Rattle.fab_names.specs.WorldWideNames.{IsDigitsOf, SpellsDigits}
use Rattle.fab_names.specs.Addresses.{IsAddress, IsSixOf, SpellsSix}
use Rattle.fab_names.specs.Fabrics.{SpellsFabric}
use Rattle.fab_names.specs.Places.{Position, IsPosition}
use Rattle.fab_names.specs.declared.fabric.Fabric.{Fabric}
use Rattle.fab_names.specs.declared.NameFault.{NameFault}
use Rattle.fab_names.specs.declared.NameFault.TheVariants.{Empty, TooLong, BadChar, BadLength, Zero, OutOfRange, Memory}

-- of a text read as a name
abbrev pub IsNameFault : List ℕ → NameFault → Type 0
IsNameFault text Empty = text ≡ []
IsNameFault text TooLong = most_characters < length (chars text)
IsNameFault text BadChar = (text ≢ []) × ((¬ IsTrue (begins_with_letter text)) ⊎ (¬ IsTrue (list_all is_name_char text)))
IsNameFault text BadLength = ⊥
IsNameFault text Zero = ⊥
IsNameFault text OutOfRange = ⊥
IsNameFault text Memory = ⊥

-- sixteen characters in one of the three forms of a world-wide name, one of which is no digit
pub record HasBadDigit (text : List ℕ) : Type 0 where
  pub digits : List ℕ
  pub sixteen : length digits ≡ 16
  pub form : IsDigitsOf digits text
  pub bad : ¬ (EachIndex digits (λ k. is_ascii_hexdigit (slice_index digits k) ≡ true))

-- of a text read as a world-wide name
abbrev pub IsWwnFault : List ℕ → NameFault → Type 0
IsWwnFault text Empty = ⊥
IsWwnFault text TooLong = ⊥
IsWwnFault text BadChar = HasBadDigit text
IsWwnFault text BadLength = (digits : List ℕ) → length digits ≡ 16 → ¬ IsDigitsOf digits text
IsWwnFault text Zero = SpellsDigits text 0
IsWwnFault text OutOfRange = ⊥
IsWwnFault text Memory = ⊥

-- six characters in one of the two forms of an address, one of which is no digit
pub record HasBadDigitOfSix (text : List ℕ) : Type 0 where
  pub digits : List ℕ
  pub six : length digits ≡ 6
  pub form : IsSixOf digits text
  pub bad : ¬ (EachIndex digits (λ k. is_ascii_hexdigit (slice_index digits k) ≡ true))

-- six digits that write a number which is no address
pub record IsNoAddress (text : List ℕ) : Type 0 where
  pub number : ℕ
  pub six : SpellsSix text number
  pub outside : ¬ (IsAddress number)

-- of a text read as an address
abbrev pub IsAddressFault : List ℕ → NameFault → Type 0
IsAddressFault text Empty = ⊥
IsAddressFault text TooLong = ⊥
IsAddressFault text BadChar = HasBadDigitOfSix text
IsAddressFault text BadLength = (digits : List ℕ) → length digits ≡ 6 → ¬ IsSixOf digits text
IsAddressFault text Zero = ⊥
IsAddressFault text OutOfRange = IsNoAddress text
IsAddressFault text Memory = ⊥

-- of a text read as a fabric
abbrev pub IsFabricFault : List ℕ → NameFault → Type 0
IsFabricFault text Empty = text ≡ []
IsFabricFault text TooLong = ⊥
IsFabricFault text BadChar = (text ≢ []) × ((fabric : Fabric) → ¬ SpellsFabric text fabric)
IsFabricFault text BadLength = ⊥
IsFabricFault text Zero = ⊥
IsFabricFault text OutOfRange = ⊥
IsFabricFault text Memory = ⊥

-- two number texts, of which one is out of range
pub record IsOutside (domain slot : List ℕ) : Type 0 where
  pub place : Position
  pub domain_number : SpellsNumber domain place.domain
  pub slot_number : SpellsNumber slot place.slot
  pub outside : ¬ (IsPosition place)

-- of two texts read as a place
abbrev pub IsPositionFault : List ℕ → List ℕ → NameFault → Type 0
IsPositionFault domain slot Empty = ⊥
IsPositionFault domain slot TooLong = ⊥
IsPositionFault domain slot BadChar = ((n : ℕ) → ¬ SpellsNumber domain n) ⊎ ((n : ℕ) → ¬ SpellsNumber slot n)
IsPositionFault domain slot BadLength = ⊥
IsPositionFault domain slot Zero = ⊥
IsPositionFault domain slot OutOfRange = IsOutside domain slot
IsPositionFault domain slot Memory = ⊥

-- of a text read as a place: it has no comma, or the texts around its first comma have the fault
abbrev pub IsPlaceFault : List ℕ → NameFault → Type 0
IsPlaceFault text fault =
    ((fault ≡ BadChar) × ((domain slot : List ℕ) → ¬ (text ≡ domain ++ 44 ∷ slot)))
    ⊎ ((domain : List ℕ) × (slot : List ℕ) × (text ≡ domain ++ 44 ∷ slot) × IsPositionFault domain slot fault)

-- no word of a kind begins the text
abbrev pub HasNoKind : List ℕ → Type 0
HasNoKind text = (rest : List ℕ) → (¬ (text ≡ codes "wwpn=" ++ rest)) × (¬ (text ≡ codes "wwnn=" ++ rest)) × (¬ (text ≡ codes "dp=" ++ rest)) × (¬ (text ≡ codes "id=" ++ rest)) × (¬ (text ≡ codes "alias=" ++ rest))

-- of a text read as a member: it begins with no kind, or what follows the kind has the fault
abbrev pub IsMemberFault : List ℕ → NameFault → Type 0
IsMemberFault text fault =
    ((fault ≡ BadChar) × HasNoKind text)
    ⊎ ((rest : List ℕ) × (((text ≡ codes "wwpn=" ++ rest) × IsWwnFault rest fault)
    ⊎ (((text ≡ codes "wwnn=" ++ rest) × IsWwnFault rest fault)
    ⊎ (((text ≡ codes "dp=" ++ rest) × IsPlaceFault rest fault)
    ⊎ (((text ≡ codes "id=" ++ rest) × IsAddressFault rest fault)
    ⊎ ((text ≡ codes "alias=" ++ rest) × IsNameFault rest fault))))))

-- Values of JSON.
use Rattle.std.specs.Prelude.{ℕ, List, [], ◌∷◌, Option, Some, None, map}
use Rattle.serde_json.specs.Data.{Data, null, number, unsigned, string, array, object, Members, no_members, member}
use Rattle.serde_json.specs.View.{items_of}
use Rattle.fab_names.specs.Addresses.{address_text}
use Rattle.fab_names.specs.WorldWideNames.{wwn_text}

-- a whole number
abbrev pub whole : ℕ → Data
whole n = number (unsigned n)

-- a value, or null
abbrev pub or_null : {X : Type 0} → (X → Data) → Option X → Data
or_null f None = null
or_null f (Some x) = f x

-- a list of values
abbrev pub list_data : {X : Type 0} → (X → Data) → List X → Data
list_data f xs = array (items_of (map f xs))

-- an address: six lower-case digits
unfoldable pub address_data : ℕ → Data
address_data n = string (address_text n)

-- a world-wide name
unfoldable pub wwn_data : ℕ → Data
wwn_data n = string (wwn_text n)

-- a member if there is a value, and others behind it
abbrev pub maybe_member : {V : Type 0} → (V → Data) → List ℕ → Option V → Members → Members
maybe_member f k None ms = ms
maybe_member f k (Some v) ms = member k (f v) ms

-- an object of these members
abbrev pub members_from : List (List ℕ × Data) → Members
members_from [] = no_members
members_from (m ∷ ms) = member m.0 m.1 (members_from ms)

abbrev pub record_of : List (List ℕ × Data) → Data
record_of ms = object (members_from ms)

-- The texts of members.
use Rattle.std.specs.Prelude.{ℕ, ◌≡◌, List, ◌++◌, codes}
use Rattle.fab_names.specs.Names.{SpellsName}
use Rattle.fab_names.specs.WorldWideNames.{SpellsWwn, wwn_text}
use Rattle.fab_names.specs.Places.{SpellsPlace, place_text}
use Rattle.fab_names.specs.Addresses.{SpellsAddress, address_text}
use Rattle.fab_names.specs.declared.member.Member.{Member}
use Rattle.fab_names.specs.declared.member.Member.TheVariants as member

-- the text is the word of the member's kind, and a text of what it names
abbrev pub SpellsMember : List ℕ → Member → Type 0
SpellsMember text (member.Port name) = (rest : List ℕ) × (text ≡ codes "wwpn=" ++ rest) × SpellsWwn rest name
SpellsMember text (member.Node name) = (rest : List ℕ) × (text ≡ codes "wwnn=" ++ rest) × SpellsWwn rest name
SpellsMember text (member.Place place) = (rest : List ℕ) × (text ≡ codes "dp=" ++ rest) × SpellsPlace rest place
SpellsMember text (member.Address address) = (rest : List ℕ) × (text ≡ codes "id=" ++ rest) × SpellsAddress rest address
SpellsMember text (member.Alias name) = (rest : List ℕ) × (text ≡ codes "alias=" ++ rest) × SpellsName rest name

-- the printed form
abbrev pub member_text : Member → List ℕ
member_text (member.Port name) = codes "wwpn=" ++ wwn_text name
member_text (member.Node name) = codes "wwnn=" ++ wwn_text name
member_text (member.Place place) = codes "dp=" ++ place_text place
member_text (member.Address address) = codes "id=" ++ address_text address
member_text (member.Alias name) = codes "alias=" ++ name

-- the text is the printed form of the member
abbrev pub SpellsPrinted : List ℕ → Member → Type 0
SpellsPrinted text m = SpellsMember text m × (text ≡ member_text m)

-- What the words of a line stand for.
use Rattle.std.specs.Prelude.{ℕ, ◌≡◌, ◌≤◌, List, [], ◌∷◌, decimal}
use Rattle.fab_names.specs.Names.{SpellsName}
use Rattle.fab_names.specs.Numbers.{SpellsNumber}
use Rattle.fab_names.specs.WorldWideNames.{SpellsWwn, wwn_text}
use Rattle.fab_names.specs.Fabrics.{SpellsFabric, fabric_text}
use Rattle.fab_names.specs.Members.{SpellsMember, member_text}
use Rattle.fab_names.specs.declared.fabric.Fabric.{Fabric}
use Rattle.fab_names.specs.declared.member.Member.{Member}
use Rattle.fab_names.specs.declared.member.Member.TheVariants as member
use Rattle.fab_zoning.specs.Zonings.{flag_text}
use Rattle.fab_zoning.specs.declared.flag.DefaultFlag.{DefaultFlag}
use Rattle.std.specs.Prelude.{map}
use Rattle.std.specs.Borrow.{Bor}
use Rattle.fab_plans_base.specs.Limits.{last_unit}

-- the kinds of words that may follow the first word of a line
pub data Kind : Type 0 where
  a_fabric : Kind
  a_name : Kind
  a_flag : Kind
  a_member : Kind
  a_port_member : Kind
  a_wwn : Kind
  a_unit : Kind

-- what a word stands for
pub data Value : Type 0 where
  of_fabric : Fabric → Value
  of_name : List ℕ → Value
  of_flag : DefaultFlag → Value
  of_member : Member → Value
  of_port_member : Member → Value
  of_wwn : ℕ → Value
  of_unit : ℕ → Value

abbrev pub kind_of : Value → Kind
kind_of (of_fabric f) = a_fabric
kind_of (of_name n) = a_name
kind_of (of_flag f) = a_flag
kind_of (of_member m) = a_member
kind_of (of_port_member m) = a_port_member
kind_of (of_wwn w) = a_wwn
kind_of (of_unit u) = a_unit

-- the member names ports, and not an alias
abbrev pub NamesPorts : Member → Type 0
NamesPorts (member.Port w) = Unit {0}
NamesPorts (member.Node w) = Unit {0}
NamesPorts (member.Place p) = Unit {0}
NamesPorts (member.Address n) = Unit {0}
NamesPorts (member.Alias a) = ⊥

-- the text is a number text of a logical unit number
pub record SpellsUnit (text : List ℕ) (unit : ℕ) : Type 0 where
  pub number : SpellsNumber text unit
  pub in_range : unit ≤ last_unit

-- the word is a text of the value
abbrev pub SpellsValue : List ℕ → Value → Type 0
SpellsValue word (of_fabric f) = SpellsFabric word f
SpellsValue word (of_name n) = SpellsName word n
SpellsValue word (of_flag f) = word ≡ flag_text f
SpellsValue word (of_member m) = SpellsMember word m
SpellsValue word (of_port_member m) = SpellsMember word m × NamesPorts m
SpellsValue word (of_wwn w) = SpellsWwn word w
SpellsValue word (of_unit u) = SpellsUnit word u

-- the words are texts of the values, one of each
abbrev pub SpellsValues : List (List ℕ) → List Value → Type 0
SpellsValues [] [] = Unit {0}
SpellsValues [] (v ∷ vs) = ⊥
SpellsValues (w ∷ ws) [] = ⊥
SpellsValues (w ∷ ws) (v ∷ vs) = SpellsValue w v × SpellsValues ws vs

-- the printed form of a value
abbrev pub value_text : Value → List ℕ
value_text (of_fabric f) = fabric_text f
value_text (of_name n) = n
value_text (of_flag f) = flag_text f
value_text (of_member m) = member_text m
value_text (of_port_member m) = member_text m
value_text (of_wwn w) = wwn_text w
value_text (of_unit u) = decimal u

-- the words that references lead to
abbrev pub texts_of : List (Bor (List ℕ)) → List (List ℕ)
texts_of words = map (λ word. word.now) words

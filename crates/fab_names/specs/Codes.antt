-- How names, fabrics, places and members are stored in finite maps and sets.
use Rattle.std.specs.Prelude.{ℕ, ◌≡◌, ◌⊎◌, List, Bool, true, false, refl}
use Rattle.std.specs.Coded.{Coded, code_by, coded×, coded⊎, coded_ℕ, coded_bool, coded_list}
use mathlib.Core.Logic.{inl, inr}
use Rattle.fab_names.specs.Places.{Position}
use Rattle.fab_names.specs.declared.fabric.Fabric.{Fabric}
use Rattle.fab_names.specs.declared.fabric.Fabric.TheVariants.{A, B}
use Rattle.fab_names.specs.declared.member.Member.{Member}
use Rattle.fab_names.specs.declared.member.Member.TheVariants as member

-- a name as the list of its bytes
abbrev pub name_code : Coded (List ℕ)
name_code = coded_list coded_ℕ

-- a fabric as a truth value
abbrev pub is_b : Fabric → Bool
is_b A = false
is_b B = true

-- and back
abbrev pub fabric_of : Bool → Fabric
fabric_of false = A
fabric_of true = B

pub fabric_of-is_b : (f : Fabric) → fabric_of (is_b f) ≡ f
fabric_of-is_b A = refl
fabric_of-is_b B = refl

abbrev pub fabric_code : Coded Fabric
fabric_code = code_by Bool coded_bool is_b fabric_of fabric_of-is_b

-- a place as the pair of its numbers
abbrev pub position_code : Coded Position
position_code = code_by (ℕ × ℕ) (coded× coded_ℕ coded_ℕ) (λ p. (p.domain, p.slot)) (λ p. record { domain = p.0; slot = p.1 }) (λ _. refl)

-- the five kinds of members
abbrev pub Parts : Type 0
Parts = (ℕ ⊎ ℕ) ⊎ (Position ⊎ (ℕ ⊎ List ℕ))

-- a member as what it names
abbrev pub parts_of : Member → Parts
parts_of (member.Port n) = inl (inl n)
parts_of (member.Node n) = inl (inr n)
parts_of (member.Place p) = inr (inl p)
parts_of (member.Address n) = inr (inr (inl n))
parts_of (member.Alias a) = inr (inr (inr a))

-- and back
abbrev pub member_of : Parts → Member
member_of (inl (inl n)) = member.Port n
member_of (inl (inr n)) = member.Node n
member_of (inr (inl p)) = member.Place p
member_of (inr (inr (inl n))) = member.Address n
member_of (inr (inr (inr a))) = member.Alias a

pub member_of-parts_of : (m : Member) → member_of (parts_of m) ≡ m
member_of-parts_of (member.Port n) = refl
member_of-parts_of (member.Node n) = refl
member_of-parts_of (member.Place p) = refl
member_of-parts_of (member.Address n) = refl
member_of-parts_of (member.Alias a) = refl

abbrev pub member_code : Coded Member
member_code = code_by Parts (coded⊎ (coded⊎ coded_ℕ coded_ℕ) (coded⊎ position_code (coded⊎ coded_ℕ name_code))) parts_of member_of member_of-parts_of

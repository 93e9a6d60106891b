-- The orders of names, fabrics, places and members.
use Rattle.std.specs.Prelude.{ℕ, List}
use Rattle.std.specs.declared.cmp.Ordering.{Ordering}
use Rattle.std.specs.declared.cmp.Ordering.TheVariants.{Less, Equal, Greater}
use Rattle.std.specs.Ordering.{nat_cmp, ordering_then}
use Rattle.std.specs.Cmp.Lexicographic.{slice_cmp}
use Rattle.fab_names.specs.Places.{Position}
use Rattle.fab_names.specs.declared.fabric.Fabric.{Fabric}
use Rattle.fab_names.specs.declared.fabric.Fabric.TheVariants.{A, B}
use Rattle.fab_names.specs.declared.member.Member.{Member}
use Rattle.fab_names.specs.declared.member.Member.TheVariants as member
use Rattle.fab_names.specs.contracts.fabric.FabricOrd.TheImpl as fabrics
use Rattle.fab_names.specs.contracts.place.PlaceOrd.TheImpl as places
use Rattle.fab_names.specs.contracts.member.MemberOrd.TheImpl as members

-- names by their bytes
abbrev pub name_cmp : List ℕ → List ℕ → Ordering
name_cmp = slice_cmp nat_cmp

-- fabrics: A before B
abbrev pub fabric_order : Fabric → Fabric → Ordering
fabric_order A A = Equal
fabric_order A B = Less
fabric_order B A = Greater
fabric_order B B = Equal

-- places by domain, and then by physical port
abbrev pub place_order : Position → Position → Ordering
place_order p q = ordering_then (nat_cmp p.domain q.domain) (nat_cmp p.slot q.slot)

-- members in this order: by N_Port_Name, by Node_Name, by place, by address, by alias
abbrev pub member_order : Member → Member → Ordering
member_order (member.Port a) (member.Port b) = nat_cmp a b
member_order (member.Port a) (member.Node b) = Less
member_order (member.Port a) (member.Place q) = Less
member_order (member.Port a) (member.Address y) = Less
member_order (member.Port a) (member.Alias b) = Less
member_order (member.Node a) (member.Port b) = Greater
member_order (member.Node a) (member.Node b) = nat_cmp a b
member_order (member.Node a) (member.Place q) = Less
member_order (member.Node a) (member.Address y) = Less
member_order (member.Node a) (member.Alias b) = Less
member_order (member.Place p) (member.Port b) = Greater
member_order (member.Place p) (member.Node b) = Greater
member_order (member.Place p) (member.Place q) = place_order p q
member_order (member.Place p) (member.Address y) = Less
member_order (member.Place p) (member.Alias b) = Less
member_order (member.Address x) (member.Port b) = Greater
member_order (member.Address x) (member.Node b) = Greater
member_order (member.Address x) (member.Place q) = Greater
member_order (member.Address x) (member.Address y) = nat_cmp x y
member_order (member.Address x) (member.Alias b) = Less
member_order (member.Alias a) (member.Port b) = Greater
member_order (member.Alias a) (member.Node b) = Greater
member_order (member.Alias a) (member.Place q) = Greater
member_order (member.Alias a) (member.Address y) = Greater
member_order (member.Alias a) (member.Alias b) = name_cmp a b

-- ---- the same orders as the code has them, which maps and sets use: the laws say that they are one

abbrev pub fabric_cmp : Fabric → Fabric → Ordering
fabric_cmp = fabrics.ghosts.cmp

abbrev pub place_cmp : Position → Position → Ordering
place_cmp = places.ghosts.cmp

abbrev pub member_cmp : Member → Member → Ordering
member_cmp = members.ghosts.cmp

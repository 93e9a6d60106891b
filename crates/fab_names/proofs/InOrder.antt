-- The orders that the code has are those that are stated.
use Rattle.std.proofs.Common.{◌≡◌, refl}
use Rattle.fab_names.specs.Places.{Position}
use Rattle.fab_names.specs.Orders.{fabric_cmp, fabric_order, place_cmp, place_order, member_cmp, member_order}
use Rattle.fab_names.specs.declared.fabric.Fabric.{Fabric}
use Rattle.fab_names.specs.declared.fabric.Fabric.TheVariants.{A, B}
use Rattle.fab_names.specs.declared.member.Member.{Member}
use Rattle.fab_names.specs.declared.member.Member.TheVariants as member

pub fabrics : (f g : Fabric) → fabric_cmp f g ≡ fabric_order f g
fabrics A A = refl
fabrics A B = refl
fabrics B A = refl
fabrics B B = refl

pub places : (p q : Position) → place_cmp p q ≡ place_order p q
places p q = refl

pub members : (m k : Member) → member_cmp m k ≡ member_order m k
members (member.Port x) (member.Port y) = refl
members (member.Port x) (member.Node y) = refl
members (member.Port x) (member.Place y) = refl
members (member.Port x) (member.Address y) = refl
members (member.Port x) (member.Alias y) = refl
members (member.Node x) (member.Port y) = refl
members (member.Node x) (member.Node y) = refl
members (member.Node x) (member.Place y) = refl
members (member.Node x) (member.Address y) = refl
members (member.Node x) (member.Alias y) = refl
members (member.Place x) (member.Port y) = refl
members (member.Place x) (member.Node y) = refl
members (member.Place x) (member.Place y) = refl
members (member.Place x) (member.Address y) = refl
members (member.Place x) (member.Alias y) = refl
members (member.Address x) (member.Port y) = refl
members (member.Address x) (member.Node y) = refl
members (member.Address x) (member.Place y) = refl
members (member.Address x) (member.Address y) = refl
members (member.Address x) (member.Alias y) = refl
members (member.Alias x) (member.Port y) = refl
members (member.Alias x) (member.Node y) = refl
members (member.Alias x) (member.Place y) = refl
members (member.Alias x) (member.Address y) = refl
members (member.Alias x) (member.Alias y) = refl

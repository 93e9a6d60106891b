-- The orders of fabrics, names and members tell values apart, and those of names and members are total.
use Rattle.std.proofs.Common.{◌≡◌, refl, ap}
use Rattle.std.specs.declared.cmp.Ordering.{Ordering}
use Rattle.std.specs.declared.cmp.Ordering.TheVariants.{Less, Equal, Greater}
use Rattle.std.specs.Ordering.{nat_cmp, ordering_then}
use Rattle.std.specs.Cmp.{IsTotalOrder}
use Rattle.std.specs.Cmp.Lexicographic.{nat_list_cmp_total}
use Rattle.std.specs.FinSet as set
use Rattle.fab_names.specs.declared.fabric.Fabric.TheVariants.{A, B}
use Rattle.fab_names.specs.declared.member.Member.TheVariants as member
use Rattle.fab_names.specs.contracts.member.MemberOrd.TheImpl.Laws.{total-law}
use Rattle.fab_names.specs.Orders.{fabric_cmp, name_cmp, member_cmp}

pub less_equal : {A : Type 0} → Less ≡ Equal → A
less_equal e = absurd cc

pub greater_equal : {A : Type 0} → Greater ≡ Equal → A
greater_equal e = absurd cc

pub fabric_exact : set.IsAntisymmetric fabric_cmp
fabric_exact A A e = refl
fabric_exact A B e = less_equal e
fabric_exact B A e = greater_equal e
fabric_exact B B e = refl

pub name_total : IsTotalOrder name_cmp
name_total = nat_list_cmp_total

pub name_exact : set.IsAntisymmetric name_cmp
name_exact = set.slice_cmp-IsAntisymmetric set.nat_cmp-IsAntisymmetric

pub member_total : IsTotalOrder member_cmp
member_total = total-law

pub both_equal : (r s : Ordering) → ordering_then r s ≡ Equal → (r ≡ Equal) × (s ≡ Equal)
both_equal Less s e = less_equal e
both_equal Equal s e = (refl, e)
both_equal Greater s e = greater_equal e

pub member_exact : set.IsAntisymmetric member_cmp
member_exact (member.Port a) (member.Port b) e = ap member.Port (set.nat_cmp-IsAntisymmetric a b e)
member_exact (member.Node a) (member.Node b) e = ap member.Node (set.nat_cmp-IsAntisymmetric a b e)
member_exact (member.Place a) (member.Place b) e =
    let both = both_equal (nat_cmp a.domain b.domain) (nat_cmp a.slot b.slot) e in
    λ i. member.Place (record { domain = set.nat_cmp-IsAntisymmetric a.domain b.domain both.0 i; slot = set.nat_cmp-IsAntisymmetric a.slot b.slot both.1 i })
member_exact (member.Address a) (member.Address b) e = ap member.Address (set.nat_cmp-IsAntisymmetric a b e)
member_exact (member.Alias a) (member.Alias b) e = ap member.Alias (name_exact a b e)
member_exact (member.Port a) (member.Node b) e = less_equal e
member_exact (member.Port a) (member.Place b) e = less_equal e
member_exact (member.Port a) (member.Address b) e = less_equal e
member_exact (member.Port a) (member.Alias b) e = less_equal e
member_exact (member.Node a) (member.Port b) e = greater_equal e
member_exact (member.Node a) (member.Place b) e = less_equal e
member_exact (member.Node a) (member.Address b) e = less_equal e
member_exact (member.Node a) (member.Alias b) e = less_equal e
member_exact (member.Place a) (member.Port b) e = greater_equal e
member_exact (member.Place a) (member.Node b) e = greater_equal e
member_exact (member.Place a) (member.Address b) e = less_equal e
member_exact (member.Place a) (member.Alias b) e = less_equal e
member_exact (member.Address a) (member.Port b) e = greater_equal e
member_exact (member.Address a) (member.Node b) e = greater_equal e
member_exact (member.Address a) (member.Place b) e = greater_equal e
member_exact (member.Address a) (member.Alias b) e = less_equal e
member_exact (member.Alias a) (member.Port b) e = greater_equal e
member_exact (member.Alias a) (member.Node b) e = greater_equal e
member_exact (member.Alias a) (member.Place b) e = greater_equal e
member_exact (member.Alias a) (member.Address b) e = greater_equal e

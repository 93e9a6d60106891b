-- Values that `==` finds equal are equal: laws of the trait of values.
use Rattle.std.proofs.Common.{◌≡◌, ℕ, List, Option, None, Some, Bool, true, false, ◌&&◌, refl, sym, ap, nat_eq}
use Rattle.std.proofs.lemmas.Map.Views.{exact_unsigned_eq}
use mathlib.Core.Bool.{true≢false, beq}
use Rattle.std.specs.Option.{option_eq}
use Rattle.std.specs.Cmp.Lexicographic.{bytes_decides, pointwise}
use Rattle.fab_names.specs.Places.{Position}
use Rattle.fab_names.specs.declared.fabric.Fabric.{Fabric}
use Rattle.fab_names.specs.declared.fabric.Fabric.TheVariants.{A, B}
use Rattle.fab_names.specs.contracts.fabric.FabricPartialEq.TheImpl as fabrics
use Rattle.fab_names.specs.contracts.place.PlacePartialEq.TheImpl as places
use Rattle.fab_reach_base.specs.fab_inventory.declared.port.Seat.{Seat}
use Rattle.fab_reach_base.specs.fab_inventory.declared.holder.Holder.{Holder}
use Rattle.fab_reach_base.specs.fab_inventory.declared.holder.Volume.{Volume}
use Rattle.fab_reach_base.specs.fab_inventory.declared.holder.HolderKind.{HolderKind}
use Rattle.fab_reach_base.specs.fab_inventory.declared.holder.HolderKind.TheVariants.{Host, Array}
use Rattle.fab_reach_base.specs.fab_inventory.contracts.holder.HolderKindPartialEq.TheImpl as kinds
use Rattle.fab_reach_base.specs.fab_inventory.contracts.port.SeatPartialEq.TheImpl as seat
use Rattle.fab_reach_base.specs.fab_inventory.contracts.holder.HolderPartialEq.TheImpl as holder
use Rattle.fab_reach_base.specs.fab_inventory.contracts.holder.VolumePartialEq.TheImpl as volume
use Rattle.fab_store_load.specs.declared.kinds.Head.{Head}
use Rattle.fab_store_load.specs.contracts.kinds.HeadPartialEq.TheImpl as head

left : (a b : Bool) → (a && b) ≡ true → a ≡ true
left true b e = refl
left false b e = e

right : (a b : Bool) → (a && b) ≡ true → b ≡ true
right true b e = e
right false b e = absurd (true≢false (sym e))

same_kind : (j k : HolderKind) → kinds.ghosts.eq j k ≡ true → j ≡ k
same_kind Host Host e = refl
same_kind Host Array e = absurd (true≢false (sym e))
same_kind Array Host e = absurd (true≢false (sym e))
same_kind Array Array e = refl

same_fabric : (f g : Fabric) → fabrics.ghosts.eq f g ≡ true → f ≡ g
same_fabric A A e = refl
same_fabric A B e = absurd (true≢false (sym e))
same_fabric B A e = absurd (true≢false (sym e))
same_fabric B B e = refl

same_place : (p q : Position) → places.ghosts.eq p q ≡ true → p ≡ q
same_place p q e =
    let domain = exact_unsigned_eq p.domain q.domain (left (nat_eq p.domain q.domain) _ e) in
    let slot = exact_unsigned_eq p.slot q.slot (right (nat_eq p.domain q.domain) _ e) in
    λ i. record { domain = domain i; slot = slot i }

same_option : {X : Type 0} (E : X → X → Bool) → ((x y : X) → E x y ≡ true → x ≡ y) → (o p : Option X) → option_eq E o p ≡ true → o ≡ p
same_option E same None None e = refl
same_option E same None (Some y) e = absurd (true≢false (sym e))
same_option E same (Some x) None e = absurd (true≢false (sym e))
same_option E same (Some x) (Some y) e = ap Some (same x y e)

pub same_name : (x y : List ℕ) → pointwise nat_eq x y ≡ true → x ≡ y
same_name x y e = (bytes_decides x y).0 e

pub same_name_or_none : (x y : Option (List ℕ)) → option_eq (pointwise nat_eq) x y ≡ true → x ≡ y
same_name_or_none = same_option (pointwise nat_eq) same_name

same_at : (a b : Fabric × Position) → (fabrics.ghosts.eq a.0 b.0 && places.ghosts.eq a.1 b.1) ≡ true → a ≡ b
same_at a b e = λ i. (same_fabric a.0 b.0 (left (fabrics.ghosts.eq a.0 b.0) _ e) i, same_place a.1 b.1 (right (fabrics.ghosts.eq a.0 b.0) _ e) i)

pub same_seat : (x y : Seat) → seat.ghosts.eq x y ≡ true → x ≡ y
same_seat x y e =
    let rest = right (nat_eq x.node y.node) (option_eq (λ (a b : Fabric × Position). fabrics.ghosts.eq a.0 b.0 && places.ghosts.eq a.1 b.1) x.at y.at && option_eq (pointwise nat_eq) x.holder y.holder) e in
    let node = exact_unsigned_eq x.node y.node (left (nat_eq x.node y.node) _ e) in
    let at = same_option (λ (a b : Fabric × Position). fabrics.ghosts.eq a.0 b.0 && places.ghosts.eq a.1 b.1) same_at x.at y.at (left _ _ rest) in
    let holder = same_name_or_none x.holder y.holder (right (option_eq (λ (a b : Fabric × Position). fabrics.ghosts.eq a.0 b.0 && places.ghosts.eq a.1 b.1) x.at y.at) _ rest) in
    λ i. record { node = node i; at = at i; holder = holder i }

pub same_holder : (x y : Holder) → holder.ghosts.eq x y ≡ true → x ≡ y
same_holder x y e =
    let kind = same_kind x.kind y.kind (left (kinds.ghosts.eq x.kind y.kind) _ e) in
    let tenant = same_name x.tenant y.tenant (right (kinds.ghosts.eq x.kind y.kind) _ e) in
    λ i. record { kind = kind i; tenant = tenant i }

pub same_volume : (x y : Volume) → volume.ghosts.eq x y ≡ true → x ≡ y
same_volume x y e =
    let rest = right (pointwise nat_eq x.array y.array) (pointwise nat_eq x.tenant y.tenant && nat_eq x.bytes y.bytes) e in
    let array = same_name x.array y.array (left (pointwise nat_eq x.array y.array) _ e) in
    let tenant = same_name x.tenant y.tenant (left (pointwise nat_eq x.tenant y.tenant) _ rest) in
    let bytes = exact_unsigned_eq x.bytes y.bytes (right (pointwise nat_eq x.tenant y.tenant) _ rest) in
    λ i. record { array = array i; tenant = tenant i; bytes = bytes i }

pub same_flag : (a b : Bool) → beq a b ≡ true → a ≡ b
same_flag true true e = refl
same_flag true false e = absurd (true≢false (sym e))
same_flag false true e = absurd (true≢false (sym e))
same_flag false false e = refl

pub same_head : (x y : Head) → head.ghosts.eq x y ≡ true → x ≡ y
same_head x y e =
    let rest = right (pointwise nat_eq x.tenant y.tenant) (pointwise nat_eq x.array y.array && beq x.exposed y.exposed) e in
    let tenant = same_name x.tenant y.tenant (left (pointwise nat_eq x.tenant y.tenant) _ e) in
    let array = same_name x.array y.array (left (pointwise nat_eq x.array y.array) _ rest) in
    let exposed = same_flag x.exposed y.exposed (right (pointwise nat_eq x.array y.array) _ rest) in
    λ i. record { tenant = tenant i; array = array i; exposed = exposed i }

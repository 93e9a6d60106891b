-- A line shows one row at most, and a row is shown by one line.
use Rattle.std.proofs.Common.{ℕ, ℤ, pos, ◌≡◌, ◌<◌, ◌^◌, List, Option, None, Some, Bool, true, false, get_or, refl, sym, ap, ◌∙◌, arith}
use Rattle.fab_names.specs.Names.{SpellsName}
use Rattle.fab_names.specs.Places.{Position}
use Rattle.fab_names.specs.declared.fabric.Fabric.{Fabric}
use Rattle.fab_names.proofs.Unique as unique
use Rattle.fab_names.proofs.Numerals as numerals
use Rattle.fab_inventory.specs.declared.holder.HolderKind.{HolderKind}
use Rattle.fab_inventory.specs.declared.holder.HolderKind.TheVariants.{Host, Array}
use Rattle.fab_store_rows.specs.declared.inventory_row.PortEntry.{PortEntry}
use Rattle.fab_store_rows.specs.declared.inventory_row.AddressRow.{AddressRow}
use Rattle.fab_store_rows.specs.declared.inventory_row.HolderRow.{HolderRow}
use Rattle.fab_store_rows.specs.declared.inventory_row.VolumeRow.{VolumeRow}
use Rattle.fab_inventory.specs.Words.{kind_text}
use Rattle.fab_store_columns_base.specs.Columns.{ShowsOption, ShowsNumber, ShowsDecimal, ShowsPlace, ShowsAt, flag_number}
use Rattle.fab_store_columns.specs.InventoryLines.{PortColumns, ShowsPort, AddressColumns, ShowsAddress, HolderColumns, ShowsHolder, VolumeColumns, ShowsVolume}
use Rattle.fab_store_columns_base.proofs.Texts.{decimal_spells}

-- ---- columns

pub one_name : (text n m : List ℕ) → SpellsName text n → SpellsName text m → n ≡ m
one_name text n m h k = h.0 ∙ sym k.0

pub same_name : (s t n : List ℕ) → SpellsName s n → SpellsName t n → s ≡ t
same_name s t n h k = sym h.0 ∙ k.0

pub one_number : (least most : ℕ) (z : ℤ) (n m : ℕ) → ShowsNumber least most z n → ShowsNumber least most z m → n ≡ m
one_number least most z n m h k = let e : pos n ≡ pos m = sym h.value ∙ k.value in cc

pub one_decimal : (most : ℕ) → most < 2 ^ 64 → (text : List ℕ) (n m : ℕ) → ShowsDecimal most text n → ShowsDecimal most text m → n ≡ m
one_decimal most small text n m h k = numerals.one_number text n m (decimal_spells most small text n h) (decimal_spells most small text m k)

pub one_flag : (a b : Bool) → flag_number a ≡ flag_number b → a ≡ b
one_flag true true e = refl
one_flag true false e = absurd cc
one_flag false true e = absurd cc
one_flag false false e = refl

one_kind : (j k : HolderKind) → kind_text j ≡ kind_text k → j ≡ k
one_kind Host Host e = refl
one_kind Host Array e = absurd (omega (arith, ap (λ (x : List ℕ). get_or x 0 0) e))
one_kind Array Host e = absurd (omega (arith, ap (λ (x : List ℕ). get_or x 0 0) e))
one_kind Array Array e = refl

one_place : (f : List ℕ) (d s : ℤ) (a b : Fabric × Position) → ShowsPlace f d s a → ShowsPlace f d s b → a ≡ b
one_place f d s a b h k =
    let fabric : a.0 ≡ b.0 = unique.one_fabric f a.0 b.0 h.fabric_is k.fabric_is in
    let d_is : pos a.1.domain ≡ pos b.1.domain = sym h.domain_is ∙ k.domain_is in
    let s_is : pos a.1.slot ≡ pos b.1.slot = sym h.slot_is ∙ k.slot_is in
    let domain : a.1.domain ≡ b.1.domain = cc in
    let slot : a.1.slot ≡ b.1.slot = cc in
    λ i. (fabric i, record { domain = domain i; slot = slot i })

one_at : (f : Option (List ℕ)) (d s : Option ℤ) (a b : Option (Fabric × Position)) → ShowsAt f d s a → ShowsAt f d s b → a ≡ b
one_at None None None None None h k = refl
one_at (Some f) (Some d) (Some s) (Some a) (Some b) h k = ap Some (one_place f d s a b h k)
one_at None None None None (Some b) h k = absurd k
one_at None None None (Some a) b h k = absurd h
one_at None None (Some s) a b h k = absurd h
one_at None (Some d) s a b h k = absurd h
one_at (Some f) None s a b h k = absurd h
one_at (Some f) (Some d) None a b h k = absurd h
one_at (Some f) (Some d) (Some s) None b h k = absurd h
one_at (Some f) (Some d) (Some s) (Some a) None h k = absurd k

same_at : (f : Option (List ℕ)) (d s : Option ℤ) (g : Option (List ℕ)) (e t : Option ℤ) (a : Option (Fabric × Position)) → ShowsAt f d s a → ShowsAt g e t a → (f ≡ g) × (d ≡ e) × (s ≡ t)
same_at None None None None None None None h k = (refl, refl, refl)
same_at None None None None None (Some t) None h k = absurd k
same_at None None None None (Some e) t None h k = absurd k
same_at None None None (Some g) None t None h k = absurd k
same_at None None None (Some g) (Some e) None None h k = absurd k
same_at None None None (Some g) (Some e) (Some t) None h k = absurd k
same_at None None None g e t (Some a) h k = absurd h
same_at None None (Some s) g e t a h k = absurd h
same_at None (Some d) s g e t a h k = absurd h
same_at (Some f) None s g e t a h k = absurd h
same_at (Some f) (Some d) None g e t a h k = absurd h
same_at (Some f) (Some d) (Some s) g e t None h k = absurd h
same_at (Some f) (Some d) (Some s) None None None (Some a) h k = absurd k
same_at (Some f) (Some d) (Some s) None None (Some t) (Some a) h k = absurd k
same_at (Some f) (Some d) (Some s) None (Some e) t (Some a) h k = absurd k
same_at (Some f) (Some d) (Some s) (Some g) None t (Some a) h k = absurd k
same_at (Some f) (Some d) (Some s) (Some g) (Some e) None (Some a) h k = absurd k
same_at (Some f) (Some d) (Some s) (Some g) (Some e) (Some t) (Some a) h k = (ap Some (h.fabric_is ∙ sym k.fabric_is), ap Some (h.domain_is ∙ sym k.domain_is), ap Some (h.slot_is ∙ sym k.slot_is))

one_option : (c x y : Option (List ℕ)) → ShowsOption SpellsName c x → ShowsOption SpellsName c y → x ≡ y
one_option None None None h k = refl
one_option None None (Some y) h k = absurd k
one_option None (Some x) y h k = absurd h
one_option (Some c) None y h k = absurd h
one_option (Some c) (Some x) None h k = absurd k
one_option (Some c) (Some x) (Some y) h k = ap Some (one_name c x y h k)

same_option : (c d x : Option (List ℕ)) → ShowsOption SpellsName c x → ShowsOption SpellsName d x → c ≡ d
same_option None None None h k = refl
same_option None (Some d) None h k = absurd k
same_option (Some c) d None h k = absurd h
same_option None d (Some x) h k = absurd h
same_option (Some c) None (Some x) h k = absurd k
same_option (Some c) (Some d) (Some x) h k = ap Some (same_name c d x h k)

-- ---- the inventory's tables

pub one_port : (l : PortColumns) (p q : PortEntry) → ShowsPort l p → ShowsPort l q → p ≡ q
one_port l p q h k =
    let name = unique.one_wwn l.wwpn p.name q.name h.name.0 k.name.0 in
    let node = unique.one_wwn l.wwnn p.node q.node h.node.0 k.node.0 in
    let at = one_at l.fabric l.domain l.slot p.at q.at h.at k.at in
    let holder = one_option l.holder p.holder q.holder h.holder k.holder in
    λ i. record { name = name i; node = node i; at = at i; holder = holder i }

pub one_port_line : (l m : PortColumns) (p : PortEntry) → ShowsPort l p → ShowsPort m p → l ≡ m
one_port_line l m p h k =
    let wwpn = h.name.1 ∙ sym k.name.1 in
    let wwnn = h.node.1 ∙ sym k.node.1 in
    let at = same_at l.fabric l.domain l.slot m.fabric m.domain m.slot p.at h.at k.at in
    let holder = same_option l.holder m.holder p.holder h.holder k.holder in
    λ i. record { wwpn = wwpn i; wwnn = wwnn i; fabric = at.0 i; domain = at.1 i; slot = at.2 i; holder = holder i }

pub one_address : (l : AddressColumns) (p q : AddressRow) → ShowsAddress l p → ShowsAddress l q → p ≡ q
one_address l p q h k =
    let port = unique.one_wwn l.wwpn p.port q.port h.port.0 k.port.0 in
    let address = unique.one_address l.address p.address q.address h.address.0 k.address.0 in
    λ i. record { port = port i; address = address i }

pub one_address_line : (l m : AddressColumns) (r : AddressRow) → ShowsAddress l r → ShowsAddress m r → l ≡ m
one_address_line l m r h k =
    let wwpn = h.port.1 ∙ sym k.port.1 in
    let address = h.address.1 ∙ sym k.address.1 in
    λ i. record { wwpn = wwpn i; address = address i }

pub one_holder : (l : HolderColumns) (p q : HolderRow) → ShowsHolder l p → ShowsHolder l q → p ≡ q
one_holder l p q h k =
    let name = one_name l.name p.name q.name h.name k.name in
    let kind = one_kind p.kind q.kind (sym h.kind ∙ k.kind) in
    let tenant = one_name l.tenant p.tenant q.tenant h.tenant k.tenant in
    λ i. record { name = name i; kind = kind i; tenant = tenant i }

pub one_holder_line : (l m : HolderColumns) (r : HolderRow) → ShowsHolder l r → ShowsHolder m r → l ≡ m
one_holder_line l m r h k =
    let name = same_name l.name m.name r.name h.name k.name in
    let kind = h.kind ∙ sym k.kind in
    let tenant = same_name l.tenant m.tenant r.tenant h.tenant k.tenant in
    λ i. record { name = name i; kind = kind i; tenant = tenant i }

pub one_volume : (l : VolumeColumns) (p q : VolumeRow) → ShowsVolume l p → ShowsVolume l q → p ≡ q
one_volume l p q h k =
    let name = one_name l.name p.name q.name h.name k.name in
    let array = one_name l.array p.array q.array h.array k.array in
    let tenant = one_name l.tenant p.tenant q.tenant h.tenant k.tenant in
    let bytes = one_number _ _ l.bytes p.bytes q.bytes h.bytes k.bytes in
    λ i. record { name = name i; array = array i; tenant = tenant i; bytes = bytes i }

pub one_volume_line : (l m : VolumeColumns) (r : VolumeRow) → ShowsVolume l r → ShowsVolume m r → l ≡ m
one_volume_line l m r h k =
    let name = same_name l.name m.name r.name h.name k.name in
    let array = same_name l.array m.array r.array h.array k.array in
    let tenant = same_name l.tenant m.tenant r.tenant h.tenant k.tenant in
    let bytes = h.bytes.value ∙ sym k.bytes.value in
    λ i. record { name = name i; array = array i; tenant = tenant i; bytes = bytes i }

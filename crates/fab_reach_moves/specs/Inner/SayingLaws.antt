-- A row says one thing, under one key: laws of the trait of what rows say.
use Rattle.std.proofs.Common.{◌≡◌, Some, sym, ap, ◌∙◌}
use Rattle.fab_inventory.specs.declared.port.Port.{Port}
use Rattle.fab_store_rows.specs.declared.config_row.ActiveRow.{ActiveRow}
use Rattle.fab_store_rows.specs.declared.config_row.GroupRow.TheVariants as group
use Rattle.fab_store_rows.specs.declared.config_row.StorageGroupRow.{StorageGroupRow}
use Rattle.fab_store_rows.specs.declared.config_row.StoragePart.TheVariants as part
use Rattle.fab_store_rows.specs.declared.config_row.PartRow.TheVariants as parts
use Rattle.fab_reach_books.specs.declared.row.Row.TheVariants as row
use Rattle.fab_reach_moves.specs.Inner.Listing.{SaysHeld, SaysHead}
use Rattle.fab_reach_moves.specs.Inner.Saying.{SaysPortAt, SaysHost, SaysHostGroup, SaysServing, SaysTarget, SaysUnitAt, SaysZoned, IsOnce}

pub once_port : IsOnce SaysPortAt
once_port r j k x y a b =
    let e : row.Port x ≡ row.Port y = sym a.0 ∙ b.0 in
    let same : x ≡ y = cc in
    (sym a.1 ∙ ap (λ (p : Port). p.name) same ∙ b.1, same)

pub once_held : IsOnce SaysHeld
once_held r j k x y a b =
    let e : row.Port a.0 ≡ row.Port b.0 = sym a.1 ∙ b.1 in
    let same : a.0 ≡ b.0 = cc in
    let holders : Some j ≡ Some k = sym a.2 ∙ ap (λ (p : Port). p.holder) same ∙ b.2 in
    let holder : j ≡ k = cc in
    (holder, sym a.3 ∙ ap (λ (p : Port). p.name) same ∙ b.3)

pub once_host : IsOnce SaysHost
once_host r j k x y a b =
    let e : row.Part (parts.Host j x) ≡ row.Part (parts.Host k y) = sym a ∙ b in
    let keys : j ≡ k = cc in
    let items : x ≡ y = cc in
    (keys, items)

pub once_host_group : IsOnce SaysHostGroup
once_host_group r j k x y a b =
    let e : row.Part (parts.Storage j (part.HostGroup x)) ≡ row.Part (parts.Storage k (part.HostGroup y)) = sym a ∙ b in
    let keys : j ≡ k = cc in
    let items : x ≡ y = cc in
    (keys, items)

pub once_serving : IsOnce SaysServing
once_serving r j k x y a b =
    let e : row.Part (parts.Storage x (part.HostGroup j)) ≡ row.Part (parts.Storage y (part.HostGroup k)) = sym a ∙ b in
    let keys : j ≡ k = cc in
    let items : x ≡ y = cc in
    (keys, items)

pub once_zoned : IsOnce SaysZoned
once_zoned r j k x y a b =
    let e : row.Active (record { fabric = j.0; zone = x; member = j.1 }) ≡ row.Active (record { fabric = k.0; zone = y; member = k.1 }) = sym a ∙ b in
    let same : ◌≡◌ {A = ActiveRow} (record { fabric = j.0; zone = x; member = j.1 }) (record { fabric = k.0; zone = y; member = k.1 }) = cc in
    ((λ i. ((same i).fabric, (same i).member)), ap (λ (z : ActiveRow). z.zone) same)

pub once_target : IsOnce SaysTarget
once_target r j k x y a b =
    let e : row.Part (parts.Storage j (part.Target x)) ≡ row.Part (parts.Storage k (part.Target y)) = sym a ∙ b in
    let keys : j ≡ k = cc in
    let items : x ≡ y = cc in
    (keys, items)

pub once_head : IsOnce SaysHead
once_head r j k x y a b =
    let e : row.Group (group.Storage a.0) ≡ row.Group (group.Storage b.0) = sym a.1 ∙ b.1 in
    let same : a.0 ≡ b.0 = cc in
    (sym a.2 ∙ ap (λ (g : StorageGroupRow). g.name) same ∙ b.2, sym a.3 ∙ ap (λ (g : StorageGroupRow). g.exposed) same ∙ b.3)

pub once_unit : IsOnce SaysUnitAt
once_unit r j k x y a b =
    let e : row.Part (parts.Storage j (part.Unit x a.0)) ≡ row.Part (parts.Storage k (part.Unit y b.0)) = sym a.1 ∙ b.1 in
    let keys : j ≡ k = cc in
    let items : x ≡ y = cc in
    (keys, items)

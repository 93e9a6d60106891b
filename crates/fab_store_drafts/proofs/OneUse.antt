-- The use of a row: one more, or one less.
use Rattle.std.proofs.Common.{ℕ, ◌≡◌, ◌↔◌, ◌⊎◌, inl, inr, List, Option, None, Some, refl, sym, ap, ◌∙◌}
use Rattle.fab_reach_base.specs.fab_names.declared.fabric.Fabric.{Fabric}
use Rattle.fab_reach_base.specs.fab_names.declared.member.Member.{Member}
use Rattle.fab_reach_base.specs.fab_names.declared.member.Member.TheVariants as member
use Rattle.fab_reach_base.specs.fab_zoning.Edits.{Puts}
use Rattle.fab_store_rows.specs.declared.config_row.ConfigRow.{ConfigRow}
use Rattle.fab_store_rows.specs.declared.config_row.ConfigRow.TheVariants as config
use Rattle.fab_store_rows.specs.declared.config_row.ZoningItem.{ZoningItem}
use Rattle.fab_store_rows.specs.declared.config_row.ZoningItem.TheVariants as item
use Rattle.fab_store_rows.specs.declared.config_row.PartRow.{PartRow}
use Rattle.fab_store_rows.specs.declared.config_row.PartRow.TheVariants as parts
use Rattle.fab_store_rows.specs.declared.config_row.StoragePart.{StoragePart}
use Rattle.fab_store_rows.specs.declared.config_row.StoragePart.TheVariants as part
use Rattle.fab_store_drafts.specs.declared.uses.Used.{Used}
use Rattle.fab_store_drafts.specs.declared.uses.Used.TheVariants as used
use Rattle.fab_store_drafts.specs.Uses.{Use, use_row, use_of, member_use, item_use, storage_use, part_use}

-- the row of a use
abbrev pub row_of : Use → ConfigRow
row_of x = use_row x.0 x.1

told : (o : Option Use) (x y : Use) → o ≡ Some x → o ≡ Some y → x ≡ y
told o x y e f = let both : ◌≡◌ {A = Option Use} (Some x) (Some y) = sym e ∙ f in cc

none_told : {P : Type 0} (x : Use) → ◌≡◌ {A = Option Use} None (Some x) → P
none_told x e = absurd cc

-- it tells the use
row_tells : (w : Used) (n : List ℕ) → ◌≡◌ {A = Option Use} (use_of (use_row w n)) (Some (w, n))
row_tells (used.Alias f a) z = refl
row_tells (used.Zone f z) s = refl
row_tells (used.HostGroup k) n = refl
row_tells (used.Host h) k = refl

-- and no other row does
member_tells : (f : Fabric) (z : List ℕ) (m : Member) (x : Use) → member_use f z m ≡ Some x → row_of x ≡ config.Zoning (record { fabric = f; item = item.Zone z m })
member_tells f z (member.Alias a) x e = ap row_of (told (Some (used.Alias f a, z)) x (used.Alias f a, z) e refl)
member_tells f z (member.Port w) x e = none_told x e
member_tells f z (member.Node w) x e = none_told x e
member_tells f z (member.Place p) x e = none_told x e
member_tells f z (member.Address n) x e = none_told x e

item_tells : (f : Fabric) (i : ZoningItem) (x : Use) → item_use f i ≡ Some x → row_of x ≡ config.Zoning (record { fabric = f; item = i })
item_tells f (item.Alias n m) x e = none_told x e
item_tells f (item.Zone z m) x e = member_tells f z m x e
item_tells f (item.Set s z) x e = ap row_of (told (Some (used.Zone f z, s)) x (used.Zone f z, s) e refl)

storage_tells : (n : List ℕ) (p : StoragePart) (x : Use) → storage_use n p ≡ Some x → row_of x ≡ config.Part (parts.Storage n p)
storage_tells n (part.HostGroup k) x e = ap row_of (told (Some (used.HostGroup k, n)) x (used.HostGroup k, n) e refl)
storage_tells n (part.Target q) x e = none_told x e
storage_tells n (part.Unit u v) x e = none_told x e

part_tells : (r : PartRow) (x : Use) → part_use r ≡ Some x → row_of x ≡ config.Part r
part_tells (parts.Host k h) x e = ap row_of (told (Some (used.Host h, k)) x (used.Host h, k) e refl)
part_tells (parts.Storage n p) x e = storage_tells n p x e

tells_row : (r : ConfigRow) (x : Use) → use_of r ≡ Some x → row_of x ≡ r
tells_row (config.Setting r) x e = none_told x e
tells_row (config.Zoning r) x e = item_tells r.fabric r.item x e
tells_row (config.Active r) x e = none_told x e
tells_row (config.Group r) x e = none_told x e
tells_row (config.Part r) x e = part_tells r x e

told_by : (row : ConfigRow) (x : Use) → row_of x ≡ row → use_of row ≡ Some x
told_by row x is = ap use_of (sym is) ∙ row_tells x.0 x.1

module _ (row : ConfigRow) (e : Use) (P Q : Use → Type 0) (is : use_of row ≡ Some e) where
  pub one_put : Puts e P Q → (x : Use) → Q x ↔ P x ⊎ (row_of x ≡ row)
  one_put puts x = (
    λ h. elim ((puts x).0 h) [ inl k ↦ inl k | inr same ↦ inr (ap row_of same ∙ tells_row row e is) ],
    λ h. elim h [ inl k ↦ (puts x).1 (inl k) | inr t ↦ (puts x).1 (inr (told (use_of row) x e (told_by row x t) is)) ],
  )

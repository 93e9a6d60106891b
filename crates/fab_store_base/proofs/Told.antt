-- Whether a row that stands in one world stands in another.
use Rattle.std.proofs.Common.{◌≡◌, inl, inr, sym, ◌∙◌, subst}
use Rattle.sqlite.specs.Order.{Row}
use Rattle.fab_store_columns.proofs.Unique.{one_port, one_address, one_holder, one_volume}
use Rattle.fab_store_columns.proofs.UniqueConfig.{one_meta, one_zoning, one_active, one_group, one_part, one_approval, one_path}
use Rattle.fab_store_columns.proofs.UniquePlan.{one_plan}
use Rattle.fab_store_load.specs.declared.fault.Table.{Table}
use Rattle.fab_store_load.specs.declared.fault.Table.TheVariants as table
use Rattle.fab_reach_base.proofs.Telling.{Told}
use Rattle.fab_store_rows.specs.declared.config_row.ConfigRow.TheVariants as config
use Rattle.fab_store_base.proofs.Columns as columns
use Rattle.fab_store_base.proofs.Columns.{IsToldByColumns}
use Rattle.fab_store_base.proofs.Standing.{meta_told, port_told, address_told, holder_told, volume_told, config_told, plan_told, approval_told, undo_told, path_told}
use Rattle.fab_store_base.specs.Worlds.{IsShown, StandsIn}
use Rattle.fab_store_tables.proofs.Unique.{one_undo}
use Rattle.fab_world.specs.Worlds.{WorldRows}

-- a line shows one row, and is told by its columns
shown_told : {L X : Type 0} {columns_of : L → Row} {Shows : L → X → Type 0} {P Q : X → Type 0} → IsToldByColumns columns_of → ((l : L) (x y : X) → Shows l x → Shows l y → x ≡ y) → ((x : X) → P x → Told (Q x)) → (row : Row)
    → IsShown columns_of Shows P row → Told (IsShown columns_of Shows Q row)
shown_told {Shows = Shows} {Q = Q} one_line one_row each row h =
    elim (each h.shown h.stands) [
      | inl q ↦ inl (record { line = h.line; is = h.is; shown = h.shown; shows = h.shows; stands = q })
      | inr n ↦ inr (λ k. n (subst Q (one_row h.line k.shown h.shown (subst (λ l. Shows l k.shown) (one_line k.line h.line (sym k.is ∙ h.is)) k.shows) h.shows) k.stands))
    ]

pub row_told : (w v : WorldRows) (t : Table) (row : Row) → StandsIn w t row → Told (StandsIn v t row)
row_told w v table.Meta = shown_told columns.one_meta one_meta (λ r _. meta_told v r)
row_told w v table.Ports = shown_told columns.one_port one_port (λ r _. port_told v r)
row_told w v table.Addresses = shown_told columns.one_address one_address (λ r _. address_told v r)
row_told w v table.Holders = shown_told columns.one_holder one_holder (λ r _. holder_told v r)
row_told w v table.Volumes = shown_told columns.one_volume one_volume (λ r _. volume_told v r)
row_told w v table.Zoning = shown_told columns.one_zoning one_zoning (λ r _. config_told v (config.Zoning r))
row_told w v table.Active = shown_told columns.one_active one_active (λ r _. config_told v (config.Active r))
row_told w v table.Groups = shown_told columns.one_group one_group (λ r _. config_told v (config.Group r))
row_told w v table.GroupParts = shown_told columns.one_part one_part (λ r _. config_told v (config.Part r))
row_told w v table.Plans = shown_told columns.one_plan one_plan (plan_told w v)
row_told w v table.Approvals = shown_told columns.one_approval one_approval (λ r _. approval_told v r)
row_told w v table.Undo = shown_told columns.one_undo one_undo (λ r _. undo_told v r)
row_told w v table.Paths = shown_told columns.one_path one_path (λ r _. path_told v r)

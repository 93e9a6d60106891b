-- Two rows of one table of a sound world that have one key are one row.
use Rattle.std.proofs.Common.{ℕ, ◌≡◌, List, [], refl, sym, ap, ◌∙◌}
use Rattle.sqlite.specs.Order.{Row, column}
use Rattle.sqlite.specs.declared.types.Value.{Value}
use Rattle.sqlite.specs.declared.types.Value.TheVariants.{Text}
use Rattle.fab_store_load.specs.declared.fault.Table.{Table}
use Rattle.fab_store_load.specs.declared.fault.Table.TheVariants as table
use Rattle.fab_store_base.proofs.KeysOfParts.{one_part_key}
use Rattle.fab_store_base.proofs.KeysOfRows.{one_meta_key, one_port_key, one_address_key, one_holder_key, one_volume_key, one_group_key, one_plan_key, one_approval_key}
use Rattle.fab_store_base.specs.Worlds.{IsShown, StandsIn}
use Rattle.fab_store_tables.specs.Tables.{key_of}
use Rattle.fab_world.specs.Soundness.{IsSound}
use Rattle.fab_world.specs.Worlds.{WorldRows}

-- the text of a column
abbrev text_in : Value → List ℕ
text_in (Text t) = t
text_in _ = []

-- equal keys have equal texts
text_at : (k : ℕ) (r s : Row) → r ≡ s → text_in (column r k) ≡ text_in (column s k)
text_at k r s e = ap (λ (x : Row). text_in (column x k)) e

-- lines with one key are one line, so their rows are one row
by_key : {L X : Type 0} {columns_of : L → Row} {Shows : L → X → Type 0} {P : X → Type 0} (key : Row → Row) → ((l m : L) (x y : X) → Shows l x → Shows m y → P x → P y → key (columns_of l) ≡ key (columns_of m) → l ≡ m)
    → (r s : Row) → IsShown columns_of Shows P r → IsShown columns_of Shows P s → key r ≡ key s → r ≡ s
by_key {columns_of = columns_of} key one r s h k e = h.is ∙ ap columns_of (one h.line k.line h.shown k.shown h.shows k.shows h.stands k.stands (sym (ap key h.is) ∙ e ∙ ap key k.is)) ∙ sym k.is

-- the key is the whole row
by_row : {L X : Type 0} {columns_of : L → Row} {Shows : L → X → Type 0} {P : X → Type 0} (key : Row → Row) → ((l : L) → key (columns_of l) ≡ columns_of l)
    → (r s : Row) → IsShown columns_of Shows P r → IsShown columns_of Shows P s → key r ≡ key s → r ≡ s
by_row {columns_of = columns_of} key whole r s h k e = h.is ∙ sym (whole h.line) ∙ sym (ap key h.is) ∙ e ∙ ap key k.is ∙ whole k.line ∙ sym k.is

pub one_key : (w : WorldRows) → IsSound w → (t : Table) (r s : Row) → StandsIn w t r → StandsIn w t s → key_of t r ≡ key_of t s → r ≡ s
one_key w sound table.Meta = by_key (key_of table.Meta) (λ l m x y h k p q e. one_meta_key w l m x y h k p q (text_at 0 _ _ e))
one_key w sound table.Ports = by_key (key_of table.Ports) (λ l m x y h k p q e. one_port_key w l m x y h k p q (text_at 0 _ _ e))
one_key w sound table.Addresses = by_key (key_of table.Addresses) (λ l m x y h k p q e. one_address_key w l m x y h k p q (text_at 0 _ _ e))
one_key w sound table.Holders = by_key (key_of table.Holders) (λ l m x y h k p q e. one_holder_key w l m x y h k p q (text_at 0 _ _ e))
one_key w sound table.Volumes = by_key (key_of table.Volumes) (λ l m x y h k p q e. one_volume_key w l m x y h k p q (text_at 0 _ _ e))
one_key w sound table.Zoning = by_row (key_of table.Zoning) (λ l. refl)
one_key w sound table.Active = by_row (key_of table.Active) (λ l. refl)
one_key w sound table.Groups = by_key (key_of table.Groups) (λ l m x y h k p q e. one_group_key w l m x y h k p q (text_at 0 _ _ e) (text_at 1 _ _ e))
one_key w sound table.GroupParts = by_key (key_of table.GroupParts) (λ l m x y h k p q e. one_part_key w l m x y h k p q (text_at 0 _ _ e) (text_at 1 _ _ e) (text_at 2 _ _ e) (text_at 3 _ _ e))
one_key w sound table.Plans = by_key (key_of table.Plans) (λ l m x y h k p q e. one_plan_key w sound.order.each_once l m x y h k p q (text_at 0 _ _ e))
one_key w sound table.Approvals = by_key (key_of table.Approvals) (λ l m x y h k p q e. one_approval_key w l m x y h k p q (text_at 0 _ _ e) (text_at 1 _ _ e))
one_key w sound table.Undo = by_row (key_of table.Undo) (λ l. refl)
one_key w sound table.Paths = by_row (key_of table.Paths) (λ l. refl)

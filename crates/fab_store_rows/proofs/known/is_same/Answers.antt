use Rattle.std.proofs.Common.{ap, sym, ◌∙◌}
use mathlib.Core.Bool.{true≢false}
use Rattle.fab_reach_base.specs.fab_inventory.declared.port.Port.{Port}
use Rattle.fab_store_rows.specs.declared.inventory_row.PortEntry.{PortEntry}
use Rattle.fab_store_rows.specs.Standing.{without_address}
use Rattle.fab_store_rows.proofs.known.is_same.Goals as goal

pub returns-then-not-is_same_entry : goal.returns-then-not-is_same_entry
returns-then-not-is_same_entry c = (λ t. absurd (true≢false (sym t)), λ same. absurd (true≢false (sym (c.is_same_entry.ensures.1 (ap without_address same)) ∙ c.if-not-is_same_entry.true)))

pub returns : goal.returns
returns c = (
  λ t.
      let entry = c.is_same_entry.ensures.0 c.if-not-is_same_entry.false in
      let address = c.has_same_address.ensures.0 t in λ i. record {
        name = ap (λ (r : PortEntry). r.name) entry i;
        node = ap (λ (r : PortEntry). r.node) entry i;
        at = ap (λ (r : PortEntry). r.at) entry i;
        address = address i;
        holder = ap (λ (r : PortEntry). r.holder) entry i;
      },
  λ same. c.has_same_address.ensures.1 (ap (λ (p : Port). p.address) same),
)

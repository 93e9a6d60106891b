-- Rows of differences that are told already.
use Rattle.std.proofs.Common.{ℕ, ◌≡◌, List, [], Contains, Some, inl, inr, refl, sym, subst, arith}
use Rattle.std.specs.Coded.{Coded, code_by, coded×, coded_ℕ, coded_option}
use Rattle.std.specs.FinMap as map
use Rattle.fab_inventory.specs.Codes.{known_code, holder_code}
use Rattle.fab_inventory.specs.Inventories.{InventoryRows}
use Rattle.fab_inventory.specs.Ports.{port_at, port_of}
use Rattle.fab_inventory.specs.declared.port.Known.{Known}
use Rattle.fab_inventory.specs.declared.port.Port.{Port}
use Rattle.fab_lemmas.specs.Lists.{IsListOf}
use Rattle.fab_reach_base.specs.Adding.{Adds}
use Rattle.fab_reach_base.specs.Records.{ConfigRows, Records}
use Rattle.fab_reach_base.proofs.Adding.{Before, adds_as, from_none}
use Rattle.fab_reach_base.proofs.Telling.{Told, same_by}
use Rattle.fab_store_rows.specs.Differences.{StandsOnlyIn}
use Rattle.fab_store_rows.specs.RowOrder.{row_order}
use Rattle.fab_store_rows.specs.Standing as rows
use Rattle.fab_store_rows.specs.Standing.{holder_of}
use Rattle.fab_store_rows.specs.declared.config_row.ConfigRow.{ConfigRow}
use Rattle.fab_store_rows.specs.declared.inventory_row.HolderRow.{HolderRow}
use Rattle.fab_store_rows.specs.declared.inventory_row.InventoryRow.TheVariants as inventory
use Rattle.fab_reach_books.specs.Inner.Telling.{AreIn, AreOnlyIn, row_in}
use Rattle.fab_reach_books.specs.Rows.{Stands}
use Rattle.fab_reach_books.specs.Stocks.{AreKnownOnlyIn, IsPortOf, IsHolderOf, IsStockRow}
use Rattle.fab_reach_books.specs.declared.row.Row.{Row}
use Rattle.fab_reach_books.specs.declared.row.Row.TheVariants as row
use Rattle.fab_reach_books.proofs.RowsTold.{in_config, kept_sound, kept_there, same_row}

-- a list of just what was added to none
pub listed_from_none : (P : Row → Type 0) (xs ys : List Row) → xs ≡ [] → Adds P (Contains xs) (Contains ys) → (r : Row) → (Contains ys r → P r) × (P r → Contains ys r)
listed_from_none P xs ys none a = from_none P (Contains xs) (Contains ys) (λ r h. let l = (subst (λ ks. Contains ks r) none h).1 in omega (arith, l)) a

-- the rows of one port, and of one holder
abbrev pub OfPort : Port → Row → Type 0
OfPort p r = r ≡ row.Port p

abbrev pub OfHolder : HolderRow → Row → Type 0
OfHolder h r = r ≡ row.Holder h

-- the rows of the configuration in which two worlds of one inventory differ
pub config_only : (w v : Records) (cs : List ConfigRow) → IsListOf row_order (StandsOnlyIn w.config v.config) cs → w.inventory ≡ v.inventory → (xs : List Row) → ((r : Row) → (Contains xs r → AreIn cs r) × (AreIn cs r → Contains xs r)) → AreOnlyIn w v xs
config_only w v cs only same xs is = record {
  sound = λ r h. kept_sound w v cs only r ((is r).0 h);
  there = λ r s. elim (in_config r) [
    | inl k ↦ elim (kept_there w v cs only r k.0 k.1 s) [ inl t ↦ inl t | inr l ↦ inr ((is r).1 l) ]
    | inr k ↦ elim k [
      | inl p ↦ inl (subst (Stands v) (sym p.1) (subst (λ (x : InventoryRows). rows.IsKnown x (inventory.Port p.0)) same (subst (Stands w) p.1 s)))
      | inr h ↦ inl (subst (Stands v) (sym h.1) (subst (λ (x : InventoryRows). rows.IsKnown x (inventory.Holder h.0)) same (subst (Stands w) h.1 s)))
    ]
  ];
}

-- ---- ports and holders

port_code : Coded Port
port_code = code_by (ℕ × Known) (coded× coded_ℕ known_code) (λ p. (p.name, record { node = p.node; at = p.at; address = p.address; holder = p.holder })) (λ q. port_of q.0 q.1) (λ _. refl)

port_told : (v : InventoryRows) (p : Port) → Told (rows.IsKnown v (inventory.Port p))
port_told v p = same_by (coded_option port_code) (port_at v.ports p.name) (Some p)

holder_told : (v : InventoryRows) (h : HolderRow) → Told (rows.IsKnown v (inventory.Holder h))
holder_told v h = same_by (coded_option holder_code) (map.get v.holders h.name) (Some (holder_of h))

-- a row of the configuration stands in each of two worlds that have the same
same_config : (w v : Records) (c : ConfigRow) (r : Row) → row_in c ≡ Some r → w.config ≡ v.config → Stands w r → Stands v r
same_config w v c r is same s = (same_row c r v is).0 (subst (λ (x : ConfigRows). rows.Stands x c) same ((same_row c r w is).1 s))

-- the ports and holders in which two worlds of one configuration differ
pub stock_only : (w v : Records) (ports : List Port) (holders : List HolderRow) → AreKnownOnlyIn w.inventory v.inventory ports holders → w.config ≡ v.config → (xs : List Row) → ((r : Row) → (Contains xs r → IsStockRow ports holders r) × (IsStockRow ports holders r → Contains xs r))
    → AreOnlyIn w v xs
stock_only w v ports holders only same xs is = record {
  sound = λ r h. elim ((is r).0 h) [
    | inl p ↦ let k = (only.ports_are p.0).0 p.1 in (subst (Stands w) (sym p.2) k.0, λ s. k.1 (subst (Stands v) p.2 s))
    | inr g ↦ let k = (only.holders_are g.0).0 g.1 in (subst (Stands w) (sym g.2) k.0, λ s. k.1 (subst (Stands v) g.2 s))
  ];
  there = λ r s. elim (in_config r) [
    | inl k ↦ inl (same_config w v k.0 r k.1 same s)
    | inr k ↦ elim k [
      | inl p ↦ elim (port_told v.inventory p.0) [
        | inl t ↦ inl (subst (Stands v) (sym p.1) t)
        | inr n ↦ inr ((is r).1 (inl (p.0, (only.ports_are p.0).1 (subst (Stands w) p.1 s, n), p.1)))
      ]
      | inr h ↦ elim (holder_told v.inventory h.0) [
        | inl t ↦ inl (subst (Stands v) (sym h.1) t)
        | inr n ↦ inr ((is r).1 (inr (h.0, (only.holders_are h.0).1 (subst (Stands w) h.1 s, n), h.1)))
      ]
    ]
  ];
}

-- the rows of a slice that shows these
pub kept_from : (these cs : List ConfigRow) (xs : List Row) → these ≡ cs → ((r : Row) → (Contains xs r → AreIn these r) × (AreIn these r → Contains xs r)) → (r : Row) → (Contains xs r → AreIn cs r) × (AreIn cs r → Contains xs r)
kept_from these cs xs is each = subst (λ (ys : List ConfigRow). (r : Row) → (Contains xs r → AreIn ys r) × (AreIn ys r → Contains xs r)) is each

-- the rows of the ports, and of the holders, of a list
pub all_ports : (ports : List Port) (old new : Row → Type 0) → Adds (Before OfPort ports) old new → Adds (IsPortOf ports) old new
all_ports ports old new = adds_as (Before OfPort ports) (IsPortOf ports) old new (λ r h. h) (λ r h. h)

pub all_holders : (holders : List HolderRow) (old new : Row → Type 0) → Adds (Before OfHolder holders) old new → Adds (IsHolderOf holders) old new
all_holders holders old new = adds_as (Before OfHolder holders) (IsHolderOf holders) old new (λ r h. h) (λ r h. h)

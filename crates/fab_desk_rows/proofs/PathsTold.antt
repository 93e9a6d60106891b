-- The rows of the paths that a change gains and loses.
use Rattle.std.proofs.Common.{◌≡◌, ℕ, List, [], Option, None, Some, refl, sym, ap, ◌∙◌, subst}
use Rattle.std.specs.BTreeSet.{BTreeSet, IsOrdered}
use Rattle.std.specs.FinMap as map
use Rattle.std.specs.Option.{option_map, option_and_then}
use Rattle.fab_reach_base.specs.fab_lemmas.Lists.{IsListOf}
use Rattle.fab_reach_base.proofs.fab_lemmas.Filters.{list_as}
use Rattle.fab_reach_base.specs.fab_inventory.declared.port.Port.{Port}
use Rattle.fab_reach_base.specs.fab_inventory.Holders.{Holds}
use Rattle.fab_reach_base.specs.fab_inventory.Ports.{port_of}
use Rattle.fab_reach_base.specs.fab_inventory.declared.port.Known.{Known}
use Rattle.fab_reach_base.specs.Adding.{Adds}
use Rattle.fab_reach_base.specs.Books.{IsGained, IsDelta}
use Rattle.fab_reach_base.specs.Orders as paths
use Rattle.fab_reach_base.specs.Reach.{IsInitiatorOf, Reaches}
use Rattle.fab_reach_base.specs.Records.{Records}
use Rattle.fab_reach_base.specs.declared.path.Path.{Path}
use Rattle.fab_reach_base.proofs.Adding.{from_none}
use Rattle.fab_reach_base.proofs.Sets.{none_in}
use Rattle.fab_store_rows.specs.declared.record_row.PathRow.{PathRow}
use Rattle.fab_store_world.specs.PathGathering.{Has, IsRowOfSome}
use Rattle.fab_store_world.specs.Paths.{IsPathRowOnlyIn, path_row_order, path_row_cmp}
use Rattle.fab_store_world.proofs.PathRowOrder.{row_total, row_exact}
use Rattle.fab_store_world.proofs.PathRowSets.{set_listed}
use Rattle.fab_desk_base.specs.Keeping.{KeepsHosts}

-- the rows of the paths, gathered from none
pub rows_listed : (w : Records) (xs : List Path) (s t : BTreeSet PathRow) (rows : List PathRow) → s.keys ≡ [] → IsOrdered path_row_cmp t → rows ≡ t.keys → Adds (IsRowOfSome w xs) (Has s) (Has t) → IsListOf path_row_order (IsRowOfSome w xs) rows
rows_listed w xs s t rows none ordered is a = set_listed (IsRowOfSome w xs) t rows ordered is (from_none (IsRowOfSome w xs) (Has s) (Has t) (none_in row_total row_exact s none) a)

held_in : (o : Option Known) (q : ℕ) (p : Port) (h : List ℕ) → option_map (port_of q) o ≡ Some p → p.holder ≡ Some h → option_and_then (λ (k : Known). k.holder) o ≡ Some h
held_in None q p h at held = absurd cc
held_in (Some k) q p h at held = let is : port_of q k ≡ p = cc in ap (λ (x : Port). x.holder) is ∙ held

-- a host that holds an initiator holds it
holds : (w : Records) (q : ℕ) (h : List ℕ) → IsInitiatorOf w q h → Holds (map.get w.inventory.ports) h q
holds w q h i = held_in (map.get w.inventory.ports q) q i.0 h i.1 i.2.held

module _ (w v : Records) (one : (q : ℕ) (h g : List ℕ) → Holds (map.get w.inventory.ports) h q → Holds (map.get v.inventory.ports) g q → g ≡ h) where
  -- a path that stays has one host
  one_host : (x : Path) (h : List ℕ) → IsInitiatorOf w x.initiator h → Reaches v x → IsInitiatorOf v x.initiator h
  one_host x h i r =
      let j : IsInitiatorOf v x.initiator r.host = (r.from, r.from_is, r.meets.from) in
      subst (IsInitiatorOf v x.initiator) (one x.initiator h r.host (holds w x.initiator h i) (holds v x.initiator r.host j)) j

  -- the rows of the paths that w has and v has not
  pub only_rows : (xs : List Path) (rows : List PathRow) → paths.IsListOf (IsGained v w) xs → IsListOf path_row_order (IsRowOfSome w xs) rows → IsListOf path_row_order (IsPathRowOnlyIn w v) rows
  only_rows xs rows l = list_as (IsRowOfSome w xs) (IsPathRowOnlyIn w v) rows to from
    where
      to : (r : PathRow) → IsRowOfSome w xs r → IsPathRowOnlyIn w v r
      to r h =
          let gained = l.sound h.0 h.1 in
          let is = h.2.0 in
          record {
            there = (subst (Reaches w) (sym is) gained.now, subst (λ (x : Path). IsInitiatorOf w x.initiator r.host) (sym is) h.2.1);
            not_there = λ k. gained.before (subst (Reaches v) is k.0);
          }

      from : (r : PathRow) → IsPathRowOnlyIn w v r → IsRowOfSome w xs r
      from r h = (
        r.path,
        l.complete r.path (record { now = h.there.0; before = λ k. h.not_there (k, one_host r.path r.host h.there.1 k) }),
        (refl, h.there.1),
      )

-- the rows of what a change loses, and of what it gains
pub lost_rows : (w v : Records) (gained lost : List Path) (rows : List PathRow) → KeepsHosts w v → IsDelta w v gained lost → IsListOf path_row_order (IsRowOfSome w lost) rows → IsListOf path_row_order (IsPathRowOnlyIn w v) rows
lost_rows w v gained lost rows keeps d = only_rows w v keeps lost rows d.loses

pub gained_rows : (w v : Records) (gained lost : List Path) (rows : List PathRow) → KeepsHosts w v → IsDelta w v gained lost → IsListOf path_row_order (IsRowOfSome v gained) rows → IsListOf path_row_order (IsPathRowOnlyIn v w) rows
gained_rows w v gained lost rows keeps d = only_rows v w (λ q h g held now. sym (keeps q g h now held)) gained rows d.gains

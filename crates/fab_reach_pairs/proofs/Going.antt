-- How the relations of an index go from one world to the next.
use Rattle.std.proofs.Common.{ℕ, ◌≡◌, List, Bool, true, false, Contains, Some, IsTrue, ◌⊎◌, inl, inr, refl, sym, ap, ◌∙◌, subst}
use mathlib.Core.Bool.{true≢false}
use Rattle.std.specs.Ordering.{nat_cmp}
use Rattle.std.specs.BTreeMap.{BTreeMap}
use Rattle.std.specs.BTreeSet.{BTreeSet, contains}
use Rattle.fab_names.specs.Orders.{name_cmp}
use Rattle.fab_inventory.specs.Ports.{port_at}
use Rattle.fab_inventory.specs.declared.port.Port.{Port}
use Rattle.fab_zoning.specs.Edits.{IsIn}
use Rattle.fab_reach_base.proofs.Reached.{path_told}
use Rattle.fab_reach_base.specs.Adding.{Adds}
use Rattle.fab_reach_base.specs.Books.{IsDelta}
use Rattle.fab_reach_base.specs.Reach.{PathOf, Reaches}
use Rattle.fab_reach_base.specs.Records.{Records}
use Rattle.fab_reach_base.specs.declared.path.Path.{Path}
use Rattle.fab_reach_base.proofs.Adding.{Before, adds_as}
use Rattle.fab_reach_base.proofs.Gathering.{name_of, is_own, reaches}
use Rattle.fab_reach_base.proofs.Same.{same_some}
use Rattle.fab_reach_books.proofs.Staying.{holder_known, known_held}
use Rattle.fab_reach_books.specs.Inner.Sets.{HasName, HasPortIn}
use Rattle.fab_reach_books.specs.Pairs.{Pair}
use Rattle.fab_reach_books.specs.Rows.{IsRowDiff}
use Rattle.fab_reach_books.specs.declared.row.Row.{Row}
use Rattle.fab_reach_books.specs.declared.row.Row.TheVariants as row
use Rattle.fab_reach_index.specs.Indexes.{IsTreeOf, Zone, zone_cmp, PortInZone, IsHostServed, IsHeldBy, IsTargetOf, IsHostGroupOf, IsRowOf}
use Rattle.fab_reach_moves.specs.Inner.Listing.{name_row, SaysHeld}
use Rattle.fab_reach_moves.specs.Inner.Saying.{IsSaid, SaysServing}
use Rattle.fab_reach_moves.specs.Moves.{AreMoved, AreTouched}
use Rattle.fab_reach_moves.specs.declared.lists_after.Listed.TheVariants.{HostGroups}
use Rattle.fab_reach_pairs.specs.Inner.Rows.{Goes, IsRowIn}

-- ---- what rows say

module _ (w v : Records) (gone come : List Row) (d : IsRowDiff w v gone come) where
  -- a port that rows say stands under its name
  port_v : (h : List ℕ) (p : ℕ) (q : Port) → port_at v.inventory.ports q.name ≡ Some q → q.holder ≡ Some h → q.name ≡ p → IsHeldBy v h p
  port_v h p q at held named = holder_known v.inventory.ports p q (ap (port_at v.inventory.ports) (sym named) ∙ at) ∙ held

  port_w : (h : List ℕ) (p : ℕ) (q : Port) → port_at w.inventory.ports q.name ≡ Some q → q.holder ≡ Some h → q.name ≡ p → IsHeldBy w h p
  port_w h p q at held named = holder_known w.inventory.ports p q (ap (port_at w.inventory.ports) (sym named) ∙ at) ∙ held

  pub held_goes : Goes (IsHeldBy w) (IsSaid SaysHeld gone) (IsSaid SaysHeld come) (IsHeldBy v)
  held_goes = record {
    from = λ h p x.
        let q = known_held v.inventory.ports p h x in
        let named = name_of v p q.0 q.1 in
        let own = is_own v p q.0 q.1 in
        elim (d.after (row.Port q.0) own) [
          | inl s ↦ inl (
            port_w h p q.0 s q.2 named,
            λ g.
                let y = g.2 in
                let l = d.left (row.Port y.0) (subst (Contains gone) y.1 g.1) in
                let same : y.0 ≡ q.0 = sym (same_some (sym l.0 ∙ ap (port_at w.inventory.ports) (y.3 ∙ sym named) ∙ s) refl) in
                l.1 (subst (λ k. port_at v.inventory.ports k.name ≡ Some k) (sym same) own),
          )
          | inr c ↦ inr (row.Port q.0, c, (q.0, refl, q.2, named))
        ];
    stays = λ h p x none.
        let q = known_held w.inventory.ports p h x in
        let named = name_of w p q.0 q.1 in
        elim (d.before (row.Port q.0) (is_own w p q.0 q.1)) [
          | inl s ↦ port_v h p q.0 s q.2 named
          | inr c ↦ absurd (none (row.Port q.0, c, (q.0, refl, q.2, named)))
        ];
    comes = λ h p c. let y = c.2 in port_v h p y.0 (d.new (row.Port y.0) (subst (Contains come) y.1 c.1)).0 y.2 y.3;
  }

  pub serving_goes : Goes (IsHostGroupOf w) (IsSaid SaysServing gone) (IsSaid SaysServing come) (IsHostGroupOf v)
  serving_goes = record {
    from = λ k n x. elim (d.after (name_row (HostGroups n) k) x) [
      | inl s ↦ inl (s, λ g. (d.left (name_row (HostGroups n) k) (subst (Contains gone) g.2 g.1)).1 x)
      | inr c ↦ inr (name_row (HostGroups n) k, c, refl)
    ];
    stays = λ k n x none. elim (d.before (name_row (HostGroups n) k) x) [
      | inl s ↦ s
      | inr c ↦ absurd (none (name_row (HostGroups n) k, c, refl))
    ];
    comes = λ k n c. (d.new (name_row (HostGroups n) k) (subst (Contains come) c.2 c.1)).0;
  }

-- ---- some keys or items with all that they have

module _ {Q K : Type 0} (P N : Q → K → Type 0) (some : Q → K → Bool) (same : (q : Q) (k : K) → some q k ≡ false → (P q k → N q k) × (N q k → P q k)) where
  -- where nothing else differs, all of it goes, and all that there is now comes
  pub some_goes : Goes P (λ q k. IsTrue (some q k) × P q k) (λ q k. IsTrue (some q k) × N q k) N
  some_goes = record {
    from = λ q k n. case_from q k n (some q k) refl;
    stays = λ q k p none. case_stays q k p none (some q k) refl;
    comes = λ q k c. c.1;
  }
    where
      case_from : (q : Q) (k : K) → N q k → (b : Bool) → some q k ≡ b → (P q k × ¬ (IsTrue (some q k) × P q k)) ⊎ (IsTrue (some q k) × N q k)
      case_from q k n true is = inr (is, n)
      case_from q k n false is = inl ((same q k is).1 n, λ g. true≢false (sym g.0 ∙ is))

      case_stays : (q : Q) (k : K) → P q k → ¬ (IsTrue (some q k) × P q k) → (b : Bool) → some q k ≡ b → N q k
      case_stays q k p none true is = absurd (none (is, p))
      case_stays q k p none false is = (same q k is).0 p

-- the same by other relations
pub goes_as : {Q K : Type 0} (P G H C D N : Q → K → Type 0) → ((q : Q) (k : K) → (G q k → H q k) × (H q k → G q k)) → ((q : Q) (k : K) → (C q k → D q k) × (D q k → C q k)) → Goes P G C N → Goes P H D N
goes_as P G H C D N g c a = record {
  from = λ q k n. elim (a.from q k n) [ inl x ↦ inl (x.0, λ h. x.1 ((g q k).1 h)) | inr x ↦ inr ((c q k).0 x) ];
  stays = λ q k p none. a.stays q k p (λ h. none ((g q k).0 h));
  comes = λ q k x. a.comes q k ((c q k).1 x);
}

-- and turned round
pub goes_round : {Q K : Type 0} (P G C N : Q → K → Type 0) → Goes P G C N → Goes (λ k q. P q k) (λ k q. G q k) (λ k q. C q k) (λ k q. N q k)
goes_round P G C N a = record { from = λ k q n. a.from q k n; stays = λ k q p none. a.stays q k p none; comes = λ k q c. a.comes q k c }

-- ---- zones

module _ (w v : Records) (moved : BTreeSet ℕ) (m : AreMoved w v moved) (zones : BTreeMap ℕ (BTreeSet Zone)) (are : IsTreeOf nat_cmp zone_cmp (PortInZone w) zones) where
  pub zones_go : Goes (PortInZone w) (λ p z. HasPortIn moved p × IsIn nat_cmp zone_cmp zones (p, z)) (λ p z. HasPortIn moved p × PortInZone v p z) (PortInZone v)
  zones_go = goes_as (PortInZone w) (λ p z. HasPortIn moved p × PortInZone w p z) (λ p z. HasPortIn moved p × IsIn nat_cmp zone_cmp zones (p, z)) (λ p z. HasPortIn moved p × PortInZone v p z) (λ p z. HasPortIn moved p × PortInZone v p z) (PortInZone v)
      (λ p z. ((λ h. (h.0, (are p z).1 h.1)), λ h. (h.0, (are p z).0 h.1)))
      (λ p z. ((λ h. h), λ h. h))
      (some_goes (PortInZone w) (PortInZone v) (λ p z. contains nat_cmp moved p) (λ p z is. (m.rest p is).zones z.0 z.1))

-- ---- storage groups

module _ (w v : Records) (touched : BTreeSet (List ℕ)) (t : AreTouched w v touched) where
  pub groups_go : Goes (IsHostServed w) (λ h n. HasName touched n × IsHostServed w h n) (λ h n. HasName touched n × IsHostServed v h n) (IsHostServed v)
  groups_go = some_goes (IsHostServed w) (IsHostServed v) (λ h n. contains name_cmp touched n) (λ h n is. (
    (λ s. let k = (t n is).stays s.0 s.1 in (k.other, k.there, k.exposed s.2, k.serves h s.3)),
    λ s. let k = (t n is).no_more s.0 s.1 in (k.other, k.there, k.exposed s.2, k.serves h s.3),
  ))

  pub targets_go : Goes (IsTargetOf w) (λ q n. HasName touched n × IsTargetOf w q n) (λ q n. HasName touched n × IsTargetOf v q n) (IsTargetOf v)
  targets_go = some_goes (IsTargetOf w) (IsTargetOf v) (λ q n. contains name_cmp touched n) (λ q n is. (
    (λ s. let k = (t n is).stays s.0 s.1 in (k.other, k.there, k.exposed s.2, k.targets q s.3)),
    λ s. let k = (t n is).no_more s.0 s.1 in (k.other, k.there, k.exposed s.2, k.targets q s.3),
  ))

-- ---- paths

module _ (w v : Records) (gained lost : List Path) (d : IsDelta w v gained lost) where
  -- a path of a pair is there as such
  of_pair : (u : Records) (e : Pair) (x : Path) → x.initiator ≡ e.0 → x.target ≡ e.1 → Reaches u x → PathOf u e.0 e.1 x
  of_pair u e x from to r = subst (λ q. PathOf u e.0 q x) to (subst (λ p. PathOf u p x.target x) from r)

  pub rows_go : Goes (IsRowOf w) (IsRowIn lost) (IsRowIn gained) (IsRowOf v)
  rows_go = record {
    from = λ e x path. elim (path_told w x) [
      | inl r ↦ inl (of_pair w e x path.initiator path.target r, λ g. (d.loses.sound x g.0).before (reaches v e.0 e.1 x path))
      | inr n ↦ inr (d.gains.complete x (record { now = reaches v e.0 e.1 x path; before = n }), λ i. (sym path.initiator i, sym path.target i))
    ];
    stays = λ e x path none. elim (path_told v x) [
      | inl r ↦ of_pair v e x path.initiator path.target r
      | inr n ↦ absurd (none (d.loses.complete x (record { now = reaches w e.0 e.1 x path; before = n }), λ i. (sym path.initiator i, sym path.target i)))
    ];
    comes = λ e x c. of_pair v e x (sym (ap (λ (y : Pair). y.0) c.1)) (sym (ap (λ (y : Pair). y.1) c.1)) (d.gains.sound x c.0).now;
  }

-- a path at its pair
abbrev pub OfPath : Path → Pair × Path → Type 0
OfPath k e = e ≡ ((k.initiator, k.target), k)

pub rows_all : (paths : List Path) (old new : Pair × Path → Type 0) → Adds (Before OfPath paths) old new → Adds (λ (e : Pair × Path). IsRowIn paths e.0 e.1) old new
rows_all paths old new = adds_as (Before OfPath paths) (λ (e : Pair × Path). IsRowIn paths e.0 e.1) old new
    (λ e h.
    let same = ap (λ (y : Pair × Path). y.1) h.2 in
    (subst (Contains paths) (sym same) h.1, ap (λ (y : Pair × Path). y.0) h.2 ∙ ap (λ (y : Path). (y.initiator, y.target)) (sym same)))
    (λ e h. (e.1, h.0, λ i. (h.1 i, e.1)))

-- Ports with their holders, and the paths of a host.
use Rattle.std.proofs.Common.{◌≡◌, ◌⊎◌, ℕ, List, [], cond, Contains, Option, None, Some, true, inl, inr, refl, sym, ap, ◌∙◌, subst, arith}
use Rattle.std.specs.Cmp.{IsTotalOrder, nat_cmp_total}
use Rattle.std.specs.Ordering.{nat_cmp}
use Rattle.std.proofs.lemmas.Cmp.{on_total, then_total}
use Rattle.std.proofs.lemmas.Map.Views.{btree_set_contains_iff}
use Rattle.std.specs.BTreeMap.{is_at}
use Rattle.std.specs.BTreeSet.{BTreeSet, contains}
use Rattle.std.specs.FinMap as map
use Rattle.std.specs.FinSet as set
use Rattle.fab_names.specs.Orders.{name_cmp}
use Rattle.fab_names.proofs.OrderLaws.{both_equal, name_total, name_exact}
use Rattle.fab_inventory.specs.Holders.{holder_in}
use Rattle.fab_inventory.specs.Ports.{port_at}
use Rattle.fab_inventory.specs.declared.port.Known.{Known}
use Rattle.fab_inventory.specs.declared.port.Port.{Port}
use Rattle.fab_lemmas.proofs.SeenEntries.{entry_decides}
use Rattle.fab_reach_base.specs.Adding.{Adds}
use Rattle.fab_reach_base.specs.Records.{Records}
use Rattle.fab_reach_base.specs.Orders.{Has, IsListOf}
use Rattle.fab_reach_base.specs.Reach.{IsInitiator, ReachesFrom}
use Rattle.fab_reach_base.specs.declared.path.Path.{Path}
use Rattle.fab_reach_base.proofs.Adding.{Before, adds_as, adds_none, from_none}
use Rattle.fab_reach_base.proofs.Books.{list_as}
use Rattle.fab_reach_base.proofs.Gathering.{known}
use Rattle.fab_reach_base.specs.PathOrder.{path_total, path_exact}
use Rattle.fab_reach_base.proofs.Same.{same_some}
use Rattle.fab_reach_base.proofs.Sets.{adds_insert, none_in}
use Rattle.fab_reach_books.specs.Inner.Sets.{HasPortIn}
use Rattle.fab_reach_books.specs.Rows.{IsRowDiff}
use Rattle.fab_reach_books.specs.declared.row.Row.{Row}
use Rattle.fab_reach_books.specs.declared.row.Row.TheVariants as row
use Rattle.fab_reach_books.proofs.SetLoops.{all_ports}
use Rattle.fab_reach_books.proofs.Staying.{holder_known, known_held}
use Rattle.fab_reach_pairs.specs.Owning.{Owners, own_cmp, Owns, IsKnownPort, NamesPort, NamesPortIn, IsHeldAfter, AreHolders, IsOwn, IsBookOf}

-- ---- known ports

-- the port of an entry
abbrev pub ByKnown : ℕ × Known → ℕ → Type 0
ByKnown k p = p ≡ k.0

pub known_added : (w : Records) (es : List (ℕ × Known)) (old new : ℕ → Type 0) → es ≡ map.entries w.inventory.ports → Adds (Before ByKnown es) old new → Adds (IsKnownPort w) old new
known_added w es old new is = adds_as (Before ByKnown es) (IsKnownPort w) old new
    (λ p h.
    let at = (entry_decides nat_cmp nat_cmp_total set.nat_cmp-IsAntisymmetric w.inventory.ports h.0.0 h.0.1).1 (subst (λ ys. Contains ys h.0) is h.1) in
    (Rattle.fab_inventory.specs.Ports.port_of p h.0.1, ap (λ o. Rattle.std.specs.Option.option_map (Rattle.fab_inventory.specs.Ports.port_of p) o) (ap (map.get w.inventory.ports) h.2 ∙ at)))
    (λ p h.
    let k = known w p h.0 h.1 in
    ((p, k.0), subst (λ ys. Contains ys (p, k.0)) (sym is) ((entry_decides nat_cmp nat_cmp_total set.nat_cmp-IsAntisymmetric w.inventory.ports p k.0).0 k.1), refl))

-- the port of a row
pub port_named : (r : Row) (x : Port) (old new : ℕ → Type 0) → r ≡ row.Port x → Adds (λ p. p ≡ x.name) old new → Adds (NamesPort r) old new
port_named r x old new is = adds_as (λ p. p ≡ x.name) (NamesPort r) old new (λ p e. (x, is, e))
    (λ p h. let e : row.Port x ≡ row.Port h.0 = sym is ∙ h.1 in let same : x ≡ h.0 = cc in h.2 ∙ ap (λ (y : Port). y.name) (sym same))

-- each port that is known after a step is among those known before it and those that rows are of
pub known_after : (w v : Records) (gone come : List Row) (ports : BTreeSet ℕ) → IsRowDiff w v gone come → ((p : ℕ) → (HasPortIn ports p → IsKnownPort w p ⊎ NamesPortIn come p) × (IsKnownPort w p ⊎ NamesPortIn come p → HasPortIn ports p))
    → (p : ℕ) → IsKnownPort v p → HasPortIn ports p
known_after w v gone come ports diff are p h =
    let x = h.0 in
    let name : x.name ≡ p = Rattle.fab_reach_base.proofs.Gathering.name_of v p x h.1 in
    elim (diff.after (row.Port x) (ap (port_at v.inventory.ports) name ∙ h.1)) [
      | inl s ↦ (are p).1 (inl (x, ap (port_at w.inventory.ports) (sym name) ∙ s))
      | inr c ↦ (are p).1 (inr (row.Port x, c, (x, refl, sym name)))
    ]

none_listed : (xs : List Row) (r : Row) → xs ≡ [] → Contains xs r → ⊥
none_listed xs r none h = let l = (subst (λ ks. Contains ks r) none h).1 in omega (arith, l)

-- no row differs
pub no_rows : (w : Records) (gone come : List Row) → gone ≡ [] → come ≡ [] → IsRowDiff w w gone come
no_rows w gone come no_gone no_come = record {
  left = λ r h. absurd (none_listed gone r no_gone h);
  new = λ r h. absurd (none_listed come r no_come h);
  before = λ r h. inl h;
  after = λ r h. inl h;
}

-- ---- ports with their holders

-- a port, and a holder
abbrev pub Own : Type 0
Own = ℕ × List ℕ

pub own_total : IsTotalOrder own_cmp
own_total = then_total (on_total (λ (e : Own). e.0) nat_cmp_total) (on_total (λ (e : Own). e.1) name_total)

pub own_exact : set.IsAntisymmetric own_cmp
own_exact a b e =
    let both = both_equal (nat_cmp a.0 b.0) (name_cmp a.1 b.1) e in
    λ i. (set.nat_cmp-IsAntisymmetric a.0 b.0 both.0 i, name_exact a.1 b.1 both.1 i)

module _ (v : Records) where
  -- a port with its holder was inserted
  pub held_added : (p : ℕ) (holder : List ℕ) (s t : Owners) → Some holder ≡ holder_in (map.get v.inventory.ports) p → ((e : Own) → contains own_cmp t e ≡ cond (is_at (own_cmp (p, holder)) e) true (contains own_cmp s e)) → Adds (IsHeldAfter v p) (Owns s) (Owns t)
  held_added p holder s t is updates = adds_as (λ (e : Own). e ≡ (p, holder)) (IsHeldAfter v p) (Owns s) (Owns t)
      (λ e same. (ap (λ (x : Own). x.0) same, sym is ∙ ap (λ (x : Own). Some x.1) (sym same)))
      (λ e h. let one : e.1 ≡ holder = same_some h.1 (sym is) in λ i. (h.0 i, one i))
      (adds_insert own_total own_exact s t (p, holder) updates)

  -- nobody holds it
  pub unheld : (p : ℕ) (s : Owners) → None ≡ holder_in (map.get v.inventory.ports) p → Adds (IsHeldAfter v p) (Owns s) (Owns s)
  unheld p s none = adds_none (IsHeldAfter v p) (Owns s) (λ e h. let f : ◌≡◌ {A = Option (List ℕ)} None (Some e.1) = none ∙ h.1 in absurd cc)

  -- after all ports
  pub holders_are : (ports : BTreeSet ℕ) (ks : List ℕ) (s t : Owners) → ((p : ℕ) → IsKnownPort v p → HasPortIn ports p) → s.keys ≡ [] → ks ≡ ports.keys → Adds (Before (IsHeldAfter v) ks) (Owns s) (Owns t) → AreHolders v t
  holders_are ports ks s t among none is a e =
      let d = from_none (λ (y : Own). (k : ℕ) × HasPortIn ports k × IsHeldAfter v k y) (Owns s) (Owns t) (none_in own_total own_exact s none) (all_ports (IsHeldAfter v) ports ks (Owns s) (Owns t) is a) e in (
        (λ h. let k = d.0 h in subst (λ p. holder_in (map.get v.inventory.ports) p ≡ Some e.1) (sym k.2.0) k.2.1),
        λ h. let x = known_held v.inventory.ports e.0 e.1 h in d.1 (e.0, among e.0 (x.0, x.1), (refl, h)),
      )

-- ---- the paths of a host

-- a path, if the host holds its initiator
abbrev pub ByOwn : Owners → List ℕ → Path → Path → Type 0
ByOwn owners host k x = (x ≡ k) × Owns owners (k.initiator, host)

pub own_added : (owners : Owners) (host : List ℕ) (k : Path) (old new : Path → Type 0) → Owns owners (k.initiator, host) → Adds (λ x. x ≡ k) old new → Adds (ByOwn owners host k) old new
own_added owners host k old new own = adds_as (λ x. x ≡ k) (ByOwn owners host k) old new (λ x e. (e, own)) (λ x h. h.0)

-- after all paths
pub own_are : (paths : BTreeSet Path) (owners : Owners) (host : List ℕ) (ks : List Path) (s t : BTreeSet Path) → s.keys ≡ [] → ks ≡ paths.keys → Adds (Before (ByOwn owners host) ks) (Has s) (Has t)
    → (x : Path) → (Has t x → IsOwn paths owners host x) × (IsOwn paths owners host x → Has t x)
own_are paths owners host ks s t none is a x =
    let d = from_none (Before (ByOwn owners host) ks) (Has s) (Has t) (none_in path_total path_exact s none) a x in
    let iff = btree_set_contains_iff path_total path_exact paths x in (
      (λ h.
          let k = d.0 h in (
            iff.1 (subst (λ ys. Contains ys x) is (subst (Contains ks) (sym k.2.0) k.1)),
            subst (λ (y : Path). Owns owners (y.initiator, host)) (sym k.2.0) k.2.1,
          )),
      λ h. d.1 (x, subst (λ ys. Contains ys x) (sym is) (iff.0 h.0), (refl, h.1)),
    )

-- by a book of a world
pub own_list : (w : Records) (paths : BTreeSet Path) (owners : Owners) (host : List ℕ) (xs : List Path) → IsBookOf w paths owners → IsListOf (IsOwn paths owners host) xs → IsListOf (ReachesFrom w host) xs
own_list w paths owners host xs book = list_as (IsOwn paths owners host) (ReachesFrom w host) xs
    (λ x h.
    let r = (book.paths_are x).0 h.0 in
    let held = (book.owners_are (x.initiator, host)).0 h.1 in
    let same : r.host ≡ host = same_some r.meets.from.held (sym (holder_known w.inventory.ports x.initiator r.from r.from_is) ∙ held) in
    (r, (r.from, r.from_is, subst (IsInitiator w r.from) same r.meets.from)))
    (λ x h. ((book.paths_are x).1 h.0, (book.owners_are (x.initiator, host)).1 (holder_known w.inventory.ports x.initiator h.1.0 h.1.1 ∙ h.1.2.held)))

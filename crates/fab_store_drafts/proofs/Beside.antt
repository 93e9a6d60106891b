-- A storage group is clear of the others just where none that serves a host of it is at odds with it.
use Rattle.std.proofs.Common.{ℕ, ◌≡◌, ◌↔◌, inl, inr, List, Some, Bool, true, IsTrue, Result, Ok, Err, IfOk, sym, subst}
use Rattle.std.specs.FinMap as map
use Rattle.fab_reach_base.specs.fab_mapping_base.Groups.{StorageGroupRows}
use Rattle.fab_reach_base.specs.fab_mapping_base.declared.nexus.Nexus.{Nexus}
use Rattle.fab_reach_base.specs.fab_mapping.Mappings.{MappingRows}
use Rattle.fab_reach_base.specs.Records.{ConfigRows}
use Rattle.fab_store_rows.specs.declared.config_row.StoragePart.TheVariants as part
use Rattle.fab_store_rows.specs.Standing.{HasPart}
use Rattle.fab_store_drafts.specs.There.{IsClear, IsClearAt}
use Rattle.fab_store_drafts.specs.Users.{AreUsers}
use Rattle.fab_store_drafts.specs.Inner.Nearby.{IsBeside, IsFine}
use Rattle.fab_store_drafts.specs.declared.uses.Used.TheVariants as used
use Rattle.fab_store_drafts.specs.declared.users.Users.{Users}
use Rattle.fab_store_drafts.proofs.ClashThere.{same_or_not}
use Rattle.fab_store_drafts.proofs.Gathering.{Tree, in_tree}
use Rattle.fab_store_drafts.proofs.MappingThere.{here_at, found_one}

module _ {A : Type 0} (d : ConfigRows) (u : Users A) (are : AreUsers d u) (g : StorageGroupRows) where
  pub clear_of : ((n : List ℕ) → IsBeside d.mapping u g n → IsFine d.mapping g n) → IsClear d.mapping g
  clear_of fine x a b claims mapped = elim (same_or_not a b) [
    | inl e ↦ e
    | inr differ ↦ absurd (fine mapped.0 (mapped.4.0, (claims.0, claims.2, (claims.1, claims.3, (x.host, claims.4.0, (are (used.Host x.host, mapped.4.0)).1 (mapped.4.1, mapped.4.3, mapped.4.4.0)))), (are (used.HostGroup mapped.4.0, mapped.0)).1 (mapped.1, mapped.2, mapped.4.2)) mapped.1 mapped.2 mapped.3 (record {
      target = (x.target, claims.4.1, mapped.4.4.1);
      unit = (x.unit, a, claims.4.2, b, mapped.4.4.2, differ);
    }))
  ]

  pub fine_of : IsClear d.mapping g → (n : List ℕ) → IsBeside d.mapping u g n → IsFine d.mapping g n
  fine_of clear n beside o at exposed odds =
      let k = beside.0 in
      let hosts = beside.1.2 in
      let shared = hosts.2 in
      let there = (are (used.Host shared.0, k)).0 shared.2 in
      let serves = here_at (map.get d.mapping.groups) (HasPart (part.HostGroup k)) n o at ((are (used.HostGroup k, n)).0 beside.2) in
      let x : Nexus = record { host = shared.0; target = odds.target.0; unit = odds.unit.0 } in
      odds.unit.5 (clear x odds.unit.1 odds.unit.3
      (beside.1.0, hosts.0, beside.1.1, hosts.1, (shared.1, odds.target.1, odds.unit.2))
      (n, o, at, exposed, (k, there.0, serves, there.1, (there.2, odds.target.2, odds.unit.4))))

  -- so it is told by the names of those
  pub clear_is : (m : MappingRows) (names : Tree) (r : Bool) → m ≡ d.mapping → ((n : List ℕ) → (in_tree names n ≡ true) ↔ IsBeside m u g n) → (IsTrue r ↔ ((n : List ℕ) → in_tree names n ≡ true → IsFine m g n)) → IsTrue r ↔ IsClear d.mapping g
  clear_is m names r is beside fine = (
    λ t. clear_of (λ n b. subst (λ (w : MappingRows). IsFine w g n) is (fine.0 t n ((beside n).1 (subst (λ (w : MappingRows). IsBeside w u g n) (sym is) b)))),
    λ clear. fine.1 (λ n h. subst (λ (w : MappingRows). IsFine w g n) (sym is) (fine_of clear n (subst (λ (w : MappingRows). IsBeside w u g n) is ((beside n).0 h)))),
  )

module _ {E : Type 0} (v : MappingRows) (n : List ℕ) where
  -- an exposed group is clear
  pub clear_at_is : (g : StorageGroupRows) (r : Result Bool E) → map.get v.groups n ≡ Some g → g.exposed ≡ true → IfOk r (λ is. IsTrue is ↔ IsClear v g) → IfOk r (λ is. IsTrue is ↔ IsClearAt v n)
  clear_at_is g (Ok is) at exposed h = (λ t o there e. subst (IsClear v) (found_one (map.get v.groups n) g o at there) (h.0 t), λ all. h.1 (all g at exposed))
  clear_at_is g (Err e) at exposed h = h

-- what holds of all names of a tree holds of all that are touched
pub all_clear : {E : Type 0} (P Q : List ℕ → Type 0) (names : Tree) (r : Result Bool E) → ((n : List ℕ) → (in_tree names n ≡ true) ↔ P n) → IfOk r (λ is. IsTrue is ↔ ((n : List ℕ) → in_tree names n ≡ true → Q n)) → IfOk r (λ is. IsTrue is ↔ ((n : List ℕ) → P n → Q n))
all_clear P Q names (Ok is) names_are h = (λ t n p. h.0 t n ((names_are n).1 p), λ all. h.1 (λ n k. all n ((names_are n).0 k)))
all_clear P Q names (Err e) names_are h = h

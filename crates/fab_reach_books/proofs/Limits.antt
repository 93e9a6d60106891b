-- Sights that stop past the limit on paths.
use Rattle.std.proofs.Common.{◌≡◌, ◌<◌, ◌⊎◌, ℕ, Bool, List, true, cond, length, get_or, Contains, inl, inr, sym, subst}
use Rattle.std.specs.BTreeMap.{is_at}
use Rattle.std.specs.BTreeSet.{BTreeSet, IsOrdered, contains}
use Rattle.std.proofs.lemmas.List.Elements.{Contains-get_or}
use Rattle.std.proofs.lemmas.Map.Views.{btree_set_contains_iff}
use Rattle.fab_reach_base.specs.Adding.{AddsOnly}
use Rattle.fab_reach_base.specs.Limits.{MoreThan}
use Rattle.fab_reach_base.specs.Orders.{Has, IsListOf, path_cmp}
use Rattle.fab_reach_base.specs.Reach.{PathOf, Reaches}
use Rattle.fab_reach_base.specs.Records.{Records}
use Rattle.fab_reach_base.specs.declared.path.Path.{Path}
use Rattle.fab_reach_base.specs.declared.listing.TheConstants.{MOST_PATHS}
use Rattle.fab_reach_books.specs.Limiting.{ShowsPaths}
use Rattle.fab_reach_base.proofs.Gathering.{adds_path, reaches}
use Rattle.fab_reach_base.specs.PathOrder.{path_total, path_exact}

-- one path more is shown
pub shown_more : (xs : List Path) (i : ℕ) (k : Path) (s m t : BTreeSet Path) → i < length xs → k ≡ get_or xs i k → AddsOnly (Contains xs) (Has s) (Has m) → ((q : Path) → contains path_cmp t q ≡ cond (is_at (path_cmp k) q) true (contains path_cmp m q)) → AddsOnly (Contains xs) (Has s) (Has t)
shown_more xs i k s m t below is a updates x h = elim ((adds_path m t k updates).sound x h) [
  | inl o ↦ a x o
  | inr e ↦ inr (subst (Contains xs) (sym e) (subst (Contains xs) (sym is) (Contains-get_or xs i k below)))
]

-- the listed paths of a pair are paths
pub shows_more : (w : Records) (p q : ℕ) (ks xs : List Path) (s t : BTreeSet Path) → ((x : Path) → Has s x → Reaches w x) → IsListOf (PathOf w p q) xs → ks ≡ xs → AddsOnly (Contains ks) (Has s) (Has t) → (x : Path) → Has t x → Reaches w x
shows_more w p q ks xs s t before l is a x h = elim (a x h) [ inl o ↦ before x o | inr k ↦ reaches w p q x (l.sound x (subst (λ ys. Contains ys x) is k)) ]

-- a set of paths that is past the limit
pub shown_many : (w : Records) (most : ℕ) (t : BTreeSet Path) → IsOrdered path_cmp t → ((x : Path) → Has t x → Reaches w x) → most < length t.keys → MoreThan most (Reaches w)
shown_many w most t ordered sound many = record {
  some = t.keys;
  sorted = ordered;
  sound = λ x among. sound x ((btree_set_contains_iff path_total path_exact t x).1 among);
  many = many;
}

-- what was shown stays paths of the world, and what is noted is so
pub few_shown : (w : Records) (p q : ℕ) (ks xs : List Path) (s t : BTreeSet Path) (was is : Bool) → ShowsPaths w s was → IsListOf (PathOf w p q) xs → ks ≡ xs → AddsOnly (Contains ks) (Has s) (Has t)
    → (is ≡ true → (was ≡ true) ⊎ (IsOrdered path_cmp t × (MOST_PATHS < length t.keys))) → ShowsPaths w t is
few_shown w p q ks xs s t was is before l same a over =
    let paths : (x : Path) → Has t x → Reaches w x = shows_more w p q ks xs s t before.paths l same a in record {
      paths = paths;
      many = λ e. elim (over e) [ inl o ↦ before.many o | inr h ↦ shown_many w MOST_PATHS t h.0 paths h.1 ];
    }

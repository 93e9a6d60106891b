-- The names among entries.
use Rattle.std.proofs.Common.{◌≡◌, ℕ, zero, suc, List, [], ◌∷◌, map, Contains, Option, None, Some, IsSome, refl, sym, ap, subst, arith}
use mathlib.Core.Bool.{true≢false}
use Rattle.std.specs.declared.cmp.Ordering.{Ordering}
use Rattle.std.specs.Ordering.{eq_by_cmp}
use Rattle.std.specs.Cmp.{Equal-is}
use Rattle.std.specs.BTreeMap.{is_at}
use Rattle.std.specs.BTreeSet.{BTreeSet}
use Rattle.std.specs.FinMap as fin
use Rattle.std.specs.Map.{lookup, keys_of}
use Rattle.std.proofs.lemmas.Map.Views.{Contains-from_lookup}
use Rattle.fab_reach_base.proofs.fab_lemmas.SeenEntries.{entry_decides}
use Rattle.fab_reach_base.proofs.fab_lemmas.SeenMaps.{looked_up}
use Rattle.fab_reach_base.specs.fab_lemmas.MapsOfSets.{MapOfSets, seen_set, seen_sets}
use Rattle.fab_reach_base.specs.fab_names.Orders.{name_cmp}
use Rattle.fab_reach_base.proofs.fab_names.OrderLaws.{name_total, name_exact}
use Rattle.fab_looks.specs.Inner.Entries.{HasKeys}

-- what is there
pub value_in : {X : Type 0} (o : Option X) → IsSome o → (x : X) × (o ≡ Some x)
value_in (Some x) h = (x, refl)
value_in None h = absurd (true≢false (sym h))

-- the key of an entry is among the keys
pub key_of : {K V : Type 0} (es : List (K × V)) (e : K × V) → Contains es e → Contains (keys_of es) e.0
key_of [] e c = let f : ⊥ = omega (arith, c.1) in absurd f
key_of {K} {V} (d ∷ es) e (zero, less, is) = (zero, omega arith, ap (λ (x : K × V). x.0) is)
key_of (d ∷ es) e (suc i, less, is) = let r = key_of es e (i, omega arith, is) in (suc r.0, omega (arith, r.1), r.2)

-- what is among the values of a function is the value of an item
pub mapped : {X Y : Type 0} (f : X → Y) (xs : List X) (y : Y) → Contains (map f xs) y → (x : X) × Contains xs x × (f x ≡ y)
mapped f [] y c = let e : ⊥ = omega (arith, c.1) in absurd e
mapped f (x ∷ xs) y (zero, less, is) = (x, (zero, omega arith, refl), is)
mapped f (x ∷ xs) y (suc i, less, is) = let r = mapped f xs y (i, omega arith, is) in (r.0, (suc r.1.0, omega (arith, r.1.1), r.1.2), r.2)

-- each key is an entry's
pub entry_of : {K V : Type 0} (es : List (K × V)) (n : K) → Contains (keys_of es) n → (e : K × V) × Contains es e × (n ≡ e.0)
entry_of {K} {V} es n c = let r = mapped (λ (e : K × V). e.0) es n c in (r.0, r.1, sym r.2)

-- all entries of a map
pub all_keys : {V : Type 0} (es : List (List ℕ × V)) (m : fin.FinMap name_cmp V) → es ≡ fin.entries m → HasKeys es m
all_keys {V} es m is n h =
    let o = value_in (fin.get m n) h in
    subst (λ (ys : List (List ℕ × V)). Contains (keys_of ys) n) (sym is) (key_of (fin.entries m) (n, o.0) ((entry_decides name_cmp name_total name_exact m n o.0).0 o.1))

-- the entries of a tree
pub tree_keys : {V : Type 0} (es : List (List ℕ × V)) (m : fin.FinMap name_cmp V) → fin.from_entries es ≡ m → HasKeys es m
tree_keys es m view n h =
    let at = lookup (is_at (name_cmp n)) es in
    let o = value_in at (subst IsSome (looked_up name_total es m n at view refl) h) in
    key_of es (n, o.0) (Contains-from_lookup {eq = eq_by_cmp name_cmp} (λ x y e. name_exact x y ((Equal-is (name_cmp x y)).0 e)) n o.0 es o.1)

-- the entries of a tree of sets
module _ {K : Type 0} (R : K → K → Ordering) where
  same_keys : (es : List (List ℕ × BTreeSet K)) → keys_of (map (λ (e : List ℕ × BTreeSet K). (e.0, seen_set R e.1)) es) ≡ keys_of es
  same_keys [] = refl
  same_keys (e ∷ es) = ap (λ (ks : List (List ℕ)). e.0 ∷ ks) (same_keys es)

  pub set_keys : (es : List (List ℕ × BTreeSet K)) (m : MapOfSets name_cmp R) → seen_sets name_cmp R es ≡ m → HasKeys es m
  set_keys es m view n h = subst (λ (ks : List (List ℕ)). Contains ks n) (same_keys es) (tree_keys (map (λ (e : List ℕ × BTreeSet K). (e.0, seen_set R e.1)) es) m view n h)

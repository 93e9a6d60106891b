-- Lists whose items are distinct.
use Rattle.std.proofs.Common.{zero, suc, ◌≡◌, ◌⊎◌, inl, inr, ⊎_elim, List, [], ◌∷◌, ◌++◌, map, Contains, sym, ap, ◌∙◌, subst, arith}
use Rattle.std.specs.Cmp.{IsTotalOrder}
use Rattle.std.specs.List.Sorted.{IsStrictlySortedBy}
use Rattle.std.specs.declared.cmp.Ordering.{Ordering}
use Rattle.std.specs.declared.cmp.Ordering.TheVariants.{Less, Greater}
use Rattle.std.specs.Ordering.{ordering_reverse}
use Rattle.std.proofs.lemmas.List.Elements.{All-contains, Contains-append_right, Contains-append_cases}
use Rattle.std.proofs.lemmas.Map.Keys.{sorted_tail}
use Rattle.std.proofs.lemmas.Map.Views.{All-after_first}
use Rattle.fab_store_tables.specs.Listing.{AreDistinct}
use Rattle.fab_store_tables.proofs.LinesAdded.{head_in}

-- nothing is below itself
pub not_below_itself : {X : Type 0} {R : X → X → Ordering} → IsTotalOrder R → (x : X) → ¬ (R x x ≡ Less)
not_below_itself {R = R} o x h =
    let e : ◌≡◌ {A = Ordering} Less Greater = sym h ∙ o.antisymm x x ∙ ap ordering_reverse h in
    absurd cc

pub sorted_distinct : {X : Type 0} (R : X → X → Ordering) → ((x : X) → ¬ (R x x ≡ Less)) → (xs : List X) → IsStrictlySortedBy R xs → AreDistinct xs
sorted_distinct R never [] h = tt
sorted_distinct R never (x ∷ xs) h = (λ there. never x (All-contains (λ y. R x y ≡ Less) xs x (All-after_first R x xs h) there), sorted_distinct R never xs (sorted_tail R x xs h))

-- the first item, or one of the others
pub cons_cases : {X : Type 0} (x y : X) (xs : List X) → Contains (x ∷ xs) y → (x ≡ y) ⊎ Contains xs y
cons_cases x y xs there = ⊎_elim (λ first. inl (one x y first)) inr (Contains-append_cases (x ∷ []) xs y there)
  where
    one : {X : Type 0} (x y : X) → Contains (x ∷ []) y → x ≡ y
    one x y (zero, less, is) = is
    one x y (suc k, less, is) = absurd (omega (arith, less))

-- an item of a list that is mapped
pub in_map : {X Y : Type 0} (f : X → Y) (xs : List X) (y : Y) → Contains (map f xs) y → (x : X) × Contains xs x × (f x ≡ y)
in_map f [] y there = absurd (omega (arith, there.1))
in_map f (x ∷ xs) y there = ⊎_elim (λ same. (x, head_in x xs, same)) (λ later. let s = in_map f xs y later in (s.0, Contains-append_right (x ∷ []) xs s.0 s.1, s.2)) (cons_cases (f x) y (map f xs) there)

pub map_in : {X Y : Type 0} (f : X → Y) (xs : List X) (x : X) → Contains xs x → Contains (map f xs) (f x)
map_in f [] x there = absurd (omega (arith, there.1))
map_in f (y ∷ ys) x there = ⊎_elim (λ same. subst (λ z. Contains (f y ∷ map f ys) (f z)) same (head_in (f y) (map f ys))) (λ later. Contains-append_right (f y ∷ []) (map f ys) (f x) (map_in f ys x later)) (cons_cases y x ys there)

pub map_distinct : {X Y : Type 0} (f : X → Y) → ((x z : X) → f x ≡ f z → x ≡ z) → (xs : List X) → AreDistinct xs → AreDistinct (map f xs)
map_distinct f one [] h = tt
map_distinct f one (x ∷ xs) (out, others) = (λ there. let s = in_map f xs (f x) there in out (subst (Contains xs) (one s.0 x s.2) s.1), map_distinct f one xs others)

pub join_distinct : {X : Type 0} (xs ys : List X) → AreDistinct xs → AreDistinct ys → ((x : X) → Contains xs x → Contains ys x → ⊥) → AreDistinct (xs ++ ys)
join_distinct [] ys h k apart = k
join_distinct (x ∷ xs) ys (out, others) k apart =
    (λ there. ⊎_elim out (apart x (head_in x xs)) (Contains-append_cases xs ys x there), join_distinct xs ys others k (λ y there. apart y (Contains-append_right (x ∷ []) xs y there)))

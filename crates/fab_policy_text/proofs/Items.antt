-- The items of an array, one by one.
use Rattle.std.proofs.Common.{◌≡◌, ℕ, ◌<◌, ◌+◌, zero, suc, List, [], ◌∷◌, ◌++◌, length, take, get_or, sym, subst, ap, ◌∙◌, arith, refl, Option, Some, IsSome}
use Rattle.std.specs.Prelude.{IsSomeAnd, MatchOption}
use Rattle.std.proofs.lemmas.List.{take_more}
use Rattle.toml.specs.Data.{Data, Items, no_items, item, push_item, get_item}
use Rattle.toml.specs.View.{view, items_view}
use Rattle.toml.specs.declared.value.Value.{Value}
use Rattle.toml.proofs.Views.{items_view-push, get_item_within}
use Rattle.fab_policy_text.specs.Shapes.{EachMeans}

pushed : {X : Type 0} (R : Data → X → Type 0) (ds : Items) (xs : List X) (d : Data) (x : X) → EachMeans R ds xs → R d x → EachMeans R (push_item ds d) (xs ++ x ∷ [])
pushed R no_items [] d x h r = (r, tt)
pushed R no_items (y ∷ xs) d x h r = absurd h
pushed R (item e ds) [] d x h r = absurd h
pushed R (item e ds) (y ∷ xs) d x h r = (h.0, pushed R ds xs d x h.1 r)

-- one more item
pub each_more : {X : Type 0} (R : Data → X → Type 0) (vs : List Value) (i : ℕ) (v : Value) (xs : List X) (x : X) → i < length vs → v ≡ get_or vs i v → EachMeans R (items_view (take i vs)) xs → R (view v) x → EachMeans R (items_view (take (i + 1) vs)) (xs ++ x ∷ [])
each_more R vs i v xs x h e done r =
    let more : take i vs ++ v ∷ [] ≡ take (i + 1) vs = ap (λ w. take i vs ++ w ∷ []) e ∙ sym (take_more vs i v h) in
    let seen = sym (items_view-push (take i vs) v) ∙ ap items_view more in
    subst (λ ds. EachMeans R ds (xs ++ x ∷ [])) seen (pushed R (items_view (take i vs)) xs (view v) x done r)

-- there are as many elements as items
pub each_length : {X : Type 0} (R : Data → X → Type 0) (vs : List Value) (xs : List X) → EachMeans R (items_view vs) xs → length xs ≡ length vs
each_length R [] [] e = refl
each_length R [] (x ∷ xs) e = absurd e
each_length R (v ∷ vs) [] e = absurd e
each_length R (v ∷ vs) (x ∷ xs) e = ap suc (each_length R vs xs e.1)

-- the item at a place
pub item_at : (P : Data → Type 0) (vs : List Value) (i : ℕ) (v : Value) → i < length vs → v ≡ get_or vs i v → P (view v) → IsSomeAnd (get_item i (items_view vs)) P
item_at P vs i v h e p = subst (λ o. IsSomeAnd o P) (get_item_within vs i v h) (subst (λ w. P (view w)) e p)

-- there is an item at a place below the length
pub item_there : (vs : List Value) (i : ℕ) → i < length vs → IsSome (get_item i (items_view vs))
item_there [] i h = absurd (omega arith)
item_there (v ∷ vs) zero h = refl
item_there (v ∷ vs) (suc i) h = item_there vs i (omega arith)

-- a fact of the value that an option has
pub on_some : {X : Type 0} (None-case : Type 0) (P : X → Type 0) (o : Option X) (x : X) → Some x ≡ o → P x → MatchOption o None-case P
on_some None-case P o x e p = subst (λ o. MatchOption o None-case P) e p

-- two items
pub two_items : (vs : List Value) (a b : Data) → items_view vs ≡ item a (item b no_items) → length vs ≡ 2
two_items [] a b h = cc
two_items (v ∷ []) a b h = cc
two_items (v ∷ w ∷ []) a b h = refl
two_items (v ∷ w ∷ u ∷ vs) a b h = cc

-- Users that are found, and targets that leave.
use Rattle.std.proofs.Common.{◌≡◌, ℕ, ◌<◌, ◌≤◌, List, length, take, get_or, Contains, Option, None, Some, MatchOption, inl, inr, sym, ap, ◌∙◌, arith}
use Rattle.std.specs.FinMap as map
use Rattle.std.specs.Ordering.{nat_cmp}
use Rattle.std.proofs.lemmas.Bool.{cases_lt}
use Rattle.std.proofs.lemmas.List.{get_or-take, length-take-le}
use Rattle.std.proofs.lemmas.List.Elements.{All-contains}
use Rattle.std.proofs.lemmas.Map.Keys.{below_from_sorted}
use Rattle.std.proofs.lemmas.Option.{get_or_from_slice_get, slice_get_within}
use Rattle.fab_reach_base.specs.fab_lemmas.Firsts.{IsFirstWith, IsFirstWithout, HasAt, HasNowhere}
use Rattle.fab_reach_base.specs.fab_lemmas.Lists.{IsListOf}
use Rattle.fab_reach_base.specs.fab_names.Orders.{name_cmp}
use Rattle.fab_reach_base.specs.fab_inventory.Holders.{Leaves}
use Rattle.fab_reach_base.specs.fab_inventory.Inventories.{InventoryRows}
use Rattle.fab_reach_base.specs.fab_mapping.Mappings.{MappingRows}
use Rattle.fab_desk_base.specs.Users.{IsLeavingTarget}
use Rattle.fab_desk_base.specs.UserSearch.{IsUntargeted, AreUntargeted, IsFirstTargeted}

-- what is there of an option, and what is not, said otherwise
pub found_as : {X : Type 0} (o : Option X) (N M : Type 0) (P Q : X → Type 0) → (N → M) → ((x : X) → P x → Q x) → MatchOption o N P → MatchOption o M Q
found_as None N M P Q f g h = f h
found_as (Some x) N M P Q f g h = g x h

-- the first user, or that there is none
pub user_found : {X : Type 0} (at : List ℕ → Option X) (P : X → Type 0) (o : Option (List ℕ)) → MatchOption o (HasNowhere at P) (IsFirstWith name_cmp (HasAt at P)) → MatchOption o ((user : List ℕ) → ¬ IsFirstWith name_cmp (HasAt at P) user) (IsFirstWith name_cmp (HasAt at P))
user_found at P o h = found_as o (HasNowhere at P) ((user : List ℕ) → ¬ IsFirstWith name_cmp (HasAt at P) user) (IsFirstWith name_cmp (HasAt at P)) (IsFirstWith name_cmp (HasAt at P)) (λ none user is. none user is.0) (λ x is. is) h

module _ (v : InventoryRows) (m : MappingRows) (array listed : List ℕ) (xs : List ℕ) (l : IsListOf nat_cmp (Leaves (map.get v.ports) array listed) xs) where
  -- none of those that leave is targeted
  none_leaves : AreUntargeted m xs → (e : ℕ × List ℕ) → ¬ IsLeavingTarget v m array listed e
  none_leaves none e is = All-contains (IsUntargeted m) xs e.0 none (l.complete e.0 is.0.0.0) is.0.0.1.0 is.0.0.1.1

  -- one that is targeted does not stand before the first
  not_before : (e : ℕ × List ℕ) (first : IsFirstWithout (IsUntargeted m) xs e.0) (k : ℕ) (q : ℕ) → k < first.at → get_or xs k q ≡ q → ¬ (¬ IsUntargeted m q)
  not_before e first k q lt is targeted =
      let within : first.at < length xs = slice_get_within xs first.at e.0 first.is in
      let size : length (take first.at xs) ≡ first.at = length-take-le first.at xs (omega arith) in
      targeted (All-contains (IsUntargeted m) (take first.at xs) q first.before (k, omega arith, get_or-take first.at xs k q lt ∙ is))

  -- none that is targeted is below the first
  not_below : (e : ℕ × List ℕ) (first : IsFirstWithout (IsUntargeted m) xs e.0) (q : ℕ) → Contains xs q → (¬ IsUntargeted m q) → e.0 ≤ q
  not_below e first q there targeted =
      let read : get_or xs first.at q ≡ e.0 = get_or_from_slice_get xs first.at e.0 q first.is in
      elim (cases_lt there.0 first.at) [
        | inl lt ↦ absurd (not_before e first there.0 q lt there.2 targeted)
        | inr ge ↦ elim (cases_lt first.at there.0) [
          | inl gt ↦ let below = below_from_sorted xs first.at there.0 q l.sorted gt there.1 in let same : get_or xs there.0 q ≡ q = there.2 in omega arith
          | inr le ↦ let same : first.at ≡ there.0 = omega arith in let is : e.0 ≡ q = sym read ∙ ap (λ k. get_or xs k q) same ∙ there.2 in omega arith
        ]
      ]

  -- the first of those that leave is the least
  first_is_least : (e : ℕ × List ℕ) → IsFirstTargeted m xs e → IsLeavingTarget v m array listed e
  first_is_least e is =
      let within : is.0.at < length xs = slice_get_within xs is.0.at e.0 is.0.is in
      let leaves = l.sound e.0 (is.0.at, within, get_or_from_slice_get xs is.0.at e.0 e.0 is.0.is) in
      (((leaves, (e.1, is.1.0)), λ q p. not_below e is.0 q (l.complete q p.0) (λ none. none p.1.0 p.1.1)), is.1)

-- the least target that leaves, or that there is none
pub leaving_found : (v : InventoryRows) (m : MappingRows) (array listed : List ℕ) (xs : List ℕ) (o : Option (ℕ × List ℕ)) → IsListOf nat_cmp (Leaves (map.get v.ports) array listed) xs → MatchOption o (AreUntargeted m xs) (IsFirstTargeted m xs)
    → MatchOption o ((e : ℕ × List ℕ) → ¬ IsLeavingTarget v m array listed e) (IsLeavingTarget v m array listed)
leaving_found v m array listed xs o l = found_as o (AreUntargeted m xs) ((e : ℕ × List ℕ) → ¬ IsLeavingTarget v m array listed e) (IsFirstTargeted m xs) (IsLeavingTarget v m array listed) (none_leaves v m array listed xs l) (first_is_least v m array listed xs l)

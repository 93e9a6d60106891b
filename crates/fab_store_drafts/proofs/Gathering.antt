-- Names that are gathered, and walks through them.
use Rattle.std.proofs.Common.{ℕ, ◌≡◌, ◌↔◌, ◌<◌, ◌≤◌, ◌+◌, inl, inr, List, [], ◌∷◌, ◌++◌, length, take, get_or, Bool, true, false, Contains, refl, sym, ap, ◌∙◌, subst, arith}
use mathlib.Core.Bool.{true≢false}
use Rattle.std.specs.BTreeSet.{BTreeSet, contains}
use Rattle.std.specs.FinSet as set
use Rattle.std.proofs.lemmas.List.{take_all}
use Rattle.std.proofs.lemmas.List.Elements.{Contains-push_cases, Contains-append_left, Contains-push}
use Rattle.std.proofs.lemmas.Map.Made.{is_member-Decides}
use Rattle.fab_reach_base.specs.fab_lemmas.Adding.{Adds, Among}
use Rattle.fab_reach_base.proofs.fab_lemmas.Adding.{Before, adds_as, before_all}
use Rattle.fab_reach_base.proofs.fab_lemmas.SeenSets.{listed_decides, tie_decides}
use Rattle.fab_reach_base.proofs.fab_lemmas.Walks.{walked}
use Rattle.fab_reach_base.specs.fab_names.Orders.{name_cmp}
use Rattle.fab_reach_base.proofs.fab_names.OrderLaws.{name_total, name_exact}
use Rattle.fab_reach_base.specs.fab_mapping_base.Groups.{Names, StorageGroupRows}
use Rattle.fab_reach_base.specs.fab_mapping.Mappings.{MappingRows}
use Rattle.fab_store_rows.specs.declared.config_row.ConfigRow.{ConfigRow}
use Rattle.fab_store_edits.proofs.ManyRows.{next_is}
use Rattle.fab_store_drafts.specs.There.{Touches, IsTouched}
use Rattle.fab_store_drafts.specs.Inner.Nearby.{IsNear, ServesOne, IsBeside}
use Rattle.fab_store_drafts.specs.declared.users.Users.{Users}

abbrev pub Tree : Type 0
Tree = BTreeSet (List ℕ)

abbrev pub in_tree : Tree → List ℕ → Bool
in_tree s = contains name_cmp s

decides : (s : Tree) (k : List ℕ) → (in_tree s k ≡ true → Contains s.keys k) × (Contains s.keys k → in_tree s k ≡ true)
decides s k = is_member-Decides (tie_decides name_total name_exact) s.keys k

-- ---- new sets
pub none_in : (s : Tree) → s.keys ≡ [] → (n : List ℕ) → in_tree s n ≡ false
none_in s e n = ap (λ (ks : List (List ℕ)). in_tree (record { keys = ks }) n) e

pub from_new : (P : List ℕ → Type 0) (s t : Tree) → s.keys ≡ [] → Adds P (in_tree s) (in_tree t) → (n : List ℕ) → (in_tree t n ≡ true) ↔ P n
from_new P s t e adds n = (λ h. elim ((adds n).0 h) [ inl k ↦ absurd (true≢false (sym k ∙ none_in s e n)) | inr p ↦ p ], λ p. (adds n).1 (inr p))

-- ---- what walks add

-- a walk through a finite set of names
pub before_seen : (Q : List ℕ → List ℕ → Type 0) (s : Names) (before : List (List ℕ)) (f g : List ℕ → Bool) → set.from_list before ≡ s → Adds (Before Q before) f g
    → Adds (λ x. (k : List ℕ) × (set.contains s k ≡ true) × Q k x) f g
before_seen Q s before f g is =
    adds_as (Before Q before) (λ x. (k : List ℕ) × (set.contains s k ≡ true) × Q k x) f g
    (λ x w. (w.0, ap (λ (y : Names). set.contains y w.0) (sym is) ∙ (listed_decides name_total name_exact before w.0).1 w.1, w.2))
    (λ x w. (w.0, (listed_decides name_total name_exact before w.0).0 (ap (λ (y : Names). set.contains y w.0) is ∙ w.1), w.2))

-- all names of a tree
pub all_added : (more : Tree) (before : List (List ℕ)) (f g : List ℕ → Bool) → before ≡ more.keys → Adds (Before (λ k x. x ≡ k) before) f g → Adds (λ n. in_tree more n ≡ true) f g
all_added more before f g is a =
    adds_as (Among name_cmp more (λ k x. x ≡ k)) (λ n. in_tree more n ≡ true) f g
    (λ x w. subst (λ y. in_tree more y ≡ true) (sym w.2) w.1)
    (λ x h. (x, h, refl))
    (before_all (λ k x. x ≡ k) name_total name_exact more before f g is a)

-- ---- storage groups beside one
pub beside_is : {A : Type 0} (v : MappingRows) (u : Users A) (g : StorageGroupRows) (none near none_too serving : Tree) → none.keys ≡ [] → none_too.keys ≡ [] → Adds (IsNear v u g) (in_tree none) (in_tree near)
    → Adds (ServesOne u near) (in_tree none_too) (in_tree serving) → (n : List ℕ) → (in_tree serving n ≡ true) ↔ IsBeside v u g n
beside_is v u g none near none_too serving e f add_near add_serving n = (
  λ h. let s = (from_new (ServesOne u near) none_too serving f add_serving n).0 h in (s.0, (from_new (IsNear v u g) none near e add_near s.0).0 s.1, s.2),
  λ b. (from_new (ServesOne u near) none_too serving f add_serving n).1 (b.0, (from_new (IsNear v u g) none near e add_near b.0).1 b.1, b.2),
)

-- ---- storage groups that rows touch
abbrev pub AreTouched : MappingRows → List ConfigRow → Tree → Type 0
AreTouched v rows s = (n : List ℕ) → (in_tree s n ≡ true) ↔ IsTouched v rows n

module _ (v : MappingRows) where
  pub touched_none : (xs : List ConfigRow) (s : Tree) → s.keys ≡ [] → AreTouched v (take 0 xs) s
  touched_none xs s e n = (λ h. absurd (true≢false (sym h ∙ none_in s e n)), λ t. absurd (let c = t.1 in omega (arith, c.1)))

  pub touched_next : (xs : List ConfigRow) (i : ℕ) (k : ConfigRow) (s t : Tree) → i < length xs → k ≡ get_or xs i k → AreTouched v (take i xs) s → Adds (Touches v k) (in_tree s) (in_tree t) → AreTouched v (take (i + 1) xs) t
  touched_next xs i k s t h is before adds = subst (λ ys. AreTouched v ys t) (next_is xs i k h is) (λ n. (
    λ there. elim ((adds n).0 there) [
      | inl o ↦ let w = (before n).0 o in (w.0, Contains-append_left (take i xs) (k ∷ []) w.0 w.1, w.2)
      | inr touches ↦ (k, Contains-push (take i xs) k, touches)
    ],
    λ w. elim (Contains-push_cases (take i xs) k w.0 w.1) [
      | inl c ↦ (adds n).1 (inl ((before n).1 (w.0, c, w.2)))
      | inr e ↦ (adds n).1 (inr (subst (λ r. Touches v r n) (sym e) w.2))
    ],
  ))

  pub touched_last : (xs : List ConfigRow) (i : ℕ) (s : Tree) → length xs ≤ i → AreTouched v (take i xs) s → AreTouched v xs s
  touched_last xs i s h = subst (λ ys. AreTouched v ys s) (take_all i xs h)

-- ---- all names of a tree have a property
module _ (P : List ℕ → Type 0) where
  abbrev pub AllOf : List (List ℕ) → Type 0
  AllOf names = (n : List ℕ) → Contains names n → P n

  pub all_none : AllOf []
  all_none n c = absurd (omega (arith, c.1))

  pub all_more : (before : List (List ℕ)) (k : List ℕ) → AllOf before → P k → AllOf (before ++ k ∷ [])
  all_more before k all p n c = elim (Contains-push_cases before k n c) [ inl o ↦ all n o | inr e ↦ subst P e p ]

  pub all_walked : (s : Tree) (before : List (List ℕ)) → before ≡ s.keys → AllOf before → (n : List ℕ) → in_tree s n ≡ true → P n
  all_walked s before is all n h = all n (subst (λ ks. Contains ks n) (sym is) ((decides s n).0 h))

pub in_walk : (s : Tree) (before it more : List (List ℕ)) (k : List ℕ) → s.keys ≡ before ++ it → it ≡ k ∷ more → in_tree s k ≡ true
in_walk s before it more k so_far next = (decides s k).1 (subst (λ ks. Contains ks k) (sym (walked s.keys before it more k so_far next)) (Contains-append_left (before ++ k ∷ []) more k (Contains-push before k)))

-- Storage groups that are clear of each other, by walks through names and groups.
use Rattle.std.proofs.Common.{ℕ, ◌≡◌, ◌++◌, ◌∷◌, [], inl, inr, List, Contains, Option, Some, Bool, true, false, not, IsTrue, refl, sym, ap, ◌∙◌, subst, arith}
use mathlib.Core.Bool.{true≢false}
use Rattle.std.specs.FinMap as map
use Rattle.std.specs.FinSet as set
use Rattle.std.proofs.lemmas.List.Elements.{Contains-push_cases}
use Rattle.fab_lemmas.proofs.SeenEntries.{entry_decides}
use Rattle.fab_lemmas.proofs.SeenSets.{listed_decides}
use Rattle.fab_names.specs.Orders.{name_cmp}
use Rattle.fab_names.proofs.OrderLaws.{name_total, name_exact}
use Rattle.fab_mapping_base.specs.Clashes.{AreAtOdds}
use Rattle.fab_mapping_base.specs.Groups.{StorageGroupRows}
use Rattle.fab_mapping.specs.Mappings.{MappingRows}
use Rattle.fab_store_drafts.specs.There.{IsClear}
use Rattle.fab_store_drafts.proofs.ClashThere.{same_or_not}
use Rattle.fab_plans_rows.specs.Inner.Beside.{AreClear, ServeNone}

-- ---- walks
module _ {X : Type 0} (P : X → Type 0) where
  -- so it is of all that are listed
  abbrev pub AllOf : List X → Type 0
  AllOf xs = (x : X) → Contains xs x → P x

  pub all_none : AllOf []
  all_none x c = absurd (omega (arith, c.1))

  pub all_more : (before : List X) (x : X) → AllOf before → P x → AllOf (before ++ x ∷ [])
  all_more before x all p y c = elim (Contains-push_cases before x y c) [ inl o ↦ all y o | inr e ↦ subst P e p ]

-- so it is of all that are in the set of names
pub all_in : (P : List ℕ → Type 0) (s : set.FinSet name_cmp) (before listed : List (List ℕ)) → before ≡ listed → set.from_list listed ≡ s → AllOf P before → (n : List ℕ) → set.contains s n ≡ true → P n
all_in P s before listed walked is all n there =
    all n (subst (λ xs. Contains xs n) (sym walked) ((listed_decides name_total name_exact listed n).0 (ap (λ (t : set.FinSet name_cmp). set.contains t n) is ∙ there)))

-- ---- groups
pub not_true : (b : Bool) → IsTrue (not b) → b ≡ false
not_true true h = absurd (true≢false (sym h))
not_true false h = refl

pub same_some : {X : Type 0} (x y : X) → ◌≡◌ {A = Option X} (Some x) (Some y) → x ≡ y
same_some x y e = cc

module _ (v : MappingRows) (a b : StorageGroupRows) where
  -- groups that are not at odds are clear of each other
  pub by_units : ¬ AreAtOdds a b → AreClear v a b
  by_units fine exposed x m n p q = elim (same_or_not m n) [
    | inl e ↦ e
    | inr differ ↦ absurd (fine (record { target = (x.target, p.4.1, q.4.1); unit = (x.unit, m, p.4.2, n, q.4.2, differ) }))
  ]

  -- and those that serve no host in common
  pub by_hosts : ServeNone v a b → AreClear v a b
  by_hosts none exposed x m n p q = absurd (none p.0 p.2 p.1 p.3 q.0 q.2 q.1 q.3 x.host p.4.0 q.4.0)

-- a group that is clear of each is clear
pub clear_of_all : (v : MappingRows) (a : StorageGroupRows) (before : List (List ℕ × StorageGroupRows)) → before ≡ map.entries v.groups → AllOf (λ (e : List ℕ × StorageGroupRows). AreClear v a e.1) before → IsClear v a
clear_of_all v a before walked all x m n claims mapped =
    all (mapped.0, mapped.1) (subst (λ es. Contains es (mapped.0, mapped.1)) (sym walked) ((entry_decides name_cmp name_total name_exact v.groups mapped.0 mapped.1).0 mapped.2)) mapped.3 x m n claims mapped.4

-- Whether two names are one, and whether another holder holds a port, as tests and as facts.
use Rattle.std.proofs.Common.{ℕ, ◌≡◌, ◌≢◌, ◌⊎◌, inl, inr, List, Bool, true, false, cond, Option, None, Some, MatchOption, refl, sym, ap, ◌∙◌, subst}
use mathlib.Core.Bool.{true≢false}
use Rattle.std.specs.Ordering.{eq_by_cmp, is_eq}
use Rattle.std.specs.Cmp.{Equal-is, tied_itself}
use Rattle.std.specs.Cmp.Lexicographic.{bytes_decides}
use Rattle.fab_names.specs.Orders.{name_cmp}
use Rattle.fab_names.proofs.OrderLaws.{name_total, name_exact}
use Rattle.fab_inventory.specs.Holders.{same_name, other_than, PortLookUp, IsHeldByOther, AreFree, IsLeast, IsHeldIn}
use Rattle.fab_inventory.proofs.Leasts.{LeastSoFar}

-- the test is true at one name alone
pub same_name_tells : (a b : List ℕ) → ((same_name a b ≡ true) × (a ≡ b)) ⊎ ((same_name a b ≡ false) × (a ≢ b))
same_name_tells a b = by (same_name a b) refl
  where
    by : (t : Bool) → same_name a b ≡ t → ((same_name a b ≡ true) × (a ≡ b)) ⊎ ((same_name a b ≡ false) × (a ≢ b))
    by true e = inl (e, (bytes_decides a b).0 e)
    by false e = inr (e, λ same. true≢false (sym ((bytes_decides a b).1 same) ∙ e))

-- what `other_than` finds is the holder, and is another
pub other_is : (name : List ℕ) (o : Option (List ℕ)) (h : List ℕ) → other_than name o ≡ Some h → (o ≡ Some h) × (h ≢ name)
other_is name None h e = absurd cc
other_is name (Some a) h e = elim (same_name_tells a name) [
  | inl same ↦ let f : ◌≡◌ {A = Option (List ℕ)} None (Some h) = sym (ap (λ t. cond t None (Some a)) same.0) ∙ e in absurd cc
  | inr apart ↦ let f : ◌≡◌ {A = Option (List ℕ)} (Some a) (Some h) = sym (ap (λ t. cond t None (Some a)) apart.0) ∙ e in (f, λ n. let g : a ≡ h = cc in apart.1 (g ∙ n))
]

-- where it finds none, a holder is this one
pub other_none : (name : List ℕ) (o : Option (List ℕ)) (h : List ℕ) → other_than name o ≡ None → o ≡ Some h → h ≡ name
other_none name None h e f = absurd cc
other_none name (Some a) h e f = elim (same_name_tells a name) [
  | inl same ↦ let g : a ≡ h = cc in sym g ∙ same.1
  | inr apart ↦ let g : ◌≡◌ {A = Option (List ℕ)} (Some a) None = sym (ap (λ t. cond t None (Some a)) apart.0) ∙ e in absurd cc
]

-- no listed port is another's, or the least that is
pub free_from_least : (ports : PortLookUp) (name : List ℕ) (listed : List ℕ) (least : Option ℕ) → LeastSoFar (λ q. (h : List ℕ) × IsHeldByOther ports name q h) listed least
    → MatchOption least (AreFree ports name listed) (IsLeast (IsHeldIn ports name listed))
free_from_least ports name listed None none = λ q h in_q held. elim (same_name_tells h name) [ inl same ↦ same.1 | inr apart ↦ absurd (none q in_q (h, (held, apart.1))) ]
free_from_least ports name listed (Some n) least = ((least.0, least.1), λ q held. least.2 q held.0 held.1)

-- names that tie in their order are one
pub tie_tells : (a b : List ℕ) → ((eq_by_cmp name_cmp a b ≡ true) × (a ≡ b)) ⊎ ((eq_by_cmp name_cmp a b ≡ false) × (a ≢ b))
tie_tells a b = by (eq_by_cmp name_cmp a b) refl
  where
    by : (t : Bool) → eq_by_cmp name_cmp a b ≡ t → ((eq_by_cmp name_cmp a b ≡ true) × (a ≡ b)) ⊎ ((eq_by_cmp name_cmp a b ≡ false) × (a ≢ b))
    by true e = inl (e, name_exact a b ((Equal-is (name_cmp a b)).0 e))
    by false e = inr (e, λ same. true≢false (sym (subst (λ x. eq_by_cmp name_cmp a x ≡ true) same (ap is_eq (tied_itself name_total a))) ∙ e))

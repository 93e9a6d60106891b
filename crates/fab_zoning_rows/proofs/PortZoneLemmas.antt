-- The zones of a port.
use Rattle.std.proofs.Common.{ℕ, ◌≡◌, List, [], ◌∷◌, length, Bool, true, false, ◌||◌, inl, inr, Option, None, Some, MatchOption, refl, sym, ap, ◌∙◌, subst, arith}
use mathlib.Core.Bool.{true≢false}
use Rattle.std.specs.Ordering.{is_eq, is_lt, is_gt, eq_by_cmp, ordering_reverse}
use Rattle.std.specs.declared.cmp.Ordering.{Ordering}
use Rattle.std.specs.declared.cmp.Ordering.TheVariants.{Less, Equal, Greater}
use Rattle.std.specs.Cmp.{tied_itself}
use Rattle.std.specs.List.{list_any}
use Rattle.std.specs.BTreeSet.{BTreeSet, contains}
use Rattle.fab_inventory.specs.fab_names.Orders.{name_cmp}
use Rattle.std.proofs.lemmas.Cmp.{upto}
use Rattle.fab_inventory.proofs.fab_names.OrderLaws.{name_total}
use Rattle.fab_inventory.proofs.fab_lemmas.Tests.{or_true, or_right, or_left}
use Rattle.fab_zoning_rows.specs.PortZones.{HasNoCommon, IsLeastCommon}
use Rattle.fab_zoning_rows.specs.Inner.PortZones.{IsLesser}

none_in : (ks : List (List ℕ)) → length ks ≡ 0 → (z : List ℕ) → list_any (eq_by_cmp name_cmp z) ks ≡ false
none_in [] e z = refl
none_in (k ∷ ks) e z = absurd (omega arith)

none_there : (ks : List (List ℕ)) → ((z : List ℕ) → list_any (eq_by_cmp name_cmp z) ks ≡ false) → length ks ≡ 0
none_there [] none = refl
none_there (k ∷ ks) none = absurd (true≢false (sym (ap (λ r. is_eq r || list_any (eq_by_cmp name_cmp k) ks) (tied_itself name_total k)) ∙ none k))

-- a set is empty where no zone is in it
pub bare : (s : BTreeSet (List ℕ)) → length s.keys ≡ 0 → (z : List ℕ) → contains name_cmp s z ≡ false
bare s e z = none_in s.keys e z

pub bare_back : (s : BTreeSet (List ℕ)) → ((z : List ℕ) → contains name_cmp s z ≡ false) → length s.keys ≡ 0
bare_back s none = none_there s.keys none

-- the first common zone, or that there is none
abbrev pub IsFirst : (List ℕ → Bool) → (List ℕ → Bool) → Option (List ℕ) → Type 0
IsFirst s t o = MatchOption o (HasNoCommon s t) (IsLeastCommon s t)

module _ (s u t : List ℕ → Bool) where
  abbrev either : List ℕ → Bool
  either z = s z || u z

  neither : HasNoCommon s t → HasNoCommon u t → HasNoCommon either t
  neither h k z e = elim (or_true (s z) (u z) e) [ inl a ↦ h z a | inr b ↦ k z b ]

  from_one : (x : List ℕ) → IsLeastCommon s t x → ((w : List ℕ) → u w ≡ true → t w ≡ true → is_gt (name_cmp x w) ≡ false) → IsLeastCommon either t x
  from_one x l more = record {
    one = or_left (s x) (u x) l.one;
    other = l.other;
    least = λ w e passes. elim (or_true (s w) (u w) e) [ inl a ↦ l.least w a passes | inr b ↦ more w b passes ];
  }

  from_other : (x : List ℕ) → IsLeastCommon u t x → ((w : List ℕ) → s w ≡ true → t w ≡ true → is_gt (name_cmp x w) ≡ false) → IsLeastCommon either t x
  from_other x l more = record {
    one = or_right (s x) (u x) l.one;
    other = l.other;
    least = λ w e passes. elim (or_true (s w) (u w) e) [ inl a ↦ more w a passes | inr b ↦ l.least w b passes ];
  }

  -- the lesser of the first zones of two sets is the first of both
  pub first_of_either : (a b r : Option (List ℕ)) → IsFirst s t a → IsFirst u t b → IsLesser a b r → IsFirst either t r
  first_of_either None None r h k is = subst (IsFirst either t) (sym is) (neither h k)
  first_of_either None (Some y) r h k is = subst (IsFirst either t) (sym is) (from_other y k (λ w a b. absurd (true≢false (sym b ∙ h w a))))
  first_of_either (Some x) None r h k is = subst (IsFirst either t) (sym is) (from_one x h (λ w a b. absurd (true≢false (sym b ∙ k w a))))
  first_of_either (Some x) (Some y) r h k is = elim is [
    | inl i ↦ subst (IsFirst either t) (sym i.0) (from_one x h (λ w a b. upto name_total x y w i.1 (k.least w a b)))
    | inr i ↦ subst (IsFirst either t) (sym i.0) (from_other y k (λ w a b. upto name_total y x w i.1 (h.least w a b)))
  ]

-- a name that the other is not below does not come after it
pub lesser_stays : (x y : List ℕ) → is_lt (name_cmp y x) ≡ false → is_gt (name_cmp x y) ≡ false
lesser_stays x y e = ap is_gt (name_total.antisymm x y) ∙ by (name_cmp y x) e
  where
    by : (r : Ordering) → is_lt r ≡ false → is_gt (ordering_reverse r) ≡ false
    by Less h = absurd (true≢false h)
    by Equal h = refl
    by Greater h = refl

-- What rows say under keys, row by row.
use Rattle.std.proofs.Common.{◌≡◌, List, [], ◌∷◌, ◌++◌, Bool, true, false, cond, Option, None, Some, MatchOption, inl, inr, refl, sym, ap, ◌∙◌, subst, arith}
use mathlib.Core.Bool.{true≢false}
use Rattle.std.specs.declared.cmp.Ordering.{Ordering}
use Rattle.std.specs.Ordering.{is_eq}
use Rattle.std.specs.Cmp.{IsTotalOrder, Equal-is, tied_itself}
use Rattle.std.specs.BTreeMap.{BTreeMap, get, is_at}
use Rattle.std.specs.Map.{lookup}
use Rattle.std.specs.FinSet as set
use Rattle.std.proofs.lemmas.List.Elements.{Contains-push_cases, Contains-append_left, Contains-push}
use Rattle.fab_reach_base.specs.Adding.{Adds}
use Rattle.fab_reach_base.proofs.Adding.{Before, adds_as}
use Rattle.fab_reach_books.proofs.SetLoops.{only_one}
use Rattle.fab_reach_books.specs.declared.row.Row.{Row}
use Rattle.fab_reach_moves.specs.Inner.Saying.{IsSaid, AreSaid, IsOnce}

module _ {K X : Type 0} (says : Row → K → X → Type 0) where
  -- a row, and what it says
  abbrev pub Says : Row → K × X → Type 0
  Says r e = says r e.0 e.1

  pub item_said : IsOnce says → (r : Row) (e : K × X) (old new : K × X → Type 0) → Says r e → Adds (λ y. y ≡ e) old new → Adds (Says r) old new
  item_said once r e old new s = only_one (Says r) e old new s (λ y h. let same = once r y.0 e.0 y.1 e.1 h s in λ i. (same.0 i, same.1 i))

  pub items_all : (rows : List Row) (old new : K × X → Type 0) → Adds (Before Says rows) old new → Adds (λ (e : K × X). IsSaid says rows e.0 e.1) old new
  items_all rows old new = adds_as (Before Says rows) (λ (e : K × X). IsSaid says rows e.0 e.1) old new (λ e h. h) (λ e h. h)

module _ {K X : Type 0} {O : K → K → Ordering} (o : IsTotalOrder O) (exact : set.IsAntisymmetric O) (says : Row → K → X → Type 0) where
  -- what the map has under the key is what rows say there
  abbrev pub Match : List Row → K → Option X → Type 0
  Match rows k f = MatchOption f ((x : X) → ¬ IsSaid says rows k x) (IsSaid says rows k)

  -- no row so far
  pub said_none : (t : BTreeMap K X) → t.entries ≡ [] → AreSaid O says [] t
  said_none t none k = subst (Match [] k) (sym (ap (lookup (is_at (O k))) none)) (λ x h. omega (arith, h.1.1))

  -- a row that says nothing
  pub said_skip : (before : List Row) (r : Row) (t : BTreeMap K X) → ((k : K) (x : X) → ¬ says r k x) → AreSaid O says before t → AreSaid O says (before ++ r ∷ []) t
  said_skip before r t none are k = by (get O t k) (are k)
    where
      by : (f : Option X) → Match before k f → Match (before ++ r ∷ []) k f
      by None n = λ x h. elim (Contains-push_cases before r h.0 h.1) [ inl b ↦ n x (h.0, b, h.2) | inr e ↦ none k x (subst (λ y. says y k x) (sym e) h.2) ]
      by (Some x) h = (h.0, Contains-append_left before (r ∷ []) h.0 h.1, h.2)

  -- a row that says x under k
  pub said_put : IsOnce says → (before : List Row) (r : Row) (k : K) (x : X) (t u : BTreeMap K X) → says r k x → ((q : K) → get O u q ≡ cond (is_at (O k) q) (Some x) (get O t q)) → AreSaid O says before t → AreSaid O says (before ++ r ∷ []) u
  said_put once before r k x t u s updates are q = subst (Match (before ++ r ∷ []) q) (sym (updates q)) (by (is_at (O k) q) refl)
    where
      other : (y : X) → is_at (O k) q ≡ false → ¬ says r q y
      other y off h = let same = once r k q x y s h in true≢false (sym (subst (λ z. is_at (O k) z ≡ true) same.0 (ap is_eq (tied_itself o k))) ∙ off)

      rest : is_at (O k) q ≡ false → (f : Option X) → Match before q f → Match (before ++ r ∷ []) q f
      rest off None n = λ y h. elim (Contains-push_cases before r h.0 h.1) [ inl b ↦ n y (h.0, b, h.2) | inr e ↦ other y off (subst (λ z. says z q y) (sym e) h.2) ]
      rest off (Some y) h = (h.0, Contains-append_left before (r ∷ []) h.0 h.1, h.2)

      by : (b : Bool) → is_at (O k) q ≡ b → Match (before ++ r ∷ []) q (cond b (Some x) (get O t q))
      by true is = (r, Contains-push before r, subst (λ z. says r z x) (exact k q ((Equal-is (O k q)).0 is)) s)
      by false is = rest is (get O t q) (are q)

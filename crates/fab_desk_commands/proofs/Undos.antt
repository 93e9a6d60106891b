-- What undoes the plans of a world, where one of them is changed.
use Rattle.std.proofs.Common.{ℕ, ◌≡◌, ◌≢◌, ◌↔◌, List, Option, None, Some, Bool, true, false, cond, refl, sym, ap, ◌∙◌, subst}
use mathlib.Core.Bool.{true≢false}
use Rattle.std.specs.FinMap as map
use Rattle.std.specs.List.{flat_map}
use Rattle.std.specs.Option.{is_some, option_and_then, option_to_list}
use Rattle.std.specs.Ordering.{eq_by_cmp}
use Rattle.std.specs.Cmp.{Equal-is, tied_itself}
use Rattle.fab_reach_base.specs.fab_lemmas.Firsts.{HasAt}
use Rattle.fab_reach_base.specs.fab_names.Orders.{name_cmp}
use Rattle.fab_reach_base.proofs.fab_names.OrderLaws.{name_total, name_exact}
use Rattle.fab_world.specs.History.{changes_of}
use Rattle.fab_world.specs.PlanRecords.{PlanRecord}
use Rattle.fab_world.specs.Plans.{Change, undo_of, IsActive}
use Rattle.fab_world.specs.Soundness.{ListsActive}

-- what undoes the plan that is there, where it is active
abbrev pub undo_at : Option PlanRecord → Option Change
undo_at o = option_and_then (λ (p : PlanRecord). undo_of p.standing) o

-- the plans are undone as the others are
abbrev pub SameUndos : (List ℕ → Option PlanRecord) → (List ℕ → Option PlanRecord) → Type 0
SameUndos plans others = (k : List ℕ) → undo_at (others k) ≡ undo_at (plans k)

-- the plan that is there is active where something undoes it
pub active_undone : (o : Option PlanRecord) → (p : PlanRecord) × (o ≡ Some p) × IsActive p → is_some (undo_at o) ≡ true
active_undone o h = subst (λ x. is_some (undo_at x) ≡ true) (sym h.1) h.2

pub undone_active : (o : Option PlanRecord) → is_some (undo_at o) ≡ true → (p : PlanRecord) × (o ≡ Some p) × IsActive p
undone_active None h = absurd (true≢false (sym h))
undone_active (Some p) h = (p, refl, h)

module _ (plans others : List ℕ → Option PlanRecord) where
  -- the plan of the name is active among both
  pub active_too : (k : List ℕ) → undo_at (others k) ≡ undo_at (plans k) → HasAt plans IsActive k ↔ HasAt others IsActive k
  active_too k same = (λ h. undone_active (others k) (ap is_some same ∙ active_undone (plans k) h), λ h. undone_active (plans k) (ap is_some (sym same) ∙ active_undone (others k) h))

  module _ (same : SameUndos plans others) where
    pub same_changes : (names : List (List ℕ)) → changes_of others names ≡ changes_of plans names
    same_changes names = ap (λ (f : List ℕ → List Change). flat_map f names) (λ i k. option_to_list (same k i))

    pub same_listing : (order : List (List ℕ)) → ListsActive plans order → ListsActive others order
    same_listing order l = record { lists = λ k. (λ h. (active_too k (same k)).0 ((l.lists k).0 h), λ h. (l.lists k).1 ((active_too k (same k)).1 h)); each_once = l.each_once }

-- ---- one plan is put

module _ (m : map.FinMap name_cmp PlanRecord) (n : List ℕ) (p : PlanRecord) where
  -- under the name it is this
  pub put_there : map.get (map.insert m n p) n ≡ Some p
  put_there = map.get-insert name_total m n p n ∙ ap (λ b. cond b (Some p) (map.get m n)) ((Equal-is (name_cmp n n)).1 (tied_itself name_total n))

  -- under another name it is what it was
  pub put_beside : (k : List ℕ) → k ≢ n → map.get (map.insert m n p) k ≡ map.get m k
  put_beside k apart = by (eq_by_cmp name_cmp k n) refl (map.get-insert name_total m n p k)
    where
      by : (b : Bool) → eq_by_cmp name_cmp k n ≡ b → map.get (map.insert m n p) k ≡ cond b (Some p) (map.get m k) → map.get (map.insert m n p) k ≡ map.get m k
      by true is e = absurd (apart (name_exact k n ((Equal-is (name_cmp k n)).0 is)))
      by false is e = e

  -- where it is undone as what was there, all are undone as they were
  pub put_alike : undo_at (map.get m n) ≡ undo_of p.standing → SameUndos (map.get m) (map.get (map.insert m n p))
  put_alike alike k = by (eq_by_cmp name_cmp k n) refl (map.get-insert name_total m n p k)
    where
      by : (b : Bool) → eq_by_cmp name_cmp k n ≡ b → map.get (map.insert m n p) k ≡ cond b (Some p) (map.get m k) → undo_at (map.get (map.insert m n p) k) ≡ undo_at (map.get m k)
      by true is e = ap undo_at e ∙ sym alike ∙ ap (λ q. undo_at (map.get m q)) (sym (name_exact k n ((Equal-is (name_cmp k n)).0 is)))
      by false is e = ap undo_at e

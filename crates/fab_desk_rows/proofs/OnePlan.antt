-- The rows of one plan, where all others are as they were.
use Rattle.std.proofs.Common.{◌≡◌, ℕ, List, Bool, true, false, Option, refl, sym, ap, ◌∙◌, subst}
use mathlib.Core.Bool.{true≢false}
use Rattle.std.specs.declared.cmp.Ordering.{Ordering}
use Rattle.std.specs.Cmp.Lexicographic.{bytes_decides}
use Rattle.std.specs.FinMap as map
use Rattle.fab_reach_base.specs.fab_lemmas.Firsts.{HasAt}
use Rattle.fab_reach_base.specs.fab_lemmas.Lists.{IsListOf}
use Rattle.fab_reach_base.proofs.fab_lemmas.Filters.{list_as}
use Rattle.fab_reach_base.specs.fab_inventory.Holders.{same_name}
use Rattle.fab_world.specs.PlanRecords.{PlanRecord}
use Rattle.fab_world.specs.Worlds.{WorldRows}
use Rattle.fab_store_world.specs.Standing.{Lacking}
use Rattle.fab_desk_rows.specs.Moves.{AreMoved}
use Rattle.fab_desk_rows.specs.PlanMoves.{IsOfOne, AreOfOne}

-- two names are one, or they are not
pub name_decides : (m n : List ℕ) → (same_name m n ≡ true → m ≡ n) × (m ≡ n → same_name m n ≡ true)
name_decides m n = let d = bytes_decides m n in (d.0, d.1)

pub told_apart : (m n : List ℕ) → same_name m n ≡ false → ¬ (m ≡ n)
told_apart m n apart is = true≢false (sym ((name_decides m n).1 is) ∙ apart)

module _ {R : Type 0} (O : R → R → Ordering) (plan_of : R → List ℕ) (P : R → PlanRecord → Type 0) where
  abbrev pub StandsOf : WorldRows → R → Type 0
  StandsOf w r = HasAt (map.get w.plans) (P r) (plan_of r)

  -- the plans of the worlds but for this one
  abbrev pub AreOthers : WorldRows → WorldRows → List ℕ → Type 0
  AreOthers w v n = (m : List ℕ) → ¬ (m ≡ n) → map.get w.plans m ≡ map.get v.plans m

  one_side : (w v : WorldRows) (n : List ℕ) → AreOthers w v n → (xs : List R) → IsListOf O (IsOfOne plan_of P n (map.get w.plans n) (map.get v.plans n)) xs → IsListOf O (Lacking StandsOf v w) xs
  one_side w v n others xs = list_as (IsOfOne plan_of P n (map.get w.plans n) (map.get v.plans n)) (Lacking StandsOf v w) xs to from
    where
      to : (r : R) → IsOfOne plan_of P n (map.get w.plans n) (map.get v.plans n) r → Lacking StandsOf v w r
      to r h = (
        (h.1.0, ap (map.get w.plans) h.0 ∙ h.1.1, h.1.2),
        λ s. h.2 (s.0, sym (ap (map.get v.plans) h.0) ∙ s.1, s.2),
      )

      here : (r : R) → Lacking StandsOf v w r → plan_of r ≡ n → IsOfOne plan_of P n (map.get w.plans n) (map.get v.plans n) r
      here r h is = (
        is,
        (h.0.0, sym (ap (map.get w.plans) is) ∙ h.0.1, h.0.2),
        λ s. h.1 (s.0, ap (map.get v.plans) is ∙ s.1, s.2),
      )

      by : (r : R) (b : Bool) → same_name (plan_of r) n ≡ b → Lacking StandsOf v w r → IsOfOne plan_of P n (map.get w.plans n) (map.get v.plans n) r
      by r true e h = here r h ((name_decides (plan_of r) n).0 e)
      by r false e h = absurd (h.1 (h.0.0, sym (others (plan_of r) (told_apart (plan_of r) n e)) ∙ h.0.1, h.0.2))

      from : (r : R) → Lacking StandsOf v w r → IsOfOne plan_of P n (map.get w.plans n) (map.get v.plans n) r
      from r h = by r (same_name (plan_of r) n) refl h

  -- what moves of the one plan is all that moves
  pub all_of_one : (w v : WorldRows) (n : List ℕ) (o p : Option PlanRecord) (xs ys : List R) → map.get w.plans n ≡ o → map.get v.plans n ≡ p → AreOthers w v n → AreOfOne O plan_of P n o p xs ys → AreMoved O StandsOf w v xs ys
  all_of_one w v n o p xs ys before after others one =
      let told =
      subst (λ (q : Option PlanRecord). AreOfOne O plan_of P n (map.get w.plans n) q xs ys) (sym after)
      (subst (λ (q : Option PlanRecord). AreOfOne O plan_of P n q p xs ys) (sym before) one) in
      record {
        removed = one_side w v n others xs told.removed;
        added = one_side v w n (λ m apart. sym (others m apart)) ys told.added;
      }

-- No check fails, or the first one that does.
use Rattle.std.proofs.Common.{◌<◌, arith}
use Rattle.fab_plans.specs.Checks.{Check, own_name, other_names, right_array, free_unit, no_user, room, place_of, Failures, PassesAll, IsFirstRefusal}
use Rattle.fab_plans.specs.declared.fault.Refusal.{Refusal}

-- the check does not fail
abbrev pub Passes : Failures → Check → Type 0
Passes fails k = (r : Refusal) → ¬ fails k r

module _ (fails : Failures) where
  -- none fails
  pub passes_all : Passes fails own_name → Passes fails other_names → Passes fails right_array → Passes fails free_unit → Passes fails no_user → Passes fails room → PassesAll fails
  passes_all a b c d e f own_name = a
  passes_all a b c d e f other_names = b
  passes_all a b c d e f right_array = c
  passes_all a b c d e f free_unit = d
  passes_all a b c d e f no_user = e
  passes_all a b c d e f room = f

  -- the first that fails
  pub first_own : (r : Refusal) → fails own_name r → IsFirstRefusal fails r
  first_own r h = record { check = own_name; here = h; before = λ k q lt. absurd (omega (arith, lt)) }

  pub first_other : (r : Refusal) → fails other_names r → Passes fails own_name → IsFirstRefusal fails r
  first_other r h a = record { check = other_names; here = h; before = by }
    where
      by : (k : Check) (q : Refusal) → place_of k < 1 → ¬ fails k q
      by own_name q lt = a q
      by other_names q lt = absurd (omega arith)
      by right_array q lt = absurd (omega arith)
      by free_unit q lt = absurd (omega arith)
      by no_user q lt = absurd (omega arith)
      by room q lt = absurd (omega arith)

  pub first_array : (r : Refusal) → fails right_array r → Passes fails own_name → Passes fails other_names → IsFirstRefusal fails r
  first_array r h a b = record { check = right_array; here = h; before = by }
    where
      by : (k : Check) (q : Refusal) → place_of k < 2 → ¬ fails k q
      by own_name q lt = a q
      by other_names q lt = b q
      by right_array q lt = absurd (omega arith)
      by free_unit q lt = absurd (omega arith)
      by no_user q lt = absurd (omega arith)
      by room q lt = absurd (omega arith)

  pub first_unit : (r : Refusal) → fails free_unit r → Passes fails own_name → Passes fails other_names → Passes fails right_array → IsFirstRefusal fails r
  first_unit r h a b c = record { check = free_unit; here = h; before = by }
    where
      by : (k : Check) (q : Refusal) → place_of k < 3 → ¬ fails k q
      by own_name q lt = a q
      by other_names q lt = b q
      by right_array q lt = c q
      by free_unit q lt = absurd (omega arith)
      by no_user q lt = absurd (omega arith)
      by room q lt = absurd (omega arith)

  pub first_user : (r : Refusal) → fails no_user r → Passes fails own_name → Passes fails other_names → Passes fails right_array → Passes fails free_unit → IsFirstRefusal fails r
  first_user r h a b c d = record { check = no_user; here = h; before = by }
    where
      by : (k : Check) (q : Refusal) → place_of k < 4 → ¬ fails k q
      by own_name q lt = a q
      by other_names q lt = b q
      by right_array q lt = c q
      by free_unit q lt = d q
      by no_user q lt = absurd (omega arith)
      by room q lt = absurd (omega arith)

  pub first_room : (r : Refusal) → fails room r → Passes fails own_name → Passes fails other_names → Passes fails right_array → Passes fails free_unit → Passes fails no_user → IsFirstRefusal fails r
  first_room r h a b c d e = record { check = room; here = h; before = by }
    where
      by : (k : Check) (q : Refusal) → place_of k < 5 → ¬ fails k q
      by own_name q lt = a q
      by other_names q lt = b q
      by right_array q lt = c q
      by free_unit q lt = d q
      by no_user q lt = e q
      by room q lt = absurd (omega arith)

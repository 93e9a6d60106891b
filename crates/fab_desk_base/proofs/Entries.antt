-- Approvals, listed as the entries of their map.
use Rattle.std.proofs.Common.{◌≡◌, ℕ, List, [], ◌∷◌, ◌++◌}
use Rattle.fab_policy.specs.declared.act.Approval.{Approval}
use Rattle.fab_desk_base.specs.Showing.{AreEntries}

-- one entry more
pub entries_more : (es : List (List ℕ × ℕ)) (xs : List Approval) (e : List ℕ × ℕ) (x : Approval) → AreEntries es xs → x.caller ≡ e.0 → x.revision ≡ e.1 → AreEntries (es ++ e ∷ []) (xs ++ x ∷ [])
entries_more [] [] e x are is at = (is, at, tt)
entries_more [] (y ∷ xs) e x are is at = absurd are
entries_more (d ∷ es) [] e x are is at = absurd are
entries_more (d ∷ es) (y ∷ xs) e x are is at = (are.0, are.1, entries_more es xs e x are.2 is at)

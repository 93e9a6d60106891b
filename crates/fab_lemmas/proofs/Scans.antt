-- A scan of a list from the left for the first item without a property.
use Rattle.std.proofs.Common.{ℕ, ◌≡◌, ◌<◌, ◌≤◌, ◌+◌, List, length, take, get_or, All, refl, subst}
use Rattle.std.proofs.lemmas.List.{take_all}
use Rattle.std.proofs.lemmas.List.Elements.{All-more}
use Rattle.std.proofs.lemmas.Option.{slice_get_read}
use Rattle.fab_lemmas.specs.Firsts.{IsFirstWithout}

module _ {X : Type 0} (P : X → Type 0) (xs : List X) where
  -- the item of a step has P too
  pub scan_more : (i : ℕ) (x : X) → i < length xs → x ≡ get_or xs i x → All P (take i xs) → P x → All P (take (i + 1) xs)
  scan_more i x lt is before here = All-more P xs i x lt before (subst P is here)

  -- at the end all have P
  pub scan_end : (i : ℕ) → length xs ≤ i → All P (take i xs) → All P xs
  scan_end i end before = subst (All P) (take_all i xs end) before

  -- the item of a step is the first without P
  pub scan_hit : (i : ℕ) (x : X) → i < length xs → x ≡ get_or xs i x → All P (take i xs) → ¬ P x → IsFirstWithout P xs x
  scan_hit i x lt is before not = record { at = i; is = slice_get_read xs (length xs) i x refl lt is; without = not; before = before }

-- Whether there are few paths, by a test of their number.
use Rattle.std.proofs.Common.{ℕ, ◌≡◌, ◌<◌, ◌≤◌, Bool, true, false, IsTrue, refl}
use Rattle.fab_reach_base.specs.Limits.{MoreThan}
use Rattle.fab_reach_base.specs.Reach.{Reaches}
use Rattle.fab_reach_base.specs.Records.{Records}
use Rattle.fab_reach_books.specs.Numbers.{IsNumberOf}
use Rattle.fab_reach_books.proofs.Numbers.{more, not_more}

pub few_where : (w : Records) (n most : ℕ) (b : Bool) → IsNumberOf w n → (IsTrue b → n ≤ most) × (n ≤ most → IsTrue b) → (b ≡ false → most < n) → (IsTrue b → ¬ MoreThan most (Reaches w)) × (¬ MoreThan most (Reaches w) → IsTrue b)
few_where w n most b number few many = ((λ h. not_more w n most number (few.0 h)), by b refl)
  where
    by : (c : Bool) → b ≡ c → ¬ MoreThan most (Reaches w) → IsTrue b
    by true e none = e
    by false e none = absurd (none (more w n most number (many e)))

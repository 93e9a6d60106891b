-- What contracts see of a sight that stops past the limit on paths.
use Rattle.std.specs.Prelude.{ℕ, ◌≡◌, Bool, true, refl}
use Rattle.std.specs.Coded.{Coded, code_by, coded×, coded_ℕ, coded_bool}
use Rattle.std.specs.BTreeSet.{BTreeSet}
use Rattle.fab_reach_base.specs.Limits.{MoreThan, most_paths}
use Rattle.fab_reach_base.specs.Orders.{Has}
use Rattle.fab_reach_base.specs.Reach.{Reaches}
use Rattle.fab_reach_base.specs.Records.{Records, records_code}
use Rattle.fab_reach_base.specs.declared.path.Path.{Path}

-- the world that is seen, how many questions were asked, and whether more paths were shown than there may be
pub record LimitedRows : Type 0 where
  pub world : Records
  pub asked : ℕ
  pub over : Bool

abbrev pub limited_code : Coded LimitedRows
limited_code = code_by (Records × (ℕ × Bool)) (coded× records_code (coded× coded_ℕ coded_bool)) (λ s. (s.world, (s.asked, s.over))) (λ p. record { world = p.0; asked = p.1.0; over = p.1.1 }) (λ _. refl)

-- only paths of the world were shown, and where they are too many there are
pub record ShowsPaths (w : Records) (shown : BTreeSet Path) (over : Bool) : Type 0 where
  pub paths : (x : Path) → Has shown x → Reaches w x
  pub many : over ≡ true → MoreThan most_paths (Reaches w)

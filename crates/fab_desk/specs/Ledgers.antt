-- What contracts see of a world with a book of its paths.
use Rattle.std.specs.Prelude.{ℕ, refl}
use Rattle.std.specs.Coded.{Coded, code_by, coded×, coded_ℕ}
use Rattle.fab_world.specs.Worlds.{WorldRows, world_code}

-- the world, and how many questions the book has asked
pub record LedgerRows : Type 0 where
  pub world : WorldRows
  pub asked : ℕ

abbrev pub ledger_code : Coded LedgerRows
ledger_code = code_by (WorldRows × ℕ) (coded× world_code coded_ℕ) (λ l. (l.world, l.asked)) (λ p. record { world = p.0; asked = p.1 }) (λ _. refl)

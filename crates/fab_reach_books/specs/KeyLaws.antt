-- The order of pairs is total, and tells them apart.
use Rattle.std.specs.Ordering.{nat_cmp}
use Rattle.std.specs.Cmp.{IsTotalOrder, nat_cmp_total, then_total, on_total}
use Rattle.std.specs.FinSet as set
use Rattle.std.proofs.lemmas.Map.Lookups.{exact_pairs}
use Rattle.fab_reach_books.specs.Pairs.{Pair, pair_cmp}

pub pair_total : IsTotalOrder pair_cmp
pair_total = then_total (on_total (λ (p : Pair). p.0) nat_cmp_total) (on_total (λ (p : Pair). p.1) nat_cmp_total)

pub pair_exact : set.IsAntisymmetric pair_cmp
pair_exact = exact_pairs nat_cmp nat_cmp set.nat_cmp-IsAntisymmetric set.nat_cmp-IsAntisymmetric

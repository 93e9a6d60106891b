use Rattle.std.proofs.Common.{◌==◌, length, ap, arith}
use Rattle.std.proofs.lemmas.List.Splits.{length-slice_split}
use Rattle.fab_store_tables.proofs.words.one_word.Goals as goal

pub returns-in-Some : goal.returns-in-Some
returns-in-Some c one = omega (arith, one, ap length c.in-Some.ensures, length-slice_split (λ b. b == 32) c.in-Some.field-0.1.now)

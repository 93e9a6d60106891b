use Rattle.std.proofs.Common.{◌&&◌, nat_le, nat_lt, sym, ap, ◌∙◌, arith}
use Rattle.fab_zoning.specs.Limits.{most_members}
use Rattle.fab_zoning_rows.proofs.fab_lemmas.SeenSets.{len_seen}
use Rattle.fab_zoning.proofs.Sounding.{size_some, size_none}
use Rattle.fab_zoning.proofs.sound.is_listing.Goals as goal

pub returns-then-count-gt0 : goal.returns-then-count-gt0
returns-then-count-gt0 g c = size_some c.len-count.result (omega arith) ∙ ap (λ n. nat_lt 0 n && nat_le n most_members) (c.len-count.ensures.len ∙ sym (len_seen g.met.K.Ord.total c.args.set.now.keys c.len-count.ensures.ordered))

pub returns-else-count-gt0 : goal.returns-else-count-gt0
returns-else-count-gt0 g c = size_none c.len-count.result (omega arith) ∙ ap (λ n. nat_lt 0 n && nat_le n most_members) (c.len-count.ensures.len ∙ sym (len_seen g.met.K.Ord.total c.args.set.now.keys c.len-count.ensures.ordered))

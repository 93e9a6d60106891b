use Rattle.fab_store_rows.specs.Differences.{StandsOnlyIn}
use Rattle.fab_store_rows.specs.RowOrder.{row_order}
use Rattle.fab_desk_rows.proofs.Listed.{none_listed}
use Rattle.fab_desk_rows.proofs.parts.same_config.Goals as goal

pub returns : goal.returns
returns g c = λ d. record {
  takes = none_listed row_order (StandsOnlyIn d d) c.new.result.items c.new.ensures.items (λ r h. h.not_there h.there);
  adds = none_listed row_order (StandsOnlyIn d d) c.new-2.result.items c.new-2.ensures.items (λ r h. h.not_there h.there);
}

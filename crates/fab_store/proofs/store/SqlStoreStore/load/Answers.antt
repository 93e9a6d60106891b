use Rattle.std.proofs.Common.{sym, subst}
use Rattle.sqlite.specs.Effect.{Database}
use Rattle.fab_store_sql.specs.Trees.{tables_of}
use Rattle.fab_store_base.specs.Worlds.{HoldsWorld}
use Rattle.fab_store.proofs.store.SqlStoreStore.load.Goals as goal

pub returns-in-Ok-clause-rows : goal.returns-in-Ok-clause-rows
returns-in-Ok-clause-rows g c clean = subst (λ (d : Database). HoldsWorld (tables_of d.trees) c.in-Ok.world) (sym (c.in-Ok.ensures.same clean).now) (c.in-Ok.ensures.rows clean)

use Rattle.std.proofs.Common.{OnOk, subst}
use Rattle.fab_names.specs.Orders.{name_cmp}
use Rattle.fab_zoning_rows.specs.fab_lemmas.MapsOfSets.{seen_sets}
use Rattle.fab_zoning.specs.Edits.{Puts, IsItem, HasSome}
use Rattle.fab_zoning.specs.Zonings.{FabricZoning}
use Rattle.fab_zoning.proofs.zoning.Zoning.add_to_set.Goals as goal

pub returns-clause-puts : goal.returns-clause-puts
returns-clause-puts g c = subst (λ (v : FabricZoning). OnOk c.put_item.result (Puts (c.args.name, c.args.zone) (IsItem v.sets) (IsItem (seen_sets name_cmp name_cmp c.put_item.new.sets.entries)))) c.self.view_is c.put_item.ensures.puts

pub returns-clause-some : goal.returns-clause-some
returns-clause-some g c = subst (λ (v : FabricZoning). OnOk c.put_item.result (HasSome v.sets → HasSome (seen_sets name_cmp name_cmp c.put_item.new.sets.entries))) c.self.view_is c.put_item.ensures.some

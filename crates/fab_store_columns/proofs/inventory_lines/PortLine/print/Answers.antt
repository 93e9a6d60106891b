use Rattle.std.proofs.Common.{sym, subst}
use Rattle.fab_names.specs.Names.{SpellsName}
use Rattle.fab_names.specs.WorldWideNames.{SpellsPlain}
use Rattle.fab_store_columns_base.specs.Columns.{ShowsAt, ShowsOption}
use Rattle.fab_store_columns.specs.InventoryLines.{ShowsPort}
use Rattle.fab_store_columns_base.proofs.Texts.{on_ok}
use Rattle.fab_store_columns.proofs.inventory_lines.PortLine.print.Goals as goal

pub returns-in-Some : goal.returns-in-Some
returns-in-Some g c =
    let p = c.args.port.now in
    on_ok _ (λ line. ShowsPort line p) c.logged_in.result (λ line f. record {
      name = subst (λ t. SpellsPlain t p.name) (sym f.0) c.in_ok-wwpn.ensures;
      node = subst (λ t. SpellsPlain t p.node) (sym f.1) c.in_ok-wwnn.ensures;
      at = subst (λ a. ShowsAt line.fabric line.domain line.slot a) (sym c.in-Some.is) f.3;
      holder = subst (λ t. ShowsOption SpellsName t p.holder) (sym f.2) c.in_ok-holder.ensures;
    }) c.logged_in.ensures

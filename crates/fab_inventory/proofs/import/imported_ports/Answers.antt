use Rattle.std.proofs.Common.{◌≡◌, ℕ, sym, ap, ◌∙◌, arith, List, Some}
use Rattle.std.specs.Cmp.{nat_cmp_total}
use Rattle.std.specs.Ordering.{nat_cmp}
use Rattle.std.specs.Option.{option_map}
use Rattle.std.specs.FinMap as map
use Rattle.std.specs.BTreeMap.{BTreeMap, get}
use Rattle.fab_names.specs.declared.fabric.Fabric.{Fabric}
use Rattle.fab_lemmas.proofs.SeenMaps.{get_entries, len_entries}
use Rattle.fab_inventory.specs.declared.port.PortRow.{PortRow}
use Rattle.fab_inventory.specs.declared.port.Known.{Known}
use Rattle.fab_inventory.specs.Imports.{Agrees, ListsIn, IsImported, logged_in, logged_out}
use Rattle.fab_inventory.proofs.import.imported_ports.Goals as goal

imported : (f : Fabric) (rows : List PortRow) (ports cleared next : BTreeMap ℕ Known) → Agrees rows → ((q : ℕ) → get nat_cmp cleared q ≡ option_map (logged_out f) (get nat_cmp ports q))
    → ListsIn f rows (get nat_cmp ports) (get nat_cmp cleared) (get nat_cmp next) → IsImported f rows (map.from_entries ports.entries) (map.from_entries next.entries)
imported f rows ports cleared next agrees clears lists =
    let had : (q : ℕ) → get nat_cmp ports q ≡ map.get (map.from_entries {R = nat_cmp} ports.entries) q = λ q. sym (get_entries nat_cmp_total ports.entries q) in
    record {
      agrees = agrees;
      listed = λ r in_r. get_entries nat_cmp_total next.entries r.name ∙ lists.listed r in_r ∙ ap (λ o. Some (logged_in f r o)) (had r.name);
      others = λ q none. get_entries nat_cmp_total next.entries q ∙ lists.others q none ∙ clears q ∙ ap (option_map (logged_out f)) (had q);
    }

pub returns-then-len-gt-MOST_PORTS-clause-err : goal.returns-then-len-gt-MOST_PORTS-clause-err
returns-then-len-gt-MOST_PORTS-clause-err g c = (
  map.from_entries {R = nat_cmp} c.log_in.new.next.entries,
  imported c.args.fabric c.args.rows.now c.args.ports.now c.in_ok-next.next c.log_in.new.next c.in_ok-check_rows.ensures.ok c.in_ok-next.ensures c.in_ok-log_in.ensures,
  rw (len_entries nat_cmp_total c.log_in.new.next.entries c.len.ensures.ordered) (omega arith),
)

pub returns-clause-ok : goal.returns-clause-ok
returns-clause-ok g c = imported c.args.fabric c.args.rows.now c.args.ports.now c.in_ok-next.next c.log_in.new.next c.in_ok-check_rows.ensures.ok c.in_ok-next.ensures c.in_ok-log_in.ensures

pub returns-clause-few : goal.returns-clause-few
returns-clause-few g c = rw (len_entries nat_cmp_total c.log_in.new.next.entries c.len.ensures.ordered) (omega (arith, c.len.ensures.len))

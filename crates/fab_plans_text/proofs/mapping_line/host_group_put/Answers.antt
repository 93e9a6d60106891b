use Rattle.std.proofs.Common.{refl, map}
use Rattle.std.proofs.lemmas.Result.{err_from_is_err_and}
use Rattle.fab_plans_base.specs.Values.{a_name, of_name}
use Rattle.fab_plans_base.specs.Steps.{host_group_put}
use Rattle.fab_plans_text.proofs.Words.{listed_values, listed_fault, spelled, is_step}
use Rattle.fab_plans_text.proofs.mapping_line.host_group_put.Goals as goal

pub returns-in_err-hosts : goal.returns-in_err-hosts
returns-in_err-hosts g c =
    let p = err_from_is_err_and c.from_residual-in_err-hosts.result c.from_residual-in_err-hosts.ensures.1 in
    rw (p.1, p.2) (listed_fault a_name a_name a_name (of_name c.in_ok-name.name) (of_name c.in_ok-name.tenant) c.args.words.now _ c.requires.0 refl refl c.in_ok-name.ensures c.in_err-hosts.ensures)

pub returns : goal.returns
returns g c =
    let values = listed_values (of_name c.in_ok-name.name) (of_name c.in_ok-name.tenant) (map of_name c.in_ok-hosts.hosts.items) c.args.words.now c.requires.0 c.in_ok-name.ensures c.in_ok-hosts.ensures in
    rw c.new.ensures (spelled c.args.words.now (host_group_put c.in_ok-name.name c.in_ok-name.tenant c.in_ok-hosts.hosts.items) c.requires values)

pub new-requires : goal.new-requires
new-requires g c =
    let values = listed_values (of_name c.in_ok-name.name) (of_name c.in_ok-name.tenant) (map of_name c.in_ok-hosts.hosts.items) c.args.words.now c.requires.0 c.in_ok-name.ensures c.in_ok-hosts.ensures in
    is_step c.args.words.now (host_group_put c.in_ok-name.name c.in_ok-name.tenant c.in_ok-hosts.hosts.items) c.requires values

use Rattle.std.proofs.Common.{◌≡◌, ℕ, List, ◌++◌, map, sym, ◌∙◌, subst}
use mathlib.Core.Bool.{true≢false}
use Rattle.std.specs.Ordering.{nat_cmp}
use Rattle.std.specs.FinMap as fin
use Rattle.fab_reach_base.specs.fab_lemmas.Lists.{IsListOf}
use Rattle.fab_reach_base.specs.fab_inventory.Holders.{Holds}
use Rattle.fab_desk_base.specs.declared.command.Query.TheVariants as query
use Rattle.fab_world.specs.Worlds.{WorldRows}
use Rattle.fab_looks.proofs.Gathered.{host_appended, host_unseen}
use Rattle.fab_looks.proofs.way.add_host.Goals as goal

pub returns-then-not-is_open_to : goal.returns-then-not-is_open_to
returns-then-not-is_open_to g c =
    host_unseen c.args.policy.now c.args.world.now c.args.id c.args.host.now c.args.queries.now.items (λ h. true≢false (sym (c.is_open_to.ensures.1 h) ∙ c.if-not-is_open_to.true))

pub returns : goal.returns
returns g c =
    let listed = subst (λ (v : WorldRows). IsListOf nat_cmp (Holds (fin.get v.inventory.ports) c.args.host.now) c.in_ok-ports.ports.items) c.world.view_is c.in_ok-ports.ensures in
    host_appended c.args.policy.now c.args.world.now c.args.id c.args.host.now c.in_ok-ports.ports.items c.args.queries.now.items c.push.new.self.items c.add_ports.new.queries.items (c.is_open_to.ensures.0 c.if-not-is_open_to.false) listed c.in_ok-push.ensures.items
    (subst (λ (ps : List ℕ). c.add_ports.new.queries.items ≡ c.push.new.self.items ++ map (λ (a : ℕ). query.Port a) ps) c.deref.ensures.value c.in_ok-add_ports.ensures)

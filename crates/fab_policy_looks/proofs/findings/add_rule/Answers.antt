use Rattle.std.proofs.Common.{Some, refl, rules}
use Rattle.fab_policy_looks.specs.declared.found.RuleFinding.{RuleFinding}
use Rattle.fab_policy_looks.proofs.findings.add_rule.Goals as goal

pub returns : goal.returns
returns c =
    let one : RuleFinding = record {
      number = c.args.number;
      name = c.rule.inside.name;
      role = c.find_role-role.result;
      scope = c.find_scope-scope.result;
      window = c.find_window-window.result;
      approvals = c.find_quorum-approvals.result;
    } in
    (Some one, (search rules, record { number = refl; name = search rules; role = c.find_role-role.ensures; scope = c.find_scope-scope.ensures; window = c.find_window-window.ensures; approvals = c.find_quorum-approvals.ensures }), c.in_ok-push.ensures.items)

use Rattle.fab_reach_moves.proofs.told.side_of.Goals as goal

pub returns : goal.returns
returns g c = record {
  ports = c.in_ok-values_said.ensures;
  held = c.in_ok-items_said.ensures;
  hosts = c.in_ok-items_said-2.ensures;
  host_groups = c.in_ok-items_said-3.ensures;
  serving = c.in_ok-items_said-4.ensures;
  targets = c.in_ok-items_said-5.ensures;
  heads = c.in_ok-values_said-2.ensures;
  units = c.in_ok-values_said-3.ensures;
  zoned = c.in_ok-items_said-6.ensures;
}

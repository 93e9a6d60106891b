use Rattle.fab_reach_index.proofs.zone_ports.ports_of.Goals as goal

pub returns : goal.returns
returns g c w are z p = ((λ h. (are p z).0 ((c.in_ok-ports.ensures z p).0 h)), λ h. (c.in_ok-ports.ensures z p).1 ((are p z).1 h))

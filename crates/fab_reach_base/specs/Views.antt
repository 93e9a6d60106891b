-- The records that a view lends.
use Rattle.fab_reach_base.specs.Records.{Records}
use Rattle.fab_reach_base.specs.declared.view.View.{View}

abbrev pub seen : {A : Type 0} → View A → Records
seen v = record { inventory = v.inventory.now; config = v.config.now }

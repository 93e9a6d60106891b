use Rattle.std.proofs.Common.{subst, refl}
use Rattle.fab_names.specs.Names.{IsNameText}
use Rattle.fab_store_columns_base.proofs.columns.alias_is_spelled.Goals as goal

pub returns : goal.returns
returns c = (c.args.name.now, refl, (refl, subst IsNameText c.as_str-text.ensures.text c.as_str-text.ensures.name))

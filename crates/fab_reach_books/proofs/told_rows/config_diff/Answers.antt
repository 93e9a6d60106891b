use Rattle.std.proofs.Common.{sym}
use Rattle.fab_reach_books.proofs.GivenRows.{config_only, kept_from}
use Rattle.fab_reach_books.proofs.told_rows.config_diff.Goals as goal

pub returns : goal.returns
returns g c w v same change =
    let gone = config_only w v c.args.change.now.taken.items change.takes same c.in_ok-gone.gone.items (kept_from c.as_slice.result.now c.args.change.now.taken.items c.in_ok-gone.gone.items c.as_slice.ensures.value c.in_ok-gone.ensures) in
    let come = config_only v w c.args.change.now.added.items change.adds (sym same) c.in_ok-come.come.items (kept_from c.as_slice-2.result.now c.args.change.now.added.items c.in_ok-come.come.items c.as_slice-2.ensures.value c.in_ok-come.ensures) in
    record { left = gone.sound; new = come.sound; before = gone.there; after = come.there }

use Rattle.std.proofs.Common.{◌∙◌}
use Rattle.fab_reach_base.specs.Views.{seen}
use Rattle.fab_reach_pairs.proofs.Owning.{known_after, no_rows}
use Rattle.fab_reach_pairs.proofs.book.PlainBookPathBook.open.Goals as goal

pub returns-clause-stands : goal.returns-clause-stands
returns-clause-stands g c =
    let w = seen c.args.view.now in
    let none = no_rows w c.no_diff-diff.result.gone.items c.as_slice.result.now c.no_diff-diff.ensures.gone (c.as_slice.ensures.value ∙ c.no_diff-diff.ensures.come) in
    let told = c.in_ok-told.ensures w w (no_rows w c.no_diff-diff.result.gone.items c.no_diff-diff.result.come.items c.no_diff-diff.ensures.gone c.no_diff-diff.ensures.come) in record {
      paths_are = c.in_ok-paths.ensures;
      owners_are = c.in_ok-owners.ensures w told (known_after w w c.no_diff-diff.result.gone.items c.as_slice.result.now c.in_ok-ports.ports none c.in_ok-ports.ensures);
    }

use Rattle.std.proofs.Common.{List, count_by, ap, ◌∙◌, arith}
use Rattle.fab_names.specs.declared.fabric.Fabric.TheVariants.{A, B}
use Rattle.fab_reach_base.specs.Views.{seen}
use Rattle.fab_reach_base.specs.declared.path.Path.{Path}
use Rattle.fab_looks.specs.Reachers.{is_in}
use Rattle.fab_looks.specs.declared.reaching.Counts.{Counts}
use Rattle.fab_looks.proofs.Filled.{has_none, has_some}
use Rattle.fab_looks.proofs.ReachersTold.{no_path, host_added, reacher}
use Rattle.fab_looks.proofs.reaching.add_host.Goals as goal

pub returns-then-is_empty : goal.returns-then-is_empty
returns-then-is_empty g c =
    no_path (seen c.args.view.now) c.args.volume.now c.args.host.now c.args.reachers.now c.in_ok-paths.paths.items (has_none c.in_ok-paths.paths.items c.in_ok-paths.paths.len c.is_empty.result (omega arith) c.is_empty.ensures c.if-is_empty.true) c.in_ok-paths.ensures

pub returns : goal.returns
returns g c =
    let w = seen c.args.view.now in
    let xs = c.in_ok-paths.paths.items in
    let n : Counts = record { a = c.count_at.result; b = c.count_at-2.result } in
    host_added w c.args.volume.now c.args.host.now c.args.reachers.now c.insert.new.self n
    (record {
      reached = reacher w c.args.volume.now c.args.host.now xs n (has_some xs c.in_ok-paths.paths.len c.is_empty.result (omega arith) c.is_empty.ensures c.if-is_empty.false) c.in_ok-paths.ensures;
      at_a = (xs, c.in_ok-paths.ensures, c.count_at.ensures ∙ ap (λ (ys : List Path). count_by (is_in A) ys) c.deref.ensures.value);
      at_b = (xs, c.in_ok-paths.ensures, c.count_at-2.ensures ∙ ap (λ (ys : List Path). count_by (is_in B) ys) c.deref-2.ensures.value);
    })
    c.in_ok-insert.ensures.updates.0

use Rattle.std.proofs.Common.{◌∙◌, sym, ap, arith}
use Rattle.std.specs.Option.{option_map}
use Rattle.fab_store_sql.specs.Schema.{number_columns}
use Rattle.fab_store_sql.proofs.Shapes.{with_number}
use Rattle.fab_store_sql.proofs.shape.are_columns.Goals as goal

pub returns-in-Some : goal.returns-in-Some
returns-in-Some c found =
    with_number c.args.found.now c.loop-name.rest.now c.args.texts.now c.loop-name.name-index (option_map (λ t. t.now) c.args.number) c.loop-name.invariant (omega (arith, c.loop-name-test.false))
    (c.is_number.ensures found ∙ ap (λ n. number_columns (option_map (λ t. t.now) n)) (sym c.in-Some.is))

pub returns-in-None : goal.returns-in-None
returns-in-None c found =
    with_number c.args.found.now c.loop-name.rest.now c.args.texts.now c.loop-name.name-index (option_map (λ t. t.now) c.args.number) c.loop-name.invariant (omega (arith, c.loop-name-test.false))
    (c.are_none.ensures found ∙ ap (λ n. number_columns (option_map (λ t. t.now) n)) (sym c.in-None.is))

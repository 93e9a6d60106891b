use Rattle.std.proofs.Common.{◌∙◌, ◌<◌, ◌^◌, arith, string_bytes}
use Rattle.fab_names.specs.WorldWideNames as names
use Rattle.fab_store_columns_base.proofs.Texts.{on_ok, plain_is}
use Rattle.fab_store_columns_base.proofs.columns.plain_text.Goals as goal

pub returns : goal.returns
returns g c =
    let some : 0 < c.args.name = omega (arith, c.number-number.ensures.value, c.number-number.ensures.nonzero) in
    let fits : c.args.name < 2 ^ 64 = omega (arith, c.number-number.ensures.value) in
    on_ok _ (λ text. names.SpellsPlain (string_bytes text) c.args.name) c.to_string.result (λ text is. plain_is c.args.name some fits (string_bytes text) (is ∙ c.as_str.ensures ∙ c.plain.ensures)) c.to_string.ensures.ok

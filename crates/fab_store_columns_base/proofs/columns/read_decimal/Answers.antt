use Rattle.std.proofs.Common.{◌≡◌, arith, sym, subst, ◌∙◌}
use mathlib.Core.Bool.{true≢false}
use Rattle.fab_names.specs.Numbers.{SpellsNumber}
use Rattle.fab_names.proofs.Numerals.{one_number, plain_number}
use Rattle.fab_store_columns_base.proofs.Texts.{decimal_spells, decimal_plain}
use Rattle.fab_store_columns_base.proofs.columns.read_decimal.Goals as goal

pub returns-in_default : goal.returns-in_default
returns-in_default c n s = c.in_default.ensures n (subst (λ t. SpellsNumber t n) (sym c.as_bytes.ensures.value) (decimal_spells c.args.most (omega arith) c.args.text.now n s))

pub returns-then-number-most : goal.returns-then-number-most
returns-then-number-most c n s =
    let read : SpellsNumber c.args.text.now c.in-Some.number = subst (λ t. SpellsNumber t c.in-Some.number) c.as_bytes.ensures.value c.in-Some.ensures in
    let same : n ≡ c.in-Some.number = one_number c.args.text.now n c.in-Some.number (decimal_spells c.args.most (omega arith) c.args.text.now n s) read in
    omega (arith, s.high, same, c.if-number-most.true)

pub returns-then-has_leading_zero : goal.returns-then-has_leading_zero
returns-then-has_leading_zero c n s = decimal_plain c.args.most (omega arith) c.args.text.now n s (c.has_leading_zero.ensures.0 c.if-has_leading_zero.true)

pub returns : goal.returns
returns c =
    let read : SpellsNumber c.args.text.now c.in-Some.number = subst (λ t. SpellsNumber t c.in-Some.number) c.as_bytes.ensures.value c.in-Some.ensures in
    record {
      digits = sym (plain_number c.args.text.now c.in-Some.number read (omega (arith, c.if-number-most.false)) (λ led. true≢false (sym (c.has_leading_zero.ensures.1 led) ∙ c.if-has_leading_zero.false)));
      high = omega (arith, c.if-number-most.false);
    }

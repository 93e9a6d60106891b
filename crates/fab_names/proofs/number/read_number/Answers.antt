use Rattle.std.proofs.Common.{◌≡◌, ◌∙◌, sym, subst, arith, ℕ, true, MatchOption, Option}
use mathlib.Core.Bool.{true≢false}
use Rattle.std.specs.Char.{is_ascii_digit}
use Rattle.std.specs.List.{list_all}
use Rattle.fab_names.specs.Numbers.{SpellsNumber}
use Rattle.fab_names.proofs.Numerals.{all_digits, parsed, number_utf8}
use Rattle.fab_names.proofs.number.read_number.Goals.{then-text-gt-MOST_DIGITS-via-then-text-gt-MOST_DIGITS, then-text-gt-MOST_DIGITS-via-else-text-gt-MOST_DIGITS+then-not-all_digits}
use Rattle.fab_names.proofs.number.read_number.Goals as goal

pub returns-then-text-gt-MOST_DIGITS : goal.returns-then-text-gt-MOST_DIGITS
returns-then-text-gt-MOST_DIGITS c n s = elim c.then-text-gt-MOST_DIGITS.branch [
  | then-text-gt-MOST_DIGITS-via-then-text-gt-MOST_DIGITS w ↦ omega (arith, s.short)
  | then-text-gt-MOST_DIGITS-via-else-text-gt-MOST_DIGITS+then-not-all_digits w ↦ true≢false (sym (all_digits c.args.text.now n s) ∙ sym w.all_digits.ensures ∙ w.if-not-all_digits.true)
]

pub returns-in-Ok : goal.returns-in-Ok
returns-in-Ok c =
    let text = c.args.text.now in
    let all : list_all is_ascii_digit text ≡ true = sym c.all_digits.ensures ∙ c.if-not-all_digits.false in
    let P : Option ℕ → Type 0 = λ o. MatchOption o ((n : ℕ) → ¬ SpellsNumber text n) (SpellsNumber text) in
    subst P (sym c.ok.ensures.value) (parsed text c.parse.result all (omega arith) (rw c.in-Ok.ensures.cases.0 at c.parse.ensures.value.0))

pub returns-in-Err : goal.returns-in-Err
returns-in-Err c n s = c.in-Err.ensures.cases.0 (number_utf8 c.args.text.now (sym c.all_digits.ensures ∙ c.if-not-all_digits.false))

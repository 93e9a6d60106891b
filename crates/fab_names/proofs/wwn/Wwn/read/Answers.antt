use Rattle.std.proofs.Common.{ap, ◌∙◌, ◌≡◌, length, sym, subst, rules, arith, true, EachIndex, slice_index}
use mathlib.Core.Bool.{true≢false}
use Rattle.std.specs.Char.{is_ascii_hexdigit}
use Rattle.fab_names.specs.WorldWideNames.{number_of, IsDigitsOf}
use Rattle.fab_names.proofs.Digits.{one_reading}
use Rattle.fab_names.proofs.wwn.Wwn.read.Goals as goal

pub returns-then-not-are_hexadecimal-clause-err : goal.returns-then-not-are_hexadecimal-clause-err
returns-then-not-are_hexadecimal-clause-err c n s =
    let sixteen : length c.in-Some.digits ≡ 16 = search rules in
    let text : IsDigitsOf c.in-Some.digits c.args.text.now = subst (IsDigitsOf c.in-Some.digits) c.as_bytes.ensures.value c.in-Some.ensures in
    let same : s.0.digits ≡ c.in-Some.digits = one_reading s.0.digits c.in-Some.digits c.args.text.now s.0.sixteen sixteen s.0.form text in
    true≢false (sym (c.are_hexadecimal.ensures.1 (subst (λ ds. EachIndex ds (λ k. is_ascii_hexdigit (slice_index ds k) ≡ true)) same s.0.hexadecimal)) ∙ c.if-not-are_hexadecimal.true)

pub returns-then-number-eq0-clause-err : goal.returns-then-number-eq0-clause-err
returns-then-number-eq0-clause-err c n s =
    let sixteen : length c.in-Some.digits ≡ 16 = search rules in
    let text : IsDigitsOf c.in-Some.digits c.args.text.now = subst (IsDigitsOf c.in-Some.digits) c.as_bytes.ensures.value c.in-Some.ensures in
    let same : s.0.digits ≡ c.in-Some.digits = one_reading s.0.digits c.in-Some.digits c.args.text.now s.0.sixteen sixteen s.0.form text in
    let zero : n ≡ 0 = sym s.0.value ∙ ap number_of same ∙ sym c.number_of-number.ensures ∙ c.if-number-eq0.true in
    omega (arith, s.1)

pub returns-then-not-are_hexadecimal-clause-fault : goal.returns-then-not-are_hexadecimal-clause-fault
returns-then-not-are_hexadecimal-clause-fault c = record {
  digits = c.in-Some.digits;
  sixteen = search rules;
  form = subst (IsDigitsOf c.in-Some.digits) c.as_bytes.ensures.value c.in-Some.ensures;
  bad = λ h. true≢false (sym (c.are_hexadecimal.ensures.1 h) ∙ c.if-not-are_hexadecimal.true);
}

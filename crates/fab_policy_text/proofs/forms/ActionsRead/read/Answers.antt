use mathlib.Core.Bool.{true≢false}
use Rattle.std.proofs.Common.{◌≡◌, ◌∙◌, length, arith, sym, ap}
use Rattle.std.specs.Prelude.{◌==◌, vec_len}
use Rattle.toml.specs.View.{array_view}
use Rattle.fab_policy_text.specs.Shapes.{IsWord}
use Rattle.fab_policy_base.specs.Words.{action_word}
use Rattle.fab_policy_text.proofs.Items.{each_length}
use Rattle.fab_policy_text.proofs.forms.ActionsRead.read.Goals as goal

pub returns-clause-ok : goal.returns-clause-ok
returns-clause-ok c = record {
  items = array_view c.in-Some.items.now;
  array = sym c.in-Some.ensures;
  each = c.in_ok-words.ensures.ok;
  some = λ none.
      let same = each_length (IsWord action_word) c.in-Some.items.now.items _ c.in_ok-words.ensures.ok in
      let empty : length c.in-Some.items.now.items ≡ 0 = sym same ∙ ap length none in
      let zero : vec_len c.in-Some.items.now ≡ 0 = omega arith in
      true≢false (sym (ap (λ n. n == 0) zero) ∙ sym c.if-is_empty.ensures);
}

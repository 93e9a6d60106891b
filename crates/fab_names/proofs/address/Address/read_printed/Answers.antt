use Rattle.std.proofs.Common.{sym, ap, ◌∙◌, nat_eq}
use Rattle.std.specs.Cmp.Lexicographic.{bytes_decides, pointwise}
use Rattle.fab_names.specs.Addresses.{address_text}
use Rattle.fab_names.proofs.Unique.{one_address}
use Rattle.fab_names.proofs.Negations.{not_false, not_true}
use Rattle.fab_names.proofs.address.Address.read_printed.Goals as goal

pub returns-in_default : goal.returns-in_default
returns-in_default c n h = c.in_default.ensures.err n h.0

pub returns-then-ne : goal.returns-then-ne
returns-then-ne c n h =
    not_true (pointwise nat_eq c.as_bytes.result.now c.letters-letters.result) (sym c.ne.ensures ∙ c.if-ne.true)
    ((bytes_decides c.as_bytes.result.now c.letters-letters.result).1 (c.as_bytes.ensures.value ∙ h.1 ∙ ap address_text (one_address c.args.text.now n c.in-Ok.address h.0 c.in-Ok.ensures.ok) ∙ sym c.letters-letters.ensures.value))

pub returns : goal.returns
returns c = (
  c.in-Ok.ensures.ok,
  sym c.as_bytes.ensures.value ∙ (bytes_decides c.as_bytes.result.now c.letters-letters.result).0 (not_false (pointwise nat_eq c.as_bytes.result.now c.letters-letters.result) (sym c.ne.ensures ∙ c.if-ne.false)) ∙ c.letters-letters.ensures.value,
)

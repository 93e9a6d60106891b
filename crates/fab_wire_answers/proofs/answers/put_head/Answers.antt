use Rattle.fab_wire_answers.specs.Messages.{head_text}
use Rattle.fab_wire_answers.proofs.answers.put_head.Goals as goal

pub returns : goal.returns
unfolding head_text
returns g c = rw (
  c.as_slice.ensures,
  c.as_bytes.ensures.value,
  c.format.ensures.text,
  c.as_u16.ensures.value,
  c.as_slice-2.ensures,
  c.as_bytes-2.ensures.value,
  c.phrase.ensures,
  c.as_slice-3.ensures,
  c.as_bytes-3.ensures.value,
  c.format-2.ensures.text,
  c.as_slice-4.ensures,
  c.as_bytes-4.ensures.value,
  c.as_slice-5.ensures,
) at c.put_all.ensures

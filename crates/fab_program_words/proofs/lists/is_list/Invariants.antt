use Rattle.std.proofs.Common.{◌↔◌, length}
use Rattle.std.specs.Str.{IsUtf8}
use Rattle.fab_program_words.specs.Lists.{IsListText}
use Rattle.fab_program_words.proofs.lists.is_list.Given as goal

abbrev pub invariant-loop-part : goal.invariant-loop-part
invariant-loop-part l = record {
  text : IsUtf8 l.rest;
  same : IsListText l.kind l.rest ↔ IsListText l.fn.kind l.fn.text;
}

abbrev pub decreases-loop-part : goal.decreases-loop-part
decreases-loop-part l = length l.rest

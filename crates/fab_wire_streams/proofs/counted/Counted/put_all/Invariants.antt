use Rattle.std.proofs.Common.{drop}
use Rattle.std.specs.List.{flat_map}
use Rattle.fab_wire_streams.proofs.SentLemmas.{SentTo}
use Rattle.fab_wire_streams.proofs.counted.Counted.put_all.Given as goal

abbrev pub invariant-loop-text : goal.invariant-loop-text
invariant-loop-text g l = SentTo (g.W.Write.contents l.fn.self.inner) (g.W.Write.contents l.self.inner) l.fn.self.failures l.self.failures
    (flat_map (λ text. text.now) l.fn.texts) (flat_map (λ text. text.now) (drop l.text-index l.texts))

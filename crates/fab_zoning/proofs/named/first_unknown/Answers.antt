use Rattle.std.proofs.Common.{◌≡◌, ℕ, List, true, sym, ◌∙◌, arith}
use mathlib.Core.Bool.{true≢false}
use Rattle.std.specs.FinMap as map
use Rattle.fab_names.specs.Orders.{name_cmp}
use Rattle.fab_names.proofs.OrderLaws.{name_total}
use Rattle.fab_zoning_rows.specs.fab_lemmas.MapsOfSets.{seen_sets}
use Rattle.fab_zoning_rows.proofs.fab_lemmas.MapsOfSets.{knows_seen}
use Rattle.fab_zoning_rows.proofs.fab_lemmas.Scans.{scan_more, scan_end, scan_hit}
use Rattle.fab_zoning.proofs.named.first_unknown.Goals as goal

pub returns-then-not-contains_key : goal.returns-then-not-contains_key
returns-then-not-contains_key g c =
    scan_hit (λ (name : List ℕ). map.contains_key (seen_sets name_cmp g.K.Ord.cmp c.args.sets.now.entries) name ≡ true) c.args.names.now c.loop-name.name-index c.name-item.result c.loop-name-test.true c.name-item.is
    c.loop-name.invariant (λ there. true≢false (sym there ∙ knows_seen g.K.Ord.cmp name_total c.args.sets.now c.name-item.result ∙ sym c.contains_key.ensures ∙ c.if-not-contains_key.true))

pub loop-name-preserved : goal.loop-name-preserved
loop-name-preserved g c =
    scan_more (λ (name : List ℕ). map.contains_key (seen_sets name_cmp g.K.Ord.cmp c.args.sets.now.entries) name ≡ true) c.args.names.now c.loop-name.name-index c.name-item.result c.loop-name-test.true c.name-item.is
    c.loop-name.invariant (knows_seen g.K.Ord.cmp name_total c.args.sets.now c.name-item.result ∙ sym c.contains_key.ensures ∙ c.if-not-contains_key.false)

pub returns : goal.returns
returns g c =
    scan_end (λ (name : List ℕ). map.contains_key (seen_sets name_cmp g.K.Ord.cmp c.args.sets.now.entries) name ≡ true) c.args.names.now c.loop-name.name-index (omega arith) c.loop-name.invariant

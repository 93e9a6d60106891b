-- The ports of holders, as an index lists them.
use Rattle.std.specs.Prelude.{ℕ, ◌≡◌, List, true}
use Rattle.std.specs.BTreeMap.{BTreeMap}
use Rattle.std.specs.BTreeSet.{BTreeSet}
use Rattle.std.specs.Ordering.{nat_cmp}
use Rattle.fab_lemmas.specs.MapsOfSets.{tree_has}
use Rattle.fab_names.specs.Orders.{name_cmp}

-- the ports of each holder
abbrev pub Held : Type 0
Held = BTreeMap (List ℕ) (BTreeSet ℕ)

-- the holder holds the port
abbrev pub HoldsIn : Held → List ℕ → ℕ → Type 0
HoldsIn held h p = tree_has name_cmp nat_cmp held h p ≡ true

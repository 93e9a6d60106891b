-- Ports with their holders, the paths of a holder, and what a plain book keeps.
use Rattle.std.specs.Prelude.{ℕ, ◌≡◌, ◌↔◌, List, Contains, Some, IsTrue}
use Rattle.std.specs.BTreeSet.{BTreeSet, contains}
use Rattle.std.specs.FinMap as map
use Rattle.std.specs.declared.cmp.Ordering.{Ordering}
use Rattle.std.specs.Ordering.{nat_cmp, then_cmp, on}
use Rattle.fab_names.specs.Orders.{name_cmp}
use Rattle.fab_inventory.specs.Holders.{holder_in}
use Rattle.fab_inventory.specs.declared.port.Port.{Port}
use Rattle.fab_reach_base.specs.Books.{AreReached}
use Rattle.fab_reach_base.specs.Orders.{Has}
use Rattle.fab_reach_base.specs.Reach.{IsPort, PathOf}
use Rattle.fab_reach_base.specs.Records.{Records}
use Rattle.fab_reach_base.specs.declared.path.Path.{Path}
use Rattle.fab_reach_books.specs.Inner.Sets.{HasPortIn}
use Rattle.fab_reach_books.specs.declared.row.Row.{Row}
use Rattle.fab_reach_books.specs.declared.row.Row.TheVariants as row

-- ports, each with a name
abbrev pub Owners : Type 0
Owners = BTreeSet (ℕ × List ℕ)

abbrev pub own_cmp : ℕ × List ℕ → ℕ × List ℕ → Ordering
own_cmp = then_cmp (on (λ e. e.0) nat_cmp) (on (λ e. e.1) name_cmp)

-- the set has the port with this name
abbrev pub Owns : Owners → ℕ × List ℕ → Type 0
Owns s e = IsTrue (contains own_cmp s e)

-- a port of this name is known
abbrev pub IsKnownPort : Records → ℕ → Type 0
IsKnownPort w p = (x : Port) × IsPort w p x

-- the row is of the port of this name; one of the rows is
abbrev pub NamesPort : Row → ℕ → Type 0
NamesPort r p = (x : Port) × (r ≡ row.Port x) × (p ≡ x.name)

abbrev pub NamesPortIn : List Row → ℕ → Type 0
NamesPortIn rows p = (r : Row) × Contains rows r × NamesPort r p

-- the entry is this port, with the host or array that holds it
abbrev pub IsHeldAfter : Records → ℕ → ℕ × List ℕ → Type 0
IsHeldAfter w p e = (e.0 ≡ p) × (holder_in (map.get w.inventory.ports) p ≡ Some e.1)

-- the set has just the ports that somebody holds, each with its holder
abbrev pub AreHolders : Records → Owners → Type 0
AreHolders w s = (e : ℕ × List ℕ) → Owns s e ↔ (holder_in (map.get w.inventory.ports) e.0 ≡ Some e.1)

-- a path whose initiator the host holds, by such a set
abbrev pub IsOwn : BTreeSet Path → Owners → List ℕ → Path → Type 0
IsOwn paths owners host x = Has paths x × Owns owners (x.initiator, host)

-- a path from the port to one of these; a path from one of these to one of these
abbrev pub IsToAny : Records → BTreeSet ℕ → ℕ → Path → Type 0
IsToAny w ports p x = (q : ℕ) × HasPortIn ports q × PathOf w p q x

abbrev pub IsOfAny : Records → BTreeSet ℕ → Path → Type 0
IsOfAny w ports x = (p : ℕ) × HasPortIn ports p × IsToAny w ports p x

-- the paths and the holders are those of the world
pub record IsBookOf (w : Records) (paths : BTreeSet Path) (owners : Owners) : Type 0 where
  pub paths_are : AreReached w (Has paths)
  pub owners_are : AreHolders w owners

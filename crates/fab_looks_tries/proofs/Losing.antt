-- Hosts that lose paths.
use Rattle.std.proofs.Common.{◌≡◌, ℕ, List, [], None, cond, true, sym, ap, ◌∙◌, subst}
use Rattle.std.proofs.lemmas.Option.{none-some}
use Rattle.std.specs.BTreeMap.{is_at}
use Rattle.std.specs.BTreeSet.{BTreeSet, contains}
use Rattle.fab_desk_machine.specs.fab_desk_base.Tenants.{Has}
use Rattle.fab_inventory.specs.declared.port.Port.{Port}
use Rattle.fab_inventory.specs.Ports.{port_at}
use Rattle.fab_looks_tries.specs.Hosts.{LosesPath}
use Rattle.fab_looks_tries.specs.Inner.Gathered.{IsHostOfSome}
use Rattle.fab_names.specs.Orders.{name_cmp}
use Rattle.fab_names.proofs.OrderLaws.{name_total, name_exact}
use Rattle.fab_reach_base.specs.Adding.{Adds}
use Rattle.fab_reach_base.specs.Books.{IsGained}
use Rattle.fab_reach_base.specs.Orders.{IsListOf}
use Rattle.fab_reach_base.specs.Reach.{IsInitiator, IsInitiatorOf, IsPort}
use Rattle.fab_reach_base.specs.Records.{Records}
use Rattle.fab_reach_base.specs.declared.path.Path.{Path}
use Rattle.fab_reach_base.proofs.Adding.{adds_as, from_none}
use Rattle.fab_reach_base.proofs.Same.{same_some}
use Rattle.fab_reach_base.proofs.Sets.{adds_insert, none_in}

-- a name was inserted
abbrev pub Inserts : BTreeSet (List ℕ) → BTreeSet (List ℕ) → List ℕ → Type 0
Inserts s t n = (q : List ℕ) → contains name_cmp t q ≡ cond (is_at (name_cmp n) q) true (contains name_cmp s q)

pub name_added : (s t : BTreeSet (List ℕ)) (n : List ℕ) → Inserts s t n → Adds (λ y. y ≡ n) (Has s) (Has t)
name_added = adds_insert name_total name_exact

-- the host of an initiator was inserted
pub host_added : (w : Records) (name : ℕ) (p : Port) (h : List ℕ) (s t : BTreeSet (List ℕ)) → IsPort w name p → IsInitiator w p h → Inserts s t h → Adds (IsInitiatorOf w name) (Has s) (Has t)
host_added w name p h s t there is u = adds_as (λ y. y ≡ h) (IsInitiatorOf w name) (Has s) (Has t)
    (λ y e. (p, there, subst (λ x. IsInitiator w p x) (sym e) is))
    (λ y i. same_some (ap (λ (x : Port). x.holder) (same_some there i.1) ∙ i.2.held) is.held)
    (name_added s t h u)

-- a port that is not known is no initiator, and neither is one that no host holds
pub no_port : (w : Records) (name : ℕ) → port_at w.inventory.ports name ≡ None → (y : List ℕ) → ¬ IsInitiatorOf w name y
no_port w name none y i = none-some i.0 (sym none ∙ i.1)

pub no_host : (w : Records) (name : ℕ) (p : Port) → IsPort w name p → ((h : List ℕ) → ¬ IsInitiator w p h) → (y : List ℕ) → ¬ IsInitiatorOf w name y
no_host w name p there none y i = none y (subst (λ x. IsInitiator w x y) (same_some i.1 there) i.2)

-- the hosts of the paths that are lost are those that lose a path
pub losing_are : (w v : Records) (lost : List Path) (s t : BTreeSet (List ℕ)) → s.keys ≡ [] → IsListOf (IsGained v w) lost → Adds (IsHostOfSome w lost) (Has s) (Has t) → (h : List ℕ) → (Has t h → LosesPath w v h) × (LosesPath w v h → Has t h)
losing_are w v lost s t none list a h =
    let d = from_none (IsHostOfSome w lost) (Has s) (Has t) (none_in name_total name_exact s none) a h in (
      (λ y. let i = d.0 y in let x = list.sound i.0 i.1 in (i.0, (x.now, i.2), x.before)),
      λ l. d.1 (l.0, list.complete l.0 (record { now = l.1.0; before = l.2 }), l.1.1),
    )

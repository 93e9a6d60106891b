-- The paths of all pairs of some ports.
use Rattle.std.proofs.Common.{◌≡◌, ℕ, List, [], Contains, refl, sym, subst}
use Rattle.std.specs.BTreeSet.{BTreeSet}
use Rattle.fab_reach_base.specs.Adding.{Adds}
use Rattle.fab_reach_base.specs.Books.{AreReached}
use Rattle.fab_reach_base.specs.Orders.{Has, IsListOf}
use Rattle.fab_reach_base.specs.Reach.{PathOf}
use Rattle.fab_reach_base.specs.Records.{Records}
use Rattle.fab_reach_base.specs.declared.path.Path.{Path}
use Rattle.fab_reach_base.proofs.Adding.{Before, adds_as, from_none}
use Rattle.fab_reach_base.proofs.Gathering.{reaches}
use Rattle.fab_reach_base.specs.PathOrder.{path_total, path_exact}
use Rattle.fab_reach_base.proofs.Sets.{none_in}
use Rattle.fab_reach_books.specs.Inner.Sets.{HasPortIn}
use Rattle.fab_reach_books.proofs.SetLoops.{all_ports}
use Rattle.fab_reach_pairs.specs.Owning.{IsKnownPort, IsToAny, IsOfAny}

-- the path itself
abbrev pub Is : Path → Path → Type 0
Is k x = x ≡ k

pub all_listed : (ks : List Path) (old new : Path → Type 0) → Adds (Before Is ks) old new → Adds (Contains ks) old new
all_listed ks old new = adds_as (Before Is ks) (Contains ks) old new (λ x h. subst (Contains ks) (sym h.2) h.1) (λ x h. (x, h, refl))

-- the paths of a pair, as they are listed
pub pair_added : (w : Records) (p q : ℕ) (ks xs : List Path) (old new : Path → Type 0) → IsListOf (PathOf w p q) xs → ks ≡ xs → Adds (Contains ks) old new → Adds (PathOf w p q) old new
pair_added w p q ks xs old new l is = adds_as (Contains ks) (PathOf w p q) old new (λ x h. l.sound x (subst (λ ys. Contains ys x) is h)) (λ x h. subst (λ ys. Contains ys x) (sym is) (l.complete x h))

module _ (w : Records) (ports : BTreeSet ℕ) where
  pub to_any : (p : ℕ) (ks : List ℕ) (old new : Path → Type 0) → ks ≡ ports.keys → Adds (Before (PathOf w p) ks) old new → Adds (IsToAny w ports p) old new
  to_any p ks old new is = all_ports (PathOf w p) ports ks old new is

  pub of_any : (ks : List ℕ) (old new : Path → Type 0) → ks ≡ ports.keys → Adds (Before (IsToAny w ports) ks) old new → Adds (IsOfAny w ports) old new
  of_any ks old new is = all_ports (IsToAny w ports) ports ks old new is

  pub all_asked : (s t : BTreeSet Path) → ((p : ℕ) → IsKnownPort w p → HasPortIn ports p) → s.keys ≡ [] → Adds (IsOfAny w ports) (Has s) (Has t) → AreReached w (Has t)
  all_asked s t among none a x =
      let d = from_none (IsOfAny w ports) (Has s) (Has t) (none_in path_total path_exact s none) a x in (
        (λ h. let k = d.0 h in reaches w k.0 k.2.0 x k.2.2),
        λ r. d.1 (x.initiator, among x.initiator (r.from, r.from_is), (x.target, among x.target (r.to, r.to_is), r)),
      )

-- What was offered, as an index has it; and loose ports and pairs.
use Rattle.std.proofs.Common.{ℕ, ◌≡◌, List, Bool, true, false, Contains, Option, None, Some, IsTrue, ◌⊎◌, inl, inr, refl, sym, ap, ◌∙◌, subst}
use mathlib.Core.Bool.{true≢false}
use Rattle.std.specs.Ordering.{nat_cmp}
use Rattle.std.specs.BTreeMap as tree
use Rattle.std.specs.BTreeMap.{IsOrdered}
use Rattle.std.specs.BTreeSet.{BTreeSet}
use Rattle.std.specs.FinSet as set
use Rattle.std.proofs.lemmas.Map.Views.{btree_map_get_iff}
use Rattle.fab_names.specs.Orders.{name_cmp}
use Rattle.fab_names.specs.declared.fabric.Fabric.{Fabric}
use Rattle.fab_names.specs.declared.fabric.Fabric.TheVariants.{A, B}
use Rattle.fab_names.proofs.OrderLaws.{name_total, name_exact}
use Rattle.fab_inventory.specs.declared.port.Port.{Port}
use Rattle.fab_lemmas.specs.MapsOfSets.{in_tree, tree_has}
use Rattle.fab_mapping_base.specs.Groups.{StorageGroupRows}
use Rattle.fab_zoning_rows.specs.Holding.{IsLoggedInAt, Holds}
use Rattle.fab_reach_base.specs.Adding.{Adds}
use Rattle.fab_reach_base.specs.Gathering.{Serves, HasTarget, IsTargeted}
use Rattle.fab_reach_base.specs.Reach.{IsPort}
use Rattle.fab_reach_base.specs.Records.{Records, zoning_at}
use Rattle.fab_reach_base.specs.Serving.{IsServing}
use Rattle.fab_reach_base.proofs.Adding.{Before, adds_as, adds_none}
use Rattle.fab_reach_base.proofs.Same.{same_some}
use Rattle.fab_reach_books.specs.Affected.{AreAt}
use Rattle.fab_reach_pairs.specs.Inner.Finding.{ByTarget, ByFlag}
use Rattle.fab_reach_moves.specs.Moves.{flagged_at}
use Rattle.fab_reach_index.specs.Indexes.{IsIndexOf}
use Rattle.fab_reach_books.specs.Inner.Moving.{IsOffered, IsInNone}
use Rattle.fab_reach_books.specs.Pairs.{Pair}
use Rattle.fab_reach_index.specs.Inner.Holding.{Held, HoldsIn}
use Rattle.fab_reach_books.specs.Inner.Sets.{HasPortIn}
use Rattle.fab_reach_pairs.specs.Inner.Offering.{IsPortServedAt, IsLoose}
use Rattle.fab_reach_index.specs.declared.index.Index.{Index}
use Rattle.fab_reach_books.proofs.SetLoops.{all_ports, adds_both}

-- ---- what was offered

module _ {X : Type 0} (w : Records) (m : Index X) (are : IsIndexOf w m) where
  pub offered_at : (p q : ℕ) → (IsPortServedAt w.config.mapping m.held m.targeted q p → IsOffered w p q) × (IsOffered w p q → IsPortServedAt w.config.mapping m.held m.targeted q p)
  offered_at p q = (
    (λ s.
        let t = (are.targeted q s.0).0 s.1 in
        let g = s.2 in
        let served = g.2 in (
          s.0,
          t.0,
          (record { there = t.1; host = served.0; held = (are.held served.0 p).0 served.2; serves = subst (λ x. Serves w.config.mapping x served.0) (same_some g.1 t.1) served.1; target = t.3 }, t.2),
        )),
    λ o. let h = o.2.0 in (o.0, (are.targeted q o.0).1 (o.1, h.there, o.2.1, h.target), (o.1, h.there, (h.host, h.serves, (are.held h.host p).1 h.held))),
  )

  pub by_targets : (v : Records) (moved : BTreeSet ℕ) (touched : BTreeSet (List ℕ)) (flagged : Fabric → Bool) (old new : Pair → Type 0)
      → Adds (λ e. HasPortIn moved e.1 × IsPortServedAt w.config.mapping m.held m.targeted e.1 e.0) old new → Adds (λ e. ByTarget w v moved touched flagged e.0 e.1) old new
  by_targets v moved touched flagged old new = adds_as (λ e. HasPortIn moved e.1 × IsPortServedAt w.config.mapping m.held m.targeted e.1 e.0) (λ e. ByTarget w v moved touched flagged e.0 e.1) old new
      (λ e h. (h.0, (offered_at e.0 e.1).0 h.1)) (λ e h. (h.0, (offered_at e.0 e.1).1 h.1))

  -- the targets of the exposed storage groups that serve the port's holder
  pub offered_from : (p q : ℕ) (h n : List ℕ) → HoldsIn m.held h p → tree_has name_cmp name_cmp m.groups h n ≡ true → HasTarget w.config.mapping n q → IsOffered w p q
  offered_from p q h n held listed target =
      let s = (are.groups h n).0 listed in (
        n,
        s.0,
        (record { there = s.1; host = h; held = (are.held h p).0 held; serves = s.3; target = subst (λ (g : StorageGroupRows). set.contains g.targets q ≡ true) (same_some target.1 s.1) target.2 }, s.2),
      )

  pub offered_by : (p q : ℕ) → IsOffered w p q → (h n : List ℕ) × HoldsIn m.held h p × (tree_has name_cmp name_cmp m.groups h n ≡ true) × HasTarget w.config.mapping n q
  offered_by p q o = let h = o.2.0 in (h.host, o.0, (are.held h.host p).1 h.held, (are.groups h.host o.0).1 (o.1, h.there, o.2.1, h.serves), (o.1, h.there, h.target))

  -- ---- loose pairs

  module _ (f : Fabric) where
    abbrev pub OfHost : List ℕ × BTreeSet (List ℕ) → Pair → Type 0
    OfHost k e = HoldsIn m.held k.0 e.0 × IsTargeted w.config.mapping k.1 e.1 × IsLoose w f e.0 × IsLoose w f e.1

    abbrev pub LoosePair : Pair → Type 0
    LoosePair e = IsOffered w e.0 e.1 × IsLoose w f e.0 × IsLoose w f e.1

    pub all_hosts : (ks : List (List ℕ × BTreeSet (List ℕ))) (old new : Pair → Type 0) → IsOrdered name_cmp m.groups → ks ≡ m.groups.entries → Adds (Before OfHost ks) old new → Adds LoosePair old new
    all_hosts ks old new ordered is = adds_as (Before OfHost ks) LoosePair old new
        (λ e h.
        let k = h.0 in
        let t = h.2.1 in
        let at : tree.get name_cmp m.groups k.0 ≡ Some k.1 = (btree_map_get_iff name_total name_exact m.groups ordered k.0 k.1).1 (subst (λ xs. Contains xs k) is h.1) in
        (offered_from e.0 e.1 k.0 t.0 h.2.0 (ap (λ o. in_tree name_cmp o t.0) at ∙ t.1) t.2, h.2.2, h.2.3))
        (λ e h. there e (offered_by e.0 e.1 h.0) h.1 h.2)
      where
        there : (e : Pair) → ((h n : List ℕ) × HoldsIn m.held h e.0 × (tree_has name_cmp name_cmp m.groups h n ≡ true) × HasTarget w.config.mapping n e.1) → IsLoose w f e.0 → IsLoose w f e.1 → Before OfHost ks e
        there e o one other = case (tree.get name_cmp m.groups o.0) refl
          where
            case : (s : Option (BTreeSet (List ℕ))) → tree.get name_cmp m.groups o.0 ≡ s → Before OfHost ks e
            case None at = absurd (true≢false (sym o.3 ∙ ap (λ x. in_tree name_cmp x o.1) at))
            case (Some s) at =
                ((o.0, s), subst (λ xs. Contains xs (o.0, s)) (sym is) ((btree_map_get_iff name_total name_exact m.groups ordered o.0 s).0 at), (o.2, (o.1, sym (ap (λ x. in_tree name_cmp x o.1) at) ∙ o.3, o.4), one, other))

-- the ports of a default zone

module _ (w : Records) (serving : IsServing w) (f : Fabric) where
  pub unzoned_loose : (p : ℕ) (port : Port) → IsPort w p port → IsLoggedInAt f port → ((z : List ℕ) → ¬ Holds (zoning_at w.config f).rows port z) → IsLoose w f p
  unzoned_loose p port is at none = ((port, is, at), λ z h. none z (subst (λ x. Holds (zoning_at w.config f).rows x z) (same_some h.1 is) h.2.1))

  pub loose_unzoned : (p : ℕ) (port : Port) → IsPort w p port → IsLoose w f p → (z : List ℕ) → ¬ Holds (zoning_at w.config f).rows port z
  loose_unzoned p port is l z h = l.1 z (port, is, (subst (λ g. IsLoggedInAt g port) (sym (serving.fabrics f)) (subst (IsLoggedInAt f) (same_some l.0.1 is) l.0.2), h))

  pub not_known : (p : ℕ) → Rattle.fab_inventory.specs.Ports.port_at w.inventory.ports p ≡ None → ¬ IsLoose w f p
  not_known p none l = let e : ◌≡◌ {A = Option Port} None (Some l.0.0) = sym none ∙ l.0.1 in absurd cc

  pub not_at : (p : ℕ) (port : Port) → IsPort w p port → ¬ IsLoggedInAt f port → ¬ IsLoose w f p
  not_at p port is away l = away (subst (IsLoggedInAt f) (same_some l.0.1 is) l.0.2)

  pub one_loose : (k : ℕ) (old new : ℕ → Type 0) → IsLoose w f k → Adds (λ p. p ≡ k) old new → Adds (λ p. (p ≡ k) × IsLoose w f p) old new
  one_loose k old new l = adds_as (λ p. p ≡ k) (λ p. (p ≡ k) × IsLoose w f p) old new (λ p e. (e, subst (IsLoose w f) (sym e) l)) (λ p h. h.0)

  pub none_loose : (k : ℕ) (old : ℕ → Type 0) → ¬ IsLoose w f k → Adds (λ p. (p ≡ k) × IsLoose w f p) old old
  none_loose k old none = adds_none (λ p. (p ≡ k) × IsLoose w f p) old (λ p h. none (subst (IsLoose w f) h.0 h.1))

  pub all_loose : (s : BTreeSet ℕ) (ks : List ℕ) (old new : ℕ → Type 0) → ks ≡ s.keys → Adds (Before (λ k p. (p ≡ k) × IsLoose w f p) ks) old new → Adds (λ p. HasPortIn s p × IsLoose w f p) old new
  all_loose s ks old new is a = adds_as (λ p. (k : ℕ) × HasPortIn s k × ((p ≡ k) × IsLoose w f p)) (λ p. HasPortIn s p × IsLoose w f p) old new
      (λ p h. (subst (HasPortIn s) (sym h.2.0) h.1, h.2.1)) (λ p h. (p, h.0, (refl, h.1))) (all_ports (λ k p. (p ≡ k) × IsLoose w f p) s ks old new is a)

-- the pairs of two default zones
module _ (w : Records) where
  abbrev pub LooseAt : Fabric → Bool → Pair → Type 0
  LooseAt f flag e = (flag ≡ true) × IsOffered w e.0 e.1 × IsLoose w f e.0 × IsLoose w f e.1

  module _ (v : Records) (moved : BTreeSet ℕ) (touched : BTreeSet (List ℕ)) (flags : Bool × Bool) where
    to_flag : (f : Fabric) (flag : Bool) (e : Pair) → flagged_at flags f ≡ flag → LooseAt f flag e → ByFlag w v moved touched (flagged_at flags) e.0 e.1
    to_flag f flag e is h = (f, is ∙ h.0, (h.2.0.0, h.3.0.0, h.2.0.1, h.3.0.1, h.2.0.2, h.3.0.2), h.2.1, h.3.1, h.1)

    from_flag : (e : Pair) (f : Fabric) → flagged_at flags f ≡ true → AreAt w f e.0 e.1 → IsInNone w f e.0 → IsInNone w f e.1 → IsOffered w e.0 e.1 → LooseAt A flags.0 e ⊎ LooseAt B flags.1 e
    from_flag e A is at one other o = inl (is, o, ((at.0, at.2, at.4), one), ((at.1, at.3, at.5), other))
    from_flag e B is at one other o = inr (is, o, ((at.0, at.2, at.4), one), ((at.1, at.3, at.5), other))

    pub by_flags : (old mid new : Pair → Type 0) → Adds (LooseAt A flags.0) old mid → Adds (LooseAt B flags.1) mid new → Adds (λ e. ByFlag w v moved touched (flagged_at flags) e.0 e.1) old new
    by_flags old mid new a b = adds_as (λ e. LooseAt A flags.0 e ⊎ LooseAt B flags.1 e) (λ e. ByFlag w v moved touched (flagged_at flags) e.0 e.1) old new
        (λ e h. elim h [ inl x ↦ to_flag A flags.0 e refl x | inr x ↦ to_flag B flags.1 e refl x ])
        (λ e h. from_flag e h.0 h.1 h.2 h.3 h.4 h.5)
        (adds_both (LooseAt A flags.0) (LooseAt B flags.1) old mid new a b)

-- each with each
pub product : (s t : BTreeSet ℕ) (ks : List ℕ) (old new : Pair → Type 0) → ks ≡ s.keys → Adds (Before (λ p (e : Pair). HasPortIn t e.1 × (e.0 ≡ p)) ks) old new → Adds (λ e. HasPortIn s e.0 × HasPortIn t e.1) old new
product s t ks old new is a = adds_as (λ e. (p : ℕ) × HasPortIn s p × (HasPortIn t e.1 × (e.0 ≡ p))) (λ e. HasPortIn s e.0 × HasPortIn t e.1) old new
    (λ e h. (subst (HasPortIn s) (sym h.2.1) h.1, h.2.0)) (λ e h. (e.0, h.0, (h.1, refl))) (all_ports (λ p (e : Pair). HasPortIn t e.1 × (e.0 ≡ p)) s ks old new is a)

-- no zone has the port
pub none_zoned : (b : Bool) (t : List ℕ → Bool) (H : List ℕ → Type 0) → ((z : List ℕ) → (t z ≡ true → H z) × (H z → t z ≡ true)) → (IsTrue b → (z : List ℕ) → t z ≡ false) × (((z : List ℕ) → t z ≡ false) → IsTrue b)
    → (IsTrue b → (z : List ℕ) → ¬ H z) × (((z : List ℕ) → ¬ H z) → IsTrue b)
none_zoned b t H is e = (λ h z x. true≢false (sym ((is z).1 x) ∙ e.0 h z), λ none. e.1 (λ z. by z none (t z) refl))
  where
    by : (z : List ℕ) → ((y : List ℕ) → ¬ H y) → (c : Bool) → t z ≡ c → c ≡ false
    by z none true at = absurd (none z ((is z).0 at))
    by z none false at = refl

-- the loose pairs of a host's ports
pub of_host : (w : Records) (f : Fabric) (held : Held) (host : List ℕ) (ports initiators offered targets : BTreeSet ℕ) (groups : BTreeSet (List ℕ)) (old new : Pair → Type 0) → tree.get name_cmp held host ≡ Some ports
    → ((p : ℕ) → (HasPortIn initiators p → HasPortIn ports p × IsLoose w f p) × (HasPortIn ports p × IsLoose w f p → HasPortIn initiators p))
    → ((q : ℕ) → (HasPortIn offered q → IsTargeted w.config.mapping groups q) × (IsTargeted w.config.mapping groups q → HasPortIn offered q))
    → ((q : ℕ) → (HasPortIn targets q → HasPortIn offered q × IsLoose w f q) × (HasPortIn offered q × IsLoose w f q → HasPortIn targets q))
    → Adds (λ e. HasPortIn initiators e.0 × HasPortIn targets e.1) old new → Adds (λ e. HoldsIn held host e.0 × IsTargeted w.config.mapping groups e.1 × IsLoose w f e.0 × IsLoose w f e.1) old new
of_host w f held host ports initiators offered targets groups old new at one all other = adds_as (λ e. HasPortIn initiators e.0 × HasPortIn targets e.1) (λ e. HoldsIn held host e.0 × IsTargeted w.config.mapping groups e.1 × IsLoose w f e.0 × IsLoose w f e.1) old new
    (λ e h. let p = (one e.0).0 h.0 in let q = (other e.1).0 h.1 in (ap (λ o. in_tree nat_cmp o e.0) at ∙ p.0, (all e.1).0 q.0, p.1, q.1))
    (λ e h. ((one e.0).1 (sym (ap (λ o. in_tree nat_cmp o e.0) at) ∙ h.0, h.2), (other e.1).1 ((all e.1).1 h.1, h.3)))

-- The pairs that are found are those to ask about.
use Rattle.std.proofs.Common.{ℕ, ◌≡◌, List, Bool, true, false, Some, inl, inr, refl, sym, ◌∙◌}
use Rattle.std.specs.BTreeSet.{BTreeSet, contains}
use Rattle.std.specs.Ordering.{nat_cmp}
use Rattle.std.specs.FinMap as map
use Rattle.fab_names.specs.Orders.{name_cmp}
use Rattle.fab_names.specs.declared.fabric.Fabric.{Fabric}
use Rattle.fab_inventory.specs.Holders.{holder_in}
use Rattle.fab_mapping_base.specs.Groups.{StorageGroupRows}
use Rattle.fab_reach_base.specs.Records.{Records}
use Rattle.fab_reach_books.specs.Affected.{HasSameRow, HasSameFlag}
use Rattle.fab_reach_books.specs.Inner.Moving.{Offers, IsOffered, StillOffers, KeepsOffers, Stays, IsMoving}
use Rattle.fab_reach_moves.specs.Moves.{IsSamePort, AreMoved, IsKeptAs, AreTouched, AreFlagged}
use Rattle.fab_reach_pairs.specs.Inner.Finding.{IsFound}
use Rattle.fab_reach_books.proofs.Staying.{holder_known, known_held}

-- a port with the same row has the same holder
same_holder : (w v : Records) (p : ℕ) (h : List ℕ) → HasSameRow w v p → holder_in (map.get w.inventory.ports) p ≡ Some h → holder_in (map.get v.inventory.ports) p ≡ Some h
same_holder w v p h same held =
    let port = known_held w.inventory.ports p h held in
    holder_known v.inventory.ports p port.0 (sym same ∙ port.1) ∙ port.2

-- a storage group that is kept offers what it offered, to ports with the same rows
kept_offers : (w v : Records) (n : List ℕ) (p q : ℕ) (g : StorageGroupRows) → HasSameRow w v p → Offers w n p q g → IsKeptAs w v n g → StillOffers v n p q g
kept_offers w v n p q g same o k = (
  k.other,
  (record { there = k.there; host = o.0.host; held = same_holder w v p o.0.host same o.0.held; serves = k.serves o.0.host o.0.serves; target = k.targets q o.0.target }, k.exposed o.1),
  k.units,
)

module _ (w v : Records) (moved : BTreeSet ℕ) (touched : BTreeSet (List ℕ)) (flagged : Fabric → Bool) (m : AreMoved w v moved) (t : AreTouched w v touched) (f : AreFlagged w v flagged) (p q : ℕ) where
  -- ---- each pair that is found is one to ask about

  pub found_moves : IsFound w v moved touched flagged p q → IsMoving w v p q
  found_moves (inl i) = (elim i.1 [ inl o ↦ inl o | inr o ↦ inr (o.0, o.1, o.3) ], λ s. m.sound p i.0 (record { row = s.row_from; zones = s.zones_from }))
  found_moves (inr (inl i)) = (inl i.1, λ s. m.sound q i.0 (record { row = s.row_to; zones = s.zones_to }))
  found_moves (inr (inr (inl i))) = (inl i.5, λ s. f.sound i.0 i.1 (s.flags i.0 i.2 i.3 i.4))
  found_moves (inr (inr (inr i))) = elim i.3 [
    | inl l ↦ (inl (i.0, i.1, l.0), λ s. s.offers i.0 i.1 l.0 l.1)
    | inr g ↦ (inr (i.0, i.1, g.0), λ s. s.no_new_offers i.0 i.1 g.0 g.1)
  ]

  -- ---- and each pair to ask about is found

  module _ (lost : ¬ IsFound w v moved touched flagged p q) where
    -- a port is the same unless it is among the moved ones
    same : (r : ℕ) → ¬ (contains nat_cmp moved r ≡ true) → IsSamePort w v r
    same r none = case (contains nat_cmp moved r) refl
      where
        case : (b : Bool) → contains nat_cmp moved r ≡ b → IsSamePort w v r
        case true is = absurd (none is)
        case false is = m.rest r is

    flag : (e : Fabric) → ¬ (flagged e ≡ true) → HasSameFlag w v e
    flag e none = case (flagged e) refl
      where
        case : (b : Bool) → flagged e ≡ b → HasSameFlag w v e
        case true is = absurd (none is)
        case false is = f.rest e is

    offers : HasSameRow w v p → KeepsOffers w v p q
    offers row n g o none = case (contains name_cmp touched n) refl
      where
        case : (b : Bool) → contains name_cmp touched n ≡ b → ⊥
        case true is = lost (inr (inr (inr (n, g, is, inl (o, none)))))
        case false is = none (kept_offers w v n p q g row o ((t n is).stays g o.0.there))

    new_offers : HasSameRow w v p → KeepsOffers v w p q
    new_offers row n g o none = case (contains name_cmp touched n) refl
      where
        case : (b : Bool) → contains name_cmp touched n ≡ b → ⊥
        case true is = lost (inr (inr (inr (n, g, is, inr (o, none)))))
        case false is = none (kept_offers v w n p q g (sym row) o ((t n is).no_more g o.0.there))

    -- a pair that was offered before
    offered_stays : IsOffered w p q → Stays w v p q
    offered_stays o =
        let from : IsSamePort w v p = same p (λ is. lost (inl (is, inl o))) in
        let to : IsSamePort w v q = same q (λ is. lost (inr (inl (is, o)))) in record {
          row_from = from.row;
          row_to = to.row;
          zones_from = from.zones;
          zones_to = to.zones;
          flags = λ e at no_p no_q. flag e (λ is. lost (inr (inr (inl (e, is, at, no_p, no_q, o)))));
          offers = offers from.row;
          no_new_offers = new_offers from.row;
        }

    -- a pair that is offered after was offered before
    offered_before : (n : List ℕ) (g : StorageGroupRows) → Offers v n p q g → ¬ (¬ IsOffered w p q)
    offered_before n g o none = case (contains name_cmp touched n) refl
      where
        case : (b : Bool) → contains name_cmp touched n ≡ b → ⊥
        case true is = lost (inr (inr (inr (n, g, is, inr (o, λ s. none (n, s.0, s.1))))))
        case false is =
            let from : IsSamePort w v p = same p (λ there. lost (inl (there, inr (n, g, is, o)))) in
            let s : StillOffers w n p q g = kept_offers v w n p q g (sym from.row) o ((t n is).no_more g o.0.there) in
            none (n, s.0, s.1)

    pub not_moving : ¬ IsMoving w v p q
    not_moving k = elim k.0 [ inl o ↦ k.1 (offered_stays o) | inr o ↦ offered_before o.0 o.1 o.2 (λ b. k.1 (offered_stays b)) ]

-- What is known of ports after a step.
use Rattle.std.proofs.Common.{ℕ, ◌≡◌, List, Contains, Option, None, Some, MatchOption, inl, inr, refl, sym, ap, ◌∙◌, subst}
use Rattle.std.specs.Ordering.{nat_cmp}
use Rattle.std.specs.BTreeMap.{BTreeMap, get}
use Rattle.std.specs.Option.{option_map, option_and_then}
use Rattle.std.specs.FinMap as map
use Rattle.fab_inventory.specs.declared.port.Known.{Known}
use Rattle.fab_inventory.specs.declared.port.Port.{Port}
use Rattle.fab_inventory.specs.Ports.{KnownPorts, port_at, port_of}
use Rattle.fab_inventory.specs.Holders.{holder_in}
use Rattle.fab_reach_base.specs.Records.{Records}
use Rattle.fab_reach_base.proofs.Gathering.{name_of, is_own}
use Rattle.fab_reach_base.proofs.Same.{same_some}
use Rattle.fab_reach_books.proofs.SetLoops.{same_option}
use Rattle.fab_reach_books.specs.Rows.{IsRowDiff}
use Rattle.fab_reach_books.specs.declared.row.Row.{Row}
use Rattle.fab_reach_books.specs.declared.row.Row.TheVariants as row
use Rattle.fab_reach_moves.specs.Inner.Listing.{NamesNoPort}
use Rattle.fab_reach_moves.specs.Inner.Saying.{SaysPortAt, IsSaid, AreSaid}

-- what is found under a name is a port of this name that rows say
pub port_said : (rows : List Row) (t : BTreeMap ℕ Port) → AreSaid nat_cmp SaysPortAt rows t → (name : ℕ) (o : Option Port) → o ≡ get nat_cmp t name → MatchOption o (NamesNoPort rows name) (λ p. Contains rows (row.Port p) × (p.name ≡ name))
port_said rows t are name o is = by o (subst (λ f. MatchOption f ((x : Port) → ¬ IsSaid SaysPortAt rows name x) (IsSaid SaysPortAt rows name)) (sym is) (are name))
  where
    by : (f : Option Port) → MatchOption f ((x : Port) → ¬ IsSaid SaysPortAt rows name x) (IsSaid SaysPortAt rows name) → MatchOption f (NamesNoPort rows name) (λ p. Contains rows (row.Port p) × (p.name ≡ name))
    by None none = λ p there named. none p (row.Port p, there, (refl, named))
    by (Some p) h = (subst (Contains rows) h.2.0 h.1, h.2.1)

module _ (w v : Records) (gone come : List Row) (d : IsRowDiff w v gone come) (name : ℕ) where
  pub port_come : (p : Port) → Contains come (row.Port p) → p.name ≡ name → Some p ≡ port_at v.inventory.ports name
  port_come p h is = sym (d.new (row.Port p) h).0 ∙ ap (port_at v.inventory.ports) is

  pub port_gone : (p : Port) → Contains gone (row.Port p) → p.name ≡ name → NamesNoPort come name → None ≡ port_at v.inventory.ports name
  port_gone p h is none = case (port_at v.inventory.ports name) refl
    where
      case : (o : Option Port) → port_at v.inventory.ports name ≡ o → None ≡ o
      case None at = refl
      case (Some q) at =
          let own = is_own v name q at in
          let named = name_of v name q at in
          elim (d.after (row.Port q) own) [
            | inl s ↦
                let same : p ≡ q = same_some (d.left (row.Port p) h).0 (ap (port_at w.inventory.ports) (is ∙ sym named) ∙ s) in
                absurd ((d.left (row.Port q) (subst (λ x. Contains gone (row.Port x)) same h)).1 own)
            | inr k ↦ absurd (none q k named)
          ]

  pub port_kept : NamesNoPort gone name → NamesNoPort come name → port_at w.inventory.ports name ≡ port_at v.inventory.ports name
  port_kept none_gone none_come = same_option (port_at w.inventory.ports name) (port_at v.inventory.ports name)
      (λ p at. let named = name_of w name p at in elim (d.before (row.Port p) (is_own w name p at)) [ inl s ↦ ap (port_at v.inventory.ports) (sym named) ∙ s | inr k ↦ absurd (none_gone p k named) ])
      (λ p at. let named = name_of v name p at in elim (d.after (row.Port p) (is_own v name p at)) [ inl s ↦ ap (port_at w.inventory.ports) (sym named) ∙ s | inr k ↦ absurd (none_come p k named) ])

pub holder_unknown : (ports : KnownPorts) (p : ℕ) → port_at ports p ≡ None → holder_in (map.get ports) p ≡ None
holder_unknown ports p h = case (map.get ports p) h
  where
    case : (o : Option Known) → option_map (port_of p) o ≡ None → option_and_then (λ (k : Known). k.holder) o ≡ None
    case None e = refl
    case (Some k) e = let f : ◌≡◌ {A = Option Port} (Some (port_of p k)) None = e in absurd cc

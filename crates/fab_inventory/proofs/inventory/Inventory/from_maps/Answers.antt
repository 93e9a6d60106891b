use Rattle.std.proofs.Common.{◌≡◌, ℕ, List, sym, ◌∙◌, refl, arith}
use mathlib.Core.Bool.{true≢false}
use Rattle.std.specs.Cmp.{nat_cmp_total}
use Rattle.std.specs.Ordering.{nat_cmp}
use Rattle.std.specs.FinMap as map
use Rattle.std.specs.BTreeMap.{BTreeMap, get}
use Rattle.fab_names.proofs.OrderLaws.{name_total}
use Rattle.fab_lemmas.proofs.SeenMaps.{get_entries, len_entries}
use Rattle.fab_inventory.specs.declared.port.Known.{Known}
use Rattle.fab_inventory.specs.declared.port.Seat.{Seat}
use Rattle.fab_inventory.specs.declared.holder.Holder.{Holder}
use Rattle.fab_inventory.specs.declared.holder.Volume.{Volume}
use Rattle.fab_inventory.specs.Restores.{AreAddressesSound, AreSeated, IsRestored, seated}
use Rattle.fab_inventory.proofs.Changes.{seen}
use Rattle.fab_inventory.proofs.Restoring.{sound_of_parts}
use Rattle.fab_inventory.proofs.Seating.{no_address}
use Rattle.fab_inventory.proofs.inventory.Inventory.from_maps.Goals as goal

restored : (seats : BTreeMap ℕ Seat) (addresses : BTreeMap ℕ ℕ) (holders : BTreeMap (List ℕ) Holder) (volumes : BTreeMap (List ℕ) Volume) (ports : BTreeMap ℕ Known)
    → ((q : ℕ) → get nat_cmp ports q ≡ seated (get nat_cmp seats q) (get nat_cmp addresses q)) → IsRestored seats addresses holders volumes (seen ports holders volumes)
restored seats addresses holders volumes ports are = record { ports = λ q. get_entries nat_cmp_total ports.entries q ∙ are q; holders_are = refl; volumes_are = refl }

no_addresses : (seats : BTreeMap ℕ Seat) (addresses : BTreeMap ℕ ℕ) (ports : BTreeMap ℕ Known) → ((q : ℕ) → get nat_cmp ports q ≡ seated (get nat_cmp seats q) (get nat_cmp addresses q)) → AreSeated (get nat_cmp seats) (get nat_cmp addresses)
    → AreAddressesSound (map.from_entries ports.entries)
no_addresses seats addresses ports are all q k e = no_address (get nat_cmp seats) (get nat_cmp addresses) all q k (sym (are q) ∙ sym (get_entries nat_cmp_total ports.entries q) ∙ e)

pub returns-then-not-sound-clause-err : goal.returns-then-not-sound-clause-err
returns-then-not-sound-clause-err g c = (
  seen c.in-Ok.ports c.args.holders c.args.volumes,
  restored c.args.seats c.args.addresses c.args.holders c.args.volumes c.in-Ok.ports c.in-Ok.ensures,
  λ s. true≢false (sym (c.in-Ok-are_ports_sound.ensures.1 s) ∙ c.if-not-sound.true),
)

pub returns-then-not-are_seated-clause-err : goal.returns-then-not-are_seated-clause-err
returns-then-not-are_seated-clause-err g c s = true≢false (sym (c.are_seated.ensures.1 s) ∙ c.if-not-are_seated.true)

pub returns-then-len-gt-MOST_HOLDERS-clause-err : goal.returns-then-len-gt-MOST_HOLDERS-clause-err
returns-then-len-gt-MOST_HOLDERS-clause-err g c s = omega (arith, s, len_entries name_total c.args.holders.entries c.len.ensures.ordered, c.len.ensures.len)

pub returns-then-not-are_volumes_sound-clause-err : goal.returns-then-not-are_volumes_sound-clause-err
returns-then-not-are_volumes_sound-clause-err g c s = true≢false (sym (c.are_volumes_sound.ensures.1 s) ∙ c.if-not-are_volumes_sound.true)

pub returns-clause-ok : goal.returns-clause-ok
returns-clause-ok g c = restored c.args.seats c.args.addresses c.args.holders c.args.volumes c.in-Ok.ports c.in-Ok.ensures

pub returns-clause-sound : goal.returns-clause-sound
returns-clause-sound g c =
    sound_of_parts (seen c.in-Ok.ports c.args.holders c.args.volumes) (c.in-Ok-are_ports_sound.ensures.0 c.if-not-sound.false)
    (no_addresses c.args.seats c.args.addresses c.in-Ok.ports c.in-Ok.ensures (c.are_seated.ensures.0 c.if-not-are_seated.false))
    (omega (arith, len_entries name_total c.args.holders.entries c.len.ensures.ordered, c.len.ensures.len)) (c.are_volumes_sound.ensures.0 c.if-not-are_volumes_sound.false)

pub returns-clause-seated : goal.returns-clause-seated
returns-clause-seated g c = c.are_seated.ensures.0 c.if-not-are_seated.false

pub invariant_of-result : goal.invariant_of-result
invariant_of-result g c =
    sound_of_parts (seen c.in-Ok.ports c.args.holders c.args.volumes) (c.in-Ok-are_ports_sound.ensures.0 c.if-not-sound.false)
    (no_addresses c.args.seats c.args.addresses c.in-Ok.ports c.in-Ok.ensures (c.are_seated.ensures.0 c.if-not-are_seated.false))
    (omega (arith, len_entries name_total c.args.holders.entries c.len.ensures.ordered, c.len.ensures.len)) (c.are_volumes_sound.ensures.0 c.if-not-are_volumes_sound.false)

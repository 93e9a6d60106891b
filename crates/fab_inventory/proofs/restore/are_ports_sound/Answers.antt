use Rattle.std.proofs.Common.{◌≤◌, Bool, Result, Ok, Err, IfOk, IsTrue, ◌↔◌, sym, ◌∙◌, arith}
use mathlib.Core.Bool.{true≢false}
use Rattle.std.specs.FinMap as map
use Rattle.std.specs.Ordering.{nat_cmp}
use Rattle.std.specs.Cmp.{nat_cmp_total}
use Rattle.fab_lemmas.proofs.SeenMaps.{len_entries}
use Rattle.fab_inventory.proofs.Restoring.{known_from_sound, sound_from_known}
use Rattle.fab_inventory.proofs.restore.are_ports_sound.Goals as goal

pub returns-then-len-gt-MOST_PORTS : goal.returns-then-len-gt-MOST_PORTS
returns-then-len-gt-MOST_PORTS g c = (λ t. absurd (true≢false (sym t)), λ s. absurd (omega (arith, s.few, len_entries nat_cmp_total c.args.ports.now.entries c.len.ensures.ordered, c.len.ensures.len)))

pub returns-then-not-have_known_holders : goal.returns-then-not-have_known_holders
returns-then-not-have_known_holders g c = (
  λ t. absurd (true≢false (sym t)),
  λ s. absurd (true≢false (sym (known_from_sound c.args.ports.now c.args.holders.now c.len.ensures.ordered s.holdings) ∙ sym c.have_known_holders.ensures ∙ c.if-not-have_known_holders.true)),
)

by : {E P Q : Type 0} (r : Result Bool E) → IfOk r (λ few. IsTrue few ↔ P) → (P → Q) → (Q → P) → IfOk r (λ few. IsTrue few ↔ Q)
by (Ok few) h there back = (λ t. there (h.0 t), λ q. h.1 (back q))
by (Err e) h there back = tt

pub returns : goal.returns
returns g c =
    let small : map.len (map.from_entries {R = nat_cmp} c.args.ports.now.entries) ≤ 4096 = omega (arith, len_entries nat_cmp_total c.args.ports.now.entries c.len.ensures.ordered, c.len.ensures.len) in
    by c.hold_few.result c.hold_few.ensures
    (λ few. record {
      holdings = sound_from_known c.args.ports.now c.args.holders.now (sym c.have_known_holders.ensures ∙ c.if-not-have_known_holders.false);
      few = small;
      few_held = few;
    })
    (λ s. s.few_held)

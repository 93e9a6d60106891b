-- Texts of world-wide names, numbers and members that are printed, and are read again.
use Rattle.std.proofs.Common.{ℕ, ◌≡◌, ◌<◌, ◌≤◌, ◌^◌, suc, zero, List, Result, Ok, Err, IfOk, length, get_or, codes, append_assoc, refl, sym, ap, ◌∙◌, subst, arith, inl, inr}
use Rattle.std.specs.Fmt.{decimal}
use Rattle.std.proofs.lemmas.Fmt.{first_decimal, length-decimal-le_succ}
use Rattle.fab_names.specs.Numbers.{SpellsNumber}
use Rattle.fab_names.specs.Places.{Position, IsPosition, SpellsPlace, place_text}
use Rattle.fab_names.specs.WorldWideNames.{SpellsWwn, SpellsPlain, plain_text, wwn_text}
use Rattle.fab_names.proofs.Digits.{one_reading}
use Rattle.fab_names.proofs.Printed.{printed_spells}
use Rattle.fab_names.proofs.Numerals.{printed_number}
use Rattle.fab_store_columns_base.specs.Columns.{ShowsDecimal}

pub on_ok : {X E : Type 0} (P Q : X → Type 0) (r : Result X E) → ((x : X) → P x → Q x) → IfOk r P → IfOk r Q
on_ok P Q (Ok x) f h = f x h
on_ok P Q (Err e) f h = h

-- the plain digits of a name are a text of it
pub plain_spells : (n : ℕ) → 0 < n → n < 2 ^ 64 → SpellsWwn (plain_text n) n
plain_spells n some fits =
    let s = (printed_spells n some fits).0 in
    let same : s.digits ≡ plain_text n = one_reading s.digits (plain_text n) (wwn_text n) s.sixteen refl s.form (inr (inr refl)) in (
      record {
        digits = s.digits;
        sixteen = s.sixteen;
        hexadecimal = s.hexadecimal;
        form = inl (sym same);
        value = s.value;
      },
      some,
    )

pub plain_is : (n : ℕ) → 0 < n → n < 2 ^ 64 → (text : List ℕ) → text ≡ plain_text n → SpellsPlain text n
plain_is n some fits text is = (subst (λ t. SpellsWwn t n) (sym is) (plain_spells n some fits), is)

-- decimal digits are a number text
pub decimal_spells : (most : ℕ) → most < 2 ^ 64 → (text : List ℕ) (n : ℕ) → ShowsDecimal most text n → SpellsNumber text n
decimal_spells most small text n s = subst (λ t. SpellsNumber t n) (sym s.digits) (printed_number n (omega (arith, s.high)))

no_leading_zero : (n : ℕ) → n < 2 ^ 64 → get_or (decimal n) 0 0 ≡ 48 → 2 ≤ length (decimal n) → ⊥
no_leading_zero zero small first long = omega (arith, length-decimal-le_succ 0 small)
no_leading_zero (suc n) small first long = omega (arith, first_decimal (suc n) (omega arith) small)

-- and have no leading zero before others
pub decimal_plain : (most : ℕ) → most < 2 ^ 64 → (text : List ℕ) (n : ℕ) → ShowsDecimal most text n → ¬ ((get_or text 0 0 ≡ 48) × (2 ≤ length text))
decimal_plain most small text n s led = no_leading_zero n (omega (arith, s.high)) (ap (λ (t : List ℕ). get_or t 0 0) (sym s.digits) ∙ led.0) (subst (λ (t : List ℕ). 2 ≤ length t) s.digits led.1)

-- a place in range is spelled by its printed form
pub place_spells : (p : Position) → IsPosition p → SpellsPlace (place_text p) p
place_spells p range = (
  decimal p.domain,
  decimal p.slot,
  append_assoc (decimal p.domain) (codes ",") (decimal p.slot),
  record {
    domain_number = printed_number p.domain (omega (arith, range.few));
    slot_number = printed_number p.slot (omega (arith, range.slot));
    in_range = range;
  },
)

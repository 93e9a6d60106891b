-- What is printed of a number.
use Rattle.std.proofs.Common.{ℕ, ◌≡◌, ◌<◌, ◌≤◌, ◌+◌, ◌*◌, ◌/◌, ◌%◌, ◌^◌, suc, zero, List, [], ◌∷◌, ◌++◌, length, get_or, codes, append_assoc, refl, sym, ap, ◌∙◌, subst, arith, lit<, inl, inr, true}
use Rattle.std.specs.List.{AllByRecursion}
use Rattle.std.specs.Int.{w64, to_be_bytes, from_be_bytes}
use Rattle.std.specs.Char.{is_ascii_hexdigit, digit_value}
use Rattle.std.specs.Str.{IsUtf8}
use Rattle.std.proofs.lemmas.Str.{IsUtf8-from_ascii}
use Rattle.std.proofs.lemmas.Nat.{from_be_bytes-to_be_bytes_8}
use Rattle.std.proofs.lemmas.Bool.Decides.{nat_tests}
use Rattle.std.specs.Fmt.{decimal}
use Rattle.std.proofs.lemmas.Fmt.{first_decimal, length-decimal-le_succ}
use Rattle.fab_names.specs.Names.{IsNameText}
use Rattle.fab_names.specs.Places.{Position, SpellsPosition, SpellsPrintedPlace, place_text}
use Rattle.fab_names.specs.Addresses.{IsAddress, SpellsAddress, address_text}
use Rattle.fab_names.specs.Members.{SpellsMember, member_text}
use Rattle.fab_names.specs.declared.member.Member.{Member}
use Rattle.fab_names.specs.declared.member.Member.TheVariants as member
use Rattle.fab_names.proofs.Numerals.{printed_number, plain_number, not_in_number}
use Rattle.fab_names.proofs.Splits.{one_cut}
use Rattle.fab_names.specs.WorldWideNames.{plain_text, SpellsDigits, paired, hex_digit, digits_of, wwn_text, bytes_of, byte_of, SpellsWwn}

hex_small : (d : ℕ) → d < 16 → hex_digit d < 128
hex_small d h = grind (arith, nat_tests)

small_digits : (bs : List ℕ) → AllByRecursion (λ b. b < 256) bs → AllByRecursion (λ c. c < 128) (digits_of bs)
small_digits [] h = tt
small_digits (b ∷ bs) h = (hex_small (b / 16) (omega (arith, h.0)), (hex_small (b % 16) (omega arith), small_digits bs h.1))

small_paired : (ds : List ℕ) → AllByRecursion (λ c. c < 128) ds → AllByRecursion (λ c. c < 128) (paired ds)
small_paired [] h = tt
small_paired (a ∷ []) h = h
small_paired (a ∷ b ∷ []) h = h
small_paired (a ∷ b ∷ c ∷ ds) h = (h.0, (h.1.0, (lit< tt, small_paired (c ∷ ds) h.1.1)))

small_at : (cs : List ℕ) → AllByRecursion (λ c. c < 128) cs → (i : ℕ) → get_or cs i 0 < 128
small_at [] h i = lit< tt
small_at (c ∷ cs) h zero = h.0
small_at (c ∷ cs) h (suc i) = small_at cs h.1 i

bytes_small : (n : ℕ) → AllByRecursion (λ b. b < 256) (to_be_bytes w64 n)
bytes_small n = (omega arith, (omega arith, (omega arith, (omega arith, (omega arith, (omega arith, (omega arith, (omega arith, tt))))))))

pub text_utf8 : (n : ℕ) → IsUtf8 (wwn_text n)
text_utf8 n = IsUtf8-from_ascii (wwn_text n) (small_at (wwn_text n) (small_paired (digits_of (to_be_bytes w64 n)) (small_digits (to_be_bytes w64 n) (bytes_small n))))

-- a digit is a digit, and has its value
hex_is_digit : (d : ℕ) → d < 16 → is_ascii_hexdigit (hex_digit d) ≡ true
hex_is_digit d h = grind (arith, nat_tests)

hex_value : (d : ℕ) → d < 16 → digit_value (hex_digit d) ≡ d
hex_value d h = grind (arith, nat_tests)

byte_back : (b : ℕ) → b < 256 → byte_of (hex_digit (b / 16)) (hex_digit (b % 16)) ≡ b
byte_back b h =
    let high : digit_value (hex_digit (b / 16)) ≡ b / 16 = hex_value (b / 16) (omega (arith, h)) in
    let low : digit_value (hex_digit (b % 16)) ≡ b % 16 = hex_value (b % 16) (omega arith) in
    rw (high, low) (omega arith)

bytes_back : (bs : List ℕ) → AllByRecursion (λ b. b < 256) bs → bytes_of (digits_of bs) ≡ bs
bytes_back [] h = refl
bytes_back (b ∷ bs) h = λ i. byte_back b h.0 i ∷ bytes_back bs h.1 i

hex_at : (bs : List ℕ) → AllByRecursion (λ b. b < 256) bs → (k : ℕ) → k < length (digits_of bs) → is_ascii_hexdigit (get_or (digits_of bs) k 0) ≡ true
hex_at [] h k below = absurd (omega arith)
hex_at (b ∷ bs) h zero below = hex_is_digit (b / 16) (omega (arith, h.0))
hex_at (b ∷ bs) h (suc zero) below = hex_is_digit (b % 16) (omega arith)
hex_at (b ∷ bs) h (suc (suc k)) below = hex_at bs h.1 k (omega arith)

pub printed_spells : (n : ℕ) → 0 < n → n < 2 ^ 64 → SpellsWwn (wwn_text n) n
printed_spells n h fits = (
  record {
    digits = digits_of (to_be_bytes w64 n);
    sixteen = refl;
    hexadecimal = hex_at (to_be_bytes w64 n) (bytes_small n);
    form = inr (inr refl);
    value = ap (from_be_bytes w64) (bytes_back (to_be_bytes w64 n) (bytes_small n)) ∙ from_be_bytes-to_be_bytes_8 n fits;
  },
  h,
)

-- ---- addresses

address_bytes : (n : ℕ) → n < 16777216 → AllByRecursion (λ b. b < 256) (n / 65536 ∷ n / 256 % 256 ∷ n % 256 ∷ [])
address_bytes n h = (omega (arith, h), (omega arith, (omega arith, tt)))

pub address_utf8 : (n : ℕ) → n < 16777216 → IsUtf8 (address_text n)
address_utf8 n h = IsUtf8-from_ascii (address_text n) (small_at (address_text n) (small_digits (n / 65536 ∷ n / 256 % 256 ∷ n % 256 ∷ []) (address_bytes n h)))

pub printed_address : (n : ℕ) → IsAddress n → SpellsAddress (address_text n) n
printed_address n is =
    let h : n < 16777216 = omega (arith, is.few) in
    let b = address_bytes n h in
    let domain = byte_back (n / 65536) b.0 in
    let area = byte_back (n / 256 % 256) b.1.0 in
    let port = byte_back (n % 256) b.1.1.0 in (
      record {
        digits = address_text n;
        six = refl;
        hexadecimal = hex_at (n / 65536 ∷ n / 256 % 256 ∷ n % 256 ∷ []) b;
        form = inl refl;
        value = (λ i. domain i * 65536 + area i * 256 + port i) ∙ omega arith;
      },
      is,
    )

-- ---- members

-- sixteen hexadecimal digits write a number of 64 bits
hex_value_small : (c : ℕ) → is_ascii_hexdigit c ≡ true → digit_value c < 16
hex_value_small c h = grind (arith, nat_tests)

bytes_fit : (ds : List ℕ) → ((k : ℕ) → k < length ds → is_ascii_hexdigit (get_or ds k 0) ≡ true) → (i : ℕ) → get_or (bytes_of ds) i 0 < 256
bytes_fit [] hex i = lit< tt
bytes_fit (a ∷ []) hex i = lit< tt
bytes_fit (a ∷ b ∷ ds) hex zero = omega (arith, hex_value_small a (hex 0 (omega arith)), hex_value_small b (hex 1 (omega arith)))
bytes_fit (a ∷ b ∷ ds) hex (suc i) = bytes_fit ds (λ k below. hex (suc (suc k)) (omega arith)) i

number_fits : (bs : List ℕ) → ((i : ℕ) → get_or bs i 0 < 256) → from_be_bytes w64 bs < 2 ^ 64
number_fits bs fits = omega (arith, fits 0, fits 1, fits 2, fits 3, fits 4, fits 5, fits 6, fits 7)

pub wwn_fits : (text : List ℕ) (n : ℕ) → SpellsDigits text n → n < 2 ^ 64
wwn_fits text n s = subst (λ m. m < 2 ^ 64) s.value (number_fits (bytes_of s.digits) (bytes_fit s.digits s.hexadecimal))

-- the printed form of a member is a text of it
pub member_again : (text : List ℕ) (m : Member) → SpellsMember text m → SpellsMember (member_text m) m
member_again text (member.Port n) s = (wwn_text n, refl, printed_spells n s.2.1 (wwn_fits s.0 n s.2.0))
member_again text (member.Node n) s = (wwn_text n, refl, printed_spells n s.2.1 (wwn_fits s.0 n s.2.0))
member_again text (member.Place p) s = let range = s.2.3.in_range in (
  place_text p,
  refl,
  (
    decimal p.domain,
    decimal p.slot,
    append_assoc (decimal p.domain) (codes ",") (decimal p.slot),
    record {
      domain_number = printed_number p.domain (omega (arith, range.few));
      slot_number = printed_number p.slot (omega (arith, range.slot));
      in_range = range;
    },
  ),
)
member_again text (member.Address n) s = (address_text n, refl, printed_address n s.2.1)
member_again text (member.Alias a) s = (a, refl, (refl, subst IsNameText (sym s.2.0) s.2.1))

-- ---- texts that are printed forms

-- a byte text of ASCII
pub plain_utf8 : (n : ℕ) → IsUtf8 (plain_text n)
plain_utf8 n = IsUtf8-from_ascii (plain_text n) (small_at (plain_text n) (small_digits (to_be_bytes w64 n) (bytes_small n)))

-- what is printed of a number has no leading zero before other digits
no_leading_zero : (n : ℕ) → n < 2 ^ 64 → get_or (decimal n) 0 0 ≡ 48 → 2 ≤ length (decimal n) → ⊥
no_leading_zero zero small first long = omega (arith, length-decimal-le_succ 0 small)
no_leading_zero (suc n) small first long = omega (arith, first_decimal (suc n) (omega arith) small)

-- a text with no leading zeros around its comma is the printed form of its place
pub place_printed : (text domain slot : List ℕ) (p : Position) → text ≡ domain ++ 44 ∷ slot → SpellsPosition domain slot p → ¬ ((get_or domain 0 0 ≡ 48) × (2 ≤ length domain)) → ¬ ((get_or slot 0 0 ≡ 48) × (2 ≤ length slot)) → SpellsPrintedPlace text p
place_printed text domain slot p is s first second = (
  (domain, slot, is, s),
  is ∙ (λ i. sym (plain_number domain p.domain s.domain_number (omega (arith, s.in_range.few)) first) i ++ 44 ∷ sym (plain_number slot p.slot s.slot_number (omega (arith, s.in_range.slot)) second) i) ∙ sym (append_assoc (decimal p.domain) (codes ",") (decimal p.slot)),
)

-- and a text with one is none
pub place_not_printed : (text domain slot : List ℕ) (q : Position) → text ≡ domain ++ 44 ∷ slot → ((i : ℕ) → i < length domain → get_or domain i 0 ≡ 44 → ⊥) → SpellsPrintedPlace text q
    → (((get_or domain 0 0 ≡ 48) × (2 ≤ length domain)) → ⊥) × (((get_or slot 0 0 ≡ 48) × (2 ≤ length slot)) → ⊥)
place_not_printed text domain slot q is lacks (spelled, printed) =
    let range = spelled.3.in_range in
    let number = printed_number q.domain (omega (arith, range.few)) in
    let cut = one_cut 44 domain slot (decimal q.domain) (decimal q.slot) lacks (not_in_number 44 (λ h. omega arith) (decimal q.domain) q.domain number) (sym is ∙ printed ∙ append_assoc (decimal q.domain) (codes ",") (decimal q.slot)) in (
      λ z. no_leading_zero q.domain (omega (arith, range.few)) (ap (λ (x : List ℕ). get_or x 0 0) (sym cut.0) ∙ z.0) (subst (λ (x : List ℕ). 2 ≤ length x) cut.0 z.1),
      λ z. no_leading_zero q.slot (omega (arith, range.slot)) (ap (λ (x : List ℕ). get_or x 0 0) (sym cut.1) ∙ z.0) (subst (λ (x : List ℕ). 2 ≤ length x) cut.1 z.1),
    )

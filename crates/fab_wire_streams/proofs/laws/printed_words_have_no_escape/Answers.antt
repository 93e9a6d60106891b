use Rattle.std.proofs.Common.{◌≡◌, ◌<◌, ◌^◌, ℕ, List, ◌++◌, Bool, true, refl, ◌∙◌, decimal, arith, get_or}
use Rattle.std.specs.Prelude.{codes}
use Rattle.std.specs.List.{list_all}
use Rattle.std.specs.Char.{is_ascii_digit}
use Rattle.std.proofs.lemmas.Bool.Decides.{nat_tests}
use Rattle.std.proofs.lemmas.List.Sums.{AllPass-from_list_all, list_all-from_AllPass}
use Rattle.std.proofs.lemmas.List.Folds.{list_all-append}
use Rattle.fab_names.specs.Names.{IsNameText, is_name_char}
use Rattle.fab_names.specs.WorldWideNames.{wwn_text, hex_digit}
use Rattle.fab_names.specs.Addresses.{address_text}
use Rattle.fab_names.specs.Places.{place_text, Position, IsPosition}
use Rattle.fab_names.specs.Members.{SpellsMember, member_text}
use Rattle.fab_names.specs.declared.member.Member.{Member}
use Rattle.fab_names.specs.declared.member.Member.TheVariants as member
use Rattle.fab_names.proofs.Numerals.{all_digits, printed_number}
use Rattle.fab_wire_streams.specs.Escapes.{is_line_byte}
use Rattle.fab_wire_streams.specs.Printed.{IsLines}
use Rattle.fab_wire_streams.proofs.laws.printed_words_have_no_escape.Goals as goal

weaker : (p q : ℕ → Bool) → ((b : ℕ) → p b ≡ true → q b ≡ true) → (xs : List ℕ) → list_all p xs ≡ true → list_all q xs ≡ true
weaker p q f xs h = list_all-from_AllPass q xs (λ k d lt. f (get_or xs k d) (AllPass-from_list_all p xs h k d lt))

name-byte : (b : ℕ) → is_name_char b ≡ true → is_line_byte b ≡ true
name-byte b h = grind (arith, nat_tests)

digit-byte : (b : ℕ) → is_ascii_digit b ≡ true → is_line_byte b ≡ true
digit-byte b h = grind (arith, nat_tests)

hex-byte : (d : ℕ) → is_line_byte (hex_digit d) ≡ true
hex-byte d = grind (arith, nat_tests)

joined : (xs ys : List ℕ) → IsLines xs → IsLines ys → IsLines (xs ++ ys)
joined xs ys h k = list_all-append is_line_byte xs ys ∙ rw (h, k) refl

number : (n : ℕ) → n < 2 ^ 64 → IsLines (decimal n)
number n h = weaker is_ascii_digit is_line_byte digit-byte (decimal n) (all_digits (decimal n) n (printed_number n h))

wwn : (n : ℕ) → IsLines (wwn_text n)
wwn n = simp hex-byte

address : (n : ℕ) → IsLines (address_text n)
address n = simp hex-byte

place : (p : Position) → IsPosition p → IsLines (place_text p)
place p h = joined (decimal p.domain ++ codes ",") (decimal p.slot) (joined (decimal p.domain) (codes ",") (number p.domain (omega arith)) refl) (number p.slot (omega arith))

name : (text : List ℕ) → IsNameText text → IsLines text
name text h = weaker is_name_char is_line_byte name-byte text h.chars

member-lines : (text : List ℕ) (m : Member) → SpellsMember text m → IsLines (member_text m)
member-lines text (member.Port w) h = joined (codes "wwpn=") (wwn_text w) refl (wwn w)
member-lines text (member.Node w) h = joined (codes "wwnn=") (wwn_text w) refl (wwn w)
member-lines text (member.Place p) h = joined (codes "dp=") (place_text p) refl (place p h.2.3.in_range)
member-lines text (member.Address n) h = joined (codes "id=") (address_text n) refl (address n)
member-lines text (member.Alias a) h = joined (codes "alias=") a refl (rw h.2.0 (name h.0 h.2.1))

pub returns : goal.returns
returns c = record { name = name; wwn = wwn; number = number; member = member-lines }

-- What spells a world-wide name, or an address, is text.
use Rattle.std.proofs.Common.{◌≡◌, ℕ, zero, suc, ◌<◌, ◌≤◌, List, [], ◌∷◌, length, get_or, subst, sym, arith, inl, inr, true, EachIndex}
use Rattle.std.specs.Str.{IsAscii, IsUtf8}
use Rattle.std.specs.Char.{is_ascii_hexdigit}
use Rattle.std.proofs.lemmas.Str.{IsUtf8-from_ascii}
use Rattle.std.proofs.lemmas.Bool.Decides.{nat_tests}
use Rattle.fab_names.specs.WorldWideNames.{SpellsWwn, IsDigitsOf, paired}
use Rattle.fab_names.specs.Addresses.{SpellsAddress, IsSixOf}

nil-ascii : IsAscii []
nil-ascii i = omega arith

cons-ascii : (c : ℕ) (cs : List ℕ) → c < 128 → IsAscii cs → IsAscii (c ∷ cs)
cons-ascii c cs h k zero = h
cons-ascii c cs h k (suc i) = k i

tail-ascii : (c : ℕ) (cs : List ℕ) → IsAscii (c ∷ cs) → IsAscii cs
tail-ascii c cs h i = h (suc i)

paired-ascii : (cs : List ℕ) → IsAscii cs → IsAscii (paired cs)
paired-ascii [] h = h
paired-ascii (a ∷ []) h = h
paired-ascii (a ∷ b ∷ []) h = h
paired-ascii (a ∷ b ∷ c ∷ cs) h =
    cons-ascii a (b ∷ 58 ∷ paired (c ∷ cs)) (h 0)
    (cons-ascii b (58 ∷ paired (c ∷ cs)) (h 1) (cons-ascii 58 (paired (c ∷ cs)) (omega arith) (paired-ascii (c ∷ cs) (tail-ascii b (c ∷ cs) (tail-ascii a (b ∷ c ∷ cs) h)))))

hexdigit-ascii : (c : ℕ) → is_ascii_hexdigit c ≡ true → c < 128
hexdigit-ascii c h = grind (arith, nat_tests)

past-ascii : (cs : List ℕ) (i : ℕ) → length cs ≤ i → get_or cs i 0 < 128
past-ascii [] i h = omega arith
past-ascii (c ∷ cs) zero h = absurd (omega arith)
past-ascii (c ∷ cs) (suc i) h = past-ascii cs i (omega arith)

digits-ascii : (cs : List ℕ) → EachIndex cs (λ k. is_ascii_hexdigit (get_or cs k 0) ≡ true) → IsAscii cs
digits-ascii [] h = nil-ascii
digits-ascii (c ∷ cs) h = cons-ascii c cs (hexdigit-ascii c (h 0 (omega arith))) (digits-ascii cs (λ k l. h (suc k) (omega arith)))

form-ascii : (ds text : List ℕ) → IsAscii ds → IsDigitsOf ds text → IsAscii text
form-ascii ds text h (inl e) = subst IsAscii (sym e) h
form-ascii ds text h (inr (inl e)) = subst IsAscii (sym e) (cons-ascii 48 (120 ∷ ds) (omega arith) (cons-ascii 120 ds (omega arith) h))
form-ascii ds text h (inr (inr e)) = subst IsAscii (sym e) (paired-ascii ds h)

-- what spells a world-wide name is text
pub IsUtf8-wwn : (text : List ℕ) (n : ℕ) → SpellsWwn text n → IsUtf8 text
IsUtf8-wwn text n s = IsUtf8-from_ascii text (form-ascii s.0.digits text (digits-ascii s.0.digits s.0.hexadecimal) s.0.form)

six-ascii : (ds text : List ℕ) → IsAscii ds → IsSixOf ds text → IsAscii text
six-ascii ds text h (inl e) = subst IsAscii (sym e) h
six-ascii ds text h (inr e) = subst IsAscii (sym e) (cons-ascii 48 (120 ∷ ds) (omega arith) (cons-ascii 120 ds (omega arith) h))

-- what spells an address is text
pub IsUtf8-address : (text : List ℕ) (n : ℕ) → SpellsAddress text n → IsUtf8 text
IsUtf8-address text n s = IsUtf8-from_ascii text (six-ascii s.0.digits text (digits-ascii s.0.digits s.0.hexadecimal) s.0.form)

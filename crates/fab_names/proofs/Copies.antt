-- A text in a buffer of zeros, and the bytes of a name.
use Rattle.std.proofs.Common.{ℕ, ◌≡◌, ◌<◌, ◌+◌, ◌-◌, suc, Bool, true, false, ◌&&◌, List, [], ◌∷◌, ◌++◌, take, replicate, get_or, refl, sym, arith, zero, lit<}
use mathlib.Core.Bool.{true≢false}
use Rattle.std.proofs.lemmas.Bool.Decides.{nat_tests}
use Rattle.std.proofs.lemmas.Str.{IsUtf8-from_ascii}
use Rattle.std.specs.List.{list_all}
use Rattle.std.specs.Str.{IsUtf8}
use Rattle.fab_names.specs.Names.{IsNameText, is_name_char}

-- the first i bytes, and zeros
abbrev pub copied : List ℕ → ℕ → List ℕ
copied xs i = take i xs ++ replicate (64 - i) 0

-- a name is ASCII
ascii_char : (c : ℕ) → is_name_char c ≡ true → c < 128
ascii_char c h = grind (arith, nat_tests)

and_left : (a b : Bool) → (a && b) ≡ true → a ≡ true
and_left true b h = refl
and_left false b h = h

pub and_right : (a b : Bool) → (a && b) ≡ true → b ≡ true
and_right true b h = h
and_right false b h = absurd (true≢false (sym h))

pub ascii_all : (xs : List ℕ) → list_all is_name_char xs ≡ true → (i : ℕ) → get_or xs i 0 < 128
ascii_all [] h i = lit< tt
ascii_all (x ∷ xs) h zero = ascii_char x (and_left (is_name_char x) _ h)
ascii_all (x ∷ xs) h (suc i) = ascii_all xs (and_right (is_name_char x) _ h) i

pub name_utf8 : (xs : List ℕ) → IsNameText xs → IsUtf8 xs
name_utf8 xs h = IsUtf8-from_ascii xs (ascii_all xs h.chars)

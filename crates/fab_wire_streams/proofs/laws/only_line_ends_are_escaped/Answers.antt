use Rattle.std.proofs.Common.{◌≡◌, ℕ, suc, List, [], ◌∷◌, ◌++◌, true, ap, ◌∙◌, arith}
use Rattle.std.specs.List.{flat_map}
use Rattle.std.proofs.lemmas.Bool.Decides.{nat_tests}
use Rattle.json.specs.Print.{escape_byte}
use Rattle.fab_wire_streams.specs.Escapes.{is_line_byte, line_escape, escape_json, escapes_json}
use Rattle.std.proofs.lemmas.List.Sums.{AllPass-from_list_all}
use Rattle.std.specs.List.{AllPass}
use Rattle.fab_wire_streams.proofs.Texts.{escapes-nil, escapes-cons}
use Rattle.fab_wire_streams.proofs.laws.only_line_ends_are_escaped.Goals as goal

line-byte : (b : ℕ) → is_line_byte b ≡ true → escape_json b ≡ line_escape b
unfolding escape_json escape_byte
line-byte b h = grind (arith, nat_tests)

lines : (t : List ℕ) → AllPass is_line_byte t → escapes_json t ≡ flat_map line_escape t
lines [] h = escapes-nil
lines (b ∷ t) h = let e = line-byte b (h 0 0 (omega arith)) in let f = lines t (λ k d lt. h (suc k) d (omega arith)) in escapes-cons b t ∙ ap (λ u. u ++ escapes_json t) e ∙ ap (λ u. line_escape b ++ u) f

pub returns : goal.returns
returns c t h = lines t (AllPass-from_list_all is_line_byte t h)

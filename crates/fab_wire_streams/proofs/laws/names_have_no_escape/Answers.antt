use Rattle.std.proofs.Common.{◌≡◌, ℕ, suc, List, [], ◌∷◌, ◌++◌, true, ap, ◌∙◌, arith}
use Rattle.std.specs.List.{AllPass}
use Rattle.std.proofs.lemmas.Bool.Decides.{nat_tests}
use Rattle.std.proofs.lemmas.List.Sums.{AllPass-from_list_all}
use Rattle.fab_names.specs.Names.{is_name_char}
use Rattle.fab_wire_streams.specs.Escapes.{is_plain, escapes_json}
use Rattle.fab_wire_streams.proofs.Texts.{escapes-nil, escapes-cons, escape-plain}
use Rattle.fab_wire_streams.proofs.laws.names_have_no_escape.Goals as goal

name-plain : (b : ℕ) → is_name_char b ≡ true → is_plain b ≡ true
name-plain b h = grind (arith, nat_tests)

plain : (t : List ℕ) → AllPass is_name_char t → escapes_json t ≡ t
plain [] h = escapes-nil
plain (b ∷ t) h = let e = escape-plain b (name-plain b (h 0 0 (omega arith))) in let f = plain t (λ k d lt. h (suc k) d (omega arith)) in escapes-cons b t ∙ ap (λ u. u ++ escapes_json t) e ∙ ap (λ u. b ∷ u) f

pub returns : goal.returns
returns c t h = plain t (AllPass-from_list_all is_name_char t h.chars)

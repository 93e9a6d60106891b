-- A text and a printed form.
use Rattle.std.proofs.Common.{◌≡◌, ℕ, Bool, List, IsTrue, ◌↔◌, sym, ◌∙◌, subst, nat_eq}
use Rattle.std.specs.Bool.{Decides}
use Rattle.std.specs.Cmp.Lexicographic.{pointwise}
use Rattle.std.proofs.lemmas.Slice.Eq.{bytes_eq-Decides}

-- the printed text is compared with the given one
pub same_text : (text found printed : List ℕ) (is : Bool) → is ≡ pointwise nat_eq found text → found ≡ printed → IsTrue is ↔ (text ≡ printed)
same_text text found printed is told from =
    let d : Decides is (found ≡ text) = subst (λ b. Decides b (found ≡ text)) (sym told) (bytes_eq-Decides found text) in
    (λ t. sym (d.0 t) ∙ from, λ e. d.1 (from ∙ sym e))

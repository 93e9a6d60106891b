-- What a look-up says of a row.
use Rattle.std.proofs.Common.{◌≡◌, Option, Some, Bool, true, IsTrue, sym, ◌∙◌, subst}
use Rattle.fab_reach_base.proofs.Same.{same_some}

-- what was found has P, where a test of it says so
pub found_has : {X : Type 0} (P : X → Type 0) (o : Option X) (x : X) (b : Bool) → Some x ≡ o → (IsTrue b → P x) × (P x → IsTrue b) → (IsTrue b → (y : X) × (o ≡ Some y) × P y) × ((y : X) × (o ≡ Some y) × P y → IsTrue b)
found_has P o x b at d = ((λ t. (x, sym at, d.0 t)), λ w. d.1 (subst P (same_some w.1 (sym at)) w.2))

-- a test that is another
pub test_is : (b t : Bool) → b ≡ t → (IsTrue b → t ≡ true) × (t ≡ true → IsTrue b)
test_is b t is = ((λ h. sym is ∙ h), λ h. is ∙ h)

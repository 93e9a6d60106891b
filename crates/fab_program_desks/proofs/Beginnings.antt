-- What is so of the two sides of a request as they begin.
use Rattle.std.proofs.Common.{◌≡◌, ℕ, List, Option, subst}

-- what is so of two sides is so of equal ones
pub begun : (P : Option (List ℕ) → ℕ → Option (List ℕ) → ℕ → Type 0) (read read' : Option (List ℕ)) (failed failed' : ℕ) (sent sent' : Option (List ℕ)) (unsent unsent' : ℕ)
    → read ≡ read' → failed ≡ failed' → sent ≡ sent' → unsent ≡ unsent' → P read failed sent unsent → P read' failed' sent' unsent'
begun P read read' failed failed' sent sent' unsent unsent' a b c d h =
    subst (λ (x : Option (List ℕ)). P x failed' sent' unsent') a
    (subst (λ (x : ℕ). P read x sent' unsent') b
    (subst (λ (x : Option (List ℕ)). P read failed x unsent') c
    (subst (λ (x : ℕ). P read failed sent x) d h)))

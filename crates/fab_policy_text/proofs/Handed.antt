-- A fault that is handed on, and what stands at a key.
use Rattle.std.proofs.Common.{◌≡◌, Bool, false, Option, Some, None, Result, Ok, Err, sym, ap, subst, ◌∙◌}
use Rattle.std.specs.Prelude.{IsSomeAnd, MatchOption, IsErrAnd}
use Rattle.std.specs.Option.{unwrap_or}
use Rattle.toml.specs.Data.{Data}
use Rattle.fab_policy_text.specs.Forms.{IsFlag}
use Rattle.fab_policy_text.specs.Shapes.{IsMemory, IfRefused}
use Rattle.fab_policy_base.specs.declared.fault.PolicyFault.{PolicyFault}

-- what is so of a fault is so of it where it is handed on
pub handed : {X : Type 0} (r : Result X PolicyFault) (e : PolicyFault) (Q : PolicyFault → Type 0) → IsErrAnd r (λ y. y ≡ e) → (¬ IsMemory e → Q e) → IfRefused r Q
handed (Ok x) e Q h f = absurd h
handed (Err y) e Q h f = λ m. subst Q (sym h) (f (λ k. m (h ∙ k)))

-- what may be missing is there
pub there : {X : Type 0} (o : Option Data) (x : Option X) (y : X) (Means : Data → X → Type 0) → x ≡ Some y
    → MatchOption o (x ≡ None) (λ d. IsSomeAnd x (Means d)) → IsSomeAnd o (λ d. Means d y)
there None x y Means e h = absurd (cc)
there {X} (Some d) x y Means e h = subst (λ (z : Option X). IsSomeAnd z (Means d)) e h

-- a truth value that is false where it is missing
pub flag : (o : Option Data) (x : Option Bool) (b : Bool) → MatchOption o (x ≡ None) (λ d. IsSomeAnd x (IsFlag d)) → b ≡ unwrap_or x false
    → MatchOption o (b ≡ false) (λ d. IsFlag d b)
flag None x b h e = e ∙ ap (λ (z : Option Bool). unwrap_or z false) h
flag (Some d) None b h e = absurd h
flag (Some d) (Some y) b h e = subst (IsFlag d) (sym e) h

-- What was found of the rules so far, and of the next.
use Rattle.std.proofs.Common.{◌≡◌, ℕ, suc, ◌+◌, ◌<◌, List, [], ◌∷◌, ◌++◌, Option, Some, None, length, get_or, drop, refl, sym, subst, inl, inr, append_assoc, add-one, drop-cons, append-nil, ◌≤◌}
use Rattle.std.proofs.lemmas.List.{drop_all}
use Rattle.fab_policy_base.specs.Policies.{RuleRow, PolicyRows}
use Rattle.fab_policy.specs.declared.act.Act.{Act}
use Rattle.fab_policy_looks.specs.Findings.{AddsFinding, AreFindings, IsFoundOf, added_finding}
use Rattle.fab_policy_looks.specs.declared.found.RuleFinding.{RuleFinding}

-- what is found of a rule and of those behind it
front : (p : PolicyRows) (a : Act) (n : ℕ) (r : RuleRow) (rs : List RuleRow) (old rest : List RuleFinding) (one : Option RuleFinding) (all : List RuleFinding → Type 0) → IsFoundOf p a n r one
    → AreFindings p a (suc n) rs rest → ((found : List RuleFinding) → AreFindings p a n (r ∷ rs) found → all (old ++ found)) → all (added_finding old one ++ rest)
front p a n r rs old rest None all is more so = so rest (inr (is, more))
front p a n r rs old rest (Some one) all is more so =
    subst all (sym (append_assoc old (one ∷ []) rest)) (so (one ∷ rest) (inl (is.0, one, rest, refl, is.1, more)))

-- one rule more is looked at
pub gathered_more : (p : PolicyRows) (a : Act) (i : ℕ) (d : RuleRow) (all : List RuleFinding → Type 0) (old new : List RuleFinding) → i < length p.rules → ((rest : List RuleFinding) → AreFindings p a (i + 1) (drop i p.rules) rest → all (old ++ rest))
    → AddsFinding p a (i + 1) (get_or p.rules i d) old new → (rest : List RuleFinding) → AreFindings p a (i + 1 + 1) (drop (i + 1) p.rules) rest → all (new ++ rest)
gathered_more p a i d all old new lt so adds rest more =
    let cut : drop i p.rules ≡ get_or p.rules i d ∷ drop (i + 1) p.rules = rw add-one (drop-cons p.rules i d lt) in
    let next : AreFindings p a (suc (i + 1)) (drop (i + 1) p.rules) rest = subst (λ n. AreFindings p a n (drop (i + 1) p.rules) rest) (add-one (i + 1)) more in
    let here : (found : List RuleFinding) → AreFindings p a (i + 1) (get_or p.rules i d ∷ drop (i + 1) p.rules) found → all (old ++ found) = subst (λ rs. (found : List RuleFinding) → AreFindings p a (i + 1) rs found → all (old ++ found)) cut so in
    subst (λ found. all (found ++ rest)) (sym adds.2) (front p a (i + 1) (get_or p.rules i d) (drop (i + 1) p.rules) old rest adds.0 all adds.1 next here)

-- all rules were looked at
pub gathered_all : (p : PolicyRows) (a : Act) (i : ℕ) (all : List RuleFinding → Type 0) (found : List RuleFinding) → length p.rules ≤ i → ((rest : List RuleFinding) → AreFindings p a (i + 1) (drop i p.rules) rest → all (found ++ rest)) → all found
gathered_all p a i all found past so =
    let none : drop i p.rules ≡ [] = drop_all i p.rules past in
    let ends : AreFindings p a (i + 1) (drop i p.rules) [] = subst (λ rs. AreFindings p a (i + 1) rs []) (sym none) refl in
    subst all (append-nil found) (so [] ends)

use Rattle.std.proofs.Common.{Option, None, subst, ◌≡◌, List, ℕ, refl, ◌∙◌, Some, arith}
use Rattle.std.specs.Prelude.{codes, IfSome}
use Rattle.matchit.proofs.OnLiterals.{matchit_on_literals}
use Rattle.matchit.specs.Params.{walk, named}
use Rattle.fab_wire_base.specs.Segments.{segment_at}
use Rattle.fab_wire_base.specs.Matching.{Matches, scan_of}
use Rattle.fab_wire_base.specs.Captures.{second_name}
use Rattle.fab_wire_base.specs.declared.kinds.Route.{Route}
use Rattle.fab_wire_base.specs.declared.kinds.Route.TheVariants as route
use Rattle.fab_wire_base.proofs.CaptureLemmas.{AreLiterals, low-literals, second-captures}
use Rattle.fab_wire_base.proofs.TableLemmas.{found-at}
use Rattle.fab_wire_base.proofs.laws.second_part_is_captured.Goals as goal

captures : (r : Route) (path : List ℕ) → AreLiterals path → Matches (scan_of r).pattern path
    → IfSome (second_name r) (λ name. named name (walk (scan_of r).pattern (scan_of r).text path (scan_of r).names 0 0) ≡ Some (segment_at 3 path))
unfolding matchit_on_literals scan_of
captures route.Joined path low m = second-captures (codes "/joined/") (codes "/joined/{p}/{q}") (codes "q") path (9, 10) (13, 14) (low-literals (codes "/joined/") refl) (omega arith) low refl refl (λ x. refl) m
captures route.Aliases path low m = second-captures (codes "/aliases/") (codes "/aliases/{fabric}/{name}") (codes "name") path (10, 16) (19, 23) (low-literals (codes "/aliases/") refl) (omega arith) low refl refl (λ x. refl) m
captures route.Zones path low m = second-captures (codes "/zones/") (codes "/zones/{fabric}/{name}") (codes "name") path (8, 14) (17, 21) (low-literals (codes "/zones/") refl) (omega arith) low refl refl (λ x. refl) m
captures route.Sets path low m = second-captures (codes "/sets/") (codes "/sets/{fabric}/{name}") (codes "name") path (7, 13) (16, 20) (low-literals (codes "/sets/") refl) (omega arith) low refl refl (λ x. refl) m
captures other path low m = tt

of-some : (o : Option (List ℕ)) (name : List ℕ) (P : List ℕ → Type 0) → o ≡ Some name → IfSome o P → P name
of-some None name P e h = cc
of-some (Some n) name P e h = let same : n ≡ name = cc in subst P same h

pub returns : goal.returns
returns c path found low e name k =
    let h = found-at path found e in
    h.takes name ∙ of-some (second_name found.value) name (λ n. named n (walk (scan_of found.value).pattern (scan_of found.value).text path (scan_of found.value).names 0 0) ≡ Some (segment_at 3 path)) k (captures found.value path low h.matches)

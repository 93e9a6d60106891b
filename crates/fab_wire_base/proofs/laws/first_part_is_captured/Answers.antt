use Rattle.std.proofs.Common.{◌≡◌, List, ℕ, [], ◌∷◌, refl, ◌∙◌, Some}
use Rattle.std.specs.Prelude.{codes}
use Rattle.matchit.proofs.OnLiterals.{matchit_on_literals}
use Rattle.matchit.specs.Params.{walk, named}
use Rattle.fab_wire_base.specs.Segments.{segment_at}
use Rattle.fab_wire_base.specs.Matching.{Matches, scan_of}
use Rattle.fab_wire_base.specs.Captures.{first_name}
use Rattle.fab_wire_base.specs.declared.kinds.Route.{Route}
use Rattle.fab_wire_base.specs.declared.kinds.Route.TheVariants as route
use Rattle.fab_wire_base.proofs.CaptureLemmas.{AreLiterals, low-literals, end-captures, slash-captures}
use Rattle.fab_wire_base.proofs.TableLemmas.{found-at}
use Rattle.fab_wire_base.proofs.laws.first_part_is_captured.Goals as goal

captures : (r : Route) (path : List ℕ) → AreLiterals path → Matches (scan_of r).pattern path
    → named (first_name r) (walk (scan_of r).pattern (scan_of r).text path (scan_of r).names 0 0) ≡ Some (segment_at 2 path)
unfolding matchit_on_literals scan_of
captures route.Imports path low m = end-captures (codes "/imports/") (codes "/imports/{fabric}") (codes "fabric") path (10, 16) (low-literals (codes "/imports/") refl) low refl (λ x. refl) m
captures route.Ports path low m = end-captures (codes "/ports/") (codes "/ports/{wwn}") (codes "wwn") path (8, 11) (low-literals (codes "/ports/") refl) low refl (λ x. refl) m
captures route.Hosts path low m = end-captures (codes "/hosts/") (codes "/hosts/{name}") (codes "name") path (8, 12) (low-literals (codes "/hosts/") refl) low refl (λ x. refl) m
captures route.Arrays path low m = end-captures (codes "/arrays/") (codes "/arrays/{name}") (codes "name") path (9, 13) (low-literals (codes "/arrays/") refl) low refl (λ x. refl) m
captures route.Volumes path low m = end-captures (codes "/volumes/") (codes "/volumes/{name}") (codes "name") path (10, 14) (low-literals (codes "/volumes/") refl) low refl (λ x. refl) m
captures route.Plans path low m = end-captures (codes "/plans/") (codes "/plans/{name}") (codes "name") path (8, 12) (low-literals (codes "/plans/") refl) low refl (λ x. refl) m
captures route.Approve path low m = slash-captures (codes "/plans/") (97 ∷ 112 ∷ 112 ∷ 114 ∷ 111 ∷ 118 ∷ 101 ∷ []) (codes "/plans/{name}/approve") (codes "name") path (8, 12) ([]) (low-literals (codes "/plans/") refl) low refl (λ x. refl) m
captures route.DryRun path low m = slash-captures (codes "/plans/") (100 ∷ 114 ∷ 121 ∷ 114 ∷ 117 ∷ 110 ∷ []) (codes "/plans/{name}/dryrun") (codes "name") path (8, 12) ([]) (low-literals (codes "/plans/") refl) low refl (λ x. refl) m
captures route.Activate path low m = slash-captures (codes "/plans/") (97 ∷ 99 ∷ 116 ∷ 105 ∷ 118 ∷ 97 ∷ 116 ∷ 101 ∷ []) (codes "/plans/{name}/activate") (codes "name") path (8, 12) ([]) (low-literals (codes "/plans/") refl) low refl (λ x. refl) m
captures route.Rollback path low m = slash-captures (codes "/plans/") (114 ∷ 111 ∷ 108 ∷ 108 ∷ 98 ∷ 97 ∷ 99 ∷ 107 ∷ []) (codes "/plans/{name}/rollback") (codes "name") path (8, 12) ([]) (low-literals (codes "/plans/") refl) low refl (λ x. refl) m
captures route.Paths path low m = end-captures (codes "/paths/") (codes "/paths/{host}") (codes "host") path (8, 12) (low-literals (codes "/paths/") refl) low refl (λ x. refl) m
captures route.Joined path low m = slash-captures (codes "/joined/") (256 ∷ []) (codes "/joined/{p}/{q}") (codes "p") path (9, 10) ((13, 14) ∷ []) (low-literals (codes "/joined/") refl) low refl (λ x. refl) m
captures route.Active path low m = end-captures (codes "/active/") (codes "/active/{fabric}") (codes "fabric") path (9, 15) (low-literals (codes "/active/") refl) low refl (λ x. refl) m
captures route.Aliases path low m = slash-captures (codes "/aliases/") (256 ∷ []) (codes "/aliases/{fabric}/{name}") (codes "fabric") path (10, 16) ((19, 23) ∷ []) (low-literals (codes "/aliases/") refl) low refl (λ x. refl) m
captures route.Zones path low m = slash-captures (codes "/zones/") (256 ∷ []) (codes "/zones/{fabric}/{name}") (codes "fabric") path (8, 14) ((17, 21) ∷ []) (low-literals (codes "/zones/") refl) low refl (λ x. refl) m
captures route.Sets path low m = slash-captures (codes "/sets/") (256 ∷ []) (codes "/sets/{fabric}/{name}") (codes "fabric") path (7, 13) ((16, 20) ∷ []) (low-literals (codes "/sets/") refl) low refl (λ x. refl) m
captures route.HostGroups path low m = end-captures (codes "/hostgroups/") (codes "/hostgroups/{name}") (codes "name") path (13, 17) (low-literals (codes "/hostgroups/") refl) low refl (λ x. refl) m
captures route.Groups path low m = end-captures (codes "/groups/") (codes "/groups/{name}") (codes "name") path (9, 13) (low-literals (codes "/groups/") refl) low refl (λ x. refl) m

pub returns : goal.returns
returns c path found low e =
    let h = found-at path found e in
    h.takes (first_name found.value) ∙ captures found.value path low h.matches

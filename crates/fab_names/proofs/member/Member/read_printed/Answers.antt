use Rattle.std.proofs.Common.{◌≡◌, ◌++◌, ◌∷◌, codes, Some, lit<, ap, ◌∙◌}
use Rattle.std.proofs.lemmas.Str.Pattern.{split_parts}
use Rattle.fab_names.specs.Members.{SpellsPrinted}
use Rattle.fab_names.specs.declared.member.Member.TheVariants as member
use Rattle.fab_names.proofs.Readings.{mapped_option, no_printed_port, no_printed_node, no_printed_address}
use Rattle.fab_names.proofs.member.Member.read_printed.Goals as goal

pub returns-in-wwpn : goal.returns-in-wwpn
returns-in-wwpn c =
    let cut = split_parts 61 c.args.text.now (Some (c.in-Some.kind, c.in-Some.value)) c.in-Some.ensures.cases (lit< tt) in
    let text : c.args.text.now ≡ codes "wwpn=" ++ c.in-Some.value.now = cut.0 ∙ ap (λ t. t ++ 61 ∷ c.in-Some.value.now) c.in-wwpn.is in
    mapped_option (SpellsPrinted c.args.text.now) member.Port c.read_printed.result c.map.result c.map.ensures.cases (λ n s. ((c.in-Some.value.now, text, s.0), text ∙ ap (λ t. codes "wwpn=" ++ t) s.1)) (no_printed_port c.args.text.now c.in-Some.value.now text) c.read_printed.ensures

pub returns-in-wwnn : goal.returns-in-wwnn
returns-in-wwnn c =
    let cut = split_parts 61 c.args.text.now (Some (c.in-Some.kind, c.in-Some.value)) c.in-Some.ensures.cases (lit< tt) in
    let text : c.args.text.now ≡ codes "wwnn=" ++ c.in-Some.value.now = cut.0 ∙ ap (λ t. t ++ 61 ∷ c.in-Some.value.now) c.in-wwnn.is in
    mapped_option (SpellsPrinted c.args.text.now) member.Node c.read_printed-in-wwnn.result c.map-in-wwnn.result c.map-in-wwnn.ensures.cases (λ n s. ((c.in-Some.value.now, text, s.0), text ∙ ap (λ t. codes "wwnn=" ++ t) s.1)) (no_printed_node c.args.text.now c.in-Some.value.now text) c.read_printed-in-wwnn.ensures

pub returns-in-id : goal.returns-in-id
returns-in-id c =
    let cut = split_parts 61 c.args.text.now (Some (c.in-Some.kind, c.in-Some.value)) c.in-Some.ensures.cases (lit< tt) in
    let text : c.args.text.now ≡ codes "id=" ++ c.in-Some.value.now = cut.0 ∙ ap (λ t. t ++ 61 ∷ c.in-Some.value.now) c.in-id.is in
    mapped_option (SpellsPrinted c.args.text.now) member.Address c.read_printed-in-id.result c.map-in-id.result c.map-in-id.ensures.cases (λ n s. ((c.in-Some.value.now, text, s.0), text ∙ ap (λ t. codes "id=" ++ t) s.1)) (no_printed_address c.args.text.now c.in-Some.value.now text) c.read_printed-in-id.ensures

use Rattle.std.proofs.Common.{ap, ◌∙◌, ◌≡◌, length, rules}
use Rattle.fab_names.specs.WorldWideNames.{number_of}
use Rattle.fab_names.proofs.Digits.{all_at, from_at}
use Rattle.fab_names.proofs.wwn.number_of.Goals as goal

pub returns : goal.returns
returns c =
    let sixteen : length c.args.d.now ≡ 16 = search rules in
    let same : c.from_be_bytes.result ≡ number_of (from_at 16 0 c.args.d.now) = search rules in
    same ∙ ap number_of (all_at 16 c.args.d.now sixteen)

use Rattle.std.proofs.Common.{arith, ◌≡◌, ◌++◌, refl}
use Rattle.std.proofs.lemmas.List.{take-append-drop}
use Rattle.fab_wire_base.proofs.whole.lacks.Goals as goal

pub split_at-requires : goal.split_at-requires
split_at-requires g c = omega arith

pub lacks_parted-requires : goal.lacks_parted-requires
lacks_parted-requires g c = record { short = omega arith; full = λ h. omega arith; lines = refl }

pub returns : goal.returns
returns g c =
    let same : c.split_at.result.0.now ++ c.split_at.result.1.now ≡ c.args.bytes.now =
    rw (c.split_at.ensures.front, c.split_at.ensures.back) (take-append-drop c.min.result c.args.bytes.now) in
    rw same at c.lacks_parted.ensures

use Rattle.std.proofs.Common.{sym}
use Rattle.fab_world.specs.Worlds.{records_of}
use Rattle.fab_looks_ways.proofs.Tied.{memo_more, zones_at}
use Rattle.fab_looks_ways.proofs.ties.zoned_once.Goals as goal

pub returns-clause-memo : goal.returns-clause-memo
returns-clause-memo g c =
    let w = records_of c.args.world.now in
    memo_more w c.args.port.now.name c.in_ok-zoned.zoned c.args.memo.now c.keep.new.memo (zones_at w c.args.fabric c.args.port.now c.in_ok-zoned.zoned c.requires.known c.requires.here c.in_ok-zoned.ensures) c.in_ok-keep.ensures.0 c.requires.memo

pub returns-in-Some-clause-zones : goal.returns-in-Some-clause-zones
returns-in-Some-clause-zones g c = c.requires.memo c.args.port.now.name c.in-Some.zoned (sym c.in-Some.ensures) c.args.fabric c.args.port.now c.requires.known c.requires.here

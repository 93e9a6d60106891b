use Rattle.std.proofs.Common.{arith}
use Rattle.fab_reach_books.proofs.Numbers.{number_after, lost_are_some}
use Rattle.fab_reach.proofs.index_book.paths_after.Goals as goal

pub returns-in-Some : goal.returns-in-Some
returns-in-Some g c w v number delta =
    let d = c.args.delta.now in
    number_after w v number.paths d.gained.items d.lost.items number.are delta c.args.before c.in-Some.count number.many
    (let some = lost_are_some w v number.paths d.gained.items d.lost.items number.are delta in
    let many = number.many in
    let lost = c.len.ensures in
    let gained = c.len-2.ensures in
    let kept = c.saturating_sub-kept.ensures in
    let sum = c.in-Some.ensures in
    omega (arith, some, many, lost, gained, kept, sum))

use Rattle.fab_store_drafts.proofs.Using.{used_is}
use Rattle.fab_store_drafts.proofs.users.Users.is_used.Goals as goal

pub returns-in-Some : goal.returns-in-Some
returns-in-Some g c = used_is c.args.self.now c.args.used.now c.in-Some.users.now c.in-Some.ensures.value c.is_empty.result c.is_empty.ensures

use Rattle.std.proofs.Common.{List, ℕ}
use Rattle.std.specs.BTreeSet.{contains}
use Rattle.fab_reach_base.proofs.fab_lemmas.Adding.{adds_as}
use Rattle.fab_reach_base.specs.fab_names.Orders.{name_cmp}
use Rattle.fab_store_edits.proofs.Answering.{on_ok}
use Rattle.fab_store_drafts.specs.Users.{IsUse}
use Rattle.fab_store_drafts.specs.declared.uses.Used.TheVariants as used
use Rattle.fab_store_drafts.proofs.clashes.add_part.Goals as goal

pub returns-in-Host : goal.returns-in-Host
returns-in-Host g c =
    let w = used.HostGroup c.in-Host.hosts in
    rw c.in-Host.is
    (on_ok c.add_to.result (adds_as (λ (n : List ℕ). IsUse c.args.users.now (w, n)) _ (contains name_cmp c.args.touched.now) (contains name_cmp c.add_to.new.names) (λ n u. (c.requires (w, n)).0 u) (λ n s. (c.requires (w, n)).1 s)) c.add_to.ensures)

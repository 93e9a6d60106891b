use Rattle.std.proofs.Common.{◌↔◌, List, IsTrue, subst}
use Rattle.fab_looks_tries.proofs.Leaving.{over_is}
use Rattle.fab_looks_tries.specs.Inner.Gathered.{IsOver}
use Rattle.fab_names.specs.declared.fabric.Fabric.TheVariants.{A, B}
use Rattle.fab_reach_base.specs.declared.path.Path.{Path}
use Rattle.fab_looks_tries.proofs.left.over_of.Goals as goal

pub returns : goal.returns
returns g c v stands =
    let list = c.in_ok-paths.ensures v stands in
    let a = over_is v c.args.host.now A c.in_ok-paths.paths.items list in
    let b = over_is v c.args.host.now B c.in_ok-paths.paths.items list in
    let at_a = subst (λ (xs : List Path). IsTrue c.is_over.result ↔ IsOver xs A) c.deref.ensures.value c.is_over.ensures in
    let at_b = subst (λ (xs : List Path). IsTrue c.is_over-2.result ↔ IsOver xs B) c.deref-2.ensures.value c.is_over-2.ensures in (
      ((λ h. a.0 (at_a.0 h)), λ h. at_a.1 (a.1 h)),
      ((λ h. b.0 (at_b.0 h)), λ h. at_b.1 (b.1 h)),
    )

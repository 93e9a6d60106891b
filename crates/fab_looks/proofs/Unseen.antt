-- What is told of a host or a volume as if it was not there.
use Rattle.std.proofs.Common.{◌≡◌, ℕ, List, Option, None, Some, is_some, cond, sym, ap, ◌∙◌}
use mathlib.Core.Bool.{true≢false}
use Rattle.std.specs.Ordering.{is_eq}
use Rattle.std.specs.Cmp.{tied_itself}
use Rattle.std.specs.Option.{option_map}
use Rattle.std.specs.FinMap as map
use Rattle.fab_reach_base.specs.fab_names.Orders.{name_cmp}
use Rattle.fab_reach_base.proofs.fab_names.OrderLaws.{name_total}
use Rattle.fab_reach_base.specs.fab_names.declared.fabric.Fabric.{Fabric}
use Rattle.fab_reach_base.specs.fab_inventory.declared.holder.Holder.{Holder}
use Rattle.fab_reach_base.specs.fab_inventory.declared.holder.HolderKind.{HolderKind}
use Rattle.fab_reach_base.specs.fab_inventory.declared.holder.HolderKind.TheVariants as kind
use Rattle.fab_reach_base.specs.fab_inventory.declared.port.Port.{Port}
use Rattle.fab_reach_base.specs.Records.{Records}
use Rattle.fab_looks.specs.Links.{IsLogin, HasLogin, IsExplained, IsMissing}
use Rattle.fab_looks.specs.declared.explaining.Why.{Why}
use Rattle.fab_looks.specs.declared.explaining.Why.TheVariants as why
use Rattle.fab_looks.specs.declared.link.Link.TheVariants as link
use Rattle.fab_looks.specs.Told.{without_holder, without_volume, untold}

-- what was removed is not there
removed : {V : Type 0} (m : map.FinMap name_cmp V) (n : List ℕ) → map.get (map.remove m n) n ≡ None
removed m n = map.get-remove name_total m n n ∙ ap (λ b. cond b None (map.get m n)) (ap is_eq (tied_itself name_total n))

-- a host that is not there
pub unseen_host : (w : Records) (host volume : List ℕ) → IsMissing (without_holder w host) host volume link.Host
unseen_host w host volume = (
  tt,
  λ h.
      let e : ◌≡◌ {A = Option HolderKind} None (Some kind.Host) = sym (ap (option_map (λ (x : Holder). x.kind)) (removed w.inventory.holders host)) ∙ h in absurd cc,
)

module _ (w : Records) (host volume : List ℕ) where
  -- the volumes have nothing to do with logins
  to_login : (f : Fabric) (p : Port) → IsLogin w host f p → IsLogin (without_volume w volume) host f p
  to_login f p l = record { known = l.known; from = record { held = l.from.held; kind = l.from.kind }; here = l.here }

  from_login : (f : Fabric) (p : Port) → IsLogin (without_volume w volume) host f p → IsLogin w host f p
  from_login f p l = record { known = l.known; from = record { held = l.from.held; kind = l.from.kind }; here = l.here }

  no_volume : HasLogin w host → IsMissing (without_volume w volume) host volume link.Volume
  no_volume h = ((h.0, h.1, to_login h.0 h.1 h.2), λ k. true≢false (sym k.1 ∙ ap is_some (removed w.inventory.volumes volume)))

  pub untold_is : {A : Type 0} (y : Why A) → IsExplained w host volume y → IsExplained (without_volume w volume) host volume (untold y)
  untold_is (why.Reaches xs) h = no_volume h.0.0.0
  untold_is (why.Missing link.Host) h = h
  untold_is (why.Missing link.Login) h = (h.0, λ k. h.1 (k.0, k.1, from_login k.0 k.1 k.2))
  untold_is (why.Missing link.Volume) h = no_volume h.0
  untold_is (why.Missing link.Mapped) h = no_volume h.0.0
  untold_is (why.Missing link.Served) h = no_volume h.0.0.0
  untold_is (why.Missing link.Exposed) h = no_volume h.0.0.0
  untold_is (why.Missing link.Met) h = no_volume h.0.0.0
  untold_is (why.Missing link.Joined) h = no_volume h.0.0.0

-- What the reads of a list show to a caller.
use Rattle.std.specs.Prelude.{ℕ, List, map}
use Rattle.std.specs.List.{AllZip}
use Rattle.std.specs.Ordering.{nat_cmp}
use Rattle.fab_reach_base.specs.fab_lemmas.Lists.{IsListOf}
use Rattle.fab_reach_base.specs.fab_names.Orders.{name_cmp}
use Rattle.fab_policy.specs.fab_policy_base.Policies.{PolicyRows}
use Rattle.fab_world.specs.Worlds.{WorldRows}
use Rattle.fab_desk_base.specs.Showing.{IsOpenTo, Shows}
use Rattle.fab_desk_base.specs.declared.command.Query.TheVariants as query
use Rattle.fab_desk_base.specs.declared.reply.Shown.{Shown}
use Rattle.fab_looks.specs.declared.listing.Kind.{Kind}
use Rattle.fab_looks.specs.Lists.{query_of}

-- just the names of the kind whose read is open to the caller, in order, and what each read shows
abbrev pub AreRows : {A : Type 0} → PolicyRows → WorldRows → ℕ → Kind → List (Shown A) → Type 0
AreRows p w id k rows = (names : List (List ℕ)) × IsListOf name_cmp (λ n. IsOpenTo p w id (query_of k n)) names × AllZip (Shows w) (map (query_of k) names) rows

-- just the ports whose read is open to the caller, in order, and what each read shows
abbrev pub ArePortRows : {A : Type 0} → PolicyRows → WorldRows → ℕ → List (Shown A) → Type 0
ArePortRows p w id rows = (ports : List ℕ) × IsListOf nat_cmp (λ a. IsOpenTo p w id (query.Port a)) ports × AllZip (Shows w) (map (λ (a : ℕ). query.Port a) ports) rows

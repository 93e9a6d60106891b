-- What the records refuse is refused with one fault.
use Rattle.std.proofs.Common.{ℕ, ◌≡◌, ◌<◌, ◌++◌, inl, inr, List, [], ◌∷◌, take, get_or, slice_get, Contains, Option, None, Some, refl, sym, ap, ◌∙◌, subst, arith}
use Rattle.std.specs.Cmp.{nat_cmp_total}
use Rattle.std.specs.Ordering.{nat_cmp}
use Rattle.std.specs.FinMap as map
use Rattle.std.specs.FinSet as set
use Rattle.std.proofs.lemmas.List.{get_or-take, length-take, take-take}
use Rattle.std.proofs.lemmas.Option.{same_Some, get_or_from_slice_get}
use Rattle.fab_reach_base.specs.fab_lemmas.Firsts.{IsFirstWith}
use Rattle.fab_reach_base.specs.fab_names.Orders.{name_cmp}
use Rattle.fab_reach_base.proofs.fab_names.OrderLaws.{name_total, name_exact}
use Rattle.fab_reach_base.specs.fab_inventory.Holders.{IsLeast, IsUnknownIn, IsHeldIn, IsHeldByOther, IsLeastVolume}
use Rattle.fab_reach_base.specs.fab_inventory.Imports.{IsClash}
use Rattle.fab_reach_base.specs.fab_inventory.Inventories.{InventoryRows}
use Rattle.fab_reach_base.specs.fab_inventory.declared.holder.HolderKind.{HolderKind}
use Rattle.fab_reach_base.specs.fab_inventory.declared.holder.HolderKind.TheVariants as kind
use Rattle.fab_reach_base.specs.fab_inventory.declared.port.PortRow.{PortRow}
use Rattle.fab_reach_base.proofs.fab_inventory.Steps.{in_take, at_index}
use Rattle.fab_reach_base.specs.fab_mapping_base.declared.gone.Gone.{Gone}
use Rattle.fab_reach_base.specs.fab_mapping_base.declared.gone.Gone.TheVariants as gone
use Rattle.fab_reach_base.specs.fab_mapping.Gone.{IsFirstGone}
use Rattle.fab_reach_base.specs.fab_mapping.Mappings.{MappingRows}
use Rattle.fab_world.specs.fab_store_rows.declared.record_row.PlanState.{PlanState}
use Rattle.fab_world.specs.fab_store_rows.declared.record_row.PlanState.TheVariants as state
use Rattle.fab_world.specs.fab_plans.Outcomes.{IsRefusedOutcome}
use Rattle.fab_world.specs.fab_plans.declared.fault.Item.TheVariants as item
use Rattle.fab_world.specs.fab_plans.declared.fault.Refusal.{Refusal}
use Rattle.fab_world.proofs.fab_plans.OneFirst.{compared, same_first}
use Rattle.fab_world.proofs.fab_plans.OnePlan.{one_refused_outcome}
use Rattle.fab_world.specs.PlanRecords.{PlanRecord}
use Rattle.fab_world.specs.Plans.{state_of}
use Rattle.fab_world.specs.Worlds.{WorldRows}
use Rattle.fab_desk_base.specs.Refusals.{Check, plan_state, own_name, records, others, free_ports, no_user, no_volume, not_author, last_in_force, nothing_gone, steps_done, room, few_paths, few_changes, place_of, FailsWith, IsInOtherState, IsOtherLast, IsGoneBefore, IsPlanRefused, Fails, IsFirstFault}
use Rattle.fab_desk_base.specs.Users.{IsHolderUser, IsVolumeUser, IsLeavingTarget, IsMoved}
use Rattle.fab_desk_base.specs.declared.command.Command.{Command}
use Rattle.fab_desk_base.specs.declared.command.Command.TheVariants.{Import, PutHolder, PutVolume, DropHolder, DropVolume, Stage, Withdraw, Approve, DryRun, Activate, Rollback, Show}
use Rattle.fab_desk_base.specs.declared.fault.DeskFault.{DeskFault}
use Rattle.fab_desk_base.specs.declared.fault.DeskFault.TheVariants as fault
use Rattle.fab_desk_base.proofs.OneEffect.{one_plan, one_before}

-- ---- one of each

one_least : (P : ℕ → Type 0) (m n : ℕ) → IsLeast P m → IsLeast P n → m ≡ n
one_least P m n h k = let below = h.1 n k.0 in let above = k.1 m h.0 in omega (arith, below, above)

one_name : (P : List ℕ → Type 0) (m n : List ℕ) → IsFirstWith name_cmp P m → IsFirstWith name_cmp P n → m ≡ n
one_name P m n h k = same_first name_total name_exact m n (h.1 n k.0) (k.1 m h.0)

one_number : (P : ℕ → Type 0) (m n : ℕ) → IsFirstWith nat_cmp P m → IsFirstWith nat_cmp P n → m ≡ n
one_number P m n h k = same_first nat_cmp_total set.nat_cmp-IsAntisymmetric m n (h.1 n k.0) (k.1 m h.0)

-- a clash stands behind no other
no_earlier : (rows : List PortRow) (p q : ℕ) (a : IsClash rows p) (b : IsClash rows q) → ¬ (a.at < b.at)
no_earlier rows p q a b lt =
    let size = length-take b.at rows in
    let cut = take-take a.at b.at rows (omega (arith, lt)) in
    let among = in_take (take b.at rows) a.at a.earlier (subst (λ xs. Contains xs a.earlier) (sym cut) a.among) in
    let here = at_index (take b.at rows) a.at a.row (omega (arith, size, lt, b.here)) (sym (get_or-take b.at rows a.at a.row lt ∙ get_or_from_slice_get rows a.at a.row a.row a.is)) in
    a.differs (b.before a.earlier a.row among here a.same)

one_clash : (rows : List PortRow) (p q : ℕ) → IsClash rows p → IsClash rows q → p ≡ q
one_clash rows p q a b = elim (compared a.at b.at) [
  | inl lt ↦ absurd (no_earlier rows p q a b lt)
  | inr o ↦ elim o [
    | inl e ↦ sym a.name ∙ ap (λ (r : PortRow). r.name) (same_Some a.row b.row (sym a.is ∙ ap (slice_get rows) e ∙ b.is)) ∙ b.name
    | inr gt ↦ absurd (no_earlier rows q p b a gt)
  ]
]

one_holder_user : (m : MappingRows) (k : HolderKind) (n g h : List ℕ) → IsHolderUser m k n g → IsHolderUser m k n h → g ≡ h
one_holder_user m kind.Host n g h a b = one_name _ g h a b
one_holder_user m kind.Array n g h a b = one_name _ g h a b

one_gone : (v : InventoryRows) (m : MappingRows) (g h : Gone) → IsFirstGone v m g → IsFirstGone v m h → g ≡ h
one_gone v m (gone.Host a) (gone.Host b) h k = ap gone.Host (one_name _ a b h k)
one_gone v m (gone.Host a) (gone.Array b) h k = absurd (k.0 a h.0)
one_gone v m (gone.Host a) (gone.Target b) h k = absurd (k.0 a h.0)
one_gone v m (gone.Host a) (gone.Volume b) h k = absurd (k.0 a h.0)
one_gone v m (gone.Array a) (gone.Host b) h k = absurd (h.0 b k.0)
one_gone v m (gone.Array a) (gone.Array b) h k = ap gone.Array (one_name _ a b h.1 k.1)
one_gone v m (gone.Array a) (gone.Target b) h k = absurd (k.1 a h.1.0)
one_gone v m (gone.Array a) (gone.Volume b) h k = absurd (k.1 a h.1.0)
one_gone v m (gone.Target a) (gone.Host b) h k = absurd (h.0 b k.0)
one_gone v m (gone.Target a) (gone.Array b) h k = absurd (h.1 b k.1.0)
one_gone v m (gone.Target a) (gone.Target b) h k = ap gone.Target (one_number _ a b h.2 k.2)
one_gone v m (gone.Target a) (gone.Volume b) h k = absurd (k.2 a h.2.0)
one_gone v m (gone.Volume a) (gone.Host b) h k = absurd (h.0 b k.0)
one_gone v m (gone.Volume a) (gone.Array b) h k = absurd (h.1 b k.1.0)
one_gone v m (gone.Volume a) (gone.Target b) h k = absurd (h.2 b k.2.0)
one_gone v m (gone.Volume a) (gone.Volume b) h k = ap gone.Volume (one_name _ a b h.3 k.3)

-- the last of a list
last_of : {X : Type 0} → List X → Option X
last_of [] = None
last_of (x ∷ []) = Some x
last_of (x ∷ y ∷ ys) = last_of (y ∷ ys)

last_behind : {X : Type 0} (xs : List X) (x : X) → last_of (xs ++ x ∷ []) ≡ Some x
unfolding last_of
last_behind [] x = refl
last_behind (y ∷ []) x = refl
last_behind (y ∷ z ∷ zs) x = last_behind (z ∷ zs) x

-- ---- by a check
-- the check gives one fault
abbrev One : (DeskFault → Type 0) → Type 0
One F = (f g : DeskFault) → F f → F g → f ≡ g

none : One (λ r. ⊥)
none f g h k = absurd h

fixed : {q : DeskFault} {P : Type 0} → One (FailsWith q P)
fixed f g h k = h.0 ∙ sym k.0

told : {X : Type 0} (q : X → DeskFault) (P : X → Type 0) → ((x y : X) → P x → P y → x ≡ y) → One (λ r. (x : X) × FailsWith (q x) (P x) r)
told q P same f g (x, h) (y, k) = h.0 ∙ ap q (same x y h.1 k.1) ∙ sym k.0

told_two : {X Y : Type 0} (q : X → Y → DeskFault) (P : X → Y → Type 0) → ((x y : X) (a b : Y) → P x a → P y b → x ≡ y) → ((x : X) (a b : Y) → P x a → P x b → a ≡ b)
    → One (λ r. (x : X) × (a : Y) × FailsWith (q x a) (P x a) r)
told_two q P same also f g (x, a, h) (y, b, k) =
    let e = same x y a b h.1 k.1 in
    let d = also x a b h.1 (subst (λ z. P z b) (sym e) k.1) in
    h.0 ∙ (λ i. q (e i) (d i)) ∙ sym k.0

-- what each check has
by_checks : (P : Check → Type 0) → P plan_state → P own_name → P records → P others → P free_ports → P no_user → P no_volume → P not_author → P last_in_force
    → P nothing_gone → P steps_done → P room → P few_paths → P few_changes → (k : Check) → P k
by_checks P a b c d e f g h i j k l m n plan_state = a
by_checks P a b c d e f g h i j k l m n own_name = b
by_checks P a b c d e f g h i j k l m n records = c
by_checks P a b c d e f g h i j k l m n others = d
by_checks P a b c d e f g h i j k l m n free_ports = e
by_checks P a b c d e f g h i j k l m n no_user = f
by_checks P a b c d e f g h i j k l m n no_volume = g
by_checks P a b c d e f g h i j k l m n not_author = h
by_checks P a b c d e f g h i j k l m n last_in_force = i
by_checks P a b c d e f g h i j k l m n nothing_gone = j
by_checks P a b c d e f g h i j k l m n steps_done = k
by_checks P a b c d e f g h i j k l m n room = l
by_checks P a b c d e f g h i j k l m n few_paths = m
by_checks P a b c d e f g h i j k l m n few_changes = n

-- the check of a place
check_at : ℕ → Check
check_at n = get_or (plan_state ∷ own_name ∷ records ∷ others ∷ free_ports ∷ no_user ∷ no_volume ∷ not_author ∷ last_in_force ∷ nothing_gone ∷ steps_done ∷ room ∷ few_paths ∷ few_changes ∷ []) n plan_state

check_again : (k : Check) → check_at (place_of k) ≡ k
unfolding check_at
check_again = by_checks (λ k. check_at (place_of k) ≡ k) refl refl refl refl refl refl refl refl refl refl refl refl refl refl

module _ (w : WorldRows) where
  one_state : (n : List ℕ) (wanted s t : PlanState) → IsInOtherState w n wanted s → IsInOtherState w n wanted t → s ≡ t
  one_state n wanted s t (p, there, is, apart) (q, also, are, apart2) = is ∙ ap (λ (x : PlanRecord). state_of x.standing) (one_plan w n p q there also) ∙ sym are

  one_last : (n a b : List ℕ) → IsOtherLast w n a → IsOtherLast w n b → a ≡ b
  one_last n a b h k = same_Some a b (sym (last_behind h.0.0 a) ∙ ap last_of (sym h.0.1 ∙ k.0.1) ∙ last_behind k.0.0 b)

  one_gone_before : (n : List ℕ) (g h : Gone) → IsGoneBefore w n g → IsGoneBefore w n h → g ≡ h
  one_gone_before n g h (p, b, before, is) (q, c, too, are) =
      one_gone w.inventory c.mapping g h (subst (λ x. IsFirstGone w.inventory x.mapping g) (one_before w n p q b c before too) is) are

  one_plan_refusal : (n : List ℕ) (i j : ℕ) (r q : Refusal) → IsPlanRefused w n i r → IsPlanRefused w n j q → (i ≡ j) × (r ≡ q)
  one_plan_refusal n i j r q (p, there, is) (o, also, are) =
      one_refused_outcome w.inventory o.steps w.config i j r q (subst (λ (x : PlanRecord). IsRefusedOutcome w.inventory x.steps w.config i r) (one_plan w n p o there also) is) are

  one_leaving : (n : List ℕ) (listed : List ℕ) (p q : ℕ) (g h : List ℕ) → IsLeavingTarget w.inventory w.config.mapping n listed (p, g) → IsLeavingTarget w.inventory w.config.mapping n listed (q, h) → p ≡ q
  one_leaving n listed p q g h a b = one_least _ p q a.0 b.0

  module _ {A : Type 0} (caller : List ℕ) where
    -- the check of the command gives one fault
    abbrev Gives : Command A → Check → Type 0
    Gives c k = One (Fails w caller c k)

    one_of : (c : Command A) (k : Check) → Gives c k
    one_of (Import f rows) = by_checks (Gives (Import f rows))
        none none (told fault.PortClash (IsClash rows.items) (one_clash rows.items)) none none none none none none none none fixed fixed fixed
    one_of (PutHolder kind.Host n t ports) = by_checks (Gives (PutHolder kind.Host n t ports))
        none fixed none (told (λ q. fault.Unknown (item.Port q)) _ (one_least (IsUnknownIn (map.get w.inventory.ports) ports.items)))
        (told_two (λ q h. fault.InUse (item.Port q) h) (λ q h. IsLeast (IsHeldIn (map.get w.inventory.ports) n ports.items) q × IsHeldByOther (map.get w.inventory.ports) n q h)
        (λ p q g h a b. one_least _ p q a.0 b.0) (λ q g h a b. same_Some g h (sym a.1.0 ∙ b.1.0)))
        none none none none none none fixed fixed fixed
    one_of (PutHolder kind.Array n t ports) = by_checks (Gives (PutHolder kind.Array n t ports))
        none fixed none (told (λ q. fault.Unknown (item.Port q)) _ (one_least (IsUnknownIn (map.get w.inventory.ports) ports.items)))
        (told_two (λ q h. fault.InUse (item.Port q) h) (λ q h. IsLeast (IsHeldIn (map.get w.inventory.ports) n ports.items) q × IsHeldByOther (map.get w.inventory.ports) n q h)
        (λ p q g h a b. one_least _ p q a.0 b.0) (λ q g h a b. same_Some g h (sym a.1.0 ∙ b.1.0)))
        (told_two (λ q g. fault.InUse (item.Port q) g) (λ q g. IsLeavingTarget w.inventory w.config.mapping n ports.items (q, g))
        (one_leaving n ports.items) (λ q g h a b. one_name _ g h a.1 b.1))
        none none none none none fixed fixed fixed
    one_of (PutVolume n x) = by_checks (Gives (PutVolume n x))
        none none none fixed none (told (λ g. fault.InUse (item.Name n) g) (λ g. IsMoved w.inventory n x.array × IsVolumeUser w.config.mapping n g) (λ g h a b. one_name _ g h a.1 b.1))
        none none none none none fixed fixed fixed
    one_of (DropHolder k n) = by_checks (Gives (DropHolder k n))
        none none none none none (told (λ g. fault.InUse (item.Name n) g) (IsHolderUser w.config.mapping k n) (one_holder_user w.config.mapping k n))
        (told (λ x. fault.InUse (item.Name n) x) (IsLeastVolume (map.get w.inventory.volumes) n) (λ x y a b. one_name _ x y a b))
        none none none none none fixed fixed
    one_of (DropVolume n) = by_checks (Gives (DropVolume n))
        none none none none none (told (λ g. fault.InUse (item.Name n) g) (IsVolumeUser w.config.mapping n) (λ g h a b. one_name _ g h a b))
        none none none none none none fixed fixed
    one_of (Stage n steps) = by_checks (Gives (Stage n steps)) none fixed none none none none none none none none none fixed fixed fixed
    one_of (Withdraw n) = by_checks (Gives (Withdraw n))
        (told fault.WrongState (IsInOtherState w n state.Staged) (one_state n state.Staged)) none none none none none none none none none none none fixed fixed
    one_of (Approve n) = by_checks (Gives (Approve n))
        (told fault.WrongState (IsInOtherState w n state.Staged) (one_state n state.Staged)) none none none none none none fixed none none none none fixed fixed
    one_of (DryRun n) = by_checks (Gives (DryRun n)) none none none none none none none none none none none none fixed fixed
    one_of (Activate n) = by_checks (Gives (Activate n))
        (told fault.WrongState (IsInOtherState w n state.Staged) (one_state n state.Staged)) none none none none none none none none none
        (told_two fault.Plan (IsPlanRefused w n) (λ i j r q a b. (one_plan_refusal n i j r q a b).0) (λ i r q a b. (one_plan_refusal n i i r q a b).1))
        none fixed fixed
    one_of (Rollback n) = by_checks (Gives (Rollback n))
        (told fault.WrongState (IsInOtherState w n state.Active) (one_state n state.Active)) none none none none none none none
        (told fault.NotLast (IsOtherLast w n) (one_last n)) (told fault.Gone (IsGoneBefore w n) (one_gone_before n)) none none fixed fixed
    one_of (Show x) = by_checks (Gives (Show x)) none none none none none none none none none none none none fixed fixed

    pub one_fault : (c : Command A) (f g : DeskFault) → IsFirstFault w caller c f → IsFirstFault w caller c g → f ≡ g
    one_fault c f g a b = elim (compared (place_of a.check) (place_of b.check)) [
      | inl lt ↦ absurd (b.before a.check f lt a.here)
      | inr o ↦ elim o [
        | inl e ↦ one_of c b.check f g (subst (λ k. Fails w caller c k f) (sym (check_again a.check) ∙ ap check_at e ∙ check_again b.check) a.here) b.here
        | inr gt ↦ absurd (a.before b.check g gt b.here)
      ]
    ]

-- Differences of configurations, as rows that go and rows that come.
use Rattle.std.proofs.Common.{◌≡◌, inl, inr, List, subst}
use Rattle.fab_reach_base.specs.Records.{ConfigRows}
use Rattle.fab_store_rows.specs.declared.config_row.ConfigRow.{ConfigRow}
use Rattle.fab_store_rows.specs.Differences.{IsDifference}
use Rattle.fab_store_rows.specs.Standing.{Stands}
use Rattle.fab_store_rows.specs.Telling.{HaveSameRows}
use Rattle.fab_store_rows.proofs.RowLists.{stands_decided}
use Rattle.fab_store_edits.specs.Led.{IsLed}
use Rattle.fab_store_rows.specs.Tidy.{IsTidy}
use Rattle.fab_store_rows.proofs.Determined.{one_tidy}

-- from the configuration after back to the one before: what was added goes, what was taken comes
pub led_back : (d c : ConfigRows) (taken added : List ConfigRow) → IsDifference d c taken added → IsLed c d added taken
led_back d c taken added x = record {
  kept = λ r h. elim (stands_decided c r) [ inl s ↦ inl s | inr n ↦ inr (x.takes.complete r (record { there = h; not_there = n })) ];
  came = λ r h. (x.takes.sound r h).there;
  left = λ r h. elim (stands_decided d r) [ inl s ↦ inl s | inr n ↦ inr (x.adds.complete r (record { there = h; not_there = n })) ];
  gone = λ r h. (x.adds.sound r h).not_there;
}

-- the signs turned
pub turned : (a b : ConfigRows) (taken added : List ConfigRow) → IsDifference a b taken added → IsDifference b a added taken
turned a b taken added x = record { takes = x.adds; adds = x.takes }

-- what differs from a configuration differs so from each that has its rows
pub difference_of_rows : (a b c : ConfigRows) (taken added : List ConfigRow) → HaveSameRows b a → IsDifference a c taken added → IsDifference b c taken added
difference_of_rows a b c taken added same x = record {
  takes = record {
    sorted = x.takes.sorted;
    sound = λ r h. let s = x.takes.sound r h in record { there = (same r).1 s.there; not_there = s.not_there };
    complete = λ r p. x.takes.complete r (record { there = (same r).0 p.there; not_there = p.not_there });
  };
  adds = record {
    sorted = x.adds.sorted;
    sound = λ r h. let s = x.adds.sound r h in record { there = s.there; not_there = λ k. s.not_there ((same r).0 k) };
    complete = λ r p. x.adds.complete r (record { there = p.there; not_there = λ k. p.not_there ((same r).1 k) });
  };
}

-- ---- two that are led to from one

module _ (c : ConfigRows) (go come : List ConfigRow) where
  row_of_other : (a b : ConfigRows) → IsLed c a go come → IsLed c b go come → (r : ConfigRow) → Stands a r → Stands b r
  row_of_other a b led_a led_b r h = elim (led_a.kept r h) [
    | inl s ↦ elim (led_b.left r s) [ inl k ↦ k | inr gone ↦ absurd (led_a.gone r gone h) ]
    | inr came ↦ led_b.came r came
  ]

  pub same_rows : (a b : ConfigRows) → IsLed c a go come → IsLed c b go come → HaveSameRows a b
  same_rows a b led_a led_b r = (row_of_other a b led_a led_b r, row_of_other b a led_b led_a r)

-- two tidy ones from which the same change leads to one are one
pub one_led : (c a b : ConfigRows) (taken added : List ConfigRow) → IsTidy a → IsTidy b → IsDifference a c taken added → IsDifference b c taken added → a ≡ b
one_led c a b taken added tidy_a tidy_b x y = one_tidy a b tidy_a tidy_b (same_rows c added taken a b (led_back a c taken added x) (led_back b c taken added y))

-- the same difference of equal configurations, by equal lists
pub same_difference : (b c d : ConfigRows) (taken added others more : List ConfigRow) → c ≡ d → taken ≡ others → added ≡ more → IsDifference b c taken added → IsDifference b d others more
same_difference b c d taken added others more now taken_is added_is x =
    subst (λ (e : ConfigRows). IsDifference b e others more) now
    (subst (λ (xs : List ConfigRow). IsDifference b c xs more) taken_is (subst (λ (ys : List ConfigRow). IsDifference b c taken ys) added_is x))

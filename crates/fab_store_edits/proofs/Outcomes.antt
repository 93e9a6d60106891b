-- Rows lead to the one configuration that they tell, or there is none.
use Rattle.std.proofs.Common.{◌≡◌, ◌⊎◌, inl, inr, List, Contains, Bool, true, false, refl, sym, ◌∙◌, subst}
use mathlib.Core.Bool.{true≢false}
use Rattle.fab_reach_base.specs.Records.{ConfigRows}
use Rattle.fab_store_rows.specs.Differences.{IsDifference}
use Rattle.fab_store_rows.specs.declared.config_row.GroupRow.{GroupRow}
use Rattle.fab_store_rows.specs.declared.config_row.ConfigRow.{ConfigRow}
use Rattle.fab_store_rows.specs.declared.config_row.ConfigRow.TheVariants as config
use Rattle.fab_store_rows.specs.Standing.{Stands}
use Rattle.fab_store_edits.specs.Led.{IsLed}
use Rattle.fab_store_edits.specs.Inner.Edits.{is_sole, is_head, AreTaken, ArePut, Of, StopsAt, HoldsOne}
use Rattle.fab_store_edits.specs.Inner.Leads.{CanLead}
use Rattle.fab_store_edits.proofs.Differing.{led_back}

bool_or : (b : Bool) → (b ≡ true) ⊎ (b ≡ false)
bool_or true = inl refl
bool_or false = inr refl

-- where there is a configuration, nothing stands in the way
pub can_of : (c b : ConfigRows) (go come : List ConfigRow) → IsDifference b c come go → CanLead c go come
can_of c b go come x = record {
  go_in_order = x.adds.sorted;
  come_in_order = x.takes.sorted;
  stand = λ r h. (x.adds.sound r h).there;
  fresh = λ r h. (x.takes.sound r h).not_there;
}

module _ (c : ConfigRows) (go come : List ConfigRow) (can : CanLead c go come) (Goes : ConfigRow → Type 0) (only : (r : ConfigRow) → Goes r → Contains go r) (every : (r : ConfigRow) → Contains go r → Goes r) where
  not_both : (r : ConfigRow) → Contains come r → ¬ Contains go r
  not_both r k g = can.fresh r k (can.stand r g)

  pub stay : (r : ConfigRow) → Contains come r → ¬ Goes r
  stay r k g = not_both r k (only r g)

  module _ (d1 d2 d3 d4 : ConfigRows) (t : AreTaken (Of is_sole false go) c d1) (h : ArePut Goes (Of is_head true come) d1 d2) (p : ArePut Goes (Of is_head false come) d2 d3) (z : AreTaken (Of is_sole true go) d3 d4) where
    all_there : (r : ConfigRow) → Contains come r → Stands d3 r
    all_there r k = elim (bool_or (is_head r)) [
      | inr e ↦ p.there r (k, e)
      | inl e ↦ elim (p.left r (h.there r (k, e))) [ inl s ↦ s | inr g ↦ absurd (stay r k g) ]
    ]

    came_from : (r : ConfigRow) → Stands d3 r → Stands d1 r ⊎ Contains come r
    came_from r s = elim (p.kept r s) [ inr k ↦ inr k.0 | inl m ↦ elim (h.kept r m) [ inr k ↦ inr k.0 | inl m ↦ inl m ] ]

    pub leads : IsDifference d4 c come go
    leads = record {
      takes = record {
        sorted = can.come_in_order;
        sound = λ r k. record { there = elim (z.left r (all_there r k)) [ inl s ↦ s | inr g ↦ absurd (not_both r k g.0) ]; not_there = can.fresh r k };
        complete = λ r o. elim (came_from r (z.kept r o.there)) [ inl s ↦ absurd (o.not_there (t.kept r s)) | inr k ↦ k ];
      };
      adds = record {
        sorted = can.go_in_order;
        sound = λ r g. record { there = can.stand r g; not_there = gone r g (bool_or (is_sole r)) };
        complete = λ r o. elim (t.left r o.there) [
          | inr g ↦ g.0
          | inl s ↦ elim (h.left r s) [
            | inr g ↦ only r g
            | inl s ↦ elim (p.left r s) [ inr g ↦ only r g | inl s ↦ elim (z.left r s) [ inr g ↦ g.0 | inl s ↦ absurd (o.not_there s) ] ]
          ]
        ];
      };
    }
      where
        gone : (r : ConfigRow) → Contains go r → (is_sole r ≡ true) ⊎ (is_sole r ≡ false) → ¬ Stands d4 r
        gone r g (inl e) s = z.gone r (g, e) s
        gone r g (inr e) s = elim (came_from r (z.kept r s)) [ inl m ↦ t.gone r (g, e) m | inr k ↦ not_both r k g ]

  -- ---- where it stops, no configuration has the wanted rows
  module _ (b : ConfigRows) (x : IsDifference b c come go) (d1 : ConfigRows) (t : AreTaken (Of is_sole false go) c d1) where
    led : IsLed c b go come
    led = led_back b c come go x

    -- what is left when the parts are gone is there, if it is no sole row that goes
    not_here : (r : ConfigRow) → Stands d1 r → ((Goes r → is_sole r ≡ false) → Stands b r)
    not_here r s part = elim (led.left r (t.kept r s)) [ inl s ↦ s | inr g ↦ absurd (t.gone r (g, part (every r g)) s) ]

    pub no_head : StopsAt Goes true come d1 → ⊥
    no_head s = elim s.refused [
      | inl r ↦ r.apart b (elim (s.kept r.rival r.stands) [ inl m ↦ not_here r.rival m r.stays | inr k ↦ led.came r.rival k.0 ]) (led.came s.row s.is.0)
      | inr o ↦ true≢false (sym s.is.1 ∙ o.part)
    ]

    module _ (d2 : ConfigRows) (h : ArePut Goes (Of is_head true come) d1 d2) where
      two_there : (r : ConfigRow) → Stands d2 r → (Goes r → is_sole r ≡ false) → Stands b r
      two_there r s part = elim (h.kept r s) [ inl m ↦ not_here r m part | inr k ↦ led.came r k.0 ]

      pub no_part : StopsAt Goes false come d2 → ⊥
      no_part s = elim s.refused [
        | inl r ↦ r.apart b (elim (s.kept r.rival r.stands) [ inl m ↦ two_there r.rival m r.stays | inr k ↦ led.came r.rival k.0 ]) (led.came s.row s.is.0)
        | inr o ↦ headless (o.head b (led.came s.row s.is.0))
      ]
        where
          headless : (q : GroupRow) × Stands b (config.Group q) × ¬ Stands s.config (config.Group q) → ⊥
          headless w = elim (led.kept (config.Group w.0) w.1) [
            | inr k ↦ elim (s.left (config.Group w.0) (h.there (config.Group w.0) (k, refl))) [ inl m ↦ w.2 m | inr g ↦ stay (config.Group w.0) k g ]
            | inl o ↦ elim (t.left (config.Group w.0) o) [
              | inr g ↦ true≢false g.1
              | inl m ↦ elim (h.left (config.Group w.0) m) [
                | inr g ↦ led.gone (config.Group w.0) (only (config.Group w.0) g) w.1
                | inl m ↦ elim (s.left (config.Group w.0) m) [ inl m ↦ w.2 m | inr g ↦ led.gone (config.Group w.0) (only (config.Group w.0) g) w.1 ]
              ]
            ]
          ]

      module _ (d3 : ConfigRows) (p : ArePut Goes (Of is_head false come) d2 d3) where
        three_there : (r : ConfigRow) → Stands d3 r → (Goes r → is_sole r ≡ false) → Stands b r
        three_there r s part = elim (p.kept r s) [ inl m ↦ two_there r m part | inr k ↦ led.came r k.0 ]

        come_there : (r : ConfigRow) → Contains come r → Stands d3 r
        come_there r k = elim (bool_or (is_head r)) [
          | inr e ↦ p.there r (k, e)
          | inl e ↦ elim (p.left r (h.there r (k, e))) [ inl s ↦ s | inr g ↦ absurd (stay r k g) ]
        ]

        pub no_drop : HoldsOne go d3 → ⊥
        no_drop s = s.held b (λ r m part. three_there r (s.kept r m) (λ g. part)) (λ q there is. elim is [
          | inl e ↦ led.gone s.row s.is.0 (subst (Stands b) e there)
          | inr apart ↦ elim (led.kept q there) [
            | inl o ↦ apart c o (can.stand s.row s.is.0)
            | inr k ↦ elim (s.left q (come_there q k)) [ inl m ↦ apart s.config m s.stands | inr g ↦ not_both q k g ]
          ]
        ])

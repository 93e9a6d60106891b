-- The order of the links: each is there only where those before it are.
use Rattle.std.proofs.Common.{◌≡◌, ◌+◌, ◌<◌, ◌≤◌, ◌-◌, ℕ, zero, suc, List, inl, inr, refl, sym, ap, ◌∙◌, subst, arith}
use Rattle.std.proofs.lemmas.Bool.{cases_order}
use Rattle.fab_reach_base.specs.Records.{Records}
use Rattle.fab_looks.specs.declared.link.Link.{Link}
use Rattle.fab_looks.specs.declared.link.Link.TheVariants as link
use Rattle.fab_looks.specs.Links.{Holds, HoldsBefore, IsMissing}

-- the place of a link, from 0
abbrev place_of : Link → ℕ
place_of link.Host = 0
place_of link.Login = 1
place_of link.Volume = 2
place_of link.Mapped = 3
place_of link.Served = 4
place_of link.Exposed = 5
place_of link.Met = 6
place_of link.Joined = 7

-- the link at a place
abbrev link_at : ℕ → Link
link_at zero = link.Host
link_at (suc zero) = link.Login
link_at (suc (suc zero)) = link.Volume
link_at (suc (suc (suc zero))) = link.Mapped
link_at (suc (suc (suc (suc zero)))) = link.Served
link_at (suc (suc (suc (suc (suc zero))))) = link.Exposed
link_at (suc (suc (suc (suc (suc (suc zero)))))) = link.Met
link_at (suc (suc (suc (suc (suc (suc (suc n))))))) = link.Joined

placed : (l : Link) → link_at (place_of l) ≡ l
placed link.Host = refl
placed link.Login = refl
placed link.Volume = refl
placed link.Mapped = refl
placed link.Served = refl
placed link.Exposed = refl
placed link.Met = refl
placed link.Joined = refl

small : (l : Link) → place_of l ≤ 7
small link.Host = omega arith
small link.Login = omega arith
small link.Volume = omega arith
small link.Mapped = omega arith
small link.Served = omega arith
small link.Exposed = omega arith
small link.Met = omega arith
small link.Joined = omega arith

module _ (w : Records) (host volume : List ℕ) where
  -- all links below the place are there
  abbrev UpTo : ℕ → Type 0
  UpTo zero = Unit {0}
  UpTo (suc n) = Holds w host volume (link_at n)

  step : (n : ℕ) → Holds w host volume (link_at (suc n)) → Holds w host volume (link_at n)
  step zero h = h.2.from.kind
  step (suc zero) h = h.0
  step (suc (suc zero)) h = h.0
  step (suc (suc (suc zero))) h = (h.0, (h.1.0, h.1.1.0))
  step (suc (suc (suc (suc zero)))) h = (h.0, (h.1.0, h.1.1.0))
  step (suc (suc (suc (suc (suc zero))))) h = (h.0, (h.1.0, h.1.4.group))
  step (suc (suc (suc (suc (suc (suc zero)))))) h = (h.0, (h.1.0, h.1.1, h.1.2, h.1.3, h.1.4.met))
  step (suc (suc (suc (suc (suc (suc (suc n))))))) h = h

  down : (n : ℕ) → UpTo (suc n) → UpTo n
  down zero h = tt
  down (suc n) h = step n h

  down_by : (d n m : ℕ) → m ≡ n + d → UpTo m → UpTo n
  down_by zero n m e h = let f : m ≡ n = omega arith in subst UpTo f h
  down_by (suc d) n m e h = let f : m ≡ suc (n + d) = omega arith in down_by d n (n + d) refl (down (n + d) (subst UpTo f h))

  below : (n m : ℕ) → n ≤ m → UpTo m → UpTo n
  below n m e h = down_by (m - n) n m (omega arith) h

  before : (l : Link) → HoldsBefore w host volume l → UpTo (place_of l)
  before link.Host h = tt
  before link.Login h = h
  before link.Volume h = h
  before link.Mapped h = h
  before link.Served h = h
  before link.Exposed h = h
  before link.Met h = h
  before link.Joined h = h

  there : (l : Link) → UpTo (suc (place_of l)) → Holds w host volume l
  there l h = subst (Holds w host volume) (placed l) h

  -- no link is missing before one that is there
  apart : (k l : Link) → place_of k < place_of l → ¬ Holds w host volume k → ¬ HoldsBefore w host volume l
  apart k l less none h = none (there k (below (suc (place_of k)) (place_of l) (omega arith) (before l h)))

  pub one_link : (k l : Link) → IsMissing w host volume k → IsMissing w host volume l → k ≡ l
  one_link k l a b = elim (cases_order (place_of k) (place_of l)) [
    | inl same ↦ sym (placed k) ∙ ap link_at same ∙ placed l
    | inr (inl less) ↦ absurd (apart k l less a.1 b.0)
    | inr (inr less) ↦ absurd (apart l k less b.1 a.0)
  ]

  pub not_all : (l : Link) → IsMissing w host volume l → ¬ Holds w host volume link.Joined
  not_all l a h = let few : place_of l ≤ 7 = small l in a.1 (there l (below (suc (place_of l)) 8 (omega arith) h))

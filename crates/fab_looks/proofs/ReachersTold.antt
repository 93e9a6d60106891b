-- Hosts that are told to reach a volume, host by host.
use Rattle.std.proofs.Common.{◌≡◌, ℕ, List, [], ◌∷◌, ◌++◌, Contains, Bool, true, false, cond, Option, None, Some, ◌⊎◌, inl, inr, refl, sym, ap, ◌∙◌, subst, arith}
use Rattle.std.specs.Ordering.{is_eq}
use Rattle.std.specs.Cmp.{Equal-is, tied_itself}
use Rattle.std.specs.Map.{lookup}
use Rattle.std.specs.BTreeMap.{BTreeMap, IsOrdered, get, is_at}
use Rattle.std.specs.BTreeSet.{BTreeSet}
use Rattle.std.specs.List.Sorted.{IsStrictlySortedBy}
use Rattle.std.proofs.lemmas.List.Elements.{Contains-push_cases}
use Rattle.fab_names.specs.Orders.{name_cmp}
use Rattle.fab_names.proofs.OrderLaws.{name_total, name_exact}
use Rattle.fab_mapping_base.specs.Groups.{StorageGroupRows}
use Rattle.fab_reach_base.specs.Records.{Records}
use Rattle.fab_reach_base.specs.Gathering.{Index}
use Rattle.fab_reach_base.specs.Orders.{IsListOf}
use Rattle.fab_reach_base.specs.declared.path.Path.{Path}
use Rattle.fab_looks.specs.Links.{PathTo, IsReached, IsExposedBy}
use Rattle.fab_looks.specs.Inner.Gaining.{AddsReachers, AddsHost, AddsHosts}
use Rattle.fab_looks.specs.Inner.Serving.{IsIndexTo, PortIndex, AreLoginsOf}
use Rattle.fab_looks.specs.Reachers.{IsReacher, AreReachers}
use Rattle.fab_looks.specs.declared.reaching.Counts.{Counts}
use Rattle.fab_looks.proofs.Services.{reacher_listed}
use Rattle.fab_looks.proofs.Ways.{from_path}

-- the host is among the entries
abbrev pub IsAmong : List (List ℕ × BTreeSet ℕ) → List ℕ → Type 0
IsAmong es host = (names : BTreeSet ℕ) × Contains es (host, names)

module _ (w : Records) (volume : List ℕ) where
  pub no_path : (host : List ℕ) (m : BTreeMap (List ℕ) Counts) (xs : List Path) → xs ≡ [] → IsListOf (PathTo w host volume) xs → AddsHost w volume host m m
  no_path host m xs none l = record {
    sound = λ h n at. inl at;
    kept = λ h n at. (n, at);
    there = λ h is r. let c = subst (λ ys. Contains ys r.0) none (l.complete r.0 (subst (λ y. PathTo w y volume r.0) is r.1)) in let e : ⊥ = omega (arith, c.1) in absurd e;
  }

  same_name : (a b : List ℕ) → is_at (name_cmp a) b ≡ true → a ≡ b
  same_name a b h = name_exact a b ((Equal-is (name_cmp a b)).0 h)

  pub host_added : (host : List ℕ) (m t : BTreeMap (List ℕ) Counts) (n : Counts) → IsReacher w volume host n → ((q : List ℕ) → get name_cmp t q ≡ cond (is_at (name_cmp host) q) (Some n) (get name_cmp m q)) → AddsHost w volume host m t
  host_added host m t n told updates = record {
    sound = λ h o at. came h o (is_at (name_cmp host) h) refl (sym (updates h) ∙ at);
    kept = λ h o at. let s = stays h o (is_at (name_cmp host) h) at in (s.0, updates h ∙ s.1);
    there = λ h is r. (n, updates h ∙ ap (λ b. cond b (Some n) (get name_cmp m h)) (ap (is_at (name_cmp host)) is ∙ ap is_eq (tied_itself name_total host)));
  }
    where
      came : (h : List ℕ) (o : Counts) (b : Bool) → is_at (name_cmp host) h ≡ b → cond b (Some n) (get name_cmp m h) ≡ Some o → (get name_cmp m h ≡ Some o) ⊎ IsReacher w volume h o
      came h o true is e = let same : n ≡ o = cc in inr (subst (IsReacher w volume h) same (subst (λ y. IsReacher w volume y n) (same_name host h is) told))
      came h o false is e = inl e

      stays : (h : List ℕ) (o : Counts) (b : Bool) → get name_cmp m h ≡ Some o → (p : Counts) × (cond b (Some n) (get name_cmp m h) ≡ Some p)
      stays h o true at = (n, refl)
      stays h o false at = (o, at)

  -- the count of a list of paths that is not empty
  pub reacher : (host : List ℕ) (xs : List Path) (n : Counts) → ¬ (xs ≡ []) → IsListOf (PathTo w host volume) xs → IsReached w host volume
  reacher host [] n some l = absurd (some refl)
  reacher host (x ∷ xs) n some l = (x, l.sound x (0, omega arith, refl))

  -- ---- over all whose ports are listed

  pub among_none : (m : BTreeMap (List ℕ) Counts) → AddsReachers (IsAmong []) w volume m m
  among_none m = record {
    sound = λ h n at. inl at;
    kept = λ h n at. (n, at);
    there = λ h is r. let e : ⊥ = omega (arith, is.1.1) in absurd e;
  }

  pub among_more : (before : List (List ℕ × BTreeSet ℕ)) (e : List ℕ × BTreeSet ℕ) (s m t : BTreeMap (List ℕ) Counts) → AddsReachers (IsAmong before) w volume s m → AddsHost w volume e.0 m t → AddsReachers (IsAmong (before ++ e ∷ [])) w volume s t
  among_more before e s m t a b = record {
    sound = λ h n at. elim (b.sound h n at) [ inl o ↦ a.sound h n o | inr r ↦ inr r ];
    kept = λ h n at. let k = a.kept h n at in b.kept h k.0 k.1;
    there = λ h is r. elim (Contains-push_cases before e (h, is.0) is.1) [
      | inl o ↦ let k = a.there h (is.0, o) r in b.kept h k.0 k.1
      | inr same ↦ b.there h (sym (ap (λ (y : List ℕ × BTreeSet ℕ). y.0) same)) r
    ];
  }

  pub all_hosts : (served : Index) (logins : PortIndex) (es : List (List ℕ × BTreeSet ℕ)) (s t : BTreeMap (List ℕ) Counts) → IsIndexTo w.config.mapping volume served → AreLoginsOf w served logins → IsOrdered name_cmp logins → es ≡ logins.entries
      → AddsReachers (IsAmong es) w volume s t → AddsHosts w volume s t
  all_hosts served logins es s t index are sorted is a = record {
    sound = a.sound;
    kept = a.kept;
    there = λ h _ r. let k = reacher_listed w volume served index logins h are sorted r in a.there h (k.0, subst (λ ys. Contains ys (h, k.0)) (sym is) k.1) r;
  }

  pub from_empty : (s t : BTreeMap (List ℕ) Counts) → s.entries ≡ [] → AddsHosts w volume s t → AreReachers w volume t
  from_empty s t none a = record {
    sound = λ h n at. elim (a.sound h n at) [ inl o ↦ (let f : ◌≡◌ {A = Option Counts} None (Some n) = sym (ap (lookup (is_at (name_cmp h))) none) ∙ o in absurd cc) | inr r ↦ r ];
    complete = λ h r. a.there h tt r;
  }

-- a host that no exposed storage group with the volume serves
pub none_listed : (w : Records) (host volume : List ℕ) (xs : List Path) → ((g : StorageGroupRows) → ¬ IsExposedBy w.config.mapping host volume g) → xs ≡ [] → IsListOf (PathTo w host volume) xs
unfolding IsStrictlySortedBy
none_listed w host volume xs none is = subst (IsListOf (PathTo w host volume)) (sym is) (record {
  sorted = tt;
  sound = λ x c. let e : ⊥ = omega (arith, c.1) in absurd e;
  complete = λ x p. let o = (from_path w host volume x p).0 in absurd (none o.group o.met.group);
})

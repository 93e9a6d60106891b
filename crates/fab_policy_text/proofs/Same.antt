-- What two rows that one table means have in common.
use Rattle.std.proofs.Common.{◌≡◌, ℕ, List, [], ◌∷◌, map, Option, Some, None, sym, subst, ap, ◌∙◌, refl}
use Rattle.std.specs.Prelude.{IsSomeAnd, MatchOption}
use Rattle.std.proofs.lemmas.Option.{same_Some}
use Rattle.toml.specs.Data.{Data, Items, no_items, item, Members, get_member, as_table}
use Rattle.fab_policy_text.specs.Forms.{IsName, IsToken, IsRuleName}
use Rattle.fab_policy_base.specs.Policies.{CallerRow, WindowRow, RuleRow}
use Rattle.fab_policy_text.specs.Shapes.{EachMeans, IsList, ListAt, IsTable}
use Rattle.fab_policy_base.specs.Limits.{most_callers, most_windows, most_rules}
use Rattle.fab_policy_base.specs.Sound.{caller_names, caller_tokens, window_names, rule_names, rule_windows}
use Rattle.fab_policy_text.specs.Tables.{IsCallerTable, IsWindowTable, IsRuleTable, CallersIn, WindowsIn, RulesIn}
use Rattle.fab_policy_base.specs.Words.{key_word}
use Rattle.fab_policy_base.specs.declared.key.Key.{Key}
use Rattle.fab_policy_base.specs.declared.key.Key.TheVariants as key

-- whatever one value means has one f
abbrev pub OneBy : {X Y : Type 0} → (X → Y) → (Data → X → Type 0) → Type 0
OneBy {X} f R = (d : Data) (x y : X) → R d x → R d y → f x ≡ f y

-- whatever one table means has one f
abbrev pub OneInTable : {X Y : Type 0} → (X → Y) → (Members → X → Type 0) → Type 0
OneInTable {X} f T = (ms : Members) (x y : X) → T ms x → T ms y → f x ≡ f y

each_by : {X Y : Type 0} (f : X → Y) (R : Data → X → Type 0) → OneBy f R → (ds : Items) (xs ys : List X) → EachMeans R ds xs → EachMeans R ds ys → map f xs ≡ map f ys
each_by f R one no_items [] [] a b = refl
each_by f R one no_items [] (y ∷ ys) a b = absurd b
each_by f R one no_items (x ∷ xs) ys a b = absurd a
each_by f R one (item d ds) [] ys a b = absurd a
each_by f R one (item d ds) (x ∷ xs) [] a b = absurd b
each_by f R one (item d ds) (x ∷ xs) (y ∷ ys) a b = λ i. one d x y a.0 b.0 i ∷ each_by f R one ds xs ys a.1 b.1 i

list_by : {X Y : Type 0} (f : X → Y) (R : Data → X → Type 0) (limit : ℕ) → OneBy f R → (d : Data) (xs ys : List X) → IsList R limit d xs → IsList R limit d ys → map f xs ≡ map f ys
list_by f R limit one d xs ys a b =
    let same : b.items ≡ a.items = same_Some b.items a.items (sym b.array ∙ a.array) in
    each_by f R one a.items xs ys a.each (subst (λ ds. EachMeans R ds ys) same b.each)

maybe_by : {X Y : Type 0} (f : X → Y) (R : Data → X → Type 0) (limit : ℕ) → OneBy f R → (o : Option Data) (xs ys : List X) → MatchOption o (xs ≡ []) (λ d. IsList R limit d xs) → MatchOption o (ys ≡ []) (λ d. IsList R limit d ys) → map f xs ≡ map f ys
maybe_by f R limit one None xs ys a b = ap (map f) (a ∙ sym b)
maybe_by f R limit one (Some d) xs ys a b = list_by f R limit one d xs ys a b

pub table_by : {X Y : Type 0} (f : X → Y) (T : Members → X → Type 0) → OneInTable f T → (o : Option Members) (x y : X) → IsSomeAnd o (λ ms. T ms x) → IsSomeAnd o (λ ms. T ms y) → f x ≡ f y
table_by f T one None x y a b = absurd a
table_by f T one (Some ms) x y a b = one ms x y a b

-- two lists of tables at one key have the same f, one by one
rows_by : {X Y : Type 0} (f : X → Y) (k : Key) (T : Members → X → Type 0) (limit : ℕ) → OneInTable f T → (ms : Members) (xs ys : List X) → ListAt k (IsTable T) limit ms xs → ListAt k (IsTable T) limit ms ys → map f xs ≡ map f ys
rows_by f k T limit one ms xs ys a b = maybe_by f (IsTable T) limit (λ d x y p q. table_by f T one (as_table d) x y p q) (get_member (key_word k) ms) xs ys a b

pub some_one : {X : Type 0} (R : Data → X → Type 0) → OneBy (λ x. x) R → (o : Option Data) (x y : X) → IsSomeAnd o (λ d. R d x) → IsSomeAnd o (λ d. R d y) → x ≡ y
some_one R one None x y a b = absurd a
some_one R one (Some d) x y a b = one d x y a b

pub maybe_one : {X : Type 0} (R : Data → X → Type 0) → OneBy (λ x. x) R → (o : Option Data) (x y : Option X) → MatchOption o (x ≡ None) (λ d. IsSomeAnd x (R d)) → MatchOption o (y ≡ None) (λ d. IsSomeAnd y (R d)) → x ≡ y
maybe_one R one None x y a b = a ∙ sym b
maybe_one R one (Some d) None y a b = absurd a
maybe_one R one (Some d) (Some x) None a b = absurd b
maybe_one R one (Some d) (Some x) (Some y) a b = ap Some (one d x y a b)

pub name_one : OneBy (λ (x : List ℕ). x) IsName
name_one d x y a b = same_Some x y (sym a.0 ∙ b.0)

pub rule_name_one : OneBy (λ (x : List ℕ). x) IsRuleName
rule_name_one d x y a b = name_one d x y a.0 b.0

pub token_one : OneBy (λ (x : List ℕ). x) IsToken
token_one d x y a b = same_Some x y (sym a.0 ∙ b.0)

pub same_names_callers : (ms : Members) (xs ys : List CallerRow) → CallersIn ms xs → CallersIn ms ys → caller_names xs ≡ caller_names ys
same_names_callers ms xs ys a b = rows_by (λ c. c.name) key.Callers IsCallerTable most_callers (λ ms x y p q. some_one IsName name_one (get_member (key_word key.Name) ms) x.name y.name p.name q.name) ms xs ys a b

pub same_tokens : (ms : Members) (xs ys : List CallerRow) → CallersIn ms xs → CallersIn ms ys → caller_tokens xs ≡ caller_tokens ys
same_tokens ms xs ys a b = rows_by (λ c. c.token) key.Callers IsCallerTable most_callers (λ ms x y p q. some_one IsToken token_one (get_member (key_word key.Token) ms) x.token y.token p.token q.token) ms xs ys a b

pub same_names_windows : (ms : Members) (xs ys : List WindowRow) → WindowsIn ms xs → WindowsIn ms ys → window_names xs ≡ window_names ys
same_names_windows ms xs ys a b = rows_by (λ w. w.name) key.Windows IsWindowTable most_windows (λ ms x y p q. some_one IsName name_one (get_member (key_word key.Name) ms) x.name y.name p.name q.name) ms xs ys a b

pub same_names_rules : (ms : Members) (xs ys : List RuleRow) → RulesIn ms xs → RulesIn ms ys → rule_names xs ≡ rule_names ys
same_names_rules ms xs ys a b = rows_by (λ r. r.name) key.Rules IsRuleTable most_rules (λ ms x y p q. some_one IsRuleName rule_name_one (get_member (key_word key.Name) ms) x.name y.name p.name q.name) ms xs ys a b

pub same_windows : (ms : Members) (xs ys : List RuleRow) → RulesIn ms xs → RulesIn ms ys → rule_windows xs ≡ rule_windows ys
same_windows ms xs ys a b = rows_by (λ r. r.window) key.Rules IsRuleTable most_rules (λ ms x y p q. maybe_one IsName name_one (get_member (key_word key.Window) ms) x.window y.window p.window q.window) ms xs ys a b

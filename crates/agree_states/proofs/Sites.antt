-- SITES: they are the variables of the unit in order; the item of a channel is that of its site; and no two channels of a model have one item, no two units one first item.
use Prim.Native.Nat.{ℕ, zero, suc, ◌+◌, ◌-◌, ◌<◌, ◌≤◌}
use native.Mathlib.Omega.{arith}
use native.Mathlib.Decide.{ℕ_discrete, dec_lt}
use borrow.Author.Tests.{lt-ltb, le-ltb}
use mathlib.Core.Path.{◌≡◌, refl, sym as inv, ap, ap₂, ◌∙◌, subst}
use mathlib.Core.Bool.{true, false}
use mathlib.Core.List.{List, [], ◌∷◌, ◌++◌, map}
use lib.ListN.{length, get_or, length-append}
use lib.Dec.{ltb}
use Rattle.base_bytes.specs.Choice.{pick}
use Rattle.base_bytes.proofs.Tests.{true_false}
use Rattle.spec_grammar.specs.Tree.{Name, Value, unset, set_number, set_minus, set_true, set_false, set_name, set_channel, Variable, variable, Declaration, declare, Group, group, Body, body, Activity, idle, once, times, Part, mtypes, global, process, init, Model}
use Rattle.spec_machine.specs.Sizes.{sum, size_size, size_variable, size_declaration, size_group, size_body, size_activity, size_part}
use Rattle.spec_machine.specs.State.{Channel}
use Rattle.spec_machine.specs.Names.{Var, of_variable, of_declaration, of_declarations, of_parameter, of_group, of_groups, locals_of, variables_of, unit_at}
use Rattle.spec_machine.specs.Begins.{items_before, body_in}
use Rattle.spec_machine.specs.Plain.{no_var, declared_by}
use Rattle.agree_encode.specs.Encode.{head_in, head_of, variable_at, variables_in, declared_at, count_groups, body_at, channel_item_in, channel_item}
use Rattle.spec_machine.specs.Places.{Bodied}
use Rattle.agree_encode.proofs.Rows.{get_left, get_right}
use Rattle.agree_states.specs.Sites.{chan, Site, no_site, site_of, sites_of, sites_in, local_sites, name_sites, group_in, group_sites, body_sites, unit_sites, sites_at}
use Rattle.agree_states.proofs.Slices.{get_map, map_long}

abbrev pub var_of : Site → Var
var_of x = x.var

-- ---- the variables in order
pub map_both : {A B : Type 0} (f : A → B) (x y : List A) → map f (x ++ y) ≡ map f x ++ map f y
map_both f [] y = refl
map_both f (a ∷ x) y = ap (λ l. f a ∷ l) (map_both f x y)

one-var : (k : ℕ) (x : Variable) (i : ℕ) → (site_of k x i).var ≡ of_variable k x
one-var k (variable w z v) i = refl

vars_of : (k : ℕ) (xs : List Variable) (i : ℕ) → map var_of (sites_of k xs i) ≡ map (of_variable k) xs
vars_of k [] i = refl
vars_of k (x ∷ xs) i = ap₂ (λ (a : Var) (l : List Var). a ∷ l) (one-var k x i) (vars_of k xs (i + size_variable x))

pub declaration_vars : (d : Declaration) (i : ℕ) → map var_of (sites_in d i) ≡ of_declaration d
declaration_vars (declare k xs) i = vars_of k xs (i + 2)

pub local_vars : (ds : List Declaration) (i : ℕ) → map var_of (local_sites ds i) ≡ of_declarations ds
local_vars [] i = refl
local_vars (d ∷ ds) i =
    map_both var_of (sites_in d i) (local_sites ds (i + size_declaration d))
    ∙ ap₂ (λ (x y : List Var). x ++ y) (declaration_vars d i) (local_vars ds (i + size_declaration d))

name_vars : (k : ℕ) (ws : List Name) (i : ℕ) → map var_of (name_sites k ws i) ≡ map (of_parameter k) ws
name_vars k [] i = refl
name_vars k (w ∷ ws) i = ap (λ (l : List Var). of_parameter k w ∷ l) (name_vars k ws (i + 2))

group-var : (g : Group) (i : ℕ) → map var_of (group_in g i) ≡ of_group g
group-var (group k ws) i = name_vars k ws (i + 2)

pub group_vars : (gs : List Group) (i : ℕ) → map var_of (group_sites gs i) ≡ of_groups gs
group_vars [] i = refl
group_vars (g ∷ gs) i =
    map_both var_of (group_in g i) (group_sites gs (i + size_group g)) ∙ ap₂ (λ (x y : List Var). x ++ y) (group-var g i) (group_vars gs (i + size_group g))

pub body_vars : (b : Body) (i : ℕ) → map var_of (body_sites b i) ≡ locals_of b
body_vars (body ds q) i = local_vars ds (i + 1)

pub unit_vars : (u : Part) (i : ℕ) → map var_of (unit_sites u i) ≡ variables_of u
unit_vars (mtypes ws) i = refl
unit_vars (global d) i = declaration_vars d i
unit_vars (process a w gs b) i =
    map_both var_of (group_sites gs (i + size_activity a)) (body_sites b (body_in (process a w gs b) i))
    ∙ ap₂ (λ (x y : List Var). x ++ y) (group_vars gs (i + size_activity a)) (body_vars b (body_in (process a w gs b) i))
unit_vars (init b) i = body_vars b (body_in (init b) i)

pub sites_long : (l : List Site) (xs : List Var) → map var_of l ≡ xs → length l ≡ length xs
sites_long l xs e = inv (map_long var_of l) ∙ ap length e

pub site_var : (l : List Site) (xs : List Var) → map var_of l ≡ xs → (n : ℕ) → n < length l → (get_or l n no_site).var ≡ get_or xs n no_var
site_var l xs e n h = inv (get_map var_of l no_site no_var n h) ∙ ap (λ (y : List Var). get_or y n no_var) e

-- ---- the items of channels
variable_item : (k : ℕ) (xs : List Variable) (n i : ℕ) → n < length (sites_of k xs i) → variable_at xs n i ≡ (get_or (sites_of k xs i) n no_site).worth + 1
unfolding variable_at
variable_item k [] n i h = absurd (omega arith)
variable_item k (variable w z v ∷ xs) zero i h = refl
variable_item k (x ∷ xs) (suc n) i h = variable_item k xs n (i + size_variable x) (omega arith)

declaration_item : (d : Declaration) (n i : ℕ) → n < length (sites_in d i) → variable_at (variables_in d) n (i + 2) ≡ (get_or (sites_in d i) n no_site).worth + 1
declaration_item (declare k xs) n i h = variable_item k xs n (i + 2) h

declaration_long : (d : Declaration) (i : ℕ) → length (sites_in d i) ≡ length (variables_in d)
declaration_long (declare k xs) i = go xs (i + 2)
  where
    go : (xs : List Variable) (i : ℕ) → length (sites_of k xs i) ≡ length xs
    go [] i = refl
    go (x ∷ xs) i = ap suc (go xs (i + size_variable x))

local_item : (ds : List Declaration) (n i : ℕ) → n < length (local_sites ds i) → declared_at ds n i ≡ (get_or (local_sites ds i) n no_site).worth + 1
unfolding declared_at
local_item [] n i h = absurd (omega arith)
local_item (d ∷ ds) n i h = go (dec_lt n (length (variables_in d))) (local_item ds (n - length (variables_in d)) (i + size_declaration d))
  where
    L : List Site
    L = sites_in d i

    K : List Site
    K = local_sites ds (i + size_declaration d)

    go : Dec (n < length (variables_in d))
        → (n - length (variables_in d) < length (local_sites ds (i + size_declaration d))
        → declared_at ds (n - length (variables_in d)) (i + size_declaration d) ≡ (get_or (local_sites ds (i + size_declaration d)) (n - length (variables_in d)) no_site).worth + 1)
        → pick (ltb n (length (variables_in d))) (variable_at (variables_in d) n (i + 2)) (declared_at ds (n - length (variables_in d)) (i + size_declaration d))
        ≡ (get_or (sites_in d i ++ local_sites ds (i + size_declaration d)) n no_site).worth + 1
    go (yes a) r =
        let e = declaration_long d i in
        rw (lt-ltb n (length (variables_in d)) a)
        (declaration_item d n i (omega arith)
        ∙ ap (λ (x : Site). x.worth + 1) (inv (get_left (sites_in d i) (local_sites ds (i + size_declaration d)) no_site n (omega arith))))
    go (no a) r =
        let e = declaration_long d i in
        let f = length-append (sites_in d i) (local_sites ds (i + size_declaration d)) in
        rw (le-ltb n (length (variables_in d)) (omega arith))
        (r (omega arith)
        ∙ ap (λ (x : Site). x.worth + 1)
        (inv (get_right (sites_in d i) (local_sites ds (i + size_declaration d)) no_site (length (variables_in d)) (n - length (variables_in d)) n e (omega arith))))

names_long : (k : ℕ) (ws : List Name) (i : ℕ) → length (name_sites k ws i) ≡ length ws
names_long k [] i = refl
names_long k (w ∷ ws) i = ap suc (names_long k ws (i + 2))

pub groups_long : (gs : List Group) (i : ℕ) → length (group_sites gs i) ≡ count_groups gs
groups_long [] i = refl
groups_long (group k ws ∷ gs) i =
    length-append (name_sites k ws (i + 2)) (group_sites gs (i + size_group (group k ws))) ∙ ap₂ ◌+◌ (names_long k ws (i + 2)) (groups_long gs (i + size_group (group k ws)))

names_plain : (k : ℕ) (ws : List Name) (i n : ℕ) → chan (get_or (name_sites k ws i) n no_site).var.value ≡ false
names_plain k [] i zero = refl
names_plain k [] i (suc n) = refl
names_plain k (w ∷ ws) i zero = refl
names_plain k (w ∷ ws) i (suc n) = names_plain k ws (i + 2) n

-- no parameter is a channel that its declaration makes
groups_plain : (gs : List Group) (i n : ℕ) → chan (get_or (group_sites gs i) n no_site).var.value ≡ false
groups_plain [] i zero = refl
groups_plain [] i (suc n) = refl
groups_plain (group k ws ∷ gs) i n = go (dec_lt n (length (name_sites k ws (i + 2)))) (groups_plain gs (i + size_group (group k ws)) (n - length (name_sites k ws (i + 2))))
  where
    go : Dec (n < length (name_sites k ws (i + 2))) → chan (get_or (group_sites gs (i + size_group (group k ws))) (n - length (name_sites k ws (i + 2))) no_site).var.value ≡ false
        → chan (get_or (name_sites k ws (i + 2) ++ group_sites gs (i + size_group (group k ws))) n no_site).var.value ≡ false
    go (yes a) r =
        ap (λ (x : Site). chan x.var.value) (get_left (name_sites k ws (i + 2)) (group_sites gs (i + size_group (group k ws))) no_site n a) ∙ names_plain k ws (i + 2) n
    go (no a) r =
        ap (λ (x : Site). chan x.var.value)
        (get_right (name_sites k ws (i + 2)) (group_sites gs (i + size_group (group k ws))) no_site (length (name_sites k ws (i + 2))) (n - length (name_sites k ws (i + 2))) n refl (omega arith)) ∙ r

body_item : (b : Body) (n i : ℕ) → n < length (body_sites b i) → body_at b n i ≡ (get_or (body_sites b i) n no_site).worth + 1
body_item (body ds q) n i h = local_item ds n (i + 1) h

-- THE ITEM OF A CHANNEL is behind where its site's value begins
pub unit-item : (u : Part) (n i : ℕ) → n < length (unit_sites u i) → chan (get_or (unit_sites u i) n no_site).var.value ≡ true → channel_item_in u n i ≡ (get_or (unit_sites u i) n no_site).worth + 1
unit-item (mtypes ws) n i h c = absurd (omega arith)
unit-item (global d) n i h c = declaration_item d n i h
unit-item (init b) n i h c = body_item b n (body_in (init b) i) h
unit-item (process a w gs b) n i h c = go (dec_lt n (length (group_sites gs (i + size_activity a))))
  where
    go : Dec (n < length (group_sites gs (i + size_activity a))) → channel_item_in (process a w gs b) n i ≡ (get_or (unit_sites (process a w gs b) i) n no_site).worth + 1
    go (yes e) =
        absurd (true_false (inv c ∙ ap (λ (x : Site). chan x.var.value) (get_left (group_sites gs (i + size_activity a)) (body_sites b (body_in (process a w gs b) i)) no_site n e)
        ∙ groups_plain gs (i + size_activity a) n))
    go (no e) =
        let f = length-append (group_sites gs (i + size_activity a)) (body_sites b (body_in (process a w gs b) i)) in
        let g = groups_long gs (i + size_activity a) in
        body_item b (n - count_groups gs) (body_in (process a w gs b) i) (omega arith)
        ∙ ap (λ (x : Site). x.worth + 1)
        (inv (get_right (group_sites gs (i + size_activity a)) (body_sites b (body_in (process a w gs b) i)) no_site (count_groups gs) (n - count_groups gs) n g (omega arith)))

-- ---- the channels of a unit stand one behind another, from item lo on and before item hi
abbrev Spread : List Site → ℕ → ℕ → Type 0
Spread [] lo hi = lo ≤ hi
Spread (x ∷ l) lo hi = (mid : ℕ) × ((lo ≤ mid) × (chan x.var.value ≡ true → (lo ≤ x.worth) × (x.worth + 1 < mid)) × Spread l mid hi)

spread_le : (l : List Site) (lo hi : ℕ) → Spread l lo hi → lo ≤ hi
spread_le [] lo hi s = s
spread_le (x ∷ l) lo hi s = let r = spread_le l s.0 hi s.1.2 in let g = s.1.0 in omega arith

spread_from : (l : List Site) (lo low hi : ℕ) → low ≤ lo → Spread l lo hi → Spread l low hi
spread_from [] lo low hi h s = omega arith
spread_from (x ∷ l) lo low hi h s = let g = s.1.0 in (s.0, (omega arith, (λ c. let r = s.1.1 c in let r0 = r.0 in (omega arith, r.1)), s.1.2))

spread_both : (l k : List Site) (lo mid hi : ℕ) → Spread l lo mid → Spread k mid hi → Spread (l ++ k) lo hi
spread_both [] k lo mid hi s r = spread_from k mid lo hi s r
spread_both (x ∷ l) k lo mid hi s r = (s.0, (s.1.0, s.1.1, spread_both l k s.0 mid hi s.1.2 r))

spread_in : (l : List Site) (lo hi : ℕ) → Spread l lo hi → (n : ℕ) → n < length l → chan (get_or l n no_site).var.value ≡ true → (lo ≤ (get_or l n no_site).worth) × ((get_or l n no_site).worth + 1 < hi)
spread_in [] lo hi s n h c = absurd (omega arith)
spread_in (x ∷ l) lo hi s zero h c = let r = s.1.1 c in let r0 = r.0 in let r1 = r.1 in let e = spread_le l s.0 hi s.1.2 in (omega arith, omega arith)
spread_in (x ∷ l) lo hi s (suc n) h c = let r = spread_in l s.0 hi s.1.2 n (omega arith) c in let r0 = r.0 in let r1 = r.1 in let g = s.1.0 in (omega arith, omega arith)

spread_one : (l : List Site) (lo hi : ℕ) → Spread l lo hi → (n k : ℕ) → n < length l → k < length l → chan (get_or l n no_site).var.value ≡ true → chan (get_or l k no_site).var.value ≡ true
    → (get_or l n no_site).worth ≡ (get_or l k no_site).worth → n ≡ k
spread_one [] lo hi s n k h g c d e = absurd (omega arith)
spread_one (x ∷ l) lo hi s zero zero h g c d e = refl
spread_one (x ∷ l) lo hi s zero (suc k) h g c d e = let a = (s.1.1 c).1 in let b = (spread_in l s.0 hi s.1.2 k (omega arith) d).0 in absurd (omega arith)
spread_one (x ∷ l) lo hi s (suc n) zero h g c d e = let a = (s.1.1 d).1 in let b = (spread_in l s.0 hi s.1.2 n (omega arith) c).0 in absurd (omega arith)
spread_one (x ∷ l) lo hi s (suc n) (suc k) h g c d e = ap suc (spread_one l s.0 hi s.1.2 n k (omega arith) (omega arith) c d e)

one_spread : (k : ℕ) (x : Variable) (i : ℕ) → chan (site_of k x i).var.value ≡ true → (i ≤ (site_of k x i).worth) × ((site_of k x i).worth + 1 < i + size_variable x)
one_spread k (variable w z v) i c = (omega arith, go v c)
  where
    go : (v : Value) → chan v ≡ true → i + 2 + size_size z + 1 < i + size_variable (variable w z v)
    go (set_channel n ks) c = omega arith
    go unset c = absurd (true_false (inv c))
    go (set_number n) c = absurd (true_false (inv c))
    go (set_minus n) c = absurd (true_false (inv c))
    go set_true c = absurd (true_false (inv c))
    go set_false c = absurd (true_false (inv c))
    go (set_name w) c = absurd (true_false (inv c))

variables_spread : (k : ℕ) (xs : List Variable) (i e : ℕ) → i + sum size_variable xs ≤ e → Spread (sites_of k xs i) i e
variables_spread k [] i e h = omega arith
variables_spread k (x ∷ xs) i e h = (i + size_variable x, (omega arith, one_spread k x i, variables_spread k xs (i + size_variable x) e (omega arith)))

declaration_spread : (d : Declaration) (i e : ℕ) → i + size_declaration d ≤ e → Spread (sites_in d i) i e
declaration_spread (declare k xs) i e h = spread_from (sites_of k xs (i + 2)) (i + 2) i e (omega arith) (variables_spread k xs (i + 2) e (omega arith))

locals_spread : (ds : List Declaration) (i e : ℕ) → i + sum size_declaration ds ≤ e → Spread (local_sites ds i) i e
locals_spread [] i e h = omega arith
locals_spread (d ∷ ds) i e h =
    let j = i + size_declaration d in spread_both (sites_in d i) (local_sites ds j) i j e (declaration_spread d i j (omega arith)) (locals_spread ds j e (omega arith))

-- no parameter is among them
plain_spread : (l : List Site) (lo hi : ℕ) → lo ≤ hi → ((n : ℕ) → chan (get_or l n no_site).var.value ≡ false) → Spread l lo hi
plain_spread [] lo hi h c = h
plain_spread (x ∷ l) lo hi h c = (lo, (omega arith, (λ e. absurd (true_false (inv e ∙ c 0))), plain_spread l lo hi h (λ n. c (suc n))))

body_spread : (b : Body) (i e : ℕ) → i + size_body b ≤ e → Spread (body_sites b i) i e
body_spread (body ds q) i e h = spread_from (local_sites ds (i + 1)) (i + 1) i e (omega arith) (locals_spread ds (i + 1) e (omega arith))

unit_spread : (u : Part) (i : ℕ) → Spread (unit_sites u i) i (i + size_part u)
unit_spread (mtypes ws) i = omega arith
unit_spread (global d) i = declaration_spread d i (i + size_declaration d) (omega arith)
unit_spread (process a w gs b) i =
    let g = i + size_activity a in
    let k = body_in (process a w gs b) i in
    let e = i + size_part (process a w gs b) in
    spread_both (group_sites gs g) (body_sites b k) i k e (plain_spread (group_sites gs g) i k (omega arith) (groups_plain gs g)) (body_spread b k e (omega arith))
unit_spread (init b) i = let e = i + size_part (init b) in spread_from (body_sites b (i + 1)) (i + 1) i e (omega arith) (body_spread b (i + 1) e (omega arith))

-- ---- units stand one behind another
past_last : (m : Model) (k : ℕ) → length m ≤ k → unit_at m k ≡ mtypes []
past_last [] zero h = refl
past_last [] (suc k) h = refl
past_last (u ∷ m) zero h = absurd (omega arith)
past_last (u ∷ m) (suc k) h = past_last m k (omega arith)

before-next : (m : Model) (k j : ℕ) → k < j → k < length m → items_before m k + size_part (unit_at m k) ≤ items_before m j
unfolding items_before
before-next [] k j h g = absurd (omega arith)
before-next (u ∷ m) k zero h g = absurd (omega arith)
before-next (u ∷ m) zero (suc j) h g = omega arith
before-next (u ∷ m) (suc k) (suc j) h g = let r = before-next m k j (omega arith) (omega arith) in omega arith

-- two things of units that lie within their units' items are in the same unit, if they are the same
pub unit-one : (m : Model) (k j a b : ℕ) → k < length m → j < length m → items_before m k ≤ a → a < items_before m k + size_part (unit_at m k) → items_before m j ≤ b
    → b < items_before m j + size_part (unit_at m j) → a ≡ b → k ≡ j
unit-one m k j a b h g p q r s e = go (ℕ_discrete k j) (dec_lt k j)
  where
    go : Dec (k ≡ j) → Dec (k < j) → k ≡ j
    go (yes z) d = z
    go (no z) (yes d) = let w = before-next m k j d h in absurd (omega arith)
    go (no z) (no d) = let w = before-next m j k (omega arith) g in absurd (omega arith)

pub bodied_there : (m : Model) (k : ℕ) → Bodied (unit_at m k) → k < length m
bodied_there m k b = go (dec_lt k (length m))
  where
    go : Dec (k < length m) → k < length m
    go (yes h) = h
    go (no h) = absurd (subst Bodied (past_last m k (omega arith)) b)

pub some-items : (a : Activity) → 2 ≤ size_activity a
some-items idle = omega arith
some-items once = omega arith
some-items (times n) = omega arith

pub head-inside : (u : Part) (i : ℕ) → Bodied u → (i ≤ head_in u i) × (head_in u i < i + size_part u)
head-inside (process a w gs (body ds q)) i h = let g = some-items a in (omega arith, omega arith)
head-inside (init b) i h = (omega arith, omega arith)
head-inside (mtypes _) i h = elim h [ ]
head-inside (global _) i h = elim h [ ]

-- NO TWO UNITS begin with one item
pub head-one : (m : Model) (k j : ℕ) → Bodied (unit_at m k) → Bodied (unit_at m j) → head_of m k ≡ head_of m j → k ≡ j
head-one m k j a b e =
    let x = head-inside (unit_at m k) (items_before m k) a in
    let y = head-inside (unit_at m j) (items_before m j) b in
    unit-one m k j (head_of m k) (head_of m j) (bodied_there m k a) (bodied_there m j b) x.0 x.1 y.0 y.1 e

-- a unit with a variable is one of the model's
pub sited_unit : (m : Model) (k i : ℕ) → i < length (sites_at m k) → k < length m
sited_unit m k i h = go (dec_lt k (length m))
  where
    go : Dec (k < length m) → k < length m
    go (yes g) = g
    go (no g) = let e : length (sites_at m k) ≡ 0 = ap (λ u. length (unit_sites u (items_before m k))) (past_last m k (omega arith)) in absurd (omega arith)

-- NO TWO CHANNEL DECLARATIONS have one item
module _ (m : Model) (c : Channel) (n : ℕ) (ks : List ℕ) (made : declared_by m c ≡ set_channel n ks) where
  abbrev L : List Site
  L = sites_at m c.unit

  -- which variable it is
  pub made-here : c.variable < length (variables_of (unit_at m c.unit))
  made-here = go (dec_lt c.variable (length (variables_of (unit_at m c.unit))))
    where
      none_there : (xs : List Var) (i : ℕ) → length xs ≤ i → chan (get_or xs i no_var).value ≡ false
      none_there [] zero h = refl
      none_there [] (suc i) h = refl
      none_there (x ∷ xs) zero h = absurd (omega arith)
      none_there (x ∷ xs) (suc i) h = none_there xs i (omega arith)

      go : Dec (c.variable < length (variables_of (unit_at m c.unit))) → c.variable < length (variables_of (unit_at m c.unit))
      go (yes h) = h
      go (no h) = absurd (true_false (inv (ap chan made) ∙ none_there (variables_of (unit_at m c.unit)) c.variable (omega arith)))

  pub made_site : c.variable < length (sites_at m c.unit)
  made_site = let e = sites_long L (variables_of (unit_at m c.unit)) (unit_vars (unit_at m c.unit) (items_before m c.unit)) in let h = made-here in omega arith

  pub made-chan : chan (get_or (sites_at m c.unit) c.variable no_site).var.value ≡ true
  made-chan = ap (λ (x : Var). chan x.value) (site_var L (variables_of (unit_at m c.unit)) (unit_vars (unit_at m c.unit) (items_before m c.unit)) c.variable made_site) ∙ ap chan made

  pub made-item : channel_item m c ≡ (get_or (sites_at m c.unit) c.variable no_site).worth + 1
  made-item = unit-item (unit_at m c.unit) c.variable (items_before m c.unit) made_site made-chan

  pub made-unit : c.unit < length m
  made-unit = go (dec_lt c.unit (length m))
    where
      go : Dec (c.unit < length m) → c.unit < length m
      go (yes h) = h
      go (no h) = let e : length (variables_of (unit_at m c.unit)) ≡ 0 = ap (λ u. length (variables_of u)) (past_last m c.unit (omega arith)) in let g = made-here in absurd (omega arith)

  made_inside : (items_before m c.unit ≤ channel_item m c) × (channel_item m c < items_before m c.unit + size_part (unit_at m c.unit))
  made_inside =
      let r = spread_in L (items_before m c.unit) (items_before m c.unit + size_part (unit_at m c.unit)) (unit_spread (unit_at m c.unit) (items_before m c.unit)) c.variable made_site made-chan in
      let r0 = r.0 in
      let r1 = r.1 in
      let e = made-item in
      (omega arith, omega arith)

pub channel-one : (m : Model) (c d : Channel) (n k : ℕ) (ks js : List ℕ) → declared_by m c ≡ set_channel n ks → declared_by m d ≡ set_channel k js → channel_item m c ≡ channel_item m d
    → (c.unit ≡ d.unit) × (c.variable ≡ d.variable)
channel-one m c d n k ks js a b e =
    let x = made_inside m c n ks a in
    let y = made_inside m d k js b in
    let u = unit-one m c.unit d.unit (channel_item m c) (channel_item m d) (made-unit m c n ks a) (made-unit m d k js b) x.0 x.1 y.0 y.1 e in
    let i = made-item m c n ks a in
    let j = made-item m d k js b in
    let w : (get_or (sites_at m c.unit) c.variable no_site).worth ≡ (get_or (sites_at m d.unit) d.variable no_site).worth = omega arith in (
      u,
      spread_one (sites_at m d.unit) (items_before m d.unit) (items_before m d.unit + size_part (unit_at m d.unit)) (unit_spread (unit_at m d.unit) (items_before m d.unit))
          c.variable d.variable (subst (λ z. c.variable < length (sites_at m z)) u (made_site m c n ks a)) (made_site m d k js b)
          (subst (λ z. chan (get_or (sites_at m z) c.variable no_site).var.value ≡ true) u (made-chan m c n ks a)) (made-chan m d k js b)
          (subst (λ z. (get_or (sites_at m z) c.variable no_site).worth ≡ (get_or (sites_at m d.unit) d.variable no_site).worth) u w),
    )

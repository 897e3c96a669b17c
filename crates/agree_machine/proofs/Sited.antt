-- WHAT ITEMS SAY OF EACH SITE: the item that declares a variable says its type, its size and how many numbers of its body stand before its own; and where its value stands. One walk along the
-- sites (`agree_states`), with the numbers declared so far.
use Prim.Native.Nat.{ℕ, zero, suc, ◌+◌, ◌-◌, ◌≤◌, ◌<◌}
use native.Mathlib.Omega.{arith}
use mathlib.Core.Path.{◌≡◌, refl, sym as inv, ap, ◌∙◌, subst}
use mathlib.Core.Bool.{true, false}
use mathlib.Core.Logic.{◌⊎◌, inl, inr}
use mathlib.Core.List.{List, [], ◌∷◌, ◌++◌, append_assoc}
use lib.ListN.{length, get_or, length-append}
use Rattle.base_codes.specs.Codes.{c_body, c_declared, c_global, c_group, c_local, c_name, c_parameter}
use Rattle.base_bytes.specs.Choice.{pick}
use Rattle.rule_sheets.specs.Walks.{sum}
use Rattle.rule_sheets.specs.Homes.{inside_of}
use Rattle.rule_search.specs.Sets.{among}
use Rattle.rule_search.specs.Search.{last}
use Rattle.rule_item.specs.Rules.{is_array}
use Rattle.rule_ceilings.specs.Ceilings.{numbers_at}
use Rattle.spec_grammar.specs.Tree.{Name, Model, Value, unset, Variable, variable, Declaration, declare, Group, group, body, Part, mtypes, global, process, init}
use Rattle.base_codes.specs.Items.{Item, code_of, i_declared, i_global, i_group, i_local, i_name, i_parameter, i_type}
use Rattle.parse_code.specs.Code.{each, code_size, code_value, code_variable, code_declaration, code_parameter, code_group, code_body, code_activity, code_part, code}
use Rattle.spec_rules.specs.Ceilings.{size_of}
use Rattle.legal_terms.specs.Says.{item_at, Says}
use Rattle.legal_declarations.proofs.Items.{Low, all_append, all-size, all_value, valued, settled, all_declaration, global-settled}
use Rattle.legal_declarations.proofs.Standing.{Lies, lies_front, lies_back, lies_all, long, code_is, valued_at, settled_at}
use Rattle.legal_declarations.proofs.Homes.{inside-none, home_most}
use Rattle.legal_declarations.proofs.Judging.{hs, last-here, last_skip, last-over}
use Rattle.legal_declarations.proofs.Variables.{low-one, After}
use Rattle.legal_declarations.proofs.Declarations.{after_groups, after-declarations}
use Rattle.legal_declarations.proofs.Bodies.{Frame, frame_behind, home_in}
use Rattle.spec_machine.specs.Sizes as sizes
use Rattle.spec_machine.specs.Sizes.{size_in, size_size, size_variable, size_declaration, size_group, size_activity, size_part}
use Rattle.agree_sizes.proofs.Sizes.{size-size, size_variable_lem, size_declaration_lem, size-declarations, size-group, size_groups, size_activity_lem, size-part}
use Rattle.spec_machine.specs.Names.{Var, of_variable, of_parameter, global_in, message_in, unit_at}
use Rattle.spec_machine.specs.Begins.{items_before, body_in, body_of}
use Rattle.agree_encode.specs.Encode.{head_in}
use Rattle.spec_machine.specs.Places.{Bodied}
use Rattle.agree_encode.specs.Tabled.{total_of}
use Rattle.spec_machine.specs.Program.{start_in, end_in}
use Rattle.agree_names.specs.Entries.{slot, Entry, entries_in}
use Rattle.agree_names.proofs.Scopes.{Declares, Quiet, Scoped, scoped_start, numbers-next, quiet-numbers, good_adds, starts}
use Rattle.agree_names.proofs.Ends.{free_after}
use Rattle.agree_names.proofs.Declared.{sets, type_at, one_number, size_is}
use Rattle.legal_declarations.proofs.Variables.{low-three}
use Rattle.agree_names.proofs.Units.{flat, inner-declarations, unit-behind, first-stands}
use Rattle.agree_states.proofs.Sites.{some-items}
use Rattle.agree_states.specs.Sites.{Site, sites_of, sites_in, local_sites, name_sites, group_in, group_sites, unit_sites, global_here, global_sites}

abbrev pub sizes_of : List Site → ℕ
sizes_of [] = 0
sizes_of (s ∷ l) = s.var.size + sizes_of l

sizes-append : (l r : List Site) → sizes_of (l ++ r) ≡ sizes_of l + sizes_of r
sizes-append [] r = omega arith
sizes-append (s ∷ l) r = let q = sizes-append l r in omega arith

marks : (among 1 c_body ≡ false)
unfolding among
marks = refl

module _ (m : Model) (cs vs : List ℕ) (S : Says m cs vs) where
  abbrev xs : List Item
  xs = code m

  abbrev H : List ℕ
  H = hs m cs vs S

  -- the numbers of body h before item j
  abbrev N : ℕ → ℕ → ℕ
  N h j = sum (numbers_at cs vs (hs m cs vs S) h) 0 j

  pub record Sited (h lo hi : ℕ) (s : Site) (o : ℕ) : Type 0 where
    pub declares : Declares cs vs (hs m cs vs S) h s.item s.var o
    pub value : Lies (code m) s.worth (code_value s.var.value)
    pub from : 0 < length (code_value s.var.value) → lo ≤ s.worth
    pub to : 0 < length (code_value s.var.value) → s.worth + length (code_value s.var.value) ≤ hi
    pub inner : (j : ℕ) → s.worth ≤ j → j < s.worth + length (code_value s.var.value) → get_or (hs m cs vs S) j 0 ≡ h

  abbrev pub AllSited : ℕ → ℕ → ℕ → List Site → ℕ → Type 0
  AllSited h lo hi [] o = Unit {0}
  AllSited h lo hi (s ∷ l) o = Sited h lo hi s o × AllSited h lo hi l (o + s.var.size)

  all_join : (h lo hi : ℕ) (l r : List Site) (o : ℕ) → AllSited h lo hi l o → AllSited h lo hi r (o + sizes_of l) → AllSited h lo hi (l ++ r) o
  all_join h lo hi [] r o a b = subst (AllSited h lo hi r) (let z : o + 0 ≡ o = omega arith in z) b
  all_join h lo hi (s ∷ l) r o a b =
      (a.0, all_join h lo hi l r (o + s.var.size) a.1 (subst (AllSited h lo hi r) (let z : o + (s.var.size + sizes_of l) ≡ o + s.var.size + sizes_of l = omega arith in z) b))

  wider : (h lo hi lo2 hi2 : ℕ) → lo2 ≤ lo → hi ≤ hi2 → (l : List Site) (o : ℕ) → AllSited h lo hi l o → AllSited h lo2 hi2 l o
  wider h lo hi lo2 hi2 a b [] o w = tt
  wider h lo hi lo2 hi2 a b (s ∷ l) o w =
      let x = w.0 in
      (record { declares = x.declares; value = x.value; from = λ z. (let q = x.from z in omega arith); to = λ z. (let q = x.to z in omega arith); inner = x.inner }, wider h lo hi lo2 hi2 a b l (o + s.var.size) w.1)

  -- behind the sites
  record Walked (h lo hi : ℕ) (l : List Site) (e o : ℕ) : Type 0 where
    pub all : AllSited h lo hi l o
    pub numbers : N h e ≡ o + sizes_of l

  walk-join : (h lo hi : ℕ) (l r : List Site) (e o : ℕ) → AllSited h lo hi l o → Walked h lo hi r e (o + sizes_of l) → Walked h lo hi (l ++ r) e o
  walk-join h lo hi l r e o a w = let s = sizes-append l r in let n = w.numbers in record { all = all_join h lo hi l r o a w.all; numbers = omega arith }

  -- ---- items that declare nothing here
  numbers_far : (i h j : ℕ) → ((k : ℕ) → j ≤ k → k < j + i → Quiet cs vs H h k) → N h (j + i) ≡ N h j
  numbers_far zero h j q = ap (N h) (let z : j + 0 ≡ j = omega arith in z)
  numbers_far (suc i) h j q =
      let a = numbers-next cs vs H h (j + i) in
      let b = quiet-numbers cs vs H h (j + i) (q (j + i) (omega arith) (omega arith)) in
      let c = numbers_far i h j (λ k x y. q k x (omega arith)) in
      ap (N h) (let z : j + suc i ≡ suc (j + i) = omega arith in z) ∙ (let z : N h (suc (j + i)) ≡ N h j = omega arith in z)

  numbers-over : (h j e : ℕ) → j ≤ e → ((k : ℕ) → j ≤ k → k < e → Quiet cs vs H h k) → N h e ≡ N h j
  numbers-over h j e b q = ap (N h) (let z : e ≡ j + (e - j) = omega arith in z) ∙ numbers_far (e - j) h j (λ k x y. q k x (omega arith))

  numbers-one : (h i c : ℕ) → get_or cs i 0 ≡ c → among 1 c ≡ false → N h (suc i) ≡ N h i
  numbers-one h i c e q = let a = numbers-next cs vs H h i in let b = quiet-numbers cs vs H h i (inl (ap (among 1) e ∙ q)) in omega arith

  -- ---- the names of one type t, which is item p, in body h, from item lo to before item hi
  module _ (t h lo hi p : ℕ) (home : (j : ℕ) → lo ≤ j → j < hi → get_or H j 0 ≡ h) (top : hi ≤ length cs) (typed : get_or cs p 0 ≡ 130 + t) (least : 38 ≤ t) (most : t ≤ 45) where
    record Named (x : Var) (k o : ℕ) : Type 0 where
      pub declares : Declares cs vs H h (suc k) x o
      pub numbers : N h (suc (suc k)) ≡ o + x.size
      pub kind : last cs 3 (suc (suc k)) ≡ suc (suc p)

    named : (w : Name) (s : ℕ) (v : Value) (c : ℕ) (k o : ℕ) → lo ≤ k → suc k < hi → k < length xs → item_at xs k ≡ i_name w → get_or cs (suc k) 0 ≡ c
        → (c ≡ c_declared) ⊎ (c ≡ c_parameter) → among 3 c ≡ false → pick (is_array cs (suc k)) (get_or vs (suc k + 1) 0) 1 ≡ s → last cs 3 k ≡ suc (suc p) → N h k ≡ o
        → Named (record { name = w; type = t; size = s; value = v }) k o
    named w s v c k o b d g q cx cc three size kind n =
        let x : Var = record { name = w; type = t; size = s; value = v } in
        let cn = code_is m cs vs S k (i_name w) g q in
        let n1 : N h (suc k) ≡ o = numbers-one h k c_name cn sets.0 ∙ n in
        let kind1 : last cs 3 (suc k) ≡ suc (suc p) = last_skip m cs vs S 3 k (ap (among 3) cn ∙ sets.1) ∙ kind in
        let D : Declares cs vs H h (suc k) x o =
        record {
          coded = subst (λ i. (i ≡ c_declared) ⊎ (i ≡ c_parameter)) (inv cx) cc;
          home = home (suc k) (omega arith) d;
          type = ap (λ i. get_or cs (i - 2) 0) kind1 ∙ ap (λ i. get_or cs i 0) (let z : suc (suc p) - 2 ≡ p = omega arith in z) ∙ typed;
          least = least;
          most = most;
          size = size;
          offset = n1;
        } in
        let a = numbers-next cs vs H h (suc k) in
        let r : numbers_at cs vs H h (suc k) ≡ s = (good_adds cs vs H h (suc k) (slot x o) D).2 in
        record { declares = D; numbers = omega arith; kind = last_skip m cs vs S 3 (suc k) (ap (among 3) cx ∙ three) ∙ kind1 }

    after-variables : (us : List Variable) (k : ℕ) → Lies xs k (each code_variable us) → After m cs vs S (k + length (each code_variable us)) → After m cs vs S k
    after-variables [] k y a = subst (After m cs vs S) (let z : k + 0 ≡ k = omega arith in z) a
    after-variables (variable w s v ∷ us) k y a =
        let c = code_is m cs vs S k (i_name w) y.0 y.1 in
        let d = code_is m cs vs S (suc k) i_declared y.2.0 y.2.1 in
        (λ z. omega arith, λ z. omega arith)

    variables-walk : (us : List Variable) (k e o : ℕ) → e ≡ k + length (each code_variable us) → lo ≤ k → e ≤ hi → Lies xs k (each code_variable us)
        → last cs 3 k ≡ suc (suc p) → After m cs vs S e → N h k ≡ o → Walked h lo hi (sites_of t us k) e o
    variables-walk [] k e o q b d y c a n = record { all = tt; numbers = ap (N h) (let z : e ≡ k = omega arith in z) ∙ n ∙ (let z : o ≡ o + 0 = omega arith in z) }
    variables-walk (variable w s v ∷ us) k e o q b d y c a n =
        let X = code_variable (variable w s v) in
        let E = each code_variable us in
        let sizes : length (X ++ E) ≡ length X + length E = length-append X E in
        let sx = size_variable_lem (variable w s v) in
        let ss = size-size s in
        let k2 = k + size_variable (variable w s v) in
        let sv : length (code_size s ++ code_value v) ≡ length (code_size s) + length (code_value v) = length-append (code_size s) (code_value v) in
        let r = lies_back xs X E k k2 (omega arith) y in
        let f = lies_front xs k X E y in
        let aft = after-variables us k2 r (subst (After m cs vs S) (let z : e ≡ k2 + length E = omega arith in z) a) in
        let ends : k2 ≡ suc (suc k) + length (code_size s ++ code_value v) = omega arith in
        let one = named w (size_of s) v c_declared k o b (omega arith) f.0 f.1 (code_is m cs vs S (suc k) i_declared f.2.0 f.2.1) (inl refl) sets.2
        (size_is m cs vs S s v k f.2.2 (subst (After m cs vs S) ends aft)) c n in
        let lows : (j : ℕ) → suc (suc k) ≤ j → j < k2 → Low (get_or cs j 0) =
        λ j g u. valued_at m cs vs S j (let l = long m cs vs S in omega arith)
        (lies_all xs valued (code_size s ++ code_value v) (suc (suc k)) f.2.2 (all_append valued (code_size s) (code_value v) (all-size s) (all_value v)) j g (omega arith)) in
        let n2 : N h k2 ≡ o + size_of s = numbers-over h (suc (suc k)) k2 (omega arith) (λ j g u. inl (low-one (get_or cs j 0) (lows j g u))) ∙ one.numbers in
        let kind2 : last cs 3 k2 ≡ suc (suc p) = last-over m cs vs S 3 (suc (suc k)) k2 (omega arith) (λ j g u. low-three (get_or cs j 0) (lows j g u)) ∙ one.kind in
        let W = variables-walk us k2 e (o + size_of s) (omega arith) (omega arith) d r kind2 a n2 in
        let nn = W.numbers in
        record {
          all = (
            record {
              declares = subst (λ i. Declares cs vs H h i (of_variable t (variable w s v)) o) (let z : suc k ≡ k + 1 = omega arith in z) one.declares;
              value = lies_back xs (code_size s) (code_value v) (suc (suc k)) (k + 2 + size_size s) (omega arith) f.2.2;
              from = λ z. omega arith;
              to = λ z. omega arith;
              inner = λ j g u. home j (omega arith) (omega arith);
            },
            W.all,
          );
          numbers = omega arith;
        }

    after_parameters : (ws : List Name) (k : ℕ) → Lies (code m) k (each code_parameter ws) → After m cs vs S (k + length (each code_parameter ws)) → After m cs vs S k
    after_parameters [] k y a = subst (After m cs vs S) (let z : k + 0 ≡ k = omega arith in z) a
    after_parameters (w ∷ ws) k y a =
        let cn = code_is m cs vs S k (i_name w) y.0 y.1 in
        let cx = code_is m cs vs S (suc k) i_parameter y.2.0 y.2.1 in
        (λ z. omega arith, λ z. omega arith)

    parameters_walk : (ws : List Name) (k e o : ℕ) → e ≡ k + length (each code_parameter ws) → lo ≤ k → e ≤ hi → Lies xs k (each code_parameter ws)
        → last cs 3 k ≡ suc (suc p) → After m cs vs S e → N h k ≡ o → Walked h lo hi (name_sites t ws k) e o
    parameters_walk [] k e o q b d y c a n = record { all = tt; numbers = ap (N h) (let z : e ≡ k = omega arith in z) ∙ n ∙ (let z : o ≡ o + 0 = omega arith in z) }
    parameters_walk (w ∷ ws) k e o q b d y c a n =
        let k2 = suc (suc k) in
        let aft = after_parameters ws k2 y.2.2 (subst (After m cs vs S) (let z : e ≡ k2 + length (each code_parameter ws) = omega arith in z) a) in
        let one = named w 1 unset c_parameter k o b (omega arith) y.0 y.1 (code_is m cs vs S (suc k) i_parameter y.2.0 y.2.1) (inr refl) sets.3 (one_number m cs vs S k aft.1) c n in
        let W = parameters_walk ws k2 e (o + 1) (omega arith) (omega arith) d y.2.2 one.kind a one.numbers in
        let nn = W.numbers in
        let VV : Walked h lo hi (name_sites t ws (k + 2)) e (o + 1) = subst (λ i. Walked h lo hi (name_sites t ws i) e (o + 1)) (let z : suc (suc k) ≡ k + 2 = omega arith in z) W in
        let vn = VV.numbers in
        record {
          all = (
            record {
              declares = subst (λ i. Declares cs vs H h i (of_parameter t w) o) (let z : suc k ≡ k + 1 = omega arith in z) one.declares;
              value = tt;
              from = λ z. absurd (omega arith);
              to = λ z. absurd (omega arith);
              inner = λ j g u. absurd (omega arith);
            },
            VV.all,
          );
          numbers = omega arith;
        }

  -- ---- in body h, from item lo to before item hi
  module _ (h lo hi : ℕ) (home : (j : ℕ) → lo ≤ j → j < hi → get_or H j 0 ≡ h) (top : hi ≤ length cs) where
    typed_numbers : (k o t c : ℕ) (x : Item) → k < length xs → item_at xs k ≡ i_type t → suc k < length xs → item_at xs (suc k) ≡ x → code_of x ≡ c → among 1 c ≡ false → N h k ≡ o → N h (suc (suc k)) ≡ o
    typed_numbers k o t c x g q i r cx one n =
        numbers-one h (suc k) c (code_is m cs vs S (suc k) x i r ∙ cx) one ∙ numbers-one h k (get_or cs k 0) refl (type_at m cs vs S k t g q).3 ∙ n

    declaration_walk : (x : Item) (c t : ℕ) (us : List Variable) (k e o : ℕ) → code_of x ≡ c → among 1 c ≡ false → among 3 c ≡ true
        → e ≡ k + length (code_declaration x (declare t us)) → lo ≤ k → e ≤ hi → Lies xs k (code_declaration x (declare t us)) → After m cs vs S e → N h k ≡ o
        → Walked h lo hi (sites_in (declare t us) k) e o
    declaration_walk x c t us k e o cx one three q b d y a n =
        let T = type_at m cs vs S k t y.0 y.1 in
        let cc = code_is m cs vs S (suc k) x y.2.0 y.2.1 ∙ cx in
        subst (λ i. Walked h lo hi (sites_of t us i) e o) (let z : suc (suc k) ≡ k + 2 = omega arith in z)
        (variables-walk t h lo hi k home top T.0 T.1 T.2 us (suc (suc k)) e o (omega arith) (omega arith) d y.2.2 (last-here m cs vs S 3 (suc k) (ap (among 3) cc ∙ three)) a
        (typed_numbers k o t c x y.0 y.1 y.2.0 y.2.1 cx one n))

    declarations-walk : (ds : List Declaration) (k e o : ℕ) → e ≡ k + length (each (code_declaration i_local) ds) → lo ≤ k → e ≤ hi
        → Lies xs k (each (code_declaration i_local) ds) → After m cs vs S e → N h k ≡ o → Walked h lo hi (local_sites ds k) e o
    declarations-walk [] k e o q b d y a n = record { all = tt; numbers = ap (N h) (let z : e ≡ k = omega arith in z) ∙ n ∙ (let z : o ≡ o + 0 = omega arith in z) }
    declarations-walk (declare t us ∷ ds) k e o q b d y a n =
        let X = code_declaration i_local (declare t us) in
        let E = each (code_declaration i_local) ds in
        let sizes : length (X ++ E) ≡ length X + length E = length-append X E in
        let sx = size_declaration_lem i_local (declare t us) in
        let k2 = k + size_declaration (declare t us) in
        let back = lies_back xs X E k k2 (omega arith) y in
        let W = declaration_walk i_local c_local t us k k2 o refl sets.4 sets.7 (omega arith) b (omega arith) (lies_front xs k X E y)
        (after-declarations m cs vs S ds k2 back (subst (After m cs vs S) (let z : e ≡ k2 + length E = omega arith in z) a)) n in
        walk-join h lo hi (sites_in (declare t us) k) (local_sites ds k2) e o W.all (declarations-walk ds k2 e (o + sizes_of (sites_in (declare t us) k)) (omega arith) (omega arith) d back a W.numbers)

    groups_walk : (gs : List Group) (k e o : ℕ) → e ≡ k + length (each code_group gs) → lo ≤ k → e ≤ hi
        → Lies xs k (each code_group gs) → After m cs vs S e → N h k ≡ o → Walked h lo hi (group_sites gs k) e o
    groups_walk [] k e o q b d y a n = record { all = tt; numbers = ap (N h) (let z : e ≡ k = omega arith in z) ∙ n ∙ (let z : o ≡ o + 0 = omega arith in z) }
    groups_walk (group t ws ∷ gs) k e o q b d y a n =
        let P = each code_parameter ws in
        let X = code_group (group t ws) in
        let G = each code_group gs in
        let sizes : length (X ++ G) ≡ length X + length G = length-append X G in
        let sx = size-group (group t ws) in
        let k3 = k + size_group (group t ws) in
        let front = lies_front xs k X G y in
        let back = lies_back xs X G k k3 (omega arith) y in
        let T = type_at m cs vs S k t y.0 y.1 in
        let cg = code_is m cs vs S (suc k) i_group y.2.0 y.2.1 in
        let W = parameters_walk t h lo hi k home top T.0 T.1 T.2 ws (suc (suc k)) k3 o (omega arith) (omega arith) (omega arith) front.2.2 (last-here m cs vs S 3 (suc k) (ap (among 3) cg ∙ sets.9))
        (after_groups m cs vs S gs k3 back (subst (After m cs vs S) (let z : e ≡ k3 + length G = omega arith in z) a))
        (typed_numbers k o t c_group i_group y.0 y.1 y.2.0 y.2.1 refl sets.6 n) in
        let VV : Walked h lo hi (group_in (group t ws) k) k3 o = subst (λ i. Walked h lo hi (name_sites t ws i) k3 o) (let z : suc (suc k) ≡ k + 2 = omega arith in z) W in
        walk-join h lo hi (group_in (group t ws) k) (group_sites gs k3) e o VV.all (groups_walk gs k3 e (o + sizes_of (group_in (group t ws) k)) (omega arith) (omega arith) d back a VV.numbers)

  -- ---- a unit with a body: its own sites, from its body to its statements
  module _ (u b f t : ℕ) (F : Frame m cs vs S u b f t) (af : After m cs vs S f) where
    home : (j : ℕ) → suc u ≤ j → j < suc t → get_or H j 0 ≡ suc u
    home j x y = home_in m cs vs S u b f t F j x (omega arith)

    start : N (suc u) (suc u) ≡ 0
    start =
        let i0 = F.parts in
        let i1 = F.inner in
        let i2 = F.last in
        let top = F.top in
        numbers-over (suc u) 0 (suc u) (omega arith) (λ i x y. inr (λ z. (let k = home_most cs S.few i (omega arith) in omega arith))) ∙ (starts cs vs H (suc u)).0

    own_sites : (gs : List Group) (ds : List Declaration) → b ≡ suc u + length (each code_group gs) → f ≡ suc b + length (each (code_declaration i_local) ds)
        → Lies xs (suc u) (each code_group gs) → Lies xs (suc b) (each (code_declaration i_local) ds)
        → AllSited (suc u) b f (group_sites gs (suc u) ++ local_sites ds (suc b)) 0
    own_sites gs ds eb ef yg yd =
        let i0 = F.parts in
        let i1 = F.inner in
        let i2 = F.last in
        let top = F.top in
        let ab : After m cs vs S b = ((λ z. (let e = F.begin in omega arith)), (after-declarations m cs vs S ds (suc b) yd (subst (After m cs vs S) ef af)).0) in
        let G = groups_walk (suc u) (suc u) (suc t) home (omega arith) gs (suc u) b 0 eb (omega arith) (omega arith) yg ab start in
        let nb : N (suc u) (suc b) ≡ 0 + sizes_of (group_sites gs (suc u)) = numbers-one (suc u) b c_body F.begin marks ∙ G.numbers in
        let D = declarations-walk (suc u) (suc b) f (λ j x y. home j (omega arith) (omega arith)) (omega arith) ds (suc b) f (0 + sizes_of (group_sites gs (suc u))) ef (omega arith) (omega arith) yd af nb in
        all_join (suc u) b f (group_sites gs (suc u)) (local_sites ds (suc b)) 0 (bare gs (suc u) 0 G.all) (wider (suc u) (suc b) f b f (omega arith) (omega arith) (local_sites ds (suc b)) (0 + sizes_of (group_sites gs (suc u))) D.all)
      where
        -- parameters have no values
        names : (k : ℕ) (ws : List Name) (i o : ℕ) → AllSited (suc u) (suc u) (suc t) (name_sites k ws i) o → AllSited (suc u) b f (name_sites k ws i) o
        names k [] i o a = tt
        names k (w ∷ ws) i o a = (record { declares = a.0.declares; value = tt; from = λ z. absurd (omega arith); to = λ z. absurd (omega arith); inner = λ j g l. absurd (omega arith) }, names k ws (i + 2) (o + 1) a.1)

        part : (l r : List Site) (o : ℕ) → AllSited (suc u) (suc u) (suc t) (l ++ r) o → AllSited (suc u) (suc u) (suc t) l o × AllSited (suc u) (suc u) (suc t) r (o + sizes_of l)
        part [] r o a = (tt, subst (AllSited (suc u) (suc u) (suc t) r) (let z : o ≡ o + 0 = omega arith in z) a)
        part (s ∷ l) r o a =
            let q = part l r (o + s.var.size) a.1 in
            ((a.0, q.0), subst (AllSited (suc u) (suc u) (suc t) r) (let z : o + s.var.size + sizes_of l ≡ o + (s.var.size + sizes_of l) = omega arith in z) q.1)

        bare : (gs : List Group) (i o : ℕ) → AllSited (suc u) (suc u) (suc t) (group_sites gs i) o → AllSited (suc u) b f (group_sites gs i) o
        bare [] i o a = tt
        bare (group k ws ∷ gs) i o a =
            let G = name_sites k ws (i + 2) in
            let R = group_sites gs (i + size_group (group k ws)) in
            let q = part G R o a in
            all_join (suc u) b f G R o (names k ws (i + 2) o q.0) (bare gs (i + size_group (group k ws)) (o + sizes_of G) q.1)

  -- of unit x, whose items begin at item j
  pub unit_sited : (x : Part) (j : ℕ) → Bodied x → Frame m cs vs S (head_in x j) (body_in x j) (start_in (body_of x) (body_in x j)) (end_in (body_of x) (body_in x j)) → Lies xs j (code_part x)
      → After m cs vs S (j + size_part x) → AllSited (suc (head_in x j)) (body_in x j) (start_in (body_of x) (body_in x j)) (unit_sites x j) 0
  unit_sited (mtypes ws) j bo F y after = absurd bo
  unit_sited (global d) j bo F y after = absurd bo
  unit_sited (process a w gs (body ds q)) j bo F y after =
      let A = code_activity a w in
      let G = each code_group gs in
      let X = code_body (body ds q) in
      let s1 : length (A ++ G) ≡ length A + length G = length-append A G in
      let s2 = size_activity_lem a w in
      let s3 = size_groups gs in
      let s4 = size-declarations ds in
      let u = j + size_activity a - 1 in
      let b = j + size_activity a + sizes.sum size_group gs in
      let f = b + 1 + sizes.sum size_declaration ds in
      let t = f + size_in q in
      let i0 = F.parts in
      let la = some-items a in
      let z1 : suc (j + size_activity a - 1) ≡ j + size_activity a = omega arith in
      let aft = subst (After m cs vs S) (let z : j + size_part (process a w gs (body ds q)) ≡ suc t = omega arith in z) after in
      let yb = lies_back xs (A ++ G) X j b (omega arith) y in
      let r = own_sites u b f t F (frame_behind m cs vs S u b f t F aft.0) gs ds (omega arith) (omega arith) (lies_back xs A G j (suc u) (omega arith) (lies_front xs j (A ++ G) X y))
      (inner-declarations m cs vs S ds q b yb) in
      subst (λ i. AllSited (suc u) b f (group_sites gs i ++ local_sites ds (b + 1)) 0) z1
      (subst (λ i. AllSited (suc u) b f (group_sites gs (suc u) ++ local_sites ds i) 0) (let z : suc b ≡ b + 1 = omega arith in z) r)
  unit_sited (init (body ds q)) j bo F y after =
      let s4 = size-declarations ds in
      let b = j + 1 in
      let f = b + 1 + sizes.sum size_declaration ds in
      let t = f + size_in q in
      let yb : Lies xs b (code_body (body ds q)) = subst (λ i. Lies xs i (code_body (body ds q))) (let z : suc j ≡ j + 1 = omega arith in z) y.2 in
      let aft = subst (After m cs vs S) (let z : j + size_part (init (body ds q)) ≡ suc t = omega arith in z) after in
      let r = own_sites j b f t F (frame_behind m cs vs S j b f t F aft.0) [] ds (omega arith) (omega arith) tt (inner-declarations m cs vs S ds q b yb) in
      subst (λ i. AllSited (suc j) b f (local_sites ds i) 0) (let z : suc b ≡ b + 1 = omega arith in z) r

  -- where the items of a unit stand, and what stands behind it
  units_stand : (n : Model) (front : List Item) (j k i : ℕ) → xs ≡ front ++ code n → j ≡ length front → i ≡ j + items_before n k → Bodied (unit_at n k)
      → Lies xs i (code_part (unit_at n k)) × After m cs vs S (i + size_part (unit_at n k))
  unfolding items_before
  units_stand [] front j k i split at ei b = absurd b
  units_stand (x ∷ n) front j zero i split at ei b =
      let r = first-stands m cs vs S x n front j split at in
      subst (λ i. Lies xs i (code_part x) × After m cs vs S (i + size_part x)) (let z : j ≡ i = omega arith in z) (r.0, free_after m cs vs S (j + size_part x) r.2)
  units_stand (x ∷ n) front j (suc k) i split at ei b =
      let s3 : length (front ++ code_part x) ≡ length front + length (code_part x) = length-append front (code_part x) in
      let s4 = size-part x in
      units_stand n (front ++ code_part x) (j + size_part x) k i (split ∙ inv (append_assoc front (code_part x) (code n))) (omega arith) (omega arith) b

  pub unit_there : (k : ℕ) → Bodied (unit_at m k) → Lies (code m) (items_before m k) (code_part (unit_at m k)) × After m cs vs S (items_before m k + size_part (unit_at m k))
  unit_there k b = units_stand m [] 0 k (items_before m k) refl refl (omega arith) b

  -- ---- the globals
  here-walk : (x : Part) (j o : ℕ) → Lies xs j (code_part x) → j + size_part x ≤ length cs → After m cs vs S (j + size_part x) → inside_of cs j ≡ 0 → N 0 j ≡ o
      → AllSited 0 0 (length cs) (global_here x j) o × (sizes_of (global_here x j) ≡ total_of (global_in x))
  here-walk (mtypes ws) j o y top after ins n = (tt, refl)
  here-walk (global (declare t us)) j o y top after ins n =
      let e = j + size_part (global (declare t us)) in
      let sz = size-part (global (declare t us)) in
      let lg = long m cs vs S in
      let fl = flat m cs vs S j e ins (omega arith) top (λ i u v. (let w = (settled_at m cs vs S i (omega arith) (lies_all xs settled (code_declaration i_global (declare t us)) j y
      (all_declaration i_global global-settled (declare t us)) i u (omega arith))).0 in
      omega arith)) in
      let W = declaration_walk 0 j e fl.0 top i_global c_global t us j e o refl sets.5 sets.8 (omega arith) (omega arith) (omega arith) y after n in
      (wider 0 j e 0 (length cs) (omega arith) top (sites_in (declare t us) j) o W.all, totals t us (j + 2))
    where
      totals : (t : ℕ) (us : List Variable) (i : ℕ) → sizes_of (sites_of t us i) ≡ total_of (global_in (global (declare t us)))
      totals t [] i = refl
      totals t (variable w s v ∷ us) i = ap (λ n. size_of s + n) (totals t us (i + size_variable (variable w s v)))
  here-walk (process a w gs b) j o y top after ins n = (tt, refl)
  here-walk (init b) j o y top after ins n = (tt, refl)

  units-walk : (n : Model) (front : List Item) (E : List Entry) (j o c : ℕ) → xs ≡ front ++ code n → j ≡ length front → Scoped m cs vs H S E 0 j o c → inside_of cs j ≡ 0
      → AllSited 0 0 (length cs) (global_sites n j) o
  units-walk [] front E j o c split at sc ins = tt
  units-walk (x ∷ n) front E j o c split at sc ins =
      let r = first-stands m cs vs S x n front j split at in
      let X = code_part x in
      let sx = size-part x in
      let af = free_after m cs vs S (j + size_part x) r.2 in
      let p = o + total_of (global_in x) in
      let b = unit-behind m cs vs S E j o c x r.0 r.1 af sc ins in
      let s3 : length (front ++ X) ≡ length front + length X = length-append front X in
      let h = here-walk x j o r.0 r.1 af ins sc.numbers in
      let w = units-walk n (front ++ X) (E ++ entries_in j o c x) (j + size_part x) p (c + length (message_in x)) (split ∙ inv (append_assoc front X (code n))) (omega arith) b.0 b.1 in
      all_join 0 0 (length cs) (global_here x j) (global_sites n (j + size_part x)) o h.0 (subst (λ i. AllSited 0 0 (length cs) (global_sites n (j + size_part x)) (o + i)) (inv h.1) w)

  pub globals_sited : AllSited 0 0 (length cs) (global_sites m 0) 0
  globals_sited = units-walk m [] [] 0 0 0 refl refl (scoped_start m cs vs H S 0) (inside-none cs)

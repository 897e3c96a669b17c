-- ONE MORE PROCESS in the numbers is one more in the plain state (`called-begins`), for tables that chart the model: its variables made, its parameters given by their positions.
use Prim.Native.Nat.{ℕ, zero, suc, ◌+◌, ◌-◌, ◌<◌, ◌≤◌}
use native.Mathlib.Omega.{arith}
use native.Mathlib.Decide.{dec_lt}
use borrow.Author.Tests.{lt-ltb}
use mathlib.Core.Path.{◌≡◌, refl, sym as inv, ap, ap₂, ◌∙◌, subst}
use mathlib.Core.Bool.{Bool, true, false, cond}
use mathlib.Core.List.{List, [], ◌∷◌, ◌++◌, map, append_assoc, append-nil}
use lib.ListN.{length, get_or, set, drop, replicate, length-append, length-replicate}
use lib.IntN.{ℤ, pos}
use lib.Dec.{ltb}
use Rattle.base_ceilings.specs.Ceilings.{channels_most, numbers_most, processes_most}
use Rattle.base_bytes.specs.Choice.{pick}
use Rattle.table_layout.specs.Access.{link_of}
use Rattle.base_values.specs.Types.{cast_of, signed_width, width_of, within, in_type}
use Rattle.base_values.proofs.Laws.{cast_id}
use Rattle.state_layout.specs.Layout.{kept, local_at, process_at_lem}
use Rattle.step_eval.specs.Variables.{type_of, slot_of}
use Rattle.agree_start.specs.Beginnings.{valued_in, variable_in, variables_in, declaration_in, locals_in, set_out, begins_in, names_in, groups_in, called_in}
use Rattle.spec_grammar.specs.Tree.{Name, Value, unset, set_number, set_minus, set_true, set_false, set_name, set_channel, Variable, variable, Declaration, declare, Group, group, Body, body, Part, process, init, Model}
use Rattle.spec_rules.specs.Units.{tally}
use Rattle.spec_rules.specs.Ceilings.{made_by_variable, made_by_declaration, made_by_body}
use Rattle.spec_machine.specs.Sizes.{size_variable, size_declaration, size_group, size_activity}
use Rattle.spec_machine.specs.State.{Channel, Process, State, no_process}
use Rattle.spec_machine.specs.Names.{Var, of_parameter, of_groups, parameters_of, locals_of, variables_of, unit_at}
use Rattle.spec_machine.specs.Begins.{Made, makes, makes_all, given, items_before, body_in, body_of, first_in, begins}
use Rattle.spec_machine.specs.Plain.{no_var, one_stored, with_process}
use Rattle.agree_encode.specs.Encode.{pad, flat, head_in, head_of, encode}
use Rattle.spec_machine.specs.Places.{Bodied, body_at}
use Rattle.agree_encode.specs.Tabled.{offset_of, total_of, Linked}
use Rattle.agree_encode.proofs.Rows.{get_left, get_right, set-right, ahead}
use Rattle.agree_encode.proofs.Numbers.{processes_are, channels_are, local_stored}
use Rattle.agree_encode.proofs.Grows.{channel-more, process-more}
use Rattle.agree_encode.proofs.Fitting.{ahead_is, flat_long}
use Rattle.agree_states.specs.Sites.{chan, Site, no_site, site_of, sites_of, sites_in, local_sites, name_sites, group_sites, body_sites, unit_sites, sites_at, groups_of}
use Rattle.agree_states.specs.Charted.{local_item, Charted}
use Rattle.agree_states.proofs.Sites.{some-items, var_of, unit_vars, group_vars, body_vars, sites_long, site_var, unit-item}
use Rattle.agree_states.proofs.Making.{Shaped, shaped-set, Writes, Good, making, channels_in, along, sites_made, set-one, set_mid}

-- ---- zeros
zero_in : (ty : ℕ) → in_type ty (pos 0) ≡ true
unfolding in_type width_of
zero_in ty = go (ltb ty 38) (ltb ty 40) (ltb ty 44) (ltb ty 45)
  where
    go : (a b c d : Bool) → within (signed_width (cond a 32 (cond b 1 (cond c 8 (cond d 16 32))))) (cond a 32 (cond b 1 (cond c 8 (cond d 16 32)))) (pos 0) ≡ true
    go true b c d = refl
    go false true c d = refl
    go false false true d = refl
    go false false false true = refl
    go false false false false = refl

cast_zero : (ty : ℕ) → cast_of ty (pos 0) ≡ pos 0
cast_zero ty = cast_id ty (pos 0) (zero_in ty)

abbrev pub zeros : List Var → List (List ℤ)
zeros [] = []
zeros (x ∷ xs) = replicate x.size (pos 0) ∷ zeros xs

zeros-both : (xs ys : List Var) → zeros (xs ++ ys) ≡ zeros xs ++ zeros ys
zeros-both [] ys = refl
zeros-both (x ∷ xs) ys = ap (λ (l : List (List ℤ)). replicate x.size (pos 0) ∷ l) (zeros-both xs ys)

pub zeros_long : (xs : List Var) → length (zeros xs) ≡ length xs
zeros_long [] = refl
zeros_long (x ∷ xs) = ap suc (zeros_long xs)

pub zeros-shaped : (xs : List Var) → Shaped xs (zeros xs)
zeros-shaped xs = record { all = zeros_long xs; sized = go xs }
  where
    go : (xs : List Var) (i : ℕ) → i < length xs → length (get_or (zeros xs) i []) ≡ (get_or xs i no_var).size
    go [] i h = absurd (omega arith)
    go (x ∷ xs) zero h = length-replicate x.size (pos 0)
    go (x ∷ xs) (suc i) h = go xs i (omega arith)

pad_replicate : (n k : ℕ) (l : List ℤ) → pad n l ≡ pad n [] → pad (k + n) (replicate k (pos 0) ++ l) ≡ pad (k + n) []
unfolding pad
pad_replicate n zero l e = ap (λ i. pad i l) (let z : 0 + n ≡ n = omega arith in z) ∙ e ∙ ap (λ i. pad i []) (let z : n ≡ 0 + n = omega arith in z)
pad_replicate n (suc k) l e =
    ap (λ i. pad i (pos 0 ∷ (replicate k (pos 0) ++ l))) (let z : suc k + n ≡ suc (k + n) = omega arith in z) ∙ ap (λ (y : List ℤ). pos 0 ∷ y) (pad_replicate n k l e)
    ∙ ap (λ i. pad i []) (let z : suc (k + n) ≡ suc k + n = omega arith in z)

pub pad-zeros : (xs : List Var) (n : ℕ) → total_of xs ≤ n → pad n (flat (zeros xs)) ≡ pad n []
pad-zeros [] n h = refl
pad-zeros (x ∷ xs) n h =
    let q : x.size + (n - x.size) ≡ n = omega arith in
    ap (λ i. pad i (flat (zeros (x ∷ xs)))) (inv q) ∙ pad_replicate (n - x.size) x.size (flat (zeros xs)) (pad-zeros xs (n - x.size) (omega arith)) ∙ ap (λ i. pad i []) q

-- ---- arguments by their positions
get_drop : (l : List ℤ) (n : ℕ) → get_or (drop n l) 0 (pos 0) ≡ get_or l n (pos 0)
get_drop l zero = refl
get_drop [] (suc n) = refl
get_drop (x ∷ l) (suc n) = get_drop l n

drop-next : (l : List ℤ) (n : ℕ) → drop 1 (drop n l) ≡ drop (suc n) l
drop-next [] zero = refl
drop-next (x ∷ l) zero = refl
drop-next [] (suc n) = refl
drop-next (x ∷ l) (suc n) = drop-next l n

given-next : (m : Model) (x : Var) (xs : List Var) (l : List ℤ) (n : ℕ) → given m (x ∷ xs) (drop n l) ≡ (cast_of x.type (get_or l n (pos 0)) ∷ []) ∷ given m xs (drop (suc n) l)
unfolding given
given-next m x xs l n = first (drop n l) ∙ ap₂ (λ (v : ℤ) (r : List ℤ). (cast_of x.type v ∷ []) ∷ given m xs r) (get_drop l n) (drop-next l n)
  where
    first : (vs : List ℤ) → given m (x ∷ xs) vs ≡ (cast_of x.type (get_or vs 0 (pos 0)) ∷ []) ∷ given m xs (drop 1 vs)
    first [] = refl
    first (v ∷ vs) = refl

given-none : (m : Model) (vs : List ℤ) → [] ≡ given m [] vs
unfolding given
given-none m vs = refl

-- ---- the walks of the code are walks along sites
module _ (T : List ℕ) (p : ℕ) where
  along-both : (l k : List Site) (s : List ℤ) → along T p (l ++ k) s ≡ along T p k (along T p l s)
  along-both [] k s = refl
  along-both (x ∷ l) k s = along-both l k (valued_in T (link_of T x.item) p x.var.value x.worth s)

  variables-along : (k : ℕ) (xs : List Variable) (i : ℕ) (s : List ℤ) → variables_in T p xs i s ≡ along T p (sites_of k xs i) s
  variables-along k [] i s = refl
  variables-along k (variable w z v ∷ xs) i s = variables-along k xs (i + size_variable (variable w z v)) (variable_in T p (variable w z v) i s)

  pub declaration_along : (d : Declaration) (i : ℕ) (s : List ℤ) → declaration_in T p d i s ≡ along T p (sites_in d i) s
  declaration_along (declare k xs) i s = variables-along k xs (i + 2) s

  locals_along : (ds : List Declaration) (i : ℕ) (s : List ℤ) → locals_in T p ds i s ≡ along T p (local_sites ds i) s
  locals_along [] i s = refl
  locals_along (d ∷ ds) i s =
      let j = i + size_declaration d in
      locals_along ds j (declaration_in T p d i s) ∙ ap (along T p (local_sites ds j)) (declaration_along d i s) ∙ inv (along-both (sites_in d i) (local_sites ds j) s)

  module _ (l : List ℤ) where
    abbrev giving : ℕ → List Site → List ℤ → List ℤ
    giving n [] s = s
    giving n (x ∷ L) s = giving (suc n) L (set s (slot_of (link_of T x.item) p 0) (cast_of (type_of (link_of T x.item)) (get_or l n (pos 0))))

    giving-both : (n : ℕ) (x y : List Site) (s : List ℤ) → giving n (x ++ y) s ≡ giving (n + length x) y (giving n x s)
    giving-both n [] y s = ap (λ k. giving k y s) (let z : n ≡ n + 0 = omega arith in z)
    giving-both n (a ∷ x) y s =
        giving-both (suc n) x y (set s (slot_of (link_of T a.item) p 0) (cast_of (type_of (link_of T a.item)) (get_or l n (pos 0))))
        ∙ ap (λ k. giving k y (giving n (a ∷ x) s)) (let z : suc n + length x ≡ n + suc (length x) = omega arith in z)

    names-giving : (k n : ℕ) (ws : List Name) (i : ℕ) (s : List ℤ) → names_in T p l n ws i s ≡ giving n (name_sites k ws i) s
    names-giving k n [] i s = refl
    names-giving k n (w ∷ ws) i s =
        let s1 = set s (slot_of (link_of T (i + 1)) p 0) (cast_of (type_of (link_of T (i + 1))) (get_or l n (pos 0))) in
        ap (λ a. names_in T p l a ws (i + 2) s1) (let z : n + 1 ≡ suc n = omega arith in z) ∙ names-giving k (suc n) ws (i + 2) s1

    names_long : (k : ℕ) (ws : List Name) (i : ℕ) → length (name_sites k ws i) ≡ length ws
    names_long k [] i = refl
    names_long k (w ∷ ws) i = ap suc (names_long k ws (i + 2))

    groups_giving : (n : ℕ) (gs : List Group) (i : ℕ) (s : List ℤ) → groups_in T p l n gs i s ≡ giving n (group_sites gs i) s
    groups_giving n [] i s = refl
    groups_giving n (group k ws ∷ gs) i s =
        let j = i + size_group (group k ws) in
        groups_giving (n + length ws) gs j (names_in T p l n ws (i + 2) s)
        ∙ ap₂ (λ a s. giving a (group_sites gs j) s) (ap (λ a. n + a) (inv (names_long k ws (i + 2)))) (names-giving k n ws (i + 2) s)
        ∙ inv (giving-both n (name_sites k ws (i + 2)) (group_sites gs j) s)

-- ---- variables of the last process
module _ (m : Model) (t : List ℤ) (g : List (List ℤ)) (ps : List Process) (k place : ℕ) (xs : List Var) (few : length ps < processes_most) (small : total_of xs ≤ numbers_most) where
  abbrev last : List (List ℤ) → Process
  last N = record { unit = k; place = place; variables = N }

  abbrev pub state : List (List ℤ) → List Channel → State
  state N C = record { globals = g; processes = ps ++ last N ∷ []; channels = C }

  abbrev pub numbers : List (List ℤ) → List Channel → List ℤ
  numbers N C = encode m (state N C) ++ t

  there : (N : List (List ℤ)) (C : List Channel) → length ps < length (state N C).processes
  there N C = let e = length-append ps (last N ∷ []) in omega arith

  few_now : (N : List (List ℤ)) (C : List Channel) → length (state N C).processes ≤ processes_most
  few_now N C = let e = length-append ps (last N ∷ []) in omega arith

  last_is : (N : List (List ℤ)) → get_or (ps ++ last N ∷ []) (length ps) no_process ≡ last N
  last_is N = get_right ps (last N ∷ []) no_process (length ps) 0 (length ps) refl (omega arith)

  local_set : (N : List (List ℤ)) (C : List Channel) (x : Process) → get_or (ps ++ last N ∷ []) (length ps) no_process ≡ x → (i n : ℕ) (v : ℤ) → i < length x.variables
      → n < length (get_or x.variables i []) → length (flat x.variables) ≤ numbers_most
      → set (numbers N C) (local_at (length ps) (ahead x.variables i + n)) v
      ≡ encode m (with_process (length ps) record { unit = x.unit; place = x.place; variables = one_stored x.variables i n v } (state N C)) ++ t
  local_set N C x e i n v =
      subst (λ (x : Process). i < length x.variables → n < length (get_or x.variables i []) → length (flat x.variables) ≤ numbers_most
      → set (numbers N C) (local_at (length ps) (ahead x.variables i + n)) v
      ≡ encode m (with_process (length ps) record { unit = x.unit; place = x.place; variables = one_stored x.variables i n v } (state N C)) ++ t) e
      (local_stored m t (state N C) (length ps) (there N C) (few_now N C) i n v)

  pub local_writes : Writes m xs local_at (length ps) numbers
  local_writes =
      record {
        store = λ N C i n v S h q.
            let a : length (flat N) ≤ numbers_most = subst (◌≤ numbers_most) (inv (flat_long xs N S.all S.sized)) small in
            ap (λ j. set (numbers N C) (local_at (length ps) (j + n)) v) (inv (ahead_is xs N S.all S.sized i))
            ∙ local_set N C (last N) (last_is N) i n v (subst (i <◌) (inv S.all) h) (subst (n <◌) (inv (S.sized i h)) q) a
            ∙ ap (λ (l : List Process). encode m record { globals = g; processes = l; channels = C } ++ t)
            (set-right ps (last N ∷ []) (last (one_stored N i n v)) (length ps) 0 (length ps) refl (omega arith));
        make = λ N C y e h. channel-more m t (state N C) y e h;
        count = λ N C h. channels_are m t (state N C) h;
      }

-- ---- parameters in turn
module _ (m : Model) (T : List ℕ) (xs : List Var) (at : ℕ → ℕ → ℕ) (p : ℕ) (E : List (List ℤ) → List Channel → List ℤ) (W : Writes m xs at p E) (l : List ℤ) (u : ℕ) where
  params_given : (L : List Site) (n : ℕ) (A Z : List (List ℤ)) (C : List Channel) → ((j : ℕ) → j < length L → Good m T xs at p E W u (get_or L j no_site) (n + j) (n + j))
      → ((j : ℕ) → j < length L → (get_or L j no_site).var.size ≡ 1) → Shaped xs (A ++ Z) → length A ≡ n → length L ≤ length Z
      → giving T p l n L (E (A ++ Z) C) ≡ E ((A ++ given m (map var_of L) (drop n l)) ++ drop (length L) Z) C
  params_given [] n A Z C G one S e h = ap (λ (N : List (List ℤ)). E (N ++ Z) C) (inv (append-nil A) ∙ ap (λ (N : List (List ℤ)). A ++ N) (given-none m (drop n l)))
  params_given (x ∷ L) n A [] C G one S e h = absurd (omega arith)
  params_given (x ∷ L) n A (z ∷ Z) C G one S e h =
      let q : n + 0 ≡ n = omega arith in
      let g : Good m T xs at p E W u x n n = subst (λ a. Good m T xs at p E W u x a a) q (G 0 (omega arith)) in
      let o : x.var.size ≡ 1 = one 0 (omega arith) in
      let k = link_of T x.item in
      let v = cast_of (type_of (link_of T x.item)) (get_or l n (pos 0)) in
      let w = cast_of x.var.type (get_or l n (pos 0)) in
      let s : (get_or xs n no_var).size ≡ 1 = ap (λ (y : Var). y.size) g.var ∙ o in
      let zl : length z ≡ 1 = ap length (inv (get_right A (z ∷ Z) [] n 0 n e (omega arith))) ∙ S.sized n g.here ∙ s in
      let first : set (E (A ++ z ∷ Z) C) (slot_of (link_of T x.item) p 0) (cast_of (type_of (link_of T x.item)) (get_or l n (pos 0)))
      ≡ E ((A ++ (cast_of x.var.type (get_or l n (pos 0)) ∷ []) ∷ []) ++ Z) C
      = ap₂ (λ a (b : ℤ). set (E (A ++ z ∷ Z) C) a b) (g.link.slot p 0 (omega arith)) (ap (λ a. cast_of a (get_or l n (pos 0))) g.link.type)
      ∙ W.store (A ++ z ∷ Z) C n 0 w S g.here (omega arith)
      ∙ ap (λ (b : List ℤ). E (set (A ++ z ∷ Z) n b) C) (ap (λ (b : List ℤ). set b 0 w) (get_right A (z ∷ Z) [] n 0 n e (omega arith)) ∙ set-one z w zl)
      ∙ ap (λ (N : List (List ℤ)). E N C) (set_mid A z (w ∷ []) Z n e) in
      let sh : Shaped xs ((A ++ (cast_of x.var.type (get_or l n (pos 0)) ∷ []) ∷ []) ++ Z) = subst (Shaped xs) (set_mid A z (w ∷ []) Z n e) (shaped-set xs (A ++ z ∷ Z) n (w ∷ []) S (inv s)) in
      let lon : length (A ++ (w ∷ []) ∷ []) ≡ suc n = length-append A ((w ∷ []) ∷ []) ∙ (let y : length A + 1 ≡ suc n = omega arith in y) in
      ap (giving T p l (suc n) L) first
      ∙ params_given L (suc n) (A ++ (w ∷ []) ∷ []) Z C (λ j b. subst (λ a. Good m T xs at p E W u (get_or L j no_site) a a) (let y : n + suc j ≡ suc n + j = omega arith in y) (G (suc j) (omega arith)))
      (λ j b. one (suc j) (omega arith)) sh lon (omega arith)
      ∙ ap (λ (N : List (List ℤ)). E (N ++ drop (length L) Z) C)
      (append_assoc A ((w ∷ []) ∷ []) (given m (map var_of L) (drop (suc n) l)) ∙ ap (λ (N : List (List ℤ)). A ++ N) (inv (given-next m x.var (map var_of L) l n)))

-- ---- a unit's sites: those of its parameters, then those of its body
unit_sites_lem : (u : Part) (i : ℕ) → Bodied u → unit_sites u i ≡ group_sites (groups_of u) (suc (head_in u i)) ++ body_sites (body_of u) (body_in u i)
unit_sites_lem (process a w gs b) i h =
    ap (λ j. group_sites gs j ++ body_sites b (body_in (process a w gs b) i)) (let e = some-items a in let z : i + size_activity a ≡ suc (i + size_activity a - 1) = omega arith in z)
unit_sites_lem (init b) i h = refl
unit_sites_lem (Rattle.spec_grammar.specs.Tree.mtypes _) i h = elim h [ ]
unit_sites_lem (Rattle.spec_grammar.specs.Tree.global _) i h = elim h [ ]

unit_params : (u : Part) → Bodied u → of_groups (groups_of u) ≡ parameters_of u
unit_params (process a w gs b) h = refl
unit_params (init b) h = refl
unit_params (Rattle.spec_grammar.specs.Tree.mtypes _) h = elim h [ ]
unit_params (Rattle.spec_grammar.specs.Tree.global _) h = elim h [ ]

pub unit-split : (u : Part) → Bodied u → variables_of u ≡ parameters_of u ++ locals_of (body_of u)
unit-split (process a w gs b) h = refl
unit-split (init b) h = refl
unit-split (Rattle.spec_grammar.specs.Tree.mtypes _) h = elim h [ ]
unit-split (Rattle.spec_grammar.specs.Tree.global _) h = elim h [ ]

names-one : (k : ℕ) (ws : List Name) (j : ℕ) → j < length (map (of_parameter k) ws) → (get_or (map (of_parameter k) ws) j no_var).size ≡ 1
names-one k [] j h = absurd (omega arith)
names-one k (w ∷ ws) zero h = refl
names-one k (w ∷ ws) (suc j) h = names-one k ws j (omega arith)

-- each parameter has one number
groups_one : (gs : List Group) (j : ℕ) → j < length (of_groups gs) → (get_or (of_groups gs) j no_var).size ≡ 1
groups_one [] j h = absurd (omega arith)
groups_one (group k ws ∷ gs) j h = go (dec_lt j (length (map (of_parameter k) ws))) (groups_one gs (j - length (map (of_parameter k) ws)))
  where
    go : Dec (j < length (map (of_parameter k) ws)) → (j - length (map (of_parameter k) ws) < length (of_groups gs) → (get_or (of_groups gs) (j - length (map (of_parameter k) ws)) no_var).size ≡ 1)
        → (get_or (map (of_parameter k) ws ++ of_groups gs) j no_var).size ≡ 1
    go (yes a) r = ap (λ (x : Var). x.size) (get_left (map (of_parameter k) ws) (of_groups gs) no_var j a) ∙ names-one k ws j a
    go (no a) r =
        let e = length-append (map (of_parameter k) ws) (of_groups gs) in
        ap (λ (x : Var). x.size) (get_right (map (of_parameter k) ws) (of_groups gs) no_var (length (map (of_parameter k) ws)) (j - length (map (of_parameter k) ws)) j refl (omega arith)) ∙ r (omega arith)

pub params_one : (u : Part) → Bodied u → (j : ℕ) → j < length (parameters_of u) → (get_or (parameters_of u) j no_var).size ≡ 1
params_one u b = subst (λ (ys : List Var). (j : ℕ) → j < length ys → (get_or ys j no_var).size ≡ 1) (unit_params u b) (groups_one (groups_of u))

-- ---- how many channels a body makes
channels-both : (l k : List Site) → channels_in (l ++ k) ≡ channels_in l + channels_in k
channels-both [] k = omega arith
channels-both (x ∷ l) k = let r = channels-both l k in omega arith

one-channel : (k : ℕ) (x : Variable) (i : ℕ) → making (chan (site_of k x i).var.value) ≡ made_by_variable x
one-channel k (variable w z unset) i = refl
one-channel k (variable w z (set_number n)) i = refl
one-channel k (variable w z (set_minus n)) i = refl
one-channel k (variable w z set_true) i = refl
one-channel k (variable w z set_false) i = refl
one-channel k (variable w z (set_name v)) i = refl
one-channel k (variable w z (set_channel n ks)) i = refl

variables-channels : (k : ℕ) (xs : List Variable) (i : ℕ) → channels_in (sites_of k xs i) ≡ tally made_by_variable xs
variables-channels k [] i = refl
variables-channels k (x ∷ xs) i = ap₂ ◌+◌ (one-channel k x i) (variables-channels k xs (i + size_variable x))

pub declaration_channels : (d : Declaration) (i : ℕ) → channels_in (sites_in d i) ≡ made_by_declaration d
declaration_channels (declare k xs) i = variables-channels k xs (i + 2)

locals_channels : (ds : List Declaration) (i : ℕ) → channels_in (local_sites ds i) ≡ tally made_by_declaration ds
locals_channels [] i = refl
locals_channels (d ∷ ds) i =
    let j = i + size_declaration d in channels-both (sites_in d i) (local_sites ds j) ∙ ap₂ ◌+◌ (declaration_channels d i) (locals_channels ds j)

pub body_channels : (b : Body) (i : ℕ) → channels_in (body_sites b i) ≡ made_by_body b
body_channels (body ds q) i = locals_channels ds (i + 1)

-- ---- what is made does not depend on what was made before
makes-front : (m : Model) (u i : ℕ) (x : Var) (v : Value) (A B : List (List ℤ)) (C : List Channel)
    → ((makes m u i x v (A ++ B) C).values ≡ A ++ (makes m u i x v B C).values) × ((makes m u i x v (A ++ B) C).channels ≡ (makes m u i x v B C).channels)
makes-front m u i x unset A B C = (append_assoc A B _, refl)
makes-front m u i x (set_number n) A B C = (append_assoc A B _, refl)
makes-front m u i x (set_minus n) A B C = (append_assoc A B _, refl)
makes-front m u i x set_true A B C = (append_assoc A B _, refl)
makes-front m u i x set_false A B C = (append_assoc A B _, refl)
makes-front m u i x (set_name w) A B C = (append_assoc A B _, refl)
makes-front m u i x (set_channel n ks) A B C = (append_assoc A B _, refl)

all-front : (m : Model) (u i : ℕ) (xs : List Var) (A B : List (List ℤ)) (C : List Channel)
    → ((makes_all m u i xs record { values = A ++ B; channels = C }).values ≡ A ++ (makes_all m u i xs record { values = B; channels = C }).values)
    × ((makes_all m u i xs record { values = A ++ B; channels = C }).channels ≡ (makes_all m u i xs record { values = B; channels = C }).channels)
unfolding makes_all
all-front m u i [] A B C = (refl, refl)
all-front m u i (x ∷ xs) A B C =
    let k = makes-front m u i x x.value A B C in
    let Y = makes m u i x x.value B C in
    let r = all-front m u (suc i) xs A Y.values Y.channels in
    let e : makes_all m u (suc i) xs record { values = (makes m u i x x.value (A ++ B) C).values; channels = (makes m u i x x.value (A ++ B) C).channels }
    ≡ makes_all m u (suc i) xs record { values = A ++ (makes m u i x x.value B C).values; channels = (makes m u i x x.value B C).channels }
    = ap₂ (λ (a : List (List ℤ)) (c : List Channel). makes_all m u (suc i) xs record { values = a; channels = c }) k.0 k.1 in
    (ap (λ (y : Made). y.values) e ∙ r.0, ap (λ (y : Made). y.channels) e ∙ r.1)

-- made alone, and behind A
pub front-made : (m : Model) (u i : ℕ) (xs : List Var) (A : List (List ℤ)) (C : List Channel)
    → ((makes_all m u i xs record { values = A; channels = C }).values ≡ A ++ (makes_all m u i xs record { values = []; channels = C }).values)
    × ((makes_all m u i xs record { values = A; channels = C }).channels ≡ (makes_all m u i xs record { values = []; channels = C }).channels)
front-made m u i xs A C =
    let r = all-front m u i xs A [] C in
    let e : makes_all m u i xs record { values = A; channels = C } ≡ makes_all m u i xs record { values = A ++ []; channels = C } =
    ap (λ (a : List (List ℤ)). makes_all m u i xs record { values = a; channels = C }) (inv (append-nil A)) in
    (ap (λ (y : Made). y.values) e ∙ r.0, ap (λ (y : Made). y.channels) e ∙ r.1)

drop_all : {A : Type 0} (l : List A) (n : ℕ) → length l ≡ n → drop n l ≡ []
drop_all [] zero e = refl
drop_all [] (suc n) e = refl
drop_all (x ∷ l) zero e = absurd (omega arith)
drop_all (x ∷ l) (suc n) e = drop_all l n (omega arith)

pub drop-front : {A : Type 0} (l k : List A) (n : ℕ) → length l ≡ n → drop n (l ++ k) ≡ k
drop-front [] k zero e = refl
drop-front [] k (suc n) e = absurd (omega arith)
drop-front (x ∷ l) k zero e = absurd (omega arith)
drop-front (x ∷ l) k (suc n) e = drop-front l k n (omega arith)

-- ---- a process sets out
set_out_is : (T : List ℕ) (p u : ℕ) (b : Body) (k : ℕ) (s : List ℤ)
    → set_out T p u b k s ≡ along T p (body_sites b k) (set (set (set s (process_at_lem p) (kept u)) 0 (kept (p + 1))) (process_at_lem p + 1) (kept (first_in b k)))
set_out_is T p u (body ds q) k s = locals_along T p ds (k + 1) (set (set (set s (process_at_lem p) (kept u)) 0 (kept (p + 1))) (process_at_lem p + 1) (kept (first_in (body ds q) k)))

module _ (m : Model) (T : List ℕ) (X : Charted m T) (k : ℕ) (b : Bodied (unit_at m k)) (σ : State) (t : List ℤ) (few : length σ.processes < processes_most)
    (room : length σ.channels + made_by_body (body_of (unit_at m k)) ≤ channels_most) where
  abbrev u : Part
  u = unit_at m k

  abbrev xs : List Var
  xs = variables_of u

  abbrev p : ℕ
  p = length σ.processes

  abbrev first : ℕ
  first = first_in (body_of u) (body_at m k)

  abbrev E : List (List ℤ) → List Channel → List ℤ
  E = numbers m t σ.globals σ.processes k first xs few (X.locals_few k b)

  W : Writes m (variables_of (unit_at m k)) local_at (length σ.processes) (numbers m t σ.globals σ.processes k (first_in (body_of (unit_at m k)) (body_at m k)) (variables_of (unit_at m k)) few (X.locals_few k b))
  W = local_writes m t σ.globals σ.processes k first xs few (X.locals_few k b)

  abbrev L : List Site
  L = sites_at m k

  abbrev P : List Site
  P = group_sites (groups_of u) (suc (head_of m k))

  abbrev B : List Site
  B = body_sites (body_of u) (body_at m k)

  good : (n : ℕ) → n < length L → Good m T xs local_at p E W k (get_or L n no_site) n n
  good n h =
      let v = unit_vars u (items_before m k) in
      let g : n < length (variables_of (unit_at m k)) = subst (n <◌) (sites_long L xs v) h in
      let e = site_var L xs v n h in
      record {
        here = g;
        var = inv e;
        link = subst (λ (y : Var). Linked (link_of T (local_item m k n)) y local_at (offset_of xs n)) (inv e) (X.locals k b n g).3;
        worth = X.worths k n h;
        single = X.singles k n h;
        item = λ c. unit-item u n (items_before m k) h c;
      }

  split : L ≡ P ++ B
  split = unit_sites_lem u (items_before m k) b

  param_vars : map var_of P ≡ parameters_of u
  param_vars = group_vars (groups_of u) (suc (head_of m k)) ∙ unit_params u b

  params_long : length P ≡ length (parameters_of u)
  params_long = sites_long P (parameters_of u) param_vars

  locals_long : length B ≡ length (locals_of (body_of u))
  locals_long = sites_long B (locals_of (body_of u)) (body_vars (body_of u) (body_at m k))

  good_param : (j : ℕ) → j < length P → Good m T xs local_at p E W k (get_or P j no_site) j j
  good_param j h =
      let e = length-append P B in
      let g : j < length (sites_at m k) = subst (j <◌) (ap length (inv split)) (omega arith) in
      subst (λ (x : Site). Good m T xs local_at p E W k x j j) (ap (λ (l : List Site). get_or l j no_site) split ∙ get_left P B no_site j h) (good j g)

  good_body : (j : ℕ) → j < length B → Good m T xs local_at p E W k (get_or B j no_site) (length (parameters_of u) + j) (length (parameters_of u) + j)
  good_body j h =
      let e = length-append P B in
      let f = params_long in
      let g : length (parameters_of (unit_at m k)) + j < length (sites_at m k) = subst (length (parameters_of (unit_at m k)) + j <◌) (ap length (inv split)) (omega arith) in
      subst (λ (x : Site). Good m T xs local_at p E W k x (length (parameters_of u) + j) (length (parameters_of u) + j))
      (ap (λ (l : List Site). get_or l (length (parameters_of u) + j) no_site) split ∙ get_right P B no_site (length (parameters_of u)) j (length (parameters_of u) + j) params_long refl)
      (good (length (parameters_of u) + j) g)

  -- what its declarations make
  abbrev M : Made
  M = makes_all m k (length (parameters_of u)) (locals_of (body_of u)) record { values = []; channels = σ.channels }

  abbrev none : List (List ℤ)
  none = zeros (parameters_of u)

  made_all : (along T p B (E (none ++ zeros (locals_of (body_of u))) σ.channels) ≡ E (none ++ M.values) M.channels) × Shaped xs (none ++ M.values)
  made_all =
      let Ls = locals_of (body_of u) in
      let e = zeros_long (parameters_of u) in
      let f = zeros_long (locals_of (body_of u)) in
      let c = body_channels (body_of u) (body_at m k) in
      let l = locals_long in
      let s : Shaped xs (none ++ zeros (locals_of (body_of u))) = subst (Shaped xs) (ap zeros (unit-split u b) ∙ zeros-both (parameters_of u) Ls) (zeros-shaped xs) in
      let r = sites_made m T xs local_at p E W k B (length (parameters_of u)) (length (parameters_of u)) none (zeros Ls) σ.channels good_body s e (omega arith) (omega arith) in
      let v : map var_of B ≡ locals_of (body_of u) = body_vars (body_of u) (body_at m k) in
      let F = front-made m k (length (parameters_of u)) Ls none σ.channels in
      let a : (makes_all m k (length (parameters_of u)) (map var_of B) record { values = none; channels = σ.channels }).values ++ drop (length B) (zeros Ls) ≡ none ++ M.values =
      ap₂ (λ (q w : List (List ℤ)). q ++ w)
      (ap (λ (z : List Var). (makes_all m k (length (parameters_of u)) z record { values = none; channels = σ.channels }).values) v ∙ F.0) (drop_all (zeros Ls) (length B) (omega arith))
      ∙ append-nil (none ++ M.values) in
      let d : (makes_all m k (length (parameters_of u)) (map var_of B) record { values = none; channels = σ.channels }).channels ≡ M.channels =
      ap (λ (z : List Var). (makes_all m k (length (parameters_of u)) z record { values = none; channels = σ.channels }).channels) v ∙ F.1 in
      (r.0 ∙ ap₂ E a d, subst (Shaped xs) a r.2)

  begun : begins_in T (head_of m k) (body_of u) (body_at m k) (encode m σ ++ t) ≡ E (none ++ M.values) M.channels
  begun =
      let S = encode m σ ++ t in
      ap (λ n. pick (ltb n processes_most) (set_out T n (head_of m k) (body_of u) (body_at m k) S) S) (processes_are m t σ (omega arith))
      ∙ ap (λ c. pick c (set_out T p (head_of m k) (body_of u) (body_at m k) S) S) (lt-ltb p processes_most few)
      ∙ set_out_is T p (head_of m k) (body_of u) (body_at m k) S
      ∙ ap (along T p B)
      (process-more m t σ record { unit = k; place = first; variables = zeros xs } (pad-zeros xs numbers_most (X.locals_few k b)) few
      ∙ ap (λ (N : List (List ℤ)). E N σ.channels) (ap zeros (unit-split u b) ∙ zeros-both (parameters_of u) (locals_of (body_of u))))
      ∙ made_all.0

  param_one : (j : ℕ) → j < length P → (get_or P j no_site).var.size ≡ 1
  param_one j h =
      let v = group_vars (groups_of u) (suc (head_of m k)) in
      ap (λ (x : Var). x.size) (site_var P (of_groups (groups_of u)) v j h) ∙ groups_one (groups_of u) j (subst (j <◌) (sites_long P (of_groups (groups_of u)) v) h)

  -- CALLED WITH ARGUMENTS
  pub called-begins : (vs : List ℤ) → called_in T (head_of m k) (groups_of u) (body_of u) (body_at m k) vs (encode m σ ++ t) ≡ encode m (begins m k vs σ) ++ t
  unfolding begins
  called-begins vs =
      let F = front-made m k (length (parameters_of u)) (locals_of (body_of u)) (given m (parameters_of u) vs) σ.channels in
      let e = zeros_long (parameters_of u) in
      let f = params_long in
      let a = length-append none M.values in
      ap₂ (λ n s. groups_in T n vs 0 (groups_of u) (suc (head_of m k)) s) (processes_are m t σ (omega arith)) begun ∙ groups_giving T p vs 0 (groups_of u) (suc (head_of m k)) (E (none ++ M.values) M.channels)
      ∙ params_given m T xs local_at p E W vs k P 0 [] (none ++ M.values) M.channels (λ j h. subst (λ n. Good m T xs local_at p E W k (get_or P j no_site) n n) (let z : j ≡ 0 + j = omega arith in z) (good_param j h))
      param_one made_all.1 refl (omega arith)
      ∙ ap₂ E
      (ap₂ (λ (x y : List (List ℤ)). x ++ y) (ap (λ (z : List Var). given m z vs) param_vars) (drop-front none M.values (length P) (omega arith)) ∙ inv F.0) (inv F.1)

  -- WITH NONE
  given-zeros : (ys : List Var) → ((j : ℕ) → j < length ys → (get_or ys j no_var).size ≡ 1) → given m ys [] ≡ zeros ys
  unfolding given
  given-zeros [] h = refl
  given-zeros (y ∷ ys) h =
      ap₂ (λ (x : List ℤ) (z : List (List ℤ)). x ∷ z) (ap (λ v. v ∷ []) (cast_zero y.type) ∙ ap (λ n. replicate n (pos 0)) (inv (h 0 (omega arith)))) (given-zeros ys (λ j g. h (suc j) (omega arith)))

  pub begun-plainly : begins_in T (head_of m k) (body_of u) (body_at m k) (encode m σ ++ t) ≡ encode m (begins m k [] σ) ++ t
  unfolding begins
  begun-plainly =
      let F = front-made m k (length (parameters_of u)) (locals_of (body_of u)) (given m (parameters_of u) []) σ.channels in
      let z : given m (parameters_of u) [] ≡ none = given-zeros (parameters_of u) (params_one u b) in
      begun ∙ ap₂ E (ap (λ (x : List (List ℤ)). x ++ M.values) (inv z) ∙ inv F.0) (inv F.1)

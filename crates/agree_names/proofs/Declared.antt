-- What declarations, parameters and mtype names add to their space, item by item: each name's own item says its type, its size and how many numbers stand before it.
use Prim.Native.Nat.{ℕ, suc, ◌+◌, ◌-◌, ◌≤◌, ◌<◌}
use native.Mathlib.Omega.{arith}
use mathlib.Core.Path.{◌≡◌, refl, sym as inv, ap, ◌∙◌, subst}
use mathlib.Core.Bool.{true, false}
use mathlib.Core.Option.{Option, none, some}
use mathlib.Core.Logic.{◌⊎◌, inl, inr}
use mathlib.Core.List.{List, [], ◌∷◌, ◌++◌, map, append_assoc, append-nil}
use lib.ListN.{length, get_or, length-append}
use Rattle.base_codes.specs.Codes.{c_declared, c_global, c_group, c_local, c_name, c_number, c_parameter, c_size}
use Rattle.base_bytes.specs.Choice.{pick}
use Rattle.rule_search.specs.Sets.{among}
use Rattle.rule_search.specs.Search.{last}
use Rattle.rule_item.specs.Rules.{is_array}
use Rattle.spec_grammar.specs.Tree.{Name, Model, Value, unset, set_number, set_minus, set_true, set_false, set_name, set_channel, Variable, variable, Declaration, declare, Group, group}
use Rattle.base_codes.specs.Items.{Item, code_of, i_channel, i_declared, i_group, i_local, i_message, i_minus, i_name, i_named, i_number, i_parameter, i_size, i_type, i_value}
use Rattle.parse_code.specs.Code.{each, code_size, code_value, code_variable, code_declaration, code_parameter, code_group, code_message, code}
use Rattle.table_entries.specs.Items.{Known}
use Rattle.spec_rules.specs.Ceilings.{size_of}
use Rattle.legal_terms.specs.Says.{item_at, Says}
use Rattle.legal_declarations.proofs.Items.{Low, all_append, all-size, all_value, valued}
use Rattle.table_entries.proofs.Items.{type_code}
use Rattle.legal_declarations.proofs.Standing.{Lies, lies_front, lies_back, lies_all, long, known_at, code_is, valued_at}
use Rattle.legal_declarations.proofs.Judging.{hs, last-here, last_skip, last-over}
use Rattle.legal_declarations.proofs.Variables.{low-one, After, array-none}
use Rattle.legal_declarations.proofs.Declarations.{after_groups, after-declarations}
use Rattle.spec_machine.specs.Names.{Var, of_variable, of_declaration, of_declarations, of_parameter, of_group, of_groups}
use Rattle.agree_encode.specs.Tabled.{total_of}
use Rattle.agree_encode.proofs.Totals.{total-append}
use Rattle.agree_names.specs.Entries.{slot, number, Entry, entry, slots, numbers}
use Rattle.agree_names.proofs.Scopes.{Scoped, scoped_over, scoped_one, scoped_more, message_good}
use Rattle.legal_declarations.proofs.Variables.{low-three}

-- ---- lists of variables
pub slots-append : (xs ys : List Var) (o : ℕ) → slots o (xs ++ ys) ≡ slots o xs ++ slots (o + total_of xs) ys
slots-append [] ys o = ap (λ n. slots n ys) (let z : o ≡ o + 0 = omega arith in z)
slots-append (x ∷ xs) ys o =
    ap (λ (l : List Entry). entry x.name (slot x o) ∷ l)
    (slots-append xs ys (o + x.size) ∙ ap (λ n. slots (o + x.size) xs ++ slots n ys) (let z : o + x.size + total_of xs ≡ o + (x.size + total_of xs) = omega arith in z))

pub sets : (among 1 c_name ≡ false) × (among 3 c_name ≡ false) × (among 3 c_declared ≡ false) × (among 3 c_parameter ≡ false) × (among 1 c_local ≡ false) × (among 1 c_global ≡ false)
    × (among 1 c_group ≡ false) × (among 3 c_local ≡ true) × (among 3 c_global ≡ true) × (among 3 c_group ≡ true)
unfolding among
sets = (refl, refl, refl, refl, refl, refl, refl, refl, refl, refl)

module _ (m : Model) (cs vs : List ℕ) (S : Says m cs vs) where
  abbrev xs : List Item
  xs = code m

  abbrev H : List ℕ
  H = hs m cs vs S

  abbrev Sc : List Entry → ℕ → ℕ → ℕ → ℕ → Type 0
  Sc = Scoped m cs vs H S

  below : (k : ℕ) → k < length xs → k < length cs
  below k h = let z = long m cs vs S in omega arith

  -- the code of a type
  pub type_at : (k t : ℕ) → k < length xs → item_at xs k ≡ i_type t → (get_or cs k 0 ≡ 130 + t) × (38 ≤ t) × (t ≤ 45) × (among 1 (get_or cs k 0) ≡ false)
  type_at k t h q =
      let a = type_code (subst Known q (known_at m cs vs S k h)) in
      let x = a.0 in
      let y = a.1 in
      let z = code_is m cs vs S k (i_type t) h q in
      (z, omega arith, omega arith, low-one (get_or cs k 0) (record { most = omega arith; string = λ u. omega arith; high = λ u. omega arith }))

  -- ---- how many numbers a variable has
  array-some : (k n : ℕ) → get_or cs (suc (suc k)) 0 ≡ c_number → get_or cs (suc (suc (suc k))) 0 ≡ c_size → get_or vs (suc (suc k)) 0 ≡ n → pick (is_array cs (suc k)) (get_or vs (suc k + 1) 0) 1 ≡ n
  unfolding is_array
  array-some k n a b c = rw ((let z : suc k + 1 ≡ suc (suc k) = omega arith in z), (let z : suc k + 2 ≡ suc (suc (suc k)) = omega arith in z)) (rw (a, b) c)

  pub one_number : (k : ℕ) → (get_or cs (suc (suc (suc k))) 0 ≡ c_size → ⊥) → pick (is_array cs (suc k)) (get_or vs (suc k + 1) 0) 1 ≡ 1
  one_number k n = rw (array-none m cs vs S k n)

  pub size_is : (s : Option ℕ) (v : Value) (k : ℕ) → Lies xs (suc (suc k)) (code_size s ++ code_value v) → After m cs vs S (suc (suc k) + length (code_size s ++ code_value v))
      → pick (is_array cs (suc k)) (get_or vs (suc k + 1) 0) 1 ≡ size_of s
  size_is (some n) v k l a =
      array-some k n (code_is m cs vs S (suc (suc k)) (i_number n) l.0 l.1) (code_is m cs vs S (suc (suc (suc k))) i_size l.2.0 l.2.1)
      (S.numbers (suc (suc k)) n (below (suc (suc k)) l.0) l.1)
  size_is none unset k l a = one_number k (subst (λ x. get_or cs (suc x) 0 ≡ c_size → ⊥) (let z : suc (suc k) + 0 ≡ suc (suc k) = omega arith in z) a.1)
  size_is none (set_number x) k l a = one_number k (λ z. (let c = code_is m cs vs S (suc (suc (suc k))) i_value l.2.0 l.2.1 in omega arith))
  size_is none (set_minus x) k l a = one_number k (λ z. (let c = code_is m cs vs S (suc (suc (suc k))) i_minus l.2.0 l.2.1 in omega arith))
  size_is none set_true k l a = one_number k (λ z. (let c = code_is m cs vs S (suc (suc (suc k))) i_value l.2.0 l.2.1 in omega arith))
  size_is none set_false k l a = one_number k (λ z. (let c = code_is m cs vs S (suc (suc (suc k))) i_value l.2.0 l.2.1 in omega arith))
  size_is none (set_name w) k l a = one_number k (λ z. (let c = code_is m cs vs S (suc (suc (suc k))) i_named l.2.0 l.2.1 in omega arith))
  size_is none (set_channel x ks) k l a = one_number k (λ z. (let c = code_is m cs vs S (suc (suc (suc k))) i_channel l.2.0 l.2.1 in omega arith))

  -- ---- the names of one type t, which is item p, in body h, from item lo to before item hi
  module _ (t h lo hi p : ℕ) (home : (j : ℕ) → lo ≤ j → j < hi → get_or H j 0 ≡ h) (top : hi ≤ length cs) (typed : get_or cs p 0 ≡ 130 + t) (least : 38 ≤ t) (most : t ≤ 45) where
    -- behind them: the entries, and that the type is the last one
    pub record Passed (l : List Entry) (e o n : ℕ) : Type 0 where
      pub scope : Sc l h e o n
      pub kind : last cs 3 e ≡ suc (suc p)

    -- a name and its mark
    named : (w : Name) (s : ℕ) (v : Value) (c : ℕ) (l : List Entry) (k o n : ℕ) → lo ≤ k → suc k < hi → k < length xs → item_at xs k ≡ i_name w → get_or cs (suc k) 0 ≡ c
        → (c ≡ c_declared) ⊎ (c ≡ c_parameter) → among 3 c ≡ false → pick (is_array cs (suc k)) (get_or vs (suc k + 1) 0) 1 ≡ s → last cs 3 k ≡ suc (suc p) → Sc l h k o n
        → Passed (l ++ entry w (slot (record { name = w; type = t; size = s; value = v }) o) ∷ []) (suc (suc k)) (o + s) n
    named w s v c l k o n b d g q cx cc three size kind sc =
        let x : Var = record { name = w; type = t; size = s; value = v } in
        let cn = code_is m cs vs S k (i_name w) g q in
        let sc1 = scoped_one m cs vs H S l h k o n c_name cn sets.0 sc in
        let kind1 : last cs 3 (suc k) ≡ suc (suc p) = last_skip m cs vs S 3 k (ap (among 3) cn ∙ sets.1) ∙ kind in
        let z : n + 0 ≡ n = omega arith in
        record {
          scope = subst (Sc (l ++ entry w (slot x o) ∷ []) h (suc (suc k)) (o + s)) z
              (scoped_more m cs vs H S l h k o n w (slot x o) (omega arith) q
              record {
                coded = subst (λ i. (i ≡ c_declared) ⊎ (i ≡ c_parameter)) (inv cx) cc;
                home = home (suc k) (omega arith) d;
                type = ap (λ i. get_or cs (i - 2) 0) kind1 ∙ ap (λ i. get_or cs i 0) (let z : suc (suc p) - 2 ≡ p = omega arith in z) ∙ typed;
                least = least;
                most = most;
                size = size;
                offset = sc1.numbers;
              }
              sc1);
          kind = last_skip m cs vs S 3 (suc k) (ap (among 3) cx ∙ three) ∙ kind1;
        }

    one_variable : (w : Name) (s : Option ℕ) (v : Value) (l : List Entry) (k e o n : ℕ) → e ≡ k + length (code_variable (variable w s v)) → lo ≤ k → e ≤ hi
        → Lies xs k (code_variable (variable w s v)) → last cs 3 k ≡ suc (suc p) → After m cs vs S e → Sc l h k o n
        → Passed (l ++ entry w (slot (of_variable t (variable w s v)) o) ∷ []) e (o + size_of s) n
    one_variable w s v l k e o n q b d y c a sc =
        let ends : e ≡ suc (suc k) + length (code_size s ++ code_value v) = omega arith in
        let one = named w (size_of s) v c_declared l k o n b (omega arith) y.0 y.1 (code_is m cs vs S (suc k) i_declared y.2.0 y.2.1) (inl refl) sets.2
        (size_is s v k y.2.2 (subst (After m cs vs S) ends a)) c sc in
        let lows : (j : ℕ) → suc (suc k) ≤ j → j < e → Low (get_or cs j 0) =
        λ j g u. valued_at m cs vs S j (let r = long m cs vs S in omega arith)
        (lies_all xs valued (code_size s ++ code_value v) (suc (suc k)) y.2.2 (all_append valued (code_size s) (code_value v) (all-size s) (all_value v)) j g (omega arith)) in
        record {
          scope = scoped_over m cs vs H S (l ++ entry w (slot (of_variable t (variable w s v)) o) ∷ []) h (suc (suc k)) e (o + size_of s) n (omega arith)
              (λ j g u. inl (low-one (get_or cs j 0) (lows j g u))) one.scope;
          kind = last-over m cs vs S 3 (suc (suc k)) e (omega arith) (λ j g u. low-three (get_or cs j 0) (lows j g u)) ∙ one.kind;
        }

    after-variables : (us : List Variable) (k : ℕ) → Lies xs k (each code_variable us) → After m cs vs S (k + length (each code_variable us)) → After m cs vs S k
    after-variables [] k y a = subst (After m cs vs S) (let z : k + 0 ≡ k = omega arith in z) a
    after-variables (variable w s v ∷ us) k y a =
        let c = code_is m cs vs S k (i_name w) y.0 y.1 in
        let d = code_is m cs vs S (suc k) i_declared y.2.0 y.2.1 in
        (λ z. omega arith, λ z. omega arith)

    -- no names, or one and more
    none_passed : (l : List Entry) (k e o n : ℕ) → k ≡ e → last cs 3 k ≡ suc (suc p) → Sc l h k o n → Passed (l ++ []) e (o + 0) n
    none_passed l k e o n z c sc =
        record {
          scope = subst (λ i. Sc (l ++ []) h e i n) (let y : o ≡ o + 0 = omega arith in y) (subst (λ i. Sc (l ++ []) h i o n) z (subst (λ i. Sc i h k o n) (inv (append-nil l)) sc));
          kind = subst (λ i. last cs 3 i ≡ suc (suc p)) z c;
        }

    more-passed : (l r : List Entry) (x : Entry) (e o s t n : ℕ) → Passed ((l ++ x ∷ []) ++ r) e (o + s + t) n → Passed (l ++ (x ∷ r)) e (o + (s + t)) n
    more-passed l r x e o s t n w =
        record {
          scope = subst (λ i. Sc (l ++ (x ∷ r)) h e i n) (let z : o + s + t ≡ o + (s + t) = omega arith in z) (subst (λ i. Sc i h e (o + s + t) n) (append_assoc l (x ∷ []) r) w.scope);
          kind = w.kind;
        }

    pub all-variables : (us : List Variable) (l : List Entry) (k e o n : ℕ) → e ≡ k + length (each code_variable us) → lo ≤ k → e ≤ hi → Lies xs k (each code_variable us)
        → last cs 3 k ≡ suc (suc p) → After m cs vs S e → Sc l h k o n → Passed (l ++ slots o (map (of_variable t) us)) e (o + total_of (map (of_variable t) us)) n
    all-variables [] l k e o n q b d y c a sc = none_passed l k e o n (omega arith) c sc
    all-variables (variable w s v ∷ us) l k e o n q b d y c a sc =
        let X = code_variable (variable w s v) in
        let E = each code_variable us in
        let sizes : length (X ++ E) ≡ length X + length E = length-append X E in
        let k2 = k + length X in
        let r = lies_back xs X E k k2 refl y in
        let x = entry w (slot (of_variable t (variable w s v)) o) in
        let one =
        one_variable w s v l k k2 o n refl b (omega arith) (lies_front xs k X E y) c (after-variables us k2 r (subst (After m cs vs S) (let z : e ≡ k2 + length E = omega arith in z) a)) sc in
        more-passed l (slots (o + size_of s) (map (of_variable t) us)) x e o (size_of s) (total_of (map (of_variable t) us)) n
        (all-variables us (l ++ x ∷ []) k2 e (o + size_of s) n (omega arith) (omega arith) d r one.kind a one.scope)

    pub all_parameters : (ws : List Name) (l : List Entry) (k e o n : ℕ) → e ≡ k + length (each code_parameter ws) → lo ≤ k → e ≤ hi → Lies xs k (each code_parameter ws)
        → last cs 3 k ≡ suc (suc p) → After m cs vs S e → Sc l h k o n → Passed (l ++ slots o (map (of_parameter t) ws)) e (o + total_of (map (of_parameter t) ws)) n
    all_parameters [] l k e o n q b d y c a sc = none_passed l k e o n (omega arith) c sc
    all_parameters (w ∷ ws) l k e o n q b d y c a sc =
        let k2 = suc (suc k) in
        let x = entry w (slot (of_parameter t w) o) in
        let aft = after_parameters ws k2 y.2.2 (subst (After m cs vs S) (let z : e ≡ k2 + length (each code_parameter ws) = omega arith in z) a) in
        let one = named w 1 unset c_parameter l k o n b (omega arith) y.0 y.1 (code_is m cs vs S (suc k) i_parameter y.2.0 y.2.1) (inr refl) sets.3 (one_number k aft.1) c sc in
        more-passed l (slots (o + 1) (map (of_parameter t) ws)) x e o 1 (total_of (map (of_parameter t) ws)) n
        (all_parameters ws (l ++ x ∷ []) k2 e (o + 1) n (omega arith) (omega arith) d y.2.2 one.kind a one.scope)
      where
        after_parameters : (ws : List Name) (k : ℕ) → Lies (code m) k (each code_parameter ws) → After m cs vs S (k + length (each code_parameter ws)) → After m cs vs S k
        after_parameters [] k y a = subst (After m cs vs S) (let z : k + 0 ≡ k = omega arith in z) a
        after_parameters (w ∷ ws) k y a =
            let cn = code_is m cs vs S k (i_name w) y.0 y.1 in
            let cx = code_is m cs vs S (suc k) i_parameter y.2.0 y.2.1 in
            (λ z. omega arith, λ z. omega arith)

  -- ---- in body h, from item lo to before item hi
  module _ (h lo hi : ℕ) (home : (j : ℕ) → lo ≤ j → j < hi → get_or H j 0 ≡ h) (top : hi ≤ length cs) where
    -- a type and its mark
    typed_scope : (l : List Entry) (k o n t c : ℕ) (x : Item) → k < length xs → item_at xs k ≡ i_type t → suc k < length xs → item_at xs (suc k) ≡ x → code_of x ≡ c → among 1 c ≡ false
        → Sc l h k o n → Sc l h (suc (suc k)) o n
    typed_scope l k o n t c x g q i r cx one sc =
        scoped_one m cs vs H S l h (suc k) o n c (code_is m cs vs S (suc k) x i r ∙ cx) one (scoped_one m cs vs H S l h k o n (get_or cs k 0) refl (type_at k t g q).3 sc)

    pub one_declaration : (x : Item) (c t : ℕ) (us : List Variable) (l : List Entry) (k e o n : ℕ) → code_of x ≡ c → among 1 c ≡ false → among 3 c ≡ true
        → e ≡ k + length (code_declaration x (declare t us)) → lo ≤ k → e ≤ hi → Lies xs k (code_declaration x (declare t us)) → After m cs vs S e → Sc l h k o n
        → Sc (l ++ slots o (of_declaration (declare t us))) h e (o + total_of (of_declaration (declare t us))) n
    one_declaration x c t us l k e o n cx one three q b d y a sc =
        let T = type_at k t y.0 y.1 in
        let cc = code_is m cs vs S (suc k) x y.2.0 y.2.1 ∙ cx in
        (all-variables t h lo hi k home top T.0 T.1 T.2 us l (suc (suc k)) e o n (omega arith) (omega arith) d y.2.2 (last-here m cs vs S 3 (suc k) (ap (among 3) cc ∙ three)) a
        (typed_scope l k o n t c x y.0 y.1 y.2.0 y.2.1 cx one sc)).scope

    -- two lists of variables
    pub joined : (l : List Entry) (us ys : List Var) (e o n : ℕ) → Sc ((l ++ slots o us) ++ slots (o + total_of us) ys) h e (o + total_of us + total_of ys) n
        → Sc (l ++ slots o (us ++ ys)) h e (o + total_of (us ++ ys)) n
    joined l us ys e o n sc =
        let t = total-append us ys in
        subst (λ i. Sc (l ++ slots o (us ++ ys)) h e i n) (let z : o + total_of us + total_of ys ≡ o + total_of (us ++ ys) = omega arith in z)
        (subst (λ i. Sc i h e (o + total_of us + total_of ys) n)
        (append_assoc l (slots o us) (slots (o + total_of us) ys) ∙ ap (λ (i : List Entry). l ++ i) (inv (slots-append us ys o))) sc)

    none_more : (l : List Entry) (k e o n : ℕ) → k ≡ e → Sc l h k o n → Sc (l ++ []) h e (o + 0) n
    none_more l k e o n z sc = subst (λ i. Sc (l ++ []) h e i n) (let y : o ≡ o + 0 = omega arith in y) (subst (λ i. Sc (l ++ []) h i o n) z (subst (λ i. Sc i h k o n) (inv (append-nil l)) sc))

    pub all-declarations : (ds : List Declaration) (l : List Entry) (k e o n : ℕ) → e ≡ k + length (each (code_declaration i_local) ds) → lo ≤ k → e ≤ hi
        → Lies xs k (each (code_declaration i_local) ds) → After m cs vs S e → Sc l h k o n → Sc (l ++ slots o (of_declarations ds)) h e (o + total_of (of_declarations ds)) n
    all-declarations [] l k e o n q b d y a sc = none_more l k e o n (omega arith) sc
    all-declarations (declare t us ∷ ds) l k e o n q b d y a sc =
        let X = code_declaration i_local (declare t us) in
        let E = each (code_declaration i_local) ds in
        let sizes : length (X ++ E) ≡ length X + length E = length-append X E in
        let k2 = k + length X in
        let back = lies_back xs X E k k2 refl y in
        let U = of_declaration (declare t us) in
        joined l U (of_declarations ds) e o n
        (all-declarations ds (l ++ slots o U) k2 e (o + total_of U) n (omega arith) (omega arith) d back a
        (one_declaration i_local c_local t us l k k2 o n refl sets.4 sets.7 refl b (omega arith) (lies_front xs k X E y)
        (after-declarations m cs vs S ds k2 back (subst (After m cs vs S) (let z : e ≡ k2 + length E = omega arith in z) a)) sc))

    pub all_groups : (gs : List Group) (l : List Entry) (k e o n : ℕ) → e ≡ k + length (each code_group gs) → lo ≤ k → e ≤ hi
        → Lies xs k (each code_group gs) → After m cs vs S e → Sc l h k o n → Sc (l ++ slots o (of_groups gs)) h e (o + total_of (of_groups gs)) n
    all_groups [] l k e o n q b d y a sc = none_more l k e o n (omega arith) sc
    all_groups (group t ws ∷ gs) l k e o n q b d y a sc =
        let P = each code_parameter ws in
        let G = each code_group gs in
        let sizes : length (i_type t ∷ i_group ∷ P ++ G) ≡ suc (suc (length P)) + length G = length-append (i_type t ∷ i_group ∷ P) G in
        let k3 = suc (suc k) + length P in
        let front = lies_front xs k (i_type t ∷ i_group ∷ P) G y in
        let back = lies_back xs (i_type t ∷ i_group ∷ P) G k k3 (omega arith) y in
        let T = type_at k t y.0 y.1 in
        let cg = code_is m cs vs S (suc k) i_group y.2.0 y.2.1 in
        let U = of_group (group t ws) in
        joined l U (of_groups gs) e o n
        (all_groups gs (l ++ slots o U) k3 e (o + total_of U) n (omega arith) (omega arith) d back a
        (all_parameters t h lo hi k home top T.0 T.1 T.2 ws l (suc (suc k)) k3 o n refl (omega arith) (omega arith) front.2.2 (last-here m cs vs S 3 (suc k) (ap (among 3) cg ∙ sets.9))
        (after_groups m cs vs S gs k3 back (subst (After m cs vs S) (let z : e ≡ k3 + length G = omega arith in z) a))
        (typed_scope l k o n t c_group i_group y.0 y.1 y.2.0 y.2.1 refl sets.6 sc)).scope)

    -- ---- mtype names
    pub all_messages : (ws : List Name) (l : List Entry) (k e o n : ℕ) → e ≡ k + length (each code_message ws) → lo ≤ k → e ≤ hi → Lies xs k (each code_message ws)
        → Sc l h k o n → Sc (l ++ numbers n ws) h e o (n + length ws)
    all_messages [] l k e o n q b d y sc =
        subst (λ i. Sc (l ++ []) h e o i) (let z : n ≡ n + 0 = omega arith in z)
        (subst (λ i. Sc (l ++ []) h i o n) (let z : k ≡ e = omega arith in z) (subst (λ i. Sc i h k o n) (inv (append-nil l)) sc))
    all_messages (w ∷ ws) l k e o n q b d y sc =
        let k2 = suc (suc k) in
        let x = entry w (number (suc n)) in
        let sc1 = scoped_one m cs vs H S l h k o n c_name (code_is m cs vs S k (i_name w) y.0 y.1) sets.0 sc in
        let one = scoped_more m cs vs H S l h k o n w (number (suc n)) (below (suc k) y.2.0) y.1
        (message_good cs vs H h (suc k) n (code_is m cs vs S (suc k) i_message y.2.0 y.2.1) (home (suc k) (omega arith) (omega arith)) sc1.names) sc1 in
        let one2 : Sc (l ++ x ∷ []) h k2 o (suc n) = subst (λ i. Sc (l ++ x ∷ []) h k2 i (suc n)) (let z : o + 0 ≡ o = omega arith in z)
        (subst (λ i. Sc (l ++ x ∷ []) h k2 (o + 0) i) (let z : n + 1 ≡ suc n = omega arith in z) one) in
        subst (λ i. Sc (l ++ (x ∷ numbers (suc n) ws)) h e o i) (let z : suc n + length ws ≡ n + suc (length ws) = omega arith in z)
        (subst (λ i. Sc i h e o (suc n + length ws)) (append_assoc l (x ∷ []) (numbers (suc n) ws))
        (all_messages ws (l ++ x ∷ []) k2 e o (suc n) (omega arith) (omega arith) d y.2.2 one2))

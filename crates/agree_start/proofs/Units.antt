-- A unit of an accepted text's tree in its tables: what stands from its first item to its end, what is behind it, and a walk over all that.
use Prim.Native.Nat.{ℕ, suc, ◌+◌, ◌-◌, ◌≤◌, ◌<◌}
use native.Mathlib.Omega.{arith}
use mathlib.Core.Path.{◌≡◌, refl, sym as inv, ap, ◌∙◌, subst}
use mathlib.Core.List.{List, [], ◌∷◌, ◌++◌, append_assoc}
use lib.ListN.{length, length-append}
use lib.IntN.{ℤ}
use borrow.Author.Tests.{le-ltb}
use Rattle.base_codes.specs.Codes.{c_channel, c_end_body, c_local, c_size}
use Rattle.spec_grammar.specs.Tree.{Name, Declaration, declare, Body, body, Activity, idle, once, times, Part, mtypes, global, process, init, Model}
use Rattle.base_codes.specs.Items.{Item, i_end_body, i_init, i_local}
use Rattle.parse_code.specs.Code.{each, code_tree, code_declaration, code_group, code_body, code_activity, code_part, code}
use Rattle.base_codes.specs.Items as items
use Rattle.table_entries.specs.Items.{AllKnown}
use Rattle.table_layout.specs.Access.{items_of, code_of}
use Rattle.table_layout.specs.Trees.{tables_in}
use Rattle.read_accepts_proof.specs.Meaning.{Accepts, links_at}
use Rattle.read_accepts_proof.proofs.Tables.{text-tables}
use Rattle.read_passes.specs.Judging.{tables_text}
use Rattle.state_layout.specs.Walks.{walk}
use Rattle.state_start.specs.Starting.{unit_length}
use Rattle.agree_eval.specs.Held.{Held}
use Rattle.agree_eval.proofs.Items.{part_held}
use Rattle.agree_eval.proofs.Main.{items_long}
use Rattle.keep_tables.proofs.Tables.{text-held}
use Rattle.spec_machine.specs.Sizes.{size_part}
use Rattle.agree_sizes.proofs.Sizes.{size_tree, size-declarations, size_groups, size_body_lem, size_activity_lem, size-part}
use Rattle.agree_sizes.specs.Bodies.{Holds, in_process, in_init, later}
use Rattle.spec_machine.specs.Program.{start_in, end_in}
use Rattle.agree_stage.proofs.Stands.{Lying, lying_behind, lying_whole, lying_front, lying_back}
use Rattle.agree_places.proofs.Heads.{Between}
use Rattle.agree_control.proofs.Main.{text-unit}
use Rattle.agree_offers.proofs.Places.{ends_there, known_there}
use Rattle.agree_start.proofs.Walks.{walk-one, walk-both, over}
use Rattle.agree_start.proofs.Items.{type_below, Below}
use Rattle.agree_start.proofs.Values.{Clear, clear-code, clear-here}

-- ---- what is behind a body: the units that follow
pub record Behind (m : Model) (i : ℕ) (b : Body) (k : ℕ) : Type 0 where
  pub units : Model
  pub lies : Lying (code m) i (code_body b ++ code units) k
  pub ends : k + length (code_body b) + length (code units) ≡ i + length (code m)

pub holds-behind : {m : Model} {i u k : ℕ} {b : Body} → Holds m i u b k → Behind m i b k
holds-behind {i = i} {k = k} (in_process {x = x} {w = w} {gs = gs} {b = b} {m = m} e f) =
    let A = code_activity x w ++ each code_group gs in
    let y = size_activity_lem x w in
    let z = size_groups gs in
    let n = length-append (code_activity x w) (each code_group gs) in
    let o = length-append (A ++ code_body b) (code m) in
    let q = length-append A (code_body b) in
    record {
      units = m;
      lies =
          subst (λ (l : List Item). Lying l i (code_body b ++ code m) k) (inv (append_assoc A (code_body b) (code m)))
          (lying_behind A (code_body b ++ code m) (code_body b ++ code m) i k k (omega arith) (lying_whole (code_body b ++ code m) k));
      ends = omega arith;
    }
holds-behind {i = i} {k = k} (in_init {b = b} {m = m} e) =
    let o = length-append (i_init ∷ code_body b) (code m) in
    record { units = m; lies = lying_behind (i_init ∷ []) (code_body b ++ code m) (code_body b ++ code m) i k k e (lying_whole (code_body b ++ code m) k); ends = omega arith }
holds-behind {i = i} {k = k} (later {x = x} {m = m} {b = b} p) =
    let r = holds-behind p in
    let y = r.ends in
    let z = size-part x in
    let o = length-append (code_part x) (code m) in
    record {
      units = r.units;
      lies = lying_behind (code_part x) (code m) (code_body b ++ code r.units) i (i + size_part x) k (omega arith) r.lies;
      ends = omega arith;
    }

-- ---- no size and no value
module _ (t : List ℕ) where
  abbrev Plain : ℕ → Type 0
  Plain c = c_size ≤ c → c ≤ c_channel → ⊥

  low_plain : (c : ℕ) → c < c_local → Plain c
  low_plain c h a b = omega arith

  first_activity : (x : Activity) (w : Name) (l : List Item) (j : ℕ) → Held t j (code_activity x w ++ l) → Plain (code_of t j)
  first_activity idle w l j h a b = let z = h.0 in omega arith
  first_activity once w l j h a b = let z = h.0 in omega arith
  first_activity (times n) w l j h a b = let z = h.0 in omega arith

  -- the first item of a unit
  first_part : (x : Part) (l : List Item) (j : ℕ) → AllKnown (code_part x ++ l) → Held t j (code_part x ++ l) → Plain (code_of t j)
  first_part (mtypes ws) l j k h a b = let z = h.0 in omega arith
  first_part (global (declare n xs)) l j k h a b = let z = h.0 in let y = type_below n k.0 in omega arith
  first_part (process x w gs d) l j k h a b = first_activity x w (each code_group gs ++ code_body d ++ l) j (subst (Held t j) whole h) a b
    where
      whole : code_activity x w ++ each code_group gs ++ code_body d ++ l ≡ code_activity x w ++ (each code_group gs ++ code_body d ++ l)
      whole =
          ap (◌++ l) (append_assoc (code_activity x w) (each code_group gs) (code_body d)) ∙ append_assoc (code_activity x w) (each code_group gs ++ code_body d) l
  first_part (init d) l j k h a b = let z = h.0 in omega arith

  pub first-model : (m : Model) (j : ℕ) → AllKnown (code m) → Held t j (code m) → (length (code m) ≡ 0 → code_of t j ≡ 0) → Plain (code_of t j)
  first-model [] j k h z a b = let y = z refl in omega arith
  first-model (x ∷ m) j k h z a b = first_part x (code m) j k h a b

  -- what is behind the declarations of a body, where nothing of that kind is behind the body
  pub clear_body : (l : List Item) (e : ℕ) → Below l → AllKnown l → Held t e (l ++ i_end_body ∷ []) → Clear t (e + length l) → Clear t e
  clear_body [] e b k h c = clear-here t e 0 refl c
  clear_body (x ∷ []) e b k h c = clear-code t e c_end_body h.2.0 (λ y z. omega arith)
  clear_body (x ∷ y ∷ l) e b k h c = clear-code t e (items.code_of y) h.2.0 (low_plain (items.code_of y) (b.1.0 k.1.0))

-- ---- accepted texts
module _ (t : List ℕ) (a : Accepts t) where
  abbrev X : List Item
  X = code a.tree

  pub here : (l : List Item) (j : ℕ) → Lying X 0 l j → Held (tables_text t) j l
  here l j p =
      let e = p.place in
      let z : length p.front ≡ j = omega arith in
      subst (λ (y : List ℕ). Held y j l) (inv (text-tables t a)) (subst (λ n. Held (tables_in a.tree (links_at t a)) n l) z (part_held t a p.front l p.rest p.split))

  pub past : (j : ℕ) → length X ≤ j → code_of (tables_text t) j ≡ 0
  unfolding code_of
  past j h = rw (le-ltb j (items_of (tables_text t)) (let e = (text-held t a).items in let n = items_long t a in omega arith))

  -- behind the end of a unit
  pub clear_end : {u k : ℕ} {b : Body} → Holds a.tree 0 u b k → (e : ℕ) → e + 1 ≡ k + length (code_body b) → Clear (tables_text t) e
  clear_end {u} {k} {b} p e z x y =
      let r = holds-behind p in
      let B = code_body b in
      let R = code r.units in
      let l = lying_back X B R 0 k (e + 1) z r.lies in
      let n = r.ends in
      first-model (tables_text t) r.units (e + 1) (known_there t a R (e + 1) l) (here R (e + 1) l) (λ w. past (e + 1) (omega arith)) x y

  -- ---- a walk over a unit
  pub unit-over : (f : ℕ → List ℤ → List ℤ) {u k : ℕ} (ds : List Declaration) (q : _) (r : Between X 0 u k) (s : List ℤ)
      → walk f u (end_in (body ds q) k - u) s
      ≡ over f (code_tree q) (start_in (body ds q) k) (over f (each (code_declaration i_local) ds) (k + 1) (f k (over f (each code_group r.groups) (suc u) (f u s))))
  unit-over f {u} {k} ds q r s =
      let G = each code_group r.groups in
      let D = each (code_declaration i_local) ds in
      let Q = code_tree q in
      let e = r.ends in
      let y = size-declarations ds in
      let z = size_tree q in
      let n : end_in (body ds q) k - u ≡ suc (length G + suc (length D + length Q)) = omega arith in
      let v : suc u + length G ≡ k = omega arith in
      let w : suc k ≡ k + 1 = omega arith in
      let S = over f G (suc u) (f u s) in
      ap (λ i. walk f u i s) n ∙ walk-one f u (length G + suc (length D + length Q)) s ∙ walk-both f (length G) (suc (length D + length Q)) (suc u) (f u s)
      ∙ ap (λ j. walk f j (suc (length D + length Q)) S) v ∙ walk-one f k (length D + length Q) S ∙ ap (λ j. walk f j (length D + length Q) (f k S)) w
      ∙ walk-both f (length D) (length Q) (k + 1) (f k S) ∙ ap (λ j. over f Q j (over f D (k + 1) (f k S))) (let x : k + 1 + length D ≡ start_in (body ds q) k = omega arith in x)

  pub body_ends : (b : Body) (k : ℕ) → end_in b k + 1 ≡ k + length (code_body b)
  body_ends (body ds q) k = omega (arith, size_body_lem (body ds q))

  pub unit_long : {u k : ℕ} {b : Body} → Holds a.tree 0 u b k → unit_length (tables_text t) u ≡ end_in b k - u
  unfolding unit_length
  unit_long {u} {k} {b} p =
      let r = holds-behind p in
      let l = ends_there t a (code_body b) k (lying_front X (code_body b) (code r.units) 0 k r.lies) in
      let e = body_ends b k in
      let f = (text-held t a).few in
      let z = (text-unit t a p).0 in
      omega arith

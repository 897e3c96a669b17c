-- What is declared in a model's units: at the statements of each body, the entries of its own space and those of the globals' so far.
use Prim.Native.Nat.{ℕ, zero, suc, ◌+◌, ◌-◌, ◌≤◌, ◌<◌}
use native.Mathlib.Omega.{arith}
use native.Mathlib.Decide.{ℕ_discrete}
use mathlib.Core.Path.{◌≡◌, refl, sym as inv, ap, ◌∙◌, subst}
use mathlib.Core.Bool.{Bool, true, false}
use mathlib.Core.Logic.{inr}
use mathlib.Core.List.{List, [], ◌∷◌, ◌++◌, append_assoc, append-nil}
use lib.ListN.{length, get_or, length-append}
use lib.Dec.{leb}
use borrow.Author.Tests.{leb-true}
use Rattle.base_codes.specs.Codes.{c_active, c_active_many, c_body, c_global, c_init, c_mtypes, c_name, c_number, c_parameter, c_proctype}
use Rattle.rule_sheets.specs.Homes.{inside_of}
use Rattle.rule_search.specs.Sets.{among}
use Rattle.spec_grammar.specs.Tree.{Name, Model, sequence, Tree, Declaration, declare, Group, body, Activity, idle, once, times, Part, mtypes, global, process, init}
use Rattle.base_codes.specs.Items.{Item, code_of, i_active, i_active_many, i_body, i_end_body, i_global, i_init, i_local, i_mtypes, i_name, i_number, i_proctype}
use Rattle.base_codes.specs.Sets.{is_unit}
use Rattle.parse_code.specs.Code.{each, code_tree, code_declaration, code_group, code_body, code_activity, code_message, code_part, code}
use Rattle.legal_terms.specs.Says.{item_at, Says}
use Rattle.spec_machine.specs.Sizes.{sum, size_in, size_declaration, size_group, size_activity, size_part}
use Rattle.agree_sizes.proofs.Sizes.{size_tree, size-declarations, size_groups, size_activity_lem, size-part}
use Rattle.spec_machine.specs.Program.{start_in, end_in}
use Rattle.legal_declarations.proofs.Items.{settled, all_declaration, global-settled, All, all-each}
use Rattle.legal_declarations.proofs.Standing.{Lies, lies_front, lies_back, lies_all, lies_whole, long, code_at, code_is, settled_at}
use Rattle.legal_declarations.proofs.Homes.{inside-none, inside-over, home_inside, home_of_head, home_most}
use Rattle.legal_declarations.proofs.Judging.{hs}
use Rattle.legal_declarations.proofs.Variables.{After}
use Rattle.legal_declarations.proofs.Declarations.{after-declarations}
use Rattle.legal_declarations.proofs.Bodies.{Frame, frame_made, frame_behind, home_in, inside-after}
use Rattle.spec_machine.specs.Names.{of_groups, of_declaration, of_declarations, variables_of, global_in, message_in, unit_at}
use Rattle.spec_machine.specs.Begins.{items_before, body_in, body_of}
use Rattle.agree_encode.specs.Encode.{head_in}
use Rattle.spec_machine.specs.Places.{Bodied}
use Rattle.agree_encode.specs.Tabled.{total_of}
use Rattle.agree_names.specs.Entries.{proctype, Entry, entry, slots, entries_in, entries_of, entries_to}
use Rattle.agree_names.proofs.Scopes.{Scoped, scoped_start, scoped_over, scoped_one, scoped_more}
use Rattle.agree_names.proofs.Ends.{Free, free_after, free_units}
use Rattle.agree_names.proofs.Declared.{sets, one_declaration, joined, all-declarations, all_groups, all_messages}
use Rattle.rule_sheets.proofs.Meaning.{no_head}

marks : (among 1 c_mtypes ≡ false) × (among 1 c_init ≡ false) × (among 1 c_body ≡ false) × (among 1 c_number ≡ false) × (among 13 c_proctype ≡ true) × (among 13 c_active ≡ true) × (among 13 c_active_many ≡ true)
unfolding among
marks = (refl, refl, refl, refl, refl, refl, refl)

-- items of a list of mtype names begin and end nothing
tame : Item → Bool
tame x = leb (code_of x) c_parameter

messages_tame : (ws : List Name) → All tame (each code_message ws)
unfolding tame
messages_tame ws = all-each tame code_message (λ w. (refl, (refl, tt))) ws

tame_code : (x : Item) → tame x ≡ true → code_of x ≤ c_parameter
unfolding tame
tame_code x e = leb-true (code_of x) c_parameter e

module _ (m : Model) (cs vs : List ℕ) (S : Says m cs vs) where
  abbrev xs : List Item
  xs = code m

  abbrev H : List ℕ
  H = hs m cs vs S

  abbrev Sc : List Entry → ℕ → ℕ → ℕ → ℕ → Type 0
  Sc = Scoped m cs vs H S

  -- ---- items outside of bodies
  pub flat : (j e : ℕ) → inside_of cs j ≡ 0 → j ≤ e → e ≤ length cs → ((i : ℕ) → j ≤ i → i < e → get_or cs i 0 ≤ c_parameter) → ((i : ℕ) → j ≤ i → i < e → get_or H i 0 ≡ 0) × (inside_of cs e ≡ 0)
  flat j e q b t l =
      (λ i x y. home_inside cs S.few i (omega arith) (no_head (get_or cs i 0) (l i x y)) ∙ far i x (omega arith), far e b (omega arith))
    where
      far : (i : ℕ) → j ≤ i → i ≤ e → inside_of cs i ≡ 0
      far i x y = inside-over cs j i x (λ k u v. (let z = l k u (omega arith) in (no_head (get_or cs k 0) z, λ w. omega arith))) ∙ q

  -- ---- a unit with a body: its frame, its own entries, and those of the globals where its statements begin
  pub record InUnit (x : Part) (E : List Entry) (u b f t o n : ℕ) : Type 0 where
    pub frame : Frame m cs vs S u b f t
    pub locals : Sc (slots 0 (variables_of x)) (suc u) f (0 + total_of (variables_of x)) 0
    pub globals : Sc E 0 f o n

  module _ (u b f t : ℕ) (F : Frame m cs vs S u b f t) where
    -- what is declared inside is not declared outside
    global-over : (E : List Entry) (o n i e : ℕ) → suc u ≤ i → i ≤ e → e ≤ suc t → Sc E 0 i o n → Sc E 0 e o n
    global-over E o n i e a c d sc =
        scoped_over m cs vs H S E 0 i e o n c (λ k x y. inr (λ z. (let r = home_in m cs vs S u b f t F k (omega arith) (omega arith) in omega arith))) sc

    own_entries : (gs : List Group) (ds : List Declaration) → b ≡ suc u + length (each code_group gs) → f ≡ suc b + length (each (code_declaration i_local) ds)
        → Lies xs (suc u) (each code_group gs) → Lies xs (suc b) (each (code_declaration i_local) ds) → After m cs vs S f
        → Sc (slots 0 (of_groups gs ++ of_declarations ds)) (suc u) f (0 + total_of (of_groups gs ++ of_declarations ds)) 0
    own_entries gs ds eb ef yg yd af =
        let i0 = F.parts in
        let i1 = F.inner in
        let i2 = F.last in
        let top = F.top in
        let home : (j : ℕ) → suc u ≤ j → j < suc t → get_or H j 0 ≡ suc u = λ j x y. home_in m cs vs S u b f t F j x (omega arith) in
        let start : Sc [] (suc u) (suc u) 0 0 =
        scoped_over m cs vs H S [] (suc u) 0 (suc u) 0 0 (omega arith) (λ i x y. inr (λ z. (let k = home_most cs S.few i (omega arith) in omega arith)))
        (scoped_start m cs vs H S (suc u)) in
        let ab : After m cs vs S b = ((λ z. (let e = F.begin in omega arith)), (after-declarations m cs vs S ds (suc b) yd (subst (After m cs vs S) ef af)).0) in
        let ps = all_groups m cs vs S (suc u) (suc u) (suc t) home (omega arith) gs [] (suc u) b 0 0 eb (omega arith) (omega arith) yg ab start in
        let pb = scoped_one m cs vs H S (slots 0 (of_groups gs)) (suc u) b (0 + total_of (of_groups gs)) 0 c_body F.begin marks.2 ps in
        joined m cs vs S (suc u) (suc u) (suc t) home (omega arith) [] (of_groups gs) (of_declarations ds) f 0 0
        (all-declarations m cs vs S (suc u) (suc u) (suc t) home (omega arith) ds (slots 0 (of_groups gs)) (suc b) f (0 + total_of (of_groups gs)) 0 ef (omega arith) (omega arith) yd af pb)

  -- the declarations of a body
  pub inner-declarations : (ds : List Declaration) (q : Tree sequence) (b : ℕ) → Lies xs b (code_body (body ds q)) → Lies xs (suc b) (each (code_declaration i_local) ds)
  inner-declarations ds q b y =
      (lies_front xs b (i_body ∷ each (code_declaration i_local) ds) (code_tree q) (lies_front xs b (i_body ∷ each (code_declaration i_local) ds ++ code_tree q) (i_end_body ∷ []) y)).2

  -- a proctype, whose name is item i
  process_in : (a : Activity) (w : Name) (gs : List Group) (ds : List Declaration) (q : Tree sequence) (E : List Entry) (i u b f t k o n : ℕ) → u ≡ suc i → is_unit k ≡ true → among 13 k ≡ true
      → i < length xs → item_at xs i ≡ i_name w → suc i < length xs → get_or cs (suc i) 0 ≡ k
      → b ≡ suc u + length (each code_group gs) → f ≡ suc b + length (each (code_declaration i_local) ds) → t ≡ f + length (code_tree q)
      → Lies xs (suc u) (each code_group gs) → Lies xs b (code_body (body ds q)) → After m cs vs S (suc t) → Sc E 0 i o n
      → InUnit (process a w gs (body ds q)) (E ++ entry w (proctype u) ∷ []) u b f t (o + 0) (n + 0)
  process_in a w gs ds q E i u b f t k o n eu hd pr bi qi bu ck eb ef et yg yb after sc =
      let lg = long m cs vs S in
      let cu : get_or cs u 0 ≡ k = ap (λ j. get_or cs j 0) eu ∙ ck in
      let F = frame_made m cs vs S gs ds q u b f t (ap is_unit cu ∙ hd) eb ef et yg yb (omega arith) in
      let i0 = F.parts in
      let i1 = F.inner in
      let i2 = F.last in
      let E2 = E ++ entry w (proctype u) ∷ [] in
      let s2 : Sc E2 0 (suc (suc i)) (o + 0) (n + 0) =
      scoped_more m cs vs H S E 0 i o n w (proctype u) (omega arith) qi (ap (among 13) ck ∙ pr, home_of_head cs S.few (suc i) (omega arith) (ap is_unit ck ∙ hd), inv eu)
      (scoped_one m cs vs H S E 0 i o n c_name (code_is m cs vs S i (i_name w) bi qi) sets.0 sc) in
      record {
        frame = F;
        locals = own_entries u b f t F gs ds eb ef yg (inner-declarations ds q b yb) (frame_behind m cs vs S u b f t F after.0);
        globals = global-over u b f t F E2 (o + 0) (n + 0) (suc (suc i)) f (omega arith) (omega arith) (omega arith) s2;
      }

  -- nothing more
  nothing-more : (E : List Entry) (j o n : ℕ) → Sc E 0 j o n → Sc (E ++ []) 0 j (o + 0) (n + 0)
  nothing-more E j o n sc =
      subst (λ i. Sc (E ++ []) 0 j i (n + 0)) (let z : o ≡ o + 0 = omega arith in z)
      (subst (λ i. Sc (E ++ []) 0 j o i) (let z : n ≡ n + 0 = omega arith in z) (subst (λ (l : List Entry). Sc l 0 j o n) (inv (append-nil E)) sc))

  -- a unit whose items begin at item j, behind the entries E
  module _ (E : List Entry) (j o n : ℕ) where
    abbrev In : Part → Type 0
    In x =
        InUnit x (E ++ entries_in j o n x) (head_in x j) (body_in x j) (start_in (body_of x) (body_in x j)) (end_in (body_of x) (body_in x j)) (o + total_of (global_in x)) (n + length (message_in x))

    -- a proctype whose name is item i
    proctype_in : (a : Activity) (w : Name) (gs : List Group) (ds : List Declaration) (q : Tree sequence) (i k : ℕ) → suc (suc i) ≡ j + size_activity a → is_unit k ≡ true → among 13 k ≡ true
        → i < length xs → item_at xs i ≡ i_name w → suc i < length xs → get_or cs (suc i) 0 ≡ k
        → Lies xs j (code_part (process a w gs (body ds q))) → After m cs vs S (j + size_part (process a w gs (body ds q))) → Sc E 0 i o n → In (process a w gs (body ds q))
    proctype_in a w gs ds q i k ei hd pr bi qi bu ck y after sc =
        let A = code_activity a w in
        let G = each code_group gs in
        let X = code_body (body ds q) in
        let s1 : length (A ++ G) ≡ length A + length G = length-append A G in
        let s2 = size_activity_lem a w in
        let s3 = size_groups gs in
        let s4 = size-declarations ds in
        let u = j + size_activity a - 1 in
        let b = j + size_activity a + sum size_group gs in
        let f = b + 1 + sum size_declaration ds in
        let t = f + size_in q in
        process_in a w gs ds q E i u b f t k o n (omega arith) hd pr bi qi bu ck (omega arith) (omega arith) (omega (arith, size_tree q))
        (lies_back xs A G j (suc u) (omega arith) (lies_front xs j (A ++ G) X y)) (lies_back xs (A ++ G) X j b (omega arith) y)
        (subst (After m cs vs S) (let z : j + size_part (process a w gs (body ds q)) ≡ suc t = omega arith in z) after) sc

    pub unit_in : (x : Part) → Bodied x → Lies xs j (code_part x) → After m cs vs S (j + size_part x) → Sc E 0 j o n → In x
    unit_in (mtypes ws) bo y after sc = absurd bo
    unit_in (global d) bo y after sc = absurd bo
    unit_in (process idle w gs (body ds q)) bo y after sc =
        proctype_in idle w gs ds q j c_proctype (omega arith) refl marks.4 y.0 y.1 y.2.0 (code_is m cs vs S (suc j) i_proctype y.2.0 y.2.1) y after sc
    unit_in (process once w gs (body ds q)) bo y after sc =
        proctype_in once w gs ds q j c_active (omega arith) refl marks.5 y.0 y.1 y.2.0 (code_is m cs vs S (suc j) i_active y.2.0 y.2.1) y after sc
    unit_in (process (times r) w gs (body ds q)) bo y after sc =
        proctype_in (times r) w gs ds q (suc j) c_active_many (omega arith) refl marks.6 y.2.0 y.2.1 y.2.2.0 (code_is m cs vs S (suc (suc j)) i_active_many y.2.2.0 y.2.2.1) y after
        (scoped_one m cs vs H S E 0 j o n c_number (code_is m cs vs S j (i_number r) y.0 y.1) marks.3 sc)
    unit_in (init (body ds q)) bo y after sc =
        let s4 = size-declarations ds in
        let ci = code_is m cs vs S j i_init y.0 y.1 in
        let b = j + 1 in
        let f = b + 1 + sum size_declaration ds in
        let t = f + size_in q in
        let yb : Lies xs b (code_body (body ds q)) = subst (λ i. Lies xs i (code_body (body ds q))) (let z : suc j ≡ j + 1 = omega arith in z) y.2 in
        let F = frame_made m cs vs S [] ds q j b f t (ap is_unit ci) (omega arith) (omega arith) (omega (arith, size_tree q)) tt yb y.0 in
        let i1 = F.inner in
        let i2 = F.last in
        let aft = subst (After m cs vs S) (let z : j + size_part (init (body ds q)) ≡ suc t = omega arith in z) after in
        let s1 = scoped_one m cs vs H S E 0 j o n c_init ci marks.1 sc in
        record {
          frame = F;
          locals = own_entries j b f t F [] ds (omega arith) (omega arith) tt (inner-declarations ds q b yb) (frame_behind m cs vs S j b f t F aft.0);
          globals = nothing-more E f o n (global-over j b f t F E o n (suc j) f (omega arith) (omega arith) (omega arith) s1);
        }

    -- behind the unit
    abbrev Behind : Part → Type 0
    Behind x = Sc (E ++ entries_in j o n x) 0 (j + size_part x) (o + total_of (global_in x)) (n + length (message_in x)) × (inside_of cs (j + size_part x) ≡ 0)

    bodied-behind : (x : Part) (u b f t : ℕ) → suc t ≡ j + size_part x → InUnit x (E ++ entries_in j o n x) u b f t (o + total_of (global_in x)) (n + length (message_in x)) → Behind x
    bodied-behind x u b f t e I =
        let i0 = I.frame.parts in
        let i1 = I.frame.inner in
        let i2 = I.frame.last in (
          subst (λ i. Sc (E ++ entries_in j o n x) 0 i (o + total_of (global_in x)) (n + length (message_in x))) e
              (global-over u b f t I.frame (E ++ entries_in j o n x) (o + total_of (global_in x)) (n + length (message_in x)) f (suc t) (omega arith) (omega arith) (omega arith) I.globals),
          ap (inside_of cs) (inv e) ∙ inside-after m cs vs S u b f t I.frame,
        )

    pub unit-behind : (x : Part) → Lies xs j (code_part x) → j + size_part x ≤ length cs → After m cs vs S (j + size_part x) → Sc E 0 j o n → inside_of cs j ≡ 0 → Behind x
    unit-behind (mtypes ws) y top after sc ins =
        let e = j + size_part (mtypes ws) in
        let sz = size-part (mtypes ws) in
        let lg = long m cs vs S in
        let cm = code_is m cs vs S j i_mtypes y.0 y.1 in
        let codes : (i : ℕ) → suc j ≤ i → i < e → get_or cs i 0 ≤ c_parameter =
        λ i u v. (let k = tame_code (item_at xs i) (lies_all xs tame (each code_message ws) (suc j) y.2 (messages_tame ws) i u (omega arith)) in
        let z = code_at m cs vs S i (omega arith) in
        omega arith) in
        let fl = flat j e ins (omega arith) top (λ i u v. upto i e u v cm codes (ℕ_discrete i j)) in
        let r = all_messages m cs vs S 0 j e fl.0 top ws E (suc j) e o n (omega arith) (omega arith) (omega arith) y.2 (scoped_one m cs vs H S E 0 j o n c_mtypes cm marks.0 sc) in
        (subst (λ i. Sc (E ++ entries_in j o n (mtypes ws)) 0 e i (n + length ws)) (let z : o ≡ o + 0 = omega arith in z) r, fl.1)
      where
        upto : (i e : ℕ) → j ≤ i → i < e → get_or cs j 0 ≡ c_mtypes → ((i : ℕ) → suc j ≤ i → i < e → get_or cs i 0 ≤ c_parameter) → Dec (i ≡ j) → get_or cs i 0 ≤ c_parameter
        upto i e u v cm codes (yes z) = let w : get_or cs i 0 ≡ c_mtypes = ap (λ n. get_or cs n 0) z ∙ cm in omega arith
        upto i e u v cm codes (no z) = codes i (omega arith) v
    unit-behind (global (declare t us)) y top after sc ins =
        let e = j + size_part (global (declare t us)) in
        let sz = size-part (global (declare t us)) in
        let lg = long m cs vs S in
        let fl = flat j e ins (omega arith) top (λ i u v. (let w = (settled_at m cs vs S i (omega arith) (lies_all xs settled (code_declaration i_global (declare t us)) j y
        (all_declaration i_global global-settled (declare t us)) i u (omega arith))).0 in
        omega arith)) in
        let r = one_declaration m cs vs S 0 j e fl.0 top i_global c_global t us E j e o n refl sets.5 sets.8 (omega arith) (omega arith) (omega arith) y after sc in
        (subst (λ i. Sc (E ++ entries_in j o n (global (declare t us))) 0 e (o + total_of (of_declaration (declare t us))) i) (let z : n ≡ n + 0 = omega arith in z) r, fl.1)
    unit-behind (process a w gs (body ds q)) y top after sc ins =
        let b = body_in (process a w gs (body ds q)) j in
        bodied-behind (process a w gs (body ds q)) (head_in (process a w gs (body ds q)) j) b (start_in (body ds q) b) (end_in (body ds q) b) (omega arith)
        (unit_in (process a w gs (body ds q)) tt y after sc)
    unit-behind (init (body ds q)) y top after sc ins =
        let b = j + 1 in
        bodied-behind (init (body ds q)) j b (start_in (body ds q) b) (end_in (body ds q) b) (omega arith) (unit_in (init (body ds q)) tt y after sc)

  -- ---- all units
  -- unit k, whose items begin at item i
  abbrev pub UnitAt : Model → ℕ → ℕ → List Entry → ℕ → ℕ → Type 0
  UnitAt n k i E o c =
      InUnit (unit_at n k) E (head_in (unit_at n k) i) (body_in (unit_at n k) i) (start_in (body_of (unit_at n k)) (body_in (unit_at n k) i)) (end_in (body_of (unit_at n k)) (body_in (unit_at n k) i)) o c

  -- a unit x of the model, behind the items `front` and before the units n
  pub first-stands : (x : Part) (n : Model) (front : List Item) (j : ℕ) → xs ≡ front ++ code (x ∷ n) → j ≡ length front
      → Lies xs j (code_part x) × (j + size_part x ≤ length cs) × Free cs (j + size_part x)
  first-stands x n front j split at =
      let X = code_part x in
      let y : Lies xs j (X ++ code n) =
      subst (λ i. Lies xs i (X ++ code n)) (inv at) (subst (λ i. Lies i (length front) (X ++ code n)) (inv split) (lies_whole front (X ++ code n))) in
      let s1 : length xs ≡ length front + length (X ++ code n) = ap length split ∙ length-append front (X ++ code n) in
      let s2 : length (X ++ code n) ≡ length X + length (code n) = length-append X (code n) in
      let s3 = size-part x in
      let lg = long m cs vs S in
      (lies_front xs j X (code n) y, omega arith, free_units m cs vs S n (j + size_part x) (lies_back xs X (code n) j (j + size_part x) (omega arith) y) (omega arith))

  units_in : (n : Model) (front : List Item) (E : List Entry) (j o c k i : ℕ) → xs ≡ front ++ code n → j ≡ length front → i ≡ j + items_before n k → Sc E 0 j o c → inside_of cs j ≡ 0
      → Bodied (unit_at n k) → (p : ℕ) × ((q : ℕ) × UnitAt n k i (E ++ entries_to j o c n k) p q)
  unfolding items_before
  units_in [] front E j o c k i split at ei sc ins bo = absurd bo
  units_in (x ∷ n) front E j o c zero i split at ei sc ins bo =
      let r = first-stands x n front j split at in
      let p = o + total_of (global_in x) in
      let q = c + length (message_in x) in
      (p, (q, subst (λ i. UnitAt (x ∷ n) 0 i (E ++ entries_in j o c x) p q) (let z : j ≡ i = omega arith in z) (unit_in E j o c x bo r.0 (free_after m cs vs S (j + size_part x) r.2) sc)))
  units_in (x ∷ n) front E j o c (suc k) i split at ei sc ins bo =
      let r = first-stands x n front j split at in
      let X = code_part x in
      let p = o + total_of (global_in x) in
      let q = c + length (message_in x) in
      let b = unit-behind E j o c x r.0 r.1 (free_after m cs vs S (j + size_part x) r.2) sc ins in
      let s3 : length (front ++ X) ≡ length front + length X = length-append front X in
      let s4 = size-part x in
      let w = units_in n (front ++ X) (E ++ entries_in j o c x) (j + size_part x) p q k i (split ∙ inv (append_assoc front X (code n))) (omega arith) (omega arith) b.0 b.1 bo in
      (w.0, (w.1.0, subst (λ (l : List Entry). UnitAt n k i l w.0 w.1.0) (append_assoc E (entries_in j o c x) (entries_to (j + size_part x) p q n k)) w.1.1))

  pub unit-entries : (k : ℕ) → Bodied (unit_at m k) → (p : ℕ) × ((q : ℕ) × UnitAt m k (items_before m k) (entries_to 0 0 0 m k) p q)
  unit-entries k bo = units_in m [] [] 0 0 0 k (items_before m k) refl refl (omega arith) (scoped_start m cs vs H S 0) (inside-none cs) bo

  -- all entries, behind the last item
  units-all : (n : Model) (front : List Item) (E : List Entry) (j o c : ℕ) → xs ≡ front ++ code n → j ≡ length front → Sc E 0 j o c → inside_of cs j ≡ 0
      → (p : ℕ) × ((q : ℕ) × Sc (E ++ entries_of j o c n) 0 (length cs) p q)
  units-all [] front E j o c split at sc ins =
      let z : j ≡ length cs = at ∙ inv (ap length (split ∙ append-nil front)) ∙ inv (long m cs vs S) in
      (o, (c, subst (λ i. Sc (E ++ []) 0 i o c) z (subst (λ (l : List Entry). Sc l 0 j o c) (inv (append-nil E)) sc)))
  units-all (x ∷ n) front E j o c split at sc ins =
      let r = first-stands x n front j split at in
      let X = code_part x in
      let p = o + total_of (global_in x) in
      let q = c + length (message_in x) in
      let b = unit-behind E j o c x r.0 r.1 (free_after m cs vs S (j + size_part x) r.2) sc ins in
      let s3 : length (front ++ X) ≡ length front + length X = length-append front X in
      let s4 = size-part x in
      let w = units-all n (front ++ X) (E ++ entries_in j o c x) (j + size_part x) p q (split ∙ inv (append_assoc front X (code n))) (omega arith) b.0 b.1 in
      (w.0, (w.1.0, subst (λ (l : List Entry). Sc l 0 (length cs) w.0 w.1.0) (append_assoc E (entries_in j o c x) (entries_of (j + size_part x) p q n)) w.1.1))

  pub model-entries : (p : ℕ) × ((q : ℕ) × Sc (entries_of 0 0 0 m) 0 (length cs) p q)
  model-entries = units-all m [] [] 0 0 0 refl refl (scoped_start m cs vs H S 0) (inside-none cs)

  -- where the items of a unit stand
  units_lie : (n : Model) (front : List Item) (j k i : ℕ) → xs ≡ front ++ code n → j ≡ length front → i ≡ j + items_before n k → Bodied (unit_at n k) → Lies xs i (code_part (unit_at n k))
  unfolding items_before
  units_lie [] front j k i split at ei b = absurd b
  units_lie (x ∷ n) front j zero i split at ei b = subst (λ i. Lies xs i (code_part x)) (let z : j ≡ i = omega arith in z) (first-stands x n front j split at).0
  units_lie (x ∷ n) front j (suc k) i split at ei b =
      let s3 : length (front ++ code_part x) ≡ length front + length (code_part x) = length-append front (code_part x) in
      let s4 = size-part x in
      units_lie n (front ++ code_part x) (j + size_part x) k i (split ∙ inv (append_assoc front (code_part x) (code n))) (omega arith) (omega arith) b

  pub unit_lies : (k : ℕ) → Bodied (unit_at m k) → Lies xs (items_before m k) (code_part (unit_at m k))
  unit_lies k b = units_lie m [] 0 k (items_before m k) refl refl (omega arith) b

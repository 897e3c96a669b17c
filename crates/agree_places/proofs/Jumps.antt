-- A GOTO LEADS TO THE STATEMENT OF ITS BODY THAT HAS THE LABEL.
use Prim.Native.Nat.{ℕ, suc, ◌+◌, ◌-◌, ◌≤◌, ◌<◌, min}
use native.Mathlib.Omega.{arith}
use native.Mathlib.Decide.{dec_lt}
use mathlib.Core.Path.{◌≡◌, refl, sym as inv, ap, ◌∙◌, subst}
use mathlib.Core.Bool.{Bool, true, false}
use mathlib.Core.Logic.{inl, inr}
use mathlib.Core.List.{List, [], ◌∷◌, ◌++◌}
use lib.ListN.{length, get_or, length-append}
use lib.Seq.{get_or-append_seam}
use lib.Dec.{eqb}
use borrow.Author.Tests.{eq-eqb, eqb-true, lt-ltb}
use Rattle.base_codes.specs.Codes.{c_goto, c_label}
use Rattle.base_bytes.specs.Choice.{pick, both, either}
use Rattle.base_bytes.proofs.Tests.{true_false, both_true}
use Rattle.rule_sheets.specs.Walks.{first}
use Rattle.rule_search.specs.Sets.{among}
use Rattle.rule_search.specs.Search.{declares, find}
use Rattle.rule_item.specs.Rules.{bad_twice, bad_by}
use Rattle.table_layout.specs.Access.{link_of}
use Rattle.link_places.specs.Places.{is_mark, place_from}
use Rattle.spec_grammar.specs.Tree.{Name, sequence, Tree, leaf, goto, bare, Body, body}
use Rattle.base_codes.specs.Items.{Item, i_goto, i_label, i_name, i_plain}
use Rattle.base_codes.specs.Sets.{is_part, is_alone, is_lead, rule_of}
use Rattle.parse_code.specs.Code.{code_tree, code_body, code}
use Rattle.read_passes.specs.Judging.{tables_text}
use Rattle.read_accepts_proof.specs.Meaning.{Accepts}
use Rattle.agree_eval.specs.Names.{codes_at, said_at}
use Rattle.agree_eval.proofs.Main.{items_long}
use Rattle.agree_eval.proofs.Said.{first_said}
use Rattle.keep_tables.specs.Well.{Unit, Inside}
use Rattle.keep_tables.specs.Held.{Held}
use Rattle.keep_tables.specs.Facts.{homes, starts, heights, links_in, Facts}
use Rattle.keep_tables.proofs.Tables.{text-held}
use Rattle.keep_tables.proofs.Known.{text_facts}
use Rattle.keep_tables.proofs.Links.{link_is}
use Rattle.keep_tables.proofs.Firsts.{first_most}
use Rattle.keep_tables.proofs.Variables.{unit_home}
use Rattle.keep_tables.proofs.Jumps.{find-says, declared-says, label-code, body_in, goto_rule, goto_link}
use Rattle.agree_nesting.proofs.Leaves.{quiet, none}
use Rattle.agree_control.proofs.Begins.{Dull, one, dull_skip, statement_from}
use Rattle.agree_control.proofs.Main.{text-unit}
use Rattle.spec_machine.specs.Stage.{Ways}
use Rattle.spec_machine.specs.Sizes.{size_in}
use Rattle.agree_sizes.proofs.Sizes.{size_tree, size_body_lem}
use Rattle.agree_sizes.specs.Bodies.{Holds, Statement}
use Rattle.spec_machine.specs.Program.{label_in, start_in, end_in, sequence_of}
use Rattle.agree_stage.proofs.Stands.{Lying, within_lies, body_lies, statements_lie, lying_in, lying_back}
use Rattle.agree_stage.proofs.Labels.{Labelled, Search, label_found, marked, Behind, labelled_lies}
use Rattle.agree_offers.proofs.Places.{at_there, known_there, ends_there}
use Rattle.agree_places.proofs.Labels.{label_there}
use Rattle.agree_places.proofs.Names.{said-names}
use Rattle.agree_places.proofs.Heads.{holds_between, label-late}

-- ---- what a search for a label says
module _ (cs vs hs : List ℕ) where
  pub declares-name : (set w h d : ℕ) → declares cs vs hs set w h d ≡ true → get_or vs (d - 1) 0 ≡ w
  unfolding declares
  declares-name set w h d = go (among set (get_or cs d 0))
    where
      go : (b : Bool) → pick b (both (eqb (get_or vs (d - 1) 0) w) (eqb (get_or hs d 0) h)) false ≡ true → get_or vs (d - 1) 0 ≡ w
      go true q = eqb-true (get_or vs (d - 1) 0) w (both_true (eqb (get_or vs (d - 1) 0) w) (eqb (get_or hs d 0) h) q).0
      go false q = absurd (true_false (inv q))

  label-declares : (w h d : ℕ) → get_or cs d 0 ≡ c_label → get_or vs (d - 1) 0 ≡ w → get_or hs d 0 ≡ h → declares cs vs hs 2 w h d ≡ true
  unfolding declares among
  label-declares w h d c e g = rw (c, eq-eqb (get_or vs (d - 1) 0) w e, eq-eqb (get_or hs d 0) h g)

  -- a search that finds something is not for `_pid`, and finds the first
  pub find-some : (set w h to : ℕ) → find cs vs hs set w h to < to → (w ≡ 0 → ⊥) × (find cs vs hs set w h to ≡ first (declares cs vs hs set w h) 0 to)
  unfolding find
  find-some set w h to = go (eqb w 0) refl
    where
      go : (b : Bool) → eqb w 0 ≡ b → pick b to (first (declares cs vs hs set w h) 0 to) < to
          → (w ≡ 0 → ⊥) × (pick b to (first (declares cs vs hs set w h) 0 to) ≡ first (declares cs vs hs set w h) 0 to)
      go true e l = absurd (omega arith)
      go false e l = (λ z. true_false (inv (eq-eqb w 0 z) ∙ e), refl)

  find_most : (set w h to d : ℕ) → (w ≡ 0 → ⊥) → d < to → declares cs vs hs set w h d ≡ true → find cs vs hs set w h to ≤ d
  unfolding find
  find_most set w h to d n l e = go (eqb w 0) refl
    where
      go : (b : Bool) → eqb w 0 ≡ b → pick b to (first (declares cs vs hs set w h) 0 to) ≤ d
      go true q = absurd (n (eqb-true w 0 q))
      go false q = first_most (declares cs vs hs set w h) 0 to d (omega arith) e

label_rule : (cs vs hs ss ts : List ℕ) (j : ℕ) → get_or cs j 0 ≡ c_label → bad_by cs vs hs ss ts (rule_of (get_or cs j 0)) j ≡ bad_twice cs vs hs 2 j
unfolding bad_by rule_of
label_rule cs vs hs ss ts j e = rw e

-- no label of the same name before it
once-only : (cs vs hs : List ℕ) (j : ℕ) → bad_twice cs vs hs 2 j ≡ 0 → find cs vs hs 2 (get_or vs (j - 1) 0) (get_or hs j 0) j < j → ⊥
unfolding bad_twice
once-only cs vs hs j e l = go (eqb (get_or vs (j - 1) 0) 0) (ap (λ b. pick (either (eqb (get_or vs (j - 1) 0) 0) b) 4 0) (inv (lt-ltb (find cs vs hs 2 (get_or vs (j - 1) 0) (get_or hs j 0) j) j l)) ∙ e)
  where
    go : (b : Bool) → pick {A = ℕ} (either b true) 4 0 ≡ 0 → ⊥
    go true q = omega arith
    go false q = omega arith

label-dull : Dull (i_label ∷ [])
unfolding quiet is_part is_alone is_lead
label-dull = one i_label (refl, refl) none

label-marks : is_mark c_label ≡ true
unfolding is_part
label-marks = refl

body_some : (b : Body) → 1 ≤ length (code_body b)
body_some (body ds q) = omega arith

start-late : (b : Body) (k : ℕ) → k < start_in b k
start-late (body ds q) k = omega arith

-- the end of a body stands behind its statements
body_long : (b : Body) (k : ℕ) → end_in b k + 1 ≡ k + length (code_body b)
body_long (body ds q) k = omega (arith, size_body_lem (body ds q))

pub end_is : (b : Body) (k : ℕ) → end_in b k ≡ start_in b k + size_in (sequence_of b)
end_is (body ds q) k = refl

module _ (t : List ℕ) (a : Accepts t) where
  abbrev T : List ℕ
  T = tables_text t

  abbrev C : List ℕ
  C = codes_at t a

  abbrev S : List ℕ
  S = said_at t a

  abbrev X : List Item
  X = code a.tree

  abbrev hs : List ℕ
  hs = homes C

  H : Held T C S (links_in C S)
  H = text-held t a

  K : Facts C S
  K = text_facts t a

  -- ---- units
  pub unit_of : {u k : ℕ} (b : Body) → Holds a.tree 0 u b k → Unit T u
  unit_of {u} {k} b p =
      let r = text-unit t a p in
      let e = (holds_between p).ends in
      let l = ends_there t a (code_body b) k (body_lies p) in
      let some = body_some b in
      (subst (u <◌) (inv H.items) (omega arith), r.2, r.3)

  module _ {u k : ℕ} (b : Body) (p : Holds a.tree 0 u b k) where
    abbrev q : Tree sequence
    q = sequence_of b

    abbrev from : ℕ
    from = start_in b k

    all : Lying X 0 (code_tree q) from
    all = lying_in X (code_body b) (code_tree q) 0 k from (body_lies p) (statements_lie b k)

    ends : link_of T u ≡ end_in b k
    ends = (text-unit t a p).0

    -- ---- a label item of the unit is a label of the tree
    label_of : (l : ℕ) → u < l → l < end_in b k → get_or C l 0 ≡ c_label → (w : Name) × Labelled w q from (l + 1)
    label_of l g h e = label_there C q from l (known_there t a (code_tree q) from all) (at_there t a (code_tree q) from all) (label-late t a l e b p g) (let z = end_is b k in omega arith) e

    -- where its statement stands
    module _ (w : Name) (j : ℕ) (m : Labelled w q from j) where
      abbrev r : Behind w (code_tree q) from j
      r = labelled_lies q from j m

      lies : Lying X 0 (marked w r.act) r.at
      lies = lying_in X (code_tree q) (marked w r.act) 0 from r.at all r.lies

      name_there : get_or X r.at i_plain ≡ i_name w
      name_there =
          let f = lies.front in
          let z : r.at ≡ length f = let e = lies.place in omega arith in
          ap (λ (y : List Item). get_or y r.at i_plain) lies.split ∙ ap (λ n. get_or (f ++ (marked w r.act ++ lies.rest)) n i_plain) z ∙ get_or-append_seam f (i_name w) (i_label ∷ code_tree r.act ++ lies.rest) i_plain

      label_code_there : get_or C (r.at + 1) 0 ≡ c_label
      label_code_there = ap (λ n. get_or C n 0) (let z : r.at + 1 ≡ suc r.at = omega arith in z) ∙ (at_there t a (marked w r.act) r.at lies).1.0

      act_ends : r.at + 2 + size_in r.act ≤ end_in b k
      act_ends =
          let f = r.lies.place in
          let n = ap length r.lies.split in
          let g = length-append r.lies.front (marked w r.act ++ r.lies.rest) in
          let h = length-append (marked w r.act) r.lies.rest in
          let z = end_is b k in
          omega (arith, size_tree q, size_tree r.act)

      inside_there : (u < r.at + 1) × (r.at + 1 < end_in b k)
      inside_there = let e = (holds_between p).ends in let f = r.lies.place in let o = start-late b k in let n = act_ends in (omega arith, omega arith)

      -- the place behind the label is that of the statement
      place_there : place_from C (r.at + 1) ≡ j
      place_there =
          let l = r.at + 1 in
          let back = lying_back X (i_name w ∷ []) (i_label ∷ code_tree r.act) 0 r.at l refl lies in
          let act = lying_back X (i_label ∷ []) (code_tree r.act) 0 l (l + 1) refl back in
          let o = act_ends in
          let long = body_long b k in
          let most = ends_there t a (code_body b) k (body_lies p) in
          let m = at_there t a (i_label ∷ code_tree r.act) l back in
          dull_skip C label-dull ((known_there t a (i_label ∷ code_tree r.act) l back).0, tt) l (m.0, tt) (omega arith)
          ∙ (statement_from C (bare r.act) (known_there t a (code_tree r.act) (l + 1) act) (l + 1) (at_there t a (code_tree r.act) (l + 1) act) (omega arith)
          (ap (λ i. is_mark (get_or C i 0)) (let z : l + 1 - 1 ≡ l = omega arith in z) ∙ ap is_mark m.0 ∙ label-marks)).0
          ∙ (let z = r.two in let y : l + 1 ≡ j = omega arith in y)

  -- ---- goto
  module _ {u j : ℕ} {w : Name} {h : Ways} (s : Statement a.tree u (leaf (goto w)) j h) where
    abbrev b : Body
    b = s.own

    abbrev k : ℕ
    k = s.at

    n : Unit T u
    n = unit_of b s.held

    lies_here : Lying X 0 (code_tree (leaf (goto w))) j
    lies_here = lying_in X (code_tree (q b s.held)) (code_tree (leaf (goto w))) 0 (from b s.held) j (all b s.held) (within_lies s.inside)

    here : Inside T u (j + 1)
    here =
        let e = (holds_between s.held).ends in
        let f = within_lies s.inside in
        let g = f.place in
        let m = ap length f.split in
        let v = length-append f.front (code_tree (leaf (goto w)) ++ f.rest) in
        let z = end_is b k in
        let o = start-late b k in
        let l = ends b s.held in
        (omega arith, omega (arith, size_tree (sequence_of b)))

    name-here : get_or X j i_plain ≡ i_name w
    name-here =
        let f = lies_here.front in
        let z : j ≡ length f = let e = lies_here.place in omega arith in
        ap (λ (y : List Item). get_or y j i_plain) lies_here.split ∙ ap (λ i. get_or (f ++ (code_tree (leaf (goto w)) ++ lies_here.rest)) i i_plain) z ∙ get_or-append_seam f (i_name w) (i_goto ∷ lies_here.rest) i_plain

    code_here : get_or C (j + 1) 0 ≡ c_goto
    code_here = ap (λ i. get_or C i 0) (let z : j + 1 ≡ suc j = omega arith in z) ∙ (at_there t a (code_tree (leaf (goto w))) j lies_here).1.0

    there : j + 1 < length C
    there = let m = ends_there t a (code_tree (leaf (goto w))) j lies_here in omega arith

    -- the label that is found
    abbrev l : ℕ
    l = find C S hs 2 (get_or S (j + 1 - 1) 0) (get_or hs (j + 1) 0) (length C)

    found : l < length C
    found = goto_rule T C S H K u n (j + 1) there code_here

    declared : declares C S hs 2 (get_or S (j + 1 - 1) 0) (get_or hs (j + 1) 0) l ≡ true
    declared = find-says C S hs 2 (get_or S (j + 1 - 1) 0) (get_or hs (j + 1) 0) (length C) found

    home_here : get_or hs (j + 1) 0 ≡ u + 1
    home_here = unit_home T C S H K u (j + 1) n here

    label_is : get_or C l 0 ≡ c_label
    label_is = label-code (get_or C l 0) (declared-says C S hs 2 (get_or S (j + 1 - 1) 0) (get_or hs (j + 1) 0) l declared).0

    label_in_lem : (u < l) × (l < end_in b k)
    label_in_lem =
        let r = body_in T C S H K u n l found (λ z. omega (arith, label_is)) ((declared-says C S hs 2 (get_or S (j + 1 - 1) 0) (get_or hs (j + 1) 0) l declared).1 ∙ home_here) in
        (r.0, let e = ends b s.held in let r1 = r.1 in omega arith)

    -- its name is the goto's
    says_here : get_or S (j + 1 - 1) 0 ≡ get_or S j 0
    says_here = ap (λ i. get_or S i 0) (let z : j + 1 - 1 ≡ j = omega arith in z)

    some : get_or S (j + 1 - 1) 0 ≡ 0 → ⊥
    some = (find-some C S hs 2 (get_or S (j + 1 - 1) 0) (get_or hs (j + 1) 0) (length C) found).0

    labelled_here : Labelled w (q b s.held) (from b s.held) (l + 1)
    labelled_here =
        let m = label_of b s.held l label_in_lem.0 label_in_lem.1 label_is in
        let v = m.0 in
        let r = labelled_lies (q b s.held) (from b s.held) (l + 1) m.1 in
        let two = r.two in
        let x : r.at ≡ l - 1 = omega arith in
        let long = items_long t a in
        let f = found in
        let g = there in
        let same : v ≡ w = said-names t a r.at j v w (omega arith) (omega arith) (name_there b s.held v (l + 1) m.1) name-here
        (ap (λ i. get_or S i 0) x ∙ declares-name C S hs 2 (get_or S (j + 1 - 1) 0) (get_or hs (j + 1) 0) l declared ∙ says_here)
        (λ z. some (inv (declares-name C S hs 2 (get_or S (j + 1 - 1) 0) (get_or hs (j + 1) 0) l declared) ∙ ap (λ i. get_or S i 0) (inv x) ∙ z)) in
        subst (λ (y : Name). Labelled y (q b s.held) (from b s.held) (l + 1)) same m.1

    -- the first label of that name is the only one
    only : (p : ℕ) → Labelled w (q b s.held) (from b s.held) p → p ≡ l + 1
    only p m = go (dec_lt l (r.at + 1))
      where
        r : Behind w (code_tree (q b s.held)) (from b s.held) p
        r = labelled_lies (q b s.held) (from b s.held) p m

        i : Inside T u (r.at + 1)
        i = let x = inside_there b s.held w p m in (x.0, let e = ends b s.held in let y = x.1 in omega arith)

        code : get_or C (r.at + 1) 0 ≡ c_label
        code = label_code_there b s.held w p m

        home : get_or hs (r.at + 1) 0 ≡ u + 1
        home = unit_home T C S H K u (r.at + 1) n i

        before : r.at + 1 < length C
        before = let x = (inside_there b s.held w p m).1 in let y = body_long b k in let z = ends_there t a (code_body b) k (body_lies s.held) in omega arith

        says : get_or S (r.at + 1 - 1) 0 ≡ get_or S (j + 1 - 1) 0
        says =
            ap (λ x. get_or S x 0) (let z : r.at + 1 - 1 ≡ r.at = omega arith in z)
            ∙ inv (first_said t a w r.at (let x = before in let y = items_long t a in omega arith) (name_there b s.held w p m))
            ∙ first_said t a w j (let x = there in let y = items_long t a in omega arith) name-here ∙ inv says_here

        most : l ≤ r.at + 1
        most = find_most C S hs 2 (get_or S (j + 1 - 1) 0) (get_or hs (j + 1) 0) (length C) (r.at + 1) some before (label-declares C S hs (get_or S (j + 1 - 1) 0) (get_or hs (j + 1) 0) (r.at + 1) code says (home ∙ inv home_here))

        go : Dec (l < r.at + 1) → p ≡ l + 1
        go (no z) = let x = r.two in let y = most in omega arith
        go (yes z) =
            absurd (once-only C S hs (r.at + 1) (inv (label_rule C S hs (starts C) (heights C) (r.at + 1) code) ∙ K.ruled (r.at + 1) before)
            (let x = find_most C S hs 2 (get_or S (r.at + 1 - 1) 0) (get_or hs (r.at + 1) 0) (r.at + 1) l (λ e. some (inv says ∙ e)) z
            (label-declares C S hs (get_or S (r.at + 1 - 1) 0) (get_or hs (r.at + 1) 0) l label_is
            (declares-name C S hs 2 (get_or S (j + 1 - 1) 0) (get_or hs (j + 1) 0) l declared ∙ inv says) ((declared-says C S hs 2 (get_or S (j + 1 - 1) 0) (get_or hs (j + 1) 0) l declared).1 ∙ home_here ∙ inv home)) in
            omega arith))

    label-place : label_in w (q b s.held) (from b s.held) 0 ≡ l + 1
    label-place = go (label_found w (q b s.held) (from b s.held) 0)
      where
        go : Search w (q b s.held) (from b s.held) 0 → label_in w (q b s.held) (from b s.held) 0 ≡ l + 1
        go (inl m) = only (label_in w (q b s.held) (from b s.held) 0) m
        go (inr m) = absurd (m.1 (l + 1) labelled_here)

    place_of : place_from C l ≡ l + 1
    place_of =
        let r = labelled_lies (q b s.held) (from b s.held) (l + 1) labelled_here in
        ap (place_from C) (let x = r.two in let z : l ≡ r.at + 1 = omega arith in z) ∙ place_there b s.held w (l + 1) labelled_here

    pub text-label : link_of (tables_text t) (j + 1) ≡ h.label w
    text-label =
        let r = link_is C S (j + 1) K.few there in
        let f = found in
        let few = K.few in
        H.links (j + 1) there ∙ r.1 ∙ ap (min 4294967295) (goto_link T C S H K u n r.0 (j + 1) code_here ∙ place_of) ∙ (let z : min 4294967295 (l + 1) ≡ l + 1 = omega arith in z) ∙ inv label-place ∙ inv (s.labels w)

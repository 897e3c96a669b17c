-- EXPRESSIONS AND REFERENCES INSIDE A STATEMENT: what is worked out over the tables is what they mean with the names of the place where the statement begins; a reference that is a channel
-- operand, a target or received links to the declaration of its name ("`_pid` is neither declared nor stored to").
use Prim.Native.Nat.{ℕ, zero, suc, ◌+◌, ◌-◌, ◌≤◌, ◌<◌}
use native.Mathlib.Omega.{arith}
use mathlib.Core.Path.{◌≡◌, refl, sym, ap, subst, ◌∙◌}
use mathlib.Core.Bool.{Bool, true, false}
use mathlib.Core.List.{List, [], ◌∷◌, ◌++◌, append_assoc}
use lib.ListN.{length, get_or, length-append, length-replicate}
use lib.IntN.{ℤ}
use lib.Dec.{eqb, ltb}
use borrow.Author.Tests.{ltb-true, ltb-false, ne_eqb}
use Rattle.base_ceilings.specs.Ceilings.{height_most, items_most}
use Rattle.base_codes.specs.Codes.{c_argument, c_message, c_plain, c_name}
use Rattle.base_bytes.specs.Choice.{pick, either}
use Rattle.spec_grammar.specs.Tree.{Name, Shape, Exp, Expr, Ref, plain, indexed, num, tru, fls}
use Rattle.rule_sheets.specs.Homes.{inside_of}
use Rattle.rule_sheets.specs.Spans.{starts_of, heights_of}
use Rattle.rule_search.specs.Sets.{among}
use Rattle.rule_search.specs.Search.{lookup}
use Rattle.rule_item.specs.Rules.{role_of, bad_plain, bad_variable, bad_use, bad_ref, bad_by, bad}
use Rattle.rule_least.specs.Faults.{blank}
use Rattle.link_phrases_proof.specs.Phrases.{Proper, At}
use Rattle.spec_rules.specs.Heights.{height}
use Rattle.link_phrases_proof.proofs.Starts.{at_front, some-items, phrase_starts}
use Rattle.link_phrases_proof.proofs.Inside.{phrase_inside}
use Rattle.link_places.specs.Places.{is_mark}
use Rattle.table_layout.specs.Access.{code_of, link_of}
use Rattle.read_passes.specs.Judging.{tables_text}
use Rattle.read_accepts_proof.specs.Meaning.{Accepts}
use Rattle.read_accepts_proof.proofs.Tables.{text-tables}
use Rattle.step_eval.specs.Expressions.{eval_of, locate_of}
use Rattle.spec_machine.specs.Eval.{eval}
use Rattle.agree_stage.specs.Scenes.{scene_of, size_in, Stands, Named, locate, Linked}
use Rattle.agree_stage.proofs.Tables.{locate_is}
use Rattle.agree_eval.specs.Names.{codes_at, said_at, homes_at, meant_at, decl_at, Arrays}
use Rattle.agree_eval.specs.Marks.{Closes, plainly, in_parentheses}
use Rattle.agree_eval.proofs.Codes.{codes_few}
use Rattle.agree_eval.proofs.Main.{items_long, text-stands}
use Rattle.agree_eval.proofs.Starts.{reference_class}
use Rattle.agree_eval.proofs.Said.{first_said, home_same}
use Rattle.agree_eval.proofs.Names.{low_at, link_means, means_found, means-none, text-named, text-means}
use Rattle.agree_eval.proofs.Declared.{no_fault}
use Rattle.agree_eval.proofs.Operators.{text_proper}
use Rattle.agree_eval.proofs.Whole.{text_arrays, text-height, text_evaluates}
use Rattle.spec_machine.specs.Arguments.{name_of}
use Rattle.agree_stage.proofs.Stands.{lying_back}
use Rattle.agree_offers.proofs.Places.{at_there, ends_there}
use Rattle.agree_effects.proofs.Meant.{Quiet, decl-same}
use Rattle.agree_effects.proofs.Parts.{Here, here_lies}
use Rattle.agree_effects.proofs.Marks.{all_parts, begins-leaf, leaf-class, link_mark}
use Rattle.base_codes.specs.Items.{Item, i_argument, i_assert, i_assign, i_decrement, i_equal, i_express, i_increment, i_index, i_into, i_name, i_plain, i_receive, i_send, i_target}
use Rattle.parse_code.specs.Code.{code_exp, code}
use Rattle.base_codes.specs.Sets.{is_part, rule_of}
use Rattle.base_codes.specs.Items as items

-- ---- what stands behind expressions and references
pub record Behind (x : Item) : Type 0 where
  pub closes : Closes x
  pub mark : is_mark (items.code_of x) ≡ true

pub behind-argument : Behind i_argument
unfolding rule_of is_part
behind-argument = record { closes = plainly refl; mark = refl }

pub behind_equal : Behind i_equal
unfolding rule_of is_part
behind_equal = record { closes = in_parentheses refl; mark = refl }

pub behind_express : Behind i_express
unfolding rule_of is_part
behind_express = record { closes = plainly refl; mark = refl }

pub behind_assign : Behind i_assign
unfolding rule_of is_part
behind_assign = record { closes = plainly refl; mark = refl }

pub behind_assert : Behind i_assert
unfolding rule_of is_part
behind_assert = record { closes = in_parentheses refl; mark = refl }

-- a reference before it is a channel operand, a target or received
pub record Refers (x : Item) : Type 0 where
  pub behind : Behind x
  pub role : role_of (items.code_of x) ≡ 0 → ⊥

pub refers_into : Refers i_into
unfolding rule_of is_part role_of
refers_into = record { behind = record { closes = plainly refl; mark = refl }; role = λ e. omega arith }

pub refers-target : Refers i_target
unfolding rule_of is_part role_of
refers-target = record { behind = record { closes = plainly refl; mark = refl }; role = λ e. omega arith }

pub refers_increment : Refers i_increment
unfolding rule_of is_part role_of
refers_increment = record { behind = record { closes = plainly refl; mark = refl }; role = λ e. omega arith }

pub refers_decrement : Refers i_decrement
unfolding rule_of is_part role_of
refers_decrement = record { behind = record { closes = plainly refl; mark = refl }; role = λ e. omega arith }

pub refers_send : {mk : ℕ} → Refers (i_send mk)
unfolding rule_of is_part role_of
refers_send = record { behind = record { closes = plainly refl; mark = refl }; role = λ e. omega arith }

pub refers_receive : {mk : ℕ} → Refers (i_receive mk)
unfolding rule_of is_part role_of
refers_receive = record { behind = record { closes = plainly refl; mark = refl }; role = λ e. omega arith }

-- ---- the rule of a plain name that is no operand: it is declared
plain_rule : (cs vs hs ss ts : List ℕ) (j : ℕ) → get_or cs j 0 ≡ c_plain → bad cs vs hs ss ts j ≡ bad_use cs vs hs (get_or ss j 0) (get_or hs j 0) (role_of (get_or cs (j + 1) 0)) false
unfolding rule_of bad_by bad_ref
plain_rule cs vs hs ss ts j e = rw e

role_declared : (cs vs hs : List ℕ) (m h role : ℕ) → (role ≡ 0 → ⊥) → bad_use cs vs hs m h role false ≡ 0 → get_or cs (lookup cs vs hs (get_or vs m 0) h m) 0 ≡ c_name → ⊥
unfolding bad_use among
role_declared cs vs hs m h role n e c =
    go (eqb (get_or vs m 0) 0)
    (sym (ap (λ y. pick (eqb (get_or vs m 0) 0) (bad_plain (eqb role 0) false)
    (pick (eqb y c_message) (bad_plain (either (eqb role 0) (eqb role 3)) false) (pick (among 14 y) (bad_variable cs d role false) 4))) c) ∙ e)
  where
    d : ℕ
    d = lookup cs vs hs (get_or vs m 0) h m

    z : eqb role 0 ≡ false
    z = ne_eqb role 0 n

    go : (x : Bool) → pick x (bad_plain (eqb role 0) false) 4 ≡ 0 → ⊥
    go true q = let w : ◌≡◌ {A = ℕ} 4 0 = sym (ap (λ b. bad_plain b false) z) ∙ q in omega arith
    go false q = omega arith

module _ (t : List ℕ) (a : Accepts t) where
  abbrev xs : List Item
  xs = code a.tree

  abbrev C : List ℕ
  C = codes_at t a

  abbrev T : List ℕ
  T = tables_text t

  module _ (w : Name) (x : Item) (z : List Item) (i : ℕ) (p : Here t a (code_exp (plain w) ++ x ∷ z) i) where
    low : (y : ℕ) → i ≤ y → y < i + 2 → get_or C y 0 < c_argument
    low y u v = low_at C (code_exp (plain w)) i y (phrase_inside (plain w) tt) (at_front C i (code_exp (plain w)) (x ∷ z) (at_there t a (code_exp (plain w) ++ x ∷ z) i p)) u v

    stood : At C i (code_exp (plain w))
    stood = at_front C i (code_exp (plain w)) (x ∷ z) (at_there t a (code_exp (plain w) ++ x ∷ z) i p)

    long : i + 3 ≤ length C
    long = omega (arith, ends_there t a (code_exp (plain w) ++ x ∷ z) i p)

    name_is : get_or xs i i_plain ≡ i_name w
    name_is = (here_lies t a (code_exp (plain w) ++ x ∷ z) i p).0

    plain_code : get_or C (i + 1) 0 ≡ c_plain
    plain_code = let y : i + 1 ≡ suc i = omega arith in ap (λ n. get_or C n 0) y ∙ stood.1.0

    abbrev S : List ℕ
    S = starts_of C blank

    rule_says : bad_use C (said_at t a) (homes_at t a) i (inside_of C i) (role_of (items.code_of x)) false ≡ 0
    rule_says =
        let v = said_at t a in
        let o = homes_at t a in
        let st : get_or S (i + 1) 0 ≡ i =
        phrase_starts C blank (plain w) tt i (i + 1) stood (codes_few t a) (omega (arith, codes_few t a, length-replicate items_most zero)) (omega (arith, long)) (omega arith) in
        let ho : get_or o (i + 1) 0 ≡ inside_of C i = home_same t a i (i + 1) (omega arith) (omega (arith, long, items_long t a)) (λ y u b. low y u (omega arith)) in
        let y : i + 1 + 1 ≡ suc (suc i) = omega arith in
        let ro : get_or C (i + 1 + 1) 0 ≡ items.code_of x = ap (λ n. get_or C n 0) y ∙ (at_there t a (code_exp (plain w) ++ x ∷ z) i p).1.1.0 in
        sym (λ k. bad_use C v o (st k) (ho k) (role_of (ro k)) false) ∙ sym (plain_rule C v o S (heights_of C S blank) (i + 1) plain_code) ∙ no_fault t a (i + 1) (omega (arith, long))

    plain_declared : (role_of (items.code_of x) ≡ 0 → ⊥) → meant_at t a i w < i
    plain_declared n = go (ltb (meant_at t a i w) i) refl
      where
        go : (b : Bool) → ltb (meant_at t a i w) i ≡ b → meant_at t a i w < i
        go true e = ltb-true (meant_at t a i w) i e
        go false e =
            let l : meant_at t a i w < i → ⊥ = λ u. (let y = ltb-false (meant_at t a i w) i e in omega arith) in
            let v = said_at t a in
            let o = homes_at t a in
            absurd
            (role_declared C v o i (inside_of C i) (role_of (items.code_of x)) n rule_says
            (ap (λ y. get_or C (lookup C v o y (inside_of C i) i) 0) (sym (first_said t a w i (omega (arith, long, items_long t a)) name_is))
            ∙ ap (λ y. get_or C y 0) (means-none t a i 2 (omega (arith, long)) low w i (omega arith) (omega arith) l) ∙ stood.0))

    plain_linked : (role_of (items.code_of x) ≡ 0 → ⊥) → link_of T (i + 1) ≡ decl_at t a i w
    plain_linked n =
        ap (λ (l : List ℕ). link_of l (i + 1)) (text-tables t a)
        ∙ link_means t a i 2 (omega (arith, long)) low w (plain w) i (i + 1) c_plain tt stood (omega arith) (omega arith) (omega arith) name_is plain_code reference_class.0
        ∙ means_found t a i 2 (omega (arith, long)) low w i (omega arith) (omega arith) (plain_declared n)

  -- ---- where it begins
  module _ {k : Shape} (e : Exp k) (x : Item) (z : List Item) (i : ℕ) (p : Here t a (code_exp e ++ x ∷ z) i) where
    begins : i ≡ length p.front
    begins = let e = p.place in omega arith

    split : xs ≡ p.front ++ (code_exp e ++ x ∷ (z ++ p.rest))
    split = p.split ∙ ap (p.front ++◌) (append_assoc (code_exp e) (x ∷ z) p.rest)

    pub proper : Proper e
    proper = text_proper t a e p.front (x ∷ (z ++ p.rest)) split

    stood_there : At C i (code_exp e)
    stood_there = at_front C i (code_exp e) (x ∷ z) (at_there t a (code_exp e ++ x ∷ z) i p)

    -- none of its items declares
    pub quiet_there : Quiet t a i (i + size_in e)
    quiet_there y u v = let l = low_at C (code_exp e) i y (phrase_inside e proper) stood_there u v in omega arith

    evaluates_there : Closes x → (s : List ℤ) (q : ℕ) → eval_of T s q i (i + size_in e) ≡ eval (scene_of T s q (decl_at t a i)) e
    evaluates_there c s q =
        subst (λ n. eval_of T s q n (n + size_in e) ≡ eval (scene_of T s q (decl_at t a n)) e) (sym begins) (text_evaluates t a e p.front x (z ++ p.rest) split c s q)

    -- its first item links to the mark behind it
    pub linked_there : is_mark (items.code_of x) ≡ true → link_of T i ≡ i + size_in e
    linked_there m =
        let s = some-items e in
        let q : length (code_exp e ++ x ∷ z) ≡ size_in e + suc (length z) = length-append (code_exp e) (x ∷ z) in
        link_mark t a i (i + size_in e) (omega arith) (omega (arith, ends_there t a (code_exp e ++ x ∷ z) i p)) (leaf-class (begins-leaf C i e stood_there))
        (λ y u v. all_parts C (code_exp e) i y (phrase_inside e proper) stood_there (omega arith) v)
        (ap is_mark (at_there t a (x ∷ z) (i + size_in e) (lying_back xs (code_exp e) (x ∷ z) 0 i (i + size_in e) refl p)).0 ∙ m)

  reference_linked : (r : Ref) (x : Item) (z : List Item) (i : ℕ) (p : Here t a (code_exp r ++ x ∷ z) i) → (role_of (items.code_of x) ≡ 0 → ⊥) → Linked T (decl_at t a i) r i
  unfolding Linked Named
  reference_linked (plain w) x z i p n = plain_linked w x z i p n
  reference_linked (indexed w e) x z i p n =
      let r = indexed w e in
      let h = split r x z i p in
      subst (λ k. link_of T (k + 1 + size_in e) ≡ decl_at t a k w) (sym (begins r x z i p))
      (text-named t a r p.front (x ∷ (z ++ p.rest)) h (text_proper t a r p.front (x ∷ (z ++ p.rest)) h) (text_arrays t a r p.front (x ∷ (z ++ p.rest)) h)).1

  -- its last item links to the declaration of its name
  last-linked : (r : Ref) (i : ℕ) → Linked T (decl_at t a i) r i → link_of T (i + size_in r - 1) ≡ decl_at t a i (name_of r)
  unfolding Linked
  last-linked (plain w) i l = let z : i + 2 - 1 ≡ i + 1 = omega arith in ap (link_of T) z ∙ l
  last-linked (indexed w e) i l =
      let q : length (code_exp e ++ i_index ∷ []) ≡ size_in e + 1 = length-append (code_exp e) (i_index ∷ []) in
      let z : i + size_in (indexed w e) - 1 ≡ i + 1 + size_in e = omega arith in
      ap (link_of T) z ∙ l

  -- ---- in a statement that begins at item j
  module _ (j i : ℕ) (from : j ≤ i) (quiet : Quiet t a j i) where
    pub works : {k : Shape} (e : Exp k) (x : Item) (z : List Item) → Here t a (code_exp e ++ x ∷ z) i → Behind x → (s : List ℤ) (q : ℕ)
        → eval_of (tables_text t) s q i (i + size_in e) ≡ eval (scene_of (tables_text t) s q (decl_at t a j)) e
    works e x z p b s q = evaluates_there e x z i p b.closes s q ∙ ap (λ (d : Name → ℕ). eval (scene_of T s q d) e) (decl-same t a j i from quiet)

    -- a constant of a receive has no rule on its height
    constant_works : (e : Expr) (x : Item) (z : List Item) → Here t a (code_exp e ++ x ∷ z) i → Arrays t a i e → height e ≤ height_most → (s : List ℤ) (q : ℕ)
        → eval_of (tables_text t) s q i (i + size_in e) ≡ eval (scene_of (tables_text t) s q (decl_at t a j)) e
    constant_works e x z p r h s q =
        let f = p.front in
        subst (λ n. Arrays t a n e → eval_of T s q n (n + size_in e) ≡ eval (scene_of T s q (decl_at t a n)) e) (sym (begins e x z i p))
        (λ r. text-means t a e f (x ∷ (z ++ p.rest)) (split e x z i p) (proper e x z i p) s q r h) r
        ∙ ap (λ (d : Name → ℕ). eval (scene_of T s q d) e) (decl-same t a j i from quiet)

    pub number_works : (n : ℕ) (x : Item) (z : List Item) → Here t a (code_exp (num n) ++ x ∷ z) i → (s : List ℤ) (q : ℕ)
        → eval_of (tables_text t) s q i (i + 1) ≡ eval (scene_of (tables_text t) s q (decl_at t a j)) (num n)
    number_works n x z p = constant_works (num n) x z p tt (omega arith)

    pub true_works : (x : Item) (z : List Item) → Here t a (code_exp tru ++ x ∷ z) i → (s : List ℤ) (q : ℕ)
        → eval_of (tables_text t) s q i (i + 1) ≡ eval (scene_of (tables_text t) s q (decl_at t a j)) tru
    true_works x z p = constant_works tru x z p tt (omega arith)

    pub false_works : (x : Item) (z : List Item) → Here t a (code_exp fls ++ x ∷ z) i → (s : List ℤ) (q : ℕ)
        → eval_of (tables_text t) s q i (i + 1) ≡ eval (scene_of (tables_text t) s q (decl_at t a j)) fls
    false_works x z p = constant_works fls x z p tt (omega arith)

    module _ (r : Ref) (x : Item) (z : List Item) (p : Here t a (code_exp r ++ x ∷ z) i) (b : Refers x) where
      pub refers-linked : link_of (tables_text t) (i + size_in r - 1) ≡ decl_at t a j (name_of r)
      refers-linked = last-linked r i (reference_linked r x z i p b.role) ∙ ap (λ (d : Name → ℕ). d (name_of r)) (decl-same t a j i from quiet)

      pub refers_located : (s : List ℤ) (q : ℕ) → locate_of (tables_text t) s q i (i + size_in r) ≡ locate (tables_text t) s q (decl_at t a j) r
      refers_located s q =
          let f = p.front in
          let g = z ++ p.rest in
          let h = split r x z i p in
          let o = proper r x z i p in
          locate_is T s q (decl_at t a i) r i (i + size_in r) o
          (subst (λ n. Stands T r n) (sym (begins r x z i p)) (text-stands t a r f (x ∷ g) h o))
          (subst (λ n. Named T (decl_at t a n) r n) (sym (begins r x z i p)) (text-named t a r f (x ∷ g) h o (text_arrays t a r f (x ∷ g) h)))
          (reference_linked r x z i p b.role) (text-height t a r f x g h b.behind.closes) refl
          ∙ ap (λ (d : Name → ℕ). locate T s q d r) (decl-same t a j i from quiet)

-- BODIES, PARAMETERS, UNITS AND MODELS.
use Prim.Native.Nat.{ℕ, zero, suc, ◌+◌, ◌-◌, ◌≤◌, ◌<◌}
use native.Mathlib.Omega.{arith}
use mathlib.Core.Path.{◌≡◌, refl, sym as inv, ◌∙◌, ap}
use mathlib.Core.Bool.{Bool, true, false}
use mathlib.Core.List.{List, [], ◌∷◌, ◌++◌, append_assoc}
use lib.ListN.{length, get_or, length-append}
use Rattle.base_codes.specs.Codes.{c_active, c_active_many, c_body, c_end_body, c_global, c_group, c_init, c_local, c_message, c_mtypes, c_parameter, c_proctype}
use Rattle.base_bytes.specs.Choice.{pick}
use Rattle.base_kinds.specs.Kinds.{Token, sym, name, number}
use Rattle.spec_grammar.specs.Marks.{'rpar, 'rbrace, 'comma, 'semi}
use Rattle.spec_grammar.specs.Tree.{Name, Tree, sequence, Declaration, Group, group, Body, body, Activity, idle, once, times, Part, mtypes, global, process, init, Model}
use Rattle.base_codes.specs.Items.{i_end_body, i_global, i_local}
use Rattle.parse_code.specs.Code.{each, code_tree, code_declaration, code_parameter, code_group, code_body, code_activity, code_message, code_part, code}
use Rattle.spec_grammar.specs.Print.{join, further, print_tree, print_declaration, print_name, print_group, print_items, print_body, print_activity, print_part, print_model}
use Rattle.write_rows.specs.Rules.{rows}
use Rattle.write_texts.specs.Turning.{cell, row_from, row_of, laid, turned, is_token, after, marked}
use Rattle.write_reprint_proof.specs.Here.{tok, flagged, Here}
use Rattle.write_reprint_proof.proofs.Walk.{W, emit, go, here-front, here_back, name-here, number-here}
use Rattle.write_reprint_proof.proofs.Lists.{sep, some}
use Rattle.write_reprint_proof.proofs.Statements.{body_of_lem, any, symbol_of_body, walk_tree}
use Rattle.write_reprint_proof.proofs.Declarations.{listed, walk-listed, type_here, in_body, in_units, walk_declaration}

-- ---- rows
module _ (i : ℕ) (st : List ℕ) where
  local_row : (g : Bool) → turned (body_of_lem g) c_local i st ≡ 28 ∷ 122 ∷ 131 ∷ st
  unfolding turned row_of row_from cell rows laid
  local_row false = refl
  local_row true = refl

  body_row : (g : Bool) → turned (body_of_lem g) c_body i st ≡ 25 ∷ st
  unfolding turned row_of row_from cell rows laid
  body_row false = refl
  body_row true = refl

  locals_row : turned 137 c_local i st ≡ 122 ∷ st
  unfolding turned row_of row_from cell rows laid
  locals_row = refl

  globals_row : turned 137 c_global i st ≡ 122 ∷ st
  unfolding turned row_of row_from cell rows laid
  globals_row = refl

  global-row : turned 143 c_global i st ≡ 122 ∷ 143 ∷ st
  unfolding turned row_of row_from cell rows laid
  global-row = refl

  pub end_body_row : turned 143 c_end_body i st ≡ 26 ∷ 130 ∷ 139 ∷ 143 ∷ st
  unfolding turned row_of row_from cell rows laid
  end_body_row = refl

  init_row : turned 139 c_init i st ≡ 56 ∷ st
  unfolding turned row_of row_from cell rows laid
  init_row = refl

  parameter_rows : (turned 139 c_parameter i st ≡ 22 ∷ 120 ∷ 140 ∷ st) × (turned 140 c_parameter i st ≡ 27 ∷ 120 ∷ 140 ∷ st) × (turned 141 c_parameter i st ≡ 28 ∷ 120 ∷ 140 ∷ st)
  unfolding turned row_of row_from cell rows laid
  parameter_rows = (refl, refl, refl)

  group-rows : (turned 139 c_group i st ≡ 22 ∷ 122 ∷ 141 ∷ st) × (turned 140 c_group i st ≡ 122 ∷ 141 ∷ st) × (turned 141 c_group i st ≡ 28 ∷ 122 ∷ 141 ∷ st)
  unfolding turned row_of row_from cell rows laid
  group-rows = (refl, refl, refl)

  proctype-rows : (turned 139 c_proctype i st ≡ 22 ∷ 21 ∷ 120 ∷ 61 ∷ st) × (turned 141 c_proctype i st ≡ 21 ∷ 120 ∷ 61 ∷ st)
  unfolding turned row_of row_from cell rows laid
  proctype-rows = (refl, refl)

  active-rows : (turned 139 c_active i st ≡ 22 ∷ 21 ∷ 120 ∷ 61 ∷ 46 ∷ st) × (turned 141 c_active i st ≡ 21 ∷ 120 ∷ 61 ∷ 46 ∷ st)
  unfolding turned row_of row_from cell rows laid
  active-rows = (refl, refl)

  active_many_rows : (turned 139 c_active_many i st ≡ 22 ∷ 21 ∷ 120 ∷ 61 ∷ 24 ∷ 120 ∷ 23 ∷ 46 ∷ st) × (turned 141 c_active_many i st ≡ 21 ∷ 120 ∷ 61 ∷ 24 ∷ 120 ∷ 23 ∷ 46 ∷ st)
  unfolding turned row_of row_from cell rows laid
  active_many_rows = (refl, refl)

  message-rows : (turned 143 c_message i st ≡ 26 ∷ 120 ∷ 142 ∷ 143 ∷ st) × (turned 142 c_message i st ≡ 27 ∷ 120 ∷ 142 ∷ st)
  unfolding turned row_of row_from cell rows laid
  message-rows = (refl, refl)

  mtypes_rows : (turned 143 c_mtypes i st ≡ 26 ∷ 25 ∷ 32 ∷ 41 ∷ 143 ∷ st) × (turned 142 c_mtypes i st ≡ 25 ∷ 32 ∷ 41 ∷ st)
  unfolding turned row_of row_from cell rows laid
  mtypes_rows = (refl, refl)

module _ (h : ℕ → Token) (ms : List ℕ) where
  -- ---- a body
  walk_locals : (ds : List Declaration) (g : Bool) (b : Bool) (i j : ℕ) → j ≡ i + length (each (code_declaration i_local) ds) → Here h ms b i (each (code_declaration i_local) ds) → (q : Tree sequence) (st : List ℕ) (out : List Token)
      → W h ms j (body_of_lem g ∷ st) (print_tree q ++ out) ≡ W h ms i (body_of_lem (pick (some ds) true g) ∷ st) (print_items ds q ++ out)
  walk_locals [] g b i j n p q st out = let e : j ≡ i = omega arith in rw e refl
  walk_locals (d ∷ ds) g b i j n p q st out =
      let D = code_declaration i_local d in
      let E = each (code_declaration i_local) ds in
      let m = i + length D in
      let g' = pick (some ds) true g in
      let t : length (D ++ E) ≡ length D + length E = length-append D E in
      walk_locals ds g (flagged b D) m j (omega arith) (here_back h ms D E b i m refl p) q st out
      ∙ walk_declaration h ms c_local (body_of_lem g') i_local true 28 (131 ∷ []) (in_body g') refl (λ c. refl) (λ k l. local_row k l g') (λ k l. locals_row k l) d b i m refl (here-front h ms D E b i p) st (print_items ds q ++ out)
      ∙ simp append_assoc

  walk_body : (y : Body) (b : Bool) (i j : ℕ) → j ≡ i + length (code_body y) → Here h ms b i (code_body y) → (st : List ℕ) (out : List Token) → W h ms j (143 ∷ st) out ≡ W h ms i (139 ∷ 143 ∷ st) (print_body y ++ out)
  walk_body (body ds q) b i j n p st out =
      let E = each (code_declaration i_local) ds in
      let Q = code_tree q in
      let m = suc i + length E in
      let k = m + length Q in
      let t : length (E ++ Q ++ i_end_body ∷ []) ≡ length (E ++ Q) + 1 = length-append (E ++ Q) (i_end_body ∷ []) in
      let t2 : length (E ++ Q) ≡ length E + length Q = length-append E Q in
      let eq = here-front h ms (E ++ Q) (i_end_body ∷ []) b (suc i) p.3 in
      let x = here_back h ms (E ++ Q) (i_end_body ∷ []) b (suc i) k (omega arith) p.3 in
      go h ms j k 143 c_end_body st (26 ∷ 130 ∷ 139 ∷ 143 ∷ st) out (omega arith) refl x.0 (end_body_row k st) ∙ emit h ms 26 refl _ _ _
      ∙ walk_tree h ms q (flagged b E) m k refl (here_back h ms E Q b (suc i) m refl eq) _ _
      ∙ walk_locals ds (any q) b (suc i) m refl (here-front h ms E Q b (suc i) eq) q _ _
      ∙ go h ms (suc i) i (body_of_lem (pick (some ds) true (any q))) c_body _ _ _ refl (symbol_of_body (pick (some ds) true (any q))) p.0 (body_row i _ (pick (some ds) true (any q))) ∙ emit h ms 25 refl _ _ _
      ∙ simp append_assoc

  -- ---- parameters: a group of them, with v behind it
  module _ (s v : ℕ) (st : List ℕ) (e : is_token s ≡ false) (mark : is_token v ≡ true) (fixed : tok h v ≡ sym v) (parameter : (i : ℕ) → turned s c_parameter i st ≡ v ∷ 120 ∷ 140 ∷ st) (empty : (i : ℕ) → turned s c_group i st ≡ v ∷ 122 ∷ 141 ∷ st) where
    first_parameter : (w : Name) (b : Bool) (i j : ℕ) → j ≡ i + length (code_parameter w) → Here h ms b i (code_parameter w) → (out : List Token) → W h ms j (s ∷ st) out ≡ W h ms i (140 ∷ st) (print_name w ++ ((sym v ∷ []) ++ out))
    first_parameter w b i j n p out =
        go h ms j (suc i) s c_parameter st (v ∷ 120 ∷ 140 ∷ st) out (omega arith) e p.3.0 (parameter (suc i)) ∙ emit h ms v mark _ _ _ ∙ name-here h ms (suc i) i w refl p.0 (p.1 (omega arith)) _ _
        ∙ ap (λ (z : Token). W h ms i (140 ∷ st) (name w ∷ z ∷ out)) fixed

    next_parameter : (w : Name) (b : Bool) (i j : ℕ) → j ≡ i + length (code_parameter w) → Here h ms b i (code_parameter w) → (out : List Token) → W h ms j (140 ∷ st) out ≡ W h ms i (140 ∷ st) (print_name w ++ ('comma ∷ out))
    next_parameter w b i j n p out =
        go h ms j (suc i) 140 c_parameter st (27 ∷ 120 ∷ 140 ∷ st) out (omega arith) refl p.3.0 (parameter_rows (suc i) st).1 ∙ emit h ms 27 refl _ _ _ ∙ name-here h ms (suc i) i w refl p.0 (p.1 (omega arith)) _ _

    walk-group : (y : Group) (b : Bool) (i j : ℕ) → j ≡ i + length (code_group y) → Here h ms b i (code_group y) → (out : List Token) → W h ms j (s ∷ st) out ≡ W h ms i (141 ∷ st) (print_group y ++ (sym v ∷ out))
    walk-group (group k ws) b i j n p out =
        walk-listed h ms Name code_parameter print_name 'comma (s ∷ st) (140 ∷ st) (sym v ∷ []) first_parameter next_parameter ws _ (suc (suc i)) j (omega arith) p.3.3 out ∙ by ws
      where
        by : (ws : List Name) → W h ms (suc (suc i)) (pick (some ws) (140 ∷ st) (s ∷ st)) (listed 'comma print_name (sym v ∷ []) ws out) ≡ W h ms i (141 ∷ st) (sym k ∷ (join 'comma print_name ws ++ (sym v ∷ out)))
        by [] =
            go h ms (suc (suc i)) (suc i) s c_group st (v ∷ 122 ∷ 141 ∷ st) out refl e p.3.0 (empty (suc i)) ∙ emit h ms v mark _ _ _ ∙ type_here h ms k i b p.2 p.0 _ _
            ∙ ap (λ (z : Token). W h ms i (141 ∷ st) (sym k ∷ z ∷ out)) fixed
        by (w ∷ ws) = go h ms (suc (suc i)) (suc i) 140 c_group st (122 ∷ 141 ∷ st) _ refl refl p.3.0 (group-rows (suc i) st).1 ∙ type_here h ms k i b p.2 p.0 _ _

  walk_groups : (gs : List Group) (b : Bool) (i j : ℕ) → j ≡ i + length (each code_group gs) → Here h ms b i (each code_group gs) → (st : List ℕ) (out : List Token)
      → W h ms j (139 ∷ st) out ≡ W h ms i (pick (some gs) (141 ∷ st) (139 ∷ st)) (listed 'semi print_group ('rpar ∷ []) gs out)
  walk_groups gs b i j n p st out =
      walk-listed h ms Group code_group print_group 'semi (139 ∷ st) (141 ∷ st) ('rpar ∷ [])
      (walk-group 139 22 st refl refl refl (λ k. (parameter_rows k st).0) (λ k. (group-rows k st).0))
      (walk-group 141 28 st refl refl refl (λ k. (parameter_rows k st).2) (λ k. (group-rows k st).2))
      gs b i j n p out

  -- what a process is called, before its parameters
  closing : (gs : List Group) (j i c : ℕ) (st xs : List ℕ) (out : List Token) → j ≡ suc i → get_or ms i 0 ≡ c → (turned 139 c i st ≡ 22 ∷ xs) × (turned 141 c i st ≡ xs)
      → W h ms j (pick (some gs) (141 ∷ st) (139 ∷ st)) (listed 'semi print_group ('rpar ∷ []) gs out) ≡ W h ms i xs (join 'semi print_group gs ++ ('rpar ∷ out))
  closing [] j i c st xs out n g r = go h ms j i 139 c st (22 ∷ xs) out n refl g r.0 ∙ emit h ms 22 refl i xs out
  closing (y ∷ gs) j i c st xs out n g r = go h ms j i 141 c st xs _ n refl g r.1

  walk_activity : (a : Activity) (w : Name) (gs : List Group) (b : Bool) (i j : ℕ) → j ≡ i + length (code_activity a w) → Here h ms b i (code_activity a w) → (st : List ℕ) (out : List Token)
      → W h ms j (pick (some gs) (141 ∷ st) (139 ∷ st)) (listed 'semi print_group ('rpar ∷ []) gs out) ≡ W h ms i st (print_activity a ++ sym 61 ∷ name w ∷ sym 21 ∷ (join 'semi print_group gs ++ ('rpar ∷ out)))
  walk_activity idle w gs b i j n p st out =
      closing gs j (suc i) c_proctype st (21 ∷ 120 ∷ 61 ∷ st) out (omega arith) p.3.0 (proctype-rows (suc i) st) ∙ emit h ms 21 refl _ _ _ ∙ name-here h ms (suc i) i w refl p.0 (p.1 (omega arith)) _ _ ∙ emit h ms 61 refl _ _ _
  walk_activity once w gs b i j n p st out =
      closing gs j (suc i) c_active st (21 ∷ 120 ∷ 61 ∷ 46 ∷ st) out (omega arith) p.3.0 (active-rows (suc i) st) ∙ emit h ms 21 refl _ _ _ ∙ name-here h ms (suc i) i w refl p.0 (p.1 (omega arith)) _ _ ∙ emit h ms 61 refl _ _ _ ∙ emit h ms 46 refl _ _ _
  walk_activity (times k) w gs b i j n p st out =
      closing gs j (suc (suc i)) c_active_many st (21 ∷ 120 ∷ 61 ∷ 24 ∷ 120 ∷ 23 ∷ 46 ∷ st) out (omega arith) p.3.3.0 (active_many_rows (suc (suc i)) st) ∙ emit h ms 21 refl _ _ _
      ∙ name-here h ms (suc (suc i)) (suc i) w refl p.3.0 (p.3.1 (omega arith)) _ _ ∙ emit h ms 61 refl _ _ _ ∙ emit h ms 24 refl _ _ _ ∙ number-here h ms (suc i) i k refl p.0 (p.1 (omega arith)) _ _ ∙ emit h ms 23 refl _ _ _ ∙ emit h ms 46 refl _ _ _

  -- ---- an mtype list
  first-message : (st : List ℕ) (w : Name) (b : Bool) (i j : ℕ) → j ≡ i + length (code_message w) → Here h ms b i (code_message w) → (out : List Token) → W h ms j (143 ∷ st) out ≡ W h ms i (142 ∷ 143 ∷ st) (print_name w ++ (('rbrace ∷ []) ++ out))
  first-message st w b i j n p out =
      go h ms j (suc i) 143 c_message st (26 ∷ 120 ∷ 142 ∷ 143 ∷ st) out (omega arith) refl p.3.0 (message-rows (suc i) st).0 ∙ emit h ms 26 refl _ _ _ ∙ name-here h ms (suc i) i w refl p.0 (p.1 (omega arith)) _ _

  next-message : (st : List ℕ) (w : Name) (b : Bool) (i j : ℕ) → j ≡ i + length (code_message w) → Here h ms b i (code_message w) → (out : List Token) → W h ms j (142 ∷ 143 ∷ st) out ≡ W h ms i (142 ∷ 143 ∷ st) (print_name w ++ ('comma ∷ out))
  next-message st w b i j n p out =
      go h ms j (suc i) 142 c_message (143 ∷ st) (27 ∷ 120 ∷ 142 ∷ 143 ∷ st) out (omega arith) refl p.3.0 (message-rows (suc i) (143 ∷ st)).1 ∙ emit h ms 27 refl _ _ _ ∙ name-here h ms (suc i) i w refl p.0 (p.1 (omega arith)) _ _

  -- ---- units
  walk-part : (u : Part) (b : Bool) (i j : ℕ) → j ≡ i + length (code_part u) → Here h ms b i (code_part u) → (st : List ℕ) (out : List Token) → W h ms j (143 ∷ st) out ≡ W h ms i (143 ∷ st) (print_part u ++ out)
  walk-part (mtypes ws) b i j n p st out =
      walk-listed h ms Name code_message print_name 'comma (143 ∷ st) (142 ∷ 143 ∷ st) ('rbrace ∷ []) (first-message st) (next-message st) ws _ (suc i) j (omega arith) p.3 out ∙ by ws
    where
      by : (ws : List Name) → W h ms (suc i) (pick (some ws) (142 ∷ 143 ∷ st) (143 ∷ st)) (listed 'comma print_name ('rbrace ∷ []) ws out) ≡ W h ms i (143 ∷ st) (print_part (mtypes ws) ++ out)
      by [] =
          go h ms (suc i) i 143 c_mtypes st (26 ∷ 25 ∷ 32 ∷ 41 ∷ 143 ∷ st) out refl refl p.0 (mtypes_rows i st).0 ∙ emit h ms 26 refl _ _ _ ∙ emit h ms 25 refl _ _ _ ∙ emit h ms 32 refl _ _ _ ∙ emit h ms 41 refl _ _ _
      by (w ∷ ws) =
          go h ms (suc i) i 142 c_mtypes (143 ∷ st) (25 ∷ 32 ∷ 41 ∷ 143 ∷ st) _ refl refl p.0 (mtypes_rows i (143 ∷ st)).1 ∙ emit h ms 25 refl _ _ _ ∙ emit h ms 32 refl _ _ _ ∙ emit h ms 41 refl _ _ _ ∙ simp append_assoc
  walk-part (global d) b i j n p st out =
      walk_declaration h ms c_global 143 i_global false 28 (143 ∷ []) in_units refl (λ c. refl) (λ k l. global-row k l) (λ k l. globals_row k l) d b i j n p st out
  walk-part (process a w gs y) b i j n p st out =
      let C = code_activity a w in
      let G = each code_group gs in
      let Y = code_body y in
      let m = i + length C in
      let k = m + length G in
      let t : length (C ++ G ++ Y) ≡ length (C ++ G) + length Y = length-append (C ++ G) Y in
      let t2 : length (C ++ G) ≡ length C + length G = length-append C G in
      let cg = here-front h ms (C ++ G) Y b i p in
      walk_body y (flagged b (C ++ G)) k j (omega arith) (here_back h ms (C ++ G) Y b i k (omega arith) p) st out
      ∙ walk_groups gs (flagged b C) m k refl (here_back h ms C G b i m refl cg) (143 ∷ st) _
      ∙ walk_activity a w gs b i m refl (here-front h ms C G b i cg) (143 ∷ st) _ ∙ simp append_assoc
  walk-part (init y) b i j n p st out =
      walk_body y b (suc i) j (omega arith) p.3 st out ∙ go h ms (suc i) i 139 c_init (143 ∷ st) (56 ∷ 143 ∷ st) _ refl refl p.0 (init_row i (143 ∷ st)) ∙ emit h ms 56 refl _ _ _

  pub walk-model : (m : Model) (b : Bool) (i j : ℕ) → j ≡ i + length (code m) → Here h ms b i (code m) → (st : List ℕ) (out : List Token) → W h ms j (143 ∷ st) out ≡ W h ms i (143 ∷ st) (print_model m ++ out)
  walk-model [] b i j n p st out = let q : j ≡ i = omega arith in rw q refl
  walk-model (u ∷ m) b i j n p st out =
      let k = i + length (code_part u) in
      let t : length (code_part u ++ code m) ≡ length (code_part u) + length (code m) = length-append (code_part u) (code m) in
      walk-model m (flagged b (code_part u)) k j (omega arith) (here_back h ms (code_part u) (code m) b i k refl p) st out
      ∙ walk-part u b i k refl (here-front h ms (code_part u) (code m) b i p) st (print_model m ++ out) ∙ simp append_assoc

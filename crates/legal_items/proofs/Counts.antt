-- How many statements, mtype names and proctypes there are: by the codes of the items, and in the tree.
use Prim.Native.Nat.{ℕ, suc, ◌+◌, ◌≤◌, ◌<◌}
use native.Mathlib.Omega.{arith}
use mathlib.Core.Path.{◌≡◌, refl, ap, ap₂, ◌∙◌}
use mathlib.Core.Logic.{◌⊎◌, inl, inr}
use mathlib.Core.List.{List, [], ◌∷◌, ◌++◌}
use lib.ListN.{length, get_or}
use lib.Dec.{leb}
use borrow.Author.Tests.{ne_eqb, lt-leb}
use Rattle.base_codes.specs.Codes.{c_argument, c_assign, c_body, c_constant, c_do, c_end_body, c_express, c_if, c_local, c_message, c_od, c_parameter, c_proctype, c_text}
use Rattle.base_bytes.proofs.Tests.{both_no}
use Rattle.parse_machine.proofs.Never.{lt_or_ge}
use Rattle.spec_grammar.specs.Tree.{Name, Shape, Exp, Expr, Received, Sort, sequence, Tree, leaf, express, assign, increment, decrement, send, receive, assert, print, skip, goto, break, timeout, else, run, set_run, select, loop, bare, labelled, end, then, over, option, Declaration, Group, Body, body, Activity, idle, once, times, Part, mtypes, global, process, init, Model}
use Rattle.base_codes.specs.Items.{Item, code_of, i_assert, i_assign, i_body, i_decrement, i_end, i_end_body, i_end_option, i_express, i_fi, i_global, i_increment, i_local, i_name, i_od, i_receive, i_send, i_set_run, i_target}
use Rattle.parse_code.specs.Code.{each, code_exp, code_argument, code_received, code_tree, code_declaration, code_group, code_body, code_activity, code_message, code_part, code}
use Rattle.table_entries.specs.Items.{AllKnown}
use Rattle.rule_search.specs.Sets.{among}
use Rattle.rule_ceilings.specs.Ceilings.{one}
use Rattle.agree_eval.proofs.Operators.{known-front, known-back}
use Rattle.spec_rules.specs.Units.{tally}
use Rattle.spec_rules.specs.Ceilings.{statements_in, statement_count, message_count, proctype_count}
use Rattle.agree_eval.proofs.Ranges.{Every, InExp, exp_codes, InArgs, args_codes, all_received_codes, InTree, tree_codes, InDeclaration, local_codes, global_codes, InGroup, groups_codes, InMessages, messages_codes}
use Rattle.legal_items.proofs.Standing.{weigh, Lain}

-- ---- sums of what depends on the code alone
module _ (g : ℕ → ℕ) where
  abbrev pub mass : List Item → ℕ
  mass [] = 0
  mass (x ∷ l) = g (code_of x) + mass l

  mass-append : (x y : List Item) → mass (x ++ y) ≡ mass x + mass y
  mass-append [] y = let z : mass y ≡ 0 + mass y = omega arith in z
  mass-append (a ∷ x) y = let r = mass-append x y in omega arith

  mass-none : (P : ℕ → Type 0) (l : List Item) → Every P l → AllKnown l → ((c : ℕ) → P c → g c ≡ 0) → mass l ≡ 0
  mass-none P [] e k z = refl
  mass-none P (x ∷ l) e k z = let a = z (code_of x) (e.0 k.0) in let b = mass-none P l e.1 k.1 z in omega arith

  pub mass_at : (cs vs : List ℕ) (l : List Item) (i : ℕ) → Lain cs vs i l → weigh (λ j. g (get_or cs j 0)) i l ≡ mass l
  mass_at cs vs [] i h = refl
  mass_at cs vs (x ∷ l) i h = ap₂ ◌+◌ (ap g h.2) (mass_at cs vs l (suc i) h.4)

  mass_body : (ds : List Declaration) (q : Tree sequence) → mass (code_body (body ds q)) ≡ g c_body + mass (each (code_declaration i_local) ds) + mass (code_tree q) + g c_end_body
  mass_body ds q =
      let a = mass-append (i_body ∷ each (code_declaration i_local) ds ++ code_tree q) (i_end_body ∷ []) in
      let b = mass-append (i_body ∷ each (code_declaration i_local) ds) (code_tree q) in
      omega arith

  mass-unit : (A : List Item) (gs : List Group) (b : Body) → mass (A ++ each code_group gs ++ code_body b) ≡ mass A + mass (each code_group gs) + mass (code_body b)
  mass-unit A gs b = let x = mass-append (A ++ each code_group gs) (code_body b) in let y = mass-append A (each code_group gs) in omega arith

-- ---- what is known of a unit's parts
module _ (A : List Item) (gs : List Group) (ds : List Declaration) (q : Tree sequence) where
  known_groups : AllKnown (A ++ each code_group gs ++ code_body (body ds q)) → AllKnown (each code_group gs)
  known_groups k = known-back A (each code_group gs) (known-front (A ++ each code_group gs) (code_body (body ds q)) k)

  known_body : AllKnown (A ++ each code_group gs ++ code_body (body ds q)) → AllKnown (code_body (body ds q))
  known_body k = known-back (A ++ each code_group gs) (code_body (body ds q)) k

module _ (ds : List Declaration) (q : Tree sequence) (k : AllKnown (code_body (body ds q))) where
  known_locals : AllKnown (each (code_declaration i_local) ds)
  known_locals = (known-front (i_body ∷ each (code_declaration i_local) ds) (code_tree q) (known-front (i_body ∷ each (code_declaration i_local) ds ++ code_tree q) (i_end_body ∷ []) k)).1

  known_tree : AllKnown (code_tree q)
  known_tree = known-back (i_body ∷ each (code_declaration i_local) ds) (code_tree q) (known-front (i_body ∷ each (code_declaration i_local) ds ++ code_tree q) (i_end_body ∷ []) k)

-- ---- statements
quiet-low : (c : ℕ) → c ≤ c_constant → (c ≡ c_text → ⊥) → one 11 c ≡ 0
unfolding one among
quiet-low c h n = rw (ne_eqb c c_text n, ne_eqb c c_express (λ z. omega arith), lt-leb c_assign c (omega arith), ne_eqb c c_do (λ z. omega arith))

quiet-high : (c : ℕ) → c_od ≤ c → one 11 c ≡ 0
unfolding one among
quiet-high c h = rw (ne_eqb c c_text (λ z. omega arith), ne_eqb c c_express (λ z. omega arith), both_no (leb c_assign c) (lt-leb c c_if (omega arith)), ne_eqb c c_do (λ z. omega arith))

quiet-both : (c : ℕ) → (c ≡ c_text → ⊥) → (c_argument ≤ c → c_local ≤ c) → one 11 c ≡ 0
quiet-both c n h = go (lt_or_ge c c_argument)
  where
    go : (c < c_argument) ⊎ (c_argument ≤ c) → one 11 c ≡ 0
    go (inl z) = quiet-low c (omega arith) n
    go (inr z) = quiet-high c (let y = h z in omega arith)

abbrev S : List Item → ℕ
S = mass (one 11)

exp_none : {s : Shape} (e : Exp s) → AllKnown (code_exp e) → S (code_exp e) ≡ 0
exp_none e k = mass-none (one 11) InExp (code_exp e) (exp_codes e) k (λ c h. quiet-low c (omega arith) h.1)

args_none : (es : List Expr) → AllKnown (each code_argument es) → S (each code_argument es) ≡ 0
args_none es k = mass-none (one 11) InArgs (each code_argument es) (args_codes es) k (λ c h. quiet-low c (omega arith) h.1)

received_none : (xs : List Received) → AllKnown (each code_received xs) → S (each code_received xs) ≡ 0
received_none xs k = mass-none (one 11) InArgs (each code_received xs) (all_received_codes xs) k (λ c h. quiet-low c (omega arith) h.1)

-- an expression with its mark
marked : {s : Shape} (e : Exp s) (x : Item) → AllKnown (code_exp e ++ x ∷ []) → S (code_exp e ++ x ∷ []) ≡ one 11 (code_of x)
marked e x k = let a = mass-append (one 11) (code_exp e) (x ∷ []) in let b = exp_none e (known-front (code_exp e) (x ∷ []) k) in omega arith

statements_tree : {k : Sort} (t : Tree k) → AllKnown (code_tree t) → S (code_tree t) ≡ statements_in t
unfolding one among
statements_tree (leaf (express e)) k = marked e i_express k
statements_tree (leaf (assign r e)) k =
    let k1 = known-front (code_exp r ++ i_target ∷ code_exp e) (i_assign ∷ []) k in
    let a = mass-append (one 11) (code_exp r ++ i_target ∷ code_exp e) (i_assign ∷ []) in
    let b = mass-append (one 11) (code_exp r) (i_target ∷ code_exp e) in
    let c = exp_none r (known-front (code_exp r) (i_target ∷ code_exp e) k1) in
    let d = exp_none e (known-back (code_exp r) (i_target ∷ code_exp e) k1).1 in
    omega arith
statements_tree (leaf (increment r)) k = marked r i_increment k
statements_tree (leaf (decrement r)) k = marked r i_decrement k
statements_tree (leaf (send mk r es)) k =
    let A = each code_argument es in
    let k1 = known-front (code_exp r ++ i_send mk ∷ A) (i_end ∷ []) k in
    let a = mass-append (one 11) (code_exp r ++ i_send mk ∷ A) (i_end ∷ []) in
    let b = mass-append (one 11) (code_exp r) (i_send mk ∷ A) in
    let c = exp_none r (known-front (code_exp r) (i_send mk ∷ A) k1) in
    let d = args_none es (known-back (code_exp r) (i_send mk ∷ A) k1).1 in
    omega arith
statements_tree (leaf (receive mk r xs)) k =
    let A = each code_received xs in
    let k1 = known-front (code_exp r ++ i_receive mk ∷ A) (i_end ∷ []) k in
    let a = mass-append (one 11) (code_exp r ++ i_receive mk ∷ A) (i_end ∷ []) in
    let b = mass-append (one 11) (code_exp r) (i_receive mk ∷ A) in
    let c = exp_none r (known-front (code_exp r) (i_receive mk ∷ A) k1) in
    let d = received_none xs (known-back (code_exp r) (i_receive mk ∷ A) k1).1 in
    omega arith
statements_tree (leaf (assert e)) k = marked e i_assert k
statements_tree (leaf (print w es)) k =
    let A = each code_argument es in
    let a = mass-append (one 11) A (i_end ∷ []) in
    let d = args_none es (known-front A (i_end ∷ []) k.1) in
    omega arith
statements_tree (leaf skip) k = refl
statements_tree (leaf (goto w)) k = refl
statements_tree (leaf break) k = refl
statements_tree (leaf timeout) k = refl
statements_tree (leaf else) k = refl
statements_tree (leaf (run w es)) k =
    let A = each code_argument es in
    let a = mass-append (one 11) A (i_end ∷ []) in
    let d = args_none es (known-front A (i_end ∷ []) k.1.1) in
    omega arith
statements_tree (leaf (set_run r w es)) k =
    let A = each code_argument es in
    let k1 = known-front (code_exp r ++ i_target ∷ i_name w ∷ i_set_run ∷ A) (i_end ∷ []) k in
    let a = mass-append (one 11) (code_exp r ++ i_target ∷ i_name w ∷ i_set_run ∷ A) (i_end ∷ []) in
    let b = mass-append (one 11) (code_exp r) (i_target ∷ i_name w ∷ i_set_run ∷ A) in
    let c = exp_none r (known-front (code_exp r) (i_target ∷ i_name w ∷ i_set_run ∷ A) k1) in
    let d = args_none es (known-back (code_exp r) (i_target ∷ i_name w ∷ i_set_run ∷ A) k1).1.1.1 in
    omega arith
statements_tree (select os) k =
    let a = mass-append (one 11) (code_tree os) (i_fi ∷ []) in
    let b = statements_tree os (known-front (code_tree os) (i_fi ∷ []) k.1) in
    omega arith
statements_tree (loop os) k =
    let a = mass-append (one 11) (code_tree os) (i_od ∷ []) in
    let b = statements_tree os (known-front (code_tree os) (i_od ∷ []) k.1) in
    omega arith
statements_tree (bare a) k = statements_tree a k
statements_tree (labelled w a) k = let b = statements_tree a k.1.1 in omega arith
statements_tree end k = refl
statements_tree (then s q) k =
    let a = mass-append (one 11) (code_tree s) (code_tree q) in
    let b = statements_tree s (known-front (code_tree s) (code_tree q) k) in
    let c = statements_tree q (known-back (code_tree s) (code_tree q) k) in
    omega arith
statements_tree over k = refl
statements_tree (option q os) k =
    let a = mass-append (one 11) (code_tree q) (i_end_option ∷ code_tree os) in
    let b = statements_tree q (known-front (code_tree q) (i_end_option ∷ code_tree os) k.1) in
    let c = statements_tree os (known-back (code_tree q) (i_end_option ∷ code_tree os) k.1).1 in
    omega arith

locals_none : (ds : List Declaration) → AllKnown (each (code_declaration i_local) ds) → S (each (code_declaration i_local) ds) ≡ 0
locals_none ds k = mass-none (one 11) InDeclaration (each (code_declaration i_local) ds) (local_codes ds) k (λ c h. quiet-both c h.1 h.2)

groups_none : (gs : List Group) → AllKnown (each code_group gs) → S (each code_group gs) ≡ 0
groups_none gs k = mass-none (one 11) InGroup (each code_group gs) (groups_codes gs) k (λ c h. quiet-both c h.1 (λ z. let y = h.2 (omega arith) in omega arith))

statements_body : (ds : List Declaration) (q : Tree sequence) → AllKnown (code_body (body ds q)) → S (code_body (body ds q)) ≡ statements_in q
unfolding one among
statements_body ds q k =
    let a = mass_body (one 11) ds q in
    let b = locals_none ds (known_locals ds q k) in
    let c = statements_tree q (known_tree ds q k) in
    omega arith

activity_none : (x : Activity) (w : Name) → S (code_activity x w) ≡ 0
unfolding one among
activity_none idle w = refl
activity_none once w = refl
activity_none (times n) w = refl

messages_none : (ws : List Name) → AllKnown (each code_message ws) → S (each code_message ws) ≡ 0
messages_none ws k = mass-none (one 11) InMessages (each code_message ws) (messages_codes ws) k go
  where
    go : (c : ℕ) → InMessages c → one 11 c ≡ 0
    go c (inl e) = quiet-low c (omega arith) (λ z. omega arith)
    go c (inr e) = quiet-high c (omega arith)

statements-part : (p : Part) → AllKnown (code_part p) → S (code_part p) ≡ statement_count p
unfolding one among
statements-part (mtypes ws) k = let a = messages_none ws k.1 in omega arith
statements-part (global d) k = mass-none (one 11) InDeclaration (code_declaration i_global d) (global_codes d) k (λ c h. quiet-both c h.1 h.2)
statements-part (process x w gs (body ds q)) k =
    let a = mass-unit (one 11) (code_activity x w) gs (body ds q) in
    let b = groups_none gs (known_groups (code_activity x w) gs ds q k) in
    let c = statements_body ds q (known_body (code_activity x w) gs ds q k) in
    let d = activity_none x w in
    omega arith
statements-part (init (body ds q)) k = let a = statements_body ds q k.1 in omega arith

-- the whole, part by part
module _ (g : ℕ → ℕ) (f : Part → ℕ) (h : (p : Part) → AllKnown (code_part p) → mass g (code_part p) ≡ f p) where
  mass-model : (m : Model) → AllKnown (code m) → mass g (code m) ≡ tally f m
  mass-model [] k = refl
  mass-model (p ∷ m) k =
      let a = mass-append g (code_part p) (code m) in
      let b = h p (known-front (code_part p) (code m) k) in
      let c = mass-model m (known-back (code_part p) (code m) k) in
      omega arith

pub statements-model : (m : Model) → AllKnown (code m) → mass (one 11) (code m) ≡ tally statement_count m
statements-model m k = mass-model (one 11) statement_count statements-part m k

-- ---- what is in no declaration, no parameter and no statement
module _ (g : ℕ → ℕ) (declared : (c : ℕ) → InDeclaration c → g c ≡ 0) (grouped : (c : ℕ) → InGroup c → g c ≡ 0)
    (stated : (c : ℕ) → InTree c → g c ≡ 0) (opened : g c_body ≡ 0) (closed : g c_end_body ≡ 0) where
  bare_body : (b : Body) → AllKnown (code_body b) → mass g (code_body b) ≡ 0
  bare_body (body ds q) k =
      let a = mass_body g ds q in
      let b = mass-none g InDeclaration (each (code_declaration i_local) ds) (local_codes ds) (known_locals ds q k) declared in
      let c = mass-none g InTree (code_tree q) (tree_codes q) (known_tree ds q k) stated in
      let d = opened in
      let e = closed in
      omega arith

  bare-unit : (A : List Item) (gs : List Group) (b : Body) → AllKnown (A ++ each code_group gs ++ code_body b) → mass g (A ++ each code_group gs ++ code_body b) ≡ mass g A
  bare-unit A gs (body ds q) k =
      let a = mass-unit g A gs (body ds q) in
      let b = mass-none g InGroup (each code_group gs) (groups_codes gs) (known_groups A gs ds q k) grouped in
      let c = bare_body (body ds q) (known_body A gs ds q k) in
      omega arith

-- ---- mtype names
no_message : (c : ℕ) → (c ≡ c_message → ⊥) → one 12 c ≡ 0
unfolding one among
no_message c n = rw (ne_eqb c c_message n)

group-none : (c : ℕ) → InGroup c → one 12 c ≡ 0
group-none c h = no_message c (λ z. let y = h.2 (omega arith) in omega arith)

messages_each : (ws : List Name) → mass (one 12) (each code_message ws) ≡ length ws
unfolding one among
messages_each [] = refl
messages_each (w ∷ ws) = let a = messages_each ws in omega arith

messages_part : (p : Part) → AllKnown (code_part p) → mass (one 12) (code_part p) ≡ message_count p
unfolding one among
messages_part (mtypes ws) k = let a = messages_each ws in omega arith
messages_part (global d) k = mass-none (one 12) InDeclaration (code_declaration i_global d) (global_codes d) k (λ c h. no_message c (λ z. omega arith))
messages_part (process x w gs b) k =
    bare-unit (one 12) (λ c h. no_message c (λ z. omega arith)) group-none (λ c h. no_message c (λ z. omega arith)) refl refl (code_activity x w) gs b k
    ∙ go x
  where
    go : (x : Activity) → mass (one 12) (code_activity x w) ≡ 0
    go idle = refl
    go once = refl
    go (times n) = refl
messages_part (init b) k =
    let a = bare_body (one 12) (λ c h. no_message c (λ z. omega arith)) group-none (λ c h. no_message c (λ z. omega arith)) refl refl b k.1 in
    omega arith

pub messages_model : (m : Model) → AllKnown (code m) → mass (one 12) (code m) ≡ tally message_count m
messages_model m k = mass-model (one 12) message_count messages_part m k

-- ---- proctypes
no_proctype : (c : ℕ) → c ≤ c_parameter → one 13 c ≡ 0
unfolding one among
no_proctype c h = rw (lt-leb c_proctype c (omega arith))

message-none : (c : ℕ) → InMessages c → one 13 c ≡ 0
message-none c (inl e) = no_proctype c (omega arith)
message-none c (inr e) = no_proctype c (omega arith)

proctypes_part : (p : Part) → AllKnown (code_part p) → mass (one 13) (code_part p) ≡ proctype_count p
unfolding one among
proctypes_part (mtypes ws) k = let a = mass-none (one 13) InMessages (each code_message ws) (messages_codes ws) k.1 message-none in omega arith
proctypes_part (global d) k = mass-none (one 13) InDeclaration (code_declaration i_global d) (global_codes d) k (λ c h. no_proctype c (omega arith))
proctypes_part (process x w gs b) k =
    bare-unit (one 13) (λ c h. no_proctype c (omega arith)) (λ c h. no_proctype c (omega arith)) (λ c h. no_proctype c (omega arith)) refl refl (code_activity x w) gs b k ∙ go x
  where
    go : (x : Activity) → mass (one 13) (code_activity x w) ≡ 1
    go idle = refl
    go once = refl
    go (times n) = refl
proctypes_part (init b) k =
    let a = bare_body (one 13) (λ c h. no_proctype c (omega arith)) (λ c h. no_proctype c (omega arith)) (λ c h. no_proctype c (omega arith)) refl refl b k.1 in omega arith

pub proctypes_model : (m : Model) → AllKnown (code m) → mass (one 13) (code m) ≡ tally proctype_count m
proctypes_model m k = mass-model (one 13) proctype_count proctypes_part m k

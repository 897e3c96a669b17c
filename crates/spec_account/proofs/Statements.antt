-- A STATEMENT STANDS WHERE IT IS SAID TO STAND: from its place on the normal text is that of the statement and of all that follows it, and nothing else.
use Prim.Native.Nat.{ℕ, zero, suc, ◌+◌, ◌-◌, ◌≤◌, ◌<◌}
use native.Mathlib.Omega.{arith}
use borrow.Author.Tests.{eq-eqb, ne_eqb, lt-ltb, le-ltb, eqb-true}
use mathlib.Core.Path.{◌≡◌, refl, sym as inv, ap, ◌∙◌, subst}
use mathlib.Core.Bool.{Bool, true, false}
use mathlib.Core.Logic.{◌⊎◌, inl, inr}
use mathlib.Core.List.{List, [], ◌∷◌, ◌++◌, append_assoc, append-nil}
use lib.ListN.{length, get_or, drop, length-append}
use lib.Seq.{drop_at}
use lib.Dec.{eqb, leb}
use Rattle.base_bytes.specs.Choice.{pick}
use Rattle.base_bytes.proofs.Tests.{true_false}
use Rattle.base_kinds.specs.Kinds.{Token, sym, name, number, level}
use Rattle.base_bytes.specs.Lists.{same}
use Rattle.spec_text.specs.Find.{find}
use Rattle.spec_text.specs.Spelled.{mark_joins}
use Rattle.spec_text.specs.Writing.{spell, apart, write_behind, write}
use Rattle.spec_grammar.specs.Marks.{'lpar, 'rpar, 'lbrace, 'rbrace, 'comma, 'semi, ':, '::, '=, '++, '--, 'assert, 'break, 'do, 'else, 'false, 'fi, 'goto, 'if, 'init, 'od, 'printf, 'proctype, 'run, 'skip, 'timeout, 'true}
use Rattle.spec_grammar.specs.Tree.{Shape, Exp, plain, indexed, num, tru, fls, get, query, unary, binary, choice, Leaf, express, assign, increment, decrement, send, receive, assert, print, skip, goto, break, timeout, else, run, set_run, Sort, action, statement, sequence, options, Tree, leaf, select, loop, bare, labelled, end, then, over, option, Declaration, Body, body, Activity, Part, mtypes, global, process, init, Model}
use Rattle.spec_grammar.specs.Print.{wrap, print_exp, print_whole, join, print_received, before, print_tree, print_declaration, print_group, print_items, print_body, print_activity, print_part, print_model}
use Rattle.spec_machine.specs.Sizes.{size_leaf, size_in}
use Rattle.spec_machine.specs.Program.{Within, itself, in_if, in_do, unlabelled, behind_label, in_first, in_rest, in_option, in_others, enter, sequence_of}
use Rattle.spec_machine.specs.Names.{unit_at}
use Rattle.spec_machine.specs.Begins.{body_of}
use Rattle.spec_machine.specs.Places.{Bodied, start_of, end_of}
use Rattle.spec_machine.specs.Steps.{Found, nothing, found, or_found, here, statement_at}
use Rattle.spec_normal.specs.Normal.{normal}
use Rattle.spec_account.specs.Statements.{statement_text, from_in, from_unit, stands_at}

-- ---- what is found at a place stands there
abbrev All : (Tree action → ℕ → ℕ → Type 0) → Found → Type 0
All P nothing = Unit {0}
All P (found a m u) = P a m u

all_or : (P Q R : Tree action → ℕ → ℕ → Type 0) → ((a : Tree action) (m u : ℕ) → P a m u → R a m u) → ((a : Tree action) (m u : ℕ) → Q a m u → R a m u) → (x y : Found) → All P x → All Q y → All R (or_found x y)
all_or P Q R f g nothing nothing p q = tt
all_or P Q R f g nothing (found a m u) p q = g a m u q
all_or P Q R f g (found a m u) y p q = f a m u p

module _ (j : ℕ) where
  abbrev In : (k : Sort) → Tree k → ℕ → ℕ → ℕ → Tree action → ℕ → ℕ → Type 0
  In k t i n o a m u = Within k t i n o a j m u

  here-within : (b : Tree action) (i n o : ℕ) → All (In action b i n o) (here b i n o j)
  here-within b i n o = go (eqb i j) refl
    where
      go : (x : Bool) → eqb i j ≡ x → All (In action b i n o) (pick x (found b n o) nothing)
      go true e = subst (λ (k : ℕ). Within action b i n o b k n o) (eqb-true i j e) itself
      go false e = tt

  all-within : {k : Sort} (t : Tree k) (i n o : ℕ) → All (In k t i n o) (statement_at t i n o j)
  unfolding statement_at
  all-within (leaf l) i n o = here-within (leaf l) i n o
  all-within (select os) i n o =
      all_or (In action (select os) i n o) (In options os (i + 1) n o) (In action (select os) i n o) (λ a m u w. w) (λ a m u w. in_if w) (here (select os) i n o j) (statement_at os (i + 1) n o j)
      (here-within (select os) i n o) (all-within os (i + 1) n o)
  all-within (loop os) i n o =
      all_or (In action (loop os) i n o) (In options os (i + 1) i n) (In action (loop os) i n o) (λ a m u w. w) (λ a m u w. in_do w) (here (loop os) i n o j) (statement_at os (i + 1) i n j)
      (here-within (loop os) i n o) (all-within os (i + 1) i n)
  all-within (bare b) i n o = lift (statement_at b i n o j) (all-within b i n o)
    where
      lift : (x : Found) → All (In action b i n o) x → All (In statement (bare b) i n o) x
      lift nothing p = tt
      lift (found a m u) p = unlabelled p
  all-within (labelled v b) i n o = lift (statement_at b (i + 2) n o j) (all-within b (i + 2) n o)
    where
      lift : (x : Found) → All (In action b (i + 2) n o) x → All (In statement (labelled v b) i n o) x
      lift nothing p = tt
      lift (found a m u) p = behind_label p
  all-within end i n o = tt
  all-within (then s q) i n o =
      all_or (In statement s i (enter q (i + size_in s) n) o) (In sequence q (i + size_in s) n o) (In sequence (then s q) i n o) (λ a m u w. in_first w) (λ a m u w. in_rest w)
      (statement_at s i (enter q (i + size_in s) n) o j) (statement_at q (i + size_in s) n o j) (all-within s i (enter q (i + size_in s) n) o) (all-within q (i + size_in s) n o)
  all-within over i n o = tt
  all-within (option q os) i n o =
      all_or (In sequence q (i + 1) n o) (In options os (i + 2 + size_in q) n o) (In options (option q os) i n o) (λ a m u w. in_option w) (λ a m u w. in_others w)
      (statement_at q (i + 1) n o j) (statement_at os (i + 2 + size_in q) n o j) (all-within q (i + 1) n o) (all-within os (i + 2 + size_in q) n o)

  pub found_within : {k : Sort} (t : Tree k) (i n o : ℕ) (a : Tree action) (m u : ℕ) → statement_at t i n o j ≡ found a m u → Within k t i n o a j m u
  found_within {k} t i n o a m u e = subst (All (In k t i n o)) e (all-within t i n o)

-- ---- it stands between the numbers of its tree
some-leaf : (l : Leaf) → 1 ≤ size_leaf l
some-leaf (express e) = omega arith
some-leaf (assign r e) = omega arith
some-leaf (increment r) = omega arith
some-leaf (decrement r) = omega arith
some-leaf (send o r es) = omega arith
some-leaf (receive o r xs) = omega arith
some-leaf (assert e) = omega arith
some-leaf (print w es) = omega arith
some-leaf skip = omega arith
some-leaf (goto w) = omega arith
some-leaf break = omega arith
some-leaf timeout = omega arith
some-leaf else = omega arith
some-leaf (run w es) = omega arith
some-leaf (set_run r w es) = omega arith

some-place : (a : Tree action) → 1 ≤ size_in a
some-place (leaf l) = some-leaf l
some-place (select os) = omega arith
some-place (loop os) = omega arith

range : {k : Sort} {t : Tree k} {i n o : ℕ} {a : Tree action} {j m u : ℕ} → Within k t i n o a j m u → (i ≤ j) × (j < i + size_in t)
range (itself {a = a}) = let l = some-place a in (omega arith, omega arith)
range (in_if {os = os} w) = let r = range w in let x = r.0 in let y = r.1 in (omega arith, omega arith)
range (in_do {os = os} w) = let r = range w in let x = r.0 in let y = r.1 in (omega arith, omega arith)
range (unlabelled w) = range w
range (behind_label w) = let r = range w in let x = r.0 in let y = r.1 in (omega arith, omega arith)
range (in_first {s = s} {q = q} w) = let r = range w in let x = r.0 in let y = r.1 in (omega arith, omega arith)
range (in_rest {s = s} {q = q} w) = let r = range w in let x = r.0 in let y = r.1 in (omega arith, omega arith)
range (in_option {q = q} {os = os} w) = let r = range w in let x = r.0 in let y = r.1 in (omega arith, omega arith)
range (in_others {q = q} {os = os} w) = let r = range w in let x = r.0 in let y = r.1 in (omega arith, omega arith)

-- ---- what stands from a place on, by where the place is
pub from_itself : (a : Tree action) (i : ℕ) → from_in a i i ≡ print_tree a
unfolding from_in
from_itself (leaf l) i = refl
from_itself (select os) i = rw (eq-eqb i i refl)
from_itself (loop os) i = rw (eq-eqb i i refl)

module _ (i j : ℕ) where
  pub from_if : (os : Tree options) → i + 1 ≤ j → from_in (select os) i j ≡ from_in os (i + 1) j ++ 'fi ∷ []
  unfolding from_in
  from_if os h = rw (ne_eqb i j (λ e. omega arith))

  pub from_do : (os : Tree options) → i + 1 ≤ j → from_in (loop os) i j ≡ from_in os (i + 1) j ++ 'od ∷ []
  unfolding from_in
  from_do os h = rw (ne_eqb i j (λ e. omega arith))

  pub from_first : (s : Tree statement) (q : Tree sequence) → j < i + size_in s → from_in (then s q) i j ≡ from_in s i j ++ before q (print_tree q)
  unfolding from_in
  from_first s q h = rw (lt-ltb j (i + size_in s) h)

  pub from-rest : (s : Tree statement) (q : Tree sequence) → i + size_in s ≤ j → from_in (then s q) i j ≡ from_in q (i + size_in s) j
  unfolding from_in
  from-rest s q h = rw (le-ltb j (i + size_in s) h)

  pub from_option : (q : Tree sequence) (os : Tree options) → j < i + 1 + size_in q → from_in (option q os) i j ≡ from_in q (i + 1) j ++ print_tree os
  unfolding from_in
  from_option q os h = rw (lt-ltb j (i + 1 + size_in q) h)

  pub from-others : (q : Tree sequence) (os : Tree options) → i + 2 + size_in q ≤ j → from_in (option q os) i j ≡ from_in os (i + 2 + size_in q) j
  unfolding from_in
  from-others q os h = rw (le-ltb j (i + 1 + size_in q) (omega arith))

-- ---- the statement's own tokens come first
pub record Begins (ts x : List Token) : Type 0 where
  pub rest : List Token
  pub is : ts ≡ x ++ rest

more : {ts x : List Token} (z : List Token) → Begins ts x → Begins (ts ++ z) x
more {ts} {x} z b = record { rest = b.rest ++ z; is = ap (◌++ z) b.is ∙ append_assoc x b.rest z }

likewise : {ts us x : List Token} → us ≡ ts → Begins ts x → Begins us x
likewise e b = record { rest = b.rest; is = e ∙ b.is }

pub within-front : {k : Sort} {t : Tree k} {i n o : ℕ} {a : Tree action} {j m u : ℕ} → Within k t i n o a j m u → Begins (from_in t i j) (print_tree a)
unfolding from_in
within-front (itself {a = a} {i = i}) = record { rest = []; is = from_itself a i ∙ inv (append-nil (print_tree a)) }
within-front {i = i} {j = j} (in_if {os = os} w) = likewise (from_if i j os (range w).0) (more ('fi ∷ []) (within-front w))
within-front {i = i} {j = j} (in_do {os = os} w) = likewise (from_do i j os (range w).0) (more ('od ∷ []) (within-front w))
within-front (unlabelled w) = within-front w
within-front (behind_label w) = within-front w
within-front {i = i} {j = j} (in_first {s = s} {q = q} w) = likewise (from_first i j s q (range w).1) (more (before q (print_tree q)) (within-front w))
within-front {i = i} {j = j} (in_rest {s = s} {q = q} w) = likewise (from-rest i j s q (range w).0) (within-front w)
within-front {i = i} {j = j} (in_option {q = q} {os = os} w) = likewise (from_option i j q os (range w).1) (more (print_tree os) (within-front w))
within-front {i = i} {j = j} (in_others {q = q} {os = os} w) = likewise (from-others i j q os (range w).0) (within-front w)

pub from_front : {k : Sort} (t : Tree k) (i n o j : ℕ) (a : Tree action) (m u : ℕ) → statement_at t i n o j ≡ found a m u → Begins (from_in t i j) (print_tree a)
from_front t i n o j a m u e = within-front (found_within j t i n o a m u e)

-- ---- what stands before ends in a mark behind which no space is needed
-- a list that ends, and in a token that d may follow at once
abbrev ends : List Token → Token → Bool
ends [] d = false
ends (c ∷ []) d = pick (apart c d) false true
ends (c ∷ e ∷ l) d = ends (e ∷ l) d

ends-behind : (x y : List Token) (d : Token) → ends y d ≡ true → ends (x ++ y) d ≡ true
ends-behind [] y d e = e
ends-behind (c ∷ []) [] d e = absurd (true_false (inv e))
ends-behind (c ∷ []) (b ∷ y) d e = e
ends-behind (c ∷ b ∷ x) y d e = ends-behind (b ∷ x) y d e

-- written side by side
loose : (c d : Token) (ts : List Token) → pick (apart c d) false true ≡ true → write_behind c (d ∷ ts) ≡ write (d ∷ ts)
unfolding write_behind
loose c d ts e = go (apart c d) e
  where
    go : (b : Bool) → pick b false true ≡ true → pick b (32 ∷ []) [] ++ (spell d ++ write_behind d ts) ≡ spell d ++ write_behind d ts
    go true e = absurd (true_false (inv e))
    go false e = refl

behind_parts : (b : Token) (x : List Token) (d : Token) (ts : List Token) → ends x d ≡ true → write_behind b (x ++ d ∷ ts) ≡ write_behind b x ++ write (d ∷ ts)
unfolding write_behind
behind_parts b [] d ts e = absurd (true_false (inv e))
behind_parts b (c ∷ []) d ts e =
    let s : List ℕ = pick (apart b c) (32 ∷ []) [] in
    ap (λ (z : List ℕ). s ++ (spell c ++ z)) (loose c d ts e) ∙ ap (s ++◌) (ap (◌++ write (d ∷ ts)) (inv (append-nil (spell c)))) ∙ inv (append_assoc s (spell c ++ []) (write (d ∷ ts)))
behind_parts b (c ∷ f ∷ x) d ts e =
    let s : List ℕ = pick (apart b c) (32 ∷ []) [] in
    let y = write_behind c (f ∷ x) in
    ap (λ (z : List ℕ). s ++ (spell c ++ z)) (behind_parts c (f ∷ x) d ts e) ∙ ap (s ++◌) (inv (append_assoc (spell c) y (write (d ∷ ts)))) ∙ inv (append_assoc s (spell c ++ y) (write (d ∷ ts)))

write_parts : (x : List Token) (d : Token) (ts : List Token) → ends x d ≡ true → write (x ++ d ∷ ts) ≡ write x ++ write (d ∷ ts)
unfolding write_behind
write_parts [] d ts e = absurd (true_false (inv e))
write_parts (c ∷ []) d ts e = ap (spell c ++◌) (loose c d ts e) ∙ ap (◌++ write (d ∷ ts)) (inv (append-nil (spell c)))
write_parts (c ∷ f ∷ x) d ts e = ap (spell c ++◌) (behind_parts c (f ∷ x) d ts e) ∙ inv (append_assoc (spell c) (write_behind c (f ∷ x)) (write (d ∷ ts)))

-- ---- each statement has a first token
record Some (ts : List Token) : Type 0 where
  first : Token
  others : List Token
  is : ts ≡ first ∷ others

one : (c : Token) (l : List Token) → Some (c ∷ l)
one c l = record { first = c; others = l; is = refl }

some_more : {x : List Token} (y : List Token) → Some x → Some (x ++ y)
some_more y s = record { first = s.first; others = s.others ++ y; is = ap (◌++ y) s.is }

some-wrap : (b : Bool) (ts : List Token) → Some ts → Some (wrap b ts)
some-wrap true ts s = s
some-wrap false ts s = one 'lpar (ts ++ 'rpar ∷ [])

some_exp : {s : Shape} (e : Exp s) (l : ℕ) → Some (print_exp e l)
some_exp (plain w) l = one (name w) []
some_exp (indexed w e) l = one (name w) _
some_exp (num n) l = one (number n) []
some_exp tru l = one 'true []
some_exp fls l = one 'false []
some_exp (get r) l = some_exp r 12
some_exp (query o r) l = one (sym o) _
some_exp (unary o e) l = one (sym o) _
some_exp (binary o a b) l = some-wrap (leb l (level o)) (print_exp a (level o) ++ sym o ∷ print_exp b (suc (level o))) (some_more (sym o ∷ print_exp b (suc (level o))) (some_exp a (level o)))
some_exp (choice a b c) l = one 'lpar _

some_action : (a : Tree action) → Some (print_tree a)
some_action (leaf (express e)) = some_exp e 1
some_action (leaf (assign r e)) = some_more ('= ∷ print_whole e) (some_exp r 12)
some_action (leaf (increment r)) = some_more ('++ ∷ []) (some_exp r 12)
some_action (leaf (decrement r)) = some_more ('-- ∷ []) (some_exp r 12)
some_action (leaf (send o r es)) = some_more (sym o ∷ join 'comma print_whole es) (some_exp r 12)
some_action (leaf (receive o r xs)) = some_more (sym o ∷ join 'comma print_received xs) (some_exp r 12)
some_action (leaf (assert e)) = one 'assert _
some_action (leaf (print w es)) = one 'printf _
some_action (leaf skip) = one 'skip []
some_action (leaf (goto w)) = one 'goto _
some_action (leaf break) = one 'break []
some_action (leaf timeout) = one 'timeout []
some_action (leaf else) = one 'else []
some_action (leaf (run w es)) = one 'run _
some_action (leaf (set_run r w es)) = some_more ('rpar ∷ []) (some_more ('= ∷ 'run ∷ name w ∷ 'lpar ∷ join 'comma print_whole es) (some_exp r 12))
some_action (select os) = one 'if _
some_action (loop os) = one 'do _

-- ---- marks that join nothing, and the colon, which joins none but a colon
module _ (c : ℕ) where
  marks-alone : (mark_joins (123 ∷ []) c ≡ false) × (mark_joins (59 ∷ []) c ≡ false) × (mark_joins (58 ∷ 58 ∷ []) c ≡ false)
  unfolding find same
  marks-alone = (refl, refl, refl)

  colon_alone : eqb c 58 ≡ false → mark_joins (58 ∷ []) c ≡ false
  unfolding find same
  colon_alone e = rw e

module _ (d : Token) where
  brace_loose : ends ('lbrace ∷ []) d ≡ true
  brace_loose = ap (λ b. pick b false true) (marks-alone (get_or (spell d) 0 0)).0

  semi_loose : ends ('semi ∷ []) d ≡ true
  semi_loose = ap (λ b. pick b false true) (marks-alone (get_or (spell d) 0 0)).1

  option_loose : ends (':: ∷ []) d ≡ true
  option_loose = ap (λ b. pick b false true) (marks-alone (get_or (spell d) 0 0)).2

  colon_loose : (ts : List Token) → eqb (get_or (write (d ∷ ts)) 0 0) 58 ≡ false → ends (': ∷ []) d ≡ true
  colon_loose ts e = ap (λ b. pick b false true) (colon_alone (get_or (spell d) 0 0) (go (spell d) (write_behind d ts) e))
    where
      go : (x y : List ℕ) → eqb (get_or (x ++ y) 0 0) 58 ≡ false → eqb (get_or x 0 0) 58 ≡ false
      go [] y e = refl
      go (b ∷ x) y e = e

-- ---- what stands before a statement whose first token is d
module _ (d : Token) where
  record Front (whole rest : List Token) : Type 0 where
    pre : List Token
    is : whole ≡ pre ++ rest
    loose : ends pre d ≡ true

  abbrev Fronted : List Token → List Token → Type 0
  Fronted whole rest = (whole ≡ rest) ⊎ Front whole rest

  front-behind : (x : List Token) {w r : List Token} → Front w r → Front (x ++ w) r
  front-behind x {w} {r} f = record { pre = x ++ f.pre; is = ap (x ++◌) f.is ∙ inv (append_assoc x f.pre r); loose = ends-behind x f.pre d f.loose }

  front_lead : (x : List Token) {w r : List Token} → ends x d ≡ true → Fronted w r → Front (x ++ w) r
  front_lead x e (inl z) = record { pre = x; is = ap (x ++◌) z; loose = e }
  front_lead x e (inr f) = front-behind x f

  front-more : {w r : List Token} (z : List Token) → Front w r → Front (w ++ z) (r ++ z)
  front-more {w} {r} z f = record { pre = f.pre; is = ap (◌++ z) f.is ∙ append_assoc f.pre r z; loose = f.loose }

  fronted-more : {w r : List Token} (z : List Token) → Fronted w r → Fronted (w ++ z) (r ++ z)
  fronted-more z (inl e) = inl (ap (◌++ z) e)
  fronted-more z (inr f) = inr (front-more z f)

  front_as : {w v r s : List Token} → v ≡ w → s ≡ r → Front w r → Front v s
  front_as e g f = record { pre = f.pre; is = e ∙ f.is ∙ ap (f.pre ++◌) (inv g); loose = f.loose }

  fronted_as : {w v r s : List Token} → v ≡ w → s ≡ r → Fronted w r → Fronted v s
  fronted_as e g (inl z) = inl (e ∙ z ∙ inv g)
  fronted_as e g (inr f) = inr (front_as e g f)

  abbrev Led : (k : Sort) → Tree k → ℕ → ℕ → Type 0
  Led action t i j = Fronted (print_tree t) (from_in t i j)
  Led statement t i j = Fronted (print_tree t) (from_in t i j)
  Led sequence t i j = Fronted (print_tree t) (from_in t i j)
  Led options t i j = Front (print_tree t) (from_in t i j)

  some-rest : {q : Tree sequence} {i n o : ℕ} {a : Tree action} {j m u : ℕ} → Within sequence q i n o a j m u → (s : Tree statement) → print_tree (then s q) ≡ (print_tree s ++ 'semi ∷ []) ++ print_tree q
  some-rest (in_first {s = v} {q = q} w) s = inv (append_assoc (print_tree s) ('semi ∷ []) (print_tree (then v q)))
  some-rest (in_rest {s = v} {q = q} w) s = inv (append_assoc (print_tree s) ('semi ∷ []) (print_tree (then v q)))

  led : ends (': ∷ []) d ≡ true → {k : Sort} {t : Tree k} {i n o : ℕ} {a : Tree action} {j m u : ℕ} → Within k t i n o a j m u → Led k t i j
  unfolding from_in
  led c (itself {a = a} {i = i}) = inl (inv (from_itself a i))
  led c {i = i} {j = j} (in_if {os = os} w) = inr (front_as refl (from_if i j os (range w).0) (front-behind ('if ∷ []) (front-more ('fi ∷ []) (led c w))))
  led c {i = i} {j = j} (in_do {os = os} w) = inr (front_as refl (from_do i j os (range w).0) (front-behind ('do ∷ []) (front-more ('od ∷ []) (led c w))))
  led c (unlabelled w) = led c w
  led c (behind_label {w = v} w) = inr (front_lead (name v ∷ ': ∷ []) c (led c w))
  led c {i = i} {j = j} (in_first {s = s} {q = q} w) = fronted_as refl (from_first i j s q (range w).1) (fronted-more (before q (print_tree q)) (led c w))
  led c {i = i} {j = j} (in_rest {s = s} {q = q} w) =
      inr (front_as (some-rest w s) (from-rest i j s q (range w).0) (front_lead (print_tree s ++ 'semi ∷ []) (ends-behind (print_tree s) ('semi ∷ []) d (semi_loose d)) (led c w)))
  led c {i = i} {j = j} (in_option {q = q} {os = os} w) = front_as refl (from_option i j q os (range w).1) (front_lead (':: ∷ []) (option_loose d) (fronted-more (print_tree os) (led c w)))
  led c {i = i} {j = j} (in_others {q = q} {os = os} w) = front_as refl (from-others i j q os (range w).0) (front-behind (':: ∷ print_tree q) (led c w))

  -- ---- in a body, a unit and a model
  items-front : (ds : List Declaration) (q : Tree sequence) → Fronted (print_items ds q) (print_tree q)
  items-front [] q = inl refl
  items-front (y ∷ ds) q =
      inr (front_as (inv (append_assoc (print_declaration y) ('semi ∷ []) (print_items ds q))) refl
      (front_lead (print_declaration y ++ 'semi ∷ []) (ends-behind (print_declaration y) ('semi ∷ []) d (semi_loose d)) (items-front ds q)))

  body_front : (b : Body) → Front (print_body b) (print_tree (sequence_of b) ++ 'rbrace ∷ [])
  body_front (body ds q) = front-more ('rbrace ∷ []) (front_lead ('lbrace ∷ []) (brace_loose d) (items-front ds q))

  part-front : (p : Part) → Bodied p → Front (print_part p) (print_tree (sequence_of (body_of p)) ++ 'rbrace ∷ [])
  part-front (mtypes ws) h = absurd h
  part-front (global x) h = absurd h
  part-front (process x w gs b) h = front_as (head x) refl (front-behind (print_activity x ++ 'proctype ∷ name w ∷ 'lpar ∷ join 'semi print_group gs ++ 'rpar ∷ []) (body_front b))
    where
      head : (x : Activity) → print_part (process x w gs b) ≡ (print_activity x ++ 'proctype ∷ name w ∷ 'lpar ∷ join 'semi print_group gs ++ 'rpar ∷ []) ++ print_body b
      head x = inv (append_assoc (print_activity x ++ 'proctype ∷ name w ∷ 'lpar ∷ join 'semi print_group gs) ('rpar ∷ []) (print_body b))
  part-front (init b) h = front-behind ('init ∷ []) (body_front b)

  model-front : (m : Model) (k : ℕ) → Bodied (unit_at m k) → Front (print_model m) (print_tree (sequence_of (body_of (unit_at m k))) ++ 'rbrace ∷ print_model (drop (suc k) m))
  model-front [] k h = absurd h
  model-front (x ∷ m) zero h =
      front_as refl (inv (append_assoc (print_tree (sequence_of (body_of x))) ('rbrace ∷ []) (print_model m))) (front-more (print_model m) (part-front x h))
  model-front (x ∷ m) (suc k) h = front-behind (print_part x) (model-front m k h)

  front_on : {w x r : List Token} → Front w x → Fronted x r → Front w r
  front_on f g = front_as f.is refl (front_lead f.pre f.loose g)

  unit-front : (m : Model) (k : ℕ) {n o : ℕ} {a : Tree action} {j v u : ℕ} → ends (': ∷ []) d ≡ true → Bodied (unit_at m k) → Within sequence (sequence_of (body_of (unit_at m k))) (start_of m k) n o a j v u → Front (print_model m) (from_unit m k j)
  unfolding from_unit
  unit-front m k c h w = front_on (model-front m k h) (fronted-more ('rbrace ∷ print_model (drop (suc k) m)) (led c w))

-- ---- the whole
none_found : (i n o j : ℕ) (a : Tree action) (v u : ℕ) → statement_at end i n o j ≡ found a v u → ⊥
unfolding statement_at
none_found i n o j a v u e = subst holds e tt
  where
    holds : Found → Type 0
    holds nothing = Unit {0}
    holds (found a v u) = ⊥

-- a unit in which a statement stands has a body
pub found_bodied : (p : Part) (i n o j : ℕ) (a : Tree action) (v u : ℕ) → statement_at (sequence_of (body_of p)) i n o j ≡ found a v u → Bodied p
found_bodied (mtypes ws) i n o j a v u e = absurd (none_found i n o j a v u e)
found_bodied (global x) i n o j a v u e = absurd (none_found i n o j a v u e)
found_bodied (process x w gs b) i n o j a v u e = tt
found_bodied (init b) i n o j a v u e = tt

-- where statement a stands at place j of unit k, and its text begins with no colon, as no text of the language does
module _ (m : Model) (k j : ℕ) (a : Tree action) (n o : ℕ) (e : statement_at (sequence_of (body_of (unit_at m k))) (start_of m k) (end_of m k) 0 j ≡ found a n o) where
  stood : Within sequence (sequence_of (body_of (unit_at m k))) (start_of m k) (end_of m k) 0 a j n o
  stood = found_within j (sequence_of (body_of (unit_at m k))) (start_of m k) (end_of m k) 0 a n o e

  -- the model's tokens from there on begin with its own
  pub unit-begins : Begins (from_unit m k j) (print_tree a)
  unfolding from_unit
  unit-begins = more ('rbrace ∷ print_model (drop (suc k) m)) (within-front stood)

  module _ (c : eqb (get_or (statement_text a) 0 0) 58 ≡ false) where
    first : Some (print_tree a)
    first = some_action a

    front : Front first.first (print_model m) (from_unit m k j)
    front =
        unit-front first.first m k (colon_loose first.first first.others (ap (λ (ts : List Token). eqb (get_or (write ts) 0 0) 58) (inv first.is) ∙ c))
        (found_bodied (unit_at m k) (start_of m k) (end_of m k) 0 j a n o e) stood

    parted : normal m ≡ write front.pre ++ write (from_unit m k j)
    parted =
        let g : from_unit m k j ≡ first.first ∷ first.others ++ unit-begins.rest = unit-begins.is ∙ ap (◌++ unit-begins.rest) first.is in
        ap write (front.is ∙ ap (front.pre ++◌) g) ∙ write_parts front.pre first.first (first.others ++ unit-begins.rest) front.loose ∙ ap (λ (ts : List Token). write front.pre ++ write ts) (inv g)

    -- what follows is no longer than the whole
    pub stands-within : length (write (from_unit m k j)) ≤ length (normal m)
    stands-within = omega (arith, ap length parted, length-append (write front.pre) (write (from_unit m k j)))

    -- FROM ITS PLACE ON THE NORMAL TEXT IS that of the statement and of all that follows it
    pub stands_there : drop (stands_at m k j) (normal m) ≡ write (from_unit m k j)
    stands_there =
        let l : stands_at m k j ≡ length (write front.pre) = omega (arith, ap length parted, length-append (write front.pre) (write (from_unit m k j))) in
        ap (drop (stands_at m k j)) parted ∙ drop_at (write front.pre) (write (from_unit m k j)) (stands_at m k j) (inv l)

-- All units of a model, one after the other: the globals of the whole, and the faults of its items.
use Prim.Native.Nat.{ℕ, zero, suc, ◌+◌, ◌≤◌}
use native.Mathlib.Omega.{arith}
use mathlib.Core.Path.{◌≡◌, refl, sym, subst}
use mathlib.Core.Bool.{Bool}
use mathlib.Core.List.{List, [], ◌∷◌, ◌++◌, append_assoc, append-nil}
use lib.ListN.{length, get_or}
use Rattle.base_kinds.specs.Kinds.{Token}
use Rattle.base_bytes.specs.Choice.{either}
use Rattle.spec_grammar.specs.Tree.{Model, declare, body, idle, once, times, Part, mtypes, global, process, init}
use Rattle.spec_grammar.specs.Grammar.{AUnit, u_mtypes, u_global, u_process, u_init, Gram, g_last, g_more}
use Rattle.base_codes.specs.Items.{Item, i_active, i_body, i_global, i_init, i_mtypes, i_name, i_number, i_proctype, i_type}
use Rattle.parse_code.specs.Code.{code}
use Rattle.parse_spots.specs.Spots.{spots_unit, spots}
use Rattle.parse_spots.proofs.Coded.{spots-code}
use Rattle.table_entries.specs.Items.{Known}
use Rattle.table_entries.proofs.Items.{type_code}
use Rattle.spec_rules.specs.Senses.{Scope}
use Rattle.spec_rules.specs.Units.{of_part, of_model}
use Rattle.spec_faults.specs.Faults.{is_list, is_init, in_units}
use Rattle.legal_terms.specs.Says.{Says}
use Rattle.legal_terms.specs.Faulted.{Statements}
use Rattle.legal_declarations.proofs.Standing.{Lies, known_at, code_is, Span, items_long, span-front, span-back, span_lies}
use Rattle.legal_declarations.proofs.Scopes.{Scoped}
use Rattle.legal_declarations.proofs.Judging.{hs, Gives, gives_join}
use Rattle.legal_declarations.proofs.Variables.{After}
use Rattle.legal_declarations.proofs.Units.{Ready, Done, done_mtypes, done_global, done_process, done_init}

pub beyond : (l : List ℕ) (k : ℕ) → length l ≤ k → get_or l k 0 ≡ 0
beyond [] k h = refl
beyond (x ∷ l) zero h = absurd (omega arith)
beyond (x ∷ l) (suc k) h = beyond l k (omega arith)

module _ (m : Model) (cs vs : List ℕ) (S : Says m cs vs) where
  abbrev xs : List Item
  xs = code m

  -- ---- no size stands where a unit begins
  after_units : (n : Model) (k : ℕ) → Lies xs k (code n) → k + length (code n) ≡ length cs → After m cs vs S k
  after_units [] k y e = (λ z. (let a = beyond cs k (omega arith) in omega arith), λ z. (let a = beyond cs (suc k) (omega arith) in omega arith))
  after_units (mtypes [] ∷ n) k y e =
      let c = code_is m cs vs S k i_mtypes y.0 y.1 in
      let r = after_units n (suc k) y.2 (omega arith) in
      (λ z. omega arith, r.0)
  after_units (mtypes (w ∷ ws) ∷ n) k y e =
      let c = code_is m cs vs S k i_mtypes y.0 y.1 in
      let d = code_is m cs vs S (suc k) (i_name w) y.2.0 y.2.1 in
      (λ z. omega arith, λ z. omega arith)
  after_units (global (declare t us) ∷ n) k y e =
      let a = (type_code (subst Known y.1 (known_at m cs vs S k y.0))).1 in
      let c = code_is m cs vs S k (i_type t) y.0 y.1 in
      let d = code_is m cs vs S (suc k) i_global y.2.0 y.2.1 in
      (λ z. omega arith, λ z. omega arith)
  after_units (process idle w gs b ∷ n) k y e =
      let c = code_is m cs vs S k (i_name w) y.0 y.1 in
      let d = code_is m cs vs S (suc k) i_proctype y.2.0 y.2.1 in
      (λ z. omega arith, λ z. omega arith)
  after_units (process once w gs b ∷ n) k y e =
      let c = code_is m cs vs S k (i_name w) y.0 y.1 in
      let d = code_is m cs vs S (suc k) i_active y.2.0 y.2.1 in
      (λ z. omega arith, λ z. omega arith)
  after_units (process (times i) w gs b ∷ n) k y e =
      let c = code_is m cs vs S k (i_number i) y.0 y.1 in
      let d = code_is m cs vs S (suc k) (i_name w) y.2.0 y.2.1 in
      (λ z. omega arith, λ z. omega arith)
  after_units (init (body ds q) ∷ n) k y e =
      let c = code_is m cs vs S k i_init y.0 y.1 in
      let d = code_is m cs vs S (suc k) i_body y.2.0 y.2.1 in
      (λ z. omega arith, λ z. omega arith)

module _ (m : Model) (cs vs toks : List ℕ) (S : Says m cs vs) (ruled : Statements m cs vs toks) where
  unit_done : {ts : List Token} {v : Part} (x : AUnit ts v) (lists inits : Bool) (g : Scope) (i j e : ℕ) → Span (code m) toks j e (spots_unit x i) → After m cs vs S e
      → Ready m cs vs toks S lists inits g j → Done m cs vs toks S lists inits g x i j e
  unit_done (u_mtypes x) lists inits g i j e y a r = done_mtypes m cs vs toks S ruled lists inits g i j e a r x y
  unit_done (u_global x) lists inits g i j e y a r = done_global m cs vs toks S ruled lists inits g i j e a r x y
  unit_done (u_process {b = body ds q} x z b) lists inits g i j e y a r = done_process m cs vs toks S ruled lists inits g i j e a r x z b y
  unit_done (u_init {b = body ds q} b) lists inits g i j e y a r = done_init m cs vs toks S ruled lists inits g i j e a r b y

  pub record Through (lists inits : Bool) (g : Scope) {ts : List Token} {n : Model} (x : Gram ts n) (i j : ℕ) : Type 0 where
    pub scope : Scoped m cs vs (hs m cs vs S) S (g ++ of_model n) 0 (length cs)
    pub gives : (M : Scope) → Scoped m cs vs (hs m cs vs S) S M 0 (length cs) → Gives cs vs toks j (length cs) (in_units M lists inits g x i)

  pub units_through : {ts : List Token} {n : Model} (x : Gram ts n) (lists inits : Bool) (g : Scope) (i j : ℕ) → Span (code m) toks j (length cs) (spots x i) → Ready m cs vs toks S lists inits g j
      → Through lists inits g x i j
  unfolding in_units
  units_through (g_last {u = u} x z) lists inits g i j y r =
      let d = unit_done x lists inits g i j (length cs) (subst (Span (code m) toks j (length cs)) (append-nil (spots_unit x i)) y) (after_units m cs vs S [] (length cs) tt (omega arith)) r in
      record { scope = subst (λ l. Scoped m cs vs (hs m cs vs S) S (g ++ l) 0 (length cs)) (sym (append-nil (of_part u))) d.ready.scope; gives = d.gives }
  units_through (g_more {ts = ts} {us = us} {u = u} {m = n} x z w) lists inits g i j y r =
      let X = spots_unit x i in
      let i2 = i + length ts + length us in
      let e = j + length X in
      let back = span-back X (spots w i2) y in
      let size = items_long (spots w i2) (code n) (spots-code w i2) in
      let d = unit_done x lists inits g i j e (span-front X (spots w i2) y) (after_units m cs vs S n e (span_lies (spots w i2) (code n) back (spots-code w i2)) (omega arith)) r in
      let t = units_through w (either lists (is_list u)) (either inits (is_init u)) (g ++ of_part u) i2 e back d.ready in
      record {
        scope = subst (λ l. Scoped m cs vs (hs m cs vs S) S l 0 (length cs)) (append_assoc g (of_part u) (of_model n)) t.scope;
        gives = λ M sm. gives_join (d.gives M sm) (t.gives M sm);
      }

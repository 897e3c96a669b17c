-- The units of an accepted text's tree: what is behind a global declaration, and that it is in no body, so that its variables are global.
use Prim.Native.Nat.{ℕ, suc, ◌+◌, ◌/◌, ◌%◌, ◌≤◌, ◌<◌}
use native.Mathlib.Omega.{arith}
use native.Mathlib.Decide.{ℕ_discrete}
use mathlib.Core.Path.{◌≡◌, refl, sym as inv, ap, ◌∙◌}
use mathlib.Core.Logic.{inl}
use mathlib.Core.List.{List, [], ◌∷◌}
use lib.ListN.{length, get_or}
use borrow.Author.Tests.{ne_eqb, le-ltb}
use Rattle.base_codes.specs.Codes.{c_active, c_body, c_declared, c_end_body, c_global, c_name, c_parameter, c_proctype}
use Rattle.spec_grammar.specs.Tree.{declare, body, idle, once, times, mtypes, global, process, init, Model}
use Rattle.base_codes.specs.Items.{Item}
use Rattle.parse_code.specs.Code.{code}
use Rattle.table_entries.specs.Items.{AllKnown}
use Rattle.rule_sheets.specs.Homes.{inside_of, home_of}
use Rattle.link_phrases_proof.specs.Phrases.{At}
use Rattle.table_layout.specs.Access.{code_of, link_of}
use Rattle.read_passes.specs.Judging.{tables_text}
use Rattle.read_accepts_proof.specs.Meaning.{Accepts}
use Rattle.agree_eval.specs.Held.{Held}
use Rattle.keep_tables.specs.Facts.{homes, links_in, Facts}
use Rattle.keep_tables.proofs.Tables.{codes_at, said_at, text-held}
use Rattle.keep_tables.proofs.Known.{text_facts}
use Rattle.keep_tables.proofs.Homes.{home_is}
use Rattle.keep_tables.proofs.Variables.{slot_of_lem}
use Rattle.agree_control.proofs.Insides.{Inner}
use Rattle.agree_start.proofs.Values.{Clear, clear-code}
use Rattle.agree_start.proofs.Units.{first-model, past}
use Rattle.base_codes.specs.Items as items
use Rattle.keep_tables.specs.Held as tables

-- ---- items that begin and end no body
module _ (cs : List ℕ) where
  inside-same : (i c : ℕ) → get_or cs i 0 ≡ c → c < c_proctype → inside_of cs (suc i) ≡ inside_of cs i
  unfolding inside_of
  inside-same i c e h = rw (e, le-ltb c_parameter c (omega arith), ne_eqb c c_end_body (λ z. omega arith))

  -- in no body before them, in none among them and behind them
  pub inside-none : (l : List Item) (i j : ℕ) → Inner l → AllKnown l → At cs i l → inside_of cs i ≡ 0 → i ≤ j → j ≤ i + length l → inside_of cs j ≡ 0
  inside-none [] i j n k h e a b = ap (inside_of cs) (let z : j ≡ i = omega arith in z) ∙ e
  inside-none (x ∷ l) i j n k h e a b =
      go (ℕ_discrete j i) (λ d. inside-none l (suc i) j n.1 k.1 h.1 (inside-same i (items.code_of x) h.0 (n.0 k.0) ∙ e) d (omega arith))
    where
      go : Dec (j ≡ i) → (suc i ≤ j → inside_of cs j ≡ 0) → inside_of cs j ≡ 0
      go (yes z) r = ap (inside_of cs) z ∙ e
      go (no z) r = r (omega arith)

  -- behind the end of a body
  pub inside-ended : (e : ℕ) → get_or cs e 0 ≡ c_end_body → inside_of cs (suc e) ≡ 0
  unfolding inside_of
  inside-ended e c = rw c

  pub inside-first : inside_of cs 0 ≡ 0
  unfolding inside_of
  inside-first = refl

  home_none : (j : ℕ) → get_or cs j 0 ≡ c_declared → inside_of cs j ≡ 0 → home_of cs j ≡ 0
  unfolding home_of
  home_none j c e = rw c e

module _ (t : List ℕ) (a : Accepts t) where
  abbrev C : List ℕ
  C = codes_at t a

  abbrev S : List ℕ
  S = said_at t a

  H : tables.Held (tables_text t) C S (links_in C S)
  H = text-held t a

  K : Facts C S
  K = text_facts t a

  -- what is declared in no body is global
  pub global_flag : (j : ℕ) → j < length C → code_of (tables_text t) j ≡ c_declared → inside_of C j ≡ 0 → link_of (tables_text t) j / 8 % 2 ≡ 0
  global_flag j h c e =
      let d : get_or C j 0 ≡ c_declared = inv (H.codes j h) ∙ c in
      let z : get_or (homes C) j 0 ≡ 0 = home_is C K.formed K.few j h ∙ home_none C j d e in
      (slot_of_lem (tables_text t) C S H K j h (inl d)).flag ∙ rw z

  -- ---- the second item of the units that follow is no mark of a size or a value
  pub clear_next : (m : Model) (e : ℕ) → AllKnown (code m) → Held (tables_text t) e (code m) → e + length (code m) ≡ length (code a.tree) → Clear (tables_text t) e
  clear_next [] e k h n = λ x y. let z = past t a (e + 1) (omega arith) in omega arith
  clear_next (mtypes [] ∷ m) e k h n =
      clear-code (tables_text t) e (code_of (tables_text t) (suc e)) refl (first-model (tables_text t) m (suc e) k.1 h.2 (λ z. past t a (suc e) (omega arith)))
  clear_next (mtypes (w ∷ ws) ∷ m) e k h n = clear-code (tables_text t) e c_name h.2.0 (λ x y. omega arith)
  clear_next (global (declare c xs) ∷ m) e k h n = clear-code (tables_text t) e c_global h.2.0 (λ x y. omega arith)
  clear_next (process idle w gs b ∷ m) e k h n = clear-code (tables_text t) e c_proctype h.2.0 (λ x y. omega arith)
  clear_next (process once w gs b ∷ m) e k h n = clear-code (tables_text t) e c_active h.2.0 (λ x y. omega arith)
  clear_next (process (times c) w gs b ∷ m) e k h n = clear-code (tables_text t) e c_name h.2.0 (λ x y. omega arith)
  clear_next (init (body ds q) ∷ m) e k h n = clear-code (tables_text t) e c_body h.2.0 (λ x y. omega arith)

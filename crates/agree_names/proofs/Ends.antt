-- What stands where a variable ends: no size, no value and no field of another one. So what a declaration says can be read off the items behind it, up to the first that is none of these.
use Prim.Native.Nat.{ℕ, suc, ◌+◌, ◌≤◌, ◌<◌}
use native.Mathlib.Omega.{arith}
use native.Mathlib.Decide.{ℕ_discrete, dec_lt}
use mathlib.Core.Path.{◌≡◌, ap, ◌∙◌, subst}
use mathlib.Core.List.{List, [], ◌∷◌, ◌++◌}
use lib.ListN.{length, get_or, length-append}
use Rattle.base_codes.specs.Codes.{c_active, c_body, c_declared, c_end_body, c_end_option, c_field, c_global, c_init, c_local, c_mtypes, c_name, c_number, c_proctype, c_size}
use Rattle.spec_grammar.specs.Tree.{Model, sequence, Tree, Variable, variable, Declaration, declare, body, idle, once, times, mtypes, global, process, init}
use Rattle.base_codes.specs.Items.{Item, i_active, i_body, i_declared, i_end_body, i_global, i_init, i_local, i_mtypes, i_name, i_number, i_proctype, i_type}
use Rattle.parse_code.specs.Code.{each, code_tree, code_variable, code_declaration, code_body, code}
use Rattle.table_entries.specs.Items.{Known}
use Rattle.legal_terms.specs.Says.{item_at, Says}
use Rattle.legal_declarations.proofs.Items.{spoken, all_tree}
use Rattle.table_entries.proofs.Items.{type_code}
use Rattle.legal_declarations.proofs.Standing.{Lies, lies_front, lies_back, lies_all, known_at, code_is, spoken_at}
use Rattle.legal_declarations.proofs.Variables.{After}
use Rattle.legal_declarations.proofs.Parts.{beyond}

-- size (213), value, minus, named, channel, field (218)
abbrev pub SaysMore : ℕ → Type 0
SaysMore c = (c_size ≤ c) × (c ≤ c_field)

-- neither an item nor the one behind it
abbrev pub Free : List ℕ → ℕ → Type 0
Free cs e = (SaysMore (get_or cs e 0) → ⊥) × (SaysMore (get_or cs (suc e) 0) → ⊥)

module _ (m : Model) (cs vs : List ℕ) (S : Says m cs vs) where
  abbrev xs : List Item
  xs = code m

  -- no size (crate `legal_declarations`)
  pub free_after : (e : ℕ) → Free cs e → After m cs vs S e
  free_after e f = (λ z. f.0 (omega arith, omega arith), λ z. f.1 (omega arith, omega arith))

  below : (c d : ℕ) → c ≡ d → d ≤ c_declared → SaysMore c → ⊥
  below c d e n h = let a = h.0 in omega arith

  above : (c d : ℕ) → c ≡ d → c_mtypes ≤ d → SaysMore c → ⊥
  above c d e n h = let a = h.1 in omega arith

  type_free : (k t : ℕ) → k < length xs → item_at xs k ≡ i_type t → SaysMore (get_or cs k 0) → ⊥
  type_free k t h q =
      let a = (type_code (subst Known q (known_at m cs vs S k h))).1 in below (get_or cs k 0) (130 + t) (code_is m cs vs S k (i_type t) h q) (omega arith)

  pub free_variables : (us : List Variable) (k : ℕ) → Lies xs k (each code_variable us) → Free cs (k + length (each code_variable us)) → Free cs k
  free_variables [] k y f = subst (Free cs) (let z : k + 0 ≡ k = omega arith in z) f
  free_variables (variable w s v ∷ us) k y f =
      (below (get_or cs k 0) c_name (code_is m cs vs S k (i_name w) y.0 y.1) (omega arith), below (get_or cs (suc k) 0) c_declared (code_is m cs vs S (suc k) i_declared y.2.0 y.2.1) (omega arith))

  pub free_declarations : (ds : List Declaration) (k : ℕ) → Lies xs k (each (code_declaration i_local) ds) → Free cs (k + length (each (code_declaration i_local) ds)) → Free cs k
  free_declarations [] k y f = subst (Free cs) (let z : k + 0 ≡ k = omega arith in z) f
  free_declarations (declare t us ∷ ds) k y f =
      (type_free k t y.0 y.1, below (get_or cs (suc k) 0) c_local (code_is m cs vs S (suc k) i_local y.2.0 y.2.1) (omega arith))

  -- where the statements of a body begin
  pub free_body : (ds : List Declaration) (q : Tree sequence) (b : ℕ) → Lies xs b (code_body (body ds q)) → Free cs (b + length (code_body (body ds q)))
      → Free cs (suc b + length (each (code_declaration i_local) ds))
  free_body ds q b y free =
      let D = each (code_declaration i_local) ds in
      let T = code_tree q in
      let n : length (i_body ∷ D ++ T) ≡ suc (length D) + length T = length-append (i_body ∷ D) T in
      let n2 : length ((i_body ∷ D ++ T) ++ i_end_body ∷ []) ≡ length (i_body ∷ D ++ T) + 1 = length-append (i_body ∷ D ++ T) (i_end_body ∷ []) in
      let f = suc b + length D in
      let t = f + length T in
      let yt = lies_back xs (i_body ∷ D) T b f (omega arith) (lies_front xs b (i_body ∷ D ++ T) (i_end_body ∷ []) y) in
      let ye = lies_back xs (i_body ∷ D ++ T) (i_end_body ∷ []) b t (omega arith) y in
      let said : (j : ℕ) → f ≤ j → j < t → get_or cs j 0 ≤ c_end_option =
      λ j x z. spoken_at m cs vs S j (let a = ye.0 in omega arith) (lies_all xs spoken T f yt (all_tree q) j x z) in
      let ended = code_is m cs vs S t i_end_body ye.0 ye.1 in
      let past : SaysMore (get_or cs (suc t) 0) → ⊥ = subst (λ i. SaysMore (get_or cs i 0) → ⊥) (let z : b + length ((i_body ∷ D ++ T) ++ i_end_body ∷ []) ≡ suc t = omega arith in z) free.0 in
      (at f t said ended past f (omega arith) (omega arith) (dec_lt f t) (ℕ_discrete f t), at f t said ended past (suc f) (omega arith) (omega arith) (dec_lt (suc f) t) (ℕ_discrete (suc f) t))
    where
      at : (f t : ℕ) → ((j : ℕ) → f ≤ j → j < t → get_or cs j 0 ≤ c_end_option) → get_or cs t 0 ≡ c_end_body → (SaysMore (get_or cs (suc t) 0) → ⊥) → (j : ℕ) → f ≤ j → j ≤ suc t → Dec (j < t) → Dec (j ≡ t)
          → SaysMore (get_or cs j 0) → ⊥
      at f t said ended past j a b (yes z) d h = let c = said j a z in let g = h.0 in omega arith
      at f t said ended past j a b (no z) (yes d) h = let c : get_or cs j 0 ≡ c_end_body = ap (λ i. get_or cs i 0) d ∙ ended in let g = h.1 in omega arith
      at f t said ended past j a b (no z) (no d) h = past (subst (λ i. SaysMore (get_or cs i 0)) (let w : j ≡ suc t = omega arith in w) h)

  -- where a unit begins, or the model ends
  pub free_units : (n : Model) (k : ℕ) → Lies xs k (code n) → k + length (code n) ≡ length cs → Free cs k
  free_units [] k y e = (below (get_or cs k 0) 0 (beyond cs k (omega arith)) (omega arith), below (get_or cs (suc k) 0) 0 (beyond cs (suc k) (omega arith)) (omega arith))
  free_units (mtypes [] ∷ n) k y e = (above (get_or cs k 0) c_mtypes (code_is m cs vs S k i_mtypes y.0 y.1) (omega arith), (free_units n (suc k) y.2 (omega arith)).0)
  free_units (mtypes (w ∷ ws) ∷ n) k y e =
      (above (get_or cs k 0) c_mtypes (code_is m cs vs S k i_mtypes y.0 y.1) (omega arith), below (get_or cs (suc k) 0) c_name (code_is m cs vs S (suc k) (i_name w) y.2.0 y.2.1) (omega arith))
  free_units (global (declare t us) ∷ n) k y e =
      (type_free k t y.0 y.1, below (get_or cs (suc k) 0) c_global (code_is m cs vs S (suc k) i_global y.2.0 y.2.1) (omega arith))
  free_units (process idle w gs b ∷ n) k y e =
      (below (get_or cs k 0) c_name (code_is m cs vs S k (i_name w) y.0 y.1) (omega arith), above (get_or cs (suc k) 0) c_proctype (code_is m cs vs S (suc k) i_proctype y.2.0 y.2.1) (omega arith))
  free_units (process once w gs b ∷ n) k y e =
      (below (get_or cs k 0) c_name (code_is m cs vs S k (i_name w) y.0 y.1) (omega arith), above (get_or cs (suc k) 0) c_active (code_is m cs vs S (suc k) i_active y.2.0 y.2.1) (omega arith))
  free_units (process (times i) w gs b ∷ n) k y e =
      (below (get_or cs k 0) c_number (code_is m cs vs S k (i_number i) y.0 y.1) (omega arith), below (get_or cs (suc k) 0) c_name (code_is m cs vs S (suc k) (i_name w) y.2.0 y.2.1) (omega arith))
  free_units (init (body ds q) ∷ n) k y e =
      (above (get_or cs k 0) c_init (code_is m cs vs S k i_init y.0 y.1) (omega arith), above (get_or cs (suc k) 0) c_body (code_is m cs vs S (suc k) i_body y.2.0 y.2.1) (omega arith))

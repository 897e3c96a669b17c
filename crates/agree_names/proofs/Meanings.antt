-- What names stand for in the tree, said of the entries: senses (crate `spec_rules`) and meanings (`spec_machine`) are those of the first entry of a name. Nothing here knows of items.
use Prim.Native.Nat.{ℕ, zero, suc, ◌+◌, ◌≤◌, ◌<◌}
use native.Mathlib.Omega.{arith}
use mathlib.Core.Path.{◌≡◌, refl, sym as inv, ap, ◌∙◌, subst}
use mathlib.Core.Bool.{Bool, true, false, not}
use mathlib.Core.Option.{Option, none, some}
use mathlib.Core.List.{List, [], ◌∷◌, ◌++◌, map, append_assoc, append-nil}
use lib.ListN.{length, get_or, length-append, length-map, get_or-append}
use lib.Seq.{get_or-append-add}
use Rattle.base_bytes.specs.Choice.{pick, both}
use Rattle.base_bytes.specs.Lists.{same}
use Rattle.base_bytes.proofs.Tests.{true_false, both_true}
use Rattle.base_bytes.proofs.Lists.{same_eq}
use Rattle.spec_text.specs.Names.{pid}
use Rattle.spec_grammar.specs.Tree.{Name, Variable, variable, Declaration, declare, Group, group, body, Part, mtypes, global, process, init, Model}
use Rattle.spec_rules.specs.Senses as senses
use Rattle.spec_rules.specs.Senses.{Sense, constant, procedure, unknown, Scope, sense_in, is_unknown, fresh, sense_of}
use Rattle.spec_rules.specs.Units as units
use Rattle.legal_rules.specs.Units as rules
use Rattle.spec_rules.specs.Units.{of_message, of_part, of_model}
use Rattle.legal_rules.specs.Units.{global_lawful, variables, body_lawful, part_lawful, parts_lawful, joins, sized, valued}
use Rattle.spec_machine.specs.Sizes.{size_part}
use Rattle.spec_machine.specs.Names.{Var, of_variable, of_declaration, of_declarations, of_parameter, of_group, of_groups, variables_of, parameters_of, global_in, globals_of, message_in, messages_of, unit_at, proctype_from, Meaning, message, variable_from, message_from}
use Rattle.spec_machine.specs.Names as names
use Rattle.spec_machine.specs.Begins.{items_before}
use Rattle.agree_encode.specs.Encode.{head_in}
use Rattle.spec_machine.specs.Plain.{no_var}
use Rattle.spec_machine.specs.Places.{Bodied}
use Rattle.agree_encode.specs.Settings.{setting_from}
use Rattle.agree_encode.specs.Tabled.{offset_of, total_of}
use Rattle.agree_names.specs.Entries.{What, slot, number, proctype, Entry, what_in, slots, numbers, entries_in, entries_of, entries_to}
use Rattle.agree_names.proofs.Scopes.{or_else, what_append, known}
use Rattle.agree_names.proofs.Declared.{slots-append}

-- ---- senses: a scope and entries declare the same names, alike
abbrev pub kind_of : Sense → ℕ
kind_of (senses.variable c a) = 0
kind_of constant = 1
kind_of (procedure n) = 2
kind_of unknown = 3

abbrev pub kind_in : What → ℕ
kind_in (slot x o) = 0
kind_in (number n) = 1
kind_in (proctype i) = 2

abbrev pub kind_found : Option What → ℕ
kind_found none = 3
kind_found (some y) = kind_in y

abbrev pub Alike : Scope → List Entry → Type 0
Alike [] [] = Unit {0}
Alike [] (e ∷ l) = ⊥
Alike (d ∷ s) [] = ⊥
Alike (d ∷ s) (e ∷ l) = (d.name ≡ e.name) × (kind_of d.sense ≡ kind_in e.what) × Alike s l

pub alike_kind : (s : Scope) (l : List Entry) (w : Name) → Alike s l → kind_of (sense_in s w) ≡ kind_found (what_in l w)
unfolding sense_in what_in
alike_kind [] [] w a = refl
alike_kind [] (e ∷ l) w a = absurd a
alike_kind (d ∷ s) [] w a = absurd a
alike_kind (d ∷ s) (e ∷ l) w a =
    ap (λ (v : Name). kind_of (pick (same v w) d.sense (sense_in s w))) a.0 ∙ go (same e.name w) a.1 (alike_kind s l w a.2)
  where
    go : (b : Bool) → kind_of d.sense ≡ kind_in e.what → kind_of (sense_in s w) ≡ kind_found (what_in l w)
        → kind_of (pick b d.sense (sense_in s w)) ≡ kind_found (pick b (some e.what) (what_in l w))
    go true p r = p
    go false p r = r

alike-append : (s u : Scope) (l r : List Entry) → Alike s l → Alike u r → Alike (s ++ u) (l ++ r)
alike-append [] u [] r a b = b
alike-append [] u (e ∷ l) r a b = absurd a
alike-append (d ∷ s) u [] r a b = absurd a
alike-append (d ∷ s) u (e ∷ l) r a b = (a.0, a.1, alike-append s u l r a.2 b)

-- where no entry has the name
alike-none : (s : Scope) (l : List Entry) (r : Scope) (w : Name) → Alike s l → what_in l w ≡ none → sense_in (s ++ r) w ≡ sense_in r w
unfolding sense_in what_in
alike-none [] [] r w a h = refl
alike-none [] (e ∷ l) r w a h = absurd a
alike-none (d ∷ s) [] r w a h = absurd a
alike-none (d ∷ s) (e ∷ l) r w a h =
    ap (λ (v : Name). pick (same v w) d.sense (sense_in (s ++ r) w)) a.0 ∙ go (same e.name w) h (alike-none s l r w a.2)
  where
    go : (b : Bool) → pick b (some e.what) (what_in l w) ≡ none → (what_in l w ≡ none → sense_in (s ++ r) w ≡ sense_in r w) → pick b d.sense (sense_in (s ++ r) w) ≡ sense_in r w
    go true q k = absurd (true_false (ap known q))
    go false q k = k q

alike-variables : (k : ℕ) (us : List Variable) (o : ℕ) → Alike (map (units.sense_of_variable k) us) (slots o (map (of_variable k) us))
alike-variables k [] o = tt
alike-variables k (variable w s v ∷ us) o = (refl, refl, alike-variables k us (o + (of_variable k (variable w s v)).size))

alike_parameters : (k : ℕ) (ws : List Name) (o : ℕ) → Alike (map (units.sense_of_parameter k) ws) (slots o (map (of_parameter k) ws))
alike_parameters k [] o = tt
alike_parameters k (w ∷ ws) o = (refl, refl, alike_parameters k ws (o + 1))

alike_messages : (ws : List Name) (n : ℕ) → Alike (map of_message ws) (numbers n ws)
alike_messages [] n = tt
alike_messages (w ∷ ws) n = (refl, refl, alike_messages ws (suc n))

-- two lists of variables
alike-slots : (s u : Scope) (xs ys : List Var) (o : ℕ) → Alike s (slots o xs) → Alike u (slots (o + total_of xs) ys) → Alike (s ++ u) (slots o (xs ++ ys))
alike-slots s u xs ys o a b = subst (Alike (s ++ u)) (inv (slots-append xs ys o)) (alike-append s u (slots o xs) (slots (o + total_of xs) ys) a b)

alike-declarations : (ds : List Declaration) (o : ℕ) → Alike (rules.scope_of_declarations ds) (slots o (of_declarations ds))
alike-declarations [] o = tt
alike-declarations (declare k us ∷ ds) o =
    alike-slots (units.scope_of_declaration (declare k us)) (rules.scope_of_declarations ds) (of_declaration (declare k us)) (of_declarations ds) o (alike-variables k us o)
    (alike-declarations ds (o + total_of (of_declaration (declare k us))))

alike_groups : (gs : List Group) (o : ℕ) → Alike (units.scope_of_groups gs) (slots o (of_groups gs))
alike_groups [] o = tt
alike_groups (group k ws ∷ gs) o =
    alike-slots (units.scope_of_group (group k ws)) (units.scope_of_groups gs) (of_group (group k ws)) (of_groups gs) o (alike_parameters k ws o) (alike_groups gs (o + total_of (of_group (group k ws))))

alike-part : (u : Part) (s o n : ℕ) → Alike (of_part u) (entries_in s o n u)
alike-part (mtypes ws) s o n = alike_messages ws n
alike-part (global (declare k us)) s o n = alike-variables k us o
alike-part (process a w gs b) s o n = (refl, refl, tt)
alike-part (init b) s o n = tt

-- all of the model
pub alike-model : (m : Model) (s o n : ℕ) → Alike (of_model m) (entries_of s o n m)
alike-model [] s o n = tt
alike-model (u ∷ m) s o n =
    let R = entries_of (s + size_part u) (o + total_of (global_in u)) (n + length (message_in u)) m in
    alike-append (of_part u) (of_model m) (entries_in s o n u) R (alike-part u s o n) (alike-model m (s + size_part u) (o + total_of (global_in u)) (n + length (message_in u)))

-- what names stand for in the statements of unit k
pub alike_locals : (M g : Scope) (m : Model) (k : ℕ) → Bodied (unit_at m k) → Alike (setting_from M g m k).locals (slots 0 (variables_of (unit_at m k)))
alike_locals M g [] k b = absurd b
alike_locals M g (mtypes ws ∷ m) zero b = absurd b
alike_locals M g (global d ∷ m) zero b = absurd b
alike_locals M g (process a w gs (body ds q) ∷ m) zero b =
    alike-slots (units.scope_of_groups gs) (rules.scope_of_declarations ds) (of_groups gs) (of_declarations ds) 0 (alike_groups gs 0) (alike-declarations ds (0 + total_of (of_groups gs)))
alike_locals M g (init (body ds q) ∷ m) zero b = alike-declarations ds 0
alike_locals M g (u ∷ m) (suc k) b = alike_locals M (g ++ of_part u) m k b

alike_globals_from : (M g : Scope) (E : List Entry) (m : Model) (k s o n : ℕ) → Bodied (unit_at m k) → Alike g E → Alike (setting_from M g m k).globals (E ++ entries_to s o n m k)
alike_globals_from M g E [] k s o n b a = absurd b
alike_globals_from M g E (mtypes ws ∷ m) zero s o n b a = absurd b
alike_globals_from M g E (global d ∷ m) zero s o n b a = absurd b
alike_globals_from M g E (process x w gs (body ds q) ∷ m) zero s o n b a =
    let u = process x w gs (body ds q) in alike-append g (of_part u) E (entries_in s o n u) a (alike-part u s o n)
alike_globals_from M g E (init (body ds q) ∷ m) zero s o n b a = subst (Alike g) (inv (append-nil E)) a
alike_globals_from M g E (u ∷ m) (suc k) s o n b a =
    let r = s + size_part u in
    let p = o + total_of (global_in u) in
    let q = n + length (message_in u) in
    subst (Alike (setting_from M (g ++ of_part u) m k).globals) (append_assoc E (entries_in s o n u) (entries_to r p q m k))
    (alike_globals_from M (g ++ of_part u) (E ++ entries_in s o n u) m k r p q b (alike-append g (of_part u) E (entries_in s o n u) a (alike-part u s o n)))

pub alike_globals : (M : Scope) (m : Model) (k : ℕ) → Bodied (unit_at m k) → Alike (setting_from M [] m k).globals (entries_to 0 0 0 m k)
alike_globals M m k b = alike_globals_from M [] [] m k 0 0 0 b tt

-- ---- meanings of variables: the first of a name, which is variable i of the list, and how many numbers stand before its own
pub data Meant (f : ℕ → Var → Meaning) (b o : ℕ) (xs : List Var) (x : Var) (p : ℕ) (y : Meaning) : Type 0 where
  at : (i : ℕ) → i < length xs → get_or xs i no_var ≡ x → p ≡ o + offset_of xs i → y ≡ f (b + i) x → Meant f b o xs x p y

abbrev pub Variables : (ℕ → Var → Meaning) → ℕ → ℕ → List Var → Meaning → Meaning → Option What → Type 0
Variables f b o xs d y none = y ≡ d
Variables f b o xs d y (some (slot x p)) = Meant f b o xs x p y
Variables f b o xs d y (some (number i)) = ⊥
Variables f b o xs d y (some (proctype c)) = ⊥

pub variables-mean : (f : ℕ → Var → Meaning) (b o : ℕ) (xs : List Var) (w : Name) (d : Meaning) → Variables f b o xs d (variable_from f b xs w d) (what_in (slots o xs) w)
unfolding what_in variable_from
variables-mean f b o [] w d = refl
variables-mean f b o (x ∷ xs) w d = go (same x.name w) (what_in (slots (o + x.size) xs) w) (variables-mean f (suc b) (o + x.size) xs w d)
  where
    go : (c : Bool) (y : Option What) → Variables f (suc b) (o + x.size) xs d (variable_from f (suc b) xs w d) y
        → Variables f b o (x ∷ xs) d (pick c (f b x) (variable_from f (suc b) xs w d)) (pick c (some (slot x o)) y)
    go true y r = at 0 (omega arith) refl (omega arith) (ap (λ i. f i x) (let z : b ≡ b + 0 = omega arith in z))
    go false none r = r
    go false (some (slot v p)) (at i l g e q) = at (suc i) (omega arith) g (omega arith) (q ∙ ap (λ j. f j v) (let z : suc b + i ≡ b + suc i = omega arith in z))
    go false (some (number i)) r = r
    go false (some (proctype c)) r = r

-- ---- of globals and mtype names
variable_append : (f : ℕ → Var → Meaning) (b : ℕ) (xs ys : List Var) (w : Name) (d : Meaning)
    → variable_from f b (xs ++ ys) w d ≡ variable_from f b xs w (variable_from f (b + length xs) ys w d)
unfolding variable_from
variable_append f b [] ys w d = ap (λ i. variable_from f i ys w d) (let z : b ≡ b + 0 = omega arith in z)
variable_append f b (x ∷ xs) ys w d =
    ap (pick (same x.name w) (f b x))
    (variable_append f (suc b) xs ys w d ∙ ap (λ i. variable_from f (suc b) xs w (variable_from f i ys w d)) (let z : suc b + length xs ≡ b + suc (length xs) = omega arith in z))

offset_front : (xs ys : List Var) (i : ℕ) → i < length xs → offset_of (xs ++ ys) i ≡ offset_of xs i
offset_front [] ys i h = absurd (omega arith)
offset_front (x ∷ xs) ys zero h = refl
offset_front (x ∷ xs) ys (suc i) h = ap (λ n. x.size + n) (offset_front xs ys i (omega arith))

offset_back : (xs ys : List Var) (i j : ℕ) → j ≡ length xs + i → offset_of (xs ++ ys) j ≡ total_of xs + offset_of ys i
offset_back [] ys i j e = let z : j ≡ i = omega arith in let q = ap (offset_of ys) z in omega arith
offset_back (x ∷ xs) ys i zero e = absurd (omega arith)
offset_back (x ∷ xs) ys i (suc j) e = let r = offset_back xs ys i j (omega arith) in omega arith

-- y is the meaning among l mtype names, behind n of them and before the names vs
abbrev Messages : ℕ → ℕ → List Name → Name → Meaning → Option What → Type 0
Messages n l vs w y none = y ≡ message_from (suc (n + l)) vs w
Messages n l vs w y (some (slot x p)) = ⊥
Messages n l vs w y (some (number i)) = (y ≡ message i) × (i ≤ n + l)
Messages n l vs w y (some (proctype c)) = ⊥

messages_mean : (n : ℕ) (ws vs : List Name) (w : Name) → Messages n (length ws) vs w (message_from (suc n) (ws ++ vs) w) (what_in (numbers n ws) w)
unfolding what_in message_from
messages_mean n [] vs w = ap (λ i. message_from (suc i) vs w) (let z : n ≡ n + 0 = omega arith in z)
messages_mean n (v ∷ ws) vs w = go (same v w) (what_in (numbers (suc n) ws) w) (messages_mean (suc n) ws vs w)
  where
    go : (c : Bool) (y : Option What) → Messages (suc n) (length ws) vs w (message_from (suc (suc n)) (ws ++ vs) w) y
        → Messages n (suc (length ws)) vs w (pick c (message (suc n)) (message_from (suc (suc n)) (ws ++ vs) w)) (pick c (some (number (suc n))) y)
    go true y r = (refl, omega arith)
    go false none r = r ∙ ap (λ i. message_from (suc i) vs w) (let z : suc n + length ws ≡ n + suc (length ws) = omega arith in z)
    go false (some (slot x p)) r = r
    go false (some (number i)) r = let r1 = r.1 in (r.0, omega arith)
    go false (some (proctype c)) r = r

-- ---- a name that is known is not declared again
known-append : (g l : Scope) (w : Name) → is_unknown (sense_in g w) ≡ false → is_unknown (sense_in (g ++ l) w) ≡ false
unfolding sense_in
known-append [] l w e = absurd (true_false e)
known-append (d ∷ g) l w e = go (same d.name w) e (known-append g l w)
  where
    go : (b : Bool) → is_unknown (pick b d.sense (sense_in g w)) ≡ false → (is_unknown (sense_in g w) ≡ false → is_unknown (sense_in (g ++ l) w) ≡ false)
        → is_unknown (pick b d.sense (sense_in (g ++ l) w)) ≡ false
    go true e r = e
    go false e r = r e

fresh_other : (g : Scope) (v w : Name) → fresh g v ≡ true → is_unknown (sense_in g w) ≡ false → same v w ≡ false
unfolding fresh
fresh_other g v w f k = go (same v w) refl
  where
    go : (b : Bool) → same v w ≡ b → b ≡ false
    go true e = absurd (true_false (inv (both_true (not (same v pid)) (is_unknown (sense_in g v)) f).1 ∙ ap (λ (x : Name). is_unknown (sense_in g x)) (same_eq v w e) ∙ k))
    go false e = refl

variables_other : (k : ℕ) (us : List Variable) (g : Scope) (f : ℕ → Var → Meaning) (b : ℕ) (w : Name) (d : Meaning) → variables (λ l x. global_lawful l k x) k g us ≡ true
    → is_unknown (sense_in g w) ≡ false → variable_from f b (map (of_variable k) us) w d ≡ d
unfolding variables variable_from
variables_other k [] g f b w d h e = refl
variables_other k (variable v s x ∷ us) g f b w d h e =
    let p = both_true (global_lawful g k (variable v s x)) (variables (λ l x. global_lawful l k x) k (g ++ units.sense_of_variable k (variable v s x) ∷ []) us) h in
    let r = (both_true (fresh g v) (both (sized s) (valued (sense_of [] (g ++ units.sense_of_variable k (variable v s x) ∷ [])) x)) p.0).0 in
    ap (λ c. pick c (f b (of_variable k (variable v s x))) (variable_from f (suc b) (map (of_variable k) us) w d)) (fresh_other g v w r e)
    ∙ variables_other k us (g ++ units.sense_of_variable k (variable v s x) ∷ []) f (suc b) w d p.1 (known-append g (units.sense_of_variable k (variable v s x) ∷ []) w e)

globals_other : (M g : Scope) (m : Model) (f : ℕ → Var → Meaning) (b : ℕ) (w : Name) (d : Meaning) → parts_lawful M g m ≡ true → is_unknown (sense_in g w) ≡ false
    → variable_from f b (globals_of m) w d ≡ d
unfolding parts_lawful variable_from
globals_other M g [] f b w d h e = refl
globals_other M g (mtypes ws ∷ m) f b w d h e =
    globals_other M (g ++ of_part (mtypes ws)) m f b w d (both_true (part_lawful M g (mtypes ws)) (parts_lawful M (g ++ of_part (mtypes ws)) m) h).1 (known-append g (of_part (mtypes ws)) w e)
globals_other M g (global (declare k us) ∷ m) f b w d h e =
    let u = global (declare k us) in
    let p = both_true (part_lawful M g u) (parts_lawful M (g ++ of_part u) m) h in
    let X = map (of_variable k) us in
    variable_append f b X (globals_of m) w d ∙ variables_other k us g f b w (variable_from f (b + length X) (globals_of m) w d) p.0 e
    ∙ globals_other M (g ++ of_part u) m f (b + length X) w d p.1 (known-append g (of_part u) w e)
globals_other M g (process a v gs x ∷ m) f b w d h e =
    let u = process a v gs x in
    globals_other M (g ++ of_part u) m f b w d (both_true (part_lawful M g u) (parts_lawful M (g ++ of_part u) m) h).1 (known-append g (of_part u) w e)
globals_other M g (init x ∷ m) f b w d h e =
    let u = init x in
    globals_other M (g ++ of_part u) m f b w d (both_true (part_lawful M g u) (parts_lawful M (g ++ of_part u) m) h).1 (known-append g (of_part u) w e)

-- ---- what an entry of the globals' space means: y among the variables G with d behind them, z among the mtype names, of which n are before and l here
abbrev pub Globals : (ℕ → Var → Meaning) → ℕ → ℕ → List Var → Meaning → Meaning → ℕ → ℕ → Meaning → Option What → Type 0
Globals f b o G d y n l z none = Unit {0}
Globals f b o G d y n l z (some (slot x p)) = Meant f b o G x p y
Globals f b o G d y n l z (some (number i)) = (y ≡ d) × (z ≡ message i) × (i ≤ n + l)
Globals f b o G d y n l z (some (proctype c)) = Unit {0}

found_known : (s : Sense) (y : What) → kind_of s ≡ kind_in y → is_unknown s ≡ false
found_known (senses.variable c a) y e = refl
found_known constant y e = refl
found_known (procedure n) y e = refl
found_known unknown (slot x o) e = absurd (omega arith)
found_known unknown (number n) e = absurd (omega arith)
found_known unknown (proctype c) e = absurd (omega arith)

-- an mtype name of this unit is known behind it
message-known : (g : Scope) (E : List Entry) (ws : List Name) (n i : ℕ) (w : Name) → Alike g E → what_in (numbers n ws) w ≡ some (number i) → is_unknown (sense_in (g ++ map of_message ws) w) ≡ false
message-known g E ws n i w a e =
    go (what_in E w) (alike_kind (g ++ map of_message ws) (E ++ numbers n ws) w (alike-append g (map of_message ws) E (numbers n ws) a (alike_messages ws n))
    ∙ ap kind_found (what_append E (numbers n ws) w ∙ ap (or_else (what_in E w)) e))
  where
    go : (y : Option What) → kind_of (sense_in (g ++ map of_message ws) w) ≡ kind_found (or_else y (some (number i))) → is_unknown (sense_in (g ++ map of_message ws) w) ≡ false
    go none q = found_known (sense_in (g ++ map of_message ws) w) (number i) q
    go (some x) q = found_known (sense_in (g ++ map of_message ws) w) x q

module _ (M : Scope) (f : ℕ → Var → Meaning) (w : Name) (d : Meaning) where
  abbrev G : ℕ → ℕ → ℕ → Model → Option What → Type 0
  G b o n m y = Globals f b o (globals_of m) d (variable_from f b (globals_of m) w d) n (length (messages_of m)) (message_from (suc n) (messages_of m) w) y

  -- behind nothing
  plus_none : (b o n : ℕ) (m : Model) (y : Option What) → G b (o + 0) (n + 0) m y → G b o n m y
  plus_none b o n m y r = subst (λ i. G b i n m y) (let z : o + 0 ≡ o = omega arith in z) (subst (λ i. G b (o + 0) i m y) (let z : n + 0 ≡ n = omega arith in z) r)

  pub globals_mean : (g : Scope) (E : List Entry) (s b o n : ℕ) (m : Model) → Alike g E → parts_lawful M g m ≡ true → G b o n m (what_in (entries_of s o n m) w)
  unfolding parts_lawful what_in
  globals_mean g E s b o n [] a h = tt
  globals_mean g E s b o n (mtypes ws ∷ m) a h =
      let u = mtypes ws in
      let p = (both_true (part_lawful M g u) (parts_lawful M (g ++ of_part u) m) h).1 in
      let r = s + size_part u in
      let R = entries_of r (o + 0) (n + length ws) m in
      subst (G b o n (u ∷ m)) (inv (what_append (numbers n ws) R w))
      (go (what_in (numbers n ws) w) (what_in R w) (messages_mean n ws (messages_of m) w) (λ i e. globals_other M (g ++ of_part u) m f b w d p (message-known g E ws n i w a e)) refl
      (globals_mean (g ++ of_part u) (E ++ numbers n ws) r b (o + 0) (n + length ws) m (alike-append g (of_part u) E (numbers n ws) a (alike-part u s o n)) p))
    where
      go : (x y : Option What) → Messages n (length ws) (messages_of m) w (message_from (suc n) (ws ++ messages_of m) w) x
          → ((i : ℕ) → what_in (numbers n ws) w ≡ some (number i) → variable_from f b (globals_of m) w d ≡ d) → what_in (numbers n ws) w ≡ x
          → G b (o + 0) (n + length ws) m y → G b o n (mtypes ws ∷ m) (or_else x y)
      go none none s k q r = tt
      go none (some (slot v p)) s k q (at i l t e c) = at i l t (omega arith) c
      go none (some (number i)) s k q r = let z = length-append ws (messages_of m) in let r2 = r.2 in (r.0, s ∙ r.1, omega arith)
      go none (some (proctype c)) s k q r = tt
      go (some (slot v p)) y s k q r = absurd s
      go (some (number i)) y s k q r = let z = length-append ws (messages_of m) in let s1 = s.1 in (k i q, s.0, omega arith)
      go (some (proctype c)) y s k q r = tt
  globals_mean g E s b o n (global (declare k us) ∷ m) a h =
      let u = global (declare k us) in
      let p = (both_true (part_lawful M g u) (parts_lawful M (g ++ of_part u) m) h).1 in
      let X = map (of_variable k) us in
      let r = s + size_part u in
      let R = entries_of r (o + total_of X) (n + 0) m in
      subst (G b o n (u ∷ m)) (inv (what_append (slots o X) R w))
      (go (what_in (slots o X) w) (what_in R w) (variables-mean f b o X w (variable_from f (b + length X) (globals_of m) w d)) (variable_append f b X (globals_of m) w d)
      (globals_mean (g ++ of_part u) (E ++ slots o X) r (b + length X) (o + total_of X) (n + 0) m (alike-append g (of_part u) E (slots o X) a (alike-part u s o n)) p))
    where
      go : (x y : Option What)
          → Variables f b o (map (of_variable k) us) (variable_from f (b + length (map (of_variable k) us)) (globals_of m) w d)
          (variable_from f b (map (of_variable k) us) w (variable_from f (b + length (map (of_variable k) us)) (globals_of m) w d)) x
          → variable_from f b (map (of_variable k) us ++ globals_of m) w d ≡ variable_from f b (map (of_variable k) us) w (variable_from f (b + length (map (of_variable k) us)) (globals_of m) w d)
          → G (b + length (map (of_variable k) us)) (o + total_of (map (of_variable k) us)) (n + 0) m y → G b o n (global (declare k us) ∷ m) (or_else x y)
      go none none s c r = tt
      go none (some (slot v p)) s c (at i l t e q) =
          let X = map (of_variable k) us in
          let z = length-append X (globals_of m) in
          let j = offset_back X (globals_of m) i (length X + i) refl in
          at (length X + i) (omega arith) (get_or-append-add X (globals_of m) i no_var ∙ t) (omega arith) (c ∙ s ∙ q ∙ ap (λ j. f j v) (let z : b + length X + i ≡ b + (length X + i) = omega arith in z))
      go none (some (number i)) s c r =
          let r2 = r.2 in (c ∙ s ∙ r.0, ap (λ i. message_from (suc i) (messages_of m) w) (let z : n ≡ n + 0 = omega arith in z) ∙ r.1, omega arith)
      go none (some (proctype i)) s c r = tt
      go (some (slot v p)) y (at i l t e q) c r =
          let X = map (of_variable k) us in
          let z = length-append X (globals_of m) in
          let j = offset_front X (globals_of m) i l in
          at i (omega arith) (get_or-append X (globals_of m) no_var i l ∙ t) (omega arith) (c ∙ q)
      go (some (number i)) y s c r = absurd s
      go (some (proctype i)) y s c r = tt
  globals_mean g E s b o n (process x v gs y ∷ m) a h =
      let u = process x v gs y in
      let p = (both_true (part_lawful M g u) (parts_lawful M (g ++ of_part u) m) h).1 in
      let r = s + size_part u in
      go (same v w) (what_in (entries_of r (o + 0) (n + 0) m) w)
      (globals_mean (g ++ of_part u) (E ++ entries_in s o n u) r b (o + 0) (n + 0) m (alike-append g (of_part u) E (entries_in s o n u) a (alike-part u s o n)) p)
    where
      go : (c : Bool) (z : Option What) → G b (o + 0) (n + 0) m z → G b o n m (pick c (some (proctype (head_in (process x v gs y) s))) z)
      go true z r = tt
      go false z r = plus_none b o n m z r
  globals_mean g E s b o n (init y ∷ m) a h =
      let u = init y in
      let p = (both_true (part_lawful M g u) (parts_lawful M (g ++ of_part u) m) h).1 in
      let r = s + size_part u in
      plus_none b o n m (what_in (entries_of r (o + 0) (n + 0) m) w)
      (globals_mean (g ++ of_part u) (E ++ []) r b (o + 0) (n + 0) m (alike-append g (of_part u) E [] a tt) p)

-- what is declared so far is declared in the whole
pub so_far : (s o n : ℕ) (m : Model) (k : ℕ) (w : Name) (y : What) → what_in (entries_to s o n m k) w ≡ some y → what_in (entries_of s o n m) w ≡ some y
unfolding what_in
so_far s o n [] k w y e = absurd (true_false (inv (ap known e)))
so_far s o n (u ∷ m) zero w y e =
    let R = entries_of (s + size_part u) (o + total_of (global_in u)) (n + length (message_in u)) m in what_append (entries_in s o n u) R w ∙ ap (λ x. or_else x (what_in R w)) e
so_far s o n (u ∷ m) (suc k) w y e =
    let r = s + size_part u in
    let p = o + total_of (global_in u) in
    let q = n + length (message_in u) in
    what_append (entries_in s o n u) (entries_of r p q m) w
    ∙ go (what_in (entries_in s o n u) w) (what_in (entries_to r p q m k) w) (what_in (entries_of r p q m) w) (inv (what_append (entries_in s o n u) (entries_to r p q m k) w) ∙ e) (so_far r p q m k w y)
  where
    go : (x a b : Option What) → or_else x a ≡ some y → (a ≡ some y → b ≡ some y) → or_else x b ≡ some y
    go none a b e r = r e
    go (some x) a b e r = e

-- ---- proctypes: the first of a name is unit q
-- what an entry of the list says is no proctype
slots-none : (o : ℕ) (xs : List Var) (w : Name) (c : ℕ) → what_in (slots o xs) w ≡ some (proctype c) → ⊥
slots-none o xs w c e = subst (Variables names.global 0 o xs names.unknown (variable_from names.global 0 xs w names.unknown)) e (variables-mean names.global 0 o xs w names.unknown)

numbers-none : (n : ℕ) (ws : List Name) (w : Name) (c : ℕ) → what_in (numbers n ws) w ≡ some (proctype c) → ⊥
numbers-none n ws w c e = subst (Messages n (length ws) [] w (message_from (suc n) (ws ++ []) w)) e (messages_mean n ws [] w)

-- so it is of the rest
later_found : (l r : List Entry) (w : Name) (c : ℕ) → (what_in l w ≡ some (proctype c) → ⊥) → what_in (l ++ r) w ≡ some (proctype c) → (what_in l w ≡ none) × (what_in r w ≡ some (proctype c))
later_found l r w c n e = go (what_in l w) refl (inv (what_append l r w) ∙ e)
  where
    go : (x : Option What) → what_in l w ≡ x → or_else x (what_in r w) ≡ some (proctype c) → (what_in l w ≡ none) × (what_in r w ≡ some (proctype c))
    go none q e = (q, e)
    go (some x) q e = absurd (n (q ∙ e))

pub record Proctype (m : Model) (k s : ℕ) (w : Name) (d : ℕ) : Type 0 where
  pub unit : ℕ
  pub found : proctype_from k m w ≡ k + unit
  pub head : d ≡ head_in (unit_at m unit) (s + items_before m unit)
  pub bodied : Bodied (unit_at m unit)
  -- it has as many parameters
  pub sense : sense_in (of_model m) w ≡ procedure (length (parameters_of (unit_at m unit)))
  -- "`_pid` is neither declared nor stored to"
  pub other : same w pid ≡ false

proctype-later : (u : Part) (m : Model) (k s : ℕ) (w : Name) (d : ℕ) → proctype_from k (u ∷ m) w ≡ proctype_from (suc k) m w → sense_in (of_model (u ∷ m)) w ≡ sense_in (of_model m) w
    → Proctype m (suc k) (s + size_part u) w d → Proctype (u ∷ m) k s w d
unfolding items_before
proctype-later u m k s w d e q r =
    record {
      unit = suc r.unit;
      found = e ∙ r.found ∙ (let z : suc k + r.unit ≡ k + suc r.unit = omega arith in z);
      head = r.head ∙ ap (head_in (unit_at m r.unit)) (let z : s + size_part u + items_before m r.unit ≡ s + (size_part u + items_before m r.unit) = omega arith in z);
      bodied = r.bodied;
      sense = q ∙ r.sense;
      other = r.other;
    }

groups_arity : (gs : List Group) → length (units.scope_of_groups gs) ≡ length (of_groups gs)
groups_arity [] = refl
groups_arity (group k ws ∷ gs) =
    let a = length-append (units.scope_of_group (group k ws)) (units.scope_of_groups gs) in
    let b = length-append (of_group (group k ws)) (of_groups gs) in
    let c : length (units.scope_of_group (group k ws)) ≡ length ws = length-map ws (units.sense_of_parameter k) in
    let d : length (of_group (group k ws)) ≡ length ws = length-map ws (of_parameter k) in
    let r = groups_arity gs in
    omega arith

begun : Option What → ℕ
begun none = 0
begun (some (slot x o)) = 0
begun (some (number n)) = 0
begun (some (proctype c)) = c

fresh-named : (g : Scope) (v : Name) → fresh g v ≡ true → same v pid ≡ false
unfolding fresh
fresh-named g v f = go (same v pid) (both_true (not (same v pid)) (is_unknown (sense_in g v)) f).0
  where
    go : (b : Bool) → not b ≡ true → b ≡ false
    go true e = absurd (true_false (inv e))
    go false e = refl

pub proctype-mean : (M g : Scope) (m : Model) (k s o n : ℕ) (w : Name) (d : ℕ) → parts_lawful M g m ≡ true → what_in (entries_of s o n m) w ≡ some (proctype d) → Proctype m k s w d
unfolding what_in sense_in parts_lawful proctype_from items_before begun
proctype-mean M g [] k s o n w d h e = absurd (true_false (inv (ap known e)))
proctype-mean M g (mtypes ws ∷ m) k s o n w d h e =
    let u = mtypes ws in
    let r = s + size_part u in
    let c = later_found (numbers n ws) (entries_of r (o + 0) (n + length ws) m) w d (numbers-none n ws w d) e in
    proctype-later u m k s w d refl (alike-none (of_part u) (numbers n ws) (of_model m) w (alike-part u s o n) c.0)
    (proctype-mean M (g ++ of_part u) m (suc k) r (o + 0) (n + length ws) w d (both_true (part_lawful M g u) (parts_lawful M (g ++ of_part u) m) h).1 c.1)
proctype-mean M g (global (declare t us) ∷ m) k s o n w d h e =
    let u = global (declare t us) in
    let X = of_declaration (declare t us) in
    let r = s + size_part u in
    let c = later_found (slots o X) (entries_of r (o + total_of X) (n + 0) m) w d (slots-none o X w d) e in
    proctype-later u m k s w d refl (alike-none (of_part u) (slots o X) (of_model m) w (alike-part u s o n) c.0)
    (proctype-mean M (g ++ of_part u) m (suc k) r (o + total_of X) (n + 0) w d (both_true (part_lawful M g u) (parts_lawful M (g ++ of_part u) m) h).1 c.1)
proctype-mean M g (process a v gs b ∷ m) k s o n w d h e =
    let u = process a v gs b in
    let p = both_true (part_lawful M g u) (parts_lawful M (g ++ of_part u) m) h in
    let r = s + size_part u in
    go (same v w) (what_in (entries_of r (o + 0) (n + 0) m) w) refl e (both_true (fresh g v) (both (joins [] (units.scope_of_groups gs)) (body_lawful M (g ++ of_part u) (units.scope_of_groups gs) b)) p.0).0
    (proctype-mean M (g ++ of_part u) m (suc k) r (o + 0) (n + 0) w d p.1)
  where
    own : Sense
    own = procedure (length (units.scope_of_groups gs))

    go : (c : Bool) (z : Option What) → same v w ≡ c → pick c (some (proctype (head_in (process a v gs b) s))) z ≡ some (proctype d) → fresh g v ≡ true
        → (z ≡ some (proctype d) → Proctype m (suc k) (s + size_part (process a v gs b)) w d) → Proctype (process a v gs b ∷ m) k s w d
    go true z q e f r =
        record {
          unit = 0;
          found = ap (λ c. pick c k (proctype_from (suc k) m w)) q ∙ (let z : k ≡ k + 0 = omega arith in z);
          head = inv (ap begun e) ∙ ap (head_in (process a v gs b)) (let z : s ≡ s + 0 = omega arith in z);
          bodied = tt;
          sense = ap (λ c. pick c own (sense_in (of_model m) w)) q ∙ ap procedure (groups_arity gs);
          other = ap (λ (x : Name). same x pid) (inv (same_eq v w q)) ∙ fresh-named g v f;
        }
    go false z q e f r =
        proctype-later (process a v gs b) m k s w d (ap (λ c. pick c k (proctype_from (suc k) m w)) q) (ap (λ c. pick c own (sense_in (of_model m) w)) q) (r e)
proctype-mean M g (init b ∷ m) k s o n w d h e =
    let u = init b in
    proctype-later u m k s w d refl refl
    (proctype-mean M (g ++ of_part u) m (suc k) (s + size_part u) (o + 0) (n + 0) w d (both_true (part_lawful M g u) (parts_lawful M (g ++ of_part u) m) h).1 e)

-- WHAT STORES STANDS BEHIND A REFERENCE, in the items of every model.
use Prim.Native.Nat.{ℕ, suc, ◌+◌, ◌≤◌, ◌<◌}
use mathlib.Core.Path.{◌≡◌, refl, sym, ap, subst, ◌∙◌}
use mathlib.Core.Bool.{Bool, true, false}
use mathlib.Core.List.{List, [], ◌∷◌, ◌++◌, append_assoc}
use mathlib.Core.Logic.{◌⊎◌, inl, inr}
use native.Mathlib.Omega.{arith}
use native.Mathlib.Decide.{ℕ_discrete, dec_lt}
use lib.ListN.{length, get_or, length-append}
use lib.Dec.{eqb, leb}
use borrow.Author.Tests.{eqb-true, leb-true}
use Rattle.base_codes.specs.Codes.{c_argument, c_decrement, c_increment, c_into, c_target}
use Rattle.base_bytes.specs.Choice.{either}
use Rattle.base_bytes.proofs.Tests.{both_true, either_true, true_false}
use Rattle.base_kinds.specs.Kinds.{Token}
use Rattle.spec_grammar.specs.Tree.{Ref, Shape, Exp, Expr, Received, Sort, sequence, Tree, Name, Value, Variable, Declaration, Group, Body, body, Activity, idle, once, times, Part, Model}
use Rattle.spec_grammar.specs.Grammar.{IsType, is_bit, is_bool, is_byte, is_mtype, is_pid, is_chan, is_short, is_int, AnExpression, AReceived, r_into, r_eval, r_number, r_true, r_false, D, s_leaf, s_express, s_assign, s_increment, s_decrement, s_send, s_receive, s_assert, s_print_alone, s_print, s_skip, s_goto, s_break, s_timeout, s_else, s_run, s_set_run, s_if, s_do, s_bare, s_label, q_last, q_then, o_last, o_also, AName, AType, a_type, AValue, v_number, v_minus, v_true, v_false, v_name, AVariable, x_bare, x_set, x_array, x_array_set, x_channel, ADeclaration, declaration, AGroup, a_group, Items, statements, declared, ABody, a_body, AUnit, u_mtypes, u_global, u_process, u_init, Gram, g_last, g_more}
use Rattle.base_codes.specs.Items.{Item, code_of, i_active, i_active_many, i_argument, i_assert, i_assign, i_body, i_break, i_channel, i_constant, i_declared, i_decrement, i_do, i_else, i_end, i_end_body, i_end_option, i_equal, i_express, i_false, i_fi, i_field, i_global, i_goto, i_group, i_if, i_increment, i_init, i_into, i_label, i_local, i_message, i_minus, i_mtypes, i_name, i_named, i_number, i_od, i_option, i_parameter, i_proctype, i_receive, i_run, i_send, i_set_run, i_size, i_skip, i_target, i_text, i_timeout, i_true, i_type}
use Rattle.parse_code.specs.Code.{each, code_exp, code_argument, code_received, code_tree, code_field, code_value, code_variable, code_declaration, code_parameter, code_group, code_body, code_activity, code_message, code_part, code}
use Rattle.base_codes.specs.Items as items
use Rattle.base_codes.specs.Sets.{within, is_part}
use Rattle.link_phrases_proof.specs.Phrases.{Proper, At}
use Rattle.link_phrases_proof.proofs.Inside.{all_inside, phrase_inside, mark-outside}
use Rattle.link_phrases_proof.proofs.Proper.{grammar_proper}
use Rattle.link_phrases_proof.proofs.Starts.{at_front, at_back}
use Rattle.keep_forms.specs.Aims.{aims, Behind}
use Rattle.keep_forms.proofs.Statements.{All, listed-all, maybe_all, message-all}

-- ---- items of which each that stores stands behind a reference
data Aimed : List Item → Type 0 where
  none : Aimed []
  other : (i : Item) (l : List Item) → aims (code_of i) ≡ false → Aimed l → Aimed (i ∷ l)
  stored : (r : Ref) (i : Item) (l : List Item) → Proper r → Aimed l → Aimed (code_exp r ++ i ∷ l)

join : (x y : List Item) → Aimed x → Aimed y → Aimed (x ++ y)
join _ y none b = b
join _ y (other i l e a) b = other i (l ++ y) e (join l y a b)
join _ y (stored r i l p a) b = subst Aimed (sym (append_assoc (code_exp r) (i ∷ l) y)) (stored r i (l ++ y) p (join l y a b))

-- one mark that does not store
mark : (i : Item) → aims (code_of i) ≡ false → Aimed (i ∷ [])
mark i e = other i [] e none

each-aimed : {A : Type 0} (f : A → List Item) (l : List A) → All (λ a. Aimed (f a)) l → Aimed (each f l)
each-aimed f [] h = none
each-aimed f (a ∷ l) h = join (f a) (each f l) h.0 (each-aimed f l h.1)

-- ---- expressions
aims_most : (c : ℕ) → aims c ≡ true → c_argument ≤ c
aims_most c e = go (either_true (eqb c c_into) (either (eqb c c_target) (within c_increment c_decrement c)) e)
  where
    more : (eqb c c_target ≡ true) ⊎ (within c_increment c_decrement c ≡ true) → c_argument ≤ c
    more (inl x) = let z = eqb-true c c_target x in omega arith
    more (inr x) = let z = leb-true c_increment c (both_true (leb c_increment c) (leb c c_decrement) x).0 in omega arith

    go : (eqb c c_into ≡ true) ⊎ (either (eqb c c_target) (within c_increment c_decrement c) ≡ true) → c_argument ≤ c
    go (inl x) = let z = eqb-true c c_into x in omega arith
    go (inr x) = more (either_true (eqb c c_target) (within c_increment c_decrement c) x)

inside-aims : (c : ℕ) → is_part c ≡ true → aims c ≡ false
inside-aims c e = go (aims c) refl
  where
    go : (b : Bool) → aims c ≡ b → b ≡ false
    go true z = absurd (true_false (sym e ∙ mark-outside c (aims_most c z)))
    go false z = refl

all-aimed : (l : List Item) → all_inside l → Aimed l
all-aimed [] h = none
all-aimed (i ∷ l) h = other i l (inside-aims (code_of i) h.0) (all-aimed l h.1)

phrase : {s : Shape} (e : Exp s) → Proper e → Aimed (code_exp e)
phrase e p = all-aimed (code_exp e) (phrase_inside e p)

-- ---- statements
argument : (ts : List Token) (e : Expr) → AnExpression ts e → Aimed (code_argument e)
argument ts e x = join (code_exp e) (i_argument ∷ []) (phrase e (grammar_proper x)) (mark i_argument refl)

received : (ts : List Token) (x : Received) → AReceived ts x → Aimed (code_received x)
received _ _ (r_into {r = r} h) = stored r i_into [] (grammar_proper h) none
received _ _ (r_eval {e = e} h) = join (code_exp e) (i_equal ∷ []) (phrase e (grammar_proper h)) (mark i_equal refl)
received _ _ (r_number {n = n}) = other (i_number n) _ refl (mark i_constant refl)
received _ _ r_true = other i_true _ refl (mark i_constant refl)
received _ _ r_false = other i_false _ refl (mark i_constant refl)

-- arguments and their end
asked : (es : List Expr) → All (λ e. Aimed (code_argument e)) es → Aimed (each code_argument es ++ i_end ∷ [])
asked es h = join (each code_argument es) (i_end ∷ []) (each-aimed code_argument es h) (mark i_end refl)

aimed : {k : Sort} {ts : List Token} {t : Tree k} → D k ts t → Aimed (code_tree t)
aimed (s_leaf (s_express {e = e} x)) = join (code_exp e) (i_express ∷ []) (phrase e (grammar_proper x)) (mark i_express refl)
aimed (s_leaf (s_assign {r = r} {e = e} x y)) = join (code_exp r ++ i_target ∷ code_exp e) (i_assign ∷ []) (stored r i_target (code_exp e) (grammar_proper x) (phrase e (grammar_proper y))) (mark i_assign refl)
aimed (s_leaf (s_increment {r = r} x)) = stored r i_increment [] (grammar_proper x) none
aimed (s_leaf (s_decrement {r = r} x)) = stored r i_decrement [] (grammar_proper x) none
aimed (s_leaf (s_send {o = mk} {r = r} {es = es} kind x y)) =
    join (code_exp r ++ i_send mk ∷ each code_argument es) (i_end ∷ [])
    (stored r (i_send mk) (each code_argument es) (grammar_proper x) (each-aimed code_argument es (message-all _ AnExpression argument _ es y))) (mark i_end refl)
aimed (s_leaf (s_receive {o = mk} {r = r} {xs = xs} kind x y)) =
    join (code_exp r ++ i_receive mk ∷ each code_received xs) (i_end ∷ [])
    (stored r (i_receive mk) (each code_received xs) (grammar_proper x) (each-aimed code_received xs (message-all _ AReceived received _ xs y))) (mark i_end refl)
aimed (s_leaf (s_assert {e = e} x)) = join (code_exp e) (i_assert ∷ []) (phrase e (grammar_proper x)) (mark i_assert refl)
aimed (s_leaf (s_print_alone {w = w})) = other (i_text w) _ refl (mark i_end refl)
aimed (s_leaf (s_print {w = w} {es = es} x)) = other (i_text w) _ refl (asked es (listed-all _ _ AnExpression argument _ es x))
aimed (s_leaf s_skip) = mark i_skip refl
aimed (s_leaf (s_goto {w = w})) = other (i_name w) _ refl (mark i_goto refl)
aimed (s_leaf s_break) = mark i_break refl
aimed (s_leaf s_timeout) = mark i_timeout refl
aimed (s_leaf s_else) = mark i_else refl
aimed (s_leaf (s_run {w = w} {es = es} x)) = other (i_name w) _ refl (other i_run _ refl (asked es (maybe_all _ _ AnExpression argument _ es x)))
aimed (s_leaf (s_set_run {r = r} {w = w} {es = es} x y)) =
    join (code_exp r ++ i_target ∷ i_name w ∷ i_set_run ∷ each code_argument es) (i_end ∷ [])
    (stored r i_target (i_name w ∷ i_set_run ∷ each code_argument es) (grammar_proper x) (other (i_name w) _ refl (other i_set_run _ refl (each-aimed code_argument es (maybe_all _ _ AnExpression argument _ es y)))))
    (mark i_end refl)
aimed (s_if {os = os} x) = other i_if _ refl (join (code_tree os) (i_fi ∷ []) (aimed x) (mark i_fi refl))
aimed (s_do {os = os} x) = other i_do _ refl (join (code_tree os) (i_od ∷ []) (aimed x) (mark i_od refl))
aimed (s_bare x) = aimed x
aimed (s_label {w = w} {a = a} x) = other (i_name w) _ refl (other i_label _ refl (aimed x))
aimed (q_last {s = s} x y) = join (code_tree s) [] (aimed x) none
aimed (q_then {s = s} {q = q} x y z) = join (code_tree s) (code_tree q) (aimed x) (aimed z)
aimed (o_last {q = q} x) = other i_option _ refl (join (code_tree q) (i_end_option ∷ []) (aimed x) (mark i_end_option refl))
aimed (o_also {q = q} {os = os} x y) = other i_option _ refl (join (code_tree q) (i_end_option ∷ code_tree os) (aimed x) (other i_end_option _ refl (aimed y)))

-- ---- declarations
type_other : {k : ℕ} → IsType k → aims (code_of (i_type k)) ≡ false
type_other is_bit = refl
type_other is_bool = refl
type_other is_byte = refl
type_other is_mtype = refl
type_other is_pid = refl
type_other is_chan = refl
type_other is_short = refl
type_other is_int = refl

field : (ts : List Token) (k : ℕ) → AType ts k → Aimed (code_field k)
field _ _ (a_type {k = k} x) = other (i_type k) _ (type_other x) (mark i_field refl)

value : (ts : List Token) (v : Value) → AValue ts v → Aimed (code_value v)
value _ _ (v_number {n = n}) = other (i_number n) _ refl (mark items.i_value refl)
value _ _ (v_minus {n = n}) = other (i_number n) _ refl (mark i_minus refl)
value _ _ v_true = other i_true _ refl (mark items.i_value refl)
value _ _ v_false = other i_false _ refl (mark items.i_value refl)
value _ _ (v_name {w = w}) = other (i_name w) _ refl (mark i_named refl)

variable : {c : ℕ} (ts : List Token) (v : Variable) → AVariable c ts v → Aimed (code_variable v)
variable _ _ (x_bare {w = w}) = other (i_name w) _ refl (mark i_declared refl)
variable _ _ (x_set {w = w} {v = v} x) = other (i_name w) _ refl (other i_declared _ refl (value _ v x))
variable _ _ (x_array {w = w} {n = n}) = other (i_name w) _ refl (other i_declared _ refl (other (i_number n) _ refl (mark i_size refl)))
variable _ _ (x_array_set {w = w} {n = n} {v = v} x) = other (i_name w) _ refl (other i_declared _ refl (other (i_number n) _ refl (other i_size _ refl (value _ v x))))
variable _ _ (x_channel {w = w} {n = n} {ks = ks} x) =
    other (i_name w) _ refl (other i_declared _ refl (other (i_number n) _ refl (other i_channel _ refl (each-aimed code_field ks (listed-all _ _ AType field _ ks x)))))

-- the mark is `local` or `global`
declare : (i : Item) → aims (code_of i) ≡ false → (ts : List Token) (d : Declaration) → ADeclaration ts d → Aimed (code_declaration i d)
declare i e _ _ (declaration {k = k} {xs = xs} t x) = other (i_type k) _ (type_other t) (other i _ e (each-aimed code_variable xs (listed-all _ _ (AVariable k) variable _ xs x)))

-- ---- units
inner-items : (ts : List Token) (ds : List Declaration) (q : Tree sequence) → Items ts (body ds q) → Aimed (each (code_declaration i_local) ds ++ code_tree q)
inner-items _ _ q (statements x) = aimed x
inner-items _ _ q (declared {d = d} {ds = ds} x y z) =
    subst Aimed (sym (append_assoc (code_declaration i_local d) (each (code_declaration i_local) ds) (code_tree q))) (join (code_declaration i_local d) _ (declare i_local refl _ d x) (inner-items _ ds q z))

in_body : (ts : List Token) (b : Body) → ABody ts b → Aimed (code_body b)
in_body _ (body ds q) (a_body x) = join (i_body ∷ each (code_declaration i_local) ds ++ code_tree q) (i_end_body ∷ []) (other i_body _ refl (inner-items _ ds q x)) (mark i_end_body refl)

parameter : (ts : List Token) (w : Name) → AName ts w → Aimed (code_parameter w)
parameter ts w x = other (i_name w) _ refl (mark i_parameter refl)

message : (ts : List Token) (w : Name) → AName ts w → Aimed (code_message w)
message ts w x = other (i_name w) _ refl (mark i_message refl)

group : (ts : List Token) (g : Group) → AGroup ts g → Aimed (code_group g)
group _ _ (a_group {k = k} {ws = ws} t x) = other (i_type k) _ (type_other t) (other i_group _ refl (each-aimed code_parameter ws (listed-all _ _ AName parameter _ ws x)))

activity : (a : Activity) (w : Name) → Aimed (code_activity a w)
activity idle w = other (i_name w) _ refl (mark i_proctype refl)
activity once w = other (i_name w) _ refl (mark i_active refl)
activity (times n) w = other (i_number n) _ refl (other (i_name w) _ refl (mark i_active_many refl))

unit : (ts : List Token) (u : Part) → AUnit ts u → Aimed (code_part u)
unit _ _ (u_mtypes {ws = ws} x) = other i_mtypes _ refl (each-aimed code_message ws (listed-all _ _ AName message _ ws x))
unit _ _ (u_global {d = d} x) = declare i_global refl _ d x
unit _ _ (u_process {a = a} {w = w} {gs = gs} {b = b} x y z) =
    join (code_activity a w ++ each code_group gs) (code_body b) (join (code_activity a w) (each code_group gs) (activity a w) (each-aimed code_group gs (maybe_all _ _ AGroup group _ gs y))) (in_body _ b z)
unit _ _ (u_init {b = b} x) = other i_init _ refl (in_body _ b x)

model : (ts : List Token) (m : Model) → Gram ts m → Aimed (code m)
model _ _ (g_last {u = u} x y) = join (code_part u) [] (unit _ u x) none
model _ _ (g_more {u = u} {m = m} x y z) = join (code_part u) (code m) (unit _ u x) (model _ m z)

-- ---- by places
-- no item of an expression stores
phrase_at : (cs : List ℕ) (l : List Item) (i m : ℕ) → all_inside l → At cs i l → i ≤ m → m < i + length l → aims (get_or cs m 0) ≡ false
phrase_at cs [] i m h a p q = absurd (omega arith)
phrase_at cs (x ∷ l) i m h a p q = go (ℕ_discrete m i) (λ r. phrase_at cs l (suc i) m h.1 a.1 r (omega arith))
  where
    go : Dec (m ≡ i) → (suc i ≤ m → aims (get_or cs m 0) ≡ false) → aims (get_or cs m 0) ≡ false
    go (yes z) r = ap (λ k. aims (get_or cs k 0)) z ∙ ap aims a.0 ∙ inside-aims (code_of x) h.0
    go (no z) r = r (omega arith)

behind : (cs : List ℕ) (l : List Item) → Aimed l → (i m : ℕ) → At cs i l → i ≤ m → m < i + length l → aims (get_or cs m 0) ≡ true → Behind cs m
behind cs _ none i m a p q e = absurd (omega arith)
behind cs _ (other x l n h) i m a p q e = go (ℕ_discrete m i) (λ r. behind cs l h (suc i) m a.1 r (omega arith) e)
  where
    go : Dec (m ≡ i) → (suc i ≤ m → Behind cs m) → Behind cs m
    go (yes z) r = absurd (true_false (sym e ∙ ap (λ k. aims (get_or cs k 0)) z ∙ ap aims a.0 ∙ n))
    go (no z) r = r (omega arith)
behind cs _ (stored r x l y h) i m a p q e =
    go (dec_lt m k) (ℕ_discrete m k) (λ g. behind cs l h (suc k) m (at_back cs (code_exp r) (x ∷ l) i k refl a).1 g (let z = length-append (code_exp r) (x ∷ l) in omega arith) e)
  where
    k : ℕ
    k = i + length (code_exp r)

    go : Dec (m < k) → Dec (m ≡ k) → (suc k ≤ m → Behind cs m) → Behind cs m
    go (yes z) d f = absurd (true_false (sym e ∙ phrase_at cs (code_exp r) i m (phrase_inside r y) (at_front cs i (code_exp r) (x ∷ l) a) p z))
    go (no z) (yes w) f = (i, r, y, at_front cs i (code_exp r) (x ∷ l) a, w)
    go (no z) (no w) f = f (omega arith)

pub model-aims : (ts : List Token) (m : Model) → Gram ts m → (cs : List ℕ) → length cs ≡ length (code m) → At cs 0 (code m) → (j : ℕ) → j < length cs → aims (get_or cs j 0) ≡ true → Behind cs j
model-aims ts m g cs n a j h e = behind cs (code m) (model ts m g) 0 j a (omega arith) (omega arith) e

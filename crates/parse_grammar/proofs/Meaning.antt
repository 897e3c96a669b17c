-- What each nonterminal means in the words of the grammar, and what follows for derivations once every right side is shown to mean that.
use mathlib.Core.Path.{◌≡◌, refl}
use mathlib.Core.Option.{Option, none, some}
use mathlib.Core.List.{List, [], ◌∷◌, ◌++◌, append_assoc}
use Prim.Native.Nat.{ℕ}
use Rattle.base_kinds.specs.Kinds.{Token, sym, name, number, text}
use Rattle.spec_grammar.specs.Marks.{'lpar, '[, '], 'comma, 'semi, '::, '=, 'mtype, 'active, 'proctype}
use Rattle.spec_grammar.specs.Tree.{Name, Expr, Ref, action, statement, sequence, options, Tree, over, Value, unset, Variable, Declaration, Body, body, Activity, Part, Model}
use Rattle.spec_grammar.specs.Grammar.{Listed, MaybeListed, Message, Semicolons, Parted, AName, AType, E, AnExpression, AReference, AReceived, D, AValue, AVariable, ADeclaration, AGroup, Items, ABody, AnActivity, AUnit, Gram}
use Rattle.base_codes.specs.Items.{Item, i_body, i_declared, i_end_body, i_end_option, i_local, i_name, i_number, i_option, i_target, i_text, i_type}
use Rattle.parse_code.specs.Code.{each, code_exp, code_argument, code_received, code_tree, code_field, code_size, code_value, code_variable, code_declaration, code_parameter, code_group, code_body, code_activity, code_message, code_part, code}
use Rattle.parse_grammar.specs.Engine.{nt, tm, act, In, L, done, emit, eat, by}
use Rattle.parse_grammar.specs.Productions.{NT, e1, e2, e3, e4, e5, e6, e7, e8, e9, e10, t1, t2, t3, t4, t5, t6, t7, t8, t9, t10, n_operand, n_ref, n_ix, n_opened, n_closing, n_argument, n_arguments, n_more_arguments, n_sent, n_received, n_more_received, n_got, n_statement, n_after_name, n_action, n_after_ref, n_right_side, n_other, n_sequence, n_more_statements, n_after_separator, n_option, n_more_options, n_plain_type, n_type, n_value, n_set, n_variable, n_size, n_more_variables, n_chan_variable, n_chan_rest, n_chan_value, n_field, n_more_fields, n_more_chan_variables, n_declaration, n_body, n_items, n_parted, n_more_parted, n_parameters, n_group, n_more_groups, n_parameter, n_more_parameters, n_unit, n_after_mtype, n_message, n_more_messages, n_activity, n_process, n_model, n_more_units, Ter, sy, any_name, any_number, any_text, Right, eats, prods, G}
use Rattle.parse_grammar.proofs.Tests.{is_some_lem}
use Rattle.parse_grammar.proofs.Inst.{Each, each_in, sy_in}

-- a phrase with its code; the further elements of a list
abbrev pub Phrase : {A : Type 0} → (List Token → A → Type 0) → (A → List Item) → List Token → List Item → Type 0
Phrase {A} X f ts o = (a : A) × X ts a × (o ≡ f a)

pub data Further (s : Token) {A : Type 0} (X : List Token → A → Type 0) : List Token → List A → Type 0 where
  no_further : Further s X [] []
  further : {ts : List Token} {l : List A} → Listed s X ts l → Further s X (s ∷ ts) l

abbrev pub Rest : {A : Type 0} → Token → (List Token → A → Type 0) → (A → List Item) → List Token → List Item → Type 0
Rest s X f ts o = Phrase (Further s X) (each f) ts o

-- what follows the first argument of a message
abbrev pub Goes_on : {A : Type 0} → (List Token → A → Type 0) → (A → List Item) → List Token → List Item → Type 0
Goes_on {A} X f ts o = (xs : List Token) (a : A) → X xs a → (l : List A) × Message X (xs ++ ts) l × (f a ++ o ≡ each f l)

abbrev pub Exps : ℕ → List Token → List Item → Type 0
Exps l ts o = Phrase (E l) code_exp ts o

-- what follows an expression of level l
abbrev pub Tail : ℕ → List Token → List Item → Type 0
Tail l ts o = (xs : List Token) (a : Expr) → E l xs a → (e : Expr) × E l (xs ++ ts) e × (code_exp a ++ o ≡ code_exp e)

pub data AnOption : List Token → Tree sequence → Type 0 where
  an_option : {ts : List Token} {q : Tree sequence} → D sequence ts q → AnOption (':: ∷ ts) q

abbrev pub code_option : Tree sequence → List Item
code_option q = i_option ∷ code_tree q ++ i_end_option ∷ []

pub data MoreOptions : List Token → Tree options → Type 0 where
  no_options : MoreOptions [] over
  some_options : {ts : List Token} {os : Tree options} → D options ts os → MoreOptions ts os

pub data Setting : List Token → Value → Type 0 where
  not_set : Setting [] unset
  set_to : {ts : List Token} {v : Value} → AValue ts v → Setting ('= ∷ ts) v

pub data Sizing : List Token → Option ℕ → Type 0 where
  no_size : Sizing [] none
  sized : {n : ℕ} → Sizing ('[ ∷ number n ∷ '] ∷ []) (some n)

abbrev pub AnyVariable : List Token → Variable → Type 0
AnyVariable ts x = (t : ℕ) → AVariable t ts x

abbrev pub code_type : ℕ → List Item
code_type t = i_type t ∷ []

abbrev pub code_items : Body → List Item
code_items (body ds q) = each (code_declaration i_local) ds ++ code_tree q

pub code_body_items : (b : Body) → code_body b ≡ i_body ∷ code_items b ++ i_end_body ∷ []
code_body_items (body ds q) = refl

-- WHAT EACH NONTERMINAL MEANS: a phrase and its code, given what stands before it
abbrev pub NG : NT → List Token → List Item → Type 0
NG e1 ts o = Exps 1 ts o
NG e2 ts o = Exps 2 ts o
NG e3 ts o = Exps 3 ts o
NG e4 ts o = Exps 4 ts o
NG e5 ts o = Exps 5 ts o
NG e6 ts o = Exps 6 ts o
NG e7 ts o = Exps 7 ts o
NG e8 ts o = Exps 8 ts o
NG e9 ts o = Exps 9 ts o
NG e10 ts o = Exps 10 ts o
NG t1 ts o = Tail 1 ts o
NG t2 ts o = Tail 2 ts o
NG t3 ts o = Tail 3 ts o
NG t4 ts o = Tail 4 ts o
NG t5 ts o = Tail 5 ts o
NG t6 ts o = Tail 6 ts o
NG t7 ts o = Tail 7 ts o
NG t8 ts o = Tail 8 ts o
NG t9 ts o = Tail 9 ts o
NG t10 ts o = Tail 10 ts o
NG n_operand ts o = Exps 11 ts o
NG n_ref ts o = Phrase AReference code_exp ts o
NG n_ix ts o = (v : Name) → (r : Ref) × AReference (name v ∷ ts) r × (i_name v ∷ o ≡ code_exp r)
NG n_opened ts o = Exps 11 ts o
NG n_closing ts o = (xs : List Token) (a : Expr) → E 1 xs a → (e : Expr) × E 11 ('lpar ∷ xs ++ ts) e × (code_exp a ++ o ≡ code_exp e)
NG n_argument ts o = Phrase AnExpression code_argument ts o
NG n_arguments ts o = Phrase (MaybeListed 'comma AnExpression) (each code_argument) ts o
NG n_more_arguments ts o = Rest 'comma AnExpression code_argument ts o
NG n_sent ts o = Goes_on AnExpression code_argument ts o
NG n_received ts o = Phrase AReceived code_received ts o
NG n_more_received ts o = Rest 'comma AReceived code_received ts o
NG n_got ts o = Goes_on AReceived code_received ts o
NG n_statement ts o = Phrase (D statement) code_tree ts o
NG n_after_name ts o = (v : Name) → (s : Tree statement) × D statement (name v ∷ ts) s × (i_name v ∷ o ≡ code_tree s)
NG n_action ts o = Phrase (D action) code_tree ts o
NG n_after_ref ts o = (xs : List Token) (r : Ref) → AReference xs r → (a : Tree action) × D action (xs ++ ts) a × (code_exp r ++ o ≡ code_tree a)
NG n_right_side ts o = (xs : List Token) (r : Ref) → AReference xs r → (a : Tree action) × D action (xs ++ '= ∷ ts) a × (code_exp r ++ i_target ∷ o ≡ code_tree a)
NG n_other ts o = Phrase (D action) code_tree ts o
NG n_sequence ts o = Phrase (D sequence) code_tree ts o
NG n_more_statements ts o = (xs : List Token) (s : Tree statement) → D statement xs s → (q : Tree sequence) × D sequence (xs ++ ts) q × (code_tree s ++ o ≡ code_tree q)
NG n_after_separator ts o = (xs us : List Token) (s : Tree statement) → D statement xs s → Parted us → (q : Tree sequence) × D sequence (xs ++ us ++ ts) q × (code_tree s ++ o ≡ code_tree q)
NG n_option ts o = Phrase AnOption code_option ts o
NG n_more_options ts o = Phrase MoreOptions code_tree ts o
NG n_plain_type ts o = Phrase AType code_type ts o
NG n_type ts o = Phrase AType code_type ts o
NG n_value ts o = Phrase AValue code_value ts o
NG n_set ts o = Phrase Setting code_value ts o
NG n_variable ts o = Phrase AnyVariable code_variable ts o
NG n_size ts o = Phrase Sizing code_size ts o
NG n_more_variables ts o = Rest 'comma AnyVariable code_variable ts o
NG n_chan_variable ts o = Phrase (AVariable 43) code_variable ts o
NG n_chan_rest ts o = (v : Name) → (x : Variable) × AVariable 43 (name v ∷ ts) x × (i_name v ∷ i_declared ∷ o ≡ code_variable x)
NG n_chan_value ts o = (v : Name) → (x : Variable) × AVariable 43 (name v ∷ '= ∷ ts) x × (i_name v ∷ i_declared ∷ o ≡ code_variable x)
NG n_field ts o = Phrase AType code_field ts o
NG n_more_fields ts o = Rest 'comma AType code_field ts o
NG n_more_chan_variables ts o = Rest 'comma (AVariable 43) code_variable ts o
NG n_declaration ts o = Phrase ADeclaration (code_declaration i_local) ts o
NG n_body ts o = Phrase ABody code_body ts o
NG n_items ts o = Phrase Items code_items ts o
NG n_parted ts o = (xs : List Token) (d : Declaration) → ADeclaration xs d → (b : Body) × Items (xs ++ ts) b × (code_declaration i_local d ++ o ≡ code_items b)
NG n_more_parted ts o = (xs us : List Token) (d : Declaration) → ADeclaration xs d → Parted us → (b : Body) × Items (xs ++ us ++ ts) b × (code_declaration i_local d ++ o ≡ code_items b)
NG n_parameters ts o = Phrase (MaybeListed 'semi AGroup) (each code_group) ts o
NG n_group ts o = Phrase AGroup code_group ts o
NG n_more_groups ts o = Rest 'semi AGroup code_group ts o
NG n_parameter ts o = Phrase AName code_parameter ts o
NG n_more_parameters ts o = Rest 'comma AName code_parameter ts o
NG n_unit ts o = Phrase AUnit code_part ts o
NG n_after_mtype ts o = (u : Part) × AUnit ('mtype ∷ ts) u × (o ≡ code_part u)
NG n_message ts o = Phrase AName code_message ts o
NG n_more_messages ts o = Rest 'comma AName code_message ts o
NG n_activity ts o = (u : Part) × AUnit ('active ∷ ts) u × (o ≡ code_part u)
NG n_process ts o = (xs : List Token) (a : Activity) (v : Name) → AnActivity xs a → (u : Part) × AUnit (xs ++ 'proctype ∷ name v ∷ ts) u × (code_activity a v ++ o ≡ code_part u)
NG n_model ts o = Phrase Gram code ts o
NG n_more_units ts o = (xs us : List Token) (u : Part) → AUnit xs u → Semicolons us → (m : Model) × Gram (xs ++ us ++ ts) m × (code_part u ++ o ≡ code m)

-- what a list of symbols means
pub data M : Right → List Token → List Item → Type 0 where
  m_nil : M [] [] []
  m_act : {a : Item} {k : Right} {w : List Token} {o : List Item} → M k w o → M (act a ∷ k) w (a ∷ o)
  m_sy : {j : ℕ} {k : Right} {w : List Token} {o : List Item} → M k w o → M (tm (sy j) ∷ k) (sym j ∷ w) o
  m_name : {v : Name} {k : Right} {w : List Token} {o : List Item} → M k w o → M (tm any_name ∷ k) (name v ∷ w) (i_name v ∷ o)
  m_number : {n : ℕ} {k : Right} {w : List Token} {o : List Item} → M k w o → M (tm any_number ∷ k) (number n ∷ w) (i_number n ∷ o)
  m_text : {v : List ℕ} {k : Right} {w : List Token} {o : List Item} → M k w o → M (tm any_text ∷ k) (text v ∷ w) (i_text v ∷ o)
  m_nt : {n : NT} {k : Right} (ts : List Token) {v : List Token} (p : List Item) {q : List Item} → NG n ts p → M k v q → M (nt n ∷ k) (ts ++ v) (p ++ q)

data Split (r k : Right) : List Token → List Item → Type 0 where
  parts : {w v : List Token} {o p : List Item} → M r w o → M k v p → Split r k (w ++ v) (o ++ p)

split_act : {a : Item} {r k : Right} {w : List Token} {o : List Item} → Split r k w o → Split (act a ∷ r) k w (a ∷ o)
split_act (parts x y) = parts (m_act x) y

split_sy : {j : ℕ} {r k : Right} {w : List Token} {o : List Item} → Split r k w o → Split (tm (sy j) ∷ r) k (sym j ∷ w) o
split_sy (parts x y) = parts (m_sy x) y

split-name : {v : Name} {r k : Right} {w : List Token} {o : List Item} → Split r k w o → Split (tm any_name ∷ r) k (name v ∷ w) (i_name v ∷ o)
split-name (parts x y) = parts (m_name x) y

split-number : {n : ℕ} {r k : Right} {w : List Token} {o : List Item} → Split r k w o → Split (tm any_number ∷ r) k (number n ∷ w) (i_number n ∷ o)
split-number (parts x y) = parts (m_number x) y

split_text : {v : List ℕ} {r k : Right} {w : List Token} {o : List Item} → Split r k w o → Split (tm any_text ∷ r) k (text v ∷ w) (i_text v ∷ o)
split_text (parts x y) = parts (m_text x) y

split_nt : {n : NT} {r k : Right} (ts : List Token) {v : List Token} (p : List Item) {q : List Item} → NG n ts p → Split r k v q → Split (nt n ∷ r) k (ts ++ v) (p ++ q)
split_nt ts p g (parts x y) = simp (← append_assoc) (parts (m_nt ts p g x) y)

split : (r k : Right) {w : List Token} {o : List Item} → M (r ++ k) w o → Split r k w o
split [] k m = parts m_nil m
split (act a ∷ r) k (m_act m) = split_act (split r k m)
split (tm (sy j) ∷ r) k (m_sy m) = split_sy (split r k m)
split (tm any_name ∷ r) k (m_name m) = split-name (split r k m)
split (tm any_number ∷ r) k (m_number m) = split-number (split r k m)
split (tm any_text ∷ r) k (m_text m) = split_text (split r k m)
split (nt n ∷ r) k (m_nt ts p g m) = split_nt ts p g (split r k m)

-- what is to be shown of a right side: given what each of its symbols stands for, what stands for the whole
abbrev pub Given : Right → (List Token → List Item → Type 0) → Type 0
Given [] Q = Q [] []
Given (act a ∷ k) Q = Given k (λ w o. Q w (a ∷ o))
Given (tm (sy j) ∷ k) Q = Given k (λ w o. Q (sym j ∷ w) o)
Given (tm any_name ∷ k) Q = (v : Name) → Given k (λ w o. Q (name v ∷ w) (i_name v ∷ o))
Given (tm any_number ∷ k) Q = (n : ℕ) → Given k (λ w o. Q (number n ∷ w) (i_number n ∷ o))
Given (tm any_text ∷ k) Q = (v : List ℕ) → Given k (λ w o. Q (text v ∷ w) (i_text v ∷ o))
Given (nt n ∷ k) Q = (ts : List Token) (p : List Item) → NG n ts p → Given k (λ w o. Q (ts ++ w) (p ++ o))

abbrev pub Means : NT → Right → Type 0
Means n r = Given r (NG n)

use_given : (r : Right) (Q : List Token → List Item → Type 0) {w : List Token} {o : List Item} → Given r Q → M r w o → Q w o
use_given [] Q g m_nil = g
use_given (act a ∷ k) Q g (m_act m) = use_given k (λ w o. Q w (a ∷ o)) g m
use_given (tm (sy j) ∷ k) Q g (m_sy m) = use_given k (λ w o. Q (sym j ∷ w) o) g m
use_given (tm any_name ∷ k) Q g (m_name {v = v} m) = use_given k (λ w o. Q (name v ∷ w) (i_name v ∷ o)) (g v) m
use_given (tm any_number ∷ k) Q g (m_number {n = n} m) = use_given k (λ w o. Q (number n ∷ w) (i_number n ∷ o)) (g n) m
use_given (tm any_text ∷ k) Q g (m_text {v = v} m) = use_given k (λ w o. Q (text v ∷ w) (i_text v ∷ o)) (g v) m
use_given (nt n ∷ k) Q g (m_nt ts p x m) = use_given k (λ w o. Q (ts ++ w) (p ++ o)) (g ts p x) m

to_m_eat : (t : Ter) (c : Token) (a : List Item) {k : Right} {w : List Token} {o : List Item} → eats t c ≡ some a → M k w o → M (tm t ∷ k) (c ∷ w) (a ++ o)
to_m_eat (sy j) (sym i) a e m = let (h, h') = sy_in j i a e in rw (← h, ← h') (m_sy m)
to_m_eat (sy j) (name v) a e m = absurd (is_some_lem e)
to_m_eat (sy j) (number n) a e m = absurd (is_some_lem e)
to_m_eat (sy j) (text v) a e m = absurd (is_some_lem e)
to_m_eat any_name (sym i) a e m = absurd (is_some_lem e)
to_m_eat any_name (name v) a e m = let h : i_name v ∷ [] ≡ a = cc in rw (← h) (m_name m)
to_m_eat any_name (number n) a e m = absurd (is_some_lem e)
to_m_eat any_name (text v) a e m = absurd (is_some_lem e)
to_m_eat any_number (sym i) a e m = absurd (is_some_lem e)
to_m_eat any_number (name v) a e m = absurd (is_some_lem e)
to_m_eat any_number (number n) a e m = let h : i_number n ∷ [] ≡ a = cc in rw (← h) (m_number m)
to_m_eat any_number (text v) a e m = absurd (is_some_lem e)
to_m_eat any_text (sym i) a e m = absurd (is_some_lem e)
to_m_eat any_text (name v) a e m = absurd (is_some_lem e)
to_m_eat any_text (number n) a e m = absurd (is_some_lem e)
to_m_eat any_text (text v) a e m = let h : i_text v ∷ [] ≡ a = cc in rw (← h) (m_text m)

to_m_by : ((n : NT) → Each (Means n) (prods n)) → (n : NT) (r k : Right) {w : List Token} {o : List Item} → In r (prods n) → Split r k w o → M (nt n ∷ k) w o
to_m_by f n r k i (parts {w = w} {o = o} x y) = m_nt w o (use_given r (NG n) (each_in (Means n) (prods n) (f n) r i) x) y

pub to_m : ((n : NT) → Each (Means n) (prods n)) → {k : Right} {w : List Token} {o : List Item} → L G k w o → M k w o
to_m f done = m_nil
to_m f (emit d) = m_act (to_m f d)
to_m f (eat {t = t} {c = c} {a = a} e d) = to_m_eat t c a e (to_m f d)
to_m f (by {n = n} {r = r} {k = k} i d) = to_m_by f n r k i (split r k (to_m f d))

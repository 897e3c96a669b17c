-- Statements fit in bodies, and leave open what was open before them.
use Prim.Native.Nat.{ℕ, ◌+◌, ◌-◌}
use mathlib.Core.Path.{◌≡◌, refl, sym, ap, subst}
use mathlib.Core.Bool.{Bool, true, false}
use mathlib.Core.List.{List, [], ◌∷◌, ◌++◌}
use native.Mathlib.Omega.{arith}
use borrow.Author.Tests.{lt-ltb}
use Rattle.base_codes.specs.Codes.{c_end_option, c_fi, c_od}
use Rattle.base_bytes.specs.Choice.{pick}
use Rattle.base_kinds.specs.Kinds.{Token}
use Rattle.spec_grammar.specs.Tree.{Expr, Ref, Received, into, equal, exactly, exactly_true, exactly_false, Sort, action, statement, sequence, options, Tree}
use Rattle.spec_grammar.specs.Grammar.{Listed, one, more, MaybeListed, no_list, a_list, Message, commas, call, AnExpression, AReceived, r_into, r_eval, r_number, r_true, r_false, D, s_leaf, s_express, s_assign, s_increment, s_decrement, s_send, s_receive, s_assert, s_print_alone, s_print, s_skip, s_goto, s_break, s_timeout, s_else, s_run, s_set_run, s_if, s_do, s_bare, s_label, q_last, q_then, o_last, o_also}
use Rattle.base_codes.specs.Items.{Item, i_argument, i_assert, i_assign, i_decrement, i_end, i_end_option, i_equal, i_express, i_fi, i_increment, i_into, i_label, i_name, i_od, i_receive, i_send, i_set_run, i_target}
use Rattle.base_codes.specs.Sets.{is_part, is_alone, is_lead}
use Rattle.parse_code.specs.Code.{each, code_exp, code_argument, code_received, code_tree}
use Rattle.link_phrases_proof.specs.Phrases.{Proper}
use Rattle.link_phrases_proof.proofs.Proper.{grammar_proper}
use Rattle.keep_forms.specs.Forms.{Form, form, step, fits}
use Rattle.keep_forms.proofs.Passes.{Passes, join}
use Rattle.keep_forms.proofs.Phrases.{phrase}

-- ---- lists
abbrev pub All : {A : Type 0} → (A → Type 0) → List A → Type 0
All P [] = Unit {0}
All P (a ∷ l) = P a × All P l

pub listed-all : {A : Type 0} (P : A → Type 0) (s : Token) (X : List Token → A → Type 0) → ((ts : List Token) (a : A) → X ts a → P a) → (ts : List Token) (l : List A) → Listed s X ts l → All P l
listed-all P s X f _ _ (one x) = (f _ _ x, tt)
listed-all P s X f _ _ (more x r) = (f _ _ x, listed-all P s X f _ _ r)

pub maybe_all : {A : Type 0} (P : A → Type 0) (s : Token) (X : List Token → A → Type 0) → ((ts : List Token) (a : A) → X ts a → P a) → (ts : List Token) (l : List A) → MaybeListed s X ts l → All P l
maybe_all P s X f _ _ no_list = tt
maybe_all P s X f ts l (a_list r) = listed-all P s X f ts l r

pub message-all : {A : Type 0} (P : A → Type 0) (X : List Token → A → Type 0) → ((ts : List Token) (a : A) → X ts a → P a) → (ts : List Token) (l : List A) → Message X ts l → All P l
message-all P X f ts l (commas r) = listed-all P _ X f ts l r
message-all P X f _ _ (call x r) = (f _ _ x, listed-all P _ X f _ _ r)

-- what leads from a form of a kind to one of that kind again, over each of a list
pub each-passes : {A : Type 0} (P : A → Type 0) (f : A → List Item) (Q : Form → Type 0)
    → ((a : A) → P a → (s : Form) → Q s → (K : Form → Type 0) → ((s : Form) → Q s → K s) → Passes (f a) s K)
    → (l : List A) → All P l → (s : Form) → Q s → (K : Form → Type 0) → ((s : Form) → Q s → K s) → Passes (each f l) s K
each-passes P f Q h [] a s q K k = k s q
each-passes P f Q h (x ∷ l) a s q K k = join (f x) (each f l) s K (h x a.0 s q _ (λ s q. each-passes P f Q h l a.1 s q K k))

-- ---- forms between statements, and between arguments
abbrev pub calm : ℕ → ℕ → ℕ → Form
calm o l g = form 2 o l false false false false g 0

-- the same behind a declaration
abbrev pub calmer : ℕ → ℕ → ℕ → ℕ → Form
calmer o l g n = form 2 o l false false false false g n

abbrev asking : ℕ → ℕ → Form
asking o l = form 2 o l false false false true 0 0

-- the item behind a phrase
module _ (o l : ℕ) where
  argument : (e : Expr) → Proper e → (K : Form → Type 0) → K (asking o l) → Passes (code_argument e) (asking o l) K
  unfolding fits step is_part is_alone is_lead
  argument e p K k = join (code_exp e) (i_argument ∷ []) _ K (phrase o l false true e p false false 0 0 _ (λ r g n z. (refl, k)))

  arguments : (es : List Expr) → All Proper es → (K : Form → Type 0) → K (asking o l) → Passes (each code_argument es) (asking o l) K
  arguments es h K k =
      each-passes Proper code_argument (λ s. s ≡ asking o l) (λ e p s q K k. subst (λ s. Passes (code_argument e) s K) (sym q) (argument e p K (k (asking o l) refl))) es h (asking o l) refl K
      (λ s q. subst K (sym q) k)

  abbrev ProperIn : Received → Type 0
  ProperIn (into r) = Proper r
  ProperIn (equal e) = Proper e
  ProperIn (exactly n) = Unit {0}
  ProperIn exactly_true = Unit {0}
  ProperIn exactly_false = Unit {0}

  received_proper : (ts : List Token) (x : Received) → AReceived ts x → ProperIn x
  received_proper _ _ (r_into h) = grammar_proper h
  received_proper _ _ (r_eval h) = grammar_proper h
  received_proper _ _ r_number = tt
  received_proper _ _ r_true = tt
  received_proper _ _ r_false = tt

  receiving : (x : Received) → ProperIn x → (K : Form → Type 0) → K (asking o l) → Passes (code_received x) (asking o l) K
  unfolding fits step is_part is_alone is_lead
  receiving (into r) p K k = join (code_exp r) (i_into ∷ []) _ K (phrase o l false true r p false false 0 0 _ (λ r g n z. subst (λ r. Passes (i_into ∷ []) (form 2 o l true r false true g n) K) (sym z) (refl, k)))
  receiving (equal e) p K k = join (code_exp e) (i_equal ∷ []) _ K (phrase o l false true e p false false 0 0 _ (λ r g n z. (refl, k)))
  receiving (exactly n) p K k = (refl, (refl, k))
  receiving exactly_true p K k = (refl, (refl, k))
  receiving exactly_false p K k = (refl, (refl, k))

  receivings : (xs : List Received) → All ProperIn xs → (K : Form → Type 0) → K (asking o l) → Passes (each code_received xs) (asking o l) K
  receivings xs h K k =
      each-passes ProperIn code_received (λ s. s ≡ asking o l) (λ e p s q K k. subst (λ s. Passes (code_received e) s K) (sym q) (receiving e p K (k (asking o l) refl))) xs h (asking o l) refl K
      (λ s q. subst K (sym q) k)

  -- arguments and their end
  asked : (es : List Expr) → All Proper es → (K : Form → Type 0) → K (calm o l 0) → Passes (each code_argument es ++ i_end ∷ []) (asking o l) K
  unfolding fits step is_part is_alone is_lead
  asked es h K k = join (each code_argument es) (i_end ∷ []) _ K (arguments es h _ (refl, k))

  -- a reference and what stands behind it
  referred : (r : Ref) → Proper r → (g n : ℕ) (i : List Item) (K : Form → Type 0) → ((g n : ℕ) → Passes i (form 2 o l true true false false g n) K) → Passes (code_exp r ++ i) (calmer o l g n) K
  referred r p g n i K k = join (code_exp r) i _ K (phrase o l false false r p false false g n _ (λ r g n z. subst (λ r. Passes i (form 2 o l true r false false g n) K) (sym z) (k g n)))

-- ---- selections
close_fits : (o l : ℕ) → (fits (calm (o + 1) l 0) c_fi ≡ true) × (fits (calm (o + 1) (l + 1) 0) c_od ≡ true) × (fits (calm (o + 1) l 0) c_end_option ≡ true)
unfolding fits is_part is_alone is_lead
close_fits o l = (rw (lt-ltb 0 (o + 1) (omega arith)), rw (lt-ltb 0 (o + 1) (omega arith), lt-ltb 0 (l + 1) (omega arith)), rw (lt-ltb 0 (o + 1) (omega arith)))

fi_step : (o l : ℕ) → step (calm (o + 1) l 0) c_fi ≡ calm o l 0
unfolding step is_part is_alone is_lead
fi_step o l = ap (λ o. calm o l 0) (let e : o + 1 - 1 ≡ o = omega arith in e)

od_step : (o l : ℕ) → step (calm (o + 1) (l + 1) 0) c_od ≡ calm o l 0
unfolding step is_part is_alone is_lead
od_step o l = (λ i. calm ((let e : o + 1 - 1 ≡ o = omega arith in e) i) ((let e : l + 1 - 1 ≡ l = omega arith in e) i) 0)

-- what holds of each sort of tree: an action behind an option, a label or neither; a statement and a sequence behind an option or not; options in a selection
abbrev Fine : (k : Sort) → Tree k → Type 1
Fine action a = (o l g n : ℕ) (K : Form → Type 0) → K (calm o l 0) → Passes (code_tree a) (calmer o l g n) K
Fine statement s = (o l : ℕ) (b : Bool) (n : ℕ) (K : Form → Type 0) → K (calm o l 0) → Passes (code_tree s) (calmer o l (pick b 1 0) n) K
Fine sequence q = (o l : ℕ) (b : Bool) (n : ℕ) (K : Form → Type 0) → K (calm o l 0) → Passes (code_tree q) (calmer o l (pick b 1 0) n) K
Fine options os = (o l : ℕ) (K : Form → Type 0) → K (calm (o + 1) l 0) → Passes (code_tree os) (calm (o + 1) l 0) K

proper_expression : (ts : List Token) (e : Expr) → AnExpression ts e → Proper e
proper_expression ts e x = grammar_proper x

-- a label and what it stands before
label-passes : (o l : ℕ) (b : Bool) (n : ℕ) (w : List ℕ) (i : List Item) (K : Form → Type 0) → Passes i (calm o l 2) K → Passes (i_name w ∷ i_label ∷ i) (calmer o l (pick b 1 0) n) K
unfolding fits step is_part is_alone is_lead
label-passes o l true n w i K k = (refl, (refl, k))
label-passes o l false n w i K k = (refl, (refl, k))

pub fine : {k : Sort} {ts : List Token} {t : Tree k} → D k ts t → Fine k t
unfolding fits step is_part is_alone is_lead
fine (s_leaf (s_express {e = e} x)) = λ o l g n K k. join (code_exp e) (i_express ∷ []) _ K (phrase o l false false e (grammar_proper x) false false g n _ (λ r g n z. (refl, k)))
fine (s_leaf (s_assign {r = r} {e = e} x y)) = λ o l g n K k.
    join (code_exp r ++ i_target ∷ code_exp e) (i_assign ∷ []) _ K
    (referred o l r (grammar_proper x) g n (i_target ∷ code_exp e) _ (λ g n. (refl, phrase o l true false e (grammar_proper y) false false 0 0 _ (λ r g n z. (refl, k)))))
fine (s_leaf (s_increment {r = r} x)) = λ o l g n K k. referred o l r (grammar_proper x) g n (i_increment ∷ []) K (λ g n. (refl, k))
fine (s_leaf (s_decrement {r = r} x)) = λ o l g n K k. referred o l r (grammar_proper x) g n (i_decrement ∷ []) K (λ g n. (refl, k))
fine (s_leaf (s_send {o = mk} {r = r} {es = es} kind x y)) = λ o l g n K k.
    join (code_exp r ++ i_send mk ∷ each code_argument es) (i_end ∷ []) _ K
    (referred o l r (grammar_proper x) g n (i_send mk ∷ each code_argument es) _ (λ g n. (refl, arguments o l es (message-all Proper AnExpression proper_expression _ es y) _ (refl, k))))
fine (s_leaf (s_receive {o = mk} {r = r} {xs = xs} kind x y)) = λ o l g n K k.
    join (code_exp r ++ i_receive mk ∷ each code_received xs) (i_end ∷ []) _ K
    (referred o l r (grammar_proper x) g n (i_receive mk ∷ each code_received xs) _ (λ g n. (refl, receivings o l xs (message-all (ProperIn o l) AReceived (received_proper o l) _ xs y) _ (refl, k))))
fine (s_leaf (s_assert {e = e} x)) = λ o l g n K k. join (code_exp e) (i_assert ∷ []) _ K (phrase o l false false e (grammar_proper x) false false g n _ (λ r g n z. (refl, k)))
fine (s_leaf s_print_alone) = λ o l g n K k. (refl, (refl, k))
fine (s_leaf (s_print {es = es} x)) = λ o l g n K k. (refl, asked o l es (listed-all Proper _ AnExpression proper_expression _ es x) K k)
fine (s_leaf s_skip) = λ o l g n K k. (refl, k)
fine (s_leaf s_goto) = λ o l g n K k. (refl, (refl, k))
fine (s_leaf s_break) = λ o l g n K k. (refl, k)
fine (s_leaf s_timeout) = λ o l g n K k. (refl, k)
fine (s_leaf s_else) = λ o l g n K k. (refl, k)
fine (s_leaf (s_run {es = es} x)) = λ o l g n K k. (refl, (refl, asked o l es (maybe_all Proper _ AnExpression proper_expression _ es x) K k))
fine (s_leaf (s_set_run {r = r} {w = w} {es = es} x y)) = λ o l g n K k.
    join (code_exp r ++ i_target ∷ i_name w ∷ i_set_run ∷ each code_argument es) (i_end ∷ []) _ K
    (referred o l r (grammar_proper x) g n (i_target ∷ i_name w ∷ i_set_run ∷ each code_argument es) _
    (λ g n. (refl, (refl, (refl, arguments o l es (maybe_all Proper _ AnExpression proper_expression _ es y) _ (refl, k))))))
fine (s_if {os = os} x) = λ o l g n K k. (refl, join (code_tree os) (i_fi ∷ []) _ K (fine x o l _ ((close_fits o l).0, subst K (sym (fi_step o l)) k)))
fine (s_do {os = os} x) = λ o l g n K k. (refl, join (code_tree os) (i_od ∷ []) _ K (fine x o (l + 1) _ ((close_fits o l).1, subst K (sym (od_step o l)) k)))
fine (s_bare x) = λ o l b n K k. fine x o l (pick b 1 0) n K k
fine (s_label {w = w} {a = a} x) = λ o l b n K k. label-passes o l b n w (code_tree a) K (fine x o l 2 0 K k)
fine (q_last {s = s} x y) = λ o l b n K k. join (code_tree s) [] _ K (fine x o l b n _ k)
fine (q_then {s = s} {q = q} x y z) = λ o l b n K k. join (code_tree s) (code_tree q) _ K (fine x o l b n _ (fine z o l false 0 K k))
fine (o_last {q = q} x) = λ o l K k. (refl, join (code_tree q) (i_end_option ∷ []) _ K (fine x (o + 1) l true 0 _ ((close_fits o l).2, k)))
fine (o_also {q = q} {os = os} x y) = λ o l K k. (refl, join (code_tree q) (i_end_option ∷ code_tree os) _ K (fine x (o + 1) l true 0 _ ((close_fits o l).2, fine y o l K k)))

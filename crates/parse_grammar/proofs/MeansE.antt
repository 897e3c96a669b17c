-- Expressions and arguments: each right side means what its nonterminal means.
use mathlib.Core.Path.{◌≡◌, refl, ap, sym as inv, ◌∙◌}
use mathlib.Core.List.{List, [], ◌∷◌, ◌++◌, append_assoc, append-nil}
use Prim.Native.Nat.{ℕ, suc}
use Rattle.base_kinds.specs.Kinds.{Token, sym, name, level}
use Rattle.spec_grammar.specs.Marks.{'lpar, 'rpar, '[, '], 'comma, ':, '->, 'eval, 'false, 'true, k_len}
use Rattle.parse_grammar.specs.Marks.{'len}
use Rattle.spec_grammar.specs.Tree.{plain, indexed, num, tru, fls, get, query, unary, binary, choice, Expr, into, equal, exactly, exactly_true, exactly_false}
use Rattle.spec_grammar.specs.Grammar.{Listed, one, more, no_list, a_list, commas, call, IsUnary, E, e_plain, e_index, e_number, e_true, e_false, is_len, e_query, e_group, e_choice, e_unary, e_binary, e_up, AnExpression, AReference, r_into, r_eval, r_number, r_true, r_false}
use Rattle.base_codes.specs.Items.{Item, i_argument, i_binary, i_choice, i_constant, i_equal, i_express, i_false, i_index, i_into, i_query, i_name, i_otherwise, i_plain, i_true, i_unary}
use Rattle.parse_code.specs.Code.{each, code_exp, code_argument}
use Rattle.parse_grammar.specs.Engine.{nt, tm, act}
use Rattle.parse_grammar.specs.Productions.{NT, e1, n_operand, n_ref, n_ix, n_opened, n_closing, n_argument, n_arguments, n_more_arguments, n_received, any_name, any_number, key, operation, tails}
use Rattle.parse_grammar.proofs.Meaning.{Phrase, Further, no_further, further, Rest, Goes_on, Exps, Tail, NG, Given, Means}

-- what is written, piece by piece
pub out_two : (p q x y : List Item) → p ≡ x → q ≡ y → p ++ (q ++ []) ≡ x ++ y
out_two p q x y h i = rw (h, i, append-nil y)

pub out_on : (p q x c : List Item) → p ≡ x → x ++ q ≡ c → p ++ (q ++ []) ≡ c
out_on p q x c h i = rw (h, append-nil q) i

pub out_operator : (c q x p d : List Item) (i : Item) → q ≡ x → c ++ x ++ i ∷ [] ++ p ≡ d → c ++ (q ++ (i ∷ (p ++ []))) ≡ d
out_operator c q x p d i h e = rw (h, append-nil p) (simp append_assoc at e)

-- a separator moved to those before it
pub moved : (xs us vs : List Token) (c : Token) → xs ++ us ++ (c ∷ (vs ++ [])) ≡ xs ++ (us ++ c ∷ []) ++ vs
moved xs us vs c = simp (append_assoc, append-nil)

-- the same phrase, where nothing more follows; or after what is already known to have been written
pub carry : {A : Type 0} (X : List Token → A → Type 0) (f : A → List Item) (c p : List Item) (us ts : List Token) → us ≡ ts → (a : A) × X ts a × (c ++ p ≡ f a) → (a : A) × X us a × (c ++ (p ++ []) ≡ f a)
carry X f c p us ts e (a, x, h) = (a, rw e x, rw (append-nil p) h)

pub carry_on : {A : Type 0} (X : List Token → A → Type 0) (f : A → List Item) (p q c : List Item) (us ts : List Token) → us ≡ ts → p ≡ c → (a : A) × X ts a × (c ++ q ≡ f a) → (a : A) × X us a × (p ++ (q ++ []) ≡ f a)
carry_on X f p q c us ts e i (a, x, h) = (a, rw e x, out_on p q c (f a) i h)

pub moved-one : (xs vs : List Token) (c : Token) → xs ++ (c ∷ (vs ++ [])) ≡ xs ++ c ∷ [] ++ vs
moved-one xs vs c = simp (append_assoc, append-nil)

pub none_after : (ts us : List Token) → ts ++ (us ++ []) ≡ ts ++ us
none_after ts us = rw append-nil

-- the further elements of a list behind its first
pub joined : {A : Type 0} (X : List Token → A → Type 0) {s : Token} {ts us : List Token} {a : A} {l : List A} → X ts a → Further s X us l → Listed s X (ts ++ us) (a ∷ l)
joined X x no_further = rw append-nil (one x)
joined X x (further y) = more x y

pub no_more : {A : Type 0} (s : Token) (X : List Token → A → Type 0) (f : A → List Item) → Given [] (Rest s X f)
no_more s X f = ([], no_further, refl)

pub one_more_lem : {A : Type 0} (j : ℕ) (n m : NT) (X : List Token → A → Type 0) (f : A → List Item) → ((ts : List Token) (p : List Item) → NG n ts p → Phrase X f ts p) →
    ((ts : List Token) (p : List Item) → NG m ts p → Rest (sym j) X f ts p) → Given (key (sym j) ∷ nt n ∷ nt m ∷ []) (Rest (sym j) X f)
one_more_lem j n m X f g h ts p x us q y =
    let (a, x', i) = g ts p x in let (l, y', i') = h us q y in (a ∷ l, rw append-nil (further (joined X x' y')), out_two p q (f a) (each f l) i i')

pub message_commas : {A : Type 0} (m : NT) (X : List Token → A → Type 0) (f : A → List Item) → ((ts : List Token) (p : List Item) → NG m ts p → Rest 'comma X f ts p) →
    Given (nt m ∷ []) (Goes_on X f)
message_commas m X f h us q y xs a x = let (l, y', i) = h us q y in (a ∷ l, rw append-nil (commas (joined X x y')), ap (f a ++◌) (append-nil q ∙ i))

pub message_call : {A : Type 0} (n m : NT) (X : List Token → A → Type 0) (f : A → List Item) → ((ts : List Token) (p : List Item) → NG n ts p → Phrase X f ts p) →
    ((ts : List Token) (p : List Item) → NG m ts p → Rest 'comma X f ts p) → Given (key 'lpar ∷ nt n ∷ nt m ∷ key 'rpar ∷ []) (Goes_on X f)
message_call n m X f g h ts p x us q y xs a z =
    let (b, x', i) = g ts p x in let (l, y', i') = h us q y in (a ∷ b ∷ l, rw (append_assoc, append_assoc) at (call z (joined X x' y')), ap (f a ++◌) (out_two p q (f b) (each f l) i i'))

-- expressions
pub tighter : (l : ℕ) (n t : NT) → ((us : List Token) (p : List Item) → NG n us p → Exps (suc l) us p) → ((us : List Token) (p : List Item) → NG t us p → Tail l us p) →
    Given (nt n ∷ nt t ∷ []) (Exps l)
tighter l n t f g ts p x us q y =
    let (e, z, h) = f ts p x in carry_on (E l) code_exp p q (code_exp e) (ts ++ (us ++ [])) (ts ++ us) (none_after ts us) h (g us q y ts e (e_up z))

pub no_operator : (l : ℕ) → Given [] (Tail l)
no_operator l xs a x = (a, rw append-nil x, append-nil _)

carry_operator : (l b : ℕ) (c q x p : List Item) (xs ys us : List Token) → q ≡ x → (e : Expr) × E l (xs ++ sym b ∷ ys ++ us) e × (c ++ x ++ i_binary b ∷ [] ++ p ≡ code_exp e) →
    (e : Expr) × E l (xs ++ (sym b ∷ (ys ++ (us ++ [])))) e × (c ++ (q ++ (i_binary b ∷ (p ++ []))) ≡ code_exp e)
carry_operator l b c q x p xs ys us h (e, y, i) = (e, rw append-nil (rw append_assoc at y), out_operator c q x p (code_exp e) (i_binary b) h i)

pub an_operator : (l b : ℕ) (n t : NT) → level b ≡ suc l → ((us : List Token) (p : List Item) → NG n us p → Exps (suc (suc l)) us p) → ((us : List Token) (p : List Item) → NG t us p → Tail (suc l) us p) →
    Given (operation n t b) (Tail (suc l))
an_operator l b n t i f g ys q y us p z xs a x =
    let (e, y', h) = f ys q y in carry_operator (suc l) b (code_exp a) q (code_exp e) p xs ys us h (g us p z (xs ++ sym b ∷ ys) (binary b a e) (e_binary i x y'))

-- an operand and the operators of all levels
abbrev After : ℕ → List Token → List Item → Type 0
After l w o = (xs : List Token) (a : Expr) → E l xs a → (e : Expr) × E 1 (xs ++ w) e × (code_exp a ++ o ≡ code_exp e ++ i_express ∷ [])

after_last : {u : List Token} {p : List Item} → Tail 1 u p → After 1 (u ++ []) (p ++ i_express ∷ [])
after_last {u} {p} f xs a x = let (b, y, h) = f xs a x in (b, rw append-nil y, inv (append_assoc (code_exp a) p (i_express ∷ [])) ∙ ap (◌++ i_express ∷ []) h)

after_next : (l : ℕ) {u v : List Token} {p q : List Item} → Tail (suc l) u p → After l v q → After (suc l) (u ++ v) (p ++ q)
after_next l {u} {v} {p} {q} f g xs a x =
    let (b, y, h) = f xs a x in let (e, z, i) = g (xs ++ u) b (e_up y) in (e, rw append_assoc at z, inv (append_assoc (code_exp a) p q) ∙ ap (◌++ q) h ∙ i)

pub ten : (xs : List Token) (a : Expr) → E 11 xs a → Given (tails (act i_express ∷ [])) (λ w o. (e : Expr) × E 1 (xs ++ w) e × (code_exp a ++ o ≡ code_exp e ++ i_express ∷ []))
ten xs a x u10 p10 f10 u9 p9 f9 u8 p8 f8 u7 p7 f7 u6 p6 f6 u5 p5 f5 u4 p4 f4 u3 p3 f3 u2 p2 f2 u1 p1 f1 =
    let r2 = after_next 1 f2 (after_last f1) in
    let r4 = after_next 3 f4 (after_next 2 f3 r2) in
    let r6 = after_next 5 f6 (after_next 4 f5 r4) in
    let r8 = after_next 7 f8 (after_next 6 f7 r6) in
    after_next 9 f10 (after_next 8 f9 r8) xs a (e_up x)

pub means_operand_ref : Means n_operand (nt n_ref ∷ [])
means_operand_ref ts p (r, x, h) = (get r, rw append-nil (e_up x), append-nil p ∙ h)

pub means_operand_opened : Means n_operand (nt n_opened ∷ [])
means_operand_opened ts p (e, x, h) = (e, rw append-nil x, append-nil p ∙ h)

pub means-ref : Means n_ref (tm any_name ∷ nt n_ix ∷ [])
means-ref v ts p x = carry AReference code_exp (i_name v ∷ []) p (name v ∷ (ts ++ [])) (name v ∷ ts) (none_after (name v ∷ []) ts) (x v)

pub means_ix_plain : Means n_ix (act i_plain ∷ [])
means_ix_plain v = (plain v, e_plain, refl)

pub means_ix_index : Means n_ix (key '[ ∷ nt e1 ∷ key '] ∷ act i_index ∷ [])
means_ix_index ts p (e, x, h) v = (indexed v e, e_index x, rw h)

pub means-number : Means n_opened (tm any_number ∷ [])
means-number n = (num n, e_number, refl)

pub means_true : Means n_opened (key 'true ∷ act i_true ∷ [])
means_true = (tru, e_true, refl)

pub means_false : Means n_opened (key 'false ∷ act i_false ∷ [])
means_false = (fls, e_false, refl)

pub means_len : Means n_opened (key 'len ∷ key 'lpar ∷ nt n_ref ∷ key 'rpar ∷ act (i_query k_len) ∷ [])
means_len ts p (r, x, h) = (query k_len r, e_query is_len x, rw h)

pub means-round : Means n_opened (key 'lpar ∷ nt e1 ∷ nt n_closing ∷ [])
means-round ts p (e, x, h) us q f =
    carry_on (E 11) code_exp p q (code_exp e) ('lpar ∷ (ts ++ (us ++ []))) ('lpar ∷ (ts ++ us)) (none_after ('lpar ∷ ts) us) h (f ts e x)

pub means_unary : (b : ℕ) → IsUnary b → Means n_opened (key (sym b) ∷ nt n_operand ∷ act (i_unary b) ∷ [])
means_unary b u ts p (e, x, h) = (unary b e, rw append-nil (e_unary u x), rw h)

pub means-group : Means n_closing (key 'rpar ∷ [])
means-group xs a x = (a, e_group x, append-nil _)

pub means_choice : Means n_closing (key '-> ∷ nt e1 ∷ key ': ∷ act i_otherwise ∷ nt e1 ∷ key 'rpar ∷ act i_choice ∷ [])
means_choice ys p (b, y, h) zs q (c, z, i) xs a x =
    (choice a b c, simp append_assoc at (e_choice x y z), simp (h, i, append_assoc))

-- arguments
pub means-argument : Means n_argument (nt e1 ∷ act i_argument ∷ [])
means-argument ts p (e, x, h) = (e, rw append-nil x, rw h)

pub means_no_arguments : Means n_arguments []
means_no_arguments = ([], no_list, refl)

pub means-arguments : Means n_arguments (nt n_argument ∷ nt n_more_arguments ∷ [])
means-arguments ts p (e, x, h) us q (l, y, i) = (e ∷ l, rw append-nil (a_list (joined AnExpression x y)), out_two p q (code_argument e) (each code_argument l) h i)

pub means_into : Means n_received (nt n_ref ∷ act i_into ∷ [])
means_into ts p (r, x, h) = (into r, rw append-nil (r_into x), rw h)

pub means-eval : Means n_received (key 'eval ∷ key 'lpar ∷ nt e1 ∷ key 'rpar ∷ act i_equal ∷ [])
means-eval ts p (e, x, h) = (equal e, r_eval x, rw h)

pub means_exactly : Means n_received (tm any_number ∷ act i_constant ∷ [])
means_exactly n = (exactly n, r_number, refl)

pub means_exactly_true : Means n_received (key 'true ∷ act i_true ∷ act i_constant ∷ [])
means_exactly_true = (exactly_true, r_true, refl)

pub means_exactly_false : Means n_received (key 'false ∷ act i_false ∷ act i_constant ∷ [])
means_exactly_false = (exactly_false, r_false, refl)

-- The grammar and the guide pass the machine's conditions. All but the shortest texts of each nonterminal (`makes`) is a test that antt computes.
use mathlib.Core.Path.{◌≡◌, refl, subst}
use mathlib.Core.Bool.{Bool, true, false, cond}
use mathlib.Core.Option.{Option, none, some}
use mathlib.Core.List.{List, [], ◌∷◌}
use Prim.Native.Nat.{ℕ, ◌<◌, min}
use lib.Dec.{T, eqb, ltb, eqb→eq, ltb→lt}
use borrow.Author.Tests.{eq-eqb}
use native.Mathlib.Omega.{arith}
use Rattle.base_kinds.specs.Kinds.{Token, sym, name, number, text}
use Rattle.spec_grammar.specs.Marks.{'::, '=, 'lbrace, 'lpar, 'mtype, 'proctype, 'rbrace, 'rpar, 'run, 'semi, 'skip}
use Rattle.parse_grammar.specs.Marks.{'bit, 'chan}
use Rattle.base_codes.specs.Items.{Item}
use Rattle.parse_grammar.specs.Engine.{nt, In, here, there, L, done, emit, eat, by, first, bound, finish}
use Rattle.parse_grammar.specs.Productions.{NT, e1, e2, e3, e4, e5, e6, e7, e8, e9, e10, t1, t2, t3, t4, t5, t6, t7, t8, t9, t10, n_operand, n_ref, n_ix, n_opened, n_closing, n_argument, n_arguments, n_more_arguments, n_sent, n_received, n_more_received, n_got, n_statement, n_after_name, n_action, n_after_ref, n_right_side, n_other, n_sequence, n_more_statements, n_after_separator, n_option, n_more_options, n_plain_type, n_type, n_value, n_set, n_variable, n_size, n_more_variables, n_chan_variable, n_chan_rest, n_chan_value, n_field, n_more_fields, n_more_chan_variables, n_declaration, n_body, n_items, n_parted, n_more_parted, n_parameters, n_group, n_more_groups, n_parameter, n_more_parameters, n_unit, n_after_mtype, n_message, n_more_messages, n_activity, n_process, n_model, n_more_units, Ter, sy, any_name, any_number, any_text, Right, eats, prods, G}
use Rattle.parse_grammar.specs.Guide.{U}
use Rattle.parse_grammar.proofs.Core.{Good, Safe, safe?, safe_by_test}
use Rattle.parse_grammar.proofs.Tests.{below, below_out, implies, implies_out, never, is_some_lem, both_left, both_right, one_of, Fits}
use Rattle.base_bytes.specs.Choice.{both}

-- a statement of each of a list; a test of each
abbrev pub Each : {X : Type 0} → (X → Type 0) → List X → Type 0
Each Q [] = Unit {0}
Each Q (x ∷ l) = Q x × Each Q l

pub each_in : {X : Type 0} (Q : X → Type 0) (l : List X) → Each Q l → (x : X) → In x l → Q x
each_in Q (y ∷ l) u x here = u.0
each_in Q (y ∷ l) u x (there m) = each_in Q l u.1 x m
each_in {X = X} Q [] u x x4 = elim x4 [ ]

abbrev pub all : {X : Type 0} → (X → Bool) → List X → Bool
all p [] = true
all p (x ∷ l) = both (p x) (all p l)

pub all_in : {X : Type 0} (p : X → Bool) (l : List X) → T (all p l) → (x : X) → In x l → T (p x)
all_in p (y ∷ l) t x here = both_left (p y) (all p l) t
all_in p (y ∷ l) t x (there m) = all_in p l (both_right (p y) (all p l) t) x m
all_in {X = X} p [] t x x4 = elim x4 [ ]

-- the number of kinds, the clipped one included
abbrev pub K : ℕ
K = 74

-- THE TESTS: what may follow, what may begin, the cost of each right side; one right side for each kind; what an empty one writes
abbrev safe_row : NT → Right → Bool
safe_row n r = safe? G U K r (U.fol n)

abbrev start_row : NT → Right → Bool
start_row n r = below K (λ i. implies (first G U r never i) (U.starts n i))

abbrev cost_row : NT → Right → Bool
cost_row n r = ltb (bound G U r) (U.cost n)

abbrev one_row : NT → ℕ → Bool
one_row n i = one_of (λ r. first G U r (U.fol n) i) (prods n)

abbrev Tested : NT → Type 0
Tested n = T (all (safe_row n) (prods n)) × T (all (start_row n) (prods n)) × T (all (cost_row n) (prods n)) × T (below K (one_row n)) × Each (λ r. Fits (finish G U r) (U.nul n)) (prods n)

tested : (n : NT) → Tested n
tested e1 = (tt, tt, tt, tt, (tt, tt))
tested e2 = (tt, tt, tt, tt, (tt, tt))
tested e3 = (tt, tt, tt, tt, (tt, tt))
tested e4 = (tt, tt, tt, tt, (tt, tt))
tested e5 = (tt, tt, tt, tt, (tt, tt))
tested e6 = (tt, tt, tt, tt, (tt, tt))
tested e7 = (tt, tt, tt, tt, (tt, tt))
tested e8 = (tt, tt, tt, tt, (tt, tt))
tested e9 = (tt, tt, tt, tt, (tt, tt))
tested e10 = (tt, tt, tt, tt, (tt, tt))
tested t1 = (tt, tt, tt, tt, (refl, (tt, tt)))
tested t2 = (tt, tt, tt, tt, (refl, (tt, tt)))
tested t3 = (tt, tt, tt, tt, (refl, (tt, tt)))
tested t4 = (tt, tt, tt, tt, (refl, (tt, tt)))
tested t5 = (tt, tt, tt, tt, (refl, (tt, tt)))
tested t6 = (tt, tt, tt, tt, (refl, (tt, (tt, tt))))
tested t7 = (tt, tt, tt, tt, (refl, (tt, (tt, (tt, (tt, tt))))))
tested t8 = (tt, tt, tt, tt, (refl, (tt, (tt, tt))))
tested t9 = (tt, tt, tt, tt, (refl, (tt, (tt, tt))))
tested t10 = (tt, tt, tt, tt, (refl, (tt, (tt, (tt, tt)))))
tested n_operand = (tt, tt, tt, tt, (tt, (tt, tt)))
tested n_ref = (tt, tt, tt, tt, (tt, tt))
tested n_ix = (tt, tt, tt, tt, (refl, (tt, tt)))
tested n_opened = (tt, tt, tt, tt, (tt, (tt, (tt, (tt, (tt, (tt, (tt, (tt, tt)))))))))
tested n_closing = (tt, tt, tt, tt, (tt, (tt, tt)))
tested n_argument = (tt, tt, tt, tt, (tt, tt))
tested n_arguments = (tt, tt, tt, tt, (refl, (tt, tt)))
tested n_more_arguments = (tt, tt, tt, tt, (refl, (tt, tt)))
tested n_sent = (tt, tt, tt, tt, (refl, (tt, tt)))
tested n_received = (tt, tt, tt, tt, (tt, (tt, (tt, (tt, (tt, tt))))))
tested n_more_received = (tt, tt, tt, tt, (refl, (tt, tt)))
tested n_got = (tt, tt, tt, tt, (refl, (tt, tt)))
tested n_statement = (tt, tt, tt, tt, (tt, (tt, tt)))
tested n_after_name = (tt, tt, tt, tt, (tt, (refl, tt)))
tested n_action = (tt, tt, tt, tt, (tt, (tt, tt)))
tested n_after_ref = (tt, tt, tt, tt, (tt, (tt, (tt, (tt, (tt, (refl, tt)))))))
tested n_right_side = (tt, tt, tt, tt, (tt, (tt, tt)))
tested n_other = (tt, tt, tt, tt, (tt, (tt, (tt, (tt, (tt, (tt, (tt, (tt, (tt, (tt, (tt, tt))))))))))))
tested n_sequence = (tt, tt, tt, tt, (tt, tt))
tested n_more_statements = (tt, tt, tt, tt, (refl, (tt, (tt, tt))))
tested n_after_separator = (tt, tt, tt, tt, (refl, (tt, (tt, (tt, tt)))))
tested n_option = (tt, tt, tt, tt, (tt, tt))
tested n_more_options = (tt, tt, tt, tt, (refl, (tt, tt)))
tested n_plain_type = (tt, tt, tt, tt, (tt, (tt, (tt, (tt, (tt, (tt, tt)))))))
tested n_type = (tt, tt, tt, tt, (tt, (tt, (tt, tt))))
tested n_value = (tt, tt, tt, tt, (tt, (tt, (tt, (tt, (tt, tt))))))
tested n_set = (tt, tt, tt, tt, (refl, (tt, tt)))
tested n_variable = (tt, tt, tt, tt, (tt, tt))
tested n_size = (tt, tt, tt, tt, (refl, (tt, tt)))
tested n_more_variables = (tt, tt, tt, tt, (refl, (tt, tt)))
tested n_chan_variable = (tt, tt, tt, tt, (tt, tt))
tested n_chan_rest = (tt, tt, tt, tt, (refl, (tt, (tt, tt))))
tested n_chan_value = (tt, tt, tt, tt, (tt, (tt, tt)))
tested n_field = (tt, tt, tt, tt, (tt, tt))
tested n_more_fields = (tt, tt, tt, tt, (refl, (tt, tt)))
tested n_more_chan_variables = (tt, tt, tt, tt, (refl, (tt, tt)))
tested n_declaration = (tt, tt, tt, tt, (tt, (tt, (tt, tt))))
tested n_body = (tt, tt, tt, tt, (tt, tt))
tested n_items = (tt, tt, tt, tt, (tt, (tt, tt)))
tested n_parted = (tt, tt, tt, tt, (tt, (tt, tt)))
tested n_more_parted = (tt, tt, tt, tt, (tt, (tt, (tt, tt))))
tested n_parameters = (tt, tt, tt, tt, (refl, (tt, tt)))
tested n_group = (tt, tt, tt, tt, (tt, tt))
tested n_more_groups = (tt, tt, tt, tt, (refl, (tt, tt)))
tested n_parameter = (tt, tt, tt, tt, (tt, tt))
tested n_more_parameters = (tt, tt, tt, tt, (refl, (tt, tt)))
tested n_unit = (tt, tt, tt, tt, (tt, (tt, (tt, (tt, (tt, (tt, tt)))))))
tested n_after_mtype = (tt, tt, tt, tt, (tt, (tt, tt)))
tested n_message = (tt, tt, tt, tt, (tt, tt))
tested n_more_messages = (tt, tt, tt, tt, (refl, (tt, tt)))
tested n_activity = (tt, tt, tt, tt, (tt, (tt, tt)))
tested n_process = (tt, tt, tt, tt, (tt, tt))
tested n_model = (tt, tt, tt, tt, (tt, tt))
tested n_more_units = (tt, tt, tt, tt, (refl, (tt, (tt, tt))))

-- the empty text of each nonterminal that has one
abbrev Empty : NT → Option (List Item) → Type 0
Empty n none = Unit {0}
Empty n (some a) = L G (nt n ∷ []) [] a

empty : (n : NT) → Empty n (U.nul n)
empty e1 = tt
empty e2 = tt
empty e3 = tt
empty e4 = tt
empty e5 = tt
empty e6 = tt
empty e7 = tt
empty e8 = tt
empty e9 = tt
empty e10 = tt
empty t1 = by here done
empty t2 = by here done
empty t3 = by here done
empty t4 = by here done
empty t5 = by here done
empty t6 = by here done
empty t7 = by here done
empty t8 = by here done
empty t9 = by here done
empty t10 = by here done
empty n_operand = tt
empty n_ref = tt
empty n_ix = by here (emit done)
empty n_opened = tt
empty n_closing = tt
empty n_argument = tt
empty n_arguments = by here done
empty n_more_arguments = by here done
empty n_sent = by here (by here done)
empty n_received = tt
empty n_more_received = by here done
empty n_got = by here (by here done)
empty n_statement = tt
empty n_after_name = by (there here) (by here (emit (by (there (there (there (there (there here))))) (by here (by here (by here (by here (by here (by here (by here (by here (by here (by here (emit done))))))))))))))
empty n_action = tt
empty n_after_ref = by (there (there (there (there (there here))))) (by here (by here (by here (by here (by here (by here (by here (by here (by here (by here (emit done)))))))))))
empty n_right_side = tt
empty n_other = tt
empty n_sequence = tt
empty n_more_statements = by here done
empty n_after_separator = by here done
empty n_option = tt
empty n_more_options = by here done
empty n_plain_type = tt
empty n_type = tt
empty n_value = tt
empty n_set = by here done
empty n_variable = tt
empty n_size = by here done
empty n_more_variables = by here done
empty n_chan_variable = tt
empty n_chan_rest = by here done
empty n_chan_value = tt
empty n_field = tt
empty n_more_fields = by here done
empty n_more_chan_variables = by here done
empty n_declaration = tt
empty n_body = tt
empty n_items = tt
empty n_parted = tt
empty n_more_parted = tt
empty n_parameters = by here done
empty n_group = tt
empty n_more_groups = by here done
empty n_parameter = tt
empty n_more_parameters = by here done
empty n_unit = tt
empty n_after_mtype = tt
empty n_message = tt
empty n_more_messages = by here done
empty n_activity = tt
empty n_process = tt
empty n_model = tt
empty n_more_units = by here done

-- a text of each nonterminal
abbrev Makes : NT → Type 0
Makes n = (w : List Token) × (o : List Item) × L G (nt n ∷ []) w o

makes : (n : NT) → Makes n
makes e1 = (number 0 ∷ [], _, by here (by here (by here (by here (by here (by here (by here (by here (by here (by here (by (there here) (by here (eat refl (by here (by here (by here (by here (by here (by here (by here (by here (by here (by here done)))))))))))))))))))))))
makes e2 = (number 0 ∷ [], _, by here (by here (by here (by here (by here (by here (by here (by here (by here (by (there here) (by here (eat refl (by here (by here (by here (by here (by here (by here (by here (by here (by here done)))))))))))))))))))))
makes e3 = (number 0 ∷ [], _, by here (by here (by here (by here (by here (by here (by here (by here (by (there here) (by here (eat refl (by here (by here (by here (by here (by here (by here (by here (by here done)))))))))))))))))))
makes e4 = (number 0 ∷ [], _, by here (by here (by here (by here (by here (by here (by here (by (there here) (by here (eat refl (by here (by here (by here (by here (by here (by here (by here done)))))))))))))))))
makes e5 = (number 0 ∷ [], _, by here (by here (by here (by here (by here (by here (by (there here) (by here (eat refl (by here (by here (by here (by here (by here (by here done)))))))))))))))
makes e6 = (number 0 ∷ [], _, by here (by here (by here (by here (by here (by (there here) (by here (eat refl (by here (by here (by here (by here (by here done)))))))))))))
makes e7 = (number 0 ∷ [], _, by here (by here (by here (by here (by (there here) (by here (eat refl (by here (by here (by here (by here done)))))))))))
makes e8 = (number 0 ∷ [], _, by here (by here (by here (by (there here) (by here (eat refl (by here (by here (by here done)))))))))
makes e9 = (number 0 ∷ [], _, by here (by here (by (there here) (by here (eat refl (by here (by here done)))))))
makes e10 = (number 0 ∷ [], _, by here (by (there here) (by here (eat refl (by here done)))))
makes t1 = ([], _, empty t1)
makes t2 = ([], _, empty t2)
makes t3 = ([], _, empty t3)
makes t4 = ([], _, empty t4)
makes t5 = ([], _, empty t5)
makes t6 = ([], _, empty t6)
makes t7 = ([], _, empty t7)
makes t8 = ([], _, empty t8)
makes t9 = ([], _, empty t9)
makes t10 = ([], _, empty t10)
makes n_operand = (number 0 ∷ [], _, by (there here) (by here (eat refl done)))
makes n_ref = (name [] ∷ [], _, by here (eat refl (by here (emit done))))
makes n_ix = ([], _, empty n_ix)
makes n_opened = (number 0 ∷ [], _, by here (eat refl done))
makes n_closing = ('rpar ∷ [], _, by here (eat refl done))
makes n_argument = (number 0 ∷ [], _, by here (by here (by here (by here (by here (by here (by here (by here (by here (by here (by here (by (there here) (by here (eat refl (by here (by here (by here (by here (by here (by here (by here (by here (by here (by here (emit done)))))))))))))))))))))))))
makes n_arguments = ([], _, empty n_arguments)
makes n_more_arguments = ([], _, empty n_more_arguments)
makes n_sent = ([], _, empty n_sent)
makes n_received = (number 0 ∷ [], _, by (there (there here)) (eat refl (emit done)))
makes n_more_received = ([], _, empty n_more_received)
makes n_got = ([], _, empty n_got)
makes n_statement = ('skip ∷ [], _, by (there here) (by (there (there (there here))) (eat refl (emit done))))
makes n_after_name = ([], _, empty n_after_name)
makes n_action = ('skip ∷ [], _, by (there here) (by (there (there (there here))) (eat refl (emit done))))
makes n_after_ref = ([], _, empty n_after_ref)
makes n_right_side = ('run ∷ name [] ∷ 'lpar ∷ 'rpar ∷ [], _, by (there here) (eat refl (eat refl (emit (eat refl (by here (eat refl (emit done))))))))
makes n_other = ('skip ∷ [], _, by (there (there (there here))) (eat refl (emit done)))
makes n_sequence = ('skip ∷ [], _, by here (by (there here) (by (there (there (there here))) (eat refl (emit (by here done))))))
makes n_more_statements = ([], _, empty n_more_statements)
makes n_after_separator = ([], _, empty n_after_separator)
makes n_option = (':: ∷ 'skip ∷ [], _, by here (eat refl (emit (by here (by (there here) (by (there (there (there here))) (eat refl (emit (by here (emit done))))))))))
makes n_more_options = ([], _, empty n_more_options)
makes n_plain_type = ('bit ∷ [], _, by here (eat refl (emit done)))
makes n_type = ('mtype ∷ [], _, by (there here) (eat refl (emit done)))
makes n_value = (number 0 ∷ [], _, by here (eat refl (emit done)))
makes n_set = ([], _, empty n_set)
makes n_variable = (name [] ∷ [], _, by here (eat refl (emit (by here (by here done)))))
makes n_size = ([], _, empty n_size)
makes n_more_variables = ([], _, empty n_more_variables)
makes n_chan_variable = (name [] ∷ [], _, by here (eat refl (emit (by here done))))
makes n_chan_rest = ([], _, empty n_chan_rest)
makes n_chan_value = (number 0 ∷ [], _, by here (by here (eat refl (emit done))))
makes n_field = ('mtype ∷ [], _, by here (by (there here) (eat refl (emit (emit done)))))
makes n_more_fields = ([], _, empty n_more_fields)
makes n_more_chan_variables = ([], _, empty n_more_chan_variables)
makes n_declaration = ('chan ∷ name [] ∷ [], _, by (there (there here)) (eat refl (emit (emit (by here (eat refl (emit (by here (by here done)))))))))
makes n_body = ('lbrace ∷ 'skip ∷ 'rbrace ∷ [], _, by here (eat refl (emit (by (there here) (by here (by (there here) (by (there (there (there here))) (eat refl (emit (by here (eat refl (emit done))))))))))))
makes n_items = ('skip ∷ [], _, by (there here) (by here (by (there here) (by (there (there (there here))) (eat refl (emit (by here done)))))))
makes n_parted = ('semi ∷ 'skip ∷ [], _, by here (eat refl (by (there (there here)) (by (there here) (by here (by (there here) (by (there (there (there here))) (eat refl (emit (by here done))))))))))
makes n_more_parted = ('skip ∷ [], _, by (there (there here)) (by (there here) (by here (by (there here) (by (there (there (there here))) (eat refl (emit (by here done))))))))
makes n_parameters = ([], _, empty n_parameters)
makes n_group = ('mtype ∷ name [] ∷ [], _, by here (by (there here) (eat refl (emit (emit (by here (eat refl (emit (by here done)))))))))
makes n_more_groups = ([], _, empty n_more_groups)
makes n_parameter = (name [] ∷ [], _, by here (eat refl (emit done)))
makes n_more_parameters = ([], _, empty n_more_parameters)
makes n_unit = ('chan ∷ name [] ∷ [], _, by (there (there here)) (eat refl (emit (emit (by here (eat refl (emit (by here (by here done)))))))))
makes n_after_mtype = ('= ∷ 'lbrace ∷ name [] ∷ 'rbrace ∷ [], _, by here (eat refl (emit (eat refl (by here (eat refl (emit (by here (eat refl done)))))))))
makes n_message = (name [] ∷ [], _, by here (eat refl (emit done)))
makes n_more_messages = ([], _, empty n_more_messages)
makes n_activity = ('proctype ∷ name [] ∷ 'lpar ∷ 'rpar ∷ 'lbrace ∷ 'skip ∷ 'rbrace ∷ [], _, by here (eat refl (eat refl (emit (by here (eat refl (by here (eat refl (by here (eat refl (emit (by (there here) (by here (by (there here) (by (there (there (there here))) (eat refl (emit (by here (eat refl (emit done))))))))))))))))))))
makes n_process = ('lpar ∷ 'rpar ∷ 'lbrace ∷ 'skip ∷ 'rbrace ∷ [], _, by here (eat refl (by here (eat refl (by here (eat refl (emit (by (there here) (by here (by (there here) (by (there (there (there here))) (eat refl (emit (by here (eat refl (emit done))))))))))))))))
makes n_model = ('chan ∷ name [] ∷ [], _, by here (by (there (there here)) (eat refl (emit (emit (by here (eat refl (emit (by here (by here (by here done)))))))))))
makes n_more_units = ([], _, empty n_more_units)

pub eqb_same : (i : ℕ) → eqb i i ≡ true
eqb_same i = eq-eqb i i refl

eatable : (t : Ter) → (c : Token) × (a : List Item) × (eats t c ≡ some a)
eatable (sy j) = (sym j, [], rw (eqb_same j))
eatable any_name = (name [], _, refl)
eatable any_number = (number 0, _, refl)
eatable any_text = (text [], _, refl)

pub sy_in : (j k : ℕ) (a : List Item) → eats (sy j) (sym k) ≡ some a → (j ≡ k) × ([] ≡ a)
sy_in j k a e = go (eqb j k) refl e
  where
    go : (b : Bool) → eqb j k ≡ b → cond b (some []) none ≡ some a → (j ≡ k) × ([] ≡ a)
    go true h e' = (eqb→eq j k (rw h tt), cc)
    go false h e' = absurd (is_some_lem e')

ranged : (c : Token) → U.kind c < K
ranged c = omega arith

eats_ok : (t : Ter) (c : Token) (a : List Item) → eats t c ≡ some a → T (U.takes t (U.kind c)) × (U.kind c < K)
eats_ok (sy j) (sym k) a e = let h = (sy_in j k a e).0 in (rw (h, eqb_same (min k 73)) tt, ranged (sym k))
eats_ok (sy j) (name w) a e = absurd (is_some_lem e)
eats_ok (sy j) (number n) a e = absurd (is_some_lem e)
eats_ok (sy j) (text w) a e = absurd (is_some_lem e)
eats_ok any_name (sym k) a e = absurd (is_some_lem e)
eats_ok any_name (name w) a e = (tt, ranged (name w))
eats_ok any_name (number n) a e = absurd (is_some_lem e)
eats_ok any_name (text w) a e = absurd (is_some_lem e)
eats_ok any_number (sym k) a e = absurd (is_some_lem e)
eats_ok any_number (name w) a e = absurd (is_some_lem e)
eats_ok any_number (number n) a e = (tt, ranged (number n))
eats_ok any_number (text w) a e = absurd (is_some_lem e)
eats_ok any_text (sym k) a e = absurd (is_some_lem e)
eats_ok any_text (name w) a e = absurd (is_some_lem e)
eats_ok any_text (number n) a e = absurd (is_some_lem e)
eats_ok any_text (text w) a e = (tt, ranged (text w))

pub good : Good G U K
good =
    record {
      eats_ok = eats_ok;
      single = λ n i h. below_out K (one_row n) (tested n).3 i h;
      safe = λ n r m. safe_by_test G U K r (U.fol n) (all_in (safe_row n) (prods n) (tested n).0 r m);
      starts_ok = λ n r m i h. implies_out (first G U r never i) (U.starts n i) (below_out K (λ j. implies (first G U r never j) (U.starts n j)) (all_in (start_row n) (prods n) (tested n).1 r m) i h);
      nul_ok = λ n r m. each_in (λ r. Fits (finish G U r) (U.nul n)) (prods n) (tested n).4 r m;
      cost_ok = λ n r m. ltb→lt (bound G U r) (U.cost n) (all_in (cost_row n) (prods n) (tested n).2 r m);
      empties = λ n a e. subst (Empty n) e (empty n);
      eatable = eatable;
      makes = makes;
    }

pub start : Safe G U K (nt n_model ∷ []) never
start = safe_by_test G U K (nt n_model ∷ []) never tt

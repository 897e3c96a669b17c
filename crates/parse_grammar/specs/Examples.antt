-- Mechanism: worked examples, computed from its definitions; they are held to nothing else.
-- Worked examples, computed: every form of statement, declaration and unit, the message notations, conditionals, labels, refusals with their places, normal text.
use Rattle.std.specs.Prelude.{◌≡◌, refl, List, [], ◌∷◌, ◌++◌, ℕ, zero, suc, replicate}
use Rattle.std.proofs.Math.Option.{none, some}
use Rattle.base_kinds.specs.Kinds.{bytes, Token, name, number, text}
use Rattle.parse_grammar.specs.Marks.{'||, '&&, '==, '+, '*, '!, '?, '!!, 'bool, 'byte, 'chan, 'int, 'len}
use Rattle.spec_grammar.specs.Marks.{'-, 'lpar, 'rpar, '[, '], 'lbrace, 'rbrace, 'comma, 'semi, ':, '::, '->, '=, '++, 'mtype, 'active, 'assert, 'break, 'do, 'else, 'eval, 'false, 'fi, 'goto, 'if, 'init, 'od, 'of, 'printf, 'proctype, 'run, 'skip, 'timeout, 'true, k_bang, k_ask, k_len, '--}
use Rattle.spec_grammar.specs.Tree.{plain, indexed, num, tru, fls, get, query, unary, binary, choice, into, equal, exactly, exactly_true, exactly_false, action, Tree, leaf, express, assign, increment, send, receive, assert, print, skip, goto, break, timeout, else, run, set_run, select, loop, bare, labelled, end, then, over, option, unset, set_number, set_minus, set_true, set_false, set_name, set_channel, variable, declare, group, body, idle, once, times, mtypes, global, process, init, Name, decrement}
use Rattle.parse_code.specs.Code.{code}
use Rattle.parse_grammar.specs.Engine.{ok, bad}
use Rattle.parse_grammar.specs.Guide.{parse_model}
use Rattle.parse_grammar.specs.Judge.{accepted, refused_2, refused_3, judge}
use Rattle.spec_grammar.specs.Print.{print_model}

-- names
abbrev a : Name
a = bytes "a"

abbrev b : Name
b = bytes "b"

abbrev c : Name
c = bytes "c"

abbrev d : Name
d = bytes "d"

abbrev e : Name
e = bytes "e"

abbrev f : Name
f = bytes "f"

abbrev p : Name
p = bytes "p"

abbrev x : Name
x = bytes "x"

-- A statement that is the whole of an `init`.
abbrev as_init : List Token → List Token
as_init ts = 'init ∷ 'lbrace ∷ ts ++ 'rbrace ∷ []

abbrev Statement : List Token → Tree action → Type 0
Statement ts s = parse_model (as_init ts) ≡ ok (code (init (body [] (then (bare s) end)) ∷ []))

-- Statements
-- expression: a
statement_1 : Statement (name a ∷ []) (leaf (express (get (plain a))))
statement_1 = refl

-- expression, levels and left association: a-b-c*2==1||true
statement_2 : Statement (name a ∷ '- ∷ name b ∷ '- ∷ name c ∷ '* ∷ number 2 ∷ '== ∷ number 1 ∷ '|| ∷ 'true ∷ []) (leaf (express (binary 1 (binary 6 (binary 15 (binary 15 (get (plain a)) (get (plain b))) (binary 16 (get (plain c)) (num 2))) (num 1)) tru)))
statement_2 = refl

-- unary operators bind tighter than binary ones: -a*!b
statement_3 : Statement ('- ∷ name a ∷ '* ∷ '! ∷ name b ∷ []) (leaf (express (binary 16 (unary 15 (get (plain a))) (unary 19 (get (plain b))))))
statement_3 = refl

-- a unary operand that is unary: ! !a
statement_4 : Statement ('! ∷ '! ∷ name a ∷ []) (leaf (express (unary 19 (unary 19 (get (plain a))))))
statement_4 = refl

-- `a- -a`: a- -a
statement_5 : Statement (name a ∷ '- ∷ '- ∷ name a ∷ []) (leaf (express (binary 15 (get (plain a)) (unary 15 (get (plain a))))))
statement_5 = refl

-- an index: a[b+1]+len(c)+len(d[0])
statement_6 : Statement (name a ∷ '[ ∷ name b ∷ '+ ∷ number 1 ∷ '] ∷ '+ ∷ 'len ∷ 'lpar ∷ name c ∷ 'rpar ∷ '+ ∷ 'len ∷ 'lpar ∷ name d ∷ '[ ∷ number 0 ∷ '] ∷ 'rpar ∷ []) (leaf (express (binary 14 (binary 14 (get (indexed a (binary 14 (get (plain b)) (num 1)))) (query k_len (plain c))) (query k_len (indexed d (num 0))))))
statement_6 = refl

-- a conditional has its own parentheses: (a->b:c)
statement_7 : Statement ('lpar ∷ name a ∷ '-> ∷ name b ∷ ': ∷ name c ∷ 'rpar ∷ []) (leaf (express (choice (get (plain a)) (get (plain b)) (get (plain c)))))
statement_7 = refl

-- a conditional as an operand: 1+(a->(b->1:2):false)
statement_8 : Statement (number 1 ∷ '+ ∷ 'lpar ∷ name a ∷ '-> ∷ 'lpar ∷ name b ∷ '-> ∷ number 1 ∷ ': ∷ number 2 ∷ 'rpar ∷ ': ∷ 'false ∷ 'rpar ∷ []) (leaf (express (binary 14 (num 1) (choice (get (plain a)) (choice (get (plain b)) (num 1) (num 2)) fls))))
statement_8 = refl

-- assignment: a[0]=b
statement_9 : Statement (name a ∷ '[ ∷ number 0 ∷ '] ∷ '= ∷ name b ∷ []) (leaf (assign (indexed a (num 0)) (get (plain b))))
statement_9 = refl

-- increment: a++
statement_10 : Statement (name a ∷ '++ ∷ []) (leaf (increment (plain a)))
statement_10 = refl

-- decrement: a[1]--
statement_11 : Statement (name a ∷ '[ ∷ number 1 ∷ '] ∷ '-- ∷ []) (leaf (decrement (indexed a (num 1))))
statement_11 = refl

-- send: c!a,b+1
statement_12 : Statement (name c ∷ '! ∷ name a ∷ 'comma ∷ name b ∷ '+ ∷ number 1 ∷ []) (leaf (send k_bang (plain c) ((get (plain a)) ∷ (binary 14 (get (plain b)) (num 1)) ∷ [])))
statement_12 = refl

-- the other message notation: c!a(b+1)
statement_13 : Statement (name c ∷ '! ∷ name a ∷ 'lpar ∷ name b ∷ '+ ∷ number 1 ∷ 'rpar ∷ []) (leaf (send k_bang (plain c) ((get (plain a)) ∷ (binary 14 (get (plain b)) (num 1)) ∷ [])))
statement_13 = refl

-- x may be any expression: c[0]!(a)(b,c)
statement_14 : Statement (name c ∷ '[ ∷ number 0 ∷ '] ∷ '! ∷ 'lpar ∷ name a ∷ 'rpar ∷ 'lpar ∷ name b ∷ 'comma ∷ name c ∷ 'rpar ∷ []) (leaf (send k_bang (indexed c (num 0)) ((get (plain a)) ∷ (get (plain b)) ∷ (get (plain c)) ∷ [])))
statement_14 = refl

-- receive: c?a,eval(b),1,true,false,a[0]
statement_15 : Statement (name c ∷ '? ∷ name a ∷ 'comma ∷ 'eval ∷ 'lpar ∷ name b ∷ 'rpar ∷ 'comma ∷ number 1 ∷ 'comma ∷ 'true ∷ 'comma ∷ 'false ∷ 'comma ∷ name a ∷ '[ ∷ number 0 ∷ '] ∷ []) (leaf (receive k_ask (plain c) (into (plain a) ∷ equal (get (plain b)) ∷ exactly 1 ∷ exactly_true ∷ exactly_false ∷ into (indexed a (num 0)) ∷ [])))
statement_15 = refl

-- the other message notation: c?eval(a)(b,c)
statement_16 : Statement (name c ∷ '? ∷ 'eval ∷ 'lpar ∷ name a ∷ 'rpar ∷ 'lpar ∷ name b ∷ 'comma ∷ name c ∷ 'rpar ∷ []) (leaf (receive k_ask (plain c) (equal (get (plain a)) ∷ into (plain b) ∷ into (plain c) ∷ [])))
statement_16 = refl

-- assertion: assert((a->b:c))
statement_17 : Statement ('assert ∷ 'lpar ∷ 'lpar ∷ name a ∷ '-> ∷ name b ∷ ': ∷ name c ∷ 'rpar ∷ 'rpar ∷ []) (leaf (assert (choice (get (plain a)) (get (plain b)) (get (plain c)))))
statement_17 = refl

-- printf without arguments: printf("x")
statement_18 : Statement ('printf ∷ 'lpar ∷ text x ∷ 'rpar ∷ []) (leaf (print x []))
statement_18 = refl

-- printf with arguments: printf("x",a,b+1)
statement_19 : Statement ('printf ∷ 'lpar ∷ text x ∷ 'comma ∷ name a ∷ 'comma ∷ name b ∷ '+ ∷ number 1 ∷ 'rpar ∷ []) (leaf (print x ((get (plain a)) ∷ (binary 14 (get (plain b)) (num 1)) ∷ [])))
statement_19 = refl

-- skip: skip
statement_20 : Statement ('skip ∷ []) (leaf skip)
statement_20 = refl

-- goto: goto a
statement_21 : Statement ('goto ∷ name a ∷ []) (leaf (goto a))
statement_21 = refl

-- break: break
statement_22 : Statement ('break ∷ []) (leaf break)
statement_22 = refl

-- timeout: timeout
statement_23 : Statement ('timeout ∷ []) (leaf timeout)
statement_23 = refl

-- else: else
statement_24 : Statement ('else ∷ []) (leaf else)
statement_24 = refl

-- run without arguments: run p()
statement_25 : Statement ('run ∷ name p ∷ 'lpar ∷ 'rpar ∷ []) (leaf (run p []))
statement_25 = refl

-- run with arguments: run p(a,1)
statement_26 : Statement ('run ∷ name p ∷ 'lpar ∷ name a ∷ 'comma ∷ number 1 ∷ 'rpar ∷ []) (leaf (run p ((get (plain a)) ∷ (num 1) ∷ [])))
statement_26 = refl

-- v = run: a[0]=run p(b)
statement_27 : Statement (name a ∷ '[ ∷ number 0 ∷ '] ∷ '= ∷ 'run ∷ name p ∷ 'lpar ∷ name b ∷ 'rpar ∷ []) (leaf (set_run (indexed a (num 0)) p ((get (plain b)) ∷ [])))
statement_27 = refl

-- a selection: if::a->b::else fi
statement_28 : Statement ('if ∷ ':: ∷ name a ∷ '-> ∷ name b ∷ ':: ∷ 'else ∷ 'fi ∷ []) (select (option (then (bare (leaf (express (get (plain a))))) (then (bare (leaf (express (get (plain b))))) end)) (option (then (bare (leaf else)) end) over)))
statement_28 = refl

-- a loop, with separators that trail: do::a;->;break;;::skip->od
statement_29 : Statement ('do ∷ ':: ∷ name a ∷ 'semi ∷ '-> ∷ 'semi ∷ 'break ∷ 'semi ∷ 'semi ∷ ':: ∷ 'skip ∷ '-> ∷ 'od ∷ []) (loop (option (then (bare (leaf (express (get (plain a))))) (then (bare (leaf break)) end)) (option (then (bare (leaf skip)) end) over)))
statement_29 = refl

-- a conditional as index and as right side: a[(b->c:d)]=(b->1:0)
statement_30 : Statement (name a ∷ '[ ∷ 'lpar ∷ name b ∷ '-> ∷ name c ∷ ': ∷ name d ∷ 'rpar ∷ '] ∷ '= ∷ 'lpar ∷ name b ∷ '-> ∷ number 1 ∷ ': ∷ number 0 ∷ 'rpar ∷ []) (leaf (assign (indexed a (choice (get (plain b)) (get (plain c)) (get (plain d)))) (choice (get (plain b)) (num 1) (num 0))))
statement_30 = refl

-- conditionals as arguments: c!(a->b:c),(a->1:2)
statement_31 : Statement (name c ∷ '! ∷ 'lpar ∷ name a ∷ '-> ∷ name b ∷ ': ∷ name c ∷ 'rpar ∷ 'comma ∷ 'lpar ∷ name a ∷ '-> ∷ number 1 ∷ ': ∷ number 2 ∷ 'rpar ∷ []) (leaf (send k_bang (plain c) ((choice (get (plain a)) (get (plain b)) (get (plain c))) ∷ (choice (get (plain a)) (num 1) (num 2)) ∷ [])))
statement_31 = refl

-- a conditional in `eval`: c?eval((a->b:c))
statement_32 : Statement (name c ∷ '? ∷ 'eval ∷ 'lpar ∷ 'lpar ∷ name a ∷ '-> ∷ name b ∷ ': ∷ name c ∷ 'rpar ∷ 'rpar ∷ []) (leaf (receive k_ask (plain c) (equal (choice (get (plain a)) (get (plain b)) (get (plain c))) ∷ [])))
statement_32 = refl

-- a conditional as an argument: run p((a->b:c),1)
statement_33 : Statement ('run ∷ name p ∷ 'lpar ∷ 'lpar ∷ name a ∷ '-> ∷ name b ∷ ': ∷ name c ∷ 'rpar ∷ 'comma ∷ number 1 ∷ 'rpar ∷ []) (leaf (run p ((choice (get (plain a)) (get (plain b)) (get (plain c))) ∷ (num 1) ∷ [])))
statement_33 = refl

-- Declarations
-- a name: int a
declaration_1 : parse_model ('int ∷ name a ∷ []) ≡ ok (code (global (declare 45 (variable a none unset ∷ [])) ∷ []))
declaration_1 = refl

-- names, sizes, values: byte a,b[3],c=1,d[2]=-1
declaration_2 : parse_model ('byte ∷ name a ∷ 'comma ∷ name b ∷ '[ ∷ number 3 ∷ '] ∷ 'comma ∷ name c ∷ '= ∷ number 1 ∷ 'comma ∷ name d ∷ '[ ∷ number 2 ∷ '] ∷ '= ∷ '- ∷ number 1 ∷ []) ≡ ok (code (global (declare 40 (variable a none unset ∷ variable b (some 3) unset ∷ variable c none (set_number 1) ∷ variable d (some 2) (set_minus 1) ∷ [])) ∷ []))
declaration_2 = refl

-- the other values: bool a=true,b=false;
declaration_3 : parse_model ('bool ∷ name a ∷ '= ∷ 'true ∷ 'comma ∷ name b ∷ '= ∷ 'false ∷ 'semi ∷ []) ≡ ok (code (global (declare 39 (variable a none set_true ∷ variable b none set_false ∷ [])) ∷ []))
declaration_3 = refl

-- an mtype name, with a semicolon after: mtype a=b;
declaration_4 : parse_model ('mtype ∷ name a ∷ '= ∷ name b ∷ 'semi ∷ []) ≡ ok (code (global (declare 41 (variable a none (set_name b) ∷ [])) ∷ []))
declaration_4 = refl

-- a channel: chan c=[2]of{int,mtype,chan}
declaration_5 : parse_model ('chan ∷ name c ∷ '= ∷ '[ ∷ number 2 ∷ '] ∷ 'of ∷ 'lbrace ∷ 'int ∷ 'comma ∷ 'mtype ∷ 'comma ∷ 'chan ∷ 'rbrace ∷ []) ≡ ok (code (global (declare 43 (variable c none (set_channel 2 (45 ∷ 41 ∷ 43 ∷ [])) ∷ [])) ∷ []))
declaration_5 = refl

-- channels that are none: chan a,b[2],c=1,d[1]=e
declaration_6 : parse_model ('chan ∷ name a ∷ 'comma ∷ name b ∷ '[ ∷ number 2 ∷ '] ∷ 'comma ∷ name c ∷ '= ∷ number 1 ∷ 'comma ∷ name d ∷ '[ ∷ number 1 ∷ '] ∷ '= ∷ name e ∷ []) ≡ ok (code (global (declare 43 (variable a none unset ∷ variable b (some 2) unset ∷ variable c none (set_number 1) ∷ variable d (some 1) (set_name e) ∷ [])) ∷ []))
declaration_6 = refl

-- Units
-- an mtype list: mtype={a,b}init{skip}
unit_1 : parse_model ('mtype ∷ '= ∷ 'lbrace ∷ name a ∷ 'comma ∷ name b ∷ 'rbrace ∷ 'init ∷ 'lbrace ∷ 'skip ∷ 'rbrace ∷ []) ≡ ok (code (mtypes (a ∷ b ∷ []) ∷ init (body [] (then (bare (leaf skip)) end)) ∷ []))
unit_1 = refl

-- proctype with parameters: proctype p(int a,b;chan c){skip}
unit_2 : parse_model ('proctype ∷ name p ∷ 'lpar ∷ 'int ∷ name a ∷ 'comma ∷ name b ∷ 'semi ∷ 'chan ∷ name c ∷ 'rpar ∷ 'lbrace ∷ 'skip ∷ 'rbrace ∷ []) ≡ ok (code (process idle p (group 45 (a ∷ b ∷ []) ∷ group 43 (c ∷ []) ∷ []) (body [] (then (bare (leaf skip)) end)) ∷ []))
unit_2 = refl

-- active: active proctype p(){a}
unit_3 : parse_model ('active ∷ 'proctype ∷ name p ∷ 'lpar ∷ 'rpar ∷ 'lbrace ∷ name a ∷ 'rbrace ∷ []) ≡ ok (code (process once p [] (body [] (then (bare (leaf (express (get (plain a))))) end)) ∷ []))
unit_3 = refl

-- active [n]: active[2]proctype p(){a};;
unit_4 : parse_model ('active ∷ '[ ∷ number 2 ∷ '] ∷ 'proctype ∷ name p ∷ 'lpar ∷ 'rpar ∷ 'lbrace ∷ name a ∷ 'rbrace ∷ 'semi ∷ 'semi ∷ []) ≡ ok (code (process (times 2) p [] (body [] (then (bare (leaf (express (get (plain a))))) end)) ∷ []))
unit_4 = refl

-- declarations in a body: init{int a,b=1->;bool c;a}
unit_5 : parse_model ('init ∷ 'lbrace ∷ 'int ∷ name a ∷ 'comma ∷ name b ∷ '= ∷ number 1 ∷ '-> ∷ 'semi ∷ 'bool ∷ name c ∷ 'semi ∷ name a ∷ 'rbrace ∷ []) ≡ ok (code (init (body (declare 45 (variable a none unset ∷ variable b none (set_number 1) ∷ []) ∷ declare 39 (variable c none unset ∷ []) ∷ []) (then (bare (leaf (express (get (plain a))))) end)) ∷ []))
unit_5 = refl

-- labels: init{a:b;c:d=1;e:if::f:skip fi}
unit_6 : parse_model ('init ∷ 'lbrace ∷ name a ∷ ': ∷ name b ∷ 'semi ∷ name c ∷ ': ∷ name d ∷ '= ∷ number 1 ∷ 'semi ∷ name e ∷ ': ∷ 'if ∷ ':: ∷ name f ∷ ': ∷ 'skip ∷ 'fi ∷ 'rbrace ∷ []) ≡ ok (code (init (body [] (then (labelled a (leaf (express (get (plain b))))) (then (labelled c (leaf (assign (plain d) (num 1)))) (then (labelled e (select (option (then (labelled f (leaf skip)) end) over))) end)))) ∷ []))
unit_6 = refl

-- a label on `else` and on `goto`, which the rules judge later: init{if::a:else fi;b:goto a}
unit_7 : parse_model ('init ∷ 'lbrace ∷ 'if ∷ ':: ∷ name a ∷ ': ∷ 'else ∷ 'fi ∷ 'semi ∷ name b ∷ ': ∷ 'goto ∷ name a ∷ 'rbrace ∷ []) ≡ ok (code (init (body [] (then (bare (select (option (then (labelled a (leaf else)) end) over))) (then (labelled b (leaf (goto a))) end))) ∷ []))
unit_7 = refl

-- Refusals: the first token that can continue no text of the grammar, or the end
-- no units:
no_text_1 : parse_model [] ≡ bad 0
no_text_1 = refl

-- two labels: init{a:b:skip}
no_text_2 : parse_model ('init ∷ 'lbrace ∷ name a ∷ ': ∷ name b ∷ ': ∷ 'skip ∷ 'rbrace ∷ []) ≡ bad 5
no_text_2 = refl

-- a body without a statement: init{int a}
no_text_3 : parse_model ('init ∷ 'lbrace ∷ 'int ∷ name a ∷ 'rbrace ∷ []) ≡ bad 4
no_text_3 = refl

-- a conditional without parentheses of its own: init{assert(a->b:c)}
no_text_4 : parse_model ('init ∷ 'lbrace ∷ 'assert ∷ 'lpar ∷ name a ∷ '-> ∷ name b ∷ ': ∷ name c ∷ 'rpar ∷ 'rbrace ∷ []) ≡ bad 5
no_text_4 = refl

-- a message list that is no whole one: init{c!a,b(c)}
no_text_5 : parse_model ('init ∷ 'lbrace ∷ name c ∷ '! ∷ name a ∷ 'comma ∷ name b ∷ 'lpar ∷ name c ∷ 'rpar ∷ 'rbrace ∷ []) ≡ bad 7
no_text_5 = refl

-- a message without an argument: init{c!a()}
no_text_6 : parse_model ('init ∷ 'lbrace ∷ name c ∷ '! ∷ name a ∷ 'lpar ∷ 'rpar ∷ 'rbrace ∷ []) ≡ bad 6
no_text_6 = refl

-- an array of channels has no capacity: chan c[2]=[1]of{int}
no_text_7 : parse_model ('chan ∷ name c ∷ '[ ∷ number 2 ∷ '] ∷ '= ∷ '[ ∷ number 1 ∷ '] ∷ 'of ∷ 'lbrace ∷ 'int ∷ 'rbrace ∷ []) ≡ bad 6
no_text_7 = refl

-- nor has another type: int a=[1]of{int}
no_text_8 : parse_model ('int ∷ name a ∷ '= ∷ '[ ∷ number 1 ∷ '] ∷ 'of ∷ 'lbrace ∷ 'int ∷ 'rbrace ∷ []) ≡ bad 3
no_text_8 = refl

-- no separator before the first statement: init{;a}
no_text_9 : parse_model ('init ∷ 'lbrace ∷ 'semi ∷ name a ∷ 'rbrace ∷ []) ≡ bad 2
no_text_9 = refl

-- no separator after `fi`: init{if::a fi b}
no_text_10 : parse_model ('init ∷ 'lbrace ∷ 'if ∷ ':: ∷ name a ∷ 'fi ∷ name b ∷ 'rbrace ∷ []) ≡ bad 6
no_text_10 = refl

-- one semicolon between groups: proctype p(int a;;int b){a}
no_text_11 : parse_model ('proctype ∷ name p ∷ 'lpar ∷ 'int ∷ name a ∷ 'semi ∷ 'semi ∷ 'int ∷ name b ∷ 'rpar ∷ 'lbrace ∷ name a ∷ 'rbrace ∷ []) ≡ bad 6
no_text_11 = refl

-- run is no operand: init{(run p())}
no_text_12 : parse_model ('init ∷ 'lbrace ∷ 'lpar ∷ 'run ∷ name p ∷ 'lpar ∷ 'rpar ∷ 'rpar ∷ 'rbrace ∷ []) ≡ bad 3
no_text_12 = refl

-- a sign in a receive argument: init{c?-1}
no_text_13 : parse_model ('init ∷ 'lbrace ∷ name c ∷ '? ∷ '- ∷ number 1 ∷ 'rbrace ∷ []) ≡ bad 4
no_text_13 = refl

-- no type of message: mtype={}
no_text_14 : parse_model ('mtype ∷ '= ∷ 'lbrace ∷ 'rbrace ∷ []) ≡ bad 3
no_text_14 = refl

-- a semicolon first: ;init{a}
no_text_15 : parse_model ('semi ∷ 'init ∷ 'lbrace ∷ name a ∷ 'rbrace ∷ []) ≡ bad 0
no_text_15 = refl

-- the arrow parts no units: init{a}->
no_text_16 : parse_model ('init ∷ 'lbrace ∷ name a ∷ 'rbrace ∷ '-> ∷ []) ≡ bad 4
no_text_16 = refl

-- the end of the text: init{a
no_text_17 : parse_model ('init ∷ 'lbrace ∷ name a ∷ []) ≡ bad 3
no_text_17 = refl

-- `!!` has no use yet: init{a!!b}
no_text_18 : parse_model ('init ∷ 'lbrace ∷ name a ∷ '!! ∷ name b ∷ 'rbrace ∷ []) ≡ bad 3
no_text_18 = refl

-- Normal text: both texts have one tree, and the second is what is printed of it
-- needless parentheses: init{(((a)))+(b*c);;} becomes init{a+b*c}
printed_1 : (parse_model ('init ∷ 'lbrace ∷ 'lpar ∷ 'lpar ∷ 'lpar ∷ name a ∷ 'rpar ∷ 'rpar ∷ 'rpar ∷ '+ ∷ 'lpar ∷ name b ∷ '* ∷ name c ∷ 'rpar ∷ 'semi ∷ 'semi ∷ 'rbrace ∷ []) ≡ ok (code (init (body [] (then (bare (leaf (express (binary 14 (get (plain a)) (binary 16 (get (plain b)) (get (plain c))))))) end)) ∷ []))) × (print_model (init (body [] (then (bare (leaf (express (binary 14 (get (plain a)) (binary 16 (get (plain b)) (get (plain c))))))) end)) ∷ []) ≡ ('init ∷ 'lbrace ∷ name a ∷ '+ ∷ name b ∷ '* ∷ name c ∷ 'rbrace ∷ []))
printed_1 = (refl, refl)

-- a right operand of the same level keeps them: init{a-(b-c)->a-b-c;} becomes init{a-(b-c);a-b-c}
printed_2 : (parse_model ('init ∷ 'lbrace ∷ name a ∷ '- ∷ 'lpar ∷ name b ∷ '- ∷ name c ∷ 'rpar ∷ '-> ∷ name a ∷ '- ∷ name b ∷ '- ∷ name c ∷ 'semi ∷ 'rbrace ∷ []) ≡ ok (code (init (body [] (then (bare (leaf (express (binary 15 (get (plain a)) (binary 15 (get (plain b)) (get (plain c))))))) (then (bare (leaf (express (binary 15 (binary 15 (get (plain a)) (get (plain b))) (get (plain c)))))) end))) ∷ []))) × (print_model (init (body [] (then (bare (leaf (express (binary 15 (get (plain a)) (binary 15 (get (plain b)) (get (plain c))))))) (then (bare (leaf (express (binary 15 (binary 15 (get (plain a)) (get (plain b))) (get (plain c)))))) end))) ∷ []) ≡ ('init ∷ 'lbrace ∷ name a ∷ '- ∷ 'lpar ∷ name b ∷ '- ∷ name c ∷ 'rpar ∷ 'semi ∷ name a ∷ '- ∷ name b ∷ '- ∷ name c ∷ 'rbrace ∷ []))
printed_2 = (refl, refl)

-- unary minus: init{int a;a-(-a)} becomes init{int a;a- -a}
printed_3 : (parse_model ('init ∷ 'lbrace ∷ 'int ∷ name a ∷ 'semi ∷ name a ∷ '- ∷ 'lpar ∷ '- ∷ name a ∷ 'rpar ∷ 'rbrace ∷ []) ≡ ok (code (init (body (declare 45 (variable a none unset ∷ []) ∷ []) (then (bare (leaf (express (binary 15 (get (plain a)) (unary 15 (get (plain a))))))) end)) ∷ []))) × (print_model (init (body (declare 45 (variable a none unset ∷ []) ∷ []) (then (bare (leaf (express (binary 15 (get (plain a)) (unary 15 (get (plain a))))))) end)) ∷ []) ≡ ('init ∷ 'lbrace ∷ 'int ∷ name a ∷ 'semi ∷ name a ∷ '- ∷ '- ∷ name a ∷ 'rbrace ∷ []))
printed_3 = (refl, refl)

-- levels: init{(a||b)&&!(c==1)} becomes init{(a||b)&&!(c==1)}
printed_4 : (parse_model ('init ∷ 'lbrace ∷ 'lpar ∷ name a ∷ '|| ∷ name b ∷ 'rpar ∷ '&& ∷ '! ∷ 'lpar ∷ name c ∷ '== ∷ number 1 ∷ 'rpar ∷ 'rbrace ∷ []) ≡ ok (code (init (body [] (then (bare (leaf (express (binary 2 (binary 1 (get (plain a)) (get (plain b))) (unary 19 (binary 6 (get (plain c)) (num 1))))))) end)) ∷ []))) × (print_model (init (body [] (then (bare (leaf (express (binary 2 (binary 1 (get (plain a)) (get (plain b))) (unary 19 (binary 6 (get (plain c)) (num 1))))))) end)) ∷ []) ≡ ('init ∷ 'lbrace ∷ 'lpar ∷ name a ∷ '|| ∷ name b ∷ 'rpar ∷ '&& ∷ '! ∷ 'lpar ∷ name c ∷ '== ∷ number 1 ∷ 'rpar ∷ 'rbrace ∷ []))
printed_4 = (refl, refl)

-- both message notations: init{c!a(b);c?a(b)} becomes init{c!a,b;c?a,b}
printed_5 : (parse_model ('init ∷ 'lbrace ∷ name c ∷ '! ∷ name a ∷ 'lpar ∷ name b ∷ 'rpar ∷ 'semi ∷ name c ∷ '? ∷ name a ∷ 'lpar ∷ name b ∷ 'rpar ∷ 'rbrace ∷ []) ≡ ok (code (init (body [] (then (bare (leaf (send k_bang (plain c) ((get (plain a)) ∷ (get (plain b)) ∷ [])))) (then (bare (leaf (receive k_ask (plain c) (into (plain a) ∷ into (plain b) ∷ [])))) end))) ∷ []))) × (print_model (init (body [] (then (bare (leaf (send k_bang (plain c) ((get (plain a)) ∷ (get (plain b)) ∷ [])))) (then (bare (leaf (receive k_ask (plain c) (into (plain a) ∷ into (plain b) ∷ [])))) end))) ∷ []) ≡ ('init ∷ 'lbrace ∷ name c ∷ '! ∷ name a ∷ 'comma ∷ name b ∷ 'semi ∷ name c ∷ '? ∷ name a ∷ 'comma ∷ name b ∷ 'rbrace ∷ []))
printed_5 = (refl, refl)

-- a conditional: init{((a->(b):c))+1} becomes init{(a->b:c)+1}
printed_6 : (parse_model ('init ∷ 'lbrace ∷ 'lpar ∷ 'lpar ∷ name a ∷ '-> ∷ 'lpar ∷ name b ∷ 'rpar ∷ ': ∷ name c ∷ 'rpar ∷ 'rpar ∷ '+ ∷ number 1 ∷ 'rbrace ∷ []) ≡ ok (code (init (body [] (then (bare (leaf (express (binary 14 (choice (get (plain a)) (get (plain b)) (get (plain c))) (num 1))))) end)) ∷ []))) × (print_model (init (body [] (then (bare (leaf (express (binary 14 (choice (get (plain a)) (get (plain b)) (get (plain c))) (num 1))))) end)) ∷ []) ≡ ('init ∷ 'lbrace ∷ 'lpar ∷ name a ∷ '-> ∷ name b ∷ ': ∷ name c ∷ 'rpar ∷ '+ ∷ number 1 ∷ 'rbrace ∷ []))
printed_6 = (refl, refl)

-- Depth: n pairs of parentheses in the braces of a body; n selections, each in the last
abbrev round : ℕ → List Token
round n = replicate n 'lpar ++ name a ∷ replicate n 'rpar

abbrev selections : ℕ → List Token → List Token
selections zero ts = ts
selections (suc n) ts = 'if ∷ ':: ∷ selections n ts ++ 'fi ∷ []

abbrev selected : ℕ → Tree action
selected zero = leaf skip
selected (suc n) = select (option (then (bare (selected n)) end) over)

-- 32 brackets, and 33
brackets_32 : judge (as_init (round 31)) ≡ accepted (code (init (body [] (then (bare (leaf (express (get (plain a))))) end)) ∷ []))
brackets_32 = refl

brackets_33 : judge (as_init (round 32)) ≡ refused_2 33
brackets_33 = refl

-- 8 selections, and 9
selections_8 : judge (as_init (selections 8 ('skip ∷ []))) ≡ accepted (code (init (body [] (then (bare (selected 8)) end)) ∷ []))
selections_8 = refl

selections_9 : judge (as_init (selections 9 ('skip ∷ []))) ≡ refused_2 18
selections_9 = refl

-- what passes a ceiling and is also no continuation is refusal 2, one bracket less refusal 3
both_wrong : judge ('init ∷ 'lbrace ∷ replicate 31 'lpar ++ 'lbrace ∷ []) ≡ refused_2 33
both_wrong = refl

one_wrong : judge ('init ∷ 'lbrace ∷ replicate 30 'lpar ++ 'lbrace ∷ []) ≡ refused_3 32
one_wrong = refl

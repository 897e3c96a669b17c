-- Document 01, "Grammar. A model is one or more units with any number of `;` between and after. ..": THE GRAMMAR as relations between lists of tokens and trees.
-- Read `X ts t`: the tokens ts are an X, and t is its tree. In quotes stand the paper's words. The paper goes from the whole to the parts;
-- here each part stands before what it is a part of, so the model is at the end. How deep brackets and selections may nest is no matter of the grammar.
use Rattle.std.specs.Prelude.{◌≡◌, List, [], ◌∷◌, ◌++◌, ℕ, suc}
use Rattle.std.proofs.Math.Option.{none, some}
use Rattle.base_kinds.specs.Kinds.{Token, sym, name, number, text, level}
use Rattle.spec_grammar.specs.Marks.{k_bang, k_ask, k_len, '-, 'lpar, 'rpar, '[, '], 'lbrace, 'rbrace, 'comma, 'semi, ':, '::, '->, '=, '++, 'mtype, 'active, 'assert, 'break, 'do, 'else, 'eval, 'false, 'fi, 'goto, 'if, 'init, 'od, 'of, 'printf, 'proctype, 'run, 'skip, 'timeout, 'true, '--}
use Rattle.spec_grammar.specs.Tree.{Name, plain, indexed, num, tru, fls, get, query, unary, binary, choice, Expr, Ref, Received, into, equal, exactly, exactly_true, exactly_false, Leaf, express, assign, increment, send, receive, assert, print, skip, goto, break, timeout, else, run, set_run, Sort, action, statement, sequence, options, Tree, leaf, select, loop, bare, labelled, end, then, over, option, Value, unset, set_number, set_minus, set_true, set_false, set_name, set_channel, Variable, variable, Declaration, declare, Group, group, Body, body, Activity, idle, once, times, Part, mtypes, global, process, init, Model, decrement}

-- LISTS: one or more X, "parted" by the token s
pub data Listed (s : Token) {A : Type 0} (X : List Token → A → Type 0) : List Token → List A → Type 0 where
  one : {ts : List Token} {a : A} → X ts a → Listed s X ts (a ∷ [])
  more : {ts us : List Token} {a : A} {l : List A} → X ts a → Listed s X us l → Listed s X (ts ++ s ∷ us) (a ∷ l)

-- none, or such a list
pub data MaybeListed (s : Token) {A : Type 0} (X : List Token → A → Type 0) : List Token → List A → Type 0 where
  no_list : MaybeListed s X [] []
  a_list : {ts : List Token} {l : List A} → Listed s X ts l → MaybeListed s X ts l

-- "`x(y,z)`, as a whole message argument list, means `x,y,z`"
pub data Message {A : Type 0} (X : List Token → A → Type 0) : List Token → List A → Type 0 where
  commas : {ts : List Token} {l : List A} → Listed 'comma X ts l → Message X ts l
  call : {ts us : List Token} {a : A} {l : List A} → X ts a → Listed 'comma X us l → Message X (ts ++ 'lpar ∷ us ++ 'rpar ∷ []) (a ∷ l)

-- any number of `;`; any number of `;` and `->`; one or more of them
pub data Semicolons : List Token → Type 0 where
  no_semi : Semicolons []
  semi : {us : List Token} → Semicolons us → Semicolons ('semi ∷ us)

pub data Trailing : List Token → Type 0 where
  none_trails : Trailing []
  semi_trails : {us : List Token} → Trailing us → Trailing ('semi ∷ us)
  arrow_trails : {us : List Token} → Trailing us → Trailing ('-> ∷ us)

pub data Parted : List Token → Type 0 where
  by_semi : {us : List Token} → Trailing us → Parted ('semi ∷ us)
  by_arrow : {us : List Token} → Trailing us → Parted ('-> ∷ us)

pub data AName : List Token → Name → Type 0 where
  a_name : {w : Name} → AName (name w ∷ []) w

-- the types: bit, bool, byte, mtype, pid, chan, short, int
pub data IsType : ℕ → Type 0 where
  is_bit : IsType 38
  is_bool : IsType 39
  is_byte : IsType 40
  is_mtype : IsType 41
  is_pid : IsType 42
  is_chan : IsType 43
  is_short : IsType 44
  is_int : IsType 45

pub data AType : List Token → ℕ → Type 0 where
  a_type : {k : ℕ} → IsType k → AType (sym k ∷ []) k

-- EXPRESSIONS. "Operators follow table 3.2 of 002. Unary minus, absent there, binds as `!` and `~` do (001)."
pub data IsUnary : ℕ → Type 0 where
  is_minus : IsUnary 15
  is_not : IsUnary 19
  is_flip : IsUnary 20

-- the words that ask of a channel
pub data IsQuery : ℕ → Type 0 where
  is_len : IsQuery k_len

-- E l ts e: an expression that stands where operators looser than level l would want parentheses. Level 12 has references alone ("a name, plain or indexed"),
-- 11 all operands and the unary operators, l from 10 to 1 the binary operators of levels 10 to l, which associate to the left
pub data E : ℕ → List Token → Expr → Type 0 where
  e_plain : {w : Name} → E 12 (name w ∷ []) (get (plain w))
  e_index : {w : Name} {ts : List Token} {e : Expr} → E 1 ts e → E 12 (name w ∷ '[ ∷ ts ++ '] ∷ []) (get (indexed w e))
  e_number : {n : ℕ} → E 11 (number n ∷ []) (num n)
  e_true : E 11 ('true ∷ []) tru
  e_false : E 11 ('false ∷ []) fls
  -- "`len(c)` .. operands"
  e_query : {o : ℕ} {ts : List Token} {r : Ref} → IsQuery o → E 12 ts (get r) → E 11 (sym o ∷ 'lpar ∷ ts ++ 'rpar ∷ []) (query o r)
  e_group : {ts : List Token} {e : Expr} → E 1 ts e → E 11 ('lpar ∷ ts ++ 'rpar ∷ []) e
  -- "A conditional is `(a -> b : c)`, parentheses always."
  e_choice : {xs ys zs : List Token} {a b c : Expr} → E 1 xs a → E 1 ys b → E 1 zs c → E 11 ('lpar ∷ xs ++ '-> ∷ ys ++ ': ∷ zs ++ 'rpar ∷ []) (choice a b c)
  e_unary : {o : ℕ} {ts : List Token} {e : Expr} → IsUnary o → E 11 ts e → E 11 (sym o ∷ ts) (unary o e)
  e_binary : {l o : ℕ} {xs ys : List Token} {a b : Expr} → level o ≡ suc l → E (suc l) xs a → E (suc (suc l)) ys b → E (suc l) (xs ++ sym o ∷ ys) (binary o a b)
  e_up : {l : ℕ} {ts : List Token} {e : Expr} → E (suc l) ts e → E l ts e

abbrev pub AnExpression : List Token → Expr → Type 0
AnExpression ts e = E 1 ts e

abbrev pub AReference : List Token → Ref → Type 0
AReference ts r = E 12 ts (get r)

-- "Receive arguments are variables, `eval(e)`, numbers, `true`, `false`, mtype names."
pub data AReceived : List Token → Received → Type 0 where
  r_into : {ts : List Token} {r : Ref} → AReference ts r → AReceived ts (into r)
  r_eval : {ts : List Token} {e : Expr} → AnExpression ts e → AReceived ('eval ∷ 'lpar ∷ ts ++ 'rpar ∷ []) (equal e)
  r_number : {n : ℕ} → AReceived (number n ∷ []) (exactly n)
  r_true : AReceived ('true ∷ []) exactly_true
  r_false : AReceived ('false ∷ []) exactly_false

-- STATEMENTS. The marks of a send and of a receive
pub data IsSend : ℕ → Type 0 where
  is_bang : IsSend k_bang

pub data IsReceive : ℕ → Type 0 where
  is_ask : IsReceive k_ask

-- statements that hold no other
pub data ALeaf : List Token → Leaf → Type 0 where
  -- "Statements: expression, assignment, `v++`, `v--`, `c!args`, `c?args`, `assert(e)`, `printf(string, args)`, `skip`, `goto`, `break`, `timeout`,
  -- `run name(args)`, `v = run name(args)` .. `run` and `printf` may have no args." `else` is judged later
  s_express : {ts : List Token} {e : Expr} → AnExpression ts e → ALeaf ts (express e)
  s_assign : {ts us : List Token} {r : Ref} {e : Expr} → AReference ts r → AnExpression us e → ALeaf (ts ++ '= ∷ us) (assign r e)
  s_increment : {ts : List Token} {r : Ref} → AReference ts r → ALeaf (ts ++ '++ ∷ []) (increment r)
  s_decrement : {ts : List Token} {r : Ref} → AReference ts r → ALeaf (ts ++ '-- ∷ []) (decrement r)
  s_send : {o : ℕ} {ts us : List Token} {r : Ref} {es : List Expr} → IsSend o → AReference ts r → Message AnExpression us es → ALeaf (ts ++ sym o ∷ us) (send o r es)
  s_receive : {o : ℕ} {ts us : List Token} {r : Ref} {xs : List Received} → IsReceive o → AReference ts r → Message AReceived us xs → ALeaf (ts ++ sym o ∷ us) (receive o r xs)
  s_assert : {ts : List Token} {e : Expr} → AnExpression ts e → ALeaf ('assert ∷ 'lpar ∷ ts ++ 'rpar ∷ []) (assert e)
  s_print_alone : {w : List ℕ} → ALeaf ('printf ∷ 'lpar ∷ text w ∷ 'rpar ∷ []) (print w [])
  s_print : {w : List ℕ} {ts : List Token} {es : List Expr} → Listed 'comma AnExpression ts es → ALeaf ('printf ∷ 'lpar ∷ text w ∷ 'comma ∷ ts ++ 'rpar ∷ []) (print w es)
  s_skip : ALeaf ('skip ∷ []) skip
  s_goto : {w : Name} → ALeaf ('goto ∷ name w ∷ []) (goto w)
  s_break : ALeaf ('break ∷ []) break
  s_timeout : ALeaf ('timeout ∷ []) timeout
  s_else : ALeaf ('else ∷ []) else
  s_run : {w : Name} {ts : List Token} {es : List Expr} → MaybeListed 'comma AnExpression ts es → ALeaf ('run ∷ name w ∷ 'lpar ∷ ts ++ 'rpar ∷ []) (run w es)
  s_set_run : {ts us : List Token} {r : Ref} {w : Name} {es : List Expr} → AReference ts r → MaybeListed 'comma AnExpression us es →
      ALeaf (ts ++ '= ∷ 'run ∷ name w ∷ 'lpar ∷ us ++ 'rpar ∷ []) (set_run r w es)

-- D k ts t, with k the sort of tree
pub data D : (k : Sort) → List Token → Tree k → Type 0 where
  s_leaf : {ts : List Token} {l : Leaf} → ALeaf ts l → D action ts (leaf l)
  -- "and `if`/`do` with one or more options"
  s_if : {ts : List Token} {os : Tree options} → D options ts os → D action ('if ∷ ts ++ 'fi ∷ []) (select os)
  s_do : {ts : List Token} {os : Tree options} → D options ts os → D action ('do ∷ ts ++ 'od ∷ []) (loop os)
  -- "A statement may carry one label."
  s_bare : {ts : List Token} {a : Tree action} → D action ts a → D statement ts (bare a)
  s_label : {w : Name} {ts : List Token} {a : Tree action} → D action ts a → D statement (name w ∷ ': ∷ ts) (labelled w a)
  -- "items are parted by one or more `;` or `->`, which may also trail"
  q_last : {ts us : List Token} {s : Tree statement} → D statement ts s → Trailing us → D sequence (ts ++ us) (then s end)
  q_then : {ts us vs : List Token} {s : Tree statement} {q : Tree sequence} → D statement ts s → Parted us → D sequence vs q → D sequence (ts ++ us ++ vs) (then s q)
  -- "one or more options, each `::` and a statement sequence"
  o_last : {ts : List Token} {q : Tree sequence} → D sequence ts q → D options (':: ∷ ts) (option q over)
  o_also : {ts us : List Token} {q : Tree sequence} {os : Tree options} → D sequence ts q → D options us os → D options (':: ∷ ts ++ us) (option q os)

-- DECLARATIONS. "a value is a number, a minus and a number, `true`, `false`, an mtype name"
pub data AValue : List Token → Value → Type 0 where
  v_number : {n : ℕ} → AValue (number n ∷ []) (set_number n)
  v_minus : {n : ℕ} → AValue ('- ∷ number n ∷ []) (set_minus n)
  v_true : AValue ('true ∷ []) set_true
  v_false : AValue ('false ∷ []) set_false
  v_name : {w : Name} → AValue (name w ∷ []) (set_name w)

-- "names, each with optional `[size]` and `= value`", "or for a chan that is no array `[n] of { types }`"
pub data AVariable : ℕ → List Token → Variable → Type 0 where
  x_bare : {k : ℕ} {w : Name} → AVariable k (name w ∷ []) (variable w none unset)
  x_set : {k : ℕ} {w : Name} {ts : List Token} {v : Value} → AValue ts v → AVariable k (name w ∷ '= ∷ ts) (variable w none v)
  x_array : {k : ℕ} {w : Name} {n : ℕ} → AVariable k (name w ∷ '[ ∷ number n ∷ '] ∷ []) (variable w (some n) unset)
  x_array_set : {k : ℕ} {w : Name} {n : ℕ} {ts : List Token} {v : Value} → AValue ts v → AVariable k (name w ∷ '[ ∷ number n ∷ '] ∷ '= ∷ ts) (variable w (some n) v)
  x_channel : {w : Name} {n : ℕ} {ts : List Token} {ks : List ℕ} → Listed 'comma AType ts ks →
      AVariable 43 (name w ∷ '= ∷ '[ ∷ number n ∷ '] ∷ 'of ∷ 'lbrace ∷ ts ++ 'rbrace ∷ []) (variable w none (set_channel n ks))

-- "A declaration is a type and a comma list of names"
pub data ADeclaration : List Token → Declaration → Type 0 where
  declaration : {k : ℕ} {ts : List Token} {xs : List Variable} → IsType k → Listed 'comma (AVariable k) ts xs → ADeclaration (sym k ∷ ts) (declare k xs)

-- "Parameters are none, or `;`-parted groups of a type and comma-parted names"
pub data AGroup : List Token → Group → Type 0 where
  a_group : {k : ℕ} {ts : List Token} {ws : List Name} → IsType k → Listed 'comma AName ts ws → AGroup (sym k ∷ ts) (group k ws)

-- "A body is `{`, declarations, at least one statement, `}`; items are parted by one or more `;` or `->`"
pub data Items : List Token → Body → Type 0 where
  statements : {ts : List Token} {q : Tree sequence} → D sequence ts q → Items ts (body [] q)
  declared : {ts us vs : List Token} {d : Declaration} {ds : List Declaration} {q : Tree sequence} → ADeclaration ts d → Parted us → Items vs (body ds q) →
      Items (ts ++ us ++ vs) (body (d ∷ ds) q)

pub data ABody : List Token → Body → Type 0 where
  a_body : {ts : List Token} {b : Body} → Items ts b → ABody ('lbrace ∷ ts ++ 'rbrace ∷ []) b

pub data AnActivity : List Token → Activity → Type 0 where
  not_active : AnActivity [] idle
  active : AnActivity ('active ∷ []) once
  active_times : {n : ℕ} → AnActivity ('active ∷ '[ ∷ number n ∷ '] ∷ []) (times n)

-- UNITS. "A unit is `mtype = { names }`, a declaration, `[active [ [n] ]] proctype name ( parameters ) body`, or `init body`."
pub data AUnit : List Token → Part → Type 0 where
  u_mtypes : {ts : List Token} {ws : List Name} → Listed 'comma AName ts ws → AUnit ('mtype ∷ '= ∷ 'lbrace ∷ ts ++ 'rbrace ∷ []) (mtypes ws)
  u_global : {ts : List Token} {d : Declaration} → ADeclaration ts d → AUnit ts (global d)
  u_process : {xs ts us : List Token} {a : Activity} {w : Name} {gs : List Group} {b : Body} → AnActivity xs a → MaybeListed 'semi AGroup ts gs → ABody us b →
      AUnit (xs ++ 'proctype ∷ name w ∷ 'lpar ∷ ts ++ 'rpar ∷ us) (process a w gs b)
  u_init : {ts : List Token} {b : Body} → ABody ts b → AUnit ('init ∷ ts) (init b)

-- "A model is one or more units with any number of `;` between and after."
pub data Gram : List Token → Model → Type 0 where
  g_last : {ts us : List Token} {u : Part} → AUnit ts u → Semicolons us → Gram (ts ++ us) (u ∷ [])
  g_more : {ts us vs : List Token} {u : Part} {m : Model} → AUnit ts u → Semicolons us → Gram vs m → Gram (ts ++ us ++ vs) (u ∷ m)

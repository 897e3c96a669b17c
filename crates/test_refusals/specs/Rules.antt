-- Document 01, "What is answered", row 5: refusals of small texts, and texts on the other side of a ceiling or a rule, computed from their bytes.
use Rattle.std.specs.Prelude.{refl, [], ◌∷◌, Ok, Err}
use Rattle.base_kinds.specs.Kinds.{bytes}
use Rattle.base_refusal.specs.Refusals.{refusal}
use Rattle.test_refusals.specs.Opened.{reads, right}

rules_refused :
    right
    -- "wrong number of arguments": "the statement's first token after a label"
    ((bytes "proctype p(int a){skip}init{run p()}", Err (refusal 5 28 3)) ∷ (bytes "proctype p(int a){skip}init{int b;L:b=run p(1,2)}", Err (refusal 5 36 1)) ∷ (bytes "init{printf(\"%d\")}", Err (refusal 5 5 6)) ∷
    -- "`%` in a format not followed by `d` or `%`", at the string
    (bytes "init{printf(\"%x\")}", Err (refusal 5 12 4)) ∷
    -- "more than 4 message arguments"
    (bytes "chan c;init{c!1,2,3,4}", Ok tt) ∷ (bytes "chan c;init{c!1,2,3,4,5}", Err (refusal 5 12 1)) ∷ (bytes "chan c;init{L:c?1,2,3,4,5}", Err (refusal 5 14 1)) ∷
    -- "bad index use", and array 1 to 32
    (bytes "init{int a;a[0]}", Err (refusal 5 11 1)) ∷ (bytes "init{int a[32];skip}", Ok tt) ∷ (bytes "init{int a[33];skip}", Err (refusal 5 11 2)) ∷
    -- capacity 1 to 8, message fields 1 to 4: "the fifth type"
    (bytes "chan c=[8]of{int,int,int,int};init{skip}", Ok tt) ∷ (bytes "chan c=[9]of{int};init{skip}", Err (refusal 5 8 1)) ∷
    (bytes "chan c=[8]of{int,int,int,int,int};init{skip}", Err (refusal 5 29 3)) ∷
    -- "`else` or `break` out of place, second `else`, `mtype` list or `init`"
    (bytes "init{else}", Err (refusal 5 5 4)) ∷ (bytes "init{if::else::else fi}", Err (refusal 5 15 4)) ∷ (bytes "init{break}", Err (refusal 5 5 5)) ∷ (bytes "mtype={m}mtype={n}init{skip}", Err (refusal 5 9 5)) ∷
    (bytes "init{skip}init{skip}", Err (refusal 5 10 4)) ∷ [])
unfolding reads
rules_refused = refl

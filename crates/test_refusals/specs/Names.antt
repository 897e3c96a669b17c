-- Document 01, "What is answered", rows 2 and 4, heights and names: refusals of small texts, and texts on the other side of a ceiling or a rule, computed from their bytes.
use Rattle.std.specs.Prelude.{refl, [], ◌∷◌, ◌++◌, replicate, Ok, Err}
use Rattle.base_kinds.specs.Kinds.{bytes}
use Rattle.base_refusal.specs.Refusals.{refusal}
use Rattle.test_refusals.specs.Opened.{reads, right}

names_refused :
    right
    -- expression height 32: "whole expression's first token", which inside `assert( )` is behind the parenthesis
    ((bytes "init{" ++ replicate 31 126 ++ bytes "1}", Ok tt) ∷ (bytes "init{" ++ replicate 32 126 ++ bytes "1}", Err (refusal 2 5 1)) ∷
    (bytes "init{assert(" ++ replicate 32 126 ++ bytes "1)}", Err (refusal 2 12 1)) ∷
    -- "name unknown"
    (bytes "init{x=1}", Err (refusal 4 5 1)) ∷ (bytes "init{goto L}", Err (refusal 4 10 1)) ∷ (bytes "init{run p()}", Err (refusal 4 9 1)) ∷
    -- "declared twice", and `_pid`
    (bytes "int x;int x;init{skip}", Err (refusal 4 10 1)) ∷ (bytes "init{L:skip;L:skip}", Err (refusal 4 12 1)) ∷ (bytes "int _pid;init{skip}", Err (refusal 4 4 4)) ∷
    -- "of the wrong kind"
    (bytes "init{int a;a!1}", Err (refusal 4 11 1)) ∷ (bytes "init{_pid=1}", Err (refusal 4 5 4)) ∷ (bytes "init{int x;run x()}proctype x(){skip}", Err (refusal 4 15 1)) ∷
    (bytes "mtype={m}init{mtype m=m;skip}", Err (refusal 4 22 1)) ∷ [])
unfolding reads
names_refused = refl

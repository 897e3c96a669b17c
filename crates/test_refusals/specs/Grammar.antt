-- Document 01, "What is answered", rows 2 and 3, the grammar with bracket and if/do depth: refusals of small texts, and texts on the other side of a ceiling or a rule, computed from their bytes.
use Rattle.std.specs.Prelude.{refl, [], ◌∷◌, ◌++◌, replicate, Ok, Err}
use Rattle.base_kinds.specs.Kinds.{bytes}
use Rattle.base_refusal.specs.Refusals.{refusal}
use Rattle.test_refusals.specs.Opened.{reads, right, times}

grammar_refused :
    right
    -- open brackets 32, the brace of the body among them; the next is 2 also where it can continue no text
    ((bytes "init{" ++ replicate 31 40 ++ bytes "1" ++ replicate 31 41 ++ bytes "}", Ok tt) ∷ (bytes "init{" ++ replicate 32 40, Err (refusal 2 36 1)) ∷
    (bytes "init{" ++ replicate 31 40 ++ bytes "{", Err (refusal 2 36 1)) ∷
    -- open if/do 8
    (bytes "init{" ++ times 8 "if::" ++ bytes "skip" ++ times 8 " fi" ++ bytes "}", Ok tt) ∷ (bytes "init{" ++ times 9 "do::", Err (refusal 2 37 2)) ∷
    -- "first token that can continue no text of the grammar"
    (bytes ";init{skip}", Err (refusal 3 0 1)) ∷ (bytes "init{}", Err (refusal 3 5 1)) ∷ (bytes "init{int a}", Err (refusal 3 10 1)) ∷ (bytes "init{L:M:skip}", Err (refusal 3 8 1)) ∷
    (bytes "init{assert(1->2:3)}", Err (refusal 3 13 2)) ∷ (bytes "init{a!!1}", Err (refusal 3 6 2)) ∷ (bytes "int a[n];init{skip}", Err (refusal 3 6 1)) ∷ (bytes "proctype p(int a;){skip}", Err (refusal 3 17 1)) ∷
    -- "or end of text": "empty part at the end"
    (bytes "", Err (refusal 3 0 0)) ∷ (bytes "init{skip", Err (refusal 3 9 0)) ∷ [])
unfolding reads
grammar_refused = refl

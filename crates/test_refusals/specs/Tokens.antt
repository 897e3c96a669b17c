-- Document 01, "What is answered", rows 1 and 2, bytes and tokens: refusals of small texts, and texts on the other side of a ceiling or a rule, computed from their bytes.
use Rattle.std.specs.Prelude.{refl, [], ◌∷◌, ◌++◌, replicate, Ok, Err}
use Rattle.base_kinds.specs.Kinds.{bytes}
use Rattle.base_refusal.specs.Refusals.{refusal}
use Rattle.test_refusals.specs.Opened.{reads, right}

tokens_refused :
    right
    -- "stray byte": P9 of the sample sheet; one at the end outranks a fault of the grammar before it; bytes 127 and 128
    ((bytes "init{'}", Err (refusal 1 5 1)) ∷ (bytes "init{}'", Err (refusal 1 6 1)) ∷ (bytes "init{skip}#", Err (refusal 1 10 1)) ∷ (bytes "init{skip}" ++ 127 ∷ [], Err (refusal 1 10 1)) ∷
    (bytes "init{skip}" ++ 128 ∷ [], Err (refusal 1 10 1)) ∷
    -- "bad byte in a string": "part from its start through the bad byte"
    (bytes "init{printf(\"a\n\")}", Err (refusal 1 12 3)) ∷ (bytes "init{printf(\"a\tb\")}", Err (refusal 1 12 3)) ∷ (bytes "init{printf(\"a\\q\")}", Err (refusal 1 12 4)) ∷
    -- "unclosed string or comment": "to the end of text if unclosed"; a comment's opening star can't close it
    (bytes "init{printf(\"a)}", Err (refusal 1 12 4)) ∷ (bytes "init{skip}\"a\\", Err (refusal 1 10 3)) ∷ (bytes "init{skip}/*a*", Err (refusal 1 10 4)) ∷ (bytes "init{skip}/*/", Err (refusal 1 10 3)) ∷
    -- word 32 bytes
    (bytes "int " ++ replicate 32 97 ++ bytes ";init{skip}", Ok tt) ∷ (bytes "int " ++ replicate 33 97 ++ bytes ";init{skip}", Err (refusal 2 4 33)) ∷
    -- string 64 bytes between quotes; too long and unclosed is 1
    (bytes "init{printf(\"" ++ replicate 64 97 ++ bytes "\")}", Ok tt) ∷ (bytes "init{printf(\"" ++ replicate 65 97 ++ bytes "\")}", Err (refusal 2 12 67)) ∷
    (bytes "init{printf(\"" ++ replicate 65 97, Err (refusal 1 12 66)) ∷
    -- number 2,147,483,647
    (bytes "int x=2147483647;init{skip}", Ok tt) ∷ (bytes "int x=2147483648;init{skip}", Err (refusal 2 6 10)) ∷
    -- text 65,536 bytes
    (replicate 65537 32, Err (refusal 2 0 0)) ∷
    -- tokens 2,048: the next is refused, although none of them can begin a text
    (replicate 2049 59, Err (refusal 2 2048 1)) ∷ [])
unfolding reads
tokens_refused = refl

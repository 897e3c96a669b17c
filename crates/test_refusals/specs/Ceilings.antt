-- Document 01, "What is answered", row 6, and the order of the passes: refusals of small texts, and texts on the other side of a ceiling or a rule, computed from their bytes.
use Rattle.std.specs.Prelude.{refl, [], ◌∷◌, Ok, Err}
use Rattle.base_kinds.specs.Kinds.{bytes}
use Rattle.base_refusal.specs.Refusals.{refusal}
use Rattle.test_refusals.specs.Opened.{reads, right}

ceilings_refused :
    right
    -- printf arguments 4
    ((bytes "init{printf(\"%d%d%d%d\",1,2,3,4)}", Ok tt) ∷ (bytes "init{printf(\"%d%d%d%d%d\",1,2,3,4,5)}", Err (refusal 6 0 0)) ∷
    -- "or no process starts"; processes 16
    (bytes "proctype p(){skip}", Err (refusal 6 0 0)) ∷ (bytes "active[0]proctype p(){skip}", Err (refusal 6 0 0)) ∷ (bytes "active[16]proctype p(){skip}", Ok tt) ∷
    (bytes "active[17]proctype p(){skip}", Err (refusal 6 0 0)) ∷
    -- global numbers 64
    (bytes "int a[32],b[32];init{skip}", Ok tt) ∷ (bytes "int a[32],b[32],c;init{skip}", Err (refusal 6 0 0)) ∷
    -- numbers per process 32
    (bytes "init{int a[31],b;skip}", Ok tt) ∷ (bytes "init{int a[32],b;skip}", Err (refusal 6 0 0)) ∷
    -- "Within a pass the smallest place wins"; grammar comes before names, and a rule before a ceiling
    (bytes "init{a;break}", Err (refusal 4 5 1)) ∷ (bytes "init{printf(\"%x\",1)}", Err (refusal 5 5 6)) ∷ (bytes "init{a}init{}", Err (refusal 3 12 1)) ∷ (bytes "proctype p(){a}", Err (refusal 4 13 1)) ∷ [])
unfolding reads
ceilings_refused = refl

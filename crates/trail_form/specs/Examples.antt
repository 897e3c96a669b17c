-- Mechanism: worked examples, computed from its definitions; they are held to nothing else.
-- Forms of small trails: the scope's own, and each way to spoil it.
use Rattle.std.specs.Prelude.{◌≡◌, refl, List, [], ◌∷◌, ℕ}
use Rattle.base_bytes.specs.Lists.{same}
use Rattle.base_kinds.specs.Kinds.{bytes}
use Rattle.spec_text.specs.Find.{find}
use Rattle.text_pieces.specs.Spans.{span}
use Rattle.spec_text.specs.Digits.{decimal_from}
use Rattle.trail_form.specs.Forms.{Form, form, spoiled, form_from, form_of}

abbrev forms : List (List ℕ) → List Form
forms [] = []
forms (t ∷ ts) = form_of t ∷ forms ts

-- "Whole trail for `init{assert(0)}`"
whole : form_of (bytes "S\t0\t1\nV\tassert\n") ≡ form (record { process = 0; choice = 1 } ∷ []) 1
unfolding form_from span decimal_from find same
whole = refl

numbers : form_of (bytes "S\t99999\t10\nV\topen\n") ≡ form (record { process = 99999; choice = 10 } ∷ []) 5
unfolding form_from span decimal_from find same
numbers = refl

-- no trail at all; no V; no line end; a thing after V; a leading zero; six digits; a CR; a further field; another word; an empty line; a missing field
bad : forms ([] ∷ bytes "S\t0\t1\n" ∷ bytes "S\t0\t1\nV\topen" ∷ bytes "V\topen\n\n" ∷ bytes "S\t01\t1\nV\topen\n" ∷ bytes "S\t1\t100000\nV\topen\n" ∷ bytes "V\topen\r\n" ∷ bytes "S\t1\t1\t1\nV\topen\n" ∷ bytes "V\tdone\n" ∷ bytes "\nV\topen\n" ∷ bytes "S\t1\nV\topen\n" ∷ [])
    ≡ (spoiled 10 1 ∷ spoiled 10 2 ∷ spoiled 10 2 ∷ spoiled 10 2 ∷ spoiled 10 1 ∷ spoiled 10 1 ∷ spoiled 10 1 ∷ spoiled 10 1 ∷ spoiled 10 1 ∷ spoiled 10 1 ∷ spoiled 10 1 ∷ [])
unfolding form_from span decimal_from find same
bad = refl

-- a step past the most is 2 at its line, whatever follows; after V it is 10
past_most : form_from 1 1 0 (bytes "S\t0\t1\nS\t0\t0\nX\n") ≡ spoiled 2 2
unfolding form_from span decimal_from find same
past_most = refl

past_claim : form_from 1 1 0 (bytes "S\t0\t1\nV\topen\nS\t0\t0\n") ≡ spoiled 10 3
unfolding form_from span decimal_from find same
past_claim = refl

-- Document 01, "A state of the model (refusal 9): values in their types, places that belong to the process's proctype or its end, messages in their field types, counts within ceilings, channels with
-- the capacity and fields of some declaration": worked examples on both sides, of the two processes with a channel of specs/Examples.antt (`chan c=[1]of{byte};..A(){c!300}..B(){int x;c?x}`).
use Rattle.std.specs.Prelude.{ℕ, zero, suc, ◌+◌, ◌<◌, ◌≡◌, refl, ◌⊎◌, List, [], ◌∷◌, replicate, ℤ, pos, negsuc}
use Rattle.std.proofs.Common.{arith, inl, inr}
use Rattle.base_values.specs.Types.{width_of, cast_of}
use Rattle.spec_grammar.specs.Tree.{Sort, action, Tree, leaf, select, loop, bare, labelled, end, then, over, option}
use Rattle.spec_machine.specs.Sizes.{size_in}
use Rattle.spec_machine.specs.State.{Channel, Process}
use Rattle.spec_machine.specs.Names.{variables_of, unit_at}
use Rattle.spec_machine.specs.Program.{Within, itself, in_if, in_do, unlabelled, behind_label, in_first, in_rest, in_option, in_others}
use Rattle.spec_machine.specs.Begins.{items_before}
use Rattle.spec_machine.specs.Places.{Belongs, ends, stands}
use Rattle.spec_machine.specs.Fits.{Typed, Filled, Fielded, ChannelFits, ProcessFits, Fits}
use Rattle.spec_machine.specs.Examples.{two, state}

-- what holds of the first holds of each of one, of the first and second of each of two
one : (P : ℕ → Type 0) → P 0 → (i : ℕ) → i < 1 → P i
one P p zero h = p
one P p (suc i) h = absurd (omega arith)

two_of : (P : ℕ → Type 0) → P 0 → P 1 → (i : ℕ) → i < 2 → P i
two_of P p q zero h = p
two_of P p q (suc zero) h = q
two_of P p q (suc (suc i)) h = absurd (omega arith)

-- two numbers that are not one
other : (m n : ℕ) → (m ≡ n → ⊥) → pos m ≡ pos n → ⊥
other m n f e = f cc

-- ## "values in their types": 0 and 255 in a byte, 256 not
byte_255 : Typed 40 (pos 0 ∷ pos 255 ∷ [])
unfolding cast_of width_of
byte_255 = two_of _ refl refl

not_byte_256 : Typed 40 (pos 0 ∷ pos 256 ∷ []) → ⊥
unfolding cast_of width_of
not_byte_256 t = other 0 256 (λ z. omega arith) (t 1 (omega arith))

-- the one number of `int x`: -1; none, two, and 2147483648 are not
x_filled : Filled (variables_of (unit_at two 2)) ((negsuc 0 ∷ []) ∷ [])
unfolding cast_of width_of
x_filled = record { all = refl; sized = one _ refl; typed = one _ (one _ refl) }

no_variable : Filled (variables_of (unit_at two 2)) [] → ⊥
no_variable f = omega (arith, f.all)

two-numbers : Filled (variables_of (unit_at two 2)) ((pos 0 ∷ pos 0 ∷ []) ∷ []) → ⊥
two-numbers f = omega (arith, f.sized 0 (omega arith))

x_2147483648 : Filled (variables_of (unit_at two 2)) ((pos 2147483648 ∷ []) ∷ []) → ⊥
unfolding cast_of width_of
x_2147483648 f = let e = f.typed 0 (omega arith) 0 (omega arith) in let z : ◌≡◌ {A = ℕ} 0 1 = cc in omega arith

-- ## "messages in their field types": of a byte and an int; -1 in a byte and a message that is too short are not
message : Fielded (40 ∷ 45 ∷ []) (pos 44 ∷ negsuc 0 ∷ [])
unfolding cast_of width_of
message = record { long = refl; typed = two_of _ refl refl }

no_byte : Fielded (40 ∷ 45 ∷ []) (negsuc 0 ∷ negsuc 0 ∷ []) → ⊥
unfolding cast_of width_of
no_byte f = let e = f.typed 0 (omega arith) in let z : ◌≡◌ {A = ℕ} 0 1 = cc in omega arith

short-message : Fielded (40 ∷ 45 ∷ []) (pos 44 ∷ []) → ⊥
short-message f = omega (arith, f.long)

-- ## "channels with the capacity and fields of some declaration": the global one holds one message, not two; the first proctype declares none
abbrev channel : ℕ → List (List ℤ) → Channel
channel u held = record { unit = u; variable = 0; held = held }

holds-one : ChannelFits two (channel 0 ((pos 44 ∷ []) ∷ []))
unfolding cast_of width_of
holds-one = record { capacity = 1; types = 40 ∷ []; declared = refl; room = omega arith; messages = one _ record { long = refl; typed = one _ refl } }

holds-two : ChannelFits two (channel 0 ((pos 1 ∷ []) ∷ (pos 2 ∷ []) ∷ [])) → ⊥
holds-two f = let e = f.declared in let z : 1 ≡ f.capacity = cc in omega (arith, f.room)

not-declared : ChannelFits two (channel 1 []) → ⊥
not-declared f = let e = f.declared in let z : ◌≡◌ {A = ℕ} 0 1 = cc in omega arith

-- ## "places that belong to the process's proctype or its end": 11 is that of `c!300` and 17 the end; 12 is within the statement, 25 of the other proctype
sends : Belongs two 1 11
unfolding items_before
sends = stands tt (in_first (unlabelled itself))

ended : Belongs two 1 17
unfolding items_before
ended = ends tt refl

-- j is the place of a statement in a tree whose numbers begin with i
abbrev Placed : {k : Sort} → Tree k → ℕ → ℕ → Type 0
Placed (leaf l) i j = j ≡ i
Placed (select os) i j = (j ≡ i) ⊎ Placed os (i + 1) j
Placed (loop os) i j = (j ≡ i) ⊎ Placed os (i + 1) j
Placed (bare a) i j = Placed a i j
Placed (labelled w a) i j = Placed a (i + 2) j
Placed end i j = ⊥
Placed (then s q) i j = Placed s i j ⊎ Placed q (i + size_in s) j
Placed over i j = ⊥
Placed (option q os) i j = Placed q (i + 1) j ⊎ Placed os (i + 2 + size_in q) j

at_itself : (a : Tree action) (i : ℕ) → Placed a i i
at_itself (leaf l) i = refl
at_itself (select os) i = inl refl
at_itself (loop os) i = inl refl

is_placed : {k : Sort} {t : Tree k} {i n o j m u : ℕ} {a : Tree action} → Within k t i n o a j m u → Placed t i j
is_placed (itself {a = a} {i = i}) = at_itself a i
is_placed (in_if w) = inr (is_placed w)
is_placed (in_do w) = inr (is_placed w)
is_placed (unlabelled w) = is_placed w
is_placed (behind_label w) = is_placed w
is_placed (in_first w) = inl (is_placed w)
is_placed (in_rest w) = inr (is_placed w)
is_placed (in_option w) = inl (is_placed w)
is_placed (in_others w) = inr (is_placed w)

-- the one place of A
of_the_send : {j : ℕ} → (j ≡ 11) ⊎ ⊥ → j ≡ 11
of_the_send (inl e) = e
of_the_send (inr e) = absurd e

not_within : Belongs two 1 12 → ⊥
unfolding items_before
not_within (ends b e) = omega arith
not_within (stands b w) = omega (arith, of_the_send (is_placed w))

not_of_the_other : Belongs two 1 25 → ⊥
unfolding items_before
not_of_the_other (ends b e) = omega arith
not_of_the_other (stands b w) = omega (arith, of_the_send (is_placed w))

no_body : Belongs two 0 0 → ⊥
no_body (ends b e) = b
no_body (stands b w) = b

-- ## a process: at its place with its variables; not at another's place, nor with another's variables
abbrev process : ℕ → List (List ℤ) → Process
process j vs = record { unit = 1; place = j; variables = vs }

fits : ProcessFits (Belongs two) two (process 11 [])
fits = record { place = sends; values = record { all = refl; sized = λ i h. absurd (omega arith); typed = λ i h. absurd (omega arith) } }

at_another_place : ProcessFits (Belongs two) two (process 25 []) → ⊥
at_another_place f = not_of_the_other f.place

with_a_variable : ProcessFits (Belongs two) two (process 11 ((pos 0 ∷ []) ∷ [])) → ⊥
with_a_variable f = omega (arith, f.values.all)

-- ## the whole: the initial state; with A at no place of its own, with a message too many, with 17 processes it is none
receives : Belongs two 2 25
unfolding items_before
receives = stands tt (in_first (unlabelled itself))

starts : Fits (Belongs two) two (state 11 25 (pos 0) [])
unfolding cast_of width_of
starts =
    record {
      globals = record { all = refl; sized = one _ refl; typed = one _ (one _ refl) };
      processes = omega arith;
      channels = omega arith;
      each = two_of _ fits record { place = receives; values = record { all = refl; sized = one _ refl; typed = one _ (one _ refl) } };
      queues = one _ record { capacity = 1; types = 40 ∷ []; declared = refl; room = omega arith; messages = λ i h. absurd (omega arith) };
    }

misplaced : Fits (Belongs two) two (state 12 25 (pos 0) []) → ⊥
misplaced f = not_within (f.each 0 (omega arith)).place

overfull : Fits (Belongs two) two (state 11 25 (pos 0) ((pos 1 ∷ []) ∷ (pos 2 ∷ []) ∷ [])) → ⊥
overfull f = holds-two (f.queues 0 (omega arith))

processes_17 : Fits (Belongs two) two record { globals = (pos 1 ∷ []) ∷ []; processes = replicate 17 (process 11 []); channels = [] } → ⊥
processes_17 f = omega (arith, f.processes)

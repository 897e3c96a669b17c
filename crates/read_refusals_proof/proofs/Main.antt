-- EACH NUMBER OF THE TABLE EXACTLY WHEN ITS ROW SAYS, at its place, in the order given: both directions, for every text and every lent list. Assumes nothing.
use Prim.Native.Nat.{ℕ, suc, ◌-◌, ◌≤◌, ◌<◌}
use mathlib.Core.Path.{◌≡◌, refl, sym as inv, ap, ◌∙◌}
use mathlib.Core.Bool.{Bool, true, false, cond}
use mathlib.Core.Logic.{◌⊎◌, inl, inr}
use mathlib.Core.Option.{Option, none, some}
use mathlib.Core.List.{List, [], ◌∷◌, ◌++◌, map}
use native.Mathlib.Omega.{arith}
use borrow.Author.Tests.{lt-ltb, le-ltb}
use lib.Dec.{ltb}
use lib.ListN.{length, get_or, take, length-map}
use Rattle.base_ceilings.specs.Ceilings.{items_most, tables_room}
use Rattle.base_bytes.proofs.Tests.{left-holds, right-holds}
use Rattle.base_bytes.specs.Choice.{pick, either}
use Rattle.parse_machine.proofs.Never.{lt_or_ge}
use Rattle.text_tokens.specs.Reading.{Reading, tokens, refused, reading}
use Rattle.spec_text.specs.Placed.{Placed}
use Rattle.spec_text.specs.Writing.{tokens_in}
use Rattle.text_spacing_proof.proofs.Exact.{reading_exact}
use Rattle.base_kinds.specs.Kinds.{Token, kind_of}
use Rattle.spec_grammar.specs.Tree.{Model}
use Rattle.spec_grammar.specs.Grammar.{Gram}
use Rattle.spec_grammar.specs.Depth.{count_after, opens_bracket, closes_bracket, opens_selection, closes_selection, passes, one_later, deep_from}
use Rattle.spec_grammar.specs.Refusals.{Two, Three}
use Rattle.parse_grammar.proofs.Judged.{before, stray_once}
use Rattle.parse_machine.specs.Machine.{symbol_of, place_of}
use Rattle.parse_machine.specs.Answer.{Answer, items, refuse, parsed}
use Rattle.parse_machine.proofs.Main.{items-mean, two-means, three-means}
use Rattle.rule_least.specs.Faults.{checked}
use Rattle.rule_least.specs.declared.Fault.{Fault}
use Rattle.rule_least.specs.declared.Fault.TheVariants.{None, At}
use Rattle.rule_ceilings.specs.Ceilings.{passed}
use Rattle.std.specs.Prelude.{Result, Ok, Err}
use Rattle.base_refusal.specs.declared.Refusal.{Refusal}
use Rattle.base_refusal.specs.Refusals.{refusal}
use Rattle.read_passes.specs.Judging.{at_token, ruled, by_rules, grammatical, by_grammar, lexical, pass_of, judge_of}
use Rattle.read_accepts_proof.proofs.Main.{kinds_are, all_proper, short as few, pass_means, means_pass, refused_stays, let_through}
use Rattle.read_entry.specs.Entries.{read_of}
use Rattle.spec_refusals.specs.Texts.{start_at, size_at}
use Rattle.read_refusals_proof.specs.Rows.{wide_at, Row, short, bytes, deep, stop, fault, ceiling}
use Rattle.read_refusals_proof.proofs.Numbers.{grammar_number}
use Rattle.read_accepts_proof.specs.Meaning.{Grammatical, said}

-- ---- the place of a token
number_of : {x y i j n m : ℕ} → ◌≡◌ {A = Result (Unit {0}) Refusal} (Err (refusal x i n)) (Err (refusal y j m)) → y ≡ x
number_of {x} {y} {i} {j} {n} {m} e = let f : refusal y j m ≡ refusal x i n = cc in ap (λ (r : Refusal). r.number) f

place_is : {x y i j n m : ℕ} → ◌≡◌ {A = Result (Unit {0}) Refusal} (Err (refusal x i n)) (Err (refusal y j m)) → j ≡ i
place_is {x} {y} {i} {j} {n} {m} e = let f : refusal y j m ≡ refusal x i n = cc in ap (λ (r : Refusal). r.place) f

length_is : {x y i j n m : ℕ} → ◌≡◌ {A = Result (Unit {0}) Refusal} (Err (refusal x i n)) (Err (refusal y j m)) → m ≡ n
length_is {x} {y} {i} {j} {n} {m} e = let f : refusal y j m ≡ refusal x i n = cc in ap (λ (r : Refusal). r.length) f

at_token_lem : (t : List ℕ) (ps : List Placed) (x k : ℕ) → ◌≡◌ {A = Result (Unit {0}) Refusal} (Err (at_token (length t) (map Placed.start ps) (map Placed.end ps) x k)) (Err (refusal x (start_at t ps k) (size_at t ps k)))
unfolding at_token
at_token_lem t ps x k = go (ltb k (length (map Placed.start ps)))
  where
    go : (b : Bool) → ◌≡◌ {A = Result (Unit {0}) Refusal} (Err (pick b (refusal x (get_or (map Placed.start ps) k 0) (get_or (map Placed.end ps) k 0 - get_or (map Placed.start ps) k 0)) (refusal x (length t) 0)))
        (Err (refusal x (pick b (get_or (map Placed.start ps) k 0) (length t)) (pick b (get_or (map Placed.end ps) k 0 - get_or (map Placed.start ps) k 0) 0)))
    go true = refl
    go false = refl

-- ---- the answer, and its row
module _ (t old : List ℕ) (x i n : ℕ) (enough : tables_room ≤ length old) where
  by_rules_lem : (g : Grammatical t) (f : Fault) (over : Bool) → checked (map symbol_of g.numbers) (said t g) (map place_of g.numbers) ≡ f
      → passed (map symbol_of g.numbers) (said t g) ≡ over → ruled (length t) (map Placed.start g.parts) (map Placed.end g.parts) f over ≡ Err (refusal x i n) → Row t old x i n
  by_rules_lem g (At y k) over c p e =
      let q = inv (at_token_lem t g.parts y k) ∙ e in
      let z : checked (map symbol_of g.numbers) (said t g) (map place_of g.numbers) ≡ At x k = rw (number_of q) c in
      fault g k enough z (place_is q) (length_is q)
  by_rules_lem g None true c p e = ceiling g enough c (left-holds (passed (map symbol_of g.numbers) (said t g)) (wide_at t) p) (number_of e) (place_is e) (length_is e)
  by_rules_lem g None false c p e = absurd (let z : ◌≡◌ {A = ℕ} 0 1 = cc in omega arith)

  module _ (ps : List Placed) (e : reading t ≡ tokens ps) where
    kinds : {a : Answer} → parsed (map Placed.kind ps) items_most ≡ a → parsed (map kind_of (tokens_in t ps)) items_most ≡ a
    kinds h = ap (λ (ks : List ℕ). parsed ks items_most) (kinds_are t ps) ∙ h

    by_grammar_lem : (a : Answer) → parsed (map Placed.kind ps) items_most ≡ a → grammatical t (map Placed.start ps) (map Placed.end ps) a ≡ Err (refusal x i n) → Row t old x i n
    unfolding by_rules
    by_grammar_lem (items o) h q =
        let (m, g, c, d) = items-mean (tokens_in t ps) (all_proper t ps) (few t ps e) items_most (omega arith) o (kinds h) in
        by_rules_lem (record { parts = ps; reads = e; tree = m; gram = g; shallow = d; numbers = o; written = h; coded = c }) _ _ refl refl q
    by_grammar_lem (refuse y k) h q =
        let z = inv (at_token_lem t ps y k) ∙ q in
        let w : parsed (map Placed.kind ps) items_most ≡ refuse x k = rw (number_of z) h in
        go (grammar_number (map Placed.kind ps) x k (rw length-map ((reading_exact t ps).0 e).2) w) w (place_is z) (length_is z)
      where
        go : (x ≡ 2) ⊎ (x ≡ 3) → parsed (map Placed.kind ps) items_most ≡ refuse x k → i ≡ start_at t ps k → n ≡ size_at t ps k → Row t old x i n
        go (inl two) w p l = deep ps k enough e (two-means (tokens_in t ps) (all_proper t ps) (few t ps e) items_most (omega arith) k (kinds (w ∙ ap (λ (v : ℕ). refuse v k) two))) two p l
        go (inr three) w p l = stop ps k enough e (three-means (tokens_in t ps) (all_proper t ps) (few t ps e) items_most (omega arith) k (kinds (w ∙ ap (λ (v : ℕ). refuse v k) three))) three p l

  by_bytes : (r : Reading) → reading t ≡ r → lexical t r ≡ Err (refusal x i n) → Row t old x i n
  unfolding by_grammar
  by_bytes (tokens ps) e q = by_grammar_lem ps e (parsed (map Placed.kind ps) items_most) refl q
  by_bytes (refused y j m) e q =
      let z : reading t ≡ refused x i n = rw (number_of q, place_is q, length_is q) e in
      bytes enough z

  -- let through by all passes, and refused for its normal text
  by_length : pass_of t ≡ Ok tt → (b : Bool) → wide_at t ≡ b → pick {A = Result (Unit {0}) Refusal} b (Err (refusal 6 0 0)) (Ok tt) ≡ Err (refusal x i n) → Row t old x i n
  by_length q true w e = let (g, f, o) = pass_means t q in ceiling g enough f (right-holds (passed (map symbol_of g.numbers) (said t g)) (wide_at t) w) (number_of e) (place_is e) (length_is e)
  by_length q false w e = absurd (let z : ◌≡◌ {A = ℕ} 0 1 = cc in omega arith)

  by_passes : (j : Result (Unit {0}) Refusal) → pass_of t ≡ j → judge_of t ≡ Err (refusal x i n) → Row t old x i n
  by_passes (Ok u) q e = by_length q (wide_at t) refl (inv (let_through t q) ∙ e)
  by_passes (Err r) q e = by_bytes (reading t) refl (q ∙ inv (refused_stays t r.number r.place r.length q) ∙ e)

pub answer-row : (t old : List ℕ) (x i n : ℕ) → read_of t old ≡ Err (refusal x i n) → Row t old x i n
unfolding read_of
answer-row t old x i n e = go (lt_or_ge (length old) tables_room)
  where
    go : (length old < tables_room) ⊎ (tables_room ≤ length old) → Row t old x i n
    go (inl h) = let q : ◌≡◌ {A = Result (Unit {0}) Refusal} (Err (refusal 7 0 0)) (Err (refusal x i n)) = simp (lt-ltb (length old) tables_room h) at e in short h (number_of q) (place_is q) (length_is q)
    go (inr h) = by_passes t old x i n h (pass_of t) refl (simp (le-ltb (length old) tables_room h) at e)

-- ---- the row, and its answer
later-some : (d : Option ℕ) (k : ℕ) → one_later d ≡ some k → (j : ℕ) × (d ≡ some j) × (k ≡ suc j)
later-some none k e = absurd (let z : ◌≡◌ {A = ℕ} 0 1 = cc in omega arith)
later-some (some j) k e = (j, refl, cc)

deep-inside : (b s : ℕ) (ts : List Token) (k : ℕ) → deep_from b s ts ≡ some k → k < length ts
deep-inside b s [] k e = absurd (let z : ◌≡◌ {A = ℕ} 0 1 = cc in omega arith)
deep-inside b s (c ∷ ts) k e =
    go (passes b s c) (deep_from b' s' ts) (λ j h. deep-inside b' s' ts j h) e
  where
    b' : ℕ
    b' = count_after (opens_bracket c) (closes_bracket c) b

    s' : ℕ
    s' = count_after (opens_selection c) (closes_selection c) s

    go : (x : Bool) (d : Option ℕ) → ((j : ℕ) → d ≡ some j → j < length ts) → cond x (some 0) (one_later d) ≡ some k → k < length (c ∷ ts)
    go true d f q = let z : 0 ≡ k = cc in omega arith
    go false d f q = let (j, h, l) = later-some d k q in omega (arith, f j h)

module _ (t old : List ℕ) (x i n : ℕ) (enough : tables_room ≤ length old) where
  module _ (ps : List Placed) (e : reading t ≡ tokens ps) where
    abbrev ts : List Token
    ts = tokens_in t ps

    viable_before : (i j : ℕ) → i < j → i < length ts → ((us : List Token) × (m : Model) × Gram (take j ts ++ us) m) → ((us : List Token) (m : Model) → Gram (take (suc i) ts ++ us) m → ⊥) → ⊥
    viable_before i j h l v dead = let (us, m, g) = before ts (suc i) j h v in dead us m g

    -- where a place is too deep and the grammar stops sooner, there is a contradiction
    deep_stops : (j k : ℕ) → Two ts k → Three ts j → ⊥
    deep_stops j k a b =
        let h = b.first k a.place in
        let l : j < length ts = omega (arith, deep-inside 0 0 ts k a.place) in
        viable_before j k h l a.viable (b.place.dead l)

    deep-answer : (k : ℕ) → Two ts k → (a : Answer) → parsed (map Placed.kind ps) items_most ≡ a → grammatical t (map Placed.start ps) (map Placed.end ps) a ≡ Err (refusal 2 (start_at t ps k) (size_at t ps k))
    deep-answer k w (items o) h =
        let (m, g, c, d) = items-mean ts (all_proper t ps) (few t ps e) items_most (omega arith) o (kinds t old x i n enough ps e h) in
        absurd (let f = w.place in let z : ◌≡◌ {A = ℕ} 0 1 = cc in omega arith)
    deep-answer k w (refuse y j) h = go (grammar_number (map Placed.kind ps) y j (rw length-map ((reading_exact t ps).0 e).2) h)
      where
        go : (y ≡ 2) ⊎ (y ≡ 3) → grammatical t (map Placed.start ps) (map Placed.end ps) (refuse y j) ≡ Err (refusal 2 (start_at t ps k) (size_at t ps k))
        go (inl two) =
            let v = two-means ts (all_proper t ps) (few t ps e) items_most (omega arith) j (kinds t old x i n enough ps e (h ∙ ap (λ (z : ℕ). refuse z j) two)) in
            let f = v.place in
            let g = w.place in
            let q : j ≡ k = cc in
            at_token_lem t ps y j ∙ rw (two, q)
        go (inr three) =
            absurd (deep_stops j k w (three-means ts (all_proper t ps) (few t ps e) items_most (omega arith) j (kinds t old x i n enough ps e (h ∙ ap (λ (z : ℕ). refuse z j) three))))

    stop_answer : (k : ℕ) → Three ts k → (a : Answer) → parsed (map Placed.kind ps) items_most ≡ a → grammatical t (map Placed.start ps) (map Placed.end ps) a ≡ Err (refusal 3 (start_at t ps k) (size_at t ps k))
    stop_answer k w (items o) h =
        let (m, g, c, d) = items-mean ts (all_proper t ps) (few t ps e) items_most (omega arith) o (kinds t old x i n enough ps e h) in
        absurd (w.place.no_text m g)
    stop_answer k w (refuse y j) h = go (grammar_number (map Placed.kind ps) y j (rw length-map ((reading_exact t ps).0 e).2) h)
      where
        go : (y ≡ 2) ⊎ (y ≡ 3) → grammatical t (map Placed.start ps) (map Placed.end ps) (refuse y j) ≡ Err (refusal 3 (start_at t ps k) (size_at t ps k))
        go (inl two) =
            absurd (deep_stops k j (two-means ts (all_proper t ps) (few t ps e) items_most (omega arith) j (kinds t old x i n enough ps e (h ∙ ap (λ (z : ℕ). refuse z j) two))) w)
        go (inr three) =
            let v = three-means ts (all_proper t ps) (few t ps e) items_most (omega arith) j (kinds t old x i n enough ps e (h ∙ ap (λ (z : ℕ). refuse z j) three)) in
            let s : j ≡ k = stray_once ts j k v.place w.place in
            at_token_lem t ps y j ∙ rw (three, s)

  passed-row : (g : Grammatical t) → checked (map symbol_of g.numbers) (said t g) (map place_of g.numbers) ≡ None → passed (map symbol_of g.numbers) (said t g) ≡ true → pass_of t ≡ Err (refusal 6 0 0)
  unfolding by_grammar by_rules
  passed-row g f p = ap (lexical t) g.reads ∙ rw (g.written, f, p)

  -- the ceilings of the items first, then that of the normal text
  over-row : (g : Grammatical t) → checked (map symbol_of g.numbers) (said t g) (map place_of g.numbers) ≡ None → (b : Bool) → passed (map symbol_of g.numbers) (said t g) ≡ b
      → either b (wide_at t) ≡ true → judge_of t ≡ Err (refusal 6 0 0)
  over-row g f true p o = refused_stays t 6 0 0 (passed-row g f p)
  over-row g f false p o = let_through t (means_pass t (g, f, p)) ∙ ap (λ (b : Bool). pick {A = Result (Unit {0}) Refusal} b (Err (refusal 6 0 0)) (Ok tt)) o

  judged-row : Row t old x i n → judge_of t ≡ Err (refusal x i n)
  unfolding by_grammar by_rules
  judged-row (short h a b c) = absurd (omega arith)
  judged-row (bytes h e) = refused_stays t x i n (rw e)
  judged-row (deep ps k h e w a b c) = refused_stays t x i n (ap (lexical t) e ∙ deep-answer ps e k w (parsed (map Placed.kind ps) items_most) refl ∙ rw (a, b, c))
  judged-row (stop ps k h e w a b c) = refused_stays t x i n (ap (lexical t) e ∙ stop_answer ps e k w (parsed (map Placed.kind ps) items_most) refl ∙ rw (a, b, c))
  judged-row (fault g k h f b c) = refused_stays t x i n (ap (lexical t) g.reads ∙ rw (g.written, f, b, c) (at_token_lem t g.parts x k))
  judged-row (ceiling g h f p a b c) = over-row g f (passed (map symbol_of g.numbers) (said t g)) refl p ∙ rw (a, b, c)

pub row-answer : (t old : List ℕ) (x i n : ℕ) → Row t old x i n → read_of t old ≡ Err (refusal x i n)
unfolding read_of
row-answer t old x i n r = go (lt_or_ge (length old) tables_room) r
  where
    go : (length old < tables_room) ⊎ (tables_room ≤ length old) → Row t old x i n → pick {A = Result (Unit {0}) Refusal} (ltb (length old) tables_room) (Err (refusal 7 0 0)) (judge_of t) ≡ Err (refusal x i n)
    go (inl h) (short l a b c) = rw (lt-ltb (length old) tables_room h, a, b, c)
    go (inl h) (bytes l e) = absurd (omega arith)
    go (inl h) (deep ps k l e w a b c) = absurd (omega arith)
    go (inl h) (stop ps k l e w a b c) = absurd (omega arith)
    go (inl h) (fault g k l f b c) = absurd (omega arith)
    go (inl h) (ceiling g l f p a b c) = absurd (omega arith)
    go (inr h) r = rw (le-ltb (length old) tables_room h) (judged-row t old x i n h r)

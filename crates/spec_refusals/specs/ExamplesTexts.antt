-- Document 01, "What is answered": worked examples of texts that are models and of texts that rows 1, 3, 4 to 6 refuse, on both sides. (Row 2 for depth, and more of row 3, are in specs/Examples.antt of
-- `spec_grammar`; more of rows 4 and 5 in that of `spec_faults`, of row 6 in specs/Ceiled.antt of `spec_rules`.)
use Rattle.std.specs.Prelude.{ℕ, suc, ◌≤◌, ◌<◌, ◌≡◌, refl, ◌⊎◌, List, [], ◌∷◌, ◌++◌, length, replicate}
use Rattle.std.proofs.Common.{arith, ap, inr, length-append}
use Rattle.std.proofs.lemmas.List.{length-replicate}
use Rattle.base_bytes.specs.Lists.{same}
use Rattle.base_kinds.specs.Kinds.{bytes, marks}
use Rattle.spec_text.specs.Find.{find}
use Rattle.spec_text.specs.Placed.{Placed, placed}
use Rattle.spec_text.specs.Spelled.{all, Spelled, word, digits, string, mark}
use Rattle.spec_text.specs.Layout.{Laid, ends, token, blank}
use Rattle.spec_text.specs.Layout as layout
use Rattle.spec_text.specs.Writing.{tokens_in, write_behind}
use Rattle.spec_text.specs.Spoils.{Wrong, stray, bad_byte, bad_escape, unclosed_string, unclosed_escape, unclosed_comment, long_word, large_number, long_string, wrong, too_many, Spoils, too_long, broken}
use Rattle.spec_text.specs.ExamplesSpoils as spoils
use Rattle.spec_grammar.specs.Tree.{leaf, skip, bare, end, then, body, init, Model}
use Rattle.spec_grammar.specs.Grammar.{one, is_int, no_semi, none_trails, s_skip, s_break, s_leaf, s_bare, q_last, x_bare, declaration, statements, a_body, u_global, u_init, Gram, g_last}
use Rattle.spec_grammar.specs.Examples as grammar
use Rattle.spec_rules.specs.Senses.{sense_in, fresh}
use Rattle.spec_rules.specs.Ceilings.{modest}
use Rattle.spec_faults.specs.Faults.{in_list, in_leaf, in_tree, in_variable, in_items, in_units, Among, here, there}
use Rattle.spec_refusals.specs.Texts.{Tokens}
use Rattle.spec_refusals.specs.Legal.{Legal}
use Rattle.spec_refusals.specs.Rows as rows
use Rattle.spec_refusals.specs.Rows.{Refusal}

-- ## a model: `init{skip}`
resting : Tokens (bytes "init{skip}") (placed 56 0 4 ∷ placed 25 4 1 ∷ placed 63 5 4 ∷ placed 26 9 1 ∷ [])
unfolding all find same
resting =
    record {
      laid =
          token layout.none (word {b = 105} {s = bytes "nit"} refl refl (omega arith)) (spoils.before 105 123 (bytes "nit") (bytes "skip}") refl refl refl refl (λ y. refl))
          (token {x = bytes "{"} layout.none (mark {k = 24} refl) (spoils.before 123 115 [] (bytes "kip}") refl refl refl refl (λ y. refl))
          (token layout.none (word {b = 115} {s = bytes "kip"} refl refl (omega arith)) (spoils.before 115 125 (bytes "kip") [] refl refl refl refl (λ y. refl))
          (token {x = bytes "}"} layout.none (mark {k = 25} refl) (spoils.at_end (bytes "}")) (ends layout.none))));
      short = omega arith;
      few = omega arith;
    }

legal : Legal (bytes "init{skip}")
unfolding all find same write_behind in_leaf in_tree in_items in_units modest
legal =
    record {
      parts = placed 56 0 4 ∷ placed 25 4 1 ∷ placed 63 5 4 ∷ placed 26 9 1 ∷ [];
      reads = resting;
      tree = init (body [] (then (bare (leaf skip)) end)) ∷ [];
      gram = g_last (u_init (a_body (statements (q_last (s_bare (s_leaf s_skip)) none_trails)))) no_semi;
      shallow = refl;
      faultless = refl;
      modest = refl;
      slim = omega arith;
    }

-- ## row 1 is `init{'}`, sample P9; rows 5 and 6
bad_byte_5 : Refusal (bytes "init{'}") 1 5 1
bad_byte_5 = rows.bytes spoils.stray_byte

-- `init{break}`: 5 at `break`, which has 5 bytes from place 5 on
breaking : Tokens (bytes "init{break}") (placed 56 0 4 ∷ placed 25 4 1 ∷ placed 48 5 5 ∷ placed 26 10 1 ∷ [])
unfolding all find same
breaking =
    record {
      laid =
          token layout.none (word {b = 105} {s = bytes "nit"} refl refl (omega arith)) (spoils.before 105 123 (bytes "nit") (bytes "break}") refl refl refl refl (λ y. refl))
          (token {x = bytes "{"} layout.none (mark {k = 24} refl) (spoils.before 123 98 [] (bytes "reak}") refl refl refl refl (λ y. refl))
          (token layout.none (word {b = 98} {s = bytes "reak"} refl refl (omega arith)) (spoils.before 98 125 (bytes "reak") [] refl refl refl refl (λ y. refl))
          (token {x = bytes "}"} layout.none (mark {k = 25} refl) (spoils.at_end (bytes "}")) (ends layout.none))));
      short = omega arith;
      few = omega arith;
    }

break_out_of_place : Refusal (bytes "init{break}") 5 5 5
unfolding in_leaf in_tree in_items in_units
break_out_of_place =
    rows.fault {k = 2} breaking (g_last (u_init (a_body (statements (q_last (s_bare (s_leaf s_break)) none_trails)))) no_semi) refl record { is = here; soonest = soonest }
  where
    soonest : (y j : ℕ) → Among y j (record { number = 5; token = 2 } ∷ []) → (2 < j) ⊎ ((2 ≡ j) × (5 ≤ y))
    soonest y j here = inr (refl, omega arith)
    soonest y j (there x3) = elim x3 [ ]

-- `int a`: "no process starts"
declaring : Tokens (bytes "int a") (placed 45 0 3 ∷ placed 70 4 1 ∷ [])
unfolding all find same
declaring =
    record {
      laid =
          token layout.none (word {b = 105} {s = bytes "nt"} refl refl (omega arith)) (spoils.before 105 32 (bytes "nt") (bytes "a") refl refl refl refl (λ y. refl))
          (token (blank {b = 32} refl layout.none) (word {b = 97} {s = []} refl refl (omega arith)) (spoils.at_end (bytes "a")) (ends layout.none));
      short = omega arith;
      few = omega arith;
    }

no_process_lem : Refusal (bytes "int a") 6 0 0
unfolding find same sense_in fresh in_list in_variable in_units modest
no_process_lem = rows.ceiling declaring (g_last (u_global (declaration is_int (one x_bare))) no_semi) refl refl refl

-- ## the empty text is no model and is refused with 3 at its end, and with no number above that
empty-text : Refusal [] 3 0 0
empty-text = rows.stop {ps = []} record { laid = ends layout.none; short = omega arith; few = omega arith } grammar.empty-text

spelled_long : {k : ℕ} {x : List ℕ} → Spelled k x → 0 < length x
unfolding find same
spelled_long (word a b c) = omega arith
spelled_long (digits a b c) = omega arith
spelled_long (string a b) = omega arith
spelled_long (mark {k = k} {x = x} e) = go x e
  where
    go : (x : List ℕ) → find x marks 1 ≡ suc k → 0 < length x
    go [] e = absurd (omega (arith, e))
    go (b ∷ x) e = omega arith

no_parts : {i : ℕ} {t : List ℕ} {ps : List Placed} → Laid i t ps → t ≡ [] → ps ≡ []
no_parts (ends g) e = refl
no_parts (token {g = g} {x = x} {s = s} a b c d) e = absurd (omega (arith, ap length e, length-append g (x ++ s), length-append x s, spelled_long b))

no_tree : {ps : List Placed} {m : Model} → Tokens [] ps → Gram (tokens_in [] ps) m → ⊥
no_tree {m = m} k g = grammar.no_empty_text m (rw (no_parts k.laid refl) at g)

not_legal : Legal [] → ⊥
not_legal l = no_tree l.reads l.gram

wrong_number : {s : List ℕ} {x n : ℕ} → Wrong s x n → x ≤ 2
wrong_number (stray b s p q r f) = omega arith
wrong_number (bad_byte b s p q) = omega arith
wrong_number (bad_escape b s p q) = omega arith
wrong_number (unclosed_string p) = omega arith
wrong_number (unclosed_escape p) = omega arith
wrong_number (unclosed_comment c p) = omega arith
wrong_number (long_word b x s p q r f) = omega arith
wrong_number (large_number b x s p q r f) = omega arith
wrong_number (long_string s p q) = omega arith

spoils_number : {t : List ℕ} {x i n : ℕ} → Spoils t x i n → x ≤ 2
spoils_number (too_long h) = omega arith
spoils_number (broken h (wrong b l w)) = wrong_number w
spoils_number (broken h (too_many s b p l)) = omega arith

small-number : {x i n : ℕ} → Refusal [] x i n → x ≤ 3
small-number (rows.bytes s) = omega (arith, spoils_number s)
small-number (rows.deep l w) = omega arith
small-number (rows.stop l w) = omega arith
small-number (rows.fault l g d s) = absurd (no_tree l g)
small-number (rows.ceiling l g d f o) = absurd (no_tree l g)
small-number (rows.overlong l g d f o) = absurd (no_tree l g)

not_six : Refusal [] 6 0 0 → ⊥
not_six r = omega (arith, small-number r)

-- 65,537 blanks are no model for their length alone
too_long_a_text : Legal (replicate 65537 32) → ⊥
too_long_a_text l = omega (arith, l.reads.short, length-replicate {A = ℕ} 65537 32)

-- Expressions fit wherever a phrase may stand in a body.
use Prim.Native.Nat.{ℕ, zero, suc, ◌+◌, ◌≤◌}
use mathlib.Core.Path.{◌≡◌, refl, sym, subst}
use mathlib.Core.Bool.{Bool, true, false}
use mathlib.Core.List.{[], ◌∷◌, ◌++◌}
use native.Mathlib.Omega.{arith}
use Rattle.spec_grammar.specs.Tree.{Shape, expression, reference, Exp, plain, indexed, num, tru, fls, get, query, unary, binary, choice}
use Rattle.spec_grammar.specs.Grammar.{IsUnary, is_minus, is_not, is_flip}
use Rattle.base_codes.specs.Items.{Item, code_of, i_binary, i_choice, i_index, i_query, i_otherwise, i_unary}
use Rattle.base_codes.specs.Sets.{is_part, is_alone, is_lead}
use Rattle.parse_code.specs.Code.{code_exp}
use Rattle.link_phrases_proof.specs.Phrases.{Proper}
use Rattle.keep_forms.specs.Forms.{Form, form, step, fits}
use Rattle.keep_forms.proofs.Passes.{Passes, join}

-- a reference ends with `plain` or `index`
abbrev pub Ends : Shape → Bool → Type 0
Ends expression r = Unit {0}
Ends reference r = r ≡ true

-- an operator's code
abbrev Joined : ℕ → Type 0
Joined c = (o l : ℕ) (r m a : Bool) (g n : ℕ) → (fits (form 2 o l true r m a g n) c ≡ true) × ((q : Bool) × (h : ℕ) × (step (form 2 o l true r m a g n) c ≡ form 2 o l true q m a h 0))

-- each of 18
by_eighteen : (P : ℕ → Type 0) → P 1 → P 2 → P 3 → P 4 → P 5 → P 6 → P 7 → P 8 → P 9 → P 10 → P 11 → P 12 → P 13 → P 14 → P 15 → P 16 → P 17 → P 18 → (o : ℕ) → 1 ≤ o → o ≤ 18 → P o
by_eighteen P p1 p2 p3 p4 p5 p6 p7 p8 p9 p10 p11 p12 p13 p14 p15 p16 p17 p18 o a b = go o a b
  where
    go : (o : ℕ) → 1 ≤ o → o ≤ 18 → P o
    go zero a b = absurd (omega arith)
    go (suc zero) a b = p1
    go (suc (suc zero)) a b = p2
    go (suc (suc (suc zero))) a b = p3
    go (suc (suc (suc (suc zero)))) a b = p4
    go (suc (suc (suc (suc (suc zero))))) a b = p5
    go (suc (suc (suc (suc (suc (suc zero)))))) a b = p6
    go (suc (suc (suc (suc (suc (suc (suc zero))))))) a b = p7
    go (suc (suc (suc (suc (suc (suc (suc (suc zero)))))))) a b = p8
    go (suc (suc (suc (suc (suc (suc (suc (suc (suc zero))))))))) a b = p9
    go (suc (suc (suc (suc (suc (suc (suc (suc (suc (suc zero)))))))))) a b = p10
    go (suc (suc (suc (suc (suc (suc (suc (suc (suc (suc (suc zero))))))))))) a b = p11
    go (suc (suc (suc (suc (suc (suc (suc (suc (suc (suc (suc (suc zero)))))))))))) a b = p12
    go (suc (suc (suc (suc (suc (suc (suc (suc (suc (suc (suc (suc (suc zero))))))))))))) a b = p13
    go (suc (suc (suc (suc (suc (suc (suc (suc (suc (suc (suc (suc (suc (suc zero)))))))))))))) a b = p14
    go (suc (suc (suc (suc (suc (suc (suc (suc (suc (suc (suc (suc (suc (suc (suc zero))))))))))))))) a b = p15
    go (suc (suc (suc (suc (suc (suc (suc (suc (suc (suc (suc (suc (suc (suc (suc (suc zero)))))))))))))))) a b = p16
    go (suc (suc (suc (suc (suc (suc (suc (suc (suc (suc (suc (suc (suc (suc (suc (suc (suc zero))))))))))))))))) a b = p17
    go (suc (suc (suc (suc (suc (suc (suc (suc (suc (suc (suc (suc (suc (suc (suc (suc (suc (suc zero)))))))))))))))))) a b = p18
    go (suc (suc (suc (suc (suc (suc (suc (suc (suc (suc (suc (suc (suc (suc (suc (suc (suc (suc (suc o))))))))))))))))))) a b = absurd (omega arith)

joined_binary : (o : ℕ) → 1 ≤ o → o ≤ 18 → Joined (146 + o)
unfolding fits step is_part is_alone is_lead
joined_binary =
    by_eighteen (λ o. Joined (146 + o)) (λ o l r m a g n. (refl, (_, _, refl))) (λ o l r m a g n. (refl, (_, _, refl))) (λ o l r m a g n. (refl, (_, _, refl))) (λ o l r m a g n. (refl, (_, _, refl))) (λ o l r m a g n. (refl, (_, _, refl))) (λ o l r m a g n. (refl, (_, _, refl))) (λ o l r m a g n. (refl, (_, _, refl))) (λ o l r m a g n. (refl, (_, _, refl))) (λ o l r m a g n. (refl, (_, _, refl))) (λ o l r m a g n. (refl, (_, _, refl))) (λ o l r m a g n. (refl, (_, _, refl))) (λ o l r m a g n. (refl, (_, _, refl))) (λ o l r m a g n. (refl, (_, _, refl))) (λ o l r m a g n. (refl, (_, _, refl))) (λ o l r m a g n. (refl, (_, _, refl))) (λ o l r m a g n. (refl, (_, _, refl))) (λ o l r m a g n. (refl, (_, _, refl))) (λ o l r m a g n. (refl, (_, _, refl)))

joined_unary : {o : ℕ} → IsUnary o → Joined (code_of (i_unary o))
unfolding fits step is_part is_alone is_lead
joined_unary is_minus = λ o l r m a g n. (refl, (_, _, refl))
joined_unary is_not = λ o l r m a g n. (refl, (_, _, refl))
joined_unary is_flip = λ o l r m a g n. (refl, (_, _, refl))

-- ---- expressions
module _ (o l : ℕ) (m a : Bool) where
  -- behind a phrase
  abbrev pub after : Bool → ℕ → ℕ → Form
  after r g n = form 2 o l true r m a g n

  one : (i : Item) (r : Bool) (g n : ℕ) (K : Form → Type 0) → Joined (code_of i) → ((r : Bool) (g n : ℕ) → K (after r g n)) → Passes (i ∷ []) (after r g n) K
  one i r g n K j k = let q = j o l r m a g n in (q.0, subst K (sym q.1.2) (k q.1.0 q.1.1 0))

  pub phrase : {s : Shape} (e : Exp s) → Proper e → (p r : Bool) (g n : ℕ) (K : Form → Type 0) → ((r : Bool) (g n : ℕ) → Ends s r → K (after r g n)) → Passes (code_exp e) (form 2 o l p r m a g n) K
  unfolding fits step is_part is_alone is_lead
  phrase (plain w) h p r g n K k = (refl, (refl, k _ _ _ refl))
  phrase (indexed w e) h p r g n K k = (refl, join (code_exp e) (i_index ∷ []) _ K (phrase e h true false _ _ _ (λ r g n z. (refl, k _ _ _ refl))))
  phrase (num v) h p r g n K k = (refl, k _ _ _ tt)
  phrase tru h p r g n K k = (refl, k _ _ _ tt)
  phrase fls h p r g n K k = (refl, k _ _ _ tt)
  phrase (get e) h p r g n K k = phrase e h p r g n K (λ r g n z. k r g n tt)
  phrase (query mk e) h p r g n K k = join (code_exp e) (i_query mk ∷ []) _ K (phrase e h p r g n _ (λ r g n z. subst (λ r. Passes (i_query mk ∷ []) (after r g n) K) (sym z) (refl, k _ _ _ tt)))
  phrase (unary u e) h p r g n K k = join (code_exp e) (i_unary u ∷ []) _ K (phrase e h.1 p r g n _ (λ r g n z. one (i_unary u) r g n K (joined_unary h.0) (λ r g n. k r g n tt)))
  phrase (binary u x y) h p r g n K k =
      join (code_exp x ++ code_exp y) (i_binary u ∷ []) _ K
      (join (code_exp x) (code_exp y) _ _ (phrase x h.2 p r g n _ (λ r g n z. phrase y h.3 true r g n _ (λ r g n z. one (i_binary u) r g n K (joined_binary u h.0 h.1) (λ r g n. k r g n tt)))))
  phrase (choice x y c) h p r g n K k =
      join (code_exp x ++ code_exp y ++ i_otherwise ∷ code_exp c) (i_choice ∷ []) _ K
      (join (code_exp x ++ code_exp y) (i_otherwise ∷ code_exp c) _ _
      (join (code_exp x) (code_exp y) _ _ (phrase x h.0 p r g n _ (λ r g n z. phrase y h.1 true r g n _ (λ r g n z. (refl, phrase c h.2 true false _ _ _ (λ r g n z. (refl, k _ _ _ tt))))))))

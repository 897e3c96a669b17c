-- The machine's theorems, over any grammar and guide that pass the conditions of `Good`: what it accepts is derived, what is derived it accepts, and the place
-- where it refuses is the first token that can continue nothing derived (document 01, refusal 3). The conditions are tests that antt computes.
use mathlib.Core.Path.{◌≡◌, refl, ap, sym, ◌∙◌, subst}
use mathlib.Core.Bool.{Bool, true, false}
use mathlib.Core.Logic.{◌⊎◌, inl, inr}
use mathlib.Core.Option.{Option, none, some}
use mathlib.Core.List.{List, [], ◌∷◌, ◌++◌, append_assoc}
use Prim.Native.Nat.{ℕ, zero, suc, ◌<◌, ◌≤◌, ◌+◌}
use native.Mathlib.Omega.{arith}
use lib.Dec.{T}
use lib.ListN.{length, take}
use Rattle.base_bytes.specs.Choice.{both, either}
use Rattle.parse_grammar.specs.Engine.{Sym, nt, tm, act, In, Grammar, Guide, Answer, ok, bad, is_some, later, wrote, left_out, ended, L, done, emit, eat, by, Moved, emitted, eaten, chosen, next, or_more, first, choose, bound, step, finish, parse}
use Rattle.parse_grammar.proofs.Tests.{never, implies, implies_out, both_left, both_right, both_in, either_left, either-right, either_out, below, below_out, is_some_lem, one_of, pick_sel, pick_in, Fits}

module _ {C S N A : Type 0} (G : Grammar C S N A) (U : Guide C S N A) (K : ℕ) where
  -- after each nonterminal comes only what `fol` says
  abbrev pub Safe : List (Sym N S A) → (ℕ → Bool) → Type 0
  Safe [] F = Unit {0}
  Safe (act a ∷ k) F = Safe k F
  Safe (tm t ∷ k) F = Safe k F
  Safe (nt n ∷ k) F = ((i : ℕ) → i < K → T (first G U k F i) → T (U.fol n i)) × Safe k F

  abbrev pub safe? : List (Sym N S A) → (ℕ → Bool) → Bool
  safe? [] F = true
  safe? (act a ∷ k) F = safe? k F
  safe? (tm t ∷ k) F = safe? k F
  safe? (nt n ∷ k) F = both (below K (λ i. implies (first G U k F i) (U.fol n i))) (safe? k F)

  pub safe_by_test : (r : List (Sym N S A)) (F : ℕ → Bool) → T (safe? r F) → Safe r F
  safe_by_test [] F t = tt
  safe_by_test (act a ∷ k) F t = safe_by_test k F t
  safe_by_test (tm t' ∷ k) F t = safe_by_test k F t
  safe_by_test (nt n ∷ k) F t =
      let b : Bool = below K (λ i. implies (first G U k F i) (U.fol n i)) in
      (λ i h. implies_out (first G U k F i) (U.fol n i) (below_out K (λ j. implies (first G U k F j) (U.fol n j)) (both_left b (safe? k F) t) i h), safe_by_test k F (both_right b (safe? k F) t))

  pub record Good : Type 0 where
    pub eats_ok : (t : S) (c : C) (a : List A) → G.eats t c ≡ some a → T (U.takes t (U.kind c)) × (U.kind c < K)
    pub single : (n : N) (i : ℕ) → i < K → T (one_of (λ r. first G U r (U.fol n) i) (G.prods n))
    pub safe : (n : N) (r : List (Sym N S A)) → In r (G.prods n) → Safe r (U.fol n)
    pub starts_ok : (n : N) (r : List (Sym N S A)) → In r (G.prods n) → (i : ℕ) → i < K → T (first G U r never i) → T (U.starts n i)
    pub nul_ok : (n : N) (r : List (Sym N S A)) → In r (G.prods n) → Fits (finish G U r) (U.nul n)
    pub cost_ok : (n : N) (r : List (Sym N S A)) → In r (G.prods n) → bound G U r < U.cost n
    pub empties : (n : N) (a : List A) → U.nul n ≡ some a → L G (nt n ∷ []) [] a
    pub eatable : (t : S) → (c : C) × (a : List A) × (G.eats t c ≡ some a)
    pub makes : (n : N) → (w : List C) × (o : List A) × L G (nt n ∷ []) w o

  first_app : (r k : List (Sym N S A)) (F H : ℕ → Bool) (i : ℕ) → (T (first G U k F i) → T (H i)) → T (first G U (r ++ k) F i) → T (first G U r H i)
  first_app [] k F H i f t = f t
  first_app (act a ∷ r) k F H i f t = first_app r k F H i f t
  first_app (tm t' ∷ r) k F H i f t = t
  first_app (nt n ∷ r) k F H i f t = go (U.starts n i) (is_some (U.nul n)) (first_app r k F H i f) t
    where
      go : (a n : Bool) → (T (first G U (r ++ k) F i) → T (first G U r H i)) → T (either a (both n (first G U (r ++ k) F i))) → T (either a (both n (first G U r H i)))
      go true n g t' = tt
      go false true g t' = g t'
      go false false g t' = t'

  pub safe_app : (r k : List (Sym N S A)) (F H : ℕ → Bool) → ((i : ℕ) → i < K → T (first G U k F i) → T (H i)) → Safe r H → Safe k F → Safe (r ++ k) F
  safe_app [] k F H f s t = t
  safe_app (act a ∷ r) k F H f s t = safe_app r k F H f s t
  safe_app (tm t' ∷ r) k F H f s t = safe_app r k F H f s t
  safe_app (nt n ∷ r) k F H f s t = (λ i h u. s.0 i h (first_app r k F H i (f i h) u), safe_app r k F H f s.1 t)

  some-wrote : (a : List A) (x : Option (List A)) → T (is_some x) → T (is_some (wrote a x))
  some-wrote a none t = t
  some-wrote a (some o) t = tt

  some_left : (y x : Option (List A)) → T (is_some y) → T (is_some x) → T (is_some (left_out y x))
  some_left none x s t = s
  some_left (some a) x s t = some-wrote a x t

  -- what comes first is of r, or r is empty and it is of k
  first-split : (r k : List (Sym N S A)) (F : ℕ → Bool) (i : ℕ) → T (first G U (r ++ k) F i) → T (first G U r never i) ⊎ (T (is_some (finish G U r)) × T (first G U k F i))
  first-split [] k F i t = inr (tt, t)
  first-split (act a ∷ r) k F i t = go (first-split r k F i t)
    where
      go : T (first G U r never i) ⊎ (T (is_some (finish G U r)) × T (first G U k F i)) → T (first G U r never i) ⊎ (T (is_some (wrote (a ∷ []) (finish G U r))) × T (first G U k F i))
      go (inl x) = inl x
      go (inr x) = inr (some-wrote (a ∷ []) (finish G U r) x.0, x.1)
  first-split (tm t' ∷ r) k F i t = inl t
  first-split (nt n ∷ r) k F i t = go (either_out (U.starts n i) (is_some (U.nul n)) (first G U (r ++ k) F i) t) (first-split r k F i)
    where
      go : T (U.starts n i) ⊎ (T (is_some (U.nul n)) × T (first G U (r ++ k) F i)) →
          (T (first G U (r ++ k) F i) → T (first G U r never i) ⊎ (T (is_some (finish G U r)) × T (first G U k F i))) →
          T (first G U (nt n ∷ r) never i) ⊎ (T (is_some (left_out (U.nul n) (finish G U r))) × T (first G U k F i))
      go (inl x) f = inl (either_left (U.starts n i) _ x)
      go (inr x) f = go' (f x.1)
        where
          go' : T (first G U r never i) ⊎ (T (is_some (finish G U r)) × T (first G U k F i)) → T (first G U (nt n ∷ r) never i) ⊎ (T (is_some (left_out (U.nul n) (finish G U r))) × T (first G U k F i))
          go' (inl y) = inl (either-right (U.starts n i) (both (is_some (U.nul n)) (first G U r never i)) (both_in (is_some (U.nul n)) (first G U r never i) x.0 y))
          go' (inr y) = inr (some_left (U.nul n) (finish G U r) x.0 y.0, y.1)

  fits-some : (x y : Option (List A)) → Fits x y → T (is_some x) → T (is_some y)
  fits-some none y f t = absurd t
  fits-some (some a) none f t = absurd f
  fits-some (some a) (some b) f t = tt

  -- bounds
  bound_app : (r k : List (Sym N S A)) → bound G U (r ++ k) ≤ bound G U r + bound G U k
  bound_app [] k = omega arith
  bound_app (act a ∷ r) k = omega (arith, bound_app r k)
  bound_app (tm t ∷ r) k = omega arith
  bound_app (nt n ∷ r) k = go (U.nul n) (bound_app r k)
    where
      go : (x : Option (List A)) → bound G U (r ++ k) ≤ bound G U r + bound G U k → or_more x (U.cost n) (bound G U (r ++ k)) ≤ or_more x (U.cost n) (bound G U r) + bound G U k
      go none h = omega arith
      go (some a) h = omega arith

  wrote_none : (a : List A) (x : Option (List A)) → wrote a x ≡ none → x ≡ none
  wrote_none a none e = refl
  wrote_none a (some o) e = absurd (is_some_lem (sym e))

  bound-closed : (r k : List (Sym N S A)) → finish G U r ≡ none → bound G U (r ++ k) ≡ bound G U r
  bound-closed [] k e = absurd (is_some_lem (sym e))
  bound-closed (act a ∷ r) k e = ap suc (bound-closed r k (wrote_none (a ∷ []) (finish G U r) e))
  bound-closed (tm t ∷ r) k e = refl
  bound-closed (nt n ∷ r) k e = go (U.nul n) e (bound-closed r k)
    where
      go : (x : Option (List A)) → left_out x (finish G U r) ≡ none → (finish G U r ≡ none → bound G U (r ++ k) ≡ bound G U r) → or_more x (U.cost n) (bound G U (r ++ k)) ≡ or_more x (U.cost n) (bound G U r)
      go none h f = refl
      go (some a) h f = ap (U.cost n +◌) (f (wrote_none a (finish G U r) h))

  fits-none : (x : Option (List A)) → Fits x none → x ≡ none
  fits-none none f = refl
  fits-none (some a) f = absurd f

  inv_act : {a : A} {k : List (Sym N S A)} {w : List C} {o : List A} → L G (act a ∷ k) w o → (p : List A) × (o ≡ a ∷ p) × L G k w p
  inv_act (emit {o = p} d) = (p, refl, d)

  inv_tm : {t : S} {k : List (Sym N S A)} {c : C} {w : List C} {o : List A} → L G (tm t ∷ k) (c ∷ w) o → (a p : List A) × (G.eats t c ≡ some a) × (o ≡ a ++ p) × L G k w p
  inv_tm (eat {a = a} {o = p} e d) = (a, p, e, refl, d)

  inv_nt : {n : N} {k : List (Sym N S A)} {w : List C} {o : List A} → L G (nt n ∷ k) w o → (r : List (Sym N S A)) × In r (G.prods n) × L G (r ++ k) w o
  inv_nt (by {r = r} m d) = (r, m, d)

  -- what one step of the machine says of what the symbols derive
  data View (k : List (Sym N S A)) (c : C) : Option (Moved N S A) → Type 0 where
    moved : {p : Moved N S A}
        → ((w : List C) (o : List A) → L G p.1 w o → L G k (c ∷ w) (p.0 ++ o))
        → ((w : List C) (o : List A) → Safe k never → L G k (c ∷ w) o → (q : List A) × (o ≡ p.0 ++ q) × L G p.1 w q)
        → (Safe k never → Safe p.1 never)
        → View k c (some p)
    stuck : ((w : List C) (o : List A) → Safe k never → L G k (c ∷ w) o → ⊥) → View k c none

  module _ (𝓖 : Good) where
    ranged : {k : List (Sym N S A)} {c : C} {w : List C} {o : List A} → L G k (c ∷ w) o → U.kind c < K
    ranged (emit d) = ranged d
    ranged (eat {t = t} {c = c} {a = a} e d) = (𝓖.eats_ok t c a e).1
    ranged (by m d) = ranged d

    first_of : {k : List (Sym N S A)} {c : C} {w : List C} {o : List A} → L G k (c ∷ w) o → T (first G U k never (U.kind c))
    first_of (emit d) = first_of d
    first_of (eat {t = t} {c = c} {a = a} e d) = (𝓖.eats_ok t c a e).0
    first_of {c = c} (by {n = n} {r = r} {k = k} m d) = go (first-split r k never (U.kind c) (first_of d))
      where
        go : T (first G U r never (U.kind c)) ⊎ (T (is_some (finish G U r)) × T (first G U k never (U.kind c))) → T (first G U (nt n ∷ k) never (U.kind c))
        go (inl x) = either_left (U.starts n (U.kind c)) _ (𝓖.starts_ok n r m (U.kind c) (ranged d) x)
        go (inr x) =
            either-right (U.starts n (U.kind c)) (both (is_some (U.nul n)) (first G U k never (U.kind c)))
            (both_in (is_some (U.nul n)) (first G U k never (U.kind c)) (fits-some (finish G U r) (U.nul n) (𝓖.nul_ok n r m) x.0) x.1)

    -- the right side that a derivation uses is the one that the machine chooses
    pub same : (n : N) (k r : List (Sym N S A)) (c : C) {w : List C} {o : List A} → Safe (nt n ∷ k) never → In r (G.prods n) → L G (r ++ k) (c ∷ w) o → choose G U n (U.kind c) ≡ some r
    same n k r c s m d =
        let i = U.kind c in
        pick_sel (λ r'. first G U r' (U.fol n) i) (G.prods n) r (𝓖.single n i (ranged d)) m
        (first_app r k never (U.fol n) i (s.0 i (ranged d)) (first_of d))

    bound_less : (n : N) (r k : List (Sym N S A)) (f : ℕ) → In r (G.prods n) → bound G U (nt n ∷ k) ≤ suc f → bound G U (r ++ k) ≤ f
    bound_less n r k f m h = go (U.nul n) (𝓖.nul_ok n r m) h
      where
        go : (x : Option (List A)) → Fits (finish G U r) x → or_more x (U.cost n) (bound G U k) ≤ suc f → bound G U (r ++ k) ≤ f
        go none e h' = omega (arith, bound-closed r k (fits-none (finish G U r) e), 𝓖.cost_ok n r m)
        go (some a) e h' = omega (arith, bound_app r k, 𝓖.cost_ok n r m)

    cost_bound : (n : N) (k : List (Sym N S A)) → U.cost n ≤ bound G U (nt n ∷ k)
    cost_bound n k = go (U.nul n)
      where
        go : (x : Option (List A)) → U.cost n ≤ or_more x (U.cost n) (bound G U k)
        go none = omega arith
        go (some a) = omega arith

    view_act : (a : A) (k : List (Sym N S A)) (c : C) (x : Option (Moved N S A)) → View k c x → View (act a ∷ k) c (emitted (a ∷ []) x)
    view_act a k c (some p) (moved f g s) =
        moved {p = (a ∷ p.0, p.1)} (λ w o d. emit (f w o d))
        (λ w o t d. let (q, e, d') = inv_act d in let (q', e', d'') = g w q t d' in (q', e ∙ ap (a ∷◌) e', d'')) s
    view_act a k c none (stuck f) = stuck (λ w o s d. f w _ s (inv_act d).2)

    view_tm : (t : S) (k : List (Sym N S A)) (c : C) (x : Option (List A)) → G.eats t c ≡ x → View (tm t ∷ k) c (eaten x k)
    view_tm t k c (some a) e =
        moved {p = (a, k)} (λ w o d. eat e d)
        (λ w o s d. let (a', p, e', h, d') = inv_tm d in let i : a' ≡ a = cc in (p, cc, d')) (λ s. s)
    view_tm t k c none e = stuck (λ w o s d. is_some_lem (sym e ∙ (inv_tm d).2))

    view_use : (n : N) (r k : List (Sym N S A)) (c : C) → choose G U n (U.kind c) ≡ some r → (x : Option (Moved N S A)) → View (r ++ k) c x → View (nt n ∷ k) c x
    view_use n r k c e (some p) (moved f g s) =
        moved (λ w o d. by (pick_in (λ r'. first G U r' (U.fol n) (U.kind c)) (G.prods n) r e) (f w o d))
        (λ w o t d. let (r', m, d') = inv_nt d in let i : r' ≡ r = (let z = same n k r' c t m d' in cc) in g w o (after t) (subst (λ (y : List (Sym N S A)). L G (y ++ k) (c ∷ w) o) i d'))
        (λ t. s (after t))
      where
        after : Safe (nt n ∷ k) never → Safe (r ++ k) never
        after t = safe_app r k never (U.fol n) t.0 (𝓖.safe n r (pick_in (λ r'. first G U r' (U.fol n) (U.kind c)) (G.prods n) r e)) t.1
    view_use n r k c e none (stuck f) =
        stuck (λ w o t d. let (r', m, d') = inv_nt d in let i : r' ≡ r = (let z = same n k r' c t m d' in cc) in f w o (after t) (subst (λ (y : List (Sym N S A)). L G (y ++ k) (c ∷ w) o) i d'))
      where
        after : Safe (nt n ∷ k) never → Safe (r ++ k) never
        after t = safe_app r k never (U.fol n) t.0 (𝓖.safe n r (pick_in (λ r'. first G U r' (U.fol n) (U.kind c)) (G.prods n) r e)) t.1

    view_nt : (n : N) (k : List (Sym N S A)) (c : C) (f : ℕ) (y : Option (List (Sym N S A))) → choose G U n (U.kind c) ≡ y →
        ((r : List (Sym N S A)) → choose G U n (U.kind c) ≡ some r → View (r ++ k) c (step G U f (r ++ k) c)) → View (nt n ∷ k) c (chosen y (λ r. step G U f (r ++ k) c))
    view_nt n k c f (some r) e ih = view_use n r k c e (step G U f (r ++ k) c) (ih r e)
    view_nt n k c f none e ih = stuck (λ w o t d. let (r, m, d') = inv_nt d in is_some_lem (sym e ∙ same n k r c t m d'))

    view : (f : ℕ) (k : List (Sym N S A)) (c : C) → bound G U k ≤ f → View k c (step G U f k c)
    view zero [] c h = stuck (λ w o s d. first_of d)
    view zero (act a ∷ k) c h = absurd (omega arith)
    view zero (tm t ∷ k) c h = absurd (omega arith)
    view zero (nt n ∷ k) c h = stuck (λ w o s d. let (r, m, d') = inv_nt d in omega (arith, 𝓖.cost_ok n r m, cost_bound n k))
    view (suc f) [] c h = stuck (λ w o s d. first_of d)
    view (suc f) (act a ∷ k) c h = view_act a k c (step G U f k c) (view f k c (omega arith))
    view (suc f) (tm t ∷ k) c h = view_tm t k c (G.eats t c) refl
    view (suc f) (nt n ∷ k) c h =
        view_nt n k c f (choose G U n (U.kind c)) refl
        (λ r e. view f (r ++ k) c (bound_less n r k f (pick_in (λ r'. first G U r' (U.fol n) (U.kind c)) (G.prods n) r e) h))

    -- two derivations, one after the other
    ◌then◌ : {r k : List (Sym N S A)} {v w : List C} {o p : List A} → L G r v o → L G k w p → L G (r ++ k) (v ++ w) (o ++ p)
    ◌then◌ done b = b
    ◌then◌ (emit a) b = emit (◌then◌ a b)
    ◌then◌ (eat e a) b = rw append_assoc (eat e (◌then◌ a b))
    ◌then◌ {k = k} (by {r = r} {k = m} i a) b = by i (rw append_assoc at (◌then◌ a b))

    -- every stack derives something
    fill : (k : List (Sym N S A)) → (w : List C) × (o : List A) × L G k w o
    fill [] = ([], [], done)
    fill (act a ∷ k) = let (w, o, d) = fill k in (w, a ∷ o, emit d)
    fill (tm t ∷ k) = let (w, o, d) = fill k in let (c, a, e) = 𝓖.eatable t in (c ∷ w, a ++ o, eat e d)
    fill (nt n ∷ k) = let (w, o, d) = fill k in let (v, p, m) = 𝓖.makes n in (v ++ w, p ++ o, ◌then◌ m d)

    -- the end
    wrote_nil : (x : Option (List A)) → x ≡ wrote [] x
    wrote_nil none = refl
    wrote_nil (some o) = refl

    left-wrote : (a : List A) (x y : Option (List A)) → wrote a (left_out x y) ≡ left_out (wrote a x) y
    left-wrote a none y = refl
    left-wrote a (some o) none = refl
    left-wrote a (some o) (some p) = ap some (sym (append_assoc a o p))

    pub finish_app : (r k : List (Sym N S A)) → finish G U (r ++ k) ≡ left_out (finish G U r) (finish G U k)
    finish_app [] k = wrote_nil (finish G U k)
    finish_app (act a ∷ r) k = ap (wrote (a ∷ [])) (finish_app r k) ∙ left-wrote (a ∷ []) (finish G U r) (finish G U k)
    finish_app (tm t ∷ r) k = refl
    finish_app (nt n ∷ r) k = go (U.nul n) (finish_app r k)
      where
        go : (x : Option (List A)) → finish G U (r ++ k) ≡ left_out (finish G U r) (finish G U k) → left_out x (finish G U (r ++ k)) ≡ left_out (left_out x (finish G U r)) (finish G U k)
        go none e = refl
        go (some a) e = ap (wrote a) e ∙ left-wrote a (finish G U r) (finish G U k)

    fits-left : (x y z : Option (List A)) (o : List A) → Fits x y → left_out x z ≡ some o → left_out y z ≡ some o
    fits-left none y z o f e = absurd (is_some_lem e)
    fits-left (some a) none z o f e = absurd f
    fits-left (some a) (some b) z o f e = rw (← f) e

    pub finish_of : {k : List (Sym N S A)} {o : List A} → L G k [] o → finish G U k ≡ some o
    finish_of done = refl
    finish_of (emit {a = a} d) = ap (wrote (a ∷ [])) (finish_of d)
    finish_of (by {n = n} {r = r} {k = k} {o = o} m d) = fits-left (finish G U r) (U.nul n) (finish G U k) o (𝓖.nul_ok n r m) (sym (finish_app r k) ∙ finish_of d)

    abbrev Fin : List (Sym N S A) → Option (List A) → Type 0
    Fin k none = Unit {0}
    Fin k (some o) = L G k [] o

    fin_act : (a : A) (k : List (Sym N S A)) (x : Option (List A)) → Fin k x → Fin (act a ∷ k) (wrote (a ∷ []) x)
    fin_act a k none d = tt
    fin_act a k (some o) d = emit d

    fin_nt : (n : N) (k : List (Sym N S A)) (y : Option (List A)) → U.nul n ≡ y → (x : Option (List A)) → Fin k x → Fin (nt n ∷ k) (left_out y x)
    fin_nt n k none e x d = tt
    fin_nt n k (some a) e none d = tt
    fin_nt n k (some a) e (some o) d = ◌then◌ (𝓖.empties n a e) d

    fin : (k : List (Sym N S A)) → Fin k (finish G U k)
    fin [] = done
    fin (act a ∷ k) = fin_act a k (finish G U k) (fin k)
    fin (tm t ∷ k) = tt
    fin (nt n ∷ k) = fin_nt n k (U.nul n) refl (finish G U k) (fin k)

    -- THE THEOREM: what each answer of the machine means
    pub data Ran (k : List (Sym N S A)) (w : List C) : Answer A → Type 0 where
      fine : {o : List A} → L G k w o → ((p : List A) → L G k w p → p ≡ o) → Ran k w (ok o)
      refused : {i : ℕ}
          → i ≤ length w
          → (v : List C) × (o : List A) × L G k (take i w ++ v) o
          → (i < length w → (v : List C) (o : List A) → L G k (take (suc i) w ++ v) o → ⊥)
          → ((o : List A) → L G k w o → ⊥)
          → Ran k w (bad i)

    ran_end : (k : List (Sym N S A)) (x : Option (List A)) → finish G U k ≡ x → Fin k x → Ran k [] (ended x)
    ran_end k (some o) e d = fine d (λ p d'. let z = finish_of d' in cc)
    ran_end k none e d = refused {i = 0} (omega arith) (fill k) (λ h. omega arith) (λ o d'. is_some_lem (sym e ∙ finish_of d'))

    ran-later : (k : List (Sym N S A)) (c : C) (w : List C) (p : Moved N S A)
        → ((w : List C) (o : List A) → L G p.1 w o → L G k (c ∷ w) (p.0 ++ o))
        → ((w : List C) (o : List A) → L G k (c ∷ w) o → (q : List A) × (o ≡ p.0 ++ q) × L G p.1 w q)
        → (x : Answer A) → Ran p.1 w x → Ran k (c ∷ w) (later p.0 x)
    ran-later k c w p f g (ok o) (fine d u) = fine (f w o d) (λ o' d'. let (q, e, d'') = g w o' d' in e ∙ ap (p.0 ++◌) (u q d''))
    ran-later k c w p f g (bad i) (refused l (v, o, d) n m) =
        refused {i = suc i} (omega arith) (v, p.0 ++ o, f (take i w ++ v) o d)
        (λ h v' o' d'. n (omega arith) v' _ (g (take (suc i) w ++ v') o' d').2)
        (λ o' d'. m _ (g w o' d').2)

    ran-next : (k : List (Sym N S A)) (c : C) (w : List C) → Safe k never → ((k' : List (Sym N S A)) → Safe k' never → Ran k' w (parse G U k' w)) →
        (x : Option (Moved N S A)) → View k c x → Ran k (c ∷ w) (next x (λ k'. parse G U k' w))
    ran-next k c w s ih (some p) (moved f g t) = ran-later k c w p f (λ v o. g v o s) (parse G U p.1 w) (ih p.1 (t s))
    ran-next k c w s ih none (stuck f) = refused {i = 0} (omega arith) (fill k) (λ h v o. f v o s) (λ o. f w o s)

    pub ran : (k : List (Sym N S A)) (w : List C) → Safe k never → Ran k w (parse G U k w)
    ran k [] s = ran_end k (finish G U k) refl (fin k)
    ran k (c ∷ w) s = ran-next k c w s (λ k'. ran k' w) (step G U (bound G U k) k c) (view (bound G U k) k c (omega arith))

    pub sound : (k : List (Sym N S A)) (w : List C) (o : List A) → Safe k never → parse G U k w ≡ ok o → L G k w o
    sound k w o s e = go (parse G U k w) (ran k w s) e
      where
        go : (x : Answer A) → Ran k w x → x ≡ ok o → L G k w o
        go (ok p) (fine d u) e' = let q : p ≡ o = cc in rw q at d
        go (bad i) (refused l a b c) e' = absurd (let z : ◌≡◌ {A = ℕ} 0 1 = cc in omega arith)

    pub complete : (k : List (Sym N S A)) (w : List C) (o : List A) → Safe k never → L G k w o → parse G U k w ≡ ok o
    complete k w o s d = go (parse G U k w) (ran k w s)
      where
        go : (x : Answer A) → Ran k w x → x ≡ ok o
        go (ok p) (fine d' u) = ap ok (sym (u o d))
        go (bad i) (refused l a b c) = absurd (c o d)

    -- THE EQUATIONS THAT A LOOP FOLLOWS, one symbol at a time. More fuel than the bound changes nothing
    stable_nt : (n : N) (k : List (Sym N S A)) (c : C) (f g : ℕ) (y : Option (List (Sym N S A))) → choose G U n (U.kind c) ≡ y →
        ((r : List (Sym N S A)) → In r (G.prods n) → step G U f (r ++ k) c ≡ step G U g (r ++ k) c) → chosen y (λ r. step G U f (r ++ k) c) ≡ chosen y (λ r. step G U g (r ++ k) c)
    stable_nt n k c f g none e h = refl
    stable_nt n k c f g (some r) e h = h r (pick_in (λ r'. first G U r' (U.fol n) (U.kind c)) (G.prods n) r e)

    dry : (n : N) (k : List (Sym N S A)) (c : C) (g : ℕ) → bound G U (nt n ∷ k) ≤ 0 → step G U g (nt n ∷ k) c ≡ none
    dry n k c zero h = refl
    dry n k c (suc g) h = go (choose G U n (U.kind c)) refl
      where
        go : (y : Option (List (Sym N S A))) → choose G U n (U.kind c) ≡ y → chosen y (λ r. step G U g (r ++ k) c) ≡ none
        go none e = refl
        go (some r) e = absurd (omega (arith, cost_bound n k, 𝓖.cost_ok n r (pick_in (λ r'. first G U r' (U.fol n) (U.kind c)) (G.prods n) r e)))

    stable : (f g : ℕ) (k : List (Sym N S A)) (c : C) → bound G U k ≤ f → bound G U k ≤ g → step G U f k c ≡ step G U g k c
    stable zero zero k c h i = refl
    stable zero (suc g) [] c h i = refl
    stable zero (suc g) (act a ∷ k) c h i = absurd (omega arith)
    stable zero (suc g) (tm t ∷ k) c h i = absurd (omega arith)
    stable zero (suc g) (nt n ∷ k) c h i = sym (dry n k c (suc g) h)
    stable (suc f) zero [] c h i = refl
    stable (suc f) zero (act a ∷ k) c h i = absurd (omega arith)
    stable (suc f) zero (tm t ∷ k) c h i = absurd (omega arith)
    stable (suc f) zero (nt n ∷ k) c h i = dry n k c (suc f) i
    stable (suc f) (suc g) [] c h i = refl
    stable (suc f) (suc g) (act a ∷ k) c h i = ap (emitted (a ∷ [])) (stable f g k c (omega arith) (omega arith))
    stable (suc f) (suc g) (tm t ∷ k) c h i = refl
    stable (suc f) (suc g) (nt n ∷ k) c h i =
        stable_nt n k c f g (choose G U n (U.kind c)) refl (λ r m. stable f g (r ++ k) c (bound_less n r k f m h) (bound_less n r k g m i))

    abbrev pub pre : List A → Answer A → Answer A
    pre o (ok p) = ok (o ++ p)
    pre o (bad i) = bad i

    pre-later : (a : A) (o : List A) (x : Answer A) → later (a ∷ o) x ≡ pre (a ∷ []) (later o x)
    pre-later a o (ok p) = refl
    pre-later a o (bad i) = refl

    pub on_act : (a : A) (k : List (Sym N S A)) (w : List C) → parse G U (act a ∷ k) w ≡ pre (a ∷ []) (parse G U k w)
    on_act a k [] = go (finish G U k)
      where
        go : (x : Option (List A)) → ended (wrote (a ∷ []) x) ≡ pre (a ∷ []) (ended x)
        go none = refl
        go (some o) = refl
    on_act a k (c ∷ w) = go (step G U (bound G U k) k c)
      where
        go : (x : Option (Moved N S A)) → next (emitted (a ∷ []) x) (λ k'. parse G U k' w) ≡ pre (a ∷ []) (next x (λ k'. parse G U k' w))
        go none = refl
        go (some p) = pre-later a p.0 (parse G U p.1 w)

    pub on_eat : (t : S) (k : List (Sym N S A)) (c : C) (a : List A) (w : List C) → G.eats t c ≡ some a → parse G U (tm t ∷ k) (c ∷ w) ≡ later a (parse G U k w)
    on_eat t k c a w e = rw e

    pub on_use : (n : N) (k r : List (Sym N S A)) (c : C) (w : List C) → choose G U n (U.kind c) ≡ some r → parse G U (nt n ∷ k) (c ∷ w) ≡ parse G U (r ++ k) (c ∷ w)
    on_use n k r c w e = ap (λ (x : Option (Moved N S A)). next x (λ k'. parse G U k' w)) (go (bound G U (nt n ∷ k)) (omega arith))
      where
        m : In r (G.prods n)
        m = pick_in (λ r'. first G U r' (U.fol n) (U.kind c)) (G.prods n) r e

        go : (f : ℕ) → bound G U (nt n ∷ k) ≤ f → step G U f (nt n ∷ k) c ≡ step G U (bound G U (r ++ k)) (r ++ k) c
        go zero h = absurd (omega (arith, cost_bound n k, 𝓖.cost_ok n r m))
        go (suc f) h = ap (λ (y : Option (List (Sym N S A))). chosen y (λ r'. step G U f (r' ++ k) c)) e ∙ stable f (bound G U (r ++ k)) (r ++ k) c (bound_less n r k f m h) (omega arith)

-- What each answer of the grammar's whole pass means (document 01, refusals 2 and 3).
use mathlib.Core.Path.{◌≡◌, refl, ap}
use mathlib.Core.Bool.{Bool, true, false, cond}
use mathlib.Core.Option.{Option, none, some}
use mathlib.Core.List.{List, [], ◌∷◌, ◌++◌, append_assoc}
use Prim.Native.Nat.{ℕ, zero, suc, ◌≤◌, ◌<◌}
use native.Mathlib.Omega.{arith}
use lib.Dec.{leb}
use lib.ListN.{length, take, drop, take-append-drop}
use borrow.Author.Tests.{leb-true, leb-false}
use Rattle.base_kinds.specs.Kinds.{Token}
use Rattle.spec_grammar.specs.Tree.{Model}
use Rattle.spec_grammar.specs.Grammar.{Gram}
use Rattle.base_codes.specs.Items.{Item}
use Rattle.parse_code.specs.Code.{code}
use Rattle.parse_grammar.specs.Engine.{Answer, ok, bad}
use Rattle.parse_grammar.specs.Guide.{parse_model}
use Rattle.spec_grammar.specs.Depth.{too_deep}
use Rattle.parse_grammar.specs.Judge.{GrammarAnswer, accepted, refused_2, refused_3, judged, judge}
use Rattle.spec_grammar.specs.Viable.{StrayAt}
use Rattle.spec_grammar.specs.Refusals.{Two, Three}
use Rattle.parse_grammar.proofs.Main.{parse-sound, parse_complete, parse_refused}

-- accepted exactly where there is a tree and no token passes a ceiling
pub judge-sound : (ts : List Token) (o : List Item) → judge ts ≡ accepted o → (m : Model) × Gram ts m × (o ≡ code m) × (too_deep ts ≡ none)
judge-sound ts o e = go (parse_model ts) refl (too_deep ts) refl e
  where
    pick : (x : Bool) (i j : ℕ) → cond x (refused_2 i) (refused_3 j) ≡ accepted o → ◌≡◌ {A = ℕ} 0 1
    pick true i j e = cc
    pick false i j e = cc

    go : (a : Answer Item) → parse_model ts ≡ a → (d : Option ℕ) → too_deep ts ≡ d → judged a d ≡ accepted o → (m : Model) × Gram ts m × (o ≡ code m) × (too_deep ts ≡ none)
    go (ok p) h none i e = let q : p ≡ o = cc in let (m, x, y) = parse-sound ts o (rw q at h) in (m, x, y, i)
    go (ok p) h (some k) i e = absurd (let z : ◌≡◌ {A = ℕ} 0 1 = cc in omega arith)
    go (bad j) h none i e = absurd (let z : ◌≡◌ {A = ℕ} 0 1 = cc in omega arith)
    go (bad j) h (some k) i e = absurd (omega (arith, pick (leb k j) k j e))

pub judge_complete : (ts : List Token) (m : Model) → Gram ts m → too_deep ts ≡ none → judge ts ≡ accepted (code m)
judge_complete ts m x h = rw (parse_complete ts m x, h)

-- refusal 3 is at the exact place of the grammar
pub judge-three : (ts : List Token) (i : ℕ) → judge ts ≡ refused_3 i → Three ts i
judge-three ts i e = go (parse_model ts) refl (too_deep ts) refl e
  where
    pick : (x : Bool) (k j : ℕ) → cond x (refused_2 k) (refused_3 j) ≡ refused_3 i → (x ≡ false) × (j ≡ i)
    pick true k j e = absurd (let z : ◌≡◌ {A = ℕ} 0 1 = cc in omega arith)
    pick false k j e = (refl, cc)

    go : (a : Answer Item) → parse_model ts ≡ a → (d : Option ℕ) → too_deep ts ≡ d → judged a d ≡ refused_3 i → Three ts i
    go (ok p) h none g e = absurd (let z : ◌≡◌ {A = ℕ} 0 1 = cc in omega arith)
    go (ok p) h (some k) g e = absurd (let z : ◌≡◌ {A = ℕ} 0 1 = cc in omega arith)
    go (bad j) h none g e = let q : j ≡ i = cc in record { place = parse_refused ts i (rw q at h); first = λ k f. absurd (let z : ◌≡◌ {A = ℕ} 0 1 = cc in omega arith) }
    go (bad j) h (some k) g e =
        let (x, q) = pick (leb k j) k j e in
        record { place = parse_refused ts i (rw q at h); first = λ k' f. let r : k ≡ k' = cc in omega (arith, leb-false k j x) }

take-take : {A : Type 0} (i j : ℕ) (l : List A) → i ≤ j → (us : List A) × (take i l ++ us ≡ take j l)
take-take zero j l h = (take j l, refl)
take-take (suc i) zero l h = absurd (omega arith)
take-take (suc i) (suc j) [] h = ([], refl)
take-take (suc i) (suc j) (a ∷ l) h = let (us, e) = take-take i j l (omega arith) in (us, ap (a ∷◌) e)

pub before : (ts : List Token) (i j : ℕ) → i ≤ j → (us : List Token) × (m : Model) × Gram (take j ts ++ us) m → (us : List Token) × (m : Model) × Gram (take i ts ++ us) m
before ts i j h (us, m, x) = let (vs, e) = take-take i j ts h in (vs ++ us, m, rw (← append_assoc, e) x)

-- refusal 3 stands at one place
pub stray_once : (ts : List Token) (i j : ℕ) → StrayAt ts i → StrayAt ts j → i ≡ j
stray_once ts i j a b = go (leb i j) refl (leb j i) refl
  where
    sooner : (i j : ℕ) → StrayAt ts i → StrayAt ts j → i < j → ⊥
    sooner i j a b h = let (us, m, g) = before ts (suc i) j h b.viable in a.dead (omega (arith, b.within)) us m g

    go : (x : Bool) → leb i j ≡ x → (y : Bool) → leb j i ≡ y → i ≡ j
    go false p y q = absurd (sooner j i b a (leb-false i j p))
    go true p false q = absurd (sooner i j a b (leb-false j i q))
    go true p true q = omega (arith, leb-true i j p, leb-true j i q)

pub judge-two : (ts : List Token) (i : ℕ) → judge ts ≡ refused_2 i → Two ts i
judge-two ts i e = go (parse_model ts) refl (too_deep ts) refl e
  where
    pick : (x : Bool) (k j : ℕ) → cond x (refused_2 k) (refused_3 j) ≡ refused_2 i → (x ≡ true) × (k ≡ i)
    pick true k j e = (refl, cc)
    pick false k j e = absurd (let z : ◌≡◌ {A = ℕ} 0 1 = cc in omega arith)

    go : (a : Answer Item) → parse_model ts ≡ a → (d : Option ℕ) → too_deep ts ≡ d → judged a d ≡ refused_2 i → Two ts i
    go (ok p) h none g e = absurd (let z : ◌≡◌ {A = ℕ} 0 1 = cc in omega arith)
    go (ok p) h (some k) g e =
        let q : k ≡ i = cc in
        let (m, x, y) = parse-sound ts p h in
        record { place = rw q at g; viable = (drop i ts, m, rw (take-append-drop i ts) x) }
    go (bad j) h none g e = absurd (let z : ◌≡◌ {A = ℕ} 0 1 = cc in omega arith)
    go (bad j) h (some k) g e =
        let (x, q) = pick (leb k j) k j e in
        record { place = rw q at g; viable = before ts i j (omega (arith, leb-true k j x)) (parse_refused ts j h).viable }

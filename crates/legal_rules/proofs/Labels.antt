-- EACH LABEL ONCE: that none is said before it is that none is said behind it.
use mathlib.Core.Path.{◌≡◌, refl, sym, ap, ap₂, ◌∙◌}
use mathlib.Core.Bool.{Bool, true, false, not}
use mathlib.Core.List.{List, [], ◌∷◌, ◌++◌, append_assoc, append-nil}
use Rattle.base_bytes.specs.Choice.{pick, both, either}
use Rattle.base_bytes.specs.Lists.{same}
use Rattle.base_bytes.proofs.Lists.{same_refl, same_eq}
use Rattle.base_bytes.proofs.Tests.{true_false}
use Rattle.spec_text.specs.Names.{pid}
use Rattle.spec_grammar.specs.Tree.{Name}
use Rattle.spec_rules.specs.Statements.{has}
use Rattle.legal_rules.specs.Statements.{apart}
use Rattle.legal_rules.proofs.None.{both_end, both_assoc}

has-append : (l k : List Name) (w : Name) → has (l ++ k) w ≡ either (has l w) (has k w)
has-append [] k w = refl
has-append (v ∷ l) k w = go (same v w) (has-append l k w)
  where
    go : (b : Bool) → has (l ++ k) w ≡ either (has l w) (has k w) → either b (has (l ++ k) w) ≡ either (either b (has l w)) (has k w)
    go true r = refl
    go false r = r

same_tests : (a b : Bool) → (a ≡ true → b ≡ true) → (b ≡ true → a ≡ true) → a ≡ b
same_tests true b f g = sym (f refl)
same_tests false true f g = g refl
same_tests false false f g = refl

-- the labels are no `_pid`, and none is of those before, nor of those before it
unfoldable pub fresh : List Name → List Name → Bool
fresh before [] = true
fresh before (w ∷ l) = both (not (either (same w pid) (has before w))) (fresh (before ++ w ∷ []) l)

pub fresh-none : (b : List Name) → fresh b [] ≡ true
unfolding fresh
fresh-none b = refl

pub fresh-one : (b : List Name) (w : Name) (l : List Name) → fresh b (w ∷ l) ≡ both (not (either (same w pid) (has b w))) (fresh (b ++ w ∷ []) l)
unfolding fresh
fresh-one b w l = refl

pub fresh-append : (b l k : List Name) → fresh b (l ++ k) ≡ both (fresh b l) (fresh (b ++ l) k)
unfolding fresh
fresh-append b [] k = ap (λ (x : List Name). fresh x k) (sym (append-nil b))
fresh-append b (w ∷ l) k =
    ap (both (not (either (same w pid) (has b w)))) (fresh-append (b ++ w ∷ []) l k ∙ ap (λ (x : List Name). both (fresh (b ++ w ∷ []) l) (fresh x k)) (append_assoc b (w ∷ []) l))
    ∙ sym (both_assoc (not (either (same w pid) (has b w))) (fresh (b ++ w ∷ []) l) (fresh (b ++ (w ∷ l)) k))

-- none of the second is of the first
unfoldable none : List Name → List Name → Bool
none b [] = true
none b (w ∷ l) = both (not (has b w)) (none b l)

same_turn : (v w : Name) → same v w ≡ same w v
same_turn v w = same_tests (same v w) (same w v) (turn v w) (turn w v)
  where
    turn : (v w : Name) → same v w ≡ true → same w v ≡ true
    turn v w e = ap (same w) (same_eq v w e) ∙ same_refl w

none-turned : (n s h x : Bool) → both (not (either n (either s false))) (both x (not h)) ≡ both (both (not n) x) (not (either s h))
none-turned true s h x = refl
none-turned false true h true = refl
none-turned false true h false = refl
none-turned false false h x = refl

none_more : (b : List Name) (w : Name) (l : List Name) → none (b ++ w ∷ []) l ≡ both (none b l) (not (has l w))
unfolding none
none_more b w [] = refl
none_more b w (v ∷ l) =
    ap₂ both (ap not (has-append b (w ∷ []) v ∙ ap (λ (t : Bool). either (has b v) (either t false)) (same_turn w v))) (none_more b w l) ∙ none-turned (has b v) (same v w) (has l w) (none b l)

fresh-turned : (p b l a n : Bool) → both (not (either p b)) (both a (both n (not l))) ≡ both (pick (either p l) false a) (both (not b) n)
fresh-turned true b l a n = refl
fresh-turned false true true a n = refl
fresh-turned false true false true n = refl
fresh-turned false true false false n = refl
fresh-turned false false true true true = refl
fresh-turned false false true true false = refl
fresh-turned false false true false n = refl
fresh-turned false false false true true = refl
fresh-turned false false false true false = refl
fresh-turned false false false false n = refl

fresh-behind : (b l : List Name) → fresh b l ≡ both (apart l) (none b l)
unfolding fresh none apart
fresh-behind b [] = refl
fresh-behind b (w ∷ l) =
    ap (both (not (either (same w pid) (has b w)))) (fresh-behind (b ++ w ∷ []) l ∙ ap (both (apart l)) (none_more b w l)) ∙ fresh-turned (same w pid) (has b w) (has l w) (apart l) (none b l)

none-nothing : (l : List Name) → none [] l ≡ true
unfolding none
none-nothing [] = refl
none-nothing (w ∷ l) = none-nothing l

pub fresh-apart : (l : List Name) → fresh [] l ≡ apart l
fresh-apart l = fresh-behind [] l ∙ ap (both (apart l)) (none-nothing l) ∙ both_end (apart l)

-- WHERE A STATEMENT LEADS are places of its tree, or the place that follows the tree.
use Prim.Native.Nat.{ℕ, ◌+◌}
use mathlib.Core.Path.{◌≡◌, refl, ap, ◌∙◌}
use mathlib.Core.Bool.{Bool, true, false}
use mathlib.Core.List.{List, [], ◌∷◌, ◌++◌}
use lib.Dec.{leb}
use Rattle.base_bytes.specs.Choice.{pick, either}
use Rattle.base_bytes.specs.Lists.{same}
use Rattle.base_bytes.proofs.Tests.{true_false, both_true}
use Rattle.spec_grammar.specs.Tree.{Name, Sort, action, sequence, Tree, leaf, select, loop, bare, labelled, end, then, over, option}
use Rattle.spec_rules.specs.Statements.{Place, has, labels_of, is_else_lem}
use Rattle.legal_rules.specs.Statements.{allowed}
use Rattle.spec_machine.specs.Sizes.{size_in}
use Rattle.spec_machine.specs.Program.{enter, label_in, Within, itself, in_if, in_do, unlabelled, behind_label, in_first, in_rest, in_option, in_others}

module _ (P : ℕ → Type 0) where
  -- each statement of the tree has such a place
  abbrev pub Inside : {k : Sort} → Tree k → ℕ → ℕ → ℕ → Type 0
  Inside {k} t i n o = (b : Tree action) (x y z : ℕ) → Within k t i n o b x y z → P x

  pub enters : (q : Tree sequence) (i n o : ℕ) → Inside q i n o → P n → P (enter q i n)
  enters end i n o e h = h
  enters (then (bare a) q) i n o e h = e a i (enter q (i + size_in (bare a)) n) o (in_first (unlabelled itself))
  enters (then (labelled w a) q) i n o e h = e a (i + 2) (enter q (i + size_in (labelled w a)) n) o (in_first (behind_label itself))

  -- the place that follows
  pub leads : {k : Sort} {t : Tree k} {i n o : ℕ} {a : Tree action} {j m u : ℕ} → Within k t i n o a j m u → Inside t i n o → P n → P m
  leads itself e h = h
  leads (in_if w) e h = leads w (λ b x y z v. e b x y z (in_if v)) h
  leads (in_do {os = os} {i = i} {n = n} {o = o} w) e h = leads w (λ b x y z v. e b x y z (in_do v)) (e (loop os) i n o itself)
  leads (unlabelled w) e h = leads w (λ b x y z v. e b x y z (unlabelled v)) h
  leads (behind_label w) e h = leads w (λ b x y z v. e b x y z (behind_label v)) h
  leads (in_first {s = s} {q = q} {i = i} {n = n} {o = o} w) e h =
      leads w (λ b x y z v. e b x y z (in_first v)) (enters q (i + size_in s) n o (λ b x y z v. e b x y z (in_rest v)) h)
  leads (in_rest w) e h = leads w (λ b x y z v. e b x y z (in_rest v)) h
  leads (in_option w) e h = leads w (λ b x y z v. e b x y z (in_option v)) h
  leads (in_others w) e h = leads w (λ b x y z v. e b x y z (in_others v)) h

  -- a lawful statement, and the place behind its loop, if it is in one
  pub record Lawful (at : Place) (a : Tree action) (u : ℕ) : Type 0 where
    pub loops : Bool
    pub first : Bool
    pub law : allowed at loops first a ≡ true
    pub out : loops ≡ true → P u

  pub within-lawful : (at : Place) {k : Sort} {t : Tree k} {i n o : ℕ} {a : Tree action} {j m u : ℕ} → Within k t i n o a j m u → (l f : Bool) → allowed at l f t ≡ true → Inside t i n o → P n
      → (l ≡ true → P o) → Lawful at a u
  unfolding allowed
  within-lawful at itself l f h e p g = record { loops = l; first = f; law = h; out = g }
  within-lawful at (in_if {os = os} w) l f h e p g = within-lawful at w l false (both_true (leb (is_else_lem os) 1) (allowed at l false os) h).1 (λ b x y z v. e b x y z (in_if v)) p g
  within-lawful at (in_do {os = os} {i = i} {n = n} {o = o} w) l f h e p g =
      within-lawful at w true false (both_true (leb (is_else_lem os) 1) (allowed at true false os) h).1 (λ b x y z v. e b x y z (in_do v)) (e (loop os) i n o itself) (λ q. p)
  within-lawful at (unlabelled w) l f h e p g = within-lawful at w l f h (λ b x y z v. e b x y z (unlabelled v)) p g
  within-lawful at (behind_label w) l f h e p g = within-lawful at w l false h (λ b x y z v. e b x y z (behind_label v)) p g
  within-lawful at (in_first {s = s} {q = q} {i = i} {n = n} {o = o} w) l f h e p g =
      within-lawful at w l f (both_true (allowed at l f s) (allowed at l false q) h).0 (λ b x y z v. e b x y z (in_first v)) (enters q (i + size_in s) n o (λ b x y z v. e b x y z (in_rest v)) p) g
  within-lawful at (in_rest {s = s} {q = q} w) l f h e p g = within-lawful at w l false (both_true (allowed at l f s) (allowed at l false q) h).1 (λ b x y z v. e b x y z (in_rest v)) p g
  within-lawful at (in_option {q = q} {os = os} w) l f h e p g =
      within-lawful at w l true (both_true (allowed at l true q) (allowed at l false os) h).0 (λ b x y z v. e b x y z (in_option v)) p g
  within-lawful at (in_others {q = q} {os = os} w) l f h e p g =
      within-lawful at w l false (both_true (allowed at l true q) (allowed at l false os) h).1 (λ b x y z v. e b x y z (in_others v)) p g

  -- ---- labels
  has-append : (w : Name) (x y : List Name) → has x w ≡ false → has y w ≡ false → has (x ++ y) w ≡ false
  has-append w [] y a b = b
  has-append w (v ∷ x) y a b = go (same v w) a (λ c. has-append w x y c b)
    where
      go : (c : Bool) → either c (has x w) ≡ false → (has x w ≡ false → has (x ++ y) w ≡ false) → either c (has (x ++ y) w) ≡ false
      go true e r = absurd (true_false e)
      go false e r = r e

  pub label : (w : Name) {k : Sort} (t : Tree k) (i n o d : ℕ) → Inside t i n o → (has (labels_of t) w ≡ false → P d) → P (label_in w t i d)
  label w (leaf l) i n o d e h = h refl
  label w (select os) i n o d e h = label w os (i + 1) n o d (λ b x y z v. e b x y z (in_if v)) h
  label w (loop os) i n o d e h = label w os (i + 1) i n d (λ b x y z v. e b x y z (in_do v)) h
  label w (bare a) i n o d e h = label w a i n o d (λ b x y z v. e b x y z (unlabelled v)) h
  label w (labelled v a) i n o d e h = go (same v w) refl (label w a (i + 2) n o d (λ b x y z q. e b x y z (behind_label q)))
    where
      go : (c : Bool) → same v w ≡ c → ((has (labels_of a) w ≡ false → P d) → P (label_in w a (i + 2) d)) → P (pick c (i + 2) (label_in w a (i + 2) d))
      go true q r = e a (i + 2) n o (behind_label itself)
      go false q r = r (λ z. h (ap (λ c. either c (has (labels_of a) w)) q ∙ z))
  label w end i n o d e h = h refl
  label w (then s q) i n o d e h =
      label w s i (enter q (i + size_in s) n) o (label_in w q (i + size_in s) d) (λ b x y z v. e b x y z (in_first v))
      (λ a. label w q (i + size_in s) n o d (λ b x y z v. e b x y z (in_rest v)) (λ b. h (has-append w (labels_of s) (labels_of q) a b)))
  label w over i n o d e h = h refl
  label w (option q os) i n o d e h =
      label w q (i + 1) n o (label_in w os (i + 2 + size_in q) d) (λ b x y z v. e b x y z (in_option v))
      (λ a. label w os (i + 2 + size_in q) n o d (λ b x y z v. e b x y z (in_others v)) (λ b. h (has-append w (labels_of q) (labels_of os) a b)))

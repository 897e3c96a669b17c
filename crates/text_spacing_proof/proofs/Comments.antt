-- "Comments run from `/*` to the next `*/`": how far a comment reaches, by the bytes in it and not by how they are scanned.
use mathlib.Core.Path.{◌≡◌, refl, sym, ap, ◌∙◌}
use mathlib.Core.Bool.{Bool, true, false}
use mathlib.Core.List.{List, [], ◌∷◌, ◌++◌, append_assoc}
use mathlib.Core.Logic.{◌↔◌}
use Prim.Native.Nat.{ℕ, ◌+◌, ◌≤◌, ◌<◌}
use native.Mathlib.Omega.{arith}
use native.Mathlib.Decide.{ℕ_discrete}
use lib.Dec.{eqb}
use lib.ListN.{length, length-append}
use Rattle.base_bytes.specs.Choice.{both}
use Rattle.spec_text.specs.Bytes.{slash, star}
use Rattle.text_pieces.specs.Spans.{closing}
use Rattle.std.specs.Prelude.{Option, Some, None}
use Rattle.text_spacing_proof.proofs.Spans.{closing-more, Comment, comment_ends}
use Rattle.spec_text.specs.Layout.{Unended}

-- a text that holds a `*/` closes there at the latest
record Closes (starred : Bool) (c : List ℕ) (most : ℕ) : Type 0 where
  at : ℕ
  is : closing starred c ≡ Some at
  early : at ≤ most

one_later : (b : ℕ) (starred : Bool) (s : List ℕ) (m k : ℕ) → m < k → Closes (eqb b star) s m → Closes starred (b ∷ s) k
unfolding closing
one_later b starred s m k h z = go (both starred (eqb b slash)) refl
  where
    go : (t : Bool) → both starred (eqb b slash) ≡ t → Closes starred (b ∷ s) k
    go true e = record { at = 1; is = rw e; early = omega arith }
    go false e = record { at = z.at + 1; is = rw (e, z.is); early = omega (arith, z.early) }

at_star : (y : List ℕ) → Closes true (slash ∷ y) 1
unfolding closing
at_star y = record { at = 1; is = refl; early = omega arith }

closes_by : (starred : Bool) (x y : List ℕ) → Closes starred (x ++ star ∷ slash ∷ y) (length x + 2)
closes_by starred [] y = one_later star starred (slash ∷ y) 1 2 (omega arith) (at_star y)
closes_by starred (b ∷ x) y = one_later b starred (x ++ star ∷ slash ∷ y) (length x + 2) (length (b ∷ x) + 2) (omega arith) (closes_by (eqb b star) x y)

-- a comment is unclosed exactly where no `*/` is
pub never_unended : (c : List ℕ) → (closing false c ≡ None) ↔ Unended c
never_unended c = (to, λ u. from (closing false c) refl u)
  where
    to : closing false c ≡ None → Unended c
    to e x y w = let z = closes_by false x y in absurd (let q : Some z.at ≡ None = sym z.is ∙ ap (closing false) (sym w) ∙ e in let o : ◌≡◌ {A = ℕ} 0 1 = cc in omega arith)

    from : (k : Option ℕ) → closing false c ≡ k → Unended c → k ≡ None
    from (Some n) e u = let z = comment_ends c n e in absurd (u z.inside z.rest z.whole)
    from None e u = refl

-- a `*/` that ends before the last one stands before the last byte
within : (c x y : List ℕ) → length x < length c → c ++ star ∷ slash ∷ [] ≡ x ++ star ∷ slash ∷ y → (z : List ℕ) × (c ++ star ∷ [] ≡ x ++ star ∷ slash ∷ z)
within [] x y h e = absurd (omega arith)
within (b ∷ []) [] y h e = absurd (let q : star ≡ slash = cc in omega arith)
within (b ∷ d ∷ c) [] y h e =
    let p : b ≡ star = cc in
    let q : d ≡ slash = cc in
    (c ++ star ∷ [], rw (p, q))
within (b ∷ c) (a ∷ x) y h e =
    let p : b ≡ a = cc in
    let q : c ++ star ∷ slash ∷ [] ≡ x ++ star ∷ slash ∷ y = cc in
    let (z, w) = within c x y (omega arith) q in
    (z, rw (p, w))

-- a `*/` closes a comment exactly where no other comes before: so this is what `Gap` says of comments
pub closing-next : (c : List ℕ) → (closing false (c ++ star ∷ slash ∷ []) ≡ Some (length c + 2)) ↔ Unended (c ++ star ∷ [])
closing-next c = (to, from)
  where
    to : closing false (c ++ star ∷ slash ∷ []) ≡ Some (length c + 2) → Unended (c ++ star ∷ [])
    to e x y w =
        let z = closes_by false x [] in
        let l : length x + 1 ≤ length c = omega (arith, ap length w, length-append c (star ∷ []), length-append x (star ∷ slash ∷ y)) in
        let v : c ++ star ∷ slash ∷ [] ≡ (x ++ star ∷ slash ∷ []) ++ (y ++ slash ∷ []) =
        sym (append_assoc c (star ∷ []) (slash ∷ [])) ∙ ap (◌++ (slash ∷ [])) w ∙ append_assoc x (star ∷ slash ∷ y) (slash ∷ []) ∙ sym (append_assoc x (star ∷ slash ∷ []) (y ++ slash ∷ [])) in
        let q : Some z.at ≡ Some (length c + 2) = sym (closing-more false (x ++ star ∷ slash ∷ []) (y ++ slash ∷ []) z.at z.is) ∙ ap (closing false) (sym v) ∙ e in
        let k : z.at ≡ length c + 2 = cc in
        omega (arith, z.early)

    from : Unended (c ++ star ∷ []) → closing false (c ++ star ∷ slash ∷ []) ≡ Some (length c + 2)
    from u =
        let z = closes_by false c [] in
        let m = comment_ends (c ++ star ∷ slash ∷ []) z.at z.is in
        go z m (ℕ_discrete (length m.inside) (length c))
      where
        go : (z : Closes false (c ++ star ∷ slash ∷ []) (length c + 2)) (m : Comment (c ++ star ∷ slash ∷ []) z.at) → Dec (length m.inside ≡ length c) → closing false (c ++ star ∷ slash ∷ []) ≡ Some (length c + 2)
        go z m (yes e) = z.is ∙ ap Some (omega (arith, m.size))
        go z m (no h) = let (y, w) = within c m.inside m.rest (omega (arith, m.size, z.early)) m.whole in absurd (u m.inside y w)

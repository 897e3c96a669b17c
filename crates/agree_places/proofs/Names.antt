-- Two names of an accepted text that say the same are the same, but for `_pid`, which says 0.
use Prim.Native.Nat.{ℕ, ◌+◌, ◌<◌}
use native.Mathlib.Omega.{arith}
use native.Mathlib.Decide.{dec_lt}
use mathlib.Core.Path.{◌≡◌, refl, sym as inv, ap, ◌∙◌}
use mathlib.Core.Bool.{Bool, true, false}
use mathlib.Core.List.{List}
use lib.ListN.{length, get_or}
use lib.Dec.{eqb}
use Rattle.base_codes.specs.Codes.{c_name}
use Rattle.base_bytes.specs.Choice.{pick}
use Rattle.base_bytes.specs.Lists.{same}
use Rattle.base_bytes.proofs.Lists.{same_eq}
use Rattle.base_bytes.proofs.Tests.{true_false}
use Rattle.rule_sheets.specs.Walks.{first}
use Rattle.rule_sheets.specs.Payload.{word_of, same_name, first_same, name_arg}
use Rattle.spec_text.specs.Names.{pid}
use Rattle.spec_grammar.specs.Tree.{Name}
use Rattle.base_codes.specs.Items.{Item, i_name, i_plain}
use Rattle.parse_code.specs.Code.{code}
use Rattle.table_entries.specs.Items.{entry_of}
use Rattle.base_codes.specs.Items as items
use Rattle.read_accepts_proof.specs.Meaning.{Accepts}
use Rattle.agree_eval.specs.Names.{codes_at, said_at}
use Rattle.agree_eval.proofs.Said.{ss, es, ks, code_of_lem, said, word_is}
use Rattle.keep_tables.proofs.Firsts.{first_is}

module _ (t : List ℕ) (a : Accepts t) where
  abbrev X : List Item
  X = code a.tree

  abbrev word : ℕ → List ℕ
  word x = word_of t (ss t a) (es t a) (codes_at t a) (ks t a) x

  abbrev alike : ℕ → ℕ → Bool
  alike x i = same_name t (ss t a) (es t a) (codes_at t a) (ks t a) x i

  -- the first item of a name has that name
  same_word : (x f : ℕ) → alike x f ≡ true → word f ≡ word x
  unfolding same_name
  same_word x f = go (eqb (get_or (codes_at t a) f 0) c_name)
    where
      go : (b : Bool) → pick b (same (word f) (word x)) false ≡ true → word f ≡ word x
      go true e = same_eq (word f) (word x) e
      go false e = absurd (true_false (inv e))

  first_word : (x : ℕ) → word (first (alike x) 0 x) ≡ word x
  first_word x = go (dec_lt (first (alike x) 0 x) x)
    where
      go : Dec (first (alike x) 0 x < x) → word (first (alike x) 0 x) ≡ word x
      go (yes h) = same_word x (first (alike x) 0 x) ((first_is (alike x) x 0).holds (omega arith))
      go (no h) = ap word (let b = (first_is (alike x) x 0).to in let z : first (alike x) 0 x ≡ x = omega arith in z)

  -- what a name says, if that is not 0
  says_first : (x : ℕ) → (name_arg t (ss t a) (es t a) (codes_at t a) (ks t a) x ≡ 0 → ⊥) → name_arg t (ss t a) (es t a) (codes_at t a) (ks t a) x ≡ first (alike x) 0 x + 1
  unfolding name_arg first_same
  says_first x n = go (same (word x) pid) n
    where
      go : (b : Bool) → (pick b 0 (first (alike x) 0 x + 1) ≡ 0 → ⊥) → pick b 0 (first (alike x) 0 x + 1) ≡ first (alike x) 0 x + 1
      go true n = absurd (n refl)
      go false n = refl

  pub said-names : (x y : ℕ) (v w : Name) → x < length X → y < length X → get_or X x i_plain ≡ i_name v → get_or X y i_plain ≡ i_name w → get_or (said_at t a) x 0 ≡ get_or (said_at t a) y 0
      → (get_or (said_at t a) x 0 ≡ 0 → ⊥) → v ≡ w
  said-names x y v w hx hy ex ey e n =
      let cx : get_or (codes_at t a) x 0 ≡ c_name = code_of_lem t a x hx ∙ ap items.code_of ex in
      let cy : get_or (codes_at t a) y 0 ≡ c_name = code_of_lem t a y hy ∙ ap items.code_of ey in
      let sx = said t a x hx cx in
      let sy = said t a y hy cy in
      let fx = says_first x (λ z. n (sx ∙ z)) in
      let fy = says_first y (λ z. n (e ∙ sy ∙ z)) in
      let f : first (alike x) 0 x ≡ first (alike y) 0 y = let p : first (alike x) 0 x + 1 ≡ first (alike y) 0 y + 1 = inv fx ∙ inv sx ∙ e ∙ sy ∙ fy in omega arith in
      let wx = word_is t a x hx cx ∙ ap (λ z. (entry_of z).bytes) ex in
      let wy = word_is t a y hy cy ∙ ap (λ z. (entry_of z).bytes) ey in
      inv wx ∙ inv (first_word x) ∙ ap word f ∙ first_word y ∙ wy

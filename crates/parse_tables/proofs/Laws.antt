-- What the code's numbers say of a production, over plain variables. Assumes nothing.
use Prim.Native.Nat.{ℕ, ◌+◌, ◌-◌, ◌*◌, ◌<◌}
use native.Mathlib.Omega.{arith}
use mathlib.Core.Path.{◌≡◌, sym, ◌∙◌}
use mathlib.Core.List.{List}
use lib.ListN.{get_or}
use lib.Dec.{lit≤}
use borrow.Author.Tests.{eq-eqb, ne_eqb}
use Rattle.parse_tables.specs.Tables.{bases, numbered, production_by, Numbered}

module _ (rows : List ℕ) (x k xw kw row cv cw c : ℕ) (ex : xw ≡ x) (er : row ≡ xw - 73) (ek : kw ≡ k) (ev : cv ≡ get_or rows (row * 74 + kw) 0) (ew : cw ≡ cv) (ec : c ≡ cw - 48) where
  is_numbered : production_by rows x k ≡ numbered c (get_or bases row 0)
  unfolding production_by
  is_numbered = rw (ec, ew, ev, er, ex, ek)

  pub none_law : c ≡ 0 → Numbered rows x k 0
  none_law e = record { is = sym (is_numbered ∙ simp (eq-eqb c 0 e)); small = lit≤ tt }

  pub some_law : (c ≡ 0 → ⊥) → (b bw : ℕ) → b ≡ get_or bases row 0 → bw ≡ b → bw < 256 → cw < 256 → Numbered rows x k (bw + c)
  some_law ne b bw eb ebw hb hc = record { is = sym (is_numbered ∙ simp (ne_eqb c 0 ne, ebw, eb)); small = omega arith }

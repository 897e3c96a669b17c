-- Mechanism, of proofs alone: between the derivations of the grammar and the machine over numbers (proofs/Main.antt).
-- What a stack derives, as `L` of `parse_grammar` has it, with places: each symbol has a mark, the place at which its right side was begun, and each item that is written its token.
use Rattle.std.specs.Prelude.{◌≡◌, Bool, cond, List, [], ◌∷◌, ◌++◌, ℕ, ◌+◌, eqb}
use Rattle.std.proofs.Math.Option.{some}
use Rattle.base_bytes.specs.Choice.{either}
use Rattle.base_kinds.specs.Kinds.{Token}
use Rattle.base_codes.specs.Items.{Item}
use Rattle.parse_grammar.specs.Engine.{Sym, nt, tm, act, In}
use Rattle.parse_grammar.specs.Productions.{NT, n_after_name, n_after_ref, n_after_mtype, n_activity, Ter, Right, eats, prods}
use Rattle.parse_grammar.specs.Numbers.{number_of}
use Rattle.parse_spots.specs.Spots.{Spot}

-- a symbol and its mark
pub data Entry : Type 0 where
  ◌from◌ : Sym NT Ter Item → ℕ → Entry

infixl 90 ◌from◌
abbrev pub Stack : Type 0
Stack = List Entry

abbrev pub marks : ℕ → Right → Stack
marks p [] = []
marks p (s ∷ r) = s from p ∷ marks p r

-- the four that go on with what another nonterminal began
abbrev pub hands : NT → Bool
hands n =
    either (eqb (number_of n) (number_of n_after_name))
    (either (eqb (number_of n) (number_of n_after_ref)) (either (eqb (number_of n) (number_of n_after_mtype)) (eqb (number_of n) (number_of n_activity))))

-- the mark of a right side: n has mark p, and token i is next
abbrev pub begun : NT → ℕ → ℕ → ℕ
begun n p i = cond (hands n) p i

-- read `M k i w o`: from token i on, the stack k derives the tokens w, and writes o
pub data M : Stack → ℕ → List Token → List Spot → Type 0 where
  m_done : {i : ℕ} → M [] i [] []
  m_emit : {a : Item} {p : ℕ} {k : Stack} {i : ℕ} {w : List Token} {o : List Spot} → M k i w o → M (act a from p ∷ k) i w ((a, p) ∷ o)
  m_eat : {t : Ter} {c : Token} {p : ℕ} {k : Stack} {i : ℕ} {w : List Token} {o : List Spot} → eats t c ≡ some [] → M k (i + 1) w o → M (tm t from p ∷ k) i (c ∷ w) o
  m_put : {t : Ter} {c : Token} {a : Item} {p : ℕ} {k : Stack} {i : ℕ} {w : List Token} {o : List Spot} → eats t c ≡ some (a ∷ []) → M k (i + 1) w o →
      M (tm t from p ∷ k) i (c ∷ w) ((a, i) ∷ o)
  m_by : {n : NT} {r : Right} {p : ℕ} {k : Stack} {i : ℕ} {w : List Token} {o : List Spot} → In r (prods n) → M (marks (begun n p i) r ++ k) i w o → M (nt n from p ∷ k) i w o

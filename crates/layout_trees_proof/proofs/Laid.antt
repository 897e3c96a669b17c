-- TOKENS LAID OUT ARE LINES: what the automaton writes of tokens, said by the tokens that go on the line begun and the lines behind it, one token at a time.
use mathlib.Core.Path.{◌≡◌, refl, ap, ◌∙◌}
use mathlib.Core.Bool.{Bool, true, false}
use mathlib.Core.List.{List, [], ◌∷◌, ◌++◌, append_assoc}
use Prim.Native.Nat.{ℕ, ◌*◌}
use lib.ListN.{replicate}
use Rattle.base_bytes.specs.Choice.{either}
use Rattle.base_kinds.specs.Kinds.{Token, kind_of, string_kind}
use Rattle.spec_text.specs.Writing.{write}
use Rattle.text_pens.specs.After.{write_after}
use Rattle.text_pens.proofs.After.{write-after}
use Rattle.write_letters.specs.Tokens.{behind}
use Rattle.spec_layout.specs.Layout.{Line, line, all_bytes}
use Rattle.write_lines.specs.Lines.{place_behind, open_behind, starts_line, ends_line, depth_at, lay_after}

-- lines, each with the LF that ends the one before it, and the last LF
abbrev pub broken : List Line → List ℕ
broken [] = 10 ∷ []
broken (l ∷ ls) = 10 ∷ (replicate (2 * l.inside) 32 ++ (write l.tokens ++ broken ls))

pub broken-bytes : (ls : List Line) → broken ls ≡ 10 ∷ all_bytes ls
broken-bytes [] = refl
broken-bytes (l ∷ ls) = rw (broken-bytes ls) (simp append_assoc)

-- at place p, where s selections are open: of the tokens ts, those of `on` go on the line begun, and the rest are the lines ls
pub record Laid (p s : ℕ) (ended : Bool) (ts on : List Token) (ls : List Line) : Type 0 where
  pub laid : (k : ℕ) → lay_after k p s ended ts ≡ write_after k on ++ broken ls

pub none-laid : (p s : ℕ) (ended : Bool) → Laid p s ended [] [] []
unfolding lay_after write_after
none-laid p s ended = record { laid = λ k. refl }

-- the same behind the token b
abbrev pub Behind : ℕ → ℕ → Token → List Token → List Token → List Line → Type 0
Behind p s b ts on ls = Laid (place_behind p (kind_of b)) (open_behind (kind_of b) s) (ends_line p (kind_of b)) ts on ls

written_behind : (k : ℕ) (b : Token) (on : List Token) (r : List ℕ) → behind k b ++ (write_after (kind_of b) on ++ r) ≡ write_after k (b ∷ on) ++ r
unfolding write_after
written_behind k b on r = simp append_assoc

-- a token that begins no line, and one that begins a line
module _ {p s : ℕ} {ended : Bool} (b : Token) {ts on : List Token} {ls : List Line} where
  pub along : either ended (starts_line p (kind_of b)) ≡ false → Behind p s b ts on ls → Laid p s ended (b ∷ ts) (b ∷ on) ls
  unfolding lay_after
  along e h = record { laid = λ k. rw (e, h.laid (kind_of b)) (written_behind k b on (broken ls)) }

  pub anew : either ended (starts_line p (kind_of b)) ≡ true → (d : ℕ) → depth_at p s (kind_of b) ≡ d → Behind p s b ts on ls → Laid p s ended (b ∷ ts) [] (line d (b ∷ on) ∷ ls)
  unfolding lay_after write_after
  anew e d i h =
      let m : List ℕ = 10 ∷ replicate (2 * d) 32 in
      record { laid = λ k. rw (e, i, h.laid (kind_of b), write-after (b ∷ on)) (append_assoc m (behind string_kind b) _ ∙ ap (m ++◌) (written_behind string_kind b on (broken ls))) }

-- A LIST OF VALUES AND THE LIST THAT THEY FILL are the same to a channel, to a new process and to a format: each asks for the values by their places alone.
use Prim.Native.Nat.{ℕ, zero, suc, ◌+◌, ◌/◌, ◌≤◌}
use mathlib.Core.Path.{◌≡◌, refl, sym as inv, ap, ap₂, subst, ◌∙◌}
use mathlib.Core.List.{List, [], ◌∷◌, ◌++◌}
use lib.ListN.{length, get_or, set, replicate}
use lib.IntN.{ℤ, pos}
use lib.Dec.{eqb}
use Rattle.base_ceilings.specs.Ceilings.{numbers_most}
use Rattle.base_codes.specs.Codes.{c_parameter}
use Rattle.base_bytes.specs.Choice.{pick}
use Rattle.table_layout.specs.Access.{code_of, link_of, name_byte}
use Rattle.base_values.specs.Types.{cast_of}
use Rattle.state_layout.specs.Layout.{kept, channel_at, field_at, declared_of, processes_of}
use Rattle.state_layout.specs.Walks.{walk}
use Rattle.spec_grammar.specs.Tree.{Name, Expr}
use Rattle.step_eval.specs.Variables.{type_of, slot_of}
use Rattle.state_start.specs.Starting.{unit_length, process_made}
use Rattle.step_ready.specs.Channels.{fields_of}
use Rattle.step_messages.specs.Messages.{field_type, gather_list, put_in}
use Rattle.step_statements.specs.Statements.{blank}
use Rattle.step_take.specs.Effects.{parameter_set, called}
use Rattle.step_prints.specs.Printing.{written_from}
use Rattle.spec_text.specs.Formats.{decimal_of, escaped, formatted, opened, counted}
use Rattle.agree_stage.specs.Scenes.{scene_of}
use Rattle.spec_machine.specs.Arguments.{all, values}
use Rattle.agree_effects.specs.Walked.{Passed}
use Rattle.agree_effects.proofs.Gathers.{Whole, listed, fill-blank, values-count, gather_fills}

-- the same value at every place
abbrev pub Alike : List ℤ → List ℤ → Type 0
Alike l m = (i : ℕ) → get_or l i (pos 0) ≡ get_or m i (pos 0)

pub put-alike : (t : List ℕ) (c w : ℕ) (l m s : List ℤ) → Alike l m → put_in t c w l s ≡ put_in t c w m s
unfolding put_in
put-alike t c w l m s e =
    λ k. set (walk (λ f x. set x (field_at c w f) (cast_of (field_type t (declared_of s c) f) (e f k))) 0 (fields_of t (declared_of s c)) s) (channel_at c + 1) (kept (w + 1))

pub called-alike : (t : List ℕ) (u : ℕ) (l m s : List ℤ) → Alike l m → called t u l s ≡ called t u m s
unfolding called parameter_set
called-alike t u l m s e =
    λ k. walk (λ i x. pick (eqb (code_of t (u + i)) c_parameter) (set x (slot_of (link_of t (u + i)) (processes_of s) 0) (cast_of (type_of (link_of t (u + i))) (e (link_of t (u + i) / 1024) k))) x) 0
    (unit_length t u) (process_made t u s)

written-alike : (l m : List ℤ) → Alike l m → (was b k : ℕ) → formatted l was b k ≡ formatted m was b k
unfolding formatted
written-alike l m e was b k =
    λ i. pick (eqb was 92) (escaped b ∷ []) (pick (eqb was 37) (pick (eqb b 100) (decimal_of (e k i)) (b ∷ [])) (pick (eqb b 92) [] (pick (eqb b 37) [] (b ∷ []))))

pub text-alike : (t : List ℕ) (l m : List ℤ) → Alike l m → (n j i was k : ℕ) → written_from t l n j i was k ≡ written_from t m n j i was k
unfolding written_from
text-alike t l m e zero j i was k = refl
text-alike t l m e (suc n) j i was k = ap₂ ◌++◌ (written-alike l m e was (name_byte t j i) k) (text-alike t l m e n j (i + 1) (opened was (name_byte t j i)) (counted was (name_byte t j i) k))

-- ---- what arguments fill
pub gathered-alike : (t : List ℕ) (decl : Name → ℕ) (s : List ℤ) (p : ℕ) {es : List Expr} {a z : ℕ} → Passed t decl es a z → length es ≤ numbers_most → (vs : List ℤ)
    → values (scene_of t s p decl) es ≡ all vs
    → Alike (gather_list t s p numbers_most a 0 (replicate numbers_most (pos 0))) vs
gathered-alike t decl s p {es} r h vs e i =
    let w : Whole (values (scene_of t s p decl) es) = subst Whole (inv e) tt in
    ap (λ l. get_or l i (pos 0)) (gather_fills t decl s p r numbers_most h 0 blank w)
    ∙ fill-blank (pos 0) numbers_most (listed (values (scene_of t s p decl) es)) (subst (λ n. n ≤ numbers_most) (inv (values-count (scene_of t s p decl) es w)) h) i ∙ ap (λ l. get_or (listed l) i (pos 0)) e

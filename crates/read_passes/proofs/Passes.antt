-- The laws that the passes cite: what a pass left at the front of its arrays, and the answer that follows.
use mathlib.Core.Path.{◌≡◌, refl, sym, ap, ◌∙◌}
use mathlib.Core.Bool.{Bool, false}
use mathlib.Core.List.{List, ◌++◌, map}
use Prim.Native.Nat.{ℕ, ◌≤◌, ◌<◌, min}
use native.Mathlib.Omega.{arith}
use borrow.Author.Tests.{lt-ltb, le-ltb}
use lib.ListN.{length, get_or, take, drop, replicate, length-append, length-map, length-drop}
use lib.Seq.{take_at}
use Rattle.base_ceilings.specs.Ceilings.{items_most, normal_most}
use Rattle.std.specs.Prelude.{Result, Ok, Err, is_err}
use Rattle.base_refusal.specs.declared.Refusal.{Refusal}
use Rattle.parse_machine.specs.Machine.{symbol_of, place_of}
use Rattle.parse_machine.specs.Answer.{Answer, items, refuse, parsed}
use Rattle.parse_items.specs.Parse.{answer, filled, Parses}
use Rattle.parse_items.specs.declared.Parsed.{Parsed}
use Rattle.write_length.specs.Overlong.{overlong}
use Rattle.base_pens.specs.Pen.{Pen, pen, puts}
use Rattle.table_entries.specs.Entry.{Entry}
use Rattle.table_layout.specs.Tables.{tables_of}
use Rattle.read_passes.specs.Judging.{by_rules, grammatical, by_grammar, pass_of, laid, left, tables_from, tables_by, tables_at, tables_text, wide_room, front, is_wide, wide_text}
use Rattle.parse_items.specs.declared.Parsed.TheVariants as parsed-as

-- ---- the front of an array that was filled
module _ {A : Type 0} (f : A → ℕ) (xs : List A) (old new : List ℕ) (m most : ℕ) (e : new ≡ map f xs ++ drop (length xs) old) (lo : length old ≡ most) (ln : length new ≡ most) where
  within : length xs ≤ most
  within = omega (arith, sym (ap length e) ∙ ln, length-append (map f xs) (drop (length xs) old), length-map xs f, length-drop (length xs) old)

  pub filled-front : m ≡ min (length xs) most → take m new ≡ map f xs
  filled-front q = rw e (take_at (map f xs) (drop (length xs) old) m (omega (arith, within, length-map xs f)))

-- ---- items
module _ (t ks ss es : List ℕ) (r : Parsed) (room : ℕ) (zc cs zk os zs sz : List ℕ) (z : Parses ks room r zc cs zk os zs sz) (e : room ≡ items_most)
    (a : length zc ≡ items_most) (a' : length cs ≡ items_most) (b : length zk ≡ items_most) (b' : length os ≡ items_most) where
  answers : {x : Answer} → parsed ks items_most ≡ x → parsed ks room ≡ x
  answers q = ap (parsed ks) e ∙ q

  pub items-judged : (n m : ℕ) (j : Result (Unit {0}) Refusal) → r ≡ parsed-as.Items n → m ≡ min n items_most → j ≡ by_rules t ss es (take m cs) (take m os) → j ≡ by_grammar t ks ss es
  unfolding by_grammar
  items-judged n m j q h g = go (parsed ks items_most) refl
    where
      go : (x : Answer) → parsed ks items_most ≡ x → j ≡ grammatical t ss es x
      go (items is) y =
          let w : r ≡ parsed-as.Items (length is) = z.answered ∙ ap answer (answers y) in
          let l : n ≡ length is = cc in
          g ∙ rw (
            filled-front symbol_of is zc cs m items_most (z.codes_are ∙ ap (λ (v : Answer). filled symbol_of v zc) (answers y)) a a' (omega arith),
            filled-front place_of is zk os m items_most (z.tokens_are ∙ ap (λ (v : Answer). filled place_of v zk) (answers y)) b b' (omega arith),
          )
      go (refuse x k) y = absurd (let w : r ≡ parsed-as.Refused x k = z.answered ∙ ap answer (answers y) in let f : ◌≡◌ {A = ℕ} 0 1 = cc in omega arith)

  pub items_left : (n m : ℕ) (j : Result (Unit {0}) Refusal) (old new : List ℕ) → r ≡ parsed-as.Items n → m ≡ min n items_most
      → new ≡ left j (tables_from t ss es (take m cs) (take m os)) old → new ≡ left j (tables_at t ks ss es) old
  unfolding tables_at
  items_left n m j old new q h g = go (parsed ks items_most) refl
    where
      go : (x : Answer) → parsed ks items_most ≡ x → new ≡ left j (tables_by t ss es x) old
      go (items is) y =
          let w : r ≡ parsed-as.Items (length is) = z.answered ∙ ap answer (answers y) in
          let l : n ≡ length is = cc in
          g ∙ ap (λ (v : List ℕ). left j v old) (rw (
            filled-front symbol_of is zc cs m items_most (z.codes_are ∙ ap (λ (v : Answer). filled symbol_of v zc) (answers y)) a a' (omega arith),
            filled-front place_of is zk os m items_most (z.tokens_are ∙ ap (λ (v : Answer). filled place_of v zk) (answers y)) b b' (omega arith),
          ))
      go (refuse x k) y = absurd (let w : r ≡ parsed-as.Refused x k = z.answered ∙ ap answer (answers y) in let f : ◌≡◌ {A = ℕ} 0 1 = cc in omega arith)

-- ---- the tables
pub built-laid : (es : List Entry) (ls ms old new : List ℕ) (r : ℕ) → ms ≡ ls → pen new r ≡ puts (tables_of es ms) (pen old 0) → new ≡ laid (tables_of es ls) old
built-laid es ls ms old new r e p = ap (λ (w : Pen). w.list) p ∙ ap (λ (v : List ℕ). laid (tables_of es v) old) e

-- ---- the normal text
pub let_through : (t : List ℕ) (j : Result (Unit {0}) Refusal) (zeros tables : List ℕ) (n m : ℕ) (b : Bool) → j ≡ pass_of t → is_err j ≡ false → zeros ≡ replicate wide_room 0 → tables ≡ left j (tables_text t) zeros
    → n ≡ get_or tables 0 0 → m ≡ min n wide_room → b ≡ overlong (take m tables) → b ≡ is_wide (pass_of t) (tables_text t)
let_through t (Ok u) zeros tables n m b e a z l en em eb =
    let k : tables ≡ laid (tables_text t) (replicate wide_room 0) = l ∙ ap (laid (tables_text t)) z in
    let q : m ≡ min (get_or tables 0 0) wide_room = em ∙ ap (λ (x : ℕ). min x wide_room) en in
    eb ∙ ap (λ (x : ℕ). overlong (take x tables)) q ∙ ap (λ (l : List ℕ). overlong (front l)) k ∙ ap (λ (x : Result (Unit {0}) Refusal). is_wide x (tables_text t)) e
let_through t (Err r) zeros tables n m b e a z l en em eb = absurd (let y : ◌≡◌ {A = ℕ} 0 1 = cc in omega arith)

pub short-text : (t : List ℕ) → length t ≤ normal_most → false ≡ wide_text t
unfolding wide_text
short-text t h = simp (le-ltb normal_most (length t) h)

pub long_text : (t : List ℕ) (b : Bool) → normal_most < length t → b ≡ is_wide (pass_of t) (tables_text t) → b ≡ wide_text t
unfolding wide_text
long_text t b h e = e ∙ simp (lt-ltb normal_most (length t) h) refl

-- The machine never runs out of fuel, of stack or of room for items: three potentials, each a weight for every symbol and a price for every token. Each right side
-- passes one test of the tables: what it costs, with the weights of its symbols, is paid by its nonterminal's weight and by the token that it will eat at once.
-- Assumes nothing.
use Prim.Native.Nat.{ℕ, zero, suc, ◌+◌, ◌-◌, ◌*◌, ◌%◌, ◌≤◌, ◌<◌, min}
use native.Mathlib.Omega.{arith}
use native.Mathlib.Nat.{not-suc-le-zero}
use mathlib.Core.Path.{◌≡◌, refl, ap, ◌∙◌}
use mathlib.Core.Bool.{Bool, true, false}
use mathlib.Core.List.{List, [], ◌∷◌, ◌++◌}
use mathlib.Core.Logic.{◌⊎◌, inl, inr, ⊎_elim}
use native.Mathlib.Decide.{dec_lt}
use lib.ListN.{length, get_or, length-append}
use lib.Dec.{T, eqb, ltb, leb, leb→le, lit≤}
use borrow.Author.Tests.{ne_eqb, lt-ltb, le-ltb, eqb-false, ltb-true, ltb-false, leb-false}
use Rattle.base_ceilings.specs.Ceilings.{items_most, tokens_most}
use Rattle.base_codes.specs.Codes.{c_or_else}
use Rattle.base_bytes.specs.Choice.{pick, either}
use Rattle.parse_grammar.proofs.Tests.{below_out}
use Rattle.parse_tables.specs.Tables.{choices, bases, rights, production, production_by, span, right}
use Rattle.parse_tables.proofs.Tables.{each_right, at_right}
use Rattle.parse_machine.specs.Machine.{symbol_of, column, Config, Outcome, done, refused, spent, Next, go, output_of, write, eat, mark, marked, expand, step_on, next, run, start, machine, most_steps, most_stack}

pub lt_or_ge : (a b : ℕ) → (a < b) ⊎ (b ≤ a)
lt_or_ge a b = elim (dec_lt a b) [ yes h ↦ inl h | no h ↦ inr (omega arith) ]

-- ---- columns
pub column-low : (ks : List ℕ) (pos : ℕ) → column ks pos < 74
unfolding column
column-low ks pos = go (ltb pos (length ks)) (eqb (get_or ks pos 0) 0)
  where
    go : (a b : Bool) → pick a (pick b 73 (min (get_or ks pos 0) 73)) 0 < 74
    go true true = lit≤ tt
    go true false = omega arith
    go false b = lit≤ tt

pub column_end : (ks : List ℕ) (pos : ℕ) → length ks ≤ pos → column ks pos ≡ 0
unfolding column
column_end ks pos h = simp (le-ltb pos (length ks) h)

-- ---- weights of stacks
abbrev sum : (ℕ → ℕ) → List ℕ → ℕ
sum w [] = 0
sum w (v ∷ st) = w (v % 256) + sum w st

sum-append : (w : ℕ → ℕ) (a b : List ℕ) → sum w (a ++ b) ≡ sum w a + sum w b
sum-append w [] b = omega arith
sum-append w (v ∷ a) b = let h = sum-append w a b in omega arith

symbol-marked : (x b : ℕ) → b % 256 ≡ 0 → (x + b) % 256 ≡ x % 256
symbol-marked x b e = omega arith

sum-marked : (w : ℕ → ℕ) (b : ℕ) (r : List ℕ) → b % 256 ≡ 0 → sum w (marked b r) ≡ sum w r
sum-marked w b [] e = refl
sum-marked w b (x ∷ r) e = let h = sum-marked w b r e in rw (symbol-marked x b e, h)

length_marked : (b : ℕ) (r : List ℕ) → length (marked b r) ≡ length r
length_marked b [] = refl
length_marked b (x ∷ r) = ap suc (length_marked b r)

pub mark_plain : (v pos : ℕ) (out : List ℕ) → mark v pos out % 256 ≡ 0
mark_plain v pos out = go (ltb (symbol_of v) 143)
  where
    go : (b : Bool) → pick b (256 * pos + 1048576 * length out) (v - v % 256) % 256 ≡ 0
    go true = omega arith
    go false = omega arith

-- a symbol that surely eats the token at hand, or refuses it: a terminal, an option, a plain type, a unit
lead : ℕ → Bool
lead x = either (ltb x 73) (either (eqb x 112) (either (eqb x 114) (eqb x 137)))

abbrev leads : List ℕ → Bool
leads [] = false
leads (v ∷ st) = lead (v % 256)

leads-marked : (b : ℕ) (r : List ℕ) → b % 256 ≡ 0 → leads (marked b r) ≡ leads r
leads-marked b [] e = refl
leads-marked b (x ∷ r) e = ap lead (symbol-marked x b e)

-- the price of the tokens that are left: that of the one at hand is already spent where the top leads
abbrev price : ℕ → ℕ → ℕ
price K zero = 0
price K (suc n) = K + price K n

abbrev due : ℕ → ℕ → Bool → ℕ
due K zero b = 0
due K (suc n) true = price K n
due K (suc n) false = K + price K n

abbrev fee : ℕ → Bool → ℕ
fee K true = K
fee K false = 0

due-fee : (K n : ℕ) (b : Bool) → 0 < n → due K n b + fee K b ≡ price K n
due-fee K zero b h = absurd (not-suc-le-zero h)
due-fee K (suc n) true h = omega arith
due-fee K (suc n) false h = omega arith

due_le : (K n : ℕ) (b : Bool) → due K n b ≤ price K n
due_le K zero b = omega arith
due_le K (suc n) true = omega arith
due_le K (suc n) false = omega arith

due-next : (K n : ℕ) (b : Bool) → due K n b ≤ due K (suc n) true
due-next K n b = due_le K n b

due_top : (K n : ℕ) (b : Bool) → due K n b ≤ due K n false
due_top K zero b = omega arith
due_top K (suc n) true = omega arith
due_top K (suc n) false = omega arith

due_app : (K n : ℕ) (r st : List ℕ) → 0 < n → due K n (leads (r ++ st)) + fee K (leads r) ≤ price K n
due_app K n [] st h = omega (arith, due_le K n (leads st))
due_app K n (v ∷ r) st h = omega (arith, due-fee K n (lead (v % 256)) h)

abbrev potential : (ℕ → ℕ) → ℕ → List ℕ → ℕ → ℕ
potential w K st n = sum w st + due K n (leads st)

-- ---- what each step pays
pays : (ℕ → ℕ) → ℕ → ℕ → ℕ → ℕ → Bool
pays w K c x p = leb (c + sum w (right p) + fee K (lead x)) (w x + fee K (leads (right p)))

-- at the end nothing leads
ends : ℕ → Bool
ends j = eqb (fee 1 (leads (right (production (73 + j) 0)))) 0

ends-all : (j : ℕ) → j < 74 → T (ends j)
unfolding ends lead production production_by choices bases right span rights
ends-all j h = below_out 74 ends tt j h

fee-one : (b : Bool) → T (eqb (fee 1 b) 0) → b ≡ false
fee-one true t = absurd t
fee-one false t = refl

end_leads : (x : ℕ) → 73 ≤ x → x < c_or_else → leads (right (production x 0)) ≡ false
unfolding ends
end_leads x lo hi =
    let e : 73 + (x - 73) ≡ x = omega arith in
    fee-one (leads (right (production x 0))) (rw e at (ends-all (x - 73) (omega arith)))

lead_low : (x : ℕ) → x < 73 → lead x ≡ true
unfolding lead
lead_low x h = simp (lt-ltb x 73 h)

lead_high : (x : ℕ) → c_or_else ≤ x → lead x ≡ false
unfolding lead
lead_high x h =
    simp (le-ltb x 73 (omega arith), ne_eqb x 112 (λ e. omega arith), ne_eqb x 114 (λ e. omega arith), ne_eqb x 137 (λ e. omega arith))

module _ (w : ℕ → ℕ) (K c : ℕ) (all : T (each_right (pays w K c))) where
  eat-pays : (v : ℕ) (st : List ℕ) (n : ℕ) → v % 256 < 73 → potential w K st n + w (v % 256) ≤ potential w K (v ∷ st) (suc n)
  eat-pays v st n h = rw (lead_low (v % 256) h) (omega (arith, due-next K n (leads st)))

  act_pays : (v : ℕ) (st : List ℕ) (n : ℕ) → c_or_else ≤ v % 256 → potential w K st n + w (v % 256) ≤ potential w K (v ∷ st) n
  act_pays v st n h = rw (lead_high (v % 256) h) (omega (arith, due_top K n (leads st)))

  paid : (x k : ℕ) → 73 ≤ x → x < c_or_else → k < 74 → (production x k ≡ 0 → ⊥) → c + sum w (right (production x k)) + fee K (lead x) ≤ w x + fee K (leads (right (production x k)))
  unfolding pays
  paid x k lo hi hk ne = leb→le _ _ (at_right (pays w K c) all x k lo hi hk ne)

  within : (v b : ℕ) (st : List ℕ) (n k p : ℕ) → b % 256 ≡ 0 → 73 ≤ v % 256 → v % 256 < c_or_else → k < 74 → p ≡ production (v % 256) k → (p ≡ 0 → ⊥) → 0 < n →
      potential w K (marked b (right p) ++ st) n + c ≤ potential w K (v ∷ st) n
  within v b st n k p eb lo hi hk ep ne h =
      let q : c + sum w (right p) + fee K (lead (v % 256)) ≤ w (v % 256) + fee K (leads (right p)) = rw ep (paid (v % 256) k lo hi hk (rw ep at ne)) in
      let a : sum w (marked b (right p) ++ st) ≡ sum w (right p) + sum w st = sum-append w (marked b (right p)) st ∙ ap (λ (z : ℕ). z + sum w st) (sum-marked w b (right p) eb) in
      let d : due K n (leads (marked b (right p) ++ st)) + fee K (leads (right p)) ≤ price K n = rw (leads-marked b (right p) eb) at (due_app K n (marked b (right p)) st h) in
      omega (arith, due-fee K n (lead (v % 256)) h)

  at_end : (v b : ℕ) (st : List ℕ) (p : ℕ) → b % 256 ≡ 0 → 73 ≤ v % 256 → v % 256 < c_or_else → p ≡ production (v % 256) 0 → (p ≡ 0 → ⊥) →
      potential w K (marked b (right p) ++ st) 0 + c ≤ potential w K (v ∷ st) 0
  at_end v b st p eb lo hi ep ne =
      let q : c + sum w (right p) + fee K (lead (v % 256)) ≤ w (v % 256) + fee K (leads (right p)) = rw ep (paid (v % 256) 0 lo hi (lit≤ tt) (rw ep at ne)) in
      let z : leads (right p) ≡ false = rw ep (end_leads (v % 256) lo hi) in
      let y : fee K (leads (right p)) ≡ 0 = rw z in
      let a : sum w (marked b (right p) ++ st) ≡ sum w (right p) + sum w st = sum-append w (marked b (right p)) st ∙ ap (λ (z : ℕ). z + sum w st) (sum-marked w b (right p) eb) in
      omega arith

  expand-pays : (ks : List ℕ) (v b : ℕ) (st : List ℕ) (pos p : ℕ) → b % 256 ≡ 0 → 73 ≤ v % 256 → v % 256 < c_or_else → p ≡ production (v % 256) (column ks pos) → (p ≡ 0 → ⊥) →
      potential w K (marked b (right p) ++ st) (length ks - pos) + c ≤ potential w K (v ∷ st) (length ks - pos)
  expand-pays ks v b st pos p eb lo hi ep ne =
      ⊎_elim (λ h. within v b st (length ks - pos) (column ks pos) p eb lo hi (column-low ks pos) ep ne (omega arith))
      (λ h. let e : length ks - pos ≡ 0 = omega arith in rw e (at_end v b st p eb lo hi (ep ∙ ap (production (v % 256)) (column_end ks pos h)) ne)) (lt_or_ge pos (length ks))

-- ---- the three
by_list : ℕ → List ℕ → ℕ → ℕ
by_list t l x = pick (ltb x 73) t (pick (ltb x c_or_else) (get_or l (x - 73) 0) 1)

-- steps: 37 a token
steps_list : List ℕ
steps_list =
    22 ∷ 20 ∷ 18 ∷ 16 ∷ 14 ∷ 12 ∷ 10 ∷ 8 ∷ 6 ∷ 4 ∷ 1 ∷ 1 ∷ 1 ∷ 1 ∷ 1 ∷ 1 ∷ 1 ∷ 1 ∷ 1 ∷ 1 ∷ 2 ∷ 1 ∷ 2 ∷ 1 ∷ 13 ∷ 24 ∷
    26 ∷ 1 ∷ 2 ∷ 3 ∷ 1 ∷ 2 ∷ 14 ∷ 14 ∷ 24 ∷ 13 ∷ 16 ∷ 1 ∷ 17 ∷ 20 ∷ 1 ∷ 3 ∷ 1 ∷ 1 ∷ 1 ∷ 1 ∷ 1 ∷ 1 ∷ 1 ∷ 1 ∷ 2 ∷ 3 ∷
    1 ∷ 1 ∷ 1 ∷ 1 ∷ 17 ∷ 1 ∷ 18 ∷ 7 ∷ 5 ∷ 1 ∷ 1 ∷ 1 ∷ 7 ∷ 1 ∷ 1 ∷ 1 ∷ 1 ∷ 1 ∷ 15 ∷ 12 ∷ 5 ∷ 1 ∷
    []

w_steps : ℕ → ℕ
w_steps x = by_list 1 steps_list x

-- stack: 19 a token
stack_list : List ℕ
stack_list =
    11 ∷ 10 ∷ 9 ∷ 8 ∷ 7 ∷ 6 ∷ 5 ∷ 4 ∷ 3 ∷ 2 ∷ 1 ∷ 1 ∷ 1 ∷ 1 ∷ 1 ∷ 1 ∷ 1 ∷ 1 ∷ 1 ∷ 1 ∷ 1 ∷ 1 ∷ 1 ∷ 1 ∷ 8 ∷ 12 ∷
    13 ∷ 1 ∷ 1 ∷ 2 ∷ 1 ∷ 1 ∷ 12 ∷ 12 ∷ 12 ∷ 12 ∷ 13 ∷ 1 ∷ 13 ∷ 16 ∷ 1 ∷ 2 ∷ 1 ∷ 1 ∷ 1 ∷ 1 ∷ 1 ∷ 1 ∷ 1 ∷ 1 ∷ 1 ∷ 2 ∷
    1 ∷ 1 ∷ 1 ∷ 1 ∷ 13 ∷ 1 ∷ 13 ∷ 5 ∷ 4 ∷ 1 ∷ 1 ∷ 1 ∷ 5 ∷ 1 ∷ 1 ∷ 1 ∷ 1 ∷ 1 ∷ 12 ∷ 11 ∷ 4 ∷ 1 ∷
    []

w_stack : ℕ → ℕ
w_stack x = by_list 1 stack_list x

-- items: 4 a token
items-list : List ℕ
items-list =
    0 ∷ 0 ∷ 0 ∷ 0 ∷ 0 ∷ 0 ∷ 0 ∷ 0 ∷ 0 ∷ 0 ∷ 0 ∷ 0 ∷ 0 ∷ 0 ∷ 0 ∷ 0 ∷ 0 ∷ 0 ∷ 0 ∷ 0 ∷ 0 ∷ 0 ∷ 1 ∷ 0 ∷ 0 ∷ 1 ∷
    1 ∷ 0 ∷ 0 ∷ 1 ∷ 0 ∷ 0 ∷ 1 ∷ 1 ∷ 1 ∷ 1 ∷ 1 ∷ 0 ∷ 1 ∷ 3 ∷ 0 ∷ 1 ∷ 0 ∷ 0 ∷ 0 ∷ 0 ∷ 0 ∷ 0 ∷ 0 ∷ 0 ∷ 0 ∷ 1 ∷
    0 ∷ 0 ∷ 0 ∷ 0 ∷ 1 ∷ 0 ∷ 1 ∷ 1 ∷ 1 ∷ 0 ∷ 0 ∷ 0 ∷ 2 ∷ 0 ∷ 0 ∷ 0 ∷ 0 ∷ 0 ∷ 2 ∷ 1 ∷ 2 ∷ 0 ∷
    []

w_items : ℕ → ℕ
w_items x = by_list (pick (ltb x 70) 0 1) items-list x

steps_paid : T (each_right (pays w_steps 37 1))
unfolding pays w_steps by_list steps_list lead bases right span rights
steps_paid = tt

stack_paid : T (each_right (pays w_stack 19 0))
unfolding pays w_stack by_list stack_list lead bases right span rights
stack_paid = tt

items_paid : T (each_right (pays w_items 4 0))
unfolding pays w_items by_list items-list lead bases right span rights
items_paid = tt

-- ---- weights of what is no nonterminal, and of the stack
low-weight : (t x : ℕ) (l : List ℕ) → x < 73 → by_list t l x ≡ t
unfolding by_list
low-weight t x l h = simp (lt-ltb x 73 h)

high-weight : (t x : ℕ) (l : List ℕ) → c_or_else ≤ x → by_list t l x ≡ 1
unfolding by_list
high-weight t x l h = simp (le-ltb x 73 (omega arith), le-ltb x c_or_else h)

steps_one : (x : ℕ) → (x < 73) ⊎ (c_or_else ≤ x) → w_steps x ≡ 1
unfolding w_steps
steps_one x h = ⊎_elim (low-weight 1 x steps_list) (high-weight 1 x steps_list) h

items-one : (x : ℕ) → ((70 ≤ x) × (x < 73)) ⊎ (c_or_else ≤ x) → w_items x ≡ 1
unfolding w_items
items-one x h = ⊎_elim (λ g. low-weight (pick (ltb x 70) 0 1) x items-list g.1 ∙ simp (le-ltb x 70 g.0)) (high-weight (pick (ltb x 70) 0 1) x items-list) h

heavy : ℕ → Bool
heavy x = leb 1 (w_stack x)

heavy_all : (x : ℕ) → x < 256 → 1 ≤ w_stack x
unfolding heavy w_stack by_list stack_list
heavy_all x h = leb→le 1 (w_stack x) (below_out 256 heavy tt x h)

stack_length : (st : List ℕ) → length st ≤ sum w_stack st
stack_length [] = omega arith
stack_length (v ∷ st) = omega (arith, stack_length st, heavy_all (v % 256) (omega arith))

-- ---- no step is spent
abbrev pub Fine : Outcome → Type 0
Fine (done o) = Unit {0}
Fine (refused i) = Unit {0}
Fine spent = ⊥

fine_pick : (b : Bool) (x y : Next) (f : Config → Outcome) → (b ≡ true → Fine (next f x)) → (b ≡ false → Fine (next f y)) → Fine (next f (pick b x y))
fine_pick true x y f p q = p refl
fine_pick false x y f p q = q refl

fine_end : (b : Bool) (i : ℕ) (o : List ℕ) → Fine (pick b (refused i) (done o))
fine_end true i o = tt
fine_end false i o = tt

-- what a step must keep: fewer steps left, the stack's room, the items' room
record Lower (ks st : List ℕ) (pos : ℕ) (out : List ℕ) (c : Config) : Type 0 where
  steps : potential w_steps 37 c.st (length ks - c.pos) + 1 ≤ potential w_steps 37 st (length ks - pos)
  stack : potential w_stack 19 c.st (length ks - c.pos) ≤ potential w_stack 19 st (length ks - pos)
  items : length c.out + potential w_items 4 c.st (length ks - c.pos) ≤ length out + potential w_items 4 st (length ks - pos)

pub length-written : (v at : ℕ) (out : List ℕ) → length (output_of v at out) ≡ length out + 1
length-written v at out = length-append out _

module _ (ks : List ℕ) (f : Config → Outcome) (v : ℕ) (st : List ℕ) (pos : ℕ) (out : List ℕ)
    (ih : (c : Config) → Lower ks (v ∷ st) pos out c → Fine (f c))
    (room : potential w_stack 19 (v ∷ st) (length ks - pos) ≤ most_stack) (space : length out + potential w_items 4 (v ∷ st) (length ks - pos) ≤ items_most) where
  act_lower : (at : ℕ) → c_or_else ≤ v % 256 → Lower ks (v ∷ st) pos out (record { st = st; pos = pos; out = output_of v at out })
  act_lower at h =
      record {
        steps = omega (arith, act_pays w_steps 37 1 steps_paid v st (length ks - pos) h, steps_one (v % 256) (inr h));
        stack = omega (arith, act_pays w_stack 19 0 stack_paid v st (length ks - pos) h);
        items = omega (arith, act_pays w_items 4 0 items_paid v st (length ks - pos) h, items-one (v % 256) (inr h), length-written v at out);
      }

  act_fine : (at : ℕ) → c_or_else ≤ v % 256 → Fine (next f (write v at st pos out))
  unfolding write
  act_fine at h =
      fine_pick (ltb (length out) items_most) (go (record { st = st; pos = pos; out = output_of v at out })) _ f (λ e. ih _ (act_lower at h))
      (λ e. omega (arith, ltb-false (length out) items_most e, act_pays w_items 4 0 items_paid v st (length ks - pos) h, items-one (v % 256) (inr h)))

  module _ (low : v % 256 < 73) (here : pos < length ks) where
    left : length ks - pos ≡ suc (length ks - (pos + 1))
    left = omega arith

    eat_steps : potential w_steps 37 st (length ks - (pos + 1)) + 1 ≤ potential w_steps 37 (v ∷ st) (length ks - pos)
    eat_steps = rw left (omega (arith, eat-pays w_steps 37 1 steps_paid v st (length ks - (pos + 1)) low, steps_one (v % 256) (inl low)))

    eat_stack : potential w_stack 19 st (length ks - (pos + 1)) ≤ potential w_stack 19 (v ∷ st) (length ks - pos)
    eat_stack = rw left (omega (arith, eat-pays w_stack 19 0 stack_paid v st (length ks - (pos + 1)) low))

    eat-items : potential w_items 4 st (length ks - (pos + 1)) + w_items (v % 256) ≤ potential w_items 4 (v ∷ st) (length ks - pos)
    eat-items = rw left (eat-pays w_items 4 0 items_paid v st (length ks - (pos + 1)) low)

    name_fine : 70 ≤ v % 256 → Fine (next f (write v pos st (pos + 1) out))
    unfolding write
    name_fine h =
        fine_pick (ltb (length out) items_most) (go (record { st = st; pos = pos + 1; out = output_of v pos out })) _ f
        (λ e. ih _ (record { steps = eat_steps; stack = eat_stack; items = omega (arith, eat-items, items-one (v % 256) (inl (h, low)), length-written v pos out) }))
        (λ e. omega (arith, ltb-false (length out) items_most e, eat-items, items-one (v % 256) (inl (h, low))))

    eat_fine : Fine (next f (pick (ltb (symbol_of v) 70) (go (record { st = st; pos = pos + 1; out = out })) (write v pos st (pos + 1) out)))
    eat_fine =
        fine_pick (ltb (symbol_of v) 70) (go (record { st = st; pos = pos + 1; out = out })) (write v pos st (pos + 1) out) f
        (λ e. ih _ (record { steps = eat_steps; stack = eat_stack; items = omega (arith, eat-items) })) (λ e. name_fine (ltb-false (symbol_of v) 70 e))

  terminal_fine : v % 256 < 73 → Fine (next f (eat ks v st pos out))
  unfolding eat
  terminal_fine low =
      fine_pick (ltb pos (length ks)) _ _ f
      (λ h. fine_pick (eqb (symbol_of v) (column ks pos)) _ _ f (λ e. eat_fine low (ltb-true pos (length ks) h)) (λ e. tt)) (λ h. tt)

  module _ (lo : 73 ≤ v % 256) (hi : v % 256 < c_or_else) (p : ℕ) (ep : p ≡ production (v % 256) (column ks pos)) (ne : p ≡ 0 → ⊥) where
    stack_pays : potential w_stack 19 (marked (mark v pos out) (right p) ++ st) (length ks - pos) + 0 ≤ potential w_stack 19 (v ∷ st) (length ks - pos)
    stack_pays = expand-pays w_stack 19 0 stack_paid ks v (mark v pos out) st pos p (mark_plain v pos out) lo hi ep ne

    expand_lower : Lower ks (v ∷ st) pos out (record { st = marked (mark v pos out) (right p) ++ st; pos = pos; out = out })
    expand_lower =
        record {
          steps = expand-pays w_steps 37 1 steps_paid ks v (mark v pos out) st pos p (mark_plain v pos out) lo hi ep ne;
          stack = omega (arith, stack_pays);
          items = omega (arith, expand-pays w_items 4 0 items_paid ks v (mark v pos out) st pos p (mark_plain v pos out) lo hi ep ne);
        }

    fits : length (right p) + length st ≤ most_stack
    fits =
        let l : length (marked (mark v pos out) (right p) ++ st) ≡ length (right p) + length st = length-append (marked (mark v pos out) (right p)) st ∙ ap (λ (n : ℕ). n + length st) (length_marked (mark v pos out) (right p)) in
        omega (arith, stack_length (marked (mark v pos out) (right p) ++ st), stack_pays)

  nonterminal_fine : 73 ≤ v % 256 → v % 256 < c_or_else → (p : ℕ) → p ≡ production (v % 256) (column ks pos) → Fine (next f (expand v st pos out p))
  unfolding expand
  nonterminal_fine lo hi p ep =
      fine_pick (eqb p 0) _ _ f (λ e. tt)
      (λ e. fine_pick (leb (length (right p) + length st) most_stack) (go (record { st = marked (mark v pos out) (right p) ++ st; pos = pos; out = out })) _ f
      (λ g. ih _ (expand_lower lo hi p ep (eqb-false p 0 e)))
      (λ g. omega (arith, leb-false (length (right p) + length st) most_stack g, fits lo hi p ep (eqb-false p 0 e))))

turn_fine : (ks : List ℕ) (f : Config → Outcome) (st : List ℕ) (pos : ℕ) (out : List ℕ) → ((c : Config) → Lower ks st pos out c → Fine (f c)) →
    potential w_stack 19 st (length ks - pos) ≤ most_stack → length out + potential w_items 4 st (length ks - pos) ≤ items_most → Fine (next f (step_on ks st pos out))
unfolding step_on
turn_fine ks f [] pos out ih room space = fine_end (ltb pos (length ks)) pos out
turn_fine ks f (v ∷ st) pos out ih room space =
    fine_pick (ltb (symbol_of v) 73) (eat ks v st pos out) _ f (λ e. terminal_fine ks f v st pos out ih room space (ltb-true (symbol_of v) 73 e))
    (λ e. fine_pick (ltb (symbol_of v) c_or_else) (expand v st pos out (production (symbol_of v) (column ks pos))) _ f
    (λ g. nonterminal_fine ks f v st pos out ih room space (ltb-false (symbol_of v) 73 e) (ltb-true (symbol_of v) c_or_else g) _ refl)
    (λ g. act_fine ks f v st pos out ih room space _ (ltb-false (symbol_of v) c_or_else g)))

safe : (ks : List ℕ) (f : ℕ) (c : Config) → potential w_steps 37 c.st (length ks - c.pos) < f → potential w_stack 19 c.st (length ks - c.pos) ≤ most_stack →
    length c.out + potential w_items 4 c.st (length ks - c.pos) ≤ items_most → Fine (run ks f c)
unfolding run
safe ks zero c h room space = absurd (not-suc-le-zero h)
safe ks (suc f) c h room space =
    turn_fine ks (run ks f) c.st c.pos c.out (λ c' l. safe ks f c' (omega (arith, l.steps)) (omega (arith, l.stack)) (omega (arith, l.items))) room space

price_37 : (n : ℕ) → price 37 n ≡ 37 * n
price_37 zero = refl
price_37 (suc n) = omega (arith, price_37 n)

price_19 : (n : ℕ) → price 19 n ≡ 19 * n
price_19 zero = refl
price_19 (suc n) = omega (arith, price_19 n)

price_4 : (n : ℕ) → price 4 n ≡ 4 * n
price_4 zero = refl
price_4 (suc n) = omega (arith, price_4 n)

-- NEVER SPENT, for any list of at most 2,048 kinds: 37 steps a token, 19 places of the stack, 4 items
pub never_spent : (ks : List ℕ) → length ks ≤ tokens_most → Fine (machine ks)
unfolding w_steps w_stack w_items by_list steps_list stack_list items-list
never_spent ks h =
    safe ks most_steps start (omega (arith, due_le 37 (length ks - 0) (leads (141 ∷ [])), price_37 (length ks - 0)))
    (omega (arith, due_le 19 (length ks - 0) (leads (141 ∷ [])), price_19 (length ks - 0)))
    (omega (arith, due_le 4 (length ks - 0) (leads (141 ∷ [])), price_4 (length ks - 0)))

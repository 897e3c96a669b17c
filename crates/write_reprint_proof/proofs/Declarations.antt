-- DECLARATIONS: names with sizes and values, the types of channels, and lists of them.
use Prim.Native.Nat.{ℕ, zero, suc, ◌+◌, ◌-◌, ◌≤◌, ◌<◌}
use native.Mathlib.Omega.{arith}
use mathlib.Core.Path.{◌≡◌, refl, sym as inv, ◌∙◌, ap}
use mathlib.Core.Bool.{Bool, true, false}
use mathlib.Core.Option.{Option, none, some as given}
use mathlib.Core.Logic.{◌⊎◌, inl, inr}
use mathlib.Core.List.{List, [], ◌∷◌, ◌++◌, append_assoc}
use lib.ListN.{length, get_or, length-append}
use lib.Dec.{eqb, ltb, leb}
use native.Mathlib.Decide.{ℕ_discrete}
use borrow.Author.Tests.{ne_eqb, leb-true}
use Rattle.base_codes.specs.Codes.{c_bit, c_bool, c_byte, c_chan, c_channel, c_declared, c_field, c_int, c_minus, c_mtype, c_named, c_number, c_pid, c_short, c_size, c_value}
use Rattle.base_bytes.specs.Choice.{pick, both}
use Rattle.base_bytes.proofs.Tests.{both_true}
use Rattle.base_kinds.specs.Kinds.{Token, sym, name, number, text}
use Rattle.spec_grammar.specs.Marks.{'comma, 'rbrace}
use Rattle.spec_grammar.specs.Tree.{num, tru, fls, Value, unset, set_number, set_minus, set_true, set_false, set_name, set_channel, Variable, variable, Declaration, declare}
use Rattle.base_codes.specs.Items.{Item, code_of, i_declared, i_name, i_type}
use Rattle.parse_code.specs.Code.{each, code_field, code_size, code_value, code_variable, code_declaration}
use Rattle.spec_grammar.specs.Print.{further, join, print_type, print_value, print_size, print_variable, print_declaration}
use Rattle.table_entries.specs.Items.{entry_of}
use Rattle.write_rows.specs.Rules.{rows}
use Rattle.write_texts.specs.Turning.{cell, row_from, row_of, laid, turned, is_token, after, marked}
use Rattle.write_reprint_proof.specs.Here.{Sane, tok, flagged, Here}
use Rattle.write_reprint_proof.proofs.Walk.{W, emit, go, tell, here-front, here_back, name-here, number-here, capacity_row}
use Rattle.write_reprint_proof.proofs.Expressions.{walk_exp}
use Rattle.write_reprint_proof.proofs.Lists.{sep, some}

-- ---- lists that are parted by a token: N is the stack where nothing is behind, S where something is, and `lead` is what stands behind the last
abbrev pub listed : Token → {A : Type 0} → (A → List Token) → List Token → List A → List Token → List Token
listed t f lead [] out = out
listed t f lead (x ∷ l) out = join t f (x ∷ l) ++ (lead ++ out)

module _ (h : ℕ → Token) (ms : List ℕ) (A : Type 0) (code-x : A → List Item) (print-x : A → List Token) (t : Token) (N S : List ℕ) (lead : List Token)
    (first : (x : A) (b : Bool) (i j : ℕ) → j ≡ i + length (code-x x) → Here h ms b i (code-x x) → (out : List Token) → W h ms j N out ≡ W h ms i S (print-x x ++ (lead ++ out)))
    (next : (x : A) (b : Bool) (i j : ℕ) → j ≡ i + length (code-x x) → Here h ms b i (code-x x) → (out : List Token) → W h ms j S out ≡ W h ms i S (print-x x ++ (t ∷ out))) where
  pub walk-listed : (l : List A) (b : Bool) (i j : ℕ) → j ≡ i + length (each code-x l) → Here h ms b i (each code-x l) → (out : List Token) → W h ms j N out ≡ W h ms i (pick (some l) S N) (listed t print-x lead l out)
  walk-listed [] b i j n p out = let q : j ≡ i = omega arith in rw q refl
  walk-listed (x ∷ l) b i j n p out =
      let m = i + length (code-x x) in
      let u : length (code-x x ++ each code-x l) ≡ length (code-x x) + length (each code-x l) = length-append (code-x x) (each code-x l) in
      walk-listed l (flagged b (code-x x)) m j (omega arith) (here_back h ms (code-x x) (each code-x l) b i m refl p) out ∙ by l m refl (here-front h ms (code-x x) (each code-x l) b i p)
    where
      by : (l : List A) (m : ℕ) → m ≡ i + length (code-x x) → Here h ms b i (code-x x) → W h ms m (pick (some l) S N) (listed t print-x lead l out) ≡ W h ms i S (join t print-x (x ∷ l) ++ (lead ++ out))
      by [] m q y = first x b i m q y out ∙ simp append_assoc
      by (z ∷ l) m q y = next x b i m q y (join t print-x (z ∷ l) ++ (lead ++ out)) ∙ simp append_assoc

-- ---- types
pub sane_type : (k : ℕ) → Sane (i_type k) → (38 ≤ k) × (k ≤ 45)
sane_type k (inl e) = let p = both_true (leb 38 k) (leb k 45) e in (leb-true 38 k p.0, leb-true k 45 p.1)
sane_type k (inr e) = absurd (omega arith)

up : (n k : ℕ) → n ≤ k → (k ≡ n → ⊥) → suc n ≤ k
up n k a z = omega arith

top : (k : ℕ) → 45 ≤ k → k ≤ 45 → k ≡ 45
top k a b = omega arith

eight : (k : ℕ) → 38 ≤ k → k ≤ 45 → (k ≡ 38) ⊎ ((k ≡ 39) ⊎ ((k ≡ 40) ⊎ ((k ≡ 41) ⊎ ((k ≡ 42) ⊎ ((k ≡ 43) ⊎ ((k ≡ 44) ⊎ (k ≡ 45)))))))
eight k a b = one (ℕ_discrete k 38) (ℕ_discrete k 39) (ℕ_discrete k 40) (ℕ_discrete k 41) (ℕ_discrete k 42) (ℕ_discrete k 43) (ℕ_discrete k 44)
  where
    one : Dec (k ≡ 38) → Dec (k ≡ 39) → Dec (k ≡ 40) → Dec (k ≡ 41) → Dec (k ≡ 42) → Dec (k ≡ 43) → Dec (k ≡ 44) → (k ≡ 38) ⊎ ((k ≡ 39) ⊎ ((k ≡ 40) ⊎ ((k ≡ 41) ⊎ ((k ≡ 42) ⊎ ((k ≡ 43) ⊎ ((k ≡ 44) ⊎ (k ≡ 45)))))))
    one (yes z) b c d e f g = inl z
    one (no z) (yes y) c d e f g = inr (inl y)
    one (no z) (no y) (yes x) d e f g = inr (inr (inl x))
    one (no z) (no y) (no x) (yes w) e f g = inr (inr (inr (inl w)))
    one (no z) (no y) (no x) (no w) (yes v) f g = inr (inr (inr (inr (inl v))))
    one (no z) (no y) (no x) (no w) (no v) (yes u) g = inr (inr (inr (inr (inr (inl u)))))
    one (no z) (no y) (no x) (no w) (no v) (no u) (yes t) = inr (inr (inr (inr (inr (inr (inl t))))))
    one (no z) (no y) (no x) (no w) (no v) (no u) (no t) = inr (inr (inr (inr (inr (inr (inr (top k (up 44 k (up 43 k (up 42 k (up 41 k (up 40 k (up 39 k (up 38 k a z) y) x) w) v) u) t) b)))))))

module _ (i : ℕ) (st : List ℕ) where
  type_rows : (turned 122 c_bit i st ≡ 38 ∷ st) × (turned 122 c_bool i st ≡ 39 ∷ st) × (turned 122 c_byte i st ≡ 40 ∷ st) × (turned 122 c_mtype i st ≡ 41 ∷ st)
      × (turned 122 c_pid i st ≡ 42 ∷ st) × (turned 122 c_chan i st ≡ 43 ∷ st) × (turned 122 c_short i st ≡ 44 ∷ st) × (turned 122 c_int i st ≡ 45 ∷ st)
  unfolding turned row_of row_from cell rows laid
  type_rows = (refl, refl, refl, refl, refl, refl, refl, refl)

module _ (h : ℕ → Token) (ms : List ℕ) where
  pub type_here : (k i : ℕ) (b : Bool) → Sane (i_type k) → get_or ms i 0 ≡ marked b (code_of (i_type k)) → (st : List ℕ) (out : List Token) → W h ms (suc i) (122 ∷ st) out ≡ W h ms i st (sym k ∷ out)
  type_here k i b s g st out = let y = sane_type k s in by (eight k y.0 y.1)
    where
      done : (n : ℕ) → k ≡ n → get_or ms i 0 ≡ 130 + n → turned 122 (130 + n) i st ≡ n ∷ st → is_token n ≡ true → tok h n ≡ sym n → W h ms (suc i) (122 ∷ st) out ≡ W h ms i st (sym k ∷ out)
      done n q c r e u = go h ms (suc i) i 122 (130 + n) st (n ∷ st) out refl refl c r ∙ emit h ms n e i st out ∙ rw (u, q) refl

      by : (k ≡ 38) ⊎ ((k ≡ 39) ⊎ ((k ≡ 40) ⊎ ((k ≡ 41) ⊎ ((k ≡ 42) ⊎ ((k ≡ 43) ⊎ ((k ≡ 44) ⊎ (k ≡ 45))))))) → W h ms (suc i) (122 ∷ st) out ≡ W h ms i st (sym k ∷ out)
      by (inl q) = done 38 q (rw q at g) (type_rows i st).0 refl refl
      by (inr (inl q)) = done 39 q (rw q at g) (type_rows i st).1 refl refl
      by (inr (inr (inl q))) = done 40 q (rw q at g) (type_rows i st).2 refl refl
      by (inr (inr (inr (inl q)))) = done 41 q (rw q at g) (type_rows i st).3 refl refl
      by (inr (inr (inr (inr (inl q))))) = done 42 q (rw q at g) (type_rows i st).4 refl refl
      by (inr (inr (inr (inr (inr (inl q)))))) = done 43 q (rw q at g) (type_rows i st).5 refl refl
      by (inr (inr (inr (inr (inr (inr (inl q))))))) = done 44 q (rw q at g) (type_rows i st).6 refl refl
      by (inr (inr (inr (inr (inr (inr (inr q))))))) = done 45 q (rw q at g) (type_rows i st).7 refl refl

-- ---- what a name stands in: the symbol s becomes, at the mark where the name's declaration ends, the separator v if f, what is declared, and what follows
pub record Declares (s : ℕ) (f : Bool) (v : ℕ) (aft : List ℕ) : Type 0 where
  pub symbol : is_token s ≡ false
  pub mark : is_token v ≡ true
  pub fixed : ltb v 70 ≡ true
  pub value_row : (i : ℕ) (st : List ℕ) → turned s c_value i st ≡ pick f (v ∷ []) [] ++ (101 ∷ 32 ∷ 135 ∷ (aft ++ st))
  pub minus_row : (i : ℕ) (st : List ℕ) → turned s c_minus i st ≡ pick f (v ∷ []) [] ++ (120 ∷ 15 ∷ 32 ∷ 135 ∷ (aft ++ st))
  pub named_row : (i : ℕ) (st : List ℕ) → turned s c_named i st ≡ pick f (v ∷ []) [] ++ (120 ∷ 32 ∷ 135 ∷ (aft ++ st))
  pub channel_row : (i : ℕ) (st : List ℕ) → turned s c_channel i st ≡ pick f (v ∷ []) [] ++ (26 ∷ 25 ∷ 59 ∷ 24 ∷ 124 ∷ (aft ++ st))
  pub field_row : (i : ℕ) (st : List ℕ) → turned s c_field i st ≡ pick f (v ∷ []) [] ++ (26 ∷ 122 ∷ 134 ∷ (aft ++ st))
  pub size_row : (i : ℕ) (st : List ℕ) → turned s c_size i st ≡ pick f (v ∷ []) [] ++ (24 ∷ 120 ∷ 23 ∷ 136 ∷ (aft ++ st))
  pub declared_row : (i : ℕ) (st : List ℕ) → turned s c_declared i st ≡ pick f (v ∷ []) [] ++ (120 ∷ (aft ++ st))

pub in_body : (g : Bool) → Declares (pick g 131 130) true 28 (137 ∷ 131 ∷ [])
unfolding turned row_of row_from cell rows laid
in_body true = record { symbol = refl; mark = refl; fixed = refl; value_row = λ i st. refl; minus_row = λ i st. refl; named_row = λ i st. refl; channel_row = λ i st. refl; field_row = λ i st. refl; size_row = λ i st. refl; declared_row = λ i st. refl }
in_body false = record { symbol = refl; mark = refl; fixed = refl; value_row = λ i st. refl; minus_row = λ i st. refl; named_row = λ i st. refl; channel_row = λ i st. refl; field_row = λ i st. refl; size_row = λ i st. refl; declared_row = λ i st. refl }

pub in_list : Declares 137 true 27 (137 ∷ [])
unfolding turned row_of row_from cell rows laid
in_list = record { symbol = refl; mark = refl; fixed = refl; value_row = λ i st. refl; minus_row = λ i st. refl; named_row = λ i st. refl; channel_row = λ i st. refl; field_row = λ i st. refl; size_row = λ i st. refl; declared_row = λ i st. refl }

pub in_units : Declares 143 false 28 (137 ∷ 143 ∷ [])
unfolding turned row_of row_from cell rows laid
in_units = record { symbol = refl; mark = refl; fixed = refl; value_row = λ i st. refl; minus_row = λ i st. refl; named_row = λ i st. refl; channel_row = λ i st. refl; field_row = λ i st. refl; size_row = λ i st. refl; declared_row = λ i st. refl }

module _ (i : ℕ) (st : List ℕ) where
  more_fields_row : turned 134 c_field i st ≡ 27 ∷ 122 ∷ 134 ∷ st
  unfolding turned row_of row_from cell rows laid
  more_fields_row = refl

  fields-row : turned 134 c_channel i st ≡ 25 ∷ 59 ∷ 24 ∷ 124 ∷ st
  unfolding turned row_of row_from cell rows laid
  fields-row = refl

  sized_row : turned 135 c_size i st ≡ 24 ∷ 120 ∷ 23 ∷ 136 ∷ st
  unfolding turned row_of row_from cell rows laid
  sized_row = refl

  unsized_row : turned 135 c_declared i st ≡ 120 ∷ st
  unfolding turned row_of row_from cell rows laid
  unsized_row = refl

  then_declared_row : turned 136 c_declared i st ≡ 120 ∷ st
  unfolding turned row_of row_from cell rows laid
  then_declared_row = refl

module _ (h : ℕ → Token) (ms : List ℕ) where
  -- behind a value: a size or none, and the name
  sized : (w : List ℕ) (z : Option ℕ) (b : Bool) (i m : ℕ) → m ≡ i + length (i_name w ∷ i_declared ∷ code_size z) → Here h ms b i (i_name w ∷ i_declared ∷ code_size z) → (st : List ℕ) (out : List Token)
      → W h ms m (135 ∷ st) out ≡ W h ms i st (name w ∷ (print_size z ++ out))
  sized w none b i m n p st out = go h ms m (suc i) 135 c_declared st (120 ∷ st) out (omega arith) refl p.3.0 (unsized_row (suc i) st) ∙ name-here h ms (suc i) i w refl p.0 (p.1 (omega arith)) st out
  sized w (given v) b i m n p st out =
      go h ms m (suc (suc (suc i))) 135 c_size st (24 ∷ 120 ∷ 23 ∷ 136 ∷ st) out (omega arith) refl p.3.3.3.0 (sized_row (suc (suc (suc i))) st) ∙ emit h ms 24 refl _ _ _
      ∙ number-here h ms (suc (suc (suc i))) (suc (suc i)) v refl p.3.3.0 (p.3.3.1 (omega arith)) _ _ ∙ emit h ms 23 refl _ _ _
      ∙ go h ms (suc (suc i)) (suc i) 136 c_declared st (120 ∷ st) _ refl refl p.3.0 (then_declared_row (suc i) st) ∙ name-here h ms (suc i) i w refl p.0 (p.1 (omega arith)) st _

  module _ (s : ℕ) (f : Bool) (v : ℕ) (aft : List ℕ) (D : Declares s f v aft) (st : List ℕ) where
    lead : (g : Bool) (i : ℕ) (xs : List ℕ) (out : List Token) → W h ms i (pick g (v ∷ []) [] ++ xs) out ≡ W h ms i xs (sep g (sym v) ++ out)
    lead false i xs out = refl
    lead true i xs out = emit h ms v D.mark i xs out ∙ rw D.fixed refl

    opened : (j i c : ℕ) (xs : List ℕ) (out : List Token) → j ≡ suc i → get_or ms i 0 ≡ c → turned s c i st ≡ pick f (v ∷ []) [] ++ xs → W h ms j (s ∷ st) out ≡ W h ms i xs (sep f (sym v) ++ out)
    opened j i c xs out n g r = go h ms j i s c st (pick f (v ∷ []) [] ++ xs) out n D.symbol g r ∙ lead f i xs out

    -- the types of a channel
    first_field : (k : ℕ) (b : Bool) (i j : ℕ) → j ≡ i + length (code_field k) → Here h ms b i (code_field k) → (out : List Token)
        → W h ms j (s ∷ st) out ≡ W h ms i (134 ∷ (aft ++ st)) (print_type k ++ (('rbrace ∷ sep f (sym v)) ++ out))
    first_field k b i j n p out =
        opened j (suc i) c_field (26 ∷ 122 ∷ 134 ∷ (aft ++ st)) out (omega arith) p.3.0 (D.field_row (suc i) st) ∙ emit h ms 26 refl _ _ _ ∙ type_here h ms k i b p.2 p.0 _ _

    next_field : (k : ℕ) (b : Bool) (i j : ℕ) → j ≡ i + length (code_field k) → Here h ms b i (code_field k) → (out : List Token) → W h ms j (134 ∷ (aft ++ st)) out ≡ W h ms i (134 ∷ (aft ++ st)) (print_type k ++ ('comma ∷ out))
    next_field k b i j n p out =
        go h ms j (suc i) 134 c_field (aft ++ st) (27 ∷ 122 ∷ 134 ∷ (aft ++ st)) out (omega arith) refl p.3.0 (more_fields_row (suc i) (aft ++ st)) ∙ emit h ms 27 refl _ _ _ ∙ type_here h ms k i b p.2 p.0 _ _

    -- `=` and the capacity, before the types
    capacity : (n i : ℕ) (out : List Token) → get_or ms i 0 ≡ c_number → h i ≡ number n → W h ms (suc i) (124 ∷ (aft ++ st)) out ≡ W h ms i (135 ∷ (aft ++ st)) (sym 32 ∷ sym 23 ∷ number n ∷ out)
    capacity n i out g e = go h ms (suc i) i 124 c_number (aft ++ st) ((256 + i) ∷ 23 ∷ 32 ∷ 135 ∷ (aft ++ st)) out refl refl g (capacity_row i (aft ++ st)) ∙ tell h ms i (number n) e _ _ _ ∙ emit h ms 23 refl _ _ _ ∙ emit h ms 32 refl _ _ _

    channel : (n : ℕ) (ks : List ℕ) (b : Bool) (i j : ℕ) → j ≡ i + length (code_value (set_channel n ks)) → Here h ms b i (code_value (set_channel n ks)) → (out : List Token)
        → W h ms j (s ∷ st) out ≡ W h ms i (135 ∷ (aft ++ st)) (print_value (set_channel n ks) ++ (sep f (sym v) ++ out))
    channel n ks b i j q p out =
        walk-listed h ms ℕ code_field print_type 'comma (s ∷ st) (134 ∷ (aft ++ st)) ('rbrace ∷ sep f (sym v)) first_field next_field ks b (suc (suc i)) j (omega arith) p.3.3 out ∙ by ks
      where
        by : (ks : List ℕ) → W h ms (suc (suc i)) (pick (some ks) (134 ∷ (aft ++ st)) (s ∷ st)) (listed 'comma print_type ('rbrace ∷ sep f (sym v)) ks out)
            ≡ W h ms i (135 ∷ (aft ++ st)) (print_value (set_channel n ks) ++ (sep f (sym v) ++ out))
        by [] =
            opened (suc (suc i)) (suc i) c_channel (26 ∷ 25 ∷ 59 ∷ 24 ∷ 124 ∷ (aft ++ st)) out refl p.3.0 (D.channel_row (suc i) st) ∙ emit h ms 26 refl _ _ _ ∙ emit h ms 25 refl _ _ _
            ∙ emit h ms 59 refl _ _ _ ∙ emit h ms 24 refl _ _ _ ∙ capacity n i _ p.0 (p.1 (omega arith))
        by (k ∷ ks) =
            go h ms (suc (suc i)) (suc i) 134 c_channel (aft ++ st) (25 ∷ 59 ∷ 24 ∷ 124 ∷ (aft ++ st)) _ refl refl p.3.0 (fields-row (suc i) (aft ++ st)) ∙ emit h ms 25 refl _ _ _
            ∙ emit h ms 59 refl _ _ _ ∙ emit h ms 24 refl _ _ _ ∙ capacity n i _ p.0 (p.1 (omega arith)) ∙ simp append_assoc

    -- a value, by the claim that it is walked over to where the size or the name is asked for
    abbrev Valued : Value → Type 0
    Valued u = (b : Bool) (m j : ℕ) → j ≡ m + length (code_value u) → Here h ms b m (code_value u) → (out : List Token) → W h ms j (s ∷ st) out ≡ W h ms m (135 ∷ (aft ++ st)) (print_value u ++ (sep f (sym v) ++ out))

    number_value : (k : ℕ) → Valued (set_number k)
    number_value k b m j n p out =
        opened j (suc m) c_value (101 ∷ 32 ∷ 135 ∷ (aft ++ st)) out (omega arith) p.3.0 (D.value_row (suc m) st)
        ∙ walk_exp h ms (num k) b m (suc m) 1 (omega arith) (p.0, p.1, p.2, tt) (omega arith) (omega arith) _ _ ∙ emit h ms 32 refl _ _ _

    minus_value : (k : ℕ) → Valued (set_minus k)
    minus_value k b m j n p out =
        opened j (suc m) c_minus (120 ∷ 15 ∷ 32 ∷ 135 ∷ (aft ++ st)) out (omega arith) p.3.0 (D.minus_row (suc m) st)
        ∙ number-here h ms (suc m) m k refl p.0 (p.1 (omega arith)) _ _ ∙ emit h ms 15 refl _ _ _ ∙ emit h ms 32 refl _ _ _

    true_value : Valued set_true
    true_value b m j n p out =
        opened j (suc m) c_value (101 ∷ 32 ∷ 135 ∷ (aft ++ st)) out (omega arith) p.3.0 (D.value_row (suc m) st)
        ∙ walk_exp h ms tru b m (suc m) 1 (omega arith) (p.0, p.1, p.2, tt) (omega arith) (omega arith) _ _ ∙ emit h ms 32 refl _ _ _

    false_value : Valued set_false
    false_value b m j n p out =
        opened j (suc m) c_value (101 ∷ 32 ∷ 135 ∷ (aft ++ st)) out (omega arith) p.3.0 (D.value_row (suc m) st)
        ∙ walk_exp h ms fls b m (suc m) 1 (omega arith) (p.0, p.1, p.2, tt) (omega arith) (omega arith) _ _ ∙ emit h ms 32 refl _ _ _

    name_value : (u : List ℕ) → Valued (set_name u)
    name_value u b m j n p out =
        opened j (suc m) c_named (120 ∷ 32 ∷ 135 ∷ (aft ++ st)) out (omega arith) p.3.0 (D.named_row (suc m) st)
        ∙ name-here h ms (suc m) m u refl p.0 (p.1 (omega arith)) _ _ ∙ emit h ms 32 refl _ _ _

    valued : (w : List ℕ) (z : Option ℕ) (u : Value) → Valued u → (b : Bool) (i j : ℕ) → j ≡ i + length (code_variable (variable w z u)) → Here h ms b i (code_variable (variable w z u)) → (out : List Token)
        → W h ms j (s ∷ st) out ≡ W h ms i (aft ++ st) (print_variable (variable w z u) ++ (sep f (sym v) ++ out))
    valued w z u claim b i j n p out =
        let F = i_name w ∷ i_declared ∷ code_size z in
        let m = i + length F in
        let t : length (F ++ code_value u) ≡ length F + length (code_value u) = length-append F (code_value u) in
        claim (flagged b F) m j (omega arith) (here_back h ms F (code_value u) b i m refl p) out
        ∙ sized w z b i m refl (here-front h ms F (code_value u) b i p) _ _ ∙ simp append_assoc

    -- a name with its size and value
    pub walk_variable : (x : Variable) (b : Bool) (i j : ℕ) → j ≡ i + length (code_variable x) → Here h ms b i (code_variable x) → (out : List Token)
        → W h ms j (s ∷ st) out ≡ W h ms i (aft ++ st) (print_variable x ++ (sep f (sym v) ++ out))
    walk_variable (variable w none unset) b i j n p out = opened j (suc i) c_declared (120 ∷ (aft ++ st)) out (omega arith) p.3.0 (D.declared_row (suc i) st) ∙ name-here h ms (suc i) i w refl p.0 (p.1 (omega arith)) _ _
    walk_variable (variable w (given k) unset) b i j n p out =
        opened j (suc (suc (suc i))) c_size (24 ∷ 120 ∷ 23 ∷ 136 ∷ (aft ++ st)) out (omega arith) p.3.3.3.0 (D.size_row (suc (suc (suc i))) st) ∙ emit h ms 24 refl _ _ _
        ∙ number-here h ms (suc (suc (suc i))) (suc (suc i)) k refl p.3.3.0 (p.3.3.1 (omega arith)) _ _ ∙ emit h ms 23 refl _ _ _
        ∙ go h ms (suc (suc i)) (suc i) 136 c_declared (aft ++ st) (120 ∷ (aft ++ st)) _ refl refl p.3.0 (then_declared_row (suc i) (aft ++ st)) ∙ name-here h ms (suc i) i w refl p.0 (p.1 (omega arith)) _ _
    walk_variable (variable w z (set_number k)) b i j n p out = valued w z (set_number k) (number_value k) b i j n p out
    walk_variable (variable w z (set_minus k)) b i j n p out = valued w z (set_minus k) (minus_value k) b i j n p out
    walk_variable (variable w z set_true) b i j n p out = valued w z set_true true_value b i j n p out
    walk_variable (variable w z set_false) b i j n p out = valued w z set_false false_value b i j n p out
    walk_variable (variable w z (set_name u)) b i j n p out = valued w z (set_name u) (name_value u) b i j n p out
    walk_variable (variable w z (set_channel k ks)) b i j n p out = valued w z (set_channel k ks) (channel k ks) b i j n p out

-- ---- a declaration: `it` is the mark behind its type, and where it has no names the symbol becomes a type and what follows
module _ (h : ℕ → Token) (ms : List ℕ) (it s : ℕ) (i-it : Item) (f : Bool) (v : ℕ) (rest : List ℕ) (D : Declares s f v (137 ∷ rest)) (mark : (entry_of i-it).code ≡ it) (same : (b : Bool) → marked b it ≡ it)
    (bare : (i : ℕ) (st : List ℕ) → turned s it i st ≡ pick f (v ∷ []) [] ++ (122 ∷ (rest ++ st))) (ends : (i : ℕ) (st : List ℕ) → turned 137 it i st ≡ 122 ∷ st) where
  pub walk_declaration : (d : Declaration) (b : Bool) (i j : ℕ) → j ≡ i + length (code_declaration i-it d) → Here h ms b i (code_declaration i-it d) → (st : List ℕ) (out : List Token)
      → W h ms j (s ∷ st) out ≡ W h ms i (rest ++ st) (print_declaration d ++ (sep f (sym v) ++ out))
  walk_declaration (declare k xs) b i j n p st out =
      walk-listed h ms Variable code_variable print_variable 'comma (s ∷ st) (137 ∷ (rest ++ st)) (sep f (sym v)) (walk_variable h ms s f v (137 ∷ rest) D st) (walk_variable h ms 137 true 27 (137 ∷ []) in_list (rest ++ st))
      xs _ (suc (suc i)) j (omega arith) p.3.3 out ∙ by xs
    where
      at : get_or ms (suc i) 0 ≡ it
      at = p.3.0 ∙ ap (marked (after b (code_of (i_type k)))) mark ∙ same (after b (code_of (i_type k)))

      by : (xs : List Variable) → W h ms (suc (suc i)) (pick (some xs) (137 ∷ (rest ++ st)) (s ∷ st)) (listed 'comma print_variable (sep f (sym v)) xs out) ≡ W h ms i (rest ++ st) (sym k ∷ (join 'comma print_variable xs ++ (sep f (sym v) ++ out)))
      by [] = opened h ms s f v (137 ∷ rest) D st (suc (suc i)) (suc i) it (122 ∷ (rest ++ st)) out refl at (bare (suc i) st) ∙ type_here h ms k i b p.2 p.0 _ _
      by (x ∷ xs) = go h ms (suc (suc i)) (suc i) 137 it (rest ++ st) (122 ∷ (rest ++ st)) _ refl refl at (ends (suc i) (rest ++ st)) ∙ type_here h ms k i b p.2 p.0 _ _

-- Variables of the tables: each has numbers of its own, as many as its declaration says, within the ceilings.
use Prim.Native.Nat.{ℕ, zero, suc, ◌+◌, ◌-◌, ◌*◌, ◌/◌, ◌%◌, ◌≤◌, ◌<◌, min}
use mathlib.Core.Path.{◌≡◌, refl, sym, ap, subst, ◌∙◌}
use mathlib.Core.Bool.{Bool, true, false}
use mathlib.Core.List.{List, [], ◌∷◌}
use mathlib.Core.Logic.{◌⊎◌, inl, inr}
use native.Mathlib.Omega.{arith}
use native.Mathlib.Decide.{dec_lt}
use lib.ListN.{length, get_or}
use lib.Dec.{eqb, ltb, leb}
use borrow.Author.Tests.{eq-eqb, ne_eqb, eqb-true, ltb-true, ltb-false, leb-true}
use Rattle.base_ceilings.specs.Ceilings.{array_most, channels_most, globals_most, items_most, mtypes_most, processes_most, proctypes_most, statements_most}
use Rattle.base_codes.specs.Codes.{c_declared, c_parameter, c_size, c_number}
use Rattle.base_bytes.specs.Choice.{pick, both, either}
use Rattle.base_bytes.proofs.Tests.{either_false, true_false}
use Rattle.rule_sheets.specs.Walks.{sum}
use Rattle.rule_item.specs.Rules.{is_array, bad_size, bad_by}
use Rattle.rule_ceilings.specs.Ceilings.{numbers, weight, total, any_passed}
use Rattle.link_items.specs.Links.{type_at, size_at, local_at, offset_at, slot_at, link_by, size_kept}
use Rattle.table_layout.specs.Access.{items_of, code_of, link_of}
use Rattle.step_eval.specs.Variables.{size_of}
use Rattle.state_types.specs.Fits.{is_local}
use Rattle.keep_tables.specs.Well.{Unit, Inside}
use Rattle.keep_tables.proofs.Cells.{local_is}
use Rattle.keep_tables.specs.Held.{Held}
use Rattle.keep_tables.specs.Facts.{homes, starts, heights, links_in, Facts}
use Rattle.keep_tables.proofs.Links.{link_is}
use Rattle.keep_tables.proofs.Units.{span_of}
use Rattle.keep_tables.proofs.Homes.{inside_home}
use Rattle.base_codes.specs.Sets.{rule_of, class_of}

-- ---- four numbers in one
unpacked : (a b c d : ℕ) → a ≤ 7 → b ≤ 1 → c ≤ size_kept
    → ((a + 8 * b + 16 * c + 1024 * d) / 1024 ≡ d) × ((a + 8 * b + 16 * c + 1024 * d) / 16 % 64 ≡ c) × ((a + 8 * b + 16 * c + 1024 * d) / 8 % 2 ≡ b)
unpacked a b c d ha hb hc = (omega arith, omega arith, omega arith)

-- ---- ceilings
module _ (cs vs hs : List ℕ) (e : any_passed cs vs hs ≡ false) where
  pub record Within : Type 0 where
    pub globals : numbers cs vs hs 0 ≤ globals_most
    pub heavy : total cs vs hs 7 ≤ 0
    pub wide : total cs vs hs 6 ≤ 0
    pub some : total cs vs hs 4 ≡ 0 → ⊥
    pub channels : total cs vs hs 5 ≤ channels_most

  pub within : Within
  unfolding any_passed
  within =
      let n = total cs vs hs in
      let p = either (ltb statements_most (n 1)) (ltb mtypes_most (n 2)) in
      let q = either (ltb proctypes_most (n 3)) (ltb globals_most (numbers cs vs hs 0)) in
      let r = either (ltb 0 (n 7)) (ltb 0 (n 6)) in
      let s = either (ltb processes_most (n 4)) (eqb (n 4) 0) in
      let a = either_false (either p q) (either r (either s (ltb channels_most (n 5)))) e in
      let b = either_false p q a.0 in
      let c = either_false (ltb proctypes_most (n 3)) (ltb globals_most (numbers cs vs hs 0)) b.1 in
      let d = either_false r (either s (ltb channels_most (n 5))) a.1 in
      let f = either_false (ltb 0 (n 7)) (ltb 0 (n 6)) d.0 in
      let g = either_false s (ltb channels_most (n 5)) d.1 in
      let h = either_false (ltb processes_most (n 4)) (eqb (n 4) 0) g.0 in
      record {
        globals = ltb-false globals_most (numbers cs vs hs 0) c.1;
        heavy = ltb-false 0 (total cs vs hs 7) f.0;
        wide = ltb-false 0 (total cs vs hs 6) f.1;
        some = λ z. true_false (sym (eq-eqb (total cs vs hs 4) 0 z) ∙ h.1);
        channels = ltb-false channels_most (total cs vs hs 5) g.1;
      }

-- ---- what is an item is there
pub past_none : (cs : List ℕ) (j : ℕ) → length cs ≤ j → get_or cs j 0 ≡ 0
past_none [] j h = refl
past_none (c ∷ cs) zero h = absurd (omega arith)
past_none (c ∷ cs) (suc j) h = past_none cs j (omega arith)

pub item_there : (cs : List ℕ) (j c : ℕ) → 0 < c → get_or cs j 0 ≡ c → j < length cs
item_there cs j c h e = go (dec_lt j (length cs))
  where
    go : Dec (j < length cs) → j < length cs
    go (yes g) = g
    go (no g) = absurd (let z = past_none cs j (omega arith) in omega arith)

-- ---- the size of an array
module _ (cs vs : List ℕ) (K : Facts cs vs) where
  size_rule : (j : ℕ) → j < length cs → get_or cs j 0 ≡ c_size → (0 < get_or vs (j - 1) 0) × (get_or vs (j - 1) 0 ≤ array_most)
  unfolding rule_of bad_by bad_size
  size_rule j h e = go (ltb 0 (get_or vs (j - 1) 0)) (leb (get_or vs (j - 1) 0) array_most) refl refl (sym (ap (λ c. bad_by cs vs (homes cs) (starts cs) (heights cs) (rule_of c) j) e) ∙ K.ruled j h)
    where
      go : (a b : Bool) → ltb 0 (get_or vs (j - 1) 0) ≡ a → leb (get_or vs (j - 1) 0) array_most ≡ b → pick {A = ℕ} (both a b) 0 5 ≡ 0 → (0 < get_or vs (j - 1) 0) × (get_or vs (j - 1) 0 ≤ array_most)
      go true true p q z = (ltb-true 0 (get_or vs (j - 1) 0) p, leb-true (get_or vs (j - 1) 0) array_most q)
      go true false p q z = absurd (omega arith)
      go false b p q z = absurd (omega arith)

  -- an array has the number that its declaration says, 1 to 32, and a scalar 1
  pub size_is : (d : ℕ) → (1 ≤ size_at cs vs d) × (size_at cs vs d ≡ pick (is_array cs d) (get_or vs (d + 1) 0) 1)
  unfolding size_at is_array
  size_is d = go (eqb (get_or cs (d + 1) 0) c_number) (eqb (get_or cs (d + 2) 0) c_size) refl
    where
      go : (a b : Bool) → eqb (get_or cs (d + 2) 0) c_size ≡ b → (1 ≤ pick (both a b) (min size_kept (get_or vs (d + 1) 0)) 1) × (pick (both a b) (min size_kept (get_or vs (d + 1) 0)) 1 ≡ pick (both a b) (get_or vs (d + 1) 0) 1)
      go true true e =
          let c = eqb-true (get_or cs (d + 2) 0) c_size e in
          let r = size_rule (d + 2) (item_there cs (d + 2) c_size (omega arith) c) c in
          let q : get_or vs (d + 2 - 1) 0 ≡ get_or vs (d + 1) 0 = ap (λ k. get_or vs k 0) (let z : d + 2 - 1 ≡ d + 1 = omega arith in z) in
          let x = r.0 in
          let y = r.1 in
          (omega arith, omega arith)
      go true false e = (omega arith, refl)
      go false b e = (omega arith, refl)

size_most : (cs vs : List ℕ) (d : ℕ) → size_at cs vs d ≤ size_kept
unfolding size_at
size_most cs vs d = go (is_array cs d)
  where
    go : (b : Bool) → pick b (min size_kept (get_or vs (d + 1) 0)) 1 ≤ size_kept
    go true = omega arith
    go false = omega arith

type_most : (cs : List ℕ) (d : ℕ) → type_at cs d ≤ 7
unfolding type_at
type_most cs d = omega arith

local_most : (hs : List ℕ) (d : ℕ) → local_at hs d ≤ 1
local_most hs d = go (eqb (get_or hs d 0) 0)
  where
    go : (b : Bool) → pick {A = ℕ} b 0 1 ≤ 1
    go true = omega arith
    go false = omega arith

offset_most : (cs vs hs : List ℕ) (d : ℕ) → offset_at cs vs hs d ≤ 65535
unfolding offset_at
offset_most cs vs hs d = omega arith

variable_class : (c : ℕ) → (c ≡ c_declared) ⊎ (c ≡ c_parameter) → class_of c ≡ 14
unfolding class_of
variable_class c (inl e) = rw e
variable_class c (inr e) = rw e

module _ (t cs vs : List ℕ) (H : Held t cs vs (links_in cs vs)) (K : Facts cs vs) where
  abbrev hs : List ℕ
  hs = homes cs

  variable_link : (m : List ℕ) (d : ℕ) → class_of (get_or cs d 0) ≡ 14 → link_by cs vs hs (starts cs) (class_of (get_or cs d 0)) m d ≡ slot_at cs vs hs d
  unfolding link_by
  variable_link m d e = rw e

  slot_is : (d : ℕ) → d < length cs → (get_or cs d 0 ≡ c_declared) ⊎ (get_or cs d 0 ≡ c_parameter) → link_of t d ≡ type_at cs d + 8 * local_at hs d + 16 * size_at cs vs d + 1024 * offset_at cs vs hs d
  unfolding slot_at
  slot_is d h v =
      let l = link_is cs vs d K.few h in
      let a = size_most cs vs d in
      let b = type_most cs d in
      let c = local_most hs d in
      let e = offset_most cs vs hs d in
      H.links d h ∙ l.1 ∙ ap (min 4294967295) (variable_link l.0 d (variable_class (get_or cs d 0) v))
      ∙ (let z : min 4294967295 (type_at cs d + 8 * local_at hs d + 16 * size_at cs vs d + 1024 * offset_at cs vs hs d) ≡ type_at cs d + 8 * local_at hs d + 16 * size_at cs vs d + 1024 * offset_at cs vs hs d = omega arith in z)

  -- the parts of a variable's link
  pub record Slot (d : ℕ) : Type 0 where
    pub offset : link_of t d / 1024 ≡ offset_at cs vs hs d
    pub size : size_of (link_of t d) ≡ size_at cs vs d
    pub flag : link_of t d / 8 % 2 ≡ local_at hs d

  pub slot_of_lem : (d : ℕ) → d < length cs → (get_or cs d 0 ≡ c_declared) ⊎ (get_or cs d 0 ≡ c_parameter) → Slot d
  slot_of_lem d h v =
      let e = slot_is d h v in
      let u = unpacked (type_at cs d) (local_at hs d) (size_at cs vs d) (offset_at cs vs hs d) (type_most cs d) (local_most hs d) (size_most cs vs d) in
      record { offset = ap (λ l. l / 1024) e ∙ u.0; size = ap (λ l. l / 16 % 64) e ∙ u.1; flag = ap (λ l. l / 8 % 2) e ∙ u.2 }

  -- ---- fields of `Well`
  below : (d : ℕ) → d < items_of t → d < length cs
  below d h = subst (λ n. d < n) H.items h

  code_as : (d : ℕ) → d < length cs → is_local t d ≡ true → (get_or cs d 0 ≡ c_declared) ⊎ (get_or cs d 0 ≡ c_parameter)
  code_as d h e = go (local_is t d e)
    where
      go : (code_of t d ≡ c_declared) ⊎ (code_of t d ≡ c_parameter) → (get_or cs d 0 ≡ c_declared) ⊎ (get_or cs d 0 ≡ c_parameter)
      go (inl z) = inl (sym (H.codes d h) ∙ z)
      go (inr z) = inr (sym (H.codes d h) ∙ z)

  pub text-sized : (d : ℕ) → d < items_of t → is_local t d ≡ true → 1 ≤ size_of (link_of t d)
  text-sized d h e = let g = below d h in let s = (slot_of_lem d g (code_as d g e)).size in let r = (size_is cs vs K d).0 in omega arith

  pub unit_home : (u d : ℕ) → Unit t u → Inside t u d → get_or hs d 0 ≡ u + 1
  unit_home u d n i = let s = span_of t cs vs H K u n in inside_home cs K.formed K.few u (link_of t u) s.head s.closed d i.0 i.1

  pub unit_there : (u d : ℕ) → Unit t u → Inside t u d → d < length cs
  unit_there u d n i = let a = (span_of t cs vs H K u n).closed.1 in let b = i.1 in omega arith

  pub text_locals_local : (u d : ℕ) → Unit t u → Inside t u d → is_local t d ≡ true → link_of t d / 8 % 2 ≡ 1
  text_locals_local u d n i e =
      let g = unit_there u d n i in
      let h = unit_home u d n i in
      (slot_of_lem d g (code_as d g e)).flag ∙ rw (ne_eqb (get_or hs d 0) 0 (λ z. omega arith))

  -- ---- some item, and not too many: a process starts
  some_item : 1 ≤ length cs
  unfolding total sum
  some_item = go (length cs) refl
    where
      go : (n : ℕ) → length cs ≡ n → 1 ≤ n
      go zero e = absurd ((within cs vs hs K.ceiled).some (ap (sum (weight cs vs hs 4) 0) e))
      go (suc n) e = omega arith

  pub text_few : (1 ≤ items_of t) × (items_of t ≤ items_most)
  text_few = let e = H.items in let a = some_item in let b = K.few in (omega arith, omega arith)

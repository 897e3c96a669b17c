-- What tables say of a channel by its `channel` item: its capacity, how many fields its messages have, and their types.
use Prim.Native.Nat.{ℕ, zero, suc, ◌+◌, ◌-◌, ◌*◌, ◌≤◌, ◌<◌}
use native.Mathlib.Omega.{arith}
use native.Mathlib.Decide.{dec_lt}
use mathlib.Core.Path.{◌≡◌, refl, sym as inv, ap, ◌∙◌}
use mathlib.Core.Bool.{Bool}
use mathlib.Core.List.{List, [], ◌∷◌}
use lib.ListN.{length, get_or}
use lib.Dec.{eqb, ltb}
use borrow.Author.Tests.{eq-eqb, ne_eqb, lt-ltb, le-ltb}
use Rattle.base_ceilings.specs.Ceilings.{capacity_most, fields_most, items_most}
use Rattle.base_codes.specs.Codes.{c_field}
use Rattle.base_bytes.specs.Choice.{pick}
use Rattle.spec_grammar.specs.Tree.{Model, set_channel}
use Rattle.base_codes.specs.Items.{i_field, i_number, i_type}
use Rattle.parse_code.specs.Code.{each, code_field, code_value, code}
use Rattle.legal_terms.specs.Says.{Says}
use Rattle.table_layout.specs.Access.{items_of, code_of, number_of}
use Rattle.step_ready.specs.Channels.{capacity_of, fields_of}
use Rattle.step_messages.specs.Messages.{field_type}
use Rattle.legal_declarations.proofs.Standing.{Lies, long, code_is}
use Rattle.keep_tables.specs.Facts.{links_in}
use Rattle.keep_tables.specs.Held.{Held}
use Rattle.keep_tables.proofs.Variables.{past_none}
use Rattle.agree_names.proofs.Channels.{Made}

-- at most four fields are counted
fields-count : (n : ℕ) → n ≤ 4 → (a b c d : Bool) → a ≡ ltb 0 n → (1 ≤ n → b ≡ ltb 1 n) → (2 ≤ n → c ≡ ltb 2 n) → (3 ≤ n → d ≡ ltb 3 n)
    → pick {A = ℕ} a (pick b (pick c (pick d 4 3) 2) 1) 0 ≡ n
fields-count zero h a b c d x y z w = rw x
fields-count (suc zero) h a b c d x y z w = rw (x, y (omega arith))
fields-count (suc (suc zero)) h a b c d x y z w = rw (x, y (omega arith), z (omega arith))
fields-count (suc (suc (suc zero))) h a b c d x y z w = rw (x, y (omega arith), z (omega arith), w (omega arith))
fields-count (suc (suc (suc (suc zero)))) h a b c d x y z w = rw (x, y (omega arith), z (omega arith), w (omega arith))
fields-count (suc (suc (suc (suc (suc n))))) h a b c d x y z w = absurd (omega arith)

fields_long : (ks : List ℕ) → length (each code_field ks) ≡ 2 * length ks
fields_long [] = refl
fields_long (k ∷ ks) = let r = fields_long ks in omega arith

module _ (t : List ℕ) (m : Model) (cs vs : List ℕ) (S : Says m cs vs) (H : Held t cs vs (links_in cs vs)) where
  -- the codes of tables, also behind the last item
  code_any : (j : ℕ) → code_of t j ≡ get_or cs j 0
  unfolding code_of
  code_any j = go (dec_lt j (length cs))
    where
      go : Dec (j < length cs) → code_of t j ≡ get_or cs j 0
      go (yes h) = H.codes j h
      go (no h) = let e = H.items in rw (le-ltb j (items_of t) (omega arith)) (inv (past_none cs j (omega arith)))

  -- the types of fields, each before its mark
  fields_lie : (ks : List ℕ) (k f : ℕ) → Lies (code m) k (each code_field ks) → f < length ks → (code_of t (k + 2 * f) ≡ 130 + get_or ks f 0) × (code_of t (k + 2 * f + 1) ≡ c_field)
  fields_lie [] k f y h = absurd (omega arith)
  fields_lie (x ∷ ks) k zero y h = (
    ap (code_of t) (let z : k + 2 * 0 ≡ k = omega arith in z) ∙ code_any k ∙ code_is m cs vs S k (i_type x) y.0 y.1,
    ap (code_of t) (let z : k + 2 * 0 + 1 ≡ suc k = omega arith in z) ∙ code_any (suc k) ∙ code_is m cs vs S (suc k) i_field y.2.0 y.2.1,
  )
  fields_lie (x ∷ ks) k (suc f) y h =
      let r = fields_lie ks (suc (suc k)) f y.2.2 (omega arith) in
      let z : k + 2 * suc f ≡ suc (suc k) + 2 * f = omega arith in
      (ap (code_of t) z ∙ r.0, ap (λ i. code_of t (i + 1)) z ∙ r.1)

  module _ (d n : ℕ) (ks : List ℕ) (M : Made m cs vs S d n ks) where
    number_at : M.from < length cs
    number_at = let a = M.lies.0 in let b = long m cs vs S in omega arith

    capacity_is : capacity_of t d ≡ n
    capacity_is =
        let e = M.at in
        let l = M.lies in
        ap (number_of t) (let z : d - 1 ≡ M.from = omega arith in z) ∙ H.numbers M.from number_at (code_is m cs vs S M.from (i_number n) l.0 l.1)
        ∙ S.numbers M.from n number_at l.1

    -- field f is there
    field_there : (f : ℕ) → f ≤ length ks → eqb (code_of t (d + 2 + 2 * f)) c_field ≡ ltb f (length ks)
    field_there f h = go (dec_lt f (length ks))
      where
        go : Dec (f < length ks) → eqb (code_of t (d + 2 + 2 * f)) c_field ≡ ltb f (length ks)
        go (yes g) =
            let e = M.at in
            let r = (fields_lie ks (suc (suc M.from)) f M.lies.2.2 g).1 in
            eq-eqb (code_of t (d + 2 + 2 * f)) c_field (ap (code_of t) (let z : d + 2 + 2 * f ≡ suc (suc M.from) + 2 * f + 1 = omega arith in z) ∙ r) ∙ inv (lt-ltb f (length ks) g)
        go (no g) =
            let e = M.at in
            let l = fields_long ks in
            let x = M.free.1 in
            let j = suc (M.from + length (code_value (set_channel n ks))) in
            let z : code_of t (d + 2 + 2 * f) ≡ get_or cs j 0 = ap (code_of t) (let y : d + 2 + 2 * f ≡ j = omega arith in y) ∙ code_any j in
            ne_eqb (code_of t (d + 2 + 2 * f)) c_field (λ w. x (omega arith, omega arith)) ∙ inv (le-ltb f (length ks) (omega arith))

    fields_are : fields_of t d ≡ length ks
    unfolding fields_of
    fields_are =
        fields-count (length ks) M.most.1 (eqb (code_of t (d + 2)) c_field) (eqb (code_of t (d + 4)) c_field) (eqb (code_of t (d + 6)) c_field) (eqb (code_of t (d + 8)) c_field)
        (ap (λ i. eqb (code_of t i) c_field) (let z : d + 2 ≡ d + 2 + 2 * 0 = omega arith in z) ∙ field_there 0 (omega arith))
        (λ h. ap (λ i. eqb (code_of t i) c_field) (let z : d + 4 ≡ d + 2 + 2 * 1 = omega arith in z) ∙ field_there 1 h)
        (λ h. ap (λ i. eqb (code_of t i) c_field) (let z : d + 6 ≡ d + 2 + 2 * 2 = omega arith in z) ∙ field_there 2 h)
        (λ h. ap (λ i. eqb (code_of t i) c_field) (let z : d + 8 ≡ d + 2 + 2 * 3 = omega arith in z) ∙ field_there 3 h)

    pub channel-says : (d ≤ items_most) × (capacity_of t d ≡ n) × (fields_of t d ≡ length ks) × (n ≤ capacity_most) × (length ks ≤ fields_most)
    channel-says =
        (let e = M.at in let a = number_at in let b = S.few in omega arith, capacity_is, fields_are, M.most.0, M.most.1)

    pub field-says : (f : ℕ) → f < length ks → field_type t d f ≡ get_or ks f 0
    field-says f h =
        let e = M.at in
        let r = (fields_lie ks (suc (suc M.from)) f M.lies.2.2 h).0 in
        ap (λ i. code_of t i - 130) (let z : d + 1 + 2 * f ≡ suc (suc M.from) + 2 * f = omega arith in z) ∙ ap (λ i. i - 130) r ∙ (let z : 130 + get_or ks f 0 - 130 ≡ get_or ks f 0 = omega arith in z)

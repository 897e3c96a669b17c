-- What the links of declaring items say: of a variable its type, size and offset, and whether it is a local; of an mtype name its number. docs/TABLES.md, "Links".
use Prim.Native.Nat.{ℕ, suc, ◌+◌, ◌-◌, ◌*◌, ◌/◌, ◌%◌, ◌≤◌, ◌<◌, min}
use native.Mathlib.Omega.{arith}
use mathlib.Core.Path.{◌≡◌, refl, ap, ◌∙◌}
use mathlib.Core.Bool.{Bool, true, false}
use mathlib.Core.Logic.{◌⊎◌, inl, inr}
use mathlib.Core.List.{List}
use lib.ListN.{length, get_or}
use lib.Dec.{eqb}
use borrow.Author.Tests.{ne_eqb}
use Rattle.base_ceilings.specs.Ceilings.{mtypes_most}
use Rattle.base_codes.specs.Codes.{c_declared, c_message, c_named, c_parameter, c_name}
use Rattle.base_bytes.specs.Choice.{pick}
use Rattle.rule_search.specs.Search.{lookup, last, count}
use Rattle.rule_sheets.specs.Walks.{sum}
use Rattle.rule_item.specs.Rules.{is_array}
use Rattle.rule_ceilings.specs.Ceilings.{numbers_at}
use Rattle.link_items.specs.Links.{type_at, size_at, offset_at, slot_at, link_by, size_kept}
use Rattle.table_layout.specs.Access.{code_of, link_of}
use Rattle.state_layout.specs.Layout.{local_at, global_at_lem}
use Rattle.step_eval.specs.Variables.{slot_of}
use Rattle.agree_eval.proofs.Lookups.{lookup_most}
use Rattle.keep_tables.specs.Facts.{homes, starts, links_in, Facts}
use Rattle.keep_tables.specs.Held.{Held}
use Rattle.keep_tables.proofs.Links.{link_is}
use Rattle.keep_tables.proofs.Variables.{size_is, slot_of_lem, item_there}
use Rattle.spec_machine.specs.Names.{Var}
use Rattle.agree_encode.specs.Tabled.{Linked}
use Rattle.agree_names.proofs.Scopes.{Declares}
use Rattle.base_codes.specs.Sets.{class_of}
use Rattle.link_items.specs.Links as links

classes : (class_of c_declared ≡ 14) × (class_of c_parameter ≡ 14) × (class_of c_message ≡ 15) × (class_of c_named ≡ 2)
unfolding class_of
classes = (refl, refl, refl, refl)

variable_class : (c : ℕ) → (c ≡ c_declared) ⊎ (c ≡ c_parameter) → class_of c ≡ 14
variable_class c (inl e) = ap class_of e ∙ classes.0
variable_class c (inr e) = ap class_of e ∙ classes.1

-- the type is the lowest digit
lowest : (a b c d : ℕ) → a ≤ 7 → b ≤ 1 → c ≤ size_kept → d ≤ 65535 → min 4294967295 (a + 8 * b + 16 * c + 1024 * d) % 8 ≡ a
lowest a b c d ha hb hc hd = omega arith

module _ (cs vs hs : List ℕ) (d : ℕ) where
  type_most : type_at cs d ≤ 7
  unfolding type_at
  type_most = omega arith

  flag_most : links.local_at hs d ≤ 1
  flag_most = go (eqb (get_or hs d 0) 0)
    where
      go : (b : Bool) → pick {A = ℕ} b 0 1 ≤ 1
      go true = omega arith
      go false = omega arith

  size_most : size_at cs vs d ≤ size_kept
  unfolding size_at
  size_most = go (is_array cs d)
    where
      go : (b : Bool) → pick b (min size_kept (get_or vs (d + 1) 0)) 1 ≤ size_kept
      go true = omega arith
      go false = omega arith

  offset_most : offset_at cs vs hs d ≤ 65535
  unfolding offset_at
  offset_most = omega arith

module _ (t cs vs : List ℕ) (H : Held t cs vs (links_in cs vs)) (K : Facts cs vs) where
  abbrev hs : List ℕ
  hs = homes cs

  slot_link : (l : List ℕ) (d : ℕ) → link_by cs vs hs (starts cs) 14 l d ≡ type_at cs d + 8 * links.local_at hs d + 16 * size_at cs vs d + 1024 * offset_at cs vs hs d
  unfolding link_by slot_at
  slot_link l d = refl

  message_link : (l : List ℕ) (d : ℕ) → link_by cs vs hs (starts cs) 15 l d ≡ count cs hs 12 0 0 (d + 1)
  unfolding link_by
  message_link l d = refl

  type_of : (d : ℕ) → d < length cs → (get_or cs d 0 ≡ c_declared) ⊎ (get_or cs d 0 ≡ c_parameter) → link_of t d % 8 ≡ type_at cs d
  type_of d h v =
      let l = link_is cs vs d K.few h in
      ap (λ x. x % 8)
      (H.links d h ∙ l.1 ∙ ap (λ c. min 4294967295 (link_by cs vs hs (starts cs) c l.0 d)) (variable_class (get_or cs d 0) v) ∙ ap (min 4294967295) (slot_link l.0 d))
      ∙ lowest (type_at cs d) (links.local_at hs d) (size_at cs vs d) (offset_at cs vs hs d) (type_most cs vs hs d) (flag_most cs vs hs d) (size_most cs vs hs d) (offset_most cs vs hs d)

  type_is : (d k : ℕ) → get_or cs (last cs 3 d - 2) 0 ≡ 130 + k → 38 ≤ k → k ≤ 45 → 38 + type_at cs d ≡ k
  unfolding type_at
  type_is d k e a b = omega arith

  offset_is : (h d o : ℕ) → get_or hs d 0 ≡ h → sum (numbers_at cs vs hs h) 0 d ≡ o → o ≤ 65535 → offset_at cs vs hs d ≡ o
  unfolding offset_at
  offset_is h d o e q l = ap (λ i. min 65535 (sum (numbers_at cs vs hs i) 0 d)) e ∙ ap (min 65535) q ∙ (let z : min 65535 o ≡ o = omega arith in z)

  there : (d : ℕ) → (get_or cs d 0 ≡ c_declared) ⊎ (get_or cs d 0 ≡ c_parameter) → d < length cs
  there d (inl e) = item_there cs d c_declared (omega arith) e
  there d (inr e) = item_there cs d c_parameter (omega arith) e

  pub code_there : (d c : ℕ) → 0 < c → get_or cs d 0 ≡ c → code_of t d ≡ c
  code_there d c h e = H.codes d (item_there cs d c h e) ∙ e

  -- ---- a variable
  module _ (h d o : ℕ) (x : Var) (D : Declares cs vs hs h d x o) (small : o ≤ 65535) where
    bound : d < length cs
    bound = there d D.coded

    pub variable_code : (eqb (code_of t d) c_message ≡ false) × (eqb (code_of t d) c_name ≡ false)
    variable_code = go D.coded
      where
        go : (get_or cs d 0 ≡ c_declared) ⊎ (get_or cs d 0 ≡ c_parameter) → (eqb (code_of t d) c_message ≡ false) × (eqb (code_of t d) c_name ≡ false)
        go (inl e) = let c = H.codes d bound in (ne_eqb (code_of t d) c_message (λ z. omega arith), ne_eqb (code_of t d) c_name (λ z. omega arith))
        go (inr e) = let c = H.codes d bound in (ne_eqb (code_of t d) c_message (λ z. omega arith), ne_eqb (code_of t d) c_name (λ z. omega arith))

    pub size-some : 1 ≤ x.size
    size-some = let a = (size_is cs vs K d).0 in let b = (size_is cs vs K d).1 in let c = D.size in omega arith

    linked : (at : ℕ → ℕ → ℕ) → ((p k : ℕ) → slot_of (link_of t d) p k ≡ at p (o + k)) → Linked (link_of t d) x at o
    linked at s =
        let S = slot_of_lem t cs vs H K d bound D.coded in
        record {
          type = ap (λ n. 38 + n) (type_of d bound D.coded) ∙ type_is d x.type D.type D.least D.most;
          size = S.size ∙ (size_is cs vs K d).1 ∙ D.size;
          slot = λ p k g. s p k;
        }

    offset_here : link_of t d / 1024 ≡ o
    offset_here = (slot_of_lem t cs vs H K d bound D.coded).offset ∙ offset_is h d o D.home D.offset small

    flag_here : (b : Bool) → eqb h 0 ≡ b → link_of t d / 8 % 2 ≡ pick b 0 1
    flag_here b e = (slot_of_lem t cs vs H K d bound D.coded).flag ∙ ap (λ i. pick {A = ℕ} (eqb i 0) 0 1) D.home ∙ ap (λ c. pick {A = ℕ} c 0 1) e

    pub linked-global : h ≡ 0 → Linked (link_of t d) x (λ p k. global_at_lem k) o
    unfolding slot_of
    linked-global e = linked (λ p k. global_at_lem k) (λ p k. rw (flag_here true (ap (λ i. eqb i 0) e), offset_here))

    pub linked_local : (u : ℕ) → h ≡ suc u → Linked (link_of t d) x local_at o
    unfolding slot_of
    linked_local u e = linked local_at (λ p k. rw (flag_here false (ne_eqb h 0 (λ z. omega arith)), offset_here))

  -- ---- an mtype name
  pub number_link : (d n : ℕ) → get_or cs d 0 ≡ c_message → count cs hs 12 0 0 (suc d) ≡ n → n ≤ mtypes_most → link_of t d ≡ n
  number_link d n c e small =
      let h = item_there cs d c_message (omega arith) c in
      let l = link_is cs vs d K.few h in
      H.links d h ∙ l.1 ∙ ap (λ c. min 4294967295 (link_by cs vs hs (starts cs) c l.0 d)) (ap class_of c ∙ classes.2)
      ∙ ap (min 4294967295) (message_link l.0 d ∙ ap (count cs hs 12 0 0) (let z : d + 1 ≡ suc d = omega arith in z) ∙ e) ∙ (let z : min 4294967295 n ≡ n = omega arith in z)

  -- ---- the mtype name that is a declaration's value
  named_link : (l : List ℕ) (j : ℕ) → link_by cs vs hs (starts cs) 2 l (suc j) ≡ lookup cs vs hs (get_or vs j 0) (get_or hs (suc j) 0) j
  unfolding link_by
  named_link l j = ap (λ i. lookup cs vs hs (get_or vs i 0) (get_or hs (suc j) 0) i) (let z : suc j - 1 ≡ j = omega arith in z)

  pub value_link : (j h : ℕ) → suc j < length cs → get_or cs (suc j) 0 ≡ c_named → get_or hs (suc j) 0 ≡ h → link_of t (suc j) ≡ lookup cs vs hs (get_or vs j 0) h j
  value_link j h b c e =
      let l = link_is cs vs (suc j) K.few b in
      let v = get_or vs j 0 in
      let most = lookup_most cs vs hs j j (omega arith) (λ x p q. absurd (omega arith)) v h j in
      let few = K.few in
      H.links (suc j) b ∙ l.1 ∙ ap (λ c. min 4294967295 (link_by cs vs hs (starts cs) c l.0 (suc j))) (ap class_of c ∙ classes.3)
      ∙ ap (min 4294967295) (named_link l.0 j ∙ ap (λ i. lookup cs vs hs v i j) e) ∙ (let z : min 4294967295 (lookup cs vs hs v h j) ≡ lookup cs vs hs v h j = omega arith in z)

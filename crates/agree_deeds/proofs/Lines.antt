-- THE LINES OF A STEP, read from tables and numbers: what is stored in a variable and what a message holds are those of the plain states that the numbers hold.
use Prim.Native.Nat.{ℕ, ◌+◌, ◌-◌, ◌/◌, ◌%◌}
use native.Mathlib.Omega.{arith}
use borrow.Author.Tests.{lt-ltb, ltb-true, leb-true}
use mathlib.Core.Path.{◌≡◌, sym as inv, ap, ap₂, ◌∙◌, subst}
use mathlib.Core.Bool.{Bool, true, false}
use mathlib.Core.List.{List, [], ◌∷◌, ◌++◌}
use lib.ListN.{length, get_or, length-set}
use lib.Seq.{get_or-set_same}
use lib.IntN.{ℤ}
use lib.Dec.{eqb, ltb, leb}
use Rattle.base_bytes.specs.Choice.{pick, both}
use Rattle.base_bytes.specs.Numbers.{nat}
use Rattle.base_bytes.proofs.Tests.{both_true}
use Rattle.base_kinds.specs.Kinds.{bytes}
use Rattle.spec_text.specs.Formats.{digits_of, decimal_of}
use Rattle.spec_grammar.specs.Tree.{Name, Ref, Model}
use Rattle.spec_rules.specs.Roles.{Role}
use Rattle.legal_rules.specs.Expressions.{lawful}
use Rattle.spec_rules.specs.Statements.{Place, sense}
use Rattle.table_layout.specs.Access.{link_of}
use Rattle.state_layout.specs.Layout.{global_at_lem, local_at, declared_of, field_of}
use Rattle.write_letters.specs.Tokens.{spelled}
use Rattle.step_eval.specs.Variables.{variable_of, slot_of}
use Rattle.step_eval.specs.Expressions.{locate_of}
use Rattle.step_ready.specs.Channels.{fields_of}
use Rattle.spec_machine.specs.Arguments.{name_of, hit, aim}
use Rattle.spec_machine.specs.State.{Channel, State, no_channel}
use Rattle.spec_machine.specs.Names.{unit_at, meant}
use Rattle.spec_machine.specs.Plain.{declared_by, types_in, with_channel, size_meant, plain_stage}
use Rattle.spec_machine.specs.Plain as plain
use Rattle.spec_machine.specs.Fits.{ChannelFits}
use Rattle.spec_account.specs.Deeds.{stored}
use Rattle.spec_account.specs.States.{message_text}
use Rattle.spec_account.specs.Steps.{index_text, deed_text}
use Rattle.agree_encode.specs.Encode.{encode}
use Rattle.agree_encode.specs.Tabled.{Tabled}
use Rattle.agree_stage.specs.Scenes.{locate}
use Rattle.agree_stage.specs.Tables.{stage_in}
use Rattle.agree_transfer.specs.Agrees.{storable, Agrees}
use Rattle.agree_transfer.proofs.Transfer.{There, aim_same}
use Rattle.agree_effects.proofs.Receives.{placed, locate-aim}
use Rattle.agree_tables.proofs.Agreed.{Kept, stages_agree}
use Rattle.show_deeds.specs.Deeds.{index_in, store_in, passed_in, stored_by, stored_in}
use Rattle.agree_deeds.proofs.Texts.{fields_are}

-- number n of a variable stands n places behind its first
slot-from : (l p n : ℕ) → slot_of l p n - slot_of l p 0 ≡ n
unfolding slot_of
slot-from l p n = go (eqb (l / 8 % 2) 0) (l / 1024)
  where
    go : (b : Bool) (o : ℕ) → pick b (global_at_lem (o + n)) (local_at p (o + n)) - pick b (global_at_lem (o + 0)) (local_at p (o + 0)) ≡ n
    go true o = omega arith
    go false o = omega arith

-- ---- a channel that gets another content is there as before
pub channel-put : (σ : State) (v : ℤ) (h : List (List ℤ)) → both (ltb 0 (nat v)) (leb (nat v) (length σ.channels)) ≡ true
    → (both (ltb 0 (nat v)) (leb (nat v) (length (with_channel (nat v - 1) h σ).channels)) ≡ true) × ((plain.channel_at (with_channel (nat v - 1) h σ) v).held ≡ h)
channel-put σ v h made =
    let b = both_true (ltb 0 (nat v)) (leb (nat v) (length σ.channels)) made in
    let x = ltb-true 0 (nat v) b.0 in
    let y = leb-true (nat v) (length σ.channels) b.1 in
    let c : Channel = record { unit = (get_or σ.channels (nat v - 1) no_channel).unit; variable = (get_or σ.channels (nat v - 1) no_channel).variable; held = h } in (
      ap (λ n. both (ltb 0 (nat v)) (leb (nat v) n)) (length-set σ.channels (nat v - 1) c) ∙ made,
      ap (λ (z : Channel). z.held) (get_or-set_same σ.channels (nat v - 1) c no_channel (omega arith)),
    )

module _ (P : ℕ → ℕ → Type 0) (m : Model) (u : ℕ) (at : Place) (T : List ℕ) (decl head : Name → ℕ) (X : Tabled P m u at T decl head) (p : ℕ) (rest : List ℤ) where
  -- what tables say of the reference that stands from item q to before e
  pub record Reads (r : Ref) (q e : ℕ) : Type 0 where
    pub spelt : spelled T q ≡ name_of r
    pub index : (n : ℕ) → index_in T (e - 1) n ≡ index_text r n
    pub declared : link_of T (e - 1) ≡ decl (name_of r)
    pub located : (s : List ℤ) (p : ℕ) → locate_of T s p q e ≡ locate T s p decl r

  -- ---- a state and its numbers
  module _ (σ : State) (k : Kept P m u at T decl head X p rest σ (encode m σ ++ rest)) where
    abbrev S : List ℤ
    S = encode m σ ++ rest

    pub agreed : Agrees (Kept P m u at T decl head X p rest) (P u) at (plain_stage m p (unit_at m u) σ) σ (stage_in T (encode m σ ++ rest) p decl head) (encode m σ ++ rest)
    agreed = stages_agree P m u at T decl head X p rest σ k

    -- message n of channel v
    pub message-line : (v : ℤ) (n : ℕ) → both (ltb 0 (nat v)) (leb (nat v) (length σ.channels)) ≡ true → ltb n (length (plain.channel_at σ v).held) ≡ true
        → passed_in T (encode m σ ++ rest) (nat v - 1) n ≡ digits_of (nat v) ++ (message_text (get_or (plain.channel_at σ v).held n []) ++ 10 ∷ [])
    message-line v n made waits =
        let b = both_true (ltb 0 (nat v)) (leb (nat v) (length σ.channels)) made in
        let x = ltb-true 0 (nat v) b.0 in
        let y = leb-true (nat v) (length σ.channels) b.1 in
        let Q : ChannelFits m (plain.channel_at σ v) = k.fits.queues (nat v - 1) (omega arith) in
        let g = ltb-true n (length (plain.channel_at σ v).held) waits in
        let f = agreed.fields v made in
        let l : length (get_or (plain.channel_at σ v).held n []) ≡ fields_of T (declared_of S (nat v - 1)) = (Q.messages n g).long ∙ inv (ap (λ w. length (types_in w)) Q.declared) ∙ f in
        let e : nat v - 1 + 1 ≡ nat v = omega arith in
        ap₂ (λ (i : ℕ) (z : List ℤ). digits_of i ++ (message_text z ++ 10 ∷ [])) e
        (fields_are S (nat v - 1) n (get_or (plain.channel_at σ v).held n []) (fields_of T (declared_of S (nat v - 1))) 0 l
        (λ i h. agreed.message v n i made waits (lt-ltb i (length (types_in (declared_by m (plain.channel_at σ v)))) (omega arith)) ∙ ap (field_of S (nat v - 1) n) (let z : i ≡ 0 + i = omega arith in z)))

  -- ---- two states: a store is told as it stands in the second
  module _ (σ τ : State) (k : Kept P m u at T decl head X p rest σ (encode m σ ++ rest)) (l : Kept P m u at T decl head X p rest τ (encode m τ ++ rest)) where
    store_line : (r : Ref) (q e : ℕ) → Reads r q e → storable (sense at) (name_of r) ≡ true → (n : ℕ) → ltb n (size_meant m p (meant m (unit_at m u) (name_of r))) ≡ true → (v : ℤ)
        → store_in T (encode m τ ++ rest) p q e (slot_of (link_of T (decl (name_of r))) p n) ≡ deed_text m p (unit_at m u) σ τ (stored r n v)
    store_line r q e d s n h v =
        let x : slot_of (link_of T (decl (name_of r))) p n - slot_of (variable_of T (e - 1)) p 0 ≡ n =
        ap (λ i. slot_of (link_of T (decl (name_of r))) p n - slot_of (link_of T i) p 0) d.declared ∙ slot-from (link_of T (decl (name_of r))) p n in
        let y = ap (index_in T (e - 1)) x ∙ d.index n in
        let z = inv ((agreed τ l).element (name_of r) n s h) in
        λ i. bytes "\tstored " ++ (d.spelt i ++ (y i ++ (32 ∷ (decimal_of (z i) ++ 10 ∷ []))))

    pub stored-line : (r : Ref) (q e : ℕ) → Reads r q e → (o : Role) → lawful (sense at) o r ≡ true → storable (sense at) (name_of r) ≡ true
        → (n : ℕ) → aim (plain_stage m p (unit_at m u) σ).scene r ≡ hit n → (v : ℤ)
        → stored_in T (encode m σ ++ rest) (encode m τ ++ rest) p q e ≡ deed_text m p (unit_at m u) σ τ (stored r n v)
    stored-line r q e d o w s n h v =
        let c = plain_stage m p (unit_at m u) σ in
        let K = Kept P m u at T decl head X p rest in
        let S = encode m σ ++ rest in
        let D = stage_in T S p decl head in
        let z = aim_same K (P u) at c σ D S (agreed σ k) r o w s in
        ap (stored_by T S (encode m τ ++ rest) p q e) (d.located S p ∙ locate-aim T decl S p r ∙ ap (placed T decl p (name_of r)) (inv z.0 ∙ h))
        ∙ store_line r q e d s n (subst (There K (P u) at c σ D S (agreed σ k) (name_of r)) h z.1) v

-- EACH STATEMENT OF AN ACCEPTED TEXT: where its step is done, the lines that tables and numbers give for it are its deeds in the plain states that the numbers hold, one statement after the other.
use Rattle.std.specs.Prelude.{Result, Ok, Err}
use Prim.Native.Nat.{ℕ, ◌+◌, ◌-◌, ◌≤◌, min}
use native.Mathlib.Omega.{arith}
use borrow.Author.Tests.{lt-ltb, leb-true}
use mathlib.Core.Path.{◌≡◌, refl, sym as inv, ap, ap₂, ◌∙◌, subst}
use mathlib.Core.Bool.{Bool, true, false}
use mathlib.Core.List.{List, [], ◌∷◌, ◌++◌, append_assoc, append-nil}
use lib.ListN.{length}
use lib.IntN.{ℤ, pos, negsuc, ◌+ℤ◌}
use lib.Dec.{ltb, leb}
use Rattle.base_ceilings.specs.Ceilings.{fields_most}
use Rattle.base_codes.specs.Codes.{c_assert, c_assign, c_decrement, c_express, c_goto, c_increment, c_receive, c_run, c_send, c_set_run, c_target, c_text}
use Rattle.base_codes.specs.Items.{Item, i_assert, i_assign, i_break, i_decrement, i_else, i_end, i_express, i_goto, i_increment, i_name, i_receive, i_run, i_set_run, i_skip, i_target, i_timeout}
use Rattle.base_codes.specs.Items as items
use Rattle.base_bytes.specs.Choice.{pick, both}
use Rattle.base_bytes.specs.Numbers.{nat}
use Rattle.base_bytes.proofs.Tests.{both_true}
use Rattle.base_kinds.specs.Kinds.{bytes}
use Rattle.base_values.specs.Bits.{wrap32}
use Rattle.base_outcome.specs.declared.Taken.{Taken}
use Rattle.base_outcome.specs.declared.Taken.TheVariants.{Done, Refuted, Faulted, Idle}
use Rattle.base_values.specs.declared.Fault.{Fault}
use Rattle.spec_grammar.specs.Tree.{Name, Ref, Received, into, equal, exactly, exactly_true, exactly_false, action, Tree, leaf, express, assign, increment, decrement, send, receive, assert, print, skip, goto, break, timeout, else, run, set_run, select, loop, Model}
use Rattle.spec_rules.specs.Roles.{target}
use Rattle.legal_rules.specs.Expressions.{lawful, whole}
use Rattle.spec_rules.specs.Roles as uses
use Rattle.spec_rules.specs.Statements.{Place, sense}
use Rattle.legal_rules.specs.Statements.{runs, receives, allowed}
use Rattle.spec_rules.specs.Statements as rules
use Rattle.parse_code.specs.Code.{each, code_exp, code_argument, code_received, code_tree, code}
use Rattle.table_layout.specs.Access.{code_of, link_of}
use Rattle.read_passes.specs.Judging.{tables_text}
use Rattle.read_accepts_proof.specs.Meaning.{Accepts}
use Rattle.write_letters.specs.Tokens.{spelled}
use Rattle.step_eval.specs.Expressions.{locate_of}
use Rattle.step_ready.specs.Executing.{is_own_mark, mark_of, fits_of, message_of}
use Rattle.spec_machine.specs.Eval.{eval}
use Rattle.spec_machine.specs.Stage.{Stage, Ways}
use Rattle.spec_machine.specs.Arguments.{name_of, Aim, hit, miss, aim, Reach, channel, astray, reach, WorkedOut, all, stopped, values, finding, Aims, hits, missed, targets, agrees}
use Rattle.spec_machine.specs.Messages.{Finding, found, none, spoilt, put_at}
use Rattle.spec_machine.proofs.Messages.{found_first, put-length}
use Rattle.spec_machine.specs.Effect.{assigned_by, stepped_by, sent_by, received_by, ran_by, set_by, set_run_by, go_on, effect}
use Rattle.spec_machine.specs.Effect as effects
use Rattle.spec_machine.specs.State.{State}
use Rattle.spec_machine.specs.Names.{unit_at}
use Rattle.spec_machine.specs.Places.{start_of, Belongs}
use Rattle.agree_encode.specs.Settings.{setting_of}
use Rattle.spec_machine.specs.Plain.{plain_stage, cast_all, types_in, declared_by}
use Rattle.spec_machine.specs.Plain as plain
use Rattle.spec_machine.specs.Sizes as tree
use Rattle.spec_account.specs.Deeds.{Deed, stored, sent, started, assigned, stepped, sending, receiving, received_if, received_at, starting, setting, setting_at, delivered_all, deeds}
use Rattle.spec_account.specs.Steps.{deed_text, deeds_by, deeds_text}
use Rattle.agree_encode.specs.Encode.{encode}
use Rattle.agree_encode.specs.Tabled.{Tabled}
use Rattle.agree_encode.proofs.Numbers.{processes_are}
use Rattle.agree_stage.specs.Scenes.{size_in, locate}
use Rattle.agree_stage.specs.Tables.{stage_in}
use Rattle.agree_stage.proofs.Stands.{lying_back}
use Rattle.agree_eval.specs.Names.{decl_at}
use Rattle.agree_transfer.specs.Agrees.{Agrees}
use Rattle.agree_transfer.proofs.Transfer.{Made, target-named, reach-same}
use Rattle.agree_effects.specs.Stages as stages
use Rattle.agree_effects.specs.Walked.{Passed, Got}
use Rattle.agree_effects.proofs.Parts.{Here, first_code}
use Rattle.agree_effects.proofs.Phrases.{Refers, refers-target, refers_increment, refers_decrement}
use Rattle.agree_effects.proofs.Lists.{mark_code, behind_there}
use Rattle.agree_effects.proofs.Begins.{marks, alones, alone-mark, phrase_mark, name-mark, target_assign}
use Rattle.agree_effects.proofs.Shapes.{reference_there, sending as send-there, receiving as receive-there, printing, running, set_running}
use Rattle.agree_effects.proofs.Gathers.{count_is}
use Rattle.agree_effects.proofs.Receives.{Sure, aimed, got_count}
use Rattle.agree_effects.proofs.Channels.{record_of, message_is}
use Rattle.agree_tables.proofs.Agreed.{Kept}
use Rattle.show_deeds.specs.Deeds.{passed_in, started_in, stored_in, assigned_in, done_by, deeds_in}
use Rattle.show_deeds.specs.Deeds as shown
use Rattle.agree_deeds.proofs.Spelt.{spelled_there, reference_told, ToldOne, ToldAll, received-told}
use Rattle.agree_deeds.proofs.Texts.{none-text, one-text, set-text, received-text}
use Rattle.agree_deeds.proofs.Lines.{Reads, agreed, message-line, stored-line, channel-put}
use Rattle.agree_deeds.proofs.Targets.{SpeltOne, Spelt, targets-shown}

-- it was done
abbrev pub Finished : Taken → Type 0
Finished Done = Unit {0}
Finished Refuted = ⊥
Finished (Faulted f) = ⊥
Finished Idle = ⊥

module _ (t : List ℕ) (a : Accepts t) (k : ℕ) (X : Tabled (Belongs a.tree) a.tree k (setting_of a.tree k) (tables_text t) (decl_at t a (start_of a.tree k)) (stages.unit_at t a)) (p : ℕ) (rest : List ℤ)
    (σ τ : State) (Kσ : Kept (Belongs a.tree) a.tree k (setting_of a.tree k) (tables_text t) (decl_at t a (start_of a.tree k)) (stages.unit_at t a) X p rest σ (encode a.tree σ ++ rest))
    (Kτ : Kept (Belongs a.tree) a.tree k (setting_of a.tree k) (tables_text t) (decl_at t a (start_of a.tree k)) (stages.unit_at t a) X p rest τ (encode a.tree τ ++ rest)) where
  abbrev m : Model
  m = a.tree

  abbrev T : List ℕ
  T = tables_text t

  abbrev D : Name → ℕ
  D = decl_at t a (start_of m k)

  abbrev U : Name → ℕ
  U = stages.unit_at t a

  abbrev at : Place
  at = setting_of m k

  abbrev S : List ℤ
  S = encode m σ ++ rest

  abbrev S' : List ℤ
  S' = encode m τ ++ rest

  abbrev c : Stage State
  c = plain_stage m p (unit_at m k) σ

  abbrev d : Stage (List ℤ)
  d = stage_in T S p D U

  abbrev K : State → List ℤ → Type 0
  K = Kept (Belongs m) m k at T D U X p rest

  A : Agrees K (Belongs m k) at c σ d S
  A = agreed (Belongs m) m k at T D U X p rest σ Kσ

  abbrev Readable : Ref → ℕ → ℕ → Type 0
  Readable r j e = Reads (Belongs m) m k at T D U X p rest r j e

  abbrev text : List Deed → List ℕ
  text ds = deeds_text m p (unit_at m k) σ τ ds

  -- by the mark and its code
  deeds_by_lem : (j e z : ℕ) → mark_of T j ≡ e → code_of T e ≡ z → deeds_in T S S' p j ≡ done_by T S S' p z j e
  deeds_by_lem j e z mk cd = ap (λ i. done_by T S S' p (code_of T i) j i) mk ∙ ap (λ i. done_by T S S' p i j e) cd

  -- ---- references, where names mean what they do at the first statement of the body
  readable : (r : Ref) (x : Item) (z : List Item) (j : ℕ) → Refers x → Here t a (code_exp r ++ x ∷ z) j → decl_at t a j ≡ D → Readable r j (j + size_in r)
  readable r x z j b h same =
      let o = reference_there t a r x z j b h in
      let i = reference_told t a r x z j h in
      record { spelt = i.spelt; index = i.index; declared = o.declared ∙ ap (λ (f : Name → ℕ). f (name_of r)) same; located = λ s q. o.located s q ∙ ap (λ (f : Name → ℕ). locate T s q f r) same }

  module _ (r : Ref) (j e : ℕ) (o : Readable r j e) (law : lawful (sense at) target r ≡ true) where
    one_store : (n : ℕ) → aim c.scene r ≡ hit n → (v : ℤ) → stored_in T S S' p j e ≡ deed_text m p (unit_at m k) σ τ (stored r n v)
    one_store n h v = stored-line (Belongs m) m k at T D U X p rest σ τ Kσ Kτ r j e o target law (target-named K (Belongs m k) at c σ d S A r law) n h v

    assigned-shown : (x : Result ℤ Fault) (q : Aim) → aim c.scene r ≡ q → (n : ℕ) → Finished (assigned_by c n σ (name_of r) x q).0 → stored_in T S S' p j e ≡ text (assigned c r x q)
    assigned-shown (Ok v) (hit i) h n f = one_store i h v ∙ inv (one-text m p (unit_at m k) σ τ (stored r i v))
    assigned-shown (Err x) (hit i) h n f = absurd f
    assigned-shown x (miss y) h n f = absurd f

    stepped-shown : (z : ℤ) (q : Aim) → aim c.scene r ≡ q → (n : ℕ) → Finished (stepped_by c n σ (name_of r) z q).0 → stored_in T S S' p j e ≡ text (stepped c r z q)
    stepped-shown z (hit i) h n f = (let v = wrap32 (c.scene.element (name_of r) i +ℤ z) in one_store i h v ∙ inv (one-text m p (unit_at m k) σ τ (stored r i v)))
    stepped-shown z (miss y) h n f = absurd f

  -- ---- messages
  abbrev There : ℕ → Reach → Type 0
  There n q = Made K (Belongs m k) at c σ d S A n q

  reached : (r : Ref) (n j e : ℕ) → message_of T S p j e ≡ record_of (reach d r n) → lawful (sense at) uses.channel r ≡ true
      → (message_of T S p j e ≡ record_of (reach c r n)) × There n (reach c r n)
  reached r n j e h law = let z = reach-same K (Belongs m k) at c σ d S A r n law in (h ∙ ap record_of (inv z.0), z.1)

  -- message n of channel v waits in the state χ
  abbrev Waits : ℤ → ℕ → State → Type 0
  Waits v n χ = (both (ltb 0 (nat v)) (leb (nat v) (length χ.channels)) ≡ true) × (ltb n (length (plain.channel_at χ v).held) ≡ true)

  put-waits : (v : ℤ) (vs : List ℤ) (n : ℕ) → c.scene.made v ≡ true → Waits v (c.scene.waiting v) (c.go n (c.put v (c.scene.waiting v) vs σ))
  put-waits v vs n made =
      let H = (plain.channel_at σ v).held in
      let l = cast_all (types_in (declared_by m (plain.channel_at σ v))) vs in
      let z = channel-put σ v (put_at (length H) l H) made in
      (z.0, lt-ltb (length H) (length (plain.channel_at (plain.with_channel (nat v - 1) (put_at (length H) l H) σ) v).held) (omega (arith, ap length z.1, put-length (length H) l H)))

  sent-shown : (n i : ℕ) (w : WorkedOut) (q : Reach) → There i q → Finished (sent_by c n σ w q).0 → (sent_by c n σ w q).1 ≡ τ → shown.sent_by T S S' p (record_of q) ≡ text (sending c w q)
  sent-shown n i (all vs) (channel v) z f e =
      let b = subst (Waits v (c.scene.waiting v)) e (put-waits v vs n z.0) in
      ap (λ y. bytes "\tsent " ++ passed_in T S' (nat v - 1) y) (inv (A.waiting v z.0))
      ∙ ap (bytes "\tsent " ++◌) (message-line (Belongs m) m k at T D U X p rest τ Kτ v (c.scene.waiting v) b.0 b.1)
      ∙ inv (one-text m p (unit_at m k) σ τ (sent v (c.scene.waiting v) vs))
  sent-shown n i (stopped x) (channel v) z f e = absurd f
  sent-shown n i w (astray x) z f e = absurd f

  -- the oldest alone is tried
  found_oldest : (v : ℤ) (ys : List Received) (i : ℕ) → finding c v ys ≡ found i → (i ≡ 0) × (ltb i (c.scene.waiting v) ≡ true)
  found_oldest v ys i e = let b = (found_first (λ n. agrees c (c.message v n) 0 ys) (min 1 (c.scene.waiting v)) 0 i e).below in (omega arith, lt-ltb i (c.scene.waiting v) (omega arith))

  spelt_one : (x : Received) (b e : ℕ) → ToldOne t a x b e → SpeltOne (Belongs m) m k at T D U X p rest σ τ Kσ Kτ x b e
  spelt_one (into r) b e h = (h.spelt, h.index)
  spelt_one (equal x) b e h = tt
  spelt_one (exactly n) b e h = tt
  spelt_one exactly_true b e h = tt
  spelt_one exactly_false b e h = tt

  spelt_all : (ys : List Received) (b : ℕ) → ToldAll t a ys b → Spelt (Belongs m) m k at T D U X p rest σ τ Kσ Kτ ys b
  spelt_all [] b h = tt
  spelt_all (x ∷ ys) b h = (spelt_one x b (link_of T b) h.0, spelt_all ys (link_of T b + 1) h.1)

  module _ (ys : List Received) (e z : ℕ) (g : Got T D ys (e + 1) z) (s : ToldAll t a ys (e + 1)) (law : rules.all (receives at) ys ≡ true) (few : length ys ≤ fields_most) where
    received_found : (v : ℤ) (i n : ℕ) → c.scene.made v ≡ true → finding c v ys ≡ found i → (q : Aims) → targets c ys ≡ q → Finished (effects.received_at c n σ v i ys q).0
        → shown.received_by T S S' p e (Ok (nat v - 1)) ≡ text (received_at c v i ys q)
    received_found v i n made h (hits ks) w f =
        let o = found_oldest v ys i h in
        let line = ap (passed_in T S (nat v - 1)) (inv o.0) ∙ message-line (Belongs m) m k at T D U X p rest σ Kσ v i made o.1 in
        let sure : Sure (targets c ys) = subst Sure (inv w) tt in
        let stores = targets-shown (Belongs m) m k at T D U X p rest σ τ Kσ Kτ g (spelt_all ys (e + 1) s) law fields_most few (c.message v i) 0 sure in
        let more = stores ∙ ap (λ (y : Aims). deeds_by m p (unit_at m k) σ τ false (delivered_all c (c.message v i) 0 ys (aimed y))) w in
        ap₂ (λ (x y : List ℕ). bytes "\treceived " ++ (x ++ y)) line more
        ∙ inv (received-text m p (unit_at m k) σ τ c (c.message v i) v i ys ks)
    received_found v i n made h (missed x) w f = absurd f

    received-shown : (n : ℕ) (q : Reach) → There (length ys) q → Finished (received_by c n σ ys q).0 → shown.received_by T S S' p e (record_of q) ≡ text (receiving c ys q)
    received-shown n (channel v) b f = go (finding c v ys) refl f
      where
        go : (q : Finding) → finding c v ys ≡ q → Finished (effects.received_if c n σ v ys q).0 → shown.received_by T S S' p e (record_of (channel v)) ≡ text (received_if c v ys q)
        go (found i) h f = received_found v i n b.0 h (targets c ys) refl f
        go none h f = absurd f
        go (spoilt x) h f = absurd f
    received-shown n (astray x) b f = absurd f

  -- ---- processes
  -- room for it, and its line
  started-line : (w : Name) (e i : ℕ) → link_of T e ≡ U w → spelled T (e - 1) ≡ w → runs at w i ≡ true → (vs : List ℤ) → c.room w ≡ true → started_in T S e ≡ deed_text m p (unit_at m k) σ τ (started w vs)
  started-line w e i h n law vs room =
      let y : fits_of T S (link_of T e) ≡ true = ap (fits_of T S) h ∙ inv (A.room w i law) ∙ room in
      rw (y, n, processes_are m rest σ Kσ.fits.processes)

  no_line : (w : Name) (e i : ℕ) → link_of T e ≡ U w → runs at w i ≡ true → c.room w ≡ false → started_in T S e ≡ []
  no_line w e i h law room = let y : fits_of T S (link_of T e) ≡ false = ap (fits_of T S) h ∙ inv (A.room w i law) ∙ room in rw y

  ran-shown : (w : Name) (e i : ℕ) → link_of T e ≡ U w → spelled T (e - 1) ≡ w → runs at w i ≡ true → (n : ℕ) (vs : WorkedOut) (b : Bool) → c.room w ≡ b
      → Finished (pick b (ran_by c n σ w vs) (Idle, σ)).0 → started_in T S e ≡ text (pick b (starting c w vs) [])
  ran-shown w e i h s law n (all vs) true room f = started-line w e i h s law vs room ∙ inv (one-text m p (unit_at m k) σ τ (started w vs))
  ran-shown w e i h s law n (stopped x) true room f = absurd f
  ran-shown w e i h s law n vs false room f = absurd f

  module _ (r : Ref) (j e : ℕ) (o : Readable r j e) (law : lawful (sense at) target r ≡ true) (w : Name) (y i : ℕ) (h : link_of T y ≡ U w) (s : spelled T (y - 1) ≡ w) (takes : runs at w i ≡ true) where
    set-shown : (n x : ℕ) → aim c.scene r ≡ hit x → (vs : WorkedOut) (b : Bool) → c.room w ≡ b
        → Finished (pick b (set_by c n σ (name_of r) x w vs) (go_on c n (c.store (name_of r) x (pos 0) σ))).0
        → stored_in T S S' p j e ++ started_in T S y ≡ text (pick b (setting c r x w vs) (stored r x (pos 0) ∷ []))
    set-shown n x q (all vs) true room f =
        ap₂ ◌++◌ (one_store r j e o law x q c.newest) (started-line w y i h s takes vs room) ∙ inv (set-text m p (unit_at m k) σ τ w vs r x c.newest)
    set-shown n x q (stopped z) true room f = absurd f
    set-shown n x q vs false room f =
        ap₂ ◌++◌ (one_store r j e o law x q (pos 0)) (no_line w y i h takes room) ∙ append-nil (deed_text m p (unit_at m k) σ τ (stored r x (pos 0))) ∙ inv (one-text m p (unit_at m k) σ τ (stored r x (pos 0)))

    set_ran_shown : (n : ℕ) (vs : WorkedOut) (q : Aim) → aim c.scene r ≡ q → Finished (set_run_by c n σ (name_of r) w vs q).0
        → stored_in T S S' p j e ++ started_in T S y ≡ text (setting_at c r w vs q)
    set_ran_shown n vs (hit x) q f = set-shown n x q vs (c.room w) refl f
    set_ran_shown n vs (miss z) q f = absurd f

  -- ---- ONE STATEMENT
  nothing-shown : (j e z : ℕ) → mark_of T j ≡ e → code_of T e ≡ z → done_by T S S' p z j e ≡ [] → deeds_in T S S' p j ≡ text []
  nothing-shown j e z mk cd h = deeds_by_lem j e z mk cd ∙ h ∙ inv (none-text m p (unit_at m k) σ τ)

  alone-shown : (x : Item) (l : List Item) (j : ℕ) → Here t a (x ∷ l) j → is_own_mark (items.code_of x) ≡ true → done_by T S S' p (items.code_of x) j j ≡ [] → deeds_in T S S' p j ≡ text []
  alone-shown x l j h o n = nothing-shown j j (items.code_of x) (alone-mark t a x l j h o) (first_code t a x l j h) n

  -- an assignment's mark is a target, which links to what stands behind the right side
  assign_only : (j e z : ℕ) → link_of T e ≡ z → code_of T z ≡ c_assign → assigned_in T S S' p j e ≡ stored_in T S S' p j e
  assign_only j e z l h = rw (l, h) (append-nil (stored_in T S S' p j e))

  assign_run : (j e z : ℕ) → link_of T e ≡ z → code_of T z ≡ c_set_run → assigned_in T S S' p j e ≡ stored_in T S S' p j e ++ started_in T S z
  assign_run j e z l h = rw (l, h)

  pub statement_shown : (x : Tree action) (j : ℕ) → Here t a (code_tree x) j → decl_at t a j ≡ decl_at t a (start_of a.tree k) → (loops first : Bool) → allowed (setting_of a.tree k) loops first x ≡ true → (h : Ways)
      → Finished (effect (plain_stage a.tree p (unit_at a.tree k) σ) h σ x).0 → (effect (plain_stage a.tree p (unit_at a.tree k) σ) h σ x).1 ≡ τ
      → deeds_in (tables_text t) (encode a.tree σ ++ rest) (encode a.tree τ ++ rest) p j ≡ deeds_text a.tree p (unit_at a.tree k) σ τ (deeds (plain_stage a.tree p (unit_at a.tree k) σ) x)
  unfolding effect deeds allowed done_by
  statement_shown (leaf (express e)) j f same lo fi law h done left =
      nothing-shown j (j + size_in e) c_express (phrase_mark t a e i_express [] j f marks.0) (mark_code t a e i_express [] j f) refl
  statement_shown (leaf (assign r e)) j f same lo fi law h done left =
      let R = code_exp r in
      let E = code_exp e in
      let i = j + size_in r in
      let y = E ++ i_assign ∷ [] in
      let g = subst (λ l. Here t a l j) (append_assoc R (i_target ∷ E) (i_assign ∷ [])) f in
      let o = reference_there t a r i_target y j refers-target g in
      let b = both_true (lawful (sense at) target r) (whole (sense at) e) law in
      deeds_by_lem j i c_target o.mark o.coded
      ∙ assign_only j i (i + 1 + size_in e) (target_assign t a e i (lying_back (code m) R (i_target ∷ y) 0 j i refl g)) (mark_code t a e i_assign [] (i + 1) (behind_there t a r i_target y j g))
      ∙ assigned-shown r j i (readable r i_target y j refers-target g same) b.0 (eval c.scene e) (aim c.scene r) refl h.next done
  statement_shown (leaf (increment r)) j f same lo fi law h done left =
      let o = reference_there t a r i_increment [] j refers_increment f in
      deeds_by_lem j (j + size_in r) c_increment o.mark o.coded
      ∙ stepped-shown r j (j + size_in r) (readable r i_increment [] j refers_increment f same) law (pos 1) (aim c.scene r) refl h.next done
  statement_shown (leaf (decrement r)) j f same lo fi law h done left =
      let o = reference_there t a r i_decrement [] j refers_decrement f in
      deeds_by_lem j (j + size_in r) c_decrement o.mark o.coded
      ∙ stepped-shown r j (j + size_in r) (readable r i_decrement [] j refers_decrement f same) law (negsuc 0) (aim c.scene r) refl h.next done
  statement_shown (leaf (send mk r es)) j f same lo fi law h done left =
      let g = send-there t a mk r es j f in
      let i = j + size_in r in
      let b = both_true (lawful (sense at) uses.channel r) (both (leb (length es) 4) (rules.all (whole (sense at)) es)) law in
      let l : (s : List ℤ) (q : ℕ) → locate_of T s q j i ≡ locate T s q D r = λ s q. g.0.located s q ∙ ap (λ (n : Name → ℕ). locate T s q n r) same in
      let w = reached r (length es) j i (message_is T D S p U r j i (length es) (l S p) (count_is T D (subst (λ (n : Name → ℕ). Passed T n es (i + 1) (j + tree.size_in (leaf (send mk r es)) - 1)) same g.1) (fields_most + 1))) b.0 in
      deeds_by_lem j i c_send g.0.mark g.0.coded ∙ ap (shown.sent_by T S S' p) w.0
      ∙ sent-shown h.next (length es) (values c.scene es) (reach c r (length es)) w.1 done left
  statement_shown (leaf (receive mk r ys)) j f same lo fi law h done left =
      let g = receive-there t a mk r ys j f in
      let i = j + size_in r in
      let R = code_exp r in
      let E = each code_received ys in
      let b = both_true (lawful (sense at) uses.channel r) (both (leb (length ys) 4) (rules.all (receives at) ys)) law in
      let y = both_true (leb (length ys) 4) (rules.all (receives at) ys) b.1 in
      let l : (s : List ℤ) (q : ℕ) → locate_of T s q j i ≡ locate T s q D r = λ s q. g.0.located s q ∙ ap (λ (n : Name → ℕ). locate T s q n r) same in
      let got = subst (λ (n : Name → ℕ). Got T n ys (i + 1) (j + tree.size_in (leaf (receive mk r ys)) - 1)) same g.1 in
      let told = received-told t a ys (i + 1) (behind_there t a r (i_receive mk) (E ++ i_end ∷ []) j (subst (λ l. Here t a l j) (append_assoc R (i_receive mk ∷ E) (i_end ∷ [])) f)) in
      let w = reached r (length ys) j i (message_is T D S p U r j i (length ys) (l S p) (got_count T D got (fields_most + 1))) b.0 in
      deeds_by_lem j i c_receive g.0.mark g.0.coded ∙ ap (shown.received_by T S S' p i) w.0
      ∙ received-shown ys i (j + tree.size_in (leaf (receive mk r ys)) - 1) got told y.1 (leb-true (length ys) 4 y.0) h.next (reach c r (length ys)) w.1 done
  statement_shown (leaf (assert e)) j f same lo fi law h done left =
      nothing-shown j (j + size_in e) c_assert (phrase_mark t a e i_assert [] j f marks.1) (mark_code t a e i_assert [] j f) refl
  statement_shown (leaf (print w es)) j f same lo fi law h done left = let g = printing t a w es j f in nothing-shown j j c_text g.mark g.coded refl
  statement_shown (leaf skip) j f same lo fi law h done left = alone-shown i_skip [] j f alones.0 refl
  statement_shown (leaf (goto w)) j f same lo fi law h done left =
      nothing-shown j (j + 1) c_goto (name-mark t a w i_goto [] j f marks.2) (first_code t a i_goto [] (j + 1) (lying_back (code m) (i_name w ∷ []) (i_goto ∷ []) 0 j (j + 1) refl f)) refl
  statement_shown (leaf break) j f same lo fi law h done left = alone-shown i_break [] j f alones.1 refl
  statement_shown (leaf timeout) j f same lo fi law h done left = alone-shown i_timeout [] j f alones.2 refl
  statement_shown (leaf else) j f same lo fi law h done left = alone-shown i_else [] j f alones.3 refl
  statement_shown (leaf (run w es)) j f same lo fi law h done left =
      let g = running t a w es j f in
      let b = both_true (runs at w (length es)) (rules.all (whole (sense at)) es) law in
      let e : j + 1 - 1 ≡ j = omega arith in
      deeds_by_lem j (j + 1) c_run g.0 g.1.coded
      ∙ ran-shown w (j + 1) (length es) g.1.begun (ap (spelled T) e ∙ spelled_there t a w (i_run ∷ (each code_argument es ++ i_end ∷ [])) j f) b.0 h.next (values c.scene es) (c.room w) refl done
  statement_shown (leaf (set_run r w es)) j f same lo fi law h done left =
      let g = set_running t a r w es j f in
      let R = code_exp r in
      let Y = each code_argument es ++ i_end ∷ [] in
      let i = j + size_in r in
      let q = subst (λ l. Here t a l j) (append_assoc R (i_target ∷ i_name w ∷ i_set_run ∷ each code_argument es) (i_end ∷ [])) f in
      let n = lying_back (code m) (i_target ∷ []) (i_name w ∷ i_set_run ∷ Y) 0 i (i + 1) refl (lying_back (code m) R (i_target ∷ i_name w ∷ i_set_run ∷ Y) 0 j i refl q) in
      let e : i + 2 - 1 ≡ i + 1 = omega arith in
      let b = both_true (lawful (sense at) target r) (both (runs at w (length es)) (rules.all (whole (sense at)) es)) law in
      let l = both_true (runs at w (length es)) (rules.all (whole (sense at)) es) b.1 in
      deeds_by_lem j i c_target g.0.mark g.0.coded ∙ assign_run j i (i + 2) g.1 g.2.coded
      ∙ set_ran_shown r j i (readable r i_target (i_name w ∷ i_set_run ∷ Y) j refers-target q same) b.0 w (i + 2) (length es) g.2.begun (ap (spelled T) e ∙ spelled_there t a w (i_set_run ∷ Y) (i + 1) n) l.0
      h.next (values c.scene es) (aim c.scene r) refl done
  statement_shown (select os) j f same lo fi law h done left = absurd done
  statement_shown (loop os) j f same lo fi law h done left = absurd done

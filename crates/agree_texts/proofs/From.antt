-- THE WALK FROM A PLACE ON: where the codes before the place of a statement are blank, what the writer makes of the items of a tree, a unit or a model is its tokens from that statement on.
use Prim.Native.Nat.{ℕ, zero, suc, ◌+◌, ◌-◌, ◌≤◌}
use native.Mathlib.Omega.{arith}
use native.Mathlib.Numerals.{add-one}
use mathlib.Core.Path.{◌≡◌, refl, sym as inv, ◌∙◌, ap, subst}
use mathlib.Core.Bool.{Bool, true}
use mathlib.Core.List.{List, [], ◌∷◌, ◌++◌, append_assoc}
use lib.ListN.{length, drop, length-append}
use Rattle.base_codes.specs.Codes.{c_end_body, c_end_option, c_fi, c_od}
use Rattle.base_codes.specs.Items.{Item, i_end_body, i_end_option, i_fi, i_local, i_od}
use Rattle.base_kinds.specs.Kinds.{Token}
use Rattle.spec_grammar.specs.Marks.{'semi, 'fi, 'od, 'rbrace}
use Rattle.spec_grammar.specs.Tree.{Sort, action, statement, sequence, options, Tree, Body, body, Part, mtypes, global, process, init, Model}
use Rattle.spec_grammar.specs.Print.{before, print_tree, print_model}
use Rattle.parse_code.specs.Code.{each, code_tree, code_declaration, code_group, code_body, code_activity, code_part, code}
use Rattle.spec_machine.specs.Sizes.{size_in, size_part}
use Rattle.spec_machine.specs.Program.{Within, itself, in_if, in_do, unlabelled, behind_label, in_first, in_rest, in_option, in_others, start_in, sequence_of}
use Rattle.spec_machine.specs.Names.{unit_at}
use Rattle.spec_machine.specs.Begins.{items_before, body_in, body_of}
use Rattle.spec_machine.specs.Places.{Bodied}
use Rattle.agree_sizes.proofs.Sizes.{size_tree, size-declarations, size_activity_lem, size_groups, size-part}
use Rattle.agree_transfer.proofs.Statements.{within_range}
use Rattle.write_reprint_proof.specs.Here.{flagged, Here}
use Rattle.write_reprint_proof.proofs.Walk.{W, emit, go, here-front, here_back}
use Rattle.write_reprint_proof.proofs.Lists.{sep}
use Rattle.write_reprint_proof.proofs.Statements.{body_of_lem, any, begin, fi_rows, od_rows, end_option_row, before-sep, walk_tree}
use Rattle.write_reprint_proof.proofs.Models.{end_body_row, walk-model}
use Rattle.spec_account.specs.Statements.{from_in}
use Rattle.spec_account.proofs.Statements.{from_itself, from_if, from_do, from_first, from-rest, from_option, from-others}
use Rattle.agree_texts.proofs.Blank.{Blank, silent, blank-walk, here-alike}

module _ (h : ℕ → Token) (ms bs : List ℕ) where
  -- items from the place on stand in the blanked codes too
  on : (j : ℕ) → Blank ms bs j → (l : List Item) (b : Bool) (i : ℕ) → j ≤ i → Here h ms b i l → Here h bs b i l
  on j y l b i e p = here-alike h ms bs j (i + length l) (λ k a c. y.above k a) l b i e (omega arith) p

  abbrev Wrote : (k : Sort) → Tree k → ℕ → ℕ → ℕ → Type 0
  Wrote action t i j e = (f : Bool) (st : List ℕ) (out : List Token) → silent st ≡ true → W h bs e (body_of_lem f ∷ st) out ≡ from_in t i j ++ (sep f 'semi ++ out)
  Wrote statement t i j e = (f : Bool) (st : List ℕ) (out : List Token) → silent st ≡ true → W h bs e (body_of_lem f ∷ st) out ≡ from_in t i j ++ (sep f 'semi ++ out)
  Wrote sequence t i j e = (st : List ℕ) (out : List Token) → silent st ≡ true → W h bs e (130 ∷ st) out ≡ from_in t i j ++ out
  Wrote options t i j e = (st : List ℕ) (out : List Token) → silent st ≡ true → W h bs e (138 ∷ st) out ≡ from_in t i j ++ out

  pub walk_from : {k : Sort} {t : Tree k} {i n o : ℕ} {a : Tree action} {j m u : ℕ} → Within k t i n o a j m u → Blank ms bs j → (b : Bool) (e : ℕ) → e ≡ i + length (code_tree t) → Here h ms b i (code_tree t) → Wrote k t i j e
  unfolding from_in
  walk_from (itself {a = a} {i = i}) y b e q p = λ f st out s.
      walk_tree h bs a b i e q (on i y (code_tree a) b i (omega arith) p) f st out ∙ blank-walk h ms bs i y i (131 ∷ st) _ (omega arith) s ∙ ap (◌++ (sep f 'semi ++ out)) (inv (from_itself a i))
  walk_from {i = i} {j = j} (in_if {os = os} w) y b e q p = λ f st out s.
      let r = within_range w in
      let r0 = r.0 in
      let r1 = r.1 in
      let z = size_tree os in
      let k = suc i + length (code_tree os) in
      let l : length (code_tree os ++ i_fi ∷ []) ≡ length (code_tree os) + 1 = length-append (code_tree os) (i_fi ∷ []) in
      let last = here_back h ms (code_tree os) (i_fi ∷ []) b (suc i) k refl p.3 in
      let inner = subst (λ x. Here h ms b x (code_tree os)) (inv (add-one i)) (here-front h ms (code_tree os) (i_fi ∷ []) b (suc i) p.3) in
      begin h bs f e k c_fi st (53 ∷ 138 ∷ 131 ∷ st) out (omega arith) (y.above k (omega arith) ∙ last.0) (fi_rows k st) ∙ emit h bs 53 refl _ _ _
      ∙ walk_from w y b k (omega arith) inner (131 ∷ st) ('fi ∷ (sep f 'semi ++ out)) s
      ∙ inv (append_assoc (from_in os (i + 1) j) ('fi ∷ []) (sep f 'semi ++ out)) ∙ ap (◌++ (sep f 'semi ++ out)) (inv (from_if i j os r0))
  walk_from {i = i} {j = j} (in_do {os = os} w) y b e q p = λ f st out s.
      let r = within_range w in
      let r0 = r.0 in
      let r1 = r.1 in
      let z = size_tree os in
      let k = suc i + length (code_tree os) in
      let l : length (code_tree os ++ i_od ∷ []) ≡ length (code_tree os) + 1 = length-append (code_tree os) (i_od ∷ []) in
      let last = here_back h ms (code_tree os) (i_od ∷ []) b (suc i) k refl p.3 in
      let inner = subst (λ x. Here h ms b x (code_tree os)) (inv (add-one i)) (here-front h ms (code_tree os) (i_od ∷ []) b (suc i) p.3) in
      begin h bs f e k c_od st (58 ∷ 138 ∷ 131 ∷ st) out (omega arith) (y.above k (omega arith) ∙ last.0) (od_rows k st) ∙ emit h bs 58 refl _ _ _
      ∙ walk_from w y b k (omega arith) inner (131 ∷ st) ('od ∷ (sep f 'semi ++ out)) s
      ∙ inv (append_assoc (from_in os (i + 1) j) ('od ∷ []) (sep f 'semi ++ out)) ∙ ap (◌++ (sep f 'semi ++ out)) (inv (from_do i j os r0))
  walk_from (unlabelled w) y b e q p = λ f st out s. walk_from w y b e q p f st out s
  walk_from {i = i} (behind_label {b = c} w) y b e q p = λ f st out s.
      walk_from w y b e (omega arith) (subst (λ x. Here h ms b x (code_tree c)) (let z : suc (suc i) ≡ i + 2 = omega arith in z) p.3.3) f st out s
  walk_from {i = i} {j = j} (in_first {s = v} {q = c} w) y b e q p = λ st out s.
      let r1 = (within_range w).1 in
      let z = size_tree v in
      let k = i + length (code_tree v) in
      let l : length (code_tree v ++ code_tree c) ≡ length (code_tree v) + length (code_tree c) = length-append (code_tree v) (code_tree c) in
      walk_tree h bs c (flagged b (code_tree v)) k e (omega arith) (on j y (code_tree c) _ k (omega arith) (here_back h ms (code_tree v) (code_tree c) b i k refl p)) st out
      ∙ walk_from w y b k refl (here-front h ms (code_tree v) (code_tree c) b i p) (any c) st (print_tree c ++ out) s
      ∙ ap (from_in v i j ++◌) (inv (append_assoc (sep (any c) 'semi) (print_tree c) out) ∙ ap (◌++ out) (before-sep c (print_tree c)))
      ∙ inv (append_assoc (from_in v i j) (before c (print_tree c)) out) ∙ ap (◌++ out) (inv (from_first i j v c r1))
  walk_from {i = i} {j = j} (in_rest {s = v} {q = c} w) y b e q p = λ st out s.
      let z = size_tree v in
      let l : length (code_tree v ++ code_tree c) ≡ length (code_tree v) + length (code_tree c) = length-append (code_tree v) (code_tree c) in
      walk_from w y (flagged b (code_tree v)) e (omega arith) (here_back h ms (code_tree v) (code_tree c) b i (i + size_in v) (omega arith) p) st out s ∙ ap (◌++ out) (inv (from-rest i j v c (within_range w).0))
  walk_from {i = i} {j = j} (in_option {q = c} {os = os} w) y b e q p = λ st out s.
      let r0 = (within_range w).0 in
      let r1 = (within_range w).1 in
      let z = size_tree c in
      let C = code_tree c in
      let O = code_tree os in
      let k = suc i + length C in
      let l : length (C ++ i_end_option ∷ O) ≡ length C + suc (length O) = length-append C (i_end_option ∷ O) in
      let x = here_back h ms C (i_end_option ∷ O) b (suc i) k refl p.3 in
      let inner = subst (λ x. Here h ms b x C) (inv (add-one i)) (here-front h ms C (i_end_option ∷ O) b (suc i) p.3) in
      walk_tree h bs os (flagged b C) (suc k) e (omega arith) (on j y O _ (suc k) (omega arith) x.3) st out
      ∙ go h bs (suc k) k 138 c_end_option st (130 ∷ 138 ∷ st) _ refl refl (y.above k (omega arith) ∙ x.0) (end_option_row k st)
      ∙ walk_from w y b k (omega arith) inner (138 ∷ st) (print_tree os ++ out) s
      ∙ inv (append_assoc (from_in c (i + 1) j) (print_tree os) out) ∙ ap (◌++ out) (inv (from_option i j c os r1))
  walk_from {i = i} {j = j} (in_others {q = c} {os = os} w) y b e q p = λ st out s.
      let z = size_tree c in
      let C = code_tree c in
      let O = code_tree os in
      let k = suc i + length C in
      let l : length (C ++ i_end_option ∷ O) ≡ length C + suc (length O) = length-append C (i_end_option ∷ O) in
      let x = here_back h ms C (i_end_option ∷ O) b (suc i) k refl p.3 in
      walk_from w y (flagged b C) e (omega arith) (subst (λ x. Here h ms (flagged b C) x O) (let z : suc k ≡ i + 2 + size_in c = omega arith in z) x.3) st out s ∙ ap (◌++ out) (inv (from-others i j c os (within_range w).0))

  -- ---- a body, a unit, a model
  walk_body_from : (c : Body) {s n o : ℕ} {a : Tree action} {j m u : ℕ} (k e : ℕ) → s ≡ start_in c k → Within sequence (sequence_of c) s n o a j m u → Blank ms bs j → (b : Bool) → e ≡ k + length (code_body c) → Here h ms b k (code_body c)
      → (st : List ℕ) (out : List Token) → silent st ≡ true → W h bs e (143 ∷ st) out ≡ from_in (sequence_of c) s j ++ 'rbrace ∷ out
  walk_body_from (body ds c) {s} {j = j} k e g w y b q p st out i =
      let D = each (code_declaration i_local) ds in
      let C = code_tree c in
      let z = size-declarations ds in
      let z2 = size_tree c in
      let x = suc k + length D + length C in
      let r0 = (within_range w).0 in
      let r1 = (within_range w).1 in
      let l : length (D ++ C ++ i_end_body ∷ []) ≡ length (D ++ C) + 1 = length-append (D ++ C) (i_end_body ∷ []) in
      let l2 : length (D ++ C) ≡ length D + length C = length-append D C in
      let dc = here-front h ms (D ++ C) (i_end_body ∷ []) b (suc k) p.3 in
      let last = here_back h ms (D ++ C) (i_end_body ∷ []) b (suc k) x (omega arith) p.3 in
      go h bs e x 143 c_end_body st (26 ∷ 130 ∷ 139 ∷ 143 ∷ st) out (omega arith) refl (y.above x (omega arith) ∙ last.0) (end_body_row x st) ∙ emit h bs 26 refl _ _ _
      ∙ walk_from w y (flagged b D) x (omega arith) (here_back h ms D C b (suc k) s (omega arith) dc) (139 ∷ 143 ∷ st) ('rbrace ∷ out) i

  walk_part_from : (v : Part) → Bodied v → {s n o : ℕ} {a : Tree action} {j m u : ℕ} (i e : ℕ) → s ≡ start_in (body_of v) (body_in v i) → Within sequence (sequence_of (body_of v)) s n o a j m u → Blank ms bs j → (b : Bool) → e ≡ i + length (code_part v)
      → Here h ms b i (code_part v) → (st : List ℕ) (out : List Token) → silent st ≡ true → W h bs e (143 ∷ st) out ≡ from_in (sequence_of (body_of v)) s j ++ 'rbrace ∷ out
  walk_part_from (mtypes ws) f i e g w y b q p st out x = absurd f
  walk_part_from (global d) f i e g w y b q p st out x = absurd f
  walk_part_from (process a v gs c) f i e g w y b q p st out x =
      let A = code_activity a v in
      let G = each code_group gs in
      let l = length-append (A ++ G) (code_body c) in
      let l2 = length-append A G in
      let z = size_activity_lem a v in
      let z2 = size_groups gs in
      walk_body_from c (body_in (process a v gs c) i) e g w y (flagged b (A ++ G)) (omega arith) (here_back h ms (A ++ G) (code_body c) b i (body_in (process a v gs c) i) (omega arith) p) st out x
  walk_part_from (init c) f i e g w y b q p st out x =
      walk_body_from c (i + 1) e g w y b (omega arith) (subst (λ k. Here h ms b k (code_body c)) (inv (add-one i)) p.3) st out x

  pub walk_model_from : (v : Model) (k : ℕ) → Bodied (unit_at v k) → {s n o : ℕ} {a : Tree action} {j m u : ℕ} (i e : ℕ) → s ≡ start_in (body_of (unit_at v k)) (body_in (unit_at v k) (i + items_before v k))
      → Within sequence (sequence_of (body_of (unit_at v k))) s n o a j m u → Blank ms bs j → (b : Bool) → e ≡ i + length (code v) → Here h ms b i (code v) → (st : List ℕ) (out : List Token) → silent st ≡ true
      → W h bs e (143 ∷ st) out ≡ from_in (sequence_of (body_of (unit_at v k))) s j ++ 'rbrace ∷ (print_model (drop (suc k) v) ++ out)
  unfolding items_before
  walk_model_from [] k f i e g w y b q p st out x = absurd f
  walk_model_from (v ∷ vs) zero f {s} {j = j} i e g w y b q p st out x =
      let P = code_part v in
      let l : length (P ++ code vs) ≡ length P + length (code vs) = length-append P (code vs) in
      let d = i + length P in
      walk-model h bs vs (flagged b P) d e (omega arith) (on j y (code vs) _ d (behind v i s j f g w) (here_back h ms P (code vs) b i d refl p)) st out
      ∙ walk_part_from v f i d (g ∙ ap (λ n. start_in (body_of v) (body_in v n)) (let z : i + 0 ≡ i = omega arith in z)) w y b refl (here-front h ms P (code vs) b i p) st (print_model vs ++ out) x
    where
      inside : (c : Body) {s n o : ℕ} {a : Tree action} {j m u : ℕ} (k : ℕ) → s ≡ start_in c k → Within sequence (sequence_of c) s n o a j m u → j ≤ k + length (code_body c)
      inside (body ds c) k g w =
          let r1 = (within_range w).1 in
          let z = size-declarations ds in
          let z2 = size_tree c in
          let l = length-append (each (code_declaration i_local) ds ++ code_tree c) (i_end_body ∷ []) in
          let l2 = length-append (each (code_declaration i_local) ds) (code_tree c) in
          omega arith

      behind : (v : Part) (i s j : ℕ) → Bodied v → s ≡ start_in (body_of v) (body_in v (i + 0)) → {n o : ℕ} {a : Tree action} {m u : ℕ} → Within sequence (sequence_of (body_of v)) s n o a j m u → j ≤ i + length (code_part v)
      behind (mtypes ws) i s j f g w = absurd f
      behind (global d) i s j f g w = absurd f
      behind (process a v gs c) i s j f g w =
          let q = inside c (body_in (process a v gs c) (i + 0)) g w in
          let l = length-append (code_activity a v ++ each code_group gs) (code_body c) in
          let l2 = length-append (code_activity a v) (each code_group gs) in
          let z = size_activity_lem a v in
          let z2 = size_groups gs in
          omega arith
      behind (init c) i s j f g w = let q = inside c (i + 0 + 1) g w in omega arith
  walk_model_from (v ∷ vs) (suc k) f i e g w y b q p st out x =
      let P = code_part v in
      let l : length (P ++ code vs) ≡ length P + length (code vs) = length-append P (code vs) in
      let z = size-part v in
      let d = i + size_part v in
      walk_model_from vs k f d e (g ∙ ap (λ n. start_in (body_of (unit_at vs k)) (body_in (unit_at vs k) n)) (let z : i + (size_part v + items_before vs k) ≡ d + items_before vs k = omega arith in z)) w y (flagged b P) (omega arith)
      (here_back h ms P (code vs) b i d (omega arith) p) st out x

-- The mtype name that is the value of a declaration has, by the tables, the number that the tree gives it, wherever the declaration stands: no local of its body that is declared before hides it.
use Prim.Native.Nat.{ℕ, suc, ◌+◌, ◌-◌, ◌≤◌, ◌<◌}
use native.Mathlib.Omega.{arith}
use native.Mathlib.Decide.{ℕ_discrete}
use mathlib.Core.Path.{◌≡◌, refl, sym as inv, ap, ◌∙◌}
use mathlib.Core.Bool.{Bool, true, false}
use mathlib.Core.Option.{Option, none, some}
use mathlib.Core.Logic.{◌⊎◌, inl, inr}
use mathlib.Core.List.{List, []}
use lib.ListN.{length, get_or}
use lib.Dec.{ltb}
use borrow.Author.Tests.{eqb-true}
use Rattle.base_codes.specs.Codes.{c_declared, c_message, c_name, c_named, c_parameter}
use Rattle.base_bytes.specs.Choice.{pick}
use Rattle.base_bytes.specs.Lists.{same}
use Rattle.base_bytes.proofs.Tests.{true_false}
use Rattle.base_bytes.proofs.Lists.{same_eq}
use Rattle.spec_text.specs.Names.{pid}
use Rattle.rule_search.specs.Sets.{among}
use Rattle.rule_search.specs.Search.{find, lookup}
use Rattle.spec_grammar.specs.Tree.{Name, Model}
use Rattle.base_codes.specs.Items.{i_name}
use Rattle.parse_code.specs.Code.{code}
use Rattle.read_passes.specs.Judging.{tables_text}
use Rattle.read_accepts_proof.specs.Meaning.{Accepts}
use Rattle.table_layout.specs.Access.{link_of}
use Rattle.spec_rules.specs.Units.{of_model}
use Rattle.legal_rules.specs.Units.{model_lawful}
use Rattle.legal_terms.specs.Says.{item_at, Says}
use Rattle.agree_eval.specs.Names.{codes_at, said_at, homes_at}
use Rattle.agree_eval.proofs.Lookups.{lookup_most}
use Rattle.legal_declarations.proofs.Standing.{long, code_is}
use Rattle.legal_declarations.proofs.Scopes.{lookup-pid}
use Rattle.legal_declarations.proofs.Judging.{named-sound}
use Rattle.legal_declarations.proofs.Bodies.{home_in}
use Rattle.spec_machine.specs.Names.{variables_of, globals_of, messages_of, unit_at, variable_from, message_from, number_of}
use Rattle.spec_machine.specs.Names as names
use Rattle.spec_machine.specs.Places.{Bodied, body_at, start_of, end_of}
use Rattle.agree_encode.specs.Encode.{head_of}
use Rattle.agree_names.specs.Entries.{What, slot, number, proctype, what_in, slots, entries_of}
use Rattle.agree_names.proofs.Scopes.{Scoped, Found, find-further}
use Rattle.agree_names.proofs.Units.{model-entries}
use Rattle.agree_names.proofs.Meanings.{Variables, variables-mean, Globals, globals_mean}
use Rattle.agree_names.proofs.Links.{value_link, number_link}
use Rattle.agree_names.proofs.Main.{S, H, K, few, parts, unit, frame}

message-only : (c : ℕ) → c ≡ c_message → among 13 c ≡ false
unfolding among
message-only c e = rw e

module _ (t : List ℕ) (a : Accepts t) (legal : model_lawful a.tree ≡ true) where
  abbrev m : Model
  m = a.tree

  abbrev T : List ℕ
  T = tables_text t

  abbrev C : List ℕ
  C = codes_at t a

  abbrev W : List ℕ
  W = said_at t a

  abbrev hs : List ℕ
  hs = homes_at t a

  abbrev says : Says m C W
  says = S t a legal

  -- a name w, which is item j, and `named` (216) behind it, in body h
  module _ (j : ℕ) (w : Name) (b : suc j < length C) (q : item_at (code m) j ≡ i_name w) (c : get_or C (suc j) 0 ≡ c_named) where
    abbrev v : ℕ
    v = get_or W j 0

    -- by its number in the tree
    abbrev is : ℕ
    is = number_of (message_from 1 (messages_of m) w)

    name-here : get_or C j 0 ≡ c_name
    name-here = code_is m C W says j (i_name w) (let z = long m C W says in omega arith) q

    message_there : (h : ℕ) → get_or hs (suc j) 0 ≡ h → get_or C (lookup C W hs v h j) 0 ≡ c_message
    message_there h e =
        eqb-true (get_or C (lookup C W hs v h j) 0) c_message
        (named-sound m C W says j h c e ((K t a legal).ruled (suc j) (omega arith)))

    -- it is declared before
    before : (h : ℕ) → get_or hs (suc j) 0 ≡ h → lookup C W hs v h j < j
    before h e = go (ℕ_discrete (lookup C W hs v h j) j)
      where
        go : Dec (lookup C W hs v h j ≡ j) → lookup C W hs v h j < j
        go (yes z) = absurd (let x = message_there h e in let y : get_or C (lookup C W hs v h j) 0 ≡ c_name = ap (λ i. get_or C i 0) z ∙ name-here in omega arith)
        go (no z) = let l = lookup_most C W hs j j (omega arith) (λ x y w. absurd (omega arith)) v h j in omega arith

    -- it is not `_pid`, which is declared nowhere
    other : (h : ℕ) → get_or hs (suc j) 0 ≡ h → same w pid ≡ false
    other h e = go (same w pid) refl
      where
        go : (c : Bool) → same w pid ≡ c → c ≡ false
        go true z = absurd (let l = before h e in let r = lookup-pid m C W hs says h j (omega arith) (q ∙ ap i_name (same_eq w pid z)) in omega arith)
        go false z = refl

    -- the first of its name among the globals: there is none before it
    outer : (d : ℕ) → same w pid ≡ false → find C W hs 1 v 0 j ≡ d → d < j → get_or C d 0 ≡ c_message → link_of T d ≡ is
    outer d n e l s = go (what_in (entries_of 0 0 0 m) w) (A.gives j w (omega arith) q n) (globals_mean (of_model m) names.global w (message_from 1 (messages_of m) w) [] [] 0 0 0 0 m tt (parts t a legal))
      where
        A : Scoped m C W hs says (entries_of 0 0 0 m) 0 (length C) (model-entries m C W says).0 (model-entries m C W says).1.0
        A = (model-entries m C W says).1.1

        far : find C W hs 1 v 0 (length C) ≡ d
        far =
            ap (find C W hs 1 v 0) (let z : length C ≡ j + (length C - j) = omega arith in z)
            ∙ find-further C W hs (length C - j) v 0 j (says.pids j w (omega arith) q ∙ n) (omega arith) ∙ e

        go : (y : Option What) → Found C W hs 0 (find C W hs 1 v 0 (length C)) (length C) y
            → Globals names.global 0 0 (globals_of m) (message_from 1 (messages_of m) w) (variable_from names.global 0 (globals_of m) w (message_from 1 (messages_of m) w)) 0 (length (messages_of m))
            (message_from 1 (messages_of m) w) y → link_of T d ≡ is
        go none g r = absurd (let z = far in omega arith)
        go (some (slot x o)) g r = absurd (variable g.1.coded)
          where
            variable : (get_or C (find C W hs 1 v 0 (length C)) 0 ≡ c_declared) ⊎ (get_or C (find C W hs 1 v 0 (length C)) 0 ≡ c_parameter) → ⊥
            variable (inl z) = let k : get_or C (find C W hs 1 v 0 (length C)) 0 ≡ c_message = ap (λ i. get_or C i 0) far ∙ s in omega arith
            variable (inr z) = let k : get_or C (find C W hs 1 v 0 (length C)) 0 ≡ c_message = ap (λ i. get_or C i 0) far ∙ s in omega arith
        go (some (number i)) g r =
            let k = r.2 in
            let top = (few t a legal).messages in
            ap (link_of T) (inv far) ∙ number_link T C W (H t a legal) (K t a legal) (find C W hs 1 v 0 (length C)) i g.1.0 g.1.2 (omega arith) ∙ inv (ap number_of r.1)
        go (some (proctype i)) g r =
            absurd (true_false (inv g.1.0 ∙ message-only (get_or C (find C W hs 1 v 0 (length C)) 0) (ap (λ i. get_or C i 0) far ∙ s)))

    by_lookup : (h : ℕ) → get_or hs (suc j) 0 ≡ h → (find C W hs 1 v h j < j → get_or C (find C W hs 1 v h j) 0 ≡ c_message → link_of T (find C W hs 1 v h j) ≡ is)
        → link_of T (link_of T (suc j)) ≡ is
    unfolding lookup
    by_lookup h e own =
        ap (link_of T) (value_link T C W (H t a legal) (K t a legal) j h b c e)
        ∙ go (ltb (find C W hs 1 v h j) j) refl (message_there h e) (before h e)
      where
        go : (x : Bool) → ltb (find C W hs 1 v h j) j ≡ x → get_or C (pick x (find C W hs 1 v h j) (find C W hs 1 v 0 j)) 0 ≡ c_message
            → pick x (find C W hs 1 v h j) (find C W hs 1 v 0 j) < j → link_of T (pick x (find C W hs 1 v h j) (find C W hs 1 v 0 j)) ≡ is
        go true z s l = own l s
        go false z s l = outer (find C W hs 1 v 0 j) (other h e) refl l s

    -- OUTSIDE OF BODIES
    pub global_value : get_or hs (suc j) 0 ≡ 0 → link_of T (link_of T (suc j)) ≡ is
    global_value e = by_lookup 0 e (λ l s. outer (find C W hs 1 v 0 j) (other 0 e) refl l s)

    -- IN THE DECLARATIONS OF UNIT k: a local of the name would be a variable
    pub local_value : (k : ℕ) (o : Bodied (unit_at m k)) → body_at m k ≤ j → suc j < start_of m k → link_of T (link_of T (suc j)) ≡ is
    local_value k o x y =
        let F = frame t a legal k o in
        let i0 = F.parts in
        let i2 = F.last in
        let h = suc (head_of m k) in
        let e = home_in m C W says (head_of m k) (body_at m k) (start_of m k) (end_of m k) F (suc j) (omega arith) (omega arith) in
        by_lookup h e (λ l s. absurd (local h e l s ((unit t a legal k o).locals.gives j w (omega arith) q (other h e)) (variables-mean names.local 0 0 (variables_of (unit_at m k)) w names.unknown)))
      where
        local : (h : ℕ) → get_or hs (suc j) 0 ≡ h → find C W hs 1 v h j < j → get_or C (find C W hs 1 v h j) 0 ≡ c_message
            → Found C W hs h (find C W hs 1 v h (start_of m k)) (start_of m k) (what_in (slots 0 (variables_of (unit_at m k))) w)
            → Variables names.local 0 0 (variables_of (unit_at m k)) names.unknown (variable_from names.local 0 (variables_of (unit_at m k)) w names.unknown) (what_in (slots 0 (variables_of (unit_at m k))) w)
            → ⊥
        local h e l s g r = go (what_in (slots 0 (variables_of (unit_at m k))) w) g r
          where
            far : find C W hs 1 v h (start_of m k) ≡ find C W hs 1 v h j
            far =
                ap (find C W hs 1 v h) (let z : start_of m k ≡ j + (start_of m k - j) = omega arith in z)
                ∙ find-further C W hs (start_of m k - j) v h j (says.pids j w (omega arith) q ∙ other h e) l

            go : (z : Option What) → Found C W hs h (find C W hs 1 v h (start_of m k)) (start_of m k) z
                → Variables names.local 0 0 (variables_of (unit_at m k)) names.unknown (variable_from names.local 0 (variables_of (unit_at m k)) w names.unknown) z → ⊥
            go none g r = let z = far in omega arith
            go (some (slot x p)) g r = variable g.1.coded
              where
                variable : (get_or C (find C W hs 1 v h (start_of m k)) 0 ≡ c_declared) ⊎ (get_or C (find C W hs 1 v h (start_of m k)) 0 ≡ c_parameter) → ⊥
                variable (inl z) = let k : get_or C (find C W hs 1 v h (start_of m k)) 0 ≡ c_message = ap (λ i. get_or C i 0) far ∙ s in omega arith
                variable (inr z) = let k : get_or C (find C W hs 1 v h (start_of m k)) 0 ≡ c_message = ap (λ i. get_or C i 0) far ∙ s in omega arith
            go (some (number i)) g r = r
            go (some (proctype i)) g r = r

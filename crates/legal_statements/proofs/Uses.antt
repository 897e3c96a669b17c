-- A REFERENCE has the fault of its name's use, at the name.
use Prim.Native.Nat.{ℕ, ◌+◌, ◌≤◌, ◌<◌}
use native.Mathlib.Omega.{arith}
use mathlib.Core.Path.{◌≡◌, refl, sym, ap, ◌∙◌}
use mathlib.Core.Bool.{Bool, true, false}
use mathlib.Core.List.{List}
use lib.ListN.{get_or}
use lib.Dec.{eqb, leb}
use borrow.Author.Tests.{eqb-true, leb-true, ne_eqb}
use Rattle.base_codes.specs.Codes.{c_active_many, c_declared, c_index, c_message, c_parameter, c_proctype}
use Rattle.base_bytes.specs.Choice.{pick, either}
use Rattle.base_bytes.specs.Lists.{same}
use Rattle.base_bytes.proofs.Tests.{true_false, both_true}
use Rattle.spec_text.specs.Names.{pid}
use Rattle.rule_search.specs.Sets.{among}
use Rattle.rule_search.specs.Search.{lookup}
use Rattle.rule_item.specs.Rules.{role_of, bad_plain, bad_index, bad_variable, bad_use, bad_ref, bad_by}
use Rattle.rule_least.specs.Faults.{place_by}
use Rattle.spec_grammar.specs.Tree.{Name}
use Rattle.base_codes.specs.Items.{i_name}
use Rattle.base_codes.specs.Sets.{rule_of}
use Rattle.spec_rules.specs.Senses.{Sense, variable, constant, procedure, unknown}
use Rattle.spec_rules.specs.Roles.{Role, operand, channel, target, received, for_constant, for_pid, for_chan, alike}
use Rattle.spec_rules.specs.Statements.{sense}
use Rattle.spec_faults.specs.Faults.{fault_at, constant_use, sense_use, use_number}
use Rattle.legal_terms.specs.Says.{item_at}
use Rattle.legal_terms.specs.Setting.{Finds}
use Rattle.legal_statements.specs.Scene.{Scene, xs, homes, starts, fault}
use Rattle.legal_statements.proofs.Stands.{fault_by}

-- the number of a role
abbrev pub number : Role → ℕ
number operand = 0
number channel = 1
number target = 2
number received = 3

-- ---- `_pid`, mtype names, variables
for_pid_lem : (role : Role) → eqb (number role) 0 ≡ for_pid role
for_pid_lem operand = refl
for_pid_lem channel = refl
for_pid_lem target = refl
for_pid_lem received = refl

for_constant_lem : (role : Role) → either (eqb (number role) 0) (eqb (number role) 3) ≡ for_constant role
for_constant_lem operand = refl
for_constant_lem channel = refl
for_constant_lem target = refl
for_constant_lem received = refl

index_fault : (index array : Bool) → bad_index index array ≡ pick (alike index array) 0 5
index_fault true array = refl
index_fault false true = refl
index_fault false false = refl

variable_fault : (role : Role) (index chan array : Bool) → pick (eqb (number role) 1) (pick chan (bad_index index array) 4) (bad_index index array)
    ≡ pick (for_chan role chan) (pick (alike index array) 0 5) 4
variable_fault operand index chan array = index_fault index array
variable_fault channel index true array = index_fault index array
variable_fault channel index false array = refl
variable_fault target index chan array = index_fault index array
variable_fault received index chan array = index_fault index array

-- ---- the kinds of declarations are apart
no_message : (c : ℕ) → among 14 c ≡ true → eqb c c_message ≡ false
unfolding among
no_message c e = go (eqb c c_message) refl
  where
    go : (b : Bool) → eqb c c_message ≡ b → b ≡ false
    go false f = refl
    go true f = absurd (true_false (sym e ∙ ap (λ n. either (eqb n c_declared) (eqb n c_parameter)) (eqb-true c c_message f)))

proctype_is : (c : ℕ) → among 13 c ≡ true → (c_proctype ≤ c) × (c ≤ c_active_many)
unfolding among
proctype_is c e = let z = both_true (leb c_proctype c) (leb c c_active_many) e in (leb-true c_proctype c z.0, leb-true c c_active_many z.1)

no_variable : (c : ℕ) → c_proctype ≤ c → among 14 c ≡ false
unfolding among
no_variable c h = rw (ne_eqb c c_declared (λ e. omega arith), ne_eqb c c_parameter (λ e. omega arith))

-- the fault of a name of a sense
sense-fault : (cs : List ℕ) (d : ℕ) (role : Role) (index : Bool) (s : Sense) → Finds cs d s
    → pick (eqb (get_or cs d 0) c_message) (bad_plain (either (eqb (number role) 0) (eqb (number role) 3)) index) (pick (among 14 (get_or cs d 0)) (bad_variable cs d (number role) index) 4)
    ≡ sense_use role index s
unfolding bad_variable
sense-fault cs d role index (variable chan array) f = rw (no_message (get_or cs d 0) f.0, f.0, f.1, f.2) (variable_fault role index chan array)
sense-fault cs d role index constant f = rw f (ap (λ (b : Bool). bad_plain b index) (for_constant_lem role))
sense-fault cs d role index (procedure n) f =
    let z = proctype_is (get_or cs d 0) f in
    rw (ne_eqb (get_or cs d 0) c_message (λ e. omega (arith, z.0)), no_variable (get_or cs d 0) z.0) refl
sense-fault cs d role index unknown f = rw (ne_eqb (get_or cs d 0) c_message f.1, f.0) refl

module _ (S : Scene) where
  module _ (i : ℕ) (w : Name) (it : item_at (xs S) i ≡ i_name w) (low : S.from ≤ i) (high : i < S.to) where
    -- the number that the name's token says
    pub pid-told : eqb (get_or S.vs i 0) 0 ≡ same w pid
    pid-told = S.says.pids i w (omega (arith, S.within)) it

    use_fault : (role : Role) (index : Bool) → bad_use S.cs S.vs (homes S) i S.h (number role) index ≡ use_number (sense S.at) role index w
    unfolding bad_use use_number
    use_fault role index = go (same w pid) refl
      where
        go : (b : Bool) → same w pid ≡ b
            → pick (eqb (get_or S.vs i 0) 0) (bad_plain (eqb (number role) 0) index)
            (pick (eqb (get_or S.cs (lookup S.cs S.vs (homes S) (get_or S.vs i 0) S.h i) 0) c_message) (bad_plain (either (eqb (number role) 0) (eqb (number role) 3)) index)
            (pick (among 14 (get_or S.cs (lookup S.cs S.vs (homes S) (get_or S.vs i 0) S.h i) 0))
            (bad_variable S.cs (lookup S.cs S.vs (homes S) (get_or S.vs i 0) S.h i) (number role) index) 4))
            ≡ pick b (constant_use (for_pid role) index) (sense_use role index (sense S.at w))
        go true e = rw (pid-told ∙ e) (ap (λ (b : Bool). bad_plain b index) (for_pid_lem role))
        go false e = rw (pid-told ∙ e) (sense-fault S.cs (lookup S.cs S.vs (homes S) (get_or S.vs i 0) S.h i) role index (sense S.at w) (S.setting.finds i w low high it e))

    pub reference_fault : (j c n : ℕ) (role : Role) (index : Bool) → get_or S.toks i 0 ≡ n → get_or S.cs j 0 ≡ c → rule_of c ≡ 15 → eqb c c_index ≡ index → get_or (starts S) j 0 ≡ i
        → get_or (homes S) j 0 ≡ S.h → role_of (get_or S.cs (j + 1) 0) ≡ number role → fault S j ≡ fault_at (use_number (sense S.at) role index w) n
    unfolding bad_by bad_ref place_by
    reference_fault j c n role index t e r x s g o =
        fault_by S j c 15 (use_number (sense S.at) role index w) n e r (rw (s, g, o, e, x) (use_fault role index)) (rw s t)

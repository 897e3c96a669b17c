-- The ceilings of a modest model, said of its variables and mtype names: document 01, "mtype names 64; .. global numbers 64; numbers per process 32".
use Prim.Native.Nat.{ℕ, zero, suc, ◌+◌, ◌≤◌}
use native.Mathlib.Omega.{arith}
use mathlib.Core.Path.{◌≡◌, refl, ap}
use mathlib.Core.Bool.{true}
use mathlib.Core.List.{List, [], ◌∷◌, ◌++◌, map}
use lib.ListN.{length, length-append, length-map}
use lib.Dec.{leb}
use borrow.Author.Tests.{leb-true}
use Rattle.base_ceilings.specs.Ceilings.{channels_most, globals_most, mtypes_most, numbers_most, processes_most, proctypes_most, statements_most}
use Rattle.base_bytes.specs.Choice.{both}
use Rattle.base_bytes.proofs.Tests.{both_true}
use Rattle.spec_grammar.specs.Tree.{Name, Variable, variable, Declaration, declare, Group, group, body, Part, mtypes, global, process, init, Model}
use Rattle.spec_rules.specs.Ceilings as ceilings
use Rattle.spec_rules.specs.Ceilings.{statement_count, proctype_count, light, narrow, start_count, channel_count, modest}
use Rattle.spec_rules.specs.Statements.{all}
use Rattle.spec_rules.specs.Units.{tally}
use Rattle.spec_machine.specs.Names.{Var, of_variable, of_declaration, of_declarations, of_parameter, of_group, of_groups, variables_of, parameters_of, global_in, globals_of, message_in, messages_of, unit_at}
use Rattle.spec_machine.specs.Program.{sequence_of as statements_in}
use Rattle.spec_machine.specs.Begins.{body_of}
use Rattle.spec_machine.specs.Places.{Bodied}
use Rattle.agree_encode.specs.Tabled.{offset_of, total_of}

pub total-append : (xs ys : List Var) → total_of (xs ++ ys) ≡ total_of xs + total_of ys
total-append [] ys = omega arith
total-append (x ∷ xs) ys = let r = total-append xs ys in omega arith

-- offsets are no more than all numbers
pub offset_most : (xs : List Var) (i : ℕ) → offset_of xs i ≤ total_of xs
offset_most [] i = omega arith
offset_most (x ∷ xs) zero = omega arith
offset_most (x ∷ xs) (suc i) = let r = offset_most xs i in omega arith

variables-total : (k : ℕ) (us : List Variable) → total_of (map (of_variable k) us) ≡ tally ceilings.size_of_variable us
variables-total k [] = refl
variables-total k (variable w s v ∷ us) = ap (λ n. ceilings.size_of s + n) (variables-total k us)

declarations-total : (ds : List Declaration) → total_of (of_declarations ds) ≡ tally ceilings.size_of_declaration ds
declarations-total [] = refl
declarations-total (declare k us ∷ ds) =
    let a = total-append (map (of_variable k) us) (of_declarations ds) in let b = variables-total k us in let c = declarations-total ds in omega arith

parameters_total : (k : ℕ) (ws : List Name) → total_of (map (of_parameter k) ws) ≡ length ws
parameters_total k [] = refl
parameters_total k (w ∷ ws) = let a = parameters_total k ws in omega arith

groups_total : (gs : List Group) → total_of (of_groups gs) ≡ tally ceilings.size_of_group gs
groups_total [] = refl
groups_total (group k ws ∷ gs) =
    let a = total-append (map (of_parameter k) ws) (of_groups gs) in let b = parameters_total k ws in let c = groups_total gs in omega arith

globals_total : (m : Model) → total_of (globals_of m) ≡ tally ceilings.global_count m
globals_total [] = refl
globals_total (u ∷ m) = let a = total-append (global_in u) (globals_of m) in let b = part u in let c = globals_total m in omega arith
  where
    part : (u : Part) → total_of (global_in u) ≡ ceilings.global_count u
    part (mtypes ws) = refl
    part (global (declare k us)) = variables-total k us
    part (process a w gs b) = refl
    part (init b) = refl

messages_total : (m : Model) → length (messages_of m) ≡ tally ceilings.message_count m
messages_total [] = refl
messages_total (u ∷ m) = let a = length-append (message_in u) (messages_of m) in let b = part u in let c = messages_total m in omega arith
  where
    part : (u : Part) → length (message_in u) ≡ ceilings.message_count u
    part (mtypes ws) = refl
    part (global d) = refl
    part (process a w gs b) = refl
    part (init b) = refl

locals_most : (m : Model) (k : ℕ) → all light m ≡ true → Bodied (unit_at m k) → total_of (variables_of (unit_at m k)) ≤ numbers_most
locals_most [] k h b = absurd b
locals_most (mtypes ws ∷ m) zero h b = absurd b
locals_most (global d ∷ m) zero h b = absurd b
locals_most (process a w gs (body ds q) ∷ m) zero h b =
    let n = tally ceilings.size_of_group gs + tally ceilings.size_of_declaration ds in
    let l = leb-true n numbers_most (both_true (leb n numbers_most) (narrow q) (both_true (light (process a w gs (body ds q))) (all light m) h).0).0 in
    let t = total-append (of_groups gs) (of_declarations ds) in
    let x = groups_total gs in
    let y = declarations-total ds in
    omega arith
locals_most (init (body ds q) ∷ m) zero h b =
    let n = tally ceilings.size_of_declaration ds in
    let l = leb-true n numbers_most (both_true (leb n numbers_most) (narrow q) (both_true (light (init (body ds q))) (all light m) h).0).0 in
    let y = declarations-total ds in
    omega arith
locals_most (u ∷ m) (suc k) h b = locals_most m k (both_true (light u) (all light m) h).1 b

pub light-narrow : (u : Part) → light u ≡ true → narrow (statements_in (body_of u)) ≡ true
light-narrow (mtypes ws) h = refl
light-narrow (global d) h = refl
light-narrow (process a w gs (body ds q)) h = (both_true (leb (tally ceilings.size_of_group gs + tally ceilings.size_of_declaration ds) numbers_most) (narrow q) h).1
light-narrow (init (body ds q)) h = (both_true (leb (tally ceilings.size_of_declaration ds) numbers_most) (narrow q) h).1

narrow_at : (m : Model) (k : ℕ) → all light m ≡ true → narrow (statements_in (body_of (unit_at m k))) ≡ true
narrow_at [] k h = refl
narrow_at (u ∷ m) zero h = light-narrow u (both_true (light u) (all light m) h).0
narrow_at (u ∷ m) (suc k) h = narrow_at m k (both_true (light u) (all light m) h).1

-- a parameter is one number
groups_long : (gs : List Group) → length (of_groups gs) ≡ total_of (of_groups gs)
groups_long [] = refl
groups_long (group k ws ∷ gs) =
    let a = total-append (map (of_parameter k) ws) (of_groups gs) in
    let b = length-append (map (of_parameter k) ws) (of_groups gs) in
    let c = parameters_total k ws in
    let d = length-map ws (of_parameter k) in
    let e = groups_long gs in
    omega arith

parameters_most : (u : Part) → length (parameters_of u) ≤ total_of (variables_of u)
parameters_most (mtypes ws) = omega arith
parameters_most (global d) = omega arith
parameters_most (process a w gs (body ds q)) = let e = total-append (of_groups gs) (of_declarations ds) in let f = groups_long gs in omega arith
parameters_most (init b) = omega arith

pub record Few (m : Model) : Type 0 where
  pub globals : total_of (globals_of m) ≤ globals_most
  pub messages : length (messages_of m) ≤ mtypes_most
  pub locals : (k : ℕ) → Bodied (unit_at m k) → total_of (variables_of (unit_at m k)) ≤ numbers_most
  pub parameters : (k : ℕ) → Bodied (unit_at m k) → length (parameters_of (unit_at m k)) ≤ numbers_most
  pub units : all light m ≡ true
  pub prints : (k : ℕ) → narrow (statements_in (body_of (unit_at m k))) ≡ true
  pub starts : tally start_count m ≤ processes_most
  pub channels : tally channel_count m ≤ channels_most

pub modest_few : (m : Model) → modest m ≡ true → Few m
unfolding modest
modest_few m h =
    let p = both (leb (tally statement_count m) statements_most) (leb (tally ceilings.message_count m) mtypes_most) in
    let q = both (leb (tally proctype_count m) proctypes_most) (leb (tally ceilings.global_count m) globals_most) in
    let r = both (both (leb 1 (tally start_count m)) (leb (tally start_count m) processes_most)) (leb (tally channel_count m) channels_most) in
    let a = both_true (both p q) (both (all light m) r) h in
    let b = both_true p q a.0 in
    let c = leb-true (tally ceilings.message_count m) mtypes_most (both_true (leb (tally statement_count m) statements_most) (leb (tally ceilings.message_count m) mtypes_most) b.0).1 in
    let d = leb-true (tally ceilings.global_count m) globals_most (both_true (leb (tally proctype_count m) proctypes_most) (leb (tally ceilings.global_count m) globals_most) b.1).1 in
    let x = globals_total m in
    let y = messages_total m in
    let l = both_true (all light m) r a.1 in
    let e = both_true (both (leb 1 (tally start_count m)) (leb (tally start_count m) processes_most)) (leb (tally channel_count m) channels_most) l.1 in
    record {
      globals = omega arith;
      messages = omega arith;
      locals = λ k bo. locals_most m k l.0 bo;
      parameters = λ k bo. (let f = locals_most m k l.0 bo in let g = parameters_most (unit_at m k) in omega arith);
      units = l.0;
      prints = λ k. narrow_at m k l.0;
      starts = leb-true (tally start_count m) processes_most (both_true (leb 1 (tally start_count m)) (leb (tally start_count m) processes_most) e.0).1;
      channels = leb-true (tally channel_count m) channels_most e.1;
    }

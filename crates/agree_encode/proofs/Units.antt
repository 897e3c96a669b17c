-- UNITS OF A LAWFUL MODEL: their bodies stand where the layout says, and their statements are lawful where they stand.
use Prim.Native.Nat.{ℕ, zero, suc, ◌+◌, ◌-◌, ◌≤◌}
use native.Mathlib.Omega.{arith}
use mathlib.Core.Path.{◌≡◌, refl, subst}
use mathlib.Core.Bool.{true, false}
use mathlib.Core.List.{[], ◌∷◌, ◌++◌}
use Rattle.base_bytes.specs.Choice.{both}
use Rattle.base_bytes.proofs.Tests.{both_true}
use Rattle.spec_grammar.specs.Tree.{Body, body, Activity, idle, once, times, mtypes, global, process, init, Model}
use Rattle.spec_machine.specs.Sizes.{sum, size_activity, size_group, size_part}
use Rattle.spec_rules.specs.Senses.{Scope, fresh}
use Rattle.spec_rules.specs.Statements.{labels_of}
use Rattle.legal_rules.specs.Statements.{apart, allowed}
use Rattle.spec_rules.specs.Units.{scope_of_groups, of_part}
use Rattle.legal_rules.specs.Units.{declarations, joins, body_lawful, part_lawful, parts_lawful}
use Rattle.spec_machine.specs.Program.{sequence_of}
use Rattle.agree_sizes.specs.Bodies.{Holds, in_process, in_init, later}
use Rattle.spec_machine.specs.Names.{unit_at}
use Rattle.spec_machine.specs.Begins.{items_before, body_in, body_of}
use Rattle.agree_encode.specs.Encode.{head_in}
use Rattle.spec_machine.specs.Places.{Bodied}
use Rattle.agree_encode.specs.Settings.{setting_by, setting_from}

some_activity : (a : Activity) → 1 ≤ size_activity a
some_activity idle = omega arith
some_activity once = omega arith
some_activity (times n) = omega arith

-- the body of unit k is held by the item that begins it
pub unit-holds : (m : Model) (k i j : ℕ) → j ≡ i + items_before m k → Bodied (unit_at m k) → Holds m i (head_in (unit_at m k) j) (body_of (unit_at m k)) (body_in (unit_at m k) j)
unfolding items_before
unit-holds [] k i j e b = absurd b
unit-holds (mtypes ws ∷ m) zero i j e b = absurd b
unit-holds (global d ∷ m) zero i j e b = absurd b
unit-holds (process a w gs x ∷ m) zero i j e b = let l = some_activity a in in_process {x = a} {w = w} {gs = gs} {b = x} {m = m} {i = i} {u = j + size_activity a - 1} {k = j + size_activity a + sum size_group gs} (omega arith) (omega arith)
unit-holds (init x ∷ m) zero i j e b = let z : i ≡ j = omega arith in subst (λ n. Holds (init x ∷ m) i n x (j + 1)) z (in_init (omega arith))
unit-holds (u ∷ m) (suc k) i j e b = later (unit-holds m k (i + size_part u) j (omega arith) b)

-- ---- lawful bodies
body_allowed : (M g l : Scope) (b : Body) → body_lawful M g l b ≡ true → allowed (setting_by M g l b) false false (sequence_of b) ≡ true
unfolding body_lawful
body_allowed M g l (body ds q) h =
    let p = both_true (declarations g l ds) (both (apart (labels_of q)) (allowed (setting_by M g l (body ds q)) false false q)) h in
    (both_true (apart (labels_of q)) (allowed (setting_by M g l (body ds q)) false false q) p.1).1

pub unit-allowed : (M g : Scope) (m : Model) (k : ℕ) → parts_lawful M g m ≡ true → Bodied (unit_at m k) → allowed (setting_from M g m k) false false (sequence_of (body_of (unit_at m k))) ≡ true
unfolding parts_lawful
unit-allowed M g [] k h b = absurd b
unit-allowed M g (mtypes ws ∷ m) zero h b = absurd b
unit-allowed M g (global d ∷ m) zero h b = absurd b
unit-allowed M g (process a w gs x ∷ m) zero h b =
    let p = both_true (part_lawful M g (process a w gs x)) (parts_lawful M (g ++ of_part (process a w gs x)) m) h in
    let q = both_true (fresh g w) (both (joins [] (scope_of_groups gs)) (body_lawful M (g ++ of_part (process a w gs x)) (scope_of_groups gs) x)) p.0 in
    body_allowed M (g ++ of_part (process a w gs x)) (scope_of_groups gs) x (both_true (joins [] (scope_of_groups gs)) (body_lawful M (g ++ of_part (process a w gs x)) (scope_of_groups gs) x) q.1).1
unit-allowed M g (init x ∷ m) zero h b = body_allowed M g [] x (both_true (part_lawful M g (init x)) (parts_lawful M (g ++ of_part (init x)) m) h).0
unit-allowed M g (u ∷ m) (suc k) h b = unit-allowed M (g ++ of_part u) m k (both_true (part_lawful M g u) (parts_lawful M (g ++ of_part u) m) h).1 b

pub setting-labels : (M g : Scope) (m : Model) (k : ℕ) → Bodied (unit_at m k) → (setting_from M g m k).labels ≡ labels_of (sequence_of (body_of (unit_at m k)))
setting-labels M g [] k b = absurd b
setting-labels M g (mtypes ws ∷ m) zero b = absurd b
setting-labels M g (global d ∷ m) zero b = absurd b
setting-labels M g (process a w gs (body ds q) ∷ m) zero b = refl
setting-labels M g (init (body ds q) ∷ m) zero b = refl
setting-labels M g (u ∷ m) (suc k) b = setting-labels M (g ++ of_part u) m k b

-- Bridge, for `demand2` (crate `demands`): what names stand for in the statements of a unit, as the rules of `legal_rules` ask.
use Rattle.std.specs.Prelude.{ℕ, zero, suc, [], ◌∷◌, ◌++◌}
use Rattle.spec_grammar.specs.Tree.{Body, body, Part, mtypes, global, process, init, Model}
use Rattle.spec_rules.specs.Senses.{Scope}
use Rattle.spec_rules.specs.Statements.{Place, labels_of}
use Rattle.spec_rules.specs.Units.{scope_of_groups, of_part, of_model}
use Rattle.legal_rules.specs.Units.{scope_of_declarations}

-- what names stand for in the statements of unit k, where M are all globals of the model and g those declared before
abbrev pub setting_by : Scope → Scope → Scope → Body → Place
setting_by M g l (body ds q) = record { locals = l ++ scope_of_declarations ds; globals = g; model = M; labels = labels_of q }

abbrev pub setting_in : Scope → Scope → Part → Place
setting_in M g (mtypes ws) = record { locals = []; globals = g; model = M; labels = [] }
setting_in M g (global d) = record { locals = []; globals = g; model = M; labels = [] }
setting_in M g (process a w gs b) = setting_by M (g ++ of_part (process a w gs b)) (scope_of_groups gs) b
setting_in M g (init b) = setting_by M g [] b

abbrev pub setting_from : Scope → Scope → Model → ℕ → Place
setting_from M g [] k = record { locals = []; globals = g; model = M; labels = [] }
setting_from M g (u ∷ m) zero = setting_in M g u
setting_from M g (u ∷ m) (suc k) = setting_from M (g ++ of_part u) m k

abbrev pub setting_of : Model → ℕ → Place
setting_of m k = setting_from (of_model m) [] m k

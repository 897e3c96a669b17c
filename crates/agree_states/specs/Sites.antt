-- Bridge, for `demand2` (crate `demands`).
-- WHERE VARIABLES ARE DECLARED: each variable of a unit with the item that declares it and the item at which its value begins, in the order of the plain state's variables. One list, so that what
-- tables say of variables and what is done with them in turn are both said along it.
use Rattle.std.specs.Prelude.{ℕ, ◌+◌, Bool, true, false, List, [], ◌∷◌, ◌++◌}
use Rattle.spec_grammar.specs.Tree.{Name, Value, unset, set_number, set_minus, set_true, set_false, set_name, set_channel, Variable, variable, Declaration, declare, Group, group, Body, body, Part, mtypes, global, process, init, Model}
use Rattle.spec_machine.specs.Sizes.{size_size, size_variable, size_declaration, size_group, size_activity, size_part}
use Rattle.spec_machine.specs.Names.{Var, of_variable, of_parameter, unit_at}
use Rattle.spec_machine.specs.Begins.{items_before, body_in}
use Rattle.spec_machine.specs.Plain.{no_var}

-- a value that makes a channel
abbrev pub chan : Value → Bool
chan unset = false
chan (set_number n) = false
chan (set_minus n) = false
chan set_true = false
chan set_false = false
chan (set_name w) = false
chan (set_channel n ks) = true

pub record Site : Type 0 where
  pub var : Var
  -- the item that declares it
  pub item : ℕ
  -- where the items of its value begin
  pub worth : ℕ

abbrev pub no_site : Site
no_site = record { var = no_var; item = 0; worth = 0 }

-- a declared name, its `declared` and its size stand before its value
abbrev pub site_of : ℕ → Variable → ℕ → Site
site_of k (variable w z v) i = record { var = of_variable k (variable w z v); item = i + 1; worth = i + 2 + size_size z }

abbrev pub sites_of : ℕ → List Variable → ℕ → List Site
sites_of k [] i = []
sites_of k (x ∷ xs) i = site_of k x i ∷ sites_of k xs (i + size_variable x)

-- a type and its mark stand before the names
abbrev pub sites_in : Declaration → ℕ → List Site
sites_in (declare k xs) i = sites_of k xs (i + 2)

abbrev pub local_sites : List Declaration → ℕ → List Site
local_sites [] i = []
local_sites (d ∷ ds) i = sites_in d i ++ local_sites ds (i + size_declaration d)

abbrev pub name_sites : ℕ → List Name → ℕ → List Site
name_sites k [] i = []
name_sites k (w ∷ ws) i = record { var = of_parameter k w; item = i + 1; worth = 0 } ∷ name_sites k ws (i + 2)

abbrev pub group_in : Group → ℕ → List Site
group_in (group k ws) i = name_sites k ws (i + 2)

abbrev pub group_sites : List Group → ℕ → List Site
group_sites [] i = []
group_sites (g ∷ gs) i = group_in g i ++ group_sites gs (i + size_group g)

abbrev pub body_sites : Body → ℕ → List Site
body_sites (body ds q) i = local_sites ds (i + 1)

-- ## a unit whose items begin at item i
abbrev pub unit_sites : Part → ℕ → List Site
unit_sites (mtypes ws) i = []
unit_sites (global d) i = sites_in d i
unit_sites (process a w gs b) i = group_sites gs (i + size_activity a) ++ body_sites b (body_in (process a w gs b) i)
unit_sites (init b) i = body_sites b (body_in (init b) i)

abbrev pub global_here : Part → ℕ → List Site
global_here (mtypes ws) i = []
global_here (global d) i = sites_in d i
global_here (process a w gs b) i = []
global_here (init b) i = []

abbrev pub global_sites : Model → ℕ → List Site
global_sites [] i = []
global_sites (u ∷ m) i = global_here u i ++ global_sites m (i + size_part u)

abbrev pub sites_at : Model → ℕ → List Site
sites_at m k = unit_sites (unit_at m k) (items_before m k)

abbrev pub groups_of : Part → List Group
groups_of (mtypes ws) = []
groups_of (global d) = []
groups_of (process a w gs b) = gs
groups_of (init b) = []

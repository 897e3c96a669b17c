use mathlib.Core.Path.{sym, ◌∙◌}
use Rattle.state_types.specs.Fits as fits
use Rattle.base_kinds.specs.Kinds.{bytes}
use Rattle.show_state.specs.Listing as listing
use Rattle.show_state.proofs.Laws as laws
use Rattle.show_state.proofs.put_local.Goals as goal

pub returns-then-is_local : goal.returns-then-is_local
returns-then-is_local c = laws.said (fits.is_local c.args.t.now c.args.j) (listing.variable_in c.args.t.now c.args.s.now (bytes "local ") c.args.x c.args.j) _ _ (sym c.is_local.ensures ∙ c.if-is_local.true) c.put_variable.ensures

pub returns-else-is_local : goal.returns-else-is_local
returns-else-is_local c = laws.unsaid (fits.is_local c.args.t.now c.args.j) (listing.variable_in c.args.t.now c.args.s.now (bytes "local ") c.args.x c.args.j) _ (sym c.is_local.ensures ∙ c.if-is_local.false)

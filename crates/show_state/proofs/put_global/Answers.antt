use mathlib.Core.Path.{sym, ◌∙◌}
use Rattle.state_types.specs.Fits as fits
use Rattle.base_kinds.specs.Kinds.{bytes}
use Rattle.show_state.specs.Listing as listing
use Rattle.show_state.proofs.Laws as laws
use Rattle.show_state.proofs.put_global.Goals as goal

pub returns-then-is_global : goal.returns-then-is_global
returns-then-is_global c = laws.said (fits.is_global c.args.t.now c.args.j) (listing.variable_in c.args.t.now c.args.s.now (bytes "global ") 0 c.args.j) _ _ (sym c.is_global.ensures ∙ c.if-is_global.true) c.put_variable.ensures

pub returns-else-is_global : goal.returns-else-is_global
returns-else-is_global c = laws.unsaid (fits.is_global c.args.t.now c.args.j) (listing.variable_in c.args.t.now c.args.s.now (bytes "global ") 0 c.args.j) _ (sym c.is_global.ensures ∙ c.if-is_global.false)

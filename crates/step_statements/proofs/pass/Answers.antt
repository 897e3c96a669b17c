use Rattle.table_layout.specs.Access.{link_of}
use mathlib.Core.Path.{refl}
use Rattle.step_statements.proofs.Laws.{done_moved}
use Rattle.step_statements.proofs.pass.Goals as goal

pub returns : goal.returns
returns c = done_moved c.args.p (link_of c.args.t.now c.args.m) c.args.s.now c.args.s.now _ refl c.link.ensures.value c.move_to.ensures

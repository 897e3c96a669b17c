use Rattle.show_texts.proofs.Laws as laws
use mathlib.Core.Path.{refl}
use Rattle.show_statuses.specs.declared.Status.TheVariants as status
use Rattle.show_texts.proofs.perform_text.Goals as goal

pub returns-then-same : goal.returns-then-same
returns-then-same c = laws.of_normal _ _ _ _ _ c.same.ensures _ c.if-same.true c.show_normal.ensures

pub returns-then-same-2 : goal.returns-then-same-2
returns-then-same-2 c = laws.of_layout _ _ _ _ _ c.same.ensures _ _ c.if-same.false c.same-2.ensures c.if-same-2.true c.show_layout.ensures

pub returns-in-Ok : goal.returns-in-Ok
returns-in-Ok c = laws.on_accepted _ _ _ _ _ c.same.ensures c.if-same.false _ c.same-2.ensures c.if-same-2.false _ _ refl c.read-j.ensures.value _ _ _ c.read-j.ensures.tables_after c.in-Ok.is c.perform_on.ensures c.on_model.ensures

pub returns-in-Err : goal.returns-in-Err
returns-in-Err c = laws.on_refused _ _ _ _ _ c.same.ensures c.if-same.false _ c.same-2.ensures c.if-same-2.false _ _ refl c.read-j.ensures.value _ status.Fine _ c.in-Err.is c.on_model-in-Err.ensures

use Rattle.show_texts.proofs.Laws as laws
use mathlib.Core.Path.{refl}
use Rattle.show_texts.proofs.show_normal.Goals as goal

pub returns-in-Ok : goal.returns-in-Ok
returns-in-Ok c = laws.is_text _ _ _ refl c.normal-w.ensures.value _ _ c.in-Ok.is c.status_of.ensures

pub returns-in-Err : goal.returns-in-Err
returns-in-Err c = laws.is_refused _ _ _ refl c.normal-w.ensures.value _ _ c.in-Err.is c.status_of-in-Err.ensures

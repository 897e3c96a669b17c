use Rattle.show_texts.proofs.Laws as laws
use mathlib.Core.Path.{refl}
use Rattle.show_texts.proofs.show_layout.Goals as goal

pub returns-in-Ok : goal.returns-in-Ok
returns-in-Ok c = laws.layout_text_lem _ _ _ refl c.layout-w.ensures.value _ _ c.in-Ok.is c.status_of.ensures

pub returns-in-Err : goal.returns-in-Err
returns-in-Err c = laws.layout_refused _ _ _ refl c.layout-w.ensures.value _ _ c.in-Err.is c.status_of-in-Err.ensures

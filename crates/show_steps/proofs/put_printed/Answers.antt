use Rattle.base_pens.proofs.Pen as pens
use Rattle.show_steps.proofs.Laws as laws
use Rattle.spec_account.specs.Bytes.{each_escaped}
use Rattle.base_kinds.specs.Kinds.{bytes}
use mathlib.Core.List.{◌∷◌, []}
use Rattle.show_steps.proofs.put_printed.Goals as goal

pub returns-then-text-eq0 : goal.returns-then-text-eq0
returns-then-text-eq0 c = laws.printed-none c.args.text.now _ c.if-text-eq0.true

pub returns : goal.returns
returns c = laws.printed-some c.args.text.now _ _ c.if-text-eq0.false (pens.then_puts (bytes "\tprinted ") _ _ _ _ c.put_all-a.ensures (pens.then_puts (each_escaped c.args.text.now) (10 ∷ []) _ _ _ c.put_escapes-b.ensures (pens.one-put 10 _ _ c.put.ensures)))

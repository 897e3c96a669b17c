use Rattle.base_kinds.specs.Kinds.{bytes}
use mathlib.Core.Path.{refl, sym, ◌∙◌}
use Rattle.text_spellings.proofs.Laws as laws
use Rattle.text_spellings.proofs.from_o.Goals as goal

pub returns-in-100 : goal.returns-in-100
returns-in-100 c = rw (c.only.ensures, laws.told-apart laws.second c.args.w.now (bytes "of") (sym c.byte_at.ensures ∙ c.in-100.is) refl)

pub returns-in-102 : goal.returns-in-102
returns-in-102 c = rw (c.only-in-102.ensures, laws.told-apart laws.second c.args.w.now (bytes "od") (sym c.byte_at.ensures ∙ c.in-102.is) refl)

pub returns-in_default : goal.returns-in_default
returns-in_default c = rw (laws.unlike laws.second c.args.w.now (bytes "od") (λ e. c.in_default.in_default-own.rest.0.1 (c.byte_at.ensures ∙ e)), laws.unlike laws.second c.args.w.now (bytes "of") (λ e. c.in_default.in_default-own.rest.1 (c.byte_at.ensures ∙ e)))

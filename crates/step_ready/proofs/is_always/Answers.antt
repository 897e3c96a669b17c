use Rattle.base_codes.specs.Codes.{c_assert, c_break, c_decrement, c_goto, c_increment, c_skip, c_target, c_text}
use Rattle.step_ready.specs.Executing.{is_always}
use borrow.Author.Tests.{ne_eqb}
use Rattle.step_ready.proofs.is_always.Goals as goal

pub returns-in-72 : goal.returns-in-72
unfolding is_always
returns-in-72 c = rw c.in-72.is

pub returns-in-190 : goal.returns-in-190
unfolding is_always
returns-in-190 c = rw c.in-190.is

pub returns-in-192 : goal.returns-in-192
unfolding is_always
returns-in-192 c = rw c.in-192.is

pub returns-in-193 : goal.returns-in-193
unfolding is_always
returns-in-193 c = rw c.in-193.is

pub returns-in-196 : goal.returns-in-196
unfolding is_always
returns-in-196 c = rw c.in-196.is

pub returns-in-197 : goal.returns-in-197
unfolding is_always
returns-in-197 c = rw c.in-197.is

pub returns-in-198 : goal.returns-in-198
unfolding is_always
returns-in-198 c = rw c.in-198.is

pub returns-in-199 : goal.returns-in-199
unfolding is_always
returns-in-199 c = rw c.in-199.is

pub returns-in_default : goal.returns-in_default
unfolding is_always
returns-in_default c = simp (ne_eqb c.args.c c_text c.in_default.in_default-own.rest.0.0.0.0.0.0.0.1, ne_eqb c.args.c c_target c.in_default.in_default-own.rest.0.0.0.0.0.0.1, ne_eqb c.args.c c_increment c.in_default.in_default-own.rest.0.0.0.0.0.1, ne_eqb c.args.c c_decrement c.in_default.in_default-own.rest.0.0.0.0.1, ne_eqb c.args.c c_assert c.in_default.in_default-own.rest.0.0.0.1, ne_eqb c.args.c c_skip c.in_default.in_default-own.rest.0.0.1, ne_eqb c.args.c c_goto c.in_default.in_default-own.rest.0.1, ne_eqb c.args.c c_break c.in_default.in_default-own.rest.1)

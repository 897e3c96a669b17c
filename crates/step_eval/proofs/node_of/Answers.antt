use Rattle.base_codes.specs.Codes.{c_and_then, c_bit_or, c_choice, c_complement, c_false, c_index, c_len, c_negate, c_not, c_number, c_or_else, c_plain, c_remainder, c_true}
use Rattle.step_eval.specs.Expressions.{node_of}
use borrow.Author.Tests.{ne_eqb, lt-ltb, le-ltb}
use Rattle.step_eval.proofs.node_of.Goals as goal

pub returns-then-c-lt-BIT_OR : goal.returns-then-c-lt-BIT_OR
unfolding node_of
returns-then-c-lt-BIT_OR c = simp (ne_eqb c.args.c c_number c.in_default.in_default-own.rest.0.0.0.0.0.0.0.0.0.0.0.1, ne_eqb c.args.c c_or_else c.in_default.in_default-own.rest.0.0.0.0.0.0.0.0.0.0.1, ne_eqb c.args.c c_and_then c.in_default.in_default-own.rest.0.0.0.0.0.0.0.0.0.1, ne_eqb c.args.c c_negate c.in_default.in_default-own.rest.0.0.0.0.0.0.0.0.1, ne_eqb c.args.c c_not c.in_default.in_default-own.rest.0.0.0.0.0.0.0.1, ne_eqb c.args.c c_complement c.in_default.in_default-own.rest.0.0.0.0.0.0.1, ne_eqb c.args.c c_plain c.in_default.in_default-own.rest.0.0.0.0.0.1, ne_eqb c.args.c c_index c.in_default.in_default-own.rest.0.0.0.0.1, ne_eqb c.args.c c_true c.in_default.in_default-own.rest.0.0.0.1, ne_eqb c.args.c c_false c.in_default.in_default-own.rest.0.0.1, ne_eqb c.args.c c_len c.in_default.in_default-own.rest.0.1, ne_eqb c.args.c c_choice c.in_default.in_default-own.rest.1, lt-ltb c.args.c c_bit_or c.if-c-lt-BIT_OR.true)

pub returns-then-c-gt-REMAINDER : goal.returns-then-c-gt-REMAINDER
unfolding node_of
returns-then-c-gt-REMAINDER c = simp (ne_eqb c.args.c c_number c.in_default.in_default-own.rest.0.0.0.0.0.0.0.0.0.0.0.1, ne_eqb c.args.c c_or_else c.in_default.in_default-own.rest.0.0.0.0.0.0.0.0.0.0.1, ne_eqb c.args.c c_and_then c.in_default.in_default-own.rest.0.0.0.0.0.0.0.0.0.1, ne_eqb c.args.c c_negate c.in_default.in_default-own.rest.0.0.0.0.0.0.0.0.1, ne_eqb c.args.c c_not c.in_default.in_default-own.rest.0.0.0.0.0.0.0.1, ne_eqb c.args.c c_complement c.in_default.in_default-own.rest.0.0.0.0.0.0.1, ne_eqb c.args.c c_plain c.in_default.in_default-own.rest.0.0.0.0.0.1, ne_eqb c.args.c c_index c.in_default.in_default-own.rest.0.0.0.0.1, ne_eqb c.args.c c_true c.in_default.in_default-own.rest.0.0.0.1, ne_eqb c.args.c c_false c.in_default.in_default-own.rest.0.0.1, ne_eqb c.args.c c_len c.in_default.in_default-own.rest.0.1, ne_eqb c.args.c c_choice c.in_default.in_default-own.rest.1, le-ltb c.args.c c_bit_or c.if-c-lt-BIT_OR.false, lt-ltb c_remainder c.args.c c.if-c-gt-REMAINDER.true)

pub returns-in-71 : goal.returns-in-71
unfolding node_of
returns-in-71 c = rw c.in-71.is

pub returns-in-147 : goal.returns-in-147
unfolding node_of
returns-in-147 c = rw c.in-147.is

pub returns-in-148 : goal.returns-in-148
unfolding node_of
returns-in-148 c = rw c.in-148.is

pub returns-in-165 : goal.returns-in-165
unfolding node_of
returns-in-165 c = rw c.in-165.is

pub returns-in-166 : goal.returns-in-166
unfolding node_of
returns-in-166 c = rw c.in-166.is

pub returns-in-167 : goal.returns-in-167
unfolding node_of
returns-in-167 c = rw c.in-167.is

pub returns-in-176 : goal.returns-in-176
unfolding node_of
returns-in-176 c = rw c.in-176.is

pub returns-in-177 : goal.returns-in-177
unfolding node_of
returns-in-177 c = rw c.in-177.is

pub returns-in-178 : goal.returns-in-178
unfolding node_of
returns-in-178 c = rw c.in-178.is

pub returns-in-179 : goal.returns-in-179
unfolding node_of
returns-in-179 c = rw c.in-179.is

pub returns-in-180 : goal.returns-in-180
unfolding node_of
returns-in-180 c = rw c.in-180.is

pub returns-in-182 : goal.returns-in-182
unfolding node_of
returns-in-182 c = rw c.in-182.is

pub returns-else-c-gt-REMAINDER : goal.returns-else-c-gt-REMAINDER
unfolding node_of
returns-else-c-gt-REMAINDER c = simp (ne_eqb c.args.c c_number c.in_default.in_default-own.rest.0.0.0.0.0.0.0.0.0.0.0.1, ne_eqb c.args.c c_or_else c.in_default.in_default-own.rest.0.0.0.0.0.0.0.0.0.0.1, ne_eqb c.args.c c_and_then c.in_default.in_default-own.rest.0.0.0.0.0.0.0.0.0.1, ne_eqb c.args.c c_negate c.in_default.in_default-own.rest.0.0.0.0.0.0.0.0.1, ne_eqb c.args.c c_not c.in_default.in_default-own.rest.0.0.0.0.0.0.0.1, ne_eqb c.args.c c_complement c.in_default.in_default-own.rest.0.0.0.0.0.0.1, ne_eqb c.args.c c_plain c.in_default.in_default-own.rest.0.0.0.0.0.1, ne_eqb c.args.c c_index c.in_default.in_default-own.rest.0.0.0.0.1, ne_eqb c.args.c c_true c.in_default.in_default-own.rest.0.0.0.1, ne_eqb c.args.c c_false c.in_default.in_default-own.rest.0.0.1, ne_eqb c.args.c c_len c.in_default.in_default-own.rest.0.1, ne_eqb c.args.c c_choice c.in_default.in_default-own.rest.1, le-ltb c.args.c c_bit_or c.if-c-lt-BIT_OR.false, le-ltb c_remainder c.args.c c.if-c-gt-REMAINDER.false)

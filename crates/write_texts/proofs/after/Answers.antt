use borrow.Author.Tests.{ne_eqb}
use Rattle.base_codes.specs.Codes.{c_receive, c_run, c_send, c_set_run, c_text}
use Rattle.write_texts.proofs.after.Goals as goal

pub returns-then-c-eq-SEND : goal.returns-then-c-eq-SEND
returns-then-c-eq-SEND c = rw c.if-c-eq-SEND.true

pub returns-then-c-eq-RECEIVE : goal.returns-then-c-eq-RECEIVE
returns-then-c-eq-RECEIVE c = rw c.if-c-eq-RECEIVE.true

pub returns-then-c-eq-TEXT : goal.returns-then-c-eq-TEXT
returns-then-c-eq-TEXT c = rw c.if-c-eq-TEXT.true

pub returns-then-c-eq-RUN : goal.returns-then-c-eq-RUN
returns-then-c-eq-RUN c = rw c.if-c-eq-RUN.true

pub returns-then-c-eq-SET_RUN : goal.returns-then-c-eq-SET_RUN
returns-then-c-eq-SET_RUN c = rw c.if-c-eq-SET_RUN.true

pub returns-else-c-eq-SET_RUN : goal.returns-else-c-eq-SET_RUN
returns-else-c-eq-SET_RUN c = rw (ne_eqb c.args.c c_send c.if-c-eq-SEND.false, ne_eqb c.args.c c_receive c.if-c-eq-RECEIVE.false, ne_eqb c.args.c c_text c.if-c-eq-TEXT.false, ne_eqb c.args.c c_run c.if-c-eq-RUN.false, ne_eqb c.args.c c_set_run c.if-c-eq-SET_RUN.false)

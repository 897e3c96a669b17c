-- Bridge, for `demand2` (crate `demands`).
-- The stage that tables and a state make: docs/TABLES.md. `t` are tables, `s` the state before the step, p the number of the process; `decl` has for each name the item that declares it
-- (specs/Scenes.antt), `unit` for each proctype the item that begins it.
use Rattle.std.specs.Prelude.{ℕ, ◌+◌, ◌-◌, ◌≡◌, List, set, ℤ, eqb}
use Rattle.base_codes.specs.Codes.{c_message}
use Rattle.table_layout.specs.Access.{code_of, link_of}
use Rattle.base_values.specs.Types.{cast_of}
use Rattle.state_layout.specs.Layout.{kept, processes_of, declared_of, field_of}
use Rattle.base_bytes.specs.Numbers.{nat}
use Rattle.step_eval.specs.Variables.{type_of, slot_of}
use Rattle.step_ready.specs.Channels.{capacity_of, fields_of}
use Rattle.step_ready.specs.Executing.{fits_of}
use Rattle.step_messages.specs.Messages.{put_in, taken_out}
use Rattle.step_statements.specs.Statements.{moved}
use Rattle.step_take.specs.Effects.{called}
use Rattle.spec_grammar.specs.Tree.{Name, action, Tree, leaf, express, assign, increment, decrement, send, receive, assert, print, skip, goto, break, timeout, else, run, set_run, select, loop}
use Rattle.agree_stage.specs.Scenes.{scene_of}
use Rattle.spec_machine.specs.Stage.{Stage, Ways}
use Rattle.spec_machine.specs.Sizes.{size_in}

abbrev pub stage_in : List ℕ → List ℤ → ℕ → (Name → ℕ) → (Name → ℕ) → Stage (List ℤ)
stage_in t s p decl unit =
    record {
      scene = scene_of t s p decl;
      constant = λ w. eqb (code_of t (decl w)) c_message;
      capacity = λ v. capacity_of t (declared_of s (nat v - 1));
      fields = λ v. fields_of t (declared_of s (nat v - 1));
      message = λ v k f. field_of s (nat v - 1) k f;
      room = λ w. fits_of t s (unit w);
      newest = kept (processes_of s);
      store = λ w k v x. set x (slot_of (link_of t (decl w)) p k) (cast_of (type_of (link_of t (decl w))) v);
      put = λ v k l x. put_in t (nat v - 1) k l x;
      take = λ v k x. taken_out (nat v - 1) k x;
      begin = λ w l x. called t (unit w) l x;
      go = λ n x. moved p n x;
    }

-- the last item of the tree links to the place that follows
abbrev pub LeadsOn : List ℕ → Ways → Tree action → ℕ → Type 0
LeadsOn t h a j = link_of t (j + size_in a - 1) ≡ h.next

-- from the statement at place j the tables lead where the ways do; `if` and `do` are no steps
abbrev pub Leads : List ℕ → Ways → Tree action → ℕ → Type 0
Leads t h (leaf (express e)) j = LeadsOn t h (leaf (express e)) j
Leads t h (leaf (assign r e)) j = LeadsOn t h (leaf (assign r e)) j
Leads t h (leaf (increment r)) j = LeadsOn t h (leaf (increment r)) j
Leads t h (leaf (decrement r)) j = LeadsOn t h (leaf (decrement r)) j
Leads t h (leaf (send mk r es)) j = LeadsOn t h (leaf (send mk r es)) j
Leads t h (leaf (receive mk r xs)) j = LeadsOn t h (leaf (receive mk r xs)) j
Leads t h (leaf (assert e)) j = LeadsOn t h (leaf (assert e)) j
Leads t h (leaf (print w es)) j = LeadsOn t h (leaf (print w es)) j
Leads t h (leaf skip) j = LeadsOn t h (leaf skip) j
Leads t h (leaf (goto w)) j = link_of t (j + 1) ≡ h.label w
Leads t h (leaf break) j = link_of t j ≡ h.out
Leads t h (leaf timeout) j = LeadsOn t h (leaf timeout) j
Leads t h (leaf else) j = LeadsOn t h (leaf else) j
Leads t h (leaf (run w es)) j = LeadsOn t h (leaf (run w es)) j
Leads t h (leaf (set_run r w es)) j = LeadsOn t h (leaf (set_run r w es)) j
Leads t h (select os) j = Unit {0}
Leads t h (loop os) j = Unit {0}

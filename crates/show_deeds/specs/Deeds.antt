-- Mechanism, held to the specification by `deeds-shown` (crate `agree_deeds`).
-- What a step did, read from the tables `t` of a model and the numbers of the states before and after it. A statement is told by its place q and its mark m; a reference stands from an item to before its mark.
use Rattle.std.specs.Prelude.{ℕ, zero, suc, ◌+◌, ◌-◌, List, [], ◌∷◌, ◌++◌, ℤ, eqb, Result, Ok, Err}
use Rattle.base_ceilings.specs.Ceilings.{fields_most}
use Rattle.base_bytes.specs.Choice.{pick}
use Rattle.base_kinds.specs.Kinds.{bytes}
use Rattle.base_codes.specs.Codes.{c_decrement, c_end, c_increment, c_index, c_receive, c_run, c_send, c_set_run, c_target}
use Rattle.base_values.specs.declared.Fault.{Fault}
use Rattle.spec_text.specs.Formats.{digits_of, decimal_of}
use Rattle.table_layout.specs.Access.{code_of, link_of}
use Rattle.state_layout.specs.Layout.{cell_of, processes_of, declared_of, waiting_of}
use Rattle.write_letters.specs.Tokens.{spelled}
use Rattle.step_eval.specs.Variables.{variable_of, slot_of}
use Rattle.step_eval.specs.Expressions.{locate_of}
use Rattle.step_ready.specs.Channels.{fields_of, compared_at}
use Rattle.step_ready.specs.Executing.{mark_of, fits_of, message_of}
use Rattle.show_words.specs.Words.{message_in}

module _ (t : List ℕ) where
  -- the index n, if item r ends a reference that has one
  abbrev pub index_in : ℕ → ℕ → List ℕ
  index_in r n = pick (eqb (code_of t r) c_index) (91 ∷ (digits_of n ++ 93 ∷ [])) []

  -- what stands at place i of the state, which the reference from `from` to before m means for process p
  abbrev pub store_in : List ℤ → ℕ → ℕ → ℕ → ℕ → List ℕ
  store_in s p from m i =
      bytes "\tstored "
      ++ (spelled t from ++ (index_in (m - 1) (i - slot_of (variable_of t (m - 1)) p 0) ++ (32 ∷ (decimal_of (cell_of s i) ++ 10 ∷ []))))

  -- message k of channel c, both from 0
  abbrev pub passed_in : List ℤ → ℕ → ℕ → List ℕ
  passed_in s c k = digits_of (c + 1) ++ (message_in s c k (fields_of t (declared_of s c)) ++ 10 ∷ [])

module _ (t : List ℕ) (before : List ℤ) where
  -- the process that the run with the mark m started, if there was room for it; the name before the mark is that of its proctype
  abbrev pub started_in : ℕ → List ℕ
  started_in m = pick (fits_of t before (link_of t m)) (bytes "\tstarted " ++ (digits_of (processes_of before) ++ (32 ∷ (spelled t (m - 1) ++ 10 ∷ [])))) []

module _ (t : List ℕ) (before after : List ℤ) (p : ℕ) where
  -- ## stores
  abbrev pub stored_by : ℕ → ℕ → Result ℕ Fault → List ℕ
  stored_by from m (Ok i) = store_in t after p from m i
  stored_by from m (Err f) = []

  abbrev pub stored_in : ℕ → ℕ → List ℕ
  stored_in from m = stored_by from m (locate_of t before p from m)

  abbrev pub assigned_in : ℕ → ℕ → List ℕ
  assigned_in q m = stored_in q m ++ pick (eqb (code_of t (link_of t m)) c_set_run) (started_in t before (link_of t m)) []

  -- ## messages
  abbrev pub sent_by : Result ℕ Fault → List ℕ
  sent_by (Ok c) = bytes "\tsent " ++ passed_in t after c (waiting_of before c)
  sent_by (Err f) = []

  abbrev pub sent_in : ℕ → ℕ → List ℕ
  sent_in q m = sent_by (message_of t before p q m)

  -- a received argument; one that is compared is not stored
  abbrev pub target_in : ℕ → ℕ → List ℕ
  target_in a m = pick (compared_at t m) [] (stored_in a m)

  -- at most n of them, from item a on
  unfoldable pub targets_in : ℕ → ℕ → List ℕ
  targets_in zero a = []
  targets_in (suc n) a = pick (eqb (code_of t a) c_end) [] (target_in a (link_of t a) ++ targets_in n (link_of t a + 1))

  abbrev pub received_by : ℕ → Result ℕ Fault → List ℕ
  received_by m (Ok c) = bytes "\treceived " ++ (passed_in t before c 0 ++ targets_in fields_most (m + 1))
  received_by m (Err f) = []

  abbrev pub received_in : ℕ → ℕ → List ℕ
  received_in q m = received_by m (message_of t before p q m)

  -- ## the statement at place q, by the code of its mark m
  unfoldable pub done_by : ℕ → ℕ → ℕ → List ℕ
  done_by c q m =
      pick (eqb c c_target) (assigned_in q m)
      (pick (eqb c c_increment) (stored_in q m)
      (pick (eqb c c_decrement) (stored_in q m)
      (pick (eqb c c_send) (sent_in q m)
      (pick (eqb c c_receive) (received_in q m)
      (pick (eqb c c_run) (started_in t before m) [])))))

  abbrev pub deeds_in : ℕ → List ℕ
  deeds_in q = done_by (code_of t (mark_of t q)) q (mark_of t q)

-- What a derivation writes comes from its tokens: the items are known, numbers are no more than tokens, and bytes no more than the tokens bring.
use mathlib.Core.Path.{◌≡◌}
use mathlib.Core.Bool.{Bool, true, false}
use mathlib.Core.Option.{some}
use mathlib.Core.List.{List, [], ◌∷◌, ◌++◌, map}
use Prim.Native.Nat.{◌≤◌, ◌+◌}
use native.Mathlib.Omega.{arith}
use lib.Dec.{T}
use lib.ListN.{length, length-append}
use Rattle.base_ceilings.specs.Ceilings.{string_most}
use Rattle.base_bytes.specs.Choice.{both}
use Rattle.base_kinds.specs.Kinds.{Token, sym, name, number, text}
use Rattle.parse_grammar.specs.Engine.{nt, tm, act, L, done, emit, eat, by}
use Rattle.parse_grammar.specs.Productions.{NT, e1, e2, e3, e4, e5, e6, e7, e8, e9, e10, t1, t2, t3, t4, t5, t6, t7, t8, t9, t10, n_operand, n_ref, n_ix, n_opened, n_closing, n_argument, n_arguments, n_more_arguments, n_sent, n_received, n_more_received, n_got, n_statement, n_after_name, n_action, n_after_ref, n_right_side, n_other, n_sequence, n_more_statements, n_after_separator, n_option, n_more_options, n_plain_type, n_type, n_value, n_set, n_variable, n_size, n_more_variables, n_chan_variable, n_chan_rest, n_chan_value, n_field, n_more_fields, n_more_chan_variables, n_declaration, n_body, n_items, n_parted, n_more_parted, n_parameters, n_group, n_more_groups, n_parameter, n_more_parameters, n_unit, n_after_mtype, n_message, n_more_messages, n_activity, n_process, n_model, n_more_units, Ter, sy, any_name, any_number, any_text, Right, eats, prods, G}
use Rattle.parse_grammar.proofs.Tests.{is_some_lem}
use Rattle.parse_grammar.proofs.Inst.{all, all_in, sy_in}
use Rattle.base_pens.specs.Pack.{Bytes}
use Rattle.table_entries.specs.Entry.{bytes, joined}
use Rattle.table_entries.specs.Items.{entry_of, Known, is_name_lem, is_text, is_number, AllKnown}
use Rattle.table_proof.specs.Marks.{is_mark, marks_in, brings, brought}
use Rattle.table_proof.proofs.Marks.{both_parts, mark-known, mark-silent}
use Rattle.base_codes.specs.Codes.{c_number}
use Rattle.base_codes.specs.Items.{Item, i_name, i_number, i_text}
use Rattle.table_entries.specs.Entry as E

-- a token within the ceilings
abbrev pub Held : Token → Type 0
Held (sym k) = Unit {0}
Held (name w) = (length w ≤ string_most) × Bytes w
Held (number n) = Unit {0}
Held (text w) = (length w ≤ string_most) × Bytes w

abbrev pub AllHeld : List Token → Type 0
AllHeld [] = Unit {0}
AllHeld (c ∷ w) = Held c × AllHeld w

pub record Drawn (w : List Token) (o : List Item) : Type 0 where
  pub known : AllHeld w → AllKnown o
  pub counted : length (joined E.number (map entry_of o)) ≤ length w
  pub spelled : length (joined bytes (map entry_of o)) ≤ brought w

-- every right side writes marks
tested : (n : NT) → T (all marks_in (prods n))
tested e1 = tt
tested e2 = tt
tested e3 = tt
tested e4 = tt
tested e5 = tt
tested e6 = tt
tested e7 = tt
tested e8 = tt
tested e9 = tt
tested e10 = tt
tested t1 = tt
tested t2 = tt
tested t3 = tt
tested t4 = tt
tested t5 = tt
tested t6 = tt
tested t7 = tt
tested t8 = tt
tested t9 = tt
tested t10 = tt
tested n_operand = tt
tested n_ref = tt
tested n_ix = tt
tested n_opened = tt
tested n_closing = tt
tested n_argument = tt
tested n_arguments = tt
tested n_more_arguments = tt
tested n_sent = tt
tested n_received = tt
tested n_more_received = tt
tested n_got = tt
tested n_statement = tt
tested n_after_name = tt
tested n_action = tt
tested n_after_ref = tt
tested n_right_side = tt
tested n_other = tt
tested n_sequence = tt
tested n_more_statements = tt
tested n_after_separator = tt
tested n_option = tt
tested n_more_options = tt
tested n_plain_type = tt
tested n_type = tt
tested n_value = tt
tested n_set = tt
tested n_variable = tt
tested n_size = tt
tested n_more_variables = tt
tested n_chan_variable = tt
tested n_chan_rest = tt
tested n_chan_value = tt
tested n_field = tt
tested n_more_fields = tt
tested n_more_chan_variables = tt
tested n_declaration = tt
tested n_body = tt
tested n_items = tt
tested n_parted = tt
tested n_more_parted = tt
tested n_parameters = tt
tested n_group = tt
tested n_more_groups = tt
tested n_parameter = tt
tested n_more_parameters = tt
tested n_unit = tt
tested n_after_mtype = tt
tested n_message = tt
tested n_more_messages = tt
tested n_activity = tt
tested n_process = tt
tested n_model = tt
tested n_more_units = tt

marks-append : (r k : Right) → T (marks_in r) → T (marks_in k) → T (marks_in (r ++ k))
marks-append [] k s t = t
marks-append (act a ∷ r) k s t = join (is_mark a) (both_parts (is_mark a) (marks_in r) s) (λ u. marks-append r k u t)
  where
    join : (b : Bool) → T b × T (marks_in r) → (T (marks_in r) → T (marks_in (r ++ k))) → T (both b (marks_in (r ++ k)))
    join true p f = f p.1
    join false p f = p.0
marks-append (tm c ∷ r) k s t = marks-append r k s t
marks-append (nt n ∷ r) k s t = marks-append r k s t

-- one item more
module _ (o : List Item) where
  more_numbers : (i : Item) → length (joined E.number (map entry_of (i ∷ o))) ≡ length (E.number (entry_of i)) + length (joined E.number (map entry_of o))
  unfolding joined
  more_numbers i = length-append (E.number (entry_of i)) (joined E.number (map entry_of o))

  more_bytes : (i : Item) → length (joined bytes (map entry_of (i ∷ o))) ≡ length (entry_of i).bytes + length (joined bytes (map entry_of o))
  unfolding joined
  more_bytes i = length-append (entry_of i).bytes (joined bytes (map entry_of o))

one_most : (i : Item) → length (E.number (entry_of i)) ≤ 1
unfolding E.number
one_most i = by (lib.Dec.eqb (entry_of i).code c_number)
  where
    by : (b : Bool) → length (Rattle.base_bytes.specs.Choice.pick b ((entry_of i).value ∷ []) []) ≤ 1
    by true = omega arith
    by false = omega arith

drawn_none : (c : Token) {w : List Token} {o : List Item} → Drawn w o → Drawn (c ∷ w) o
drawn_none c d = record { known = λ h. d.known h.1; counted = omega (arith, d.counted); spelled = omega (arith, d.spelled) }

drawn_one : (c : Token) (i : Item) {w : List Token} {o : List Item} → (Held c → Known i) → length (entry_of i).bytes ≤ brings c → Drawn w o → Drawn (c ∷ w) (i ∷ o)
drawn_one c i {o = o} k b d =
    record {
      known = λ h. (k h.0, d.known h.1);
      counted = omega (arith, d.counted, more_numbers o i, one_most i);
      spelled = omega (arith, d.spelled, more_bytes o i, b);
    }

drawn_mark : (i : Item) {w : List Token} {o : List Item} → T (is_mark i) → Drawn w o → Drawn w (i ∷ o)
drawn_mark i {o = o} t d =
    record {
      known = λ h. (mark-known i t, d.known h);
      counted = omega (arith, d.counted, more_numbers o i, (mark-silent i t).1);
      spelled = omega (arith, d.spelled, more_bytes o i, (mark-silent i t).0);
    }

eaten : (t : Ter) (c : Token) (a : List Item) {w : List Token} {o : List Item} → eats t c ≡ some a → Drawn w o → Drawn (c ∷ w) (a ++ o)
eaten (sy j) (sym k) a e d = rw (← (sy_in j k a e).1) (drawn_none (sym k) d)
eaten (sy j) (name v) a e d = absurd (is_some_lem e)
eaten (sy j) (number n) a e d = absurd (is_some_lem e)
eaten (sy j) (text v) a e d = absurd (is_some_lem e)
eaten any_name (sym k) a e d = absurd (is_some_lem e)
eaten any_name (name v) a e d = let h : i_name v ∷ [] ≡ a = cc in rw (← h) (drawn_one (name v) (i_name v) (λ p. is_name_lem p.0 p.1) (omega arith) d)
eaten any_name (number n) a e d = absurd (is_some_lem e)
eaten any_name (text v) a e d = absurd (is_some_lem e)
eaten any_number (sym k) a e d = absurd (is_some_lem e)
eaten any_number (name v) a e d = absurd (is_some_lem e)
eaten any_number (number n) a e d = let h : i_number n ∷ [] ≡ a = cc in rw (← h) (drawn_one (number n) (i_number n) (λ p. is_number) (omega arith) d)
eaten any_number (text v) a e d = absurd (is_some_lem e)
eaten any_text (sym k) a e d = absurd (is_some_lem e)
eaten any_text (name v) a e d = absurd (is_some_lem e)
eaten any_text (number n) a e d = absurd (is_some_lem e)
eaten any_text (text v) a e d = let h : i_text v ∷ [] ≡ a = cc in rw (← h) (drawn_one (text v) (i_text v) (λ p. is_text p.0 p.1) (omega arith) d)

nothing_drawn : Drawn [] []
unfolding joined
nothing_drawn = record { known = λ h. tt; counted = omega arith; spelled = omega arith }

pub drawn : {k : Right} {w : List Token} {o : List Item} → L G k w o → T (marks_in k) → Drawn w o
drawn done t = nothing_drawn
drawn (emit {a = a} {k = k} d) t = let p = both_parts (is_mark a) (marks_in k) t in drawn_mark a p.0 (drawn d p.1)
drawn (eat {t = x} {c = c} {a = a} e d) t = eaten x c a e (drawn d t)
drawn (by {n = n} {r = r} {k = k} i d) t = drawn d (marks-append r k (all_in marks_in (prods n) (tested n) r i) t)

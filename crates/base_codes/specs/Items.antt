-- Mechanism, held to the specification by `parse-sound`, `parse_complete` (crate `parse_grammar`), `code_of` by `text-tables` (crate `read_accepts_proof`).
-- The items of a tree's code (specs/Code.antt of `parse_code`), each with its code; whatever sorts items asks for that.
use Rattle.std.specs.Prelude.{ℕ, ◌+◌, List, eqb}
use Rattle.base_bytes.specs.Choice.{pick}
use Rattle.base_codes.specs.Codes.{c_active, c_active_many, c_argument, c_assert, c_assign, c_body, c_break, c_channel, c_choice, c_constant, c_declared, c_decrement, c_do, c_else, c_end, c_end_body, c_end_option, c_equal, c_express, c_false, c_fi, c_field, c_global, c_goto, c_group, c_if, c_increment, c_index, c_init, c_into, c_label, c_len, c_local, c_message, c_minus, c_mtypes, c_name, c_named, c_negate, c_number, c_od, c_option, c_or_else, c_otherwise, c_parameter, c_plain, c_proctype, c_receive, c_run, c_send, c_set_run, c_size, c_skip, c_target, c_text, c_timeout, c_true, c_value}

-- names, strings and numbers hold what their tokens hold, types and operators their kinds; any other item is a mark, which holds its code, and the kind of its token too where there may be several
pub data Item : Type 0 where
  i_name i_text : List ℕ → Item
  i_number i_type i_unary i_binary i_mark : ℕ → Item
  i_operator : ℕ → ℕ → Item

abbrev pub code_of : Item → ℕ
code_of (i_name w) = c_name
code_of (i_text w) = c_text
code_of (i_number n) = c_number
code_of (i_type k) = 130 + k
code_of (i_unary o) = pick (eqb o 15) c_negate (c_or_else + o)
code_of (i_binary o) = 146 + o
code_of (i_mark c) = c
code_of (i_operator c o) = c

-- ---- the marks
abbrev pub i_plain : Item
i_plain = i_mark c_plain

abbrev pub i_index : Item
i_index = i_mark c_index

abbrev pub i_true : Item
i_true = i_mark c_true

abbrev pub i_false : Item
i_false = i_mark c_false

abbrev pub i_query : ℕ → Item
i_query o = i_operator c_len o

abbrev pub i_otherwise : Item
i_otherwise = i_mark c_otherwise

abbrev pub i_choice : Item
i_choice = i_mark c_choice

abbrev pub i_argument : Item
i_argument = i_mark c_argument

abbrev pub i_into : Item
i_into = i_mark c_into

abbrev pub i_equal : Item
i_equal = i_mark c_equal

abbrev pub i_constant : Item
i_constant = i_mark c_constant

abbrev pub i_end : Item
i_end = i_mark c_end

abbrev pub i_label : Item
i_label = i_mark c_label

abbrev pub i_express : Item
i_express = i_mark c_express

abbrev pub i_target : Item
i_target = i_mark c_target

abbrev pub i_assign : Item
i_assign = i_mark c_assign

abbrev pub i_increment : Item
i_increment = i_mark c_increment

abbrev pub i_decrement : Item
i_decrement = i_mark c_decrement

abbrev pub i_send : ℕ → Item
i_send o = i_operator c_send o

abbrev pub i_receive : ℕ → Item
i_receive o = i_operator c_receive o

abbrev pub i_assert : Item
i_assert = i_mark c_assert

abbrev pub i_skip : Item
i_skip = i_mark c_skip

abbrev pub i_goto : Item
i_goto = i_mark c_goto

abbrev pub i_break : Item
i_break = i_mark c_break

abbrev pub i_timeout : Item
i_timeout = i_mark c_timeout

abbrev pub i_else : Item
i_else = i_mark c_else

abbrev pub i_run : Item
i_run = i_mark c_run

abbrev pub i_set_run : Item
i_set_run = i_mark c_set_run

abbrev pub i_if : Item
i_if = i_mark c_if

abbrev pub i_fi : Item
i_fi = i_mark c_fi

abbrev pub i_do : Item
i_do = i_mark c_do

abbrev pub i_od : Item
i_od = i_mark c_od

abbrev pub i_option : Item
i_option = i_mark c_option

abbrev pub i_end_option : Item
i_end_option = i_mark c_end_option

abbrev pub i_local : Item
i_local = i_mark c_local

abbrev pub i_global : Item
i_global = i_mark c_global

abbrev pub i_declared : Item
i_declared = i_mark c_declared

abbrev pub i_size : Item
i_size = i_mark c_size

abbrev pub i_value : Item
i_value = i_mark c_value

abbrev pub i_minus : Item
i_minus = i_mark c_minus

abbrev pub i_named : Item
i_named = i_mark c_named

abbrev pub i_channel : Item
i_channel = i_mark c_channel

abbrev pub i_field : Item
i_field = i_mark c_field

abbrev pub i_mtypes : Item
i_mtypes = i_mark c_mtypes

abbrev pub i_message : Item
i_message = i_mark c_message

abbrev pub i_group : Item
i_group = i_mark c_group

abbrev pub i_parameter : Item
i_parameter = i_mark c_parameter

abbrev pub i_proctype : Item
i_proctype = i_mark c_proctype

abbrev pub i_active : Item
i_active = i_mark c_active

abbrev pub i_active_many : Item
i_active_many = i_mark c_active_many

abbrev pub i_init : Item
i_init = i_mark c_init

abbrev pub i_body : Item
i_body = i_mark c_body

abbrev pub i_end_body : Item
i_end_body = i_mark c_end_body

-- What the code of a leaf begins and ends with.
use mathlib.Core.Path.{◌≡◌, refl}
use mathlib.Core.List.{List, [], ◌∷◌, ◌++◌, append_assoc}
use Rattle.base_codes.specs.Items.{i_assert, i_assign, i_decrement, i_end, i_express, i_increment, i_name, i_receive, i_send, i_set_run, i_target}
use Rattle.base_codes.specs.Sets.{is_alone, is_lead}
use Rattle.spec_grammar.specs.Tree.{expression, reference, Leaf, express, assign, increment, decrement, send, receive, assert, print, skip, goto, break, timeout, else, run, set_run}
use Rattle.parse_code.specs.Code.{each, code_exp, code_argument, code_received, code_leaf}
use Rattle.parse_parts_proof.specs.Parts.{Begun, alone, with_text, with_name, with_phrase}

pub begun : (l : Leaf) → Begun (code_leaf l)
unfolding is_alone is_lead
begun (express e) = with_phrase expression e i_express [] refl refl
begun (assign r e) = with_phrase reference r i_target (code_exp e ++ i_assign ∷ []) (append_assoc (code_exp r) (i_target ∷ code_exp e) (i_assign ∷ [])) refl
begun (increment r) = with_phrase reference r i_increment [] refl refl
begun (decrement r) = with_phrase reference r i_decrement [] refl refl
begun (send o r es) = with_phrase reference r (i_send o) (each code_argument es ++ i_end ∷ []) (append_assoc (code_exp r) (i_send o ∷ each code_argument es) (i_end ∷ [])) refl
begun (receive o r xs) = with_phrase reference r (i_receive o) (each code_received xs ++ i_end ∷ []) (append_assoc (code_exp r) (i_receive o ∷ each code_received xs) (i_end ∷ [])) refl
begun (assert e) = with_phrase expression e i_assert [] refl refl
begun (print w es) = with_text refl
begun skip = alone refl refl
begun (goto w) = with_name refl refl
begun break = alone refl refl
begun timeout = alone refl refl
begun else = alone refl refl
begun (run w es) = with_name refl refl
begun (set_run r w es) = with_phrase reference r i_target (i_name w ∷ i_set_run ∷ each code_argument es ++ i_end ∷ []) (append_assoc (code_exp r) (i_target ∷ i_name w ∷ i_set_run ∷ each code_argument es) (i_end ∷ [])) refl

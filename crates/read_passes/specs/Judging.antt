-- Mechanism, held to the specification by `read_legal`, `legal_read` (crate `legal_texts`), the tables by `tree_tables`, `tables_tree` (crate `read_accepts_proof`), `laid` by `text-laid` (same crate); `left` by no theorem.
-- All passes of the reader in their order, and the place of each refusal: document 01, "What is answered, and what stays behind":
-- "then length, then bytes and tokens (1, 2), then grammar with bracket and if/do depth (2, 3), then names and rules (2, 4, 5), then 6".
use Rattle.std.specs.Prelude.{Bool, false, List, [], map, ℕ, ◌-◌, ◌*◌, min, ltb, length, get_or, take, replicate, Result, Ok, Err}
use Rattle.base_ceilings.specs.Ceilings.{items_most, normal_most, tables_room}
use Rattle.base_bytes.specs.Choice.{pick, both}
use Rattle.text_tokens.specs.Reading.{Reading, tokens, refused, reading}
use Rattle.spec_text.specs.Placed.{Placed}
use Rattle.parse_machine.specs.Machine.{symbol_of, place_of}
use Rattle.parse_machine.specs.Answer.{Answer, items, refuse, parsed}
use Rattle.rule_sheets.specs.Payload.{args_of}
use Rattle.rule_least.specs.Faults.{checked}
use Rattle.rule_least.specs.declared.Fault.{Fault}
use Rattle.rule_least.specs.declared.Fault.TheVariants.{None, At}
use Rattle.rule_ceilings.specs.Ceilings.{passed}
use Rattle.write_length.specs.Overlong.{overlong}
use Rattle.link_items.specs.Links.{links_of}
use Rattle.base_pens.specs.Pen.{pen, puts}
use Rattle.table_entries.specs.Sources.{entries_of}
use Rattle.table_layout.specs.Tables.{tables_of}
use Rattle.base_refusal.specs.declared.Refusal.{Refusal}
use Rattle.base_refusal.specs.Refusals.{refusal}

-- a refusal numbered x at token k of a text of n bytes, whose tokens begin and end at these places: at the token, or an empty part at the end
unfoldable pub at_token : ℕ → List ℕ → List ℕ → ℕ → ℕ → Refusal
at_token n ss es x k = pick (ltb k (length ss)) (refusal x (get_or ss k 0) (get_or es k 0 - get_or ss k 0)) (refusal x n 0)

-- "then names and rules (2, 4, 5), then 6"
abbrev pub ruled : ℕ → List ℕ → List ℕ → Fault → Bool → Result (Unit {0}) Refusal
ruled n ss es (At x k) over = Err (at_token n ss es x k)
ruled n ss es None over = pick over (Err (refusal 6 0 0)) (Ok tt)

-- the items' payload, in room for 8,192 items
abbrev pub payload : List ℕ → List ℕ → List ℕ → List ℕ → List ℕ → List ℕ
payload t ss es cs ks = args_of t ss es cs ks (replicate items_most 0)

-- a text whose grammar is right, from its items' numbers and tokens
unfoldable pub by_rules : List ℕ → List ℕ → List ℕ → List ℕ → List ℕ → Result (Unit {0}) Refusal
by_rules t ss es cs ks = ruled (length t) ss es (checked cs (payload t ss es cs ks) ks) (passed cs (payload t ss es cs ks))

-- "then grammar with bracket and if/do depth (2, 3)"
abbrev pub grammatical : List ℕ → List ℕ → List ℕ → Answer → Result (Unit {0}) Refusal
grammatical t ss es (items os) = by_rules t ss es (map symbol_of os) (map place_of os)
grammatical t ss es (refuse x k) = Err (at_token (length t) ss es x k)

-- the tokens of a text, by their kinds and places
unfoldable pub by_grammar : List ℕ → List ℕ → List ℕ → List ℕ → Result (Unit {0}) Refusal
by_grammar t ks ss es = grammatical t ss es (parsed ks items_most)

-- "then length, then bytes and tokens (1, 2)"
abbrev pub lexical : List ℕ → Reading → Result (Unit {0}) Refusal
lexical t (tokens ps) = by_grammar t (map Placed.kind ps) (map Placed.start ps) (map Placed.end ps)
lexical t (refused x i n) = Err (refusal x i n)

-- what all passes say
abbrev pub pass_of : List ℕ → Result (Unit {0}) Refusal
pass_of t = lexical t (reading t)

-- ---- the tables that are built of a text that is accepted, and what they leave in a lent list
unfoldable pub tables_from : List ℕ → List ℕ → List ℕ → List ℕ → List ℕ → List ℕ
tables_from t ss es cs ks = tables_of (entries_of t ss es cs ks) (links_of cs (payload t ss es cs ks) (replicate items_most 0))

abbrev pub tables_by : List ℕ → List ℕ → List ℕ → Answer → List ℕ
tables_by t ss es (items os) = tables_from t ss es (map symbol_of os) (map place_of os)
tables_by t ss es (refuse x k) = []

unfoldable pub tables_at : List ℕ → List ℕ → List ℕ → List ℕ → List ℕ
tables_at t ks ss es = tables_by t ss es (parsed ks items_most)

abbrev pub tables_read : List ℕ → Reading → List ℕ
tables_read t (tokens ps) = tables_at t (map Placed.kind ps) (map Placed.start ps) (map Placed.end ps)
tables_read t (refused x i n) = []

abbrev pub tables_text : List ℕ → List ℕ
tables_text t = tables_read t (reading t)

-- at the front, as far as the list reaches
abbrev pub laid : List ℕ → List ℕ → List ℕ
laid ts old = (puts ts (pen old 0)).list

-- "A refusal changes no lent number"
abbrev pub left : Result (Unit {0}) Refusal → List ℕ → List ℕ → List ℕ
left (Ok u) ts old = laid ts old
left (Err r) ts old = old

-- ---- "one whose normal text exceeds 8,192 is refused with 6" (request One): asked of a text that all passes let through, and only if it is itself longer, as none is shorter than its normal text
-- room for the tables of any text of the grammar
abbrev pub wide_room : ℕ
wide_room = 2 * tables_room

-- the tables that stand at the front of a list: their first number says how many there are
abbrev pub front : List ℕ → List ℕ
front l = take (min (get_or l 0 0) wide_room) l

abbrev pub is_wide : Result (Unit {0}) Refusal → List ℕ → Bool
is_wide (Ok u) ts = overlong (front (laid ts (replicate wide_room 0)))
is_wide (Err r) ts = false

unfoldable pub wide_text : List ℕ → Bool
wide_text t = both (ltb normal_most (length t)) (is_wide (pass_of t) (tables_text t))

abbrev pub judge_of : List ℕ → Result (Unit {0}) Refusal
judge_of t = pick (wide_text t) (Err (refusal 6 0 0)) (pass_of t)

-- Bridge, for `demand2` (crate `demands`).
-- How the items of a model follow one another, over their codes alone: a scan from the first to the last that knows, before each item, in which part of a unit it stands, how
-- many selections and loops are open, and what the items just before it were. Document 01, "Grammar"; the items and their order are those of specs/Code.antt of `parse_code`.
use Rattle.std.specs.Prelude.{ℕ, zero, suc, ◌+◌, ◌-◌, ◌<◌, ◌≡◌, Bool, true, false, not, List, length, get_or, eqb, ltb}
use Rattle.base_codes.specs.Codes.{c_active_many, c_argument, c_assign, c_body, c_channel, c_choice, c_complement, c_constant, c_declared, c_do, c_end, c_end_body, c_end_option, c_false, c_fi, c_if, c_increment, c_index, c_into, c_label, c_len, c_name, c_number, c_od, c_option, c_or_else, c_parameter, c_plain, c_receive, c_set_run, c_target, c_text, c_true}
use Rattle.base_codes.specs.Sets.{within, is_unit, is_part, is_alone, is_lead, is_opener}
use Rattle.base_bytes.specs.Choice.{pick, both, either}

pub record Form : Type 0 where
  -- 0 in no unit with a body, 1 behind the item that begins one, 2 in its body
  pub zone : ℕ
  pub depth : ℕ
  pub loops : ℕ
  -- the item before is part of an expression; it ends a reference
  pub part : Bool
  pub ref : Bool
  -- the last mark was a target; arguments go on
  pub aim : Bool
  pub args : Bool
  -- 1 behind an option, 2 behind a label, 3 behind the name that an option begins with, 4 behind more of a statement's first phrase
  pub stage : ℕ
  -- 1 behind a declared name, 2 behind the number that follows it, 3 behind any other number, 4 behind a name that follows a number
  pub near : ℕ

abbrev pub form : ℕ → ℕ → ℕ → Bool → Bool → Bool → Bool → ℕ → ℕ → Form
form z o l p r m a g n = record { zone = z; depth = o; loops = l; part = p; ref = r; aim = m; args = a; stage = g; near = n }

-- ## sets of codes
-- name, number, true, false: what a phrase begins with
abbrev pub leaf : ℕ → Bool
leaf c = either (within c_name c_number c) (within c_true c_false c)

-- the other parts of expressions stand behind a part
abbrev pub joins : ℕ → Bool
joins c = either (within c_or_else c_complement c) (either (within c_plain c_index c) (within c_len c_choice c))

-- what stands behind a reference: len, into, target, increment, decrement, send, receive
abbrev pub refers : ℕ → Bool
refers c = either (either (eqb c c_len) (eqb c c_into)) (either (eqb c c_target) (within c_increment c_receive c))

-- what stands in bodies alone, but for names, numbers, true and false
abbrev pub inner : ℕ → Bool
inner c = either (eqb c c_text) (either (within c_or_else c_complement c) (either (within c_plain c_index c) (within c_len c_end_option c)))

-- ## one item more
unfoldable pub step : Form → ℕ → Form
step s c =
    form (pick (is_unit c) 1 (pick (eqb c c_body) 2 (pick (eqb c c_end_body) 0 s.zone)))
    (pick (either (eqb c c_if) (eqb c c_do)) (s.depth + 1) (pick (either (eqb c c_fi) (eqb c c_od)) (s.depth - 1) s.depth))
    (pick (eqb c c_do) (s.loops + 1) (pick (eqb c c_od) (s.loops - 1) s.loops))
    (is_part c) (within c_plain c_index c)
    (pick (is_part c) s.aim (eqb c c_target))
    (pick (is_opener c) true (pick (eqb c c_end) false s.args))
    (pick (eqb c c_option) 1 (pick (eqb c c_label) 2 (pick (is_part c) (pick (eqb s.stage 1) (pick (eqb c c_name) 3 4) (pick (eqb s.stage 0) 0 4)) 0)))
    (pick (eqb c c_declared) 1 (pick (eqb c c_number) (pick (eqb s.near 1) 2 3) (pick (both (eqb c c_name) (within 2 3 s.near)) 4 0)))

-- may it stand there?
unfoldable pub fits : Form → ℕ → Bool
fits s c =
    -- units, bodies and their ends; an end with nothing open; statements in bodies; parameters before them
    both (pick (is_unit c) (eqb s.zone 0) true)
    (both (pick (eqb c c_body) (eqb s.zone 1) true)
    (both (pick (eqb c c_end_body) (both (eqb s.zone 2) (both (eqb s.depth 0) (eqb s.loops 0))) true)
    (both (pick (inner c) (eqb s.zone 2) true)
    (both (pick (eqb c c_parameter) (eqb s.zone 1) true)
    -- phrases, and labels behind their names
    (both (pick (either (joins c) (eqb c c_label)) s.part true)
    (both (pick (refers c) s.ref true)
    -- behind a target an assignment or `v = run`
    (both (pick (is_part c) true (pick s.aim (either (eqb c c_assign) (eqb c c_set_run)) true))
    -- fi, od and the end of an option in a selection, od in a loop
    (both (pick (either (eqb c c_fi) (either (eqb c c_od) (eqb c c_end_option))) (ltb 0 s.depth) true)
    (both (pick (eqb c c_od) (ltb 0 s.loops) true)
    -- a channel's number stands behind the declared name
    (both (pick (eqb c c_channel) (eqb s.near 2) true)
    -- active-many behind its number and its name
    (both (pick (eqb c c_active_many) (eqb s.near 4) true)
    -- an option begins with a statement, which may have one label
    (both (pick (either (is_alone c) (either (leaf c) s.part)) true (not (within 1 2 s.stage)))
    (both (pick (either (either (is_part c) (is_lead c)) (either (not s.part) (either s.args s.aim))) true (pick (ltb 2 s.stage) (both (eqb c c_label) (eqb s.stage 3)) true))
    -- arguments, each a phrase and its mark, and then their end
    (pick (is_part c) true (pick s.args (pick (eqb c c_end) (not s.part) (both (within c_argument c_constant c) s.part)) true)))))))))))))))

-- before the first item
abbrev pub fresh : Form
fresh = form 0 0 0 false false false false 0 0

-- before item j
unfoldable pub form_at : List ℕ → ℕ → Form
form_at cs zero = fresh
form_at cs (suc j) = step (form_at cs j) (get_or cs j 0)

-- each of these items fits where it stands, and no unit is left open
pub record Formed (cs : List ℕ) : Type 0 where
  pub each : (j : ℕ) → j < length cs → fits (form_at cs j) (get_or cs j 0) ≡ true
  pub shut : (form_at cs (length cs)).zone ≡ 0

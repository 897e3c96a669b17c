-- Mechanism, held to the specification by `lines-laid` (crate `layout_trees_proof`).
-- Tokens laid out in lines, where all that is known of what stands before a token is: the kind of the last one, a place, how many selections are open, and whether the last one ended its line.
-- Request One; that this is the layout of the tree whose tokens they are is proved in `layout_trees_proof`.
use Rattle.std.specs.Prelude.{Bool, false, List, [], ◌∷◌, ◌++◌, ℕ, ◌+◌, ◌-◌, ◌*◌, min, eqb, leb, replicate}
use Rattle.base_bytes.specs.Choice.{pick, both, either}
use Rattle.base_kinds.specs.Kinds.{Token, kind_of, string_kind}
use Rattle.spec_grammar.specs.Marks.{'lbrace, 'rbrace, 'semi, '::, 'active, 'do, 'fi, 'if, 'init, 'od, 'proctype}
use Rattle.parse_grammar.specs.Marks.{'bit, 'int}
use Rattle.spec_grammar.specs.Depth.{count_after}
use Rattle.write_letters.specs.Tokens.{behind}

-- ## places: before all units; among units that have no body; in a body; in a head; `in_list` more in a list in braces, of an `mtype` or a channel, at that place
abbrev pub p_start : ℕ
p_start = 0

abbrev pub p_unit : ℕ
p_unit = 1

abbrev pub p_body : ℕ
p_body = 2

abbrev pub p_head : ℕ
p_head = 3

abbrev pub in_list : ℕ
in_list = 4

-- the kind of a fixed token
abbrev pub is : Token → ℕ → Bool
is c k = eqb k (kind_of c)

abbrev pub begins_head : ℕ → Bool
begins_head k = either (is 'active k) (either (is 'init k) (is 'proctype k))

-- a type, or the beginning of a head
abbrev pub begins_unit : ℕ → Bool
begins_unit k = either (both (leb (kind_of 'bit) k) (leb k (kind_of 'int))) (begins_head k)

-- the place behind a token of kind k at place p: a brace in a head opens its body, any other a list
unfoldable pub place_behind : ℕ → ℕ → ℕ
place_behind p k =
    pick (leb in_list p) (pick (is 'rbrace k) (p - in_list) p)
    (pick (eqb p p_head) (pick (is 'lbrace k) p_body p_head)
    (pick (eqb p p_body) (pick (is 'lbrace k) (p_body + in_list) (pick (is 'rbrace k) p_unit p_body)) (pick (begins_head k) p_head (pick (is 'lbrace k) (p_unit + in_list) p_unit))))

-- how many bodies a place stands inside
unfoldable pub bodies : ℕ → ℕ
bodies p = pick (either (eqb p p_body) (eqb p (p_body + in_list))) 1 0

-- `if` and `do` open a selection, `fi` and `od` close one
abbrev pub opens : ℕ → Bool
opens k = either (is 'if k) (is 'do k)

abbrev pub closes : ℕ → Bool
closes k = either (is 'fi k) (is 'od k)

-- how many are open behind a token of kind k
abbrev pub open_behind : ℕ → ℕ → ℕ
open_behind k s = count_after (opens k) (closes k) s

-- a line begins with a token: a unit's first, a body's braces, `fi`, `od`, `::`
unfoldable pub starts_line : ℕ → ℕ → Bool
starts_line p k =
    either (both (eqb p p_unit) (begins_unit k))
    (either (both (eqb p p_head) (is 'lbrace k)) (either (both (eqb p p_body) (is 'rbrace k)) (either (closes k) (is ':: k))))

-- a line ends with a token: a body's `{`, `;` in a body, `if`, `do`, `::`
unfoldable pub ends_line : ℕ → ℕ → Bool
ends_line p k = either (both (eqb p p_head) (is 'lbrace k)) (either (both (eqb p p_body) (is 'semi k)) (either (opens k) (is ':: k)))

-- how deep a line stands that begins with a token of kind k: what opens or closes stands outside
abbrev pub depth_at : ℕ → ℕ → ℕ → ℕ
depth_at p s k = min s (open_behind k s) + min (bodies p) (bodies (place_behind p k))

-- the line end and the margin before a token that begins a line, and the kind before a token on its line: behind a string nothing joins
abbrev pub margin_if : Bool → ℕ → List ℕ
margin_if b d = pick b (10 ∷ replicate (2 * d) 32) []

abbrev pub kind_before : Bool → ℕ → ℕ
kind_before b k = pick b string_kind k

-- the token b, of kind c, behind one of kind k; `new`: it begins a line
abbrev pub laid_next : Bool → ℕ → ℕ → ℕ → ℕ → Token → List ℕ
laid_next new k p s c b = margin_if new (depth_at p s c) ++ behind (kind_before new k) b

-- the tokens behind one of kind k at place p, where s selections are open; `ended`: that token ended its line
unfoldable pub lay_after : ℕ → ℕ → ℕ → Bool → List Token → List ℕ
lay_after k p s ended [] = 10 ∷ []
lay_after k p s ended (b ∷ ts) =
    laid_next (either ended (starts_line p (kind_of b))) k p s (kind_of b) b ++ lay_after (kind_of b) (place_behind p (kind_of b)) (open_behind (kind_of b) s) (ends_line p (kind_of b)) ts

-- all of them
abbrev pub lay_all : List Token → List ℕ
lay_all ts = lay_after string_kind p_start 0 false ts

-- Mechanism: the definitions that texts are read and judged with, so that their answers are computed, and the way the examples are written; held to nothing else.
use Rattle.std.specs.Prelude.{◌≡◌, List, [], ◌++◌, map, ℕ, zero, suc, Result}
use Prim.Native.String.{String}
use Rattle.base_kinds.specs.Kinds.{bytes}
use Rattle.base_bytes.specs.Lists as base
use Rattle.spec_text.specs.Find as spellings
use Rattle.spec_text.specs.Digits as digits
use Rattle.spec_text.specs.Formats as formats
use Rattle.text_pieces.specs.Pieces as lexemesPieces
use Rattle.text_pieces.specs.Spans as lexemesSpans
use Rattle.text_tokens.specs.Reading as lexis
use Rattle.parse_tables.specs.Tables as productions
use Rattle.parse_machine.specs.Answer as machineAnswer
use Rattle.parse_machine.specs.Depth as machineDepth
use Rattle.parse_machine.specs.Machine as machineMachine
use Rattle.rule_sheets.specs.Homes as sheetsHomes
use Rattle.rule_sheets.specs.Payload as sheetsPayload
use Rattle.rule_sheets.specs.Spans as sheetsSpans
use Rattle.rule_sheets.specs.Walks as sheetsWalks
use Rattle.rule_search.specs.Search as findingSearch
use Rattle.base_codes.specs.Sets as codeSets
use Rattle.rule_search.specs.Sets as findingSets
use Rattle.rule_item.specs.Rules as rules
use Rattle.rule_least.specs.Faults as faults
use Rattle.rule_ceilings.specs.Ceilings as ceilings
use Rattle.read_passes.specs.Judging as judging
use Rattle.read_passes.specs.Judging.{judge_of}
use Rattle.base_refusal.specs.declared.Refusal.{Refusal}

-- to unfold this is to unfold all that the texts are read and judged with
unfoldable pub reads : Unit {0}
unfolding
    base.same
    spellings.find
    lexemesPieces.piece_of lexemesSpans.span digits.decimal_from lexemesSpans.closing lexemesSpans.quoted
    lexis.read_from
    productions.choices productions.bases productions.rights productions.production_by productions.production productions.span productions.right
    machineAnswer.parsed machineDepth.deep machineMachine.column machineMachine.write machineMachine.eat machineMachine.expand machineMachine.step_on machineMachine.run
    sheetsHomes.inside_of sheetsHomes.home_of sheetsHomes.homes_of sheetsPayload.spelled sheetsPayload.same_name sheetsPayload.first_same sheetsPayload.name_arg sheetsPayload.arg_of
    sheetsPayload.args_of sheetsSpans.shape_of sheetsSpans.start_of sheetsSpans.height_of sheetsSpans.starts_of sheetsSpans.heights_of sheetsWalks.first sheetsWalks.after
    sheetsWalks.sum sheetsWalks.filled
    findingSearch.declares findingSearch.find findingSearch.lookup findingSearch.last findingSearch.opener findingSearch.one findingSearch.count findingSets.among
    rules.is_array rules.is_chan rules.role_of rules.bad_variable rules.bad_use rules.bad_ref rules.bad_twice rules.bad_named rules.bad_goto rules.global_of rules.bad_run rules.body_of
    rules.bad_passing rules.bad_count rules.bad_end rules.bad_break rules.depth_on rules.twin_at rules.twin rules.bad_else rules.bad_second rules.bad_size rules.bad_field
    rules.bad_format rules.bad_height rules.bad_by codeSets.rule_of
    formats.format_from
    faults.place_by faults.sooner faults.joined faults.least_from faults.least_of faults.checked
    ceilings.numbers_at ceilings.numbers ceilings.starts_at ceilings.makes_at ceilings.wide_at ceilings.heavy_at ceilings.one ceilings.weight ceilings.total ceilings.any_passed
    ceilings.passed
    judging.wide_text
    judging.at_token judging.by_rules judging.by_grammar
reads = tt

-- each text beside its answer
abbrev pub right : List (List ℕ × Result (Unit {0}) Refusal) → Type 0
right l = map (λ p. judge_of p.0) l ≡ map (λ p. p.1) l

-- s n times
abbrev pub times : ℕ → String → List ℕ
times zero s = []
times (suc n) s = bytes s ++ times n s

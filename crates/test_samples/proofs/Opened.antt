-- The definitions that the samples compute with, on the way from the bytes of a text to its answer: to unfold one of these three is to unfold all that its line names.
use Rattle.base_bytes.specs.Lists as base
use Rattle.spec_text.specs.Find as spellings
use Rattle.text_pieces.specs.Pieces as lexemesPieces
use Rattle.text_pieces.specs.Spans as lexemesSpans
use Rattle.spec_text.specs.Digits as lexemesDigits
use Rattle.text_tokens.specs.Reading as lexis
use Rattle.parse_tables.specs.Tables as productions
use Rattle.parse_machine.specs.Answer as machineAnswer
use Rattle.parse_machine.specs.Depth as machineDepth
use Rattle.parse_machine.specs.Machine as machineMachine
use Rattle.rule_sheets.specs.Homes as sheetsHomes
use Rattle.rule_sheets.specs.Payload as sheetsPayload
use Rattle.rule_sheets.specs.Spans as sheetsSpans
use Rattle.rule_sheets.specs.Walks as sheetsWalks
use Rattle.rule_search.specs.Search as findingSearch
use Rattle.base_codes.specs.Sets as codeSets
use Rattle.rule_search.specs.Sets as findingSets
use Rattle.rule_item.specs.Rules as rules
use Rattle.rule_least.specs.Faults as faults
use Rattle.rule_ceilings.specs.Ceilings as ceilings
use Rattle.link_places.specs.Places as places
use Rattle.link_items.specs.Links as links
use Rattle.table_entries.specs.Entry as entriesEntry
use Rattle.table_entries.specs.Sources as entriesSources
use Rattle.base_pens.specs.Pack as pens
use Rattle.table_layout.specs.Access as tablesAccess
use Rattle.table_layout.specs.Back as tablesBack
use Rattle.table_layout.specs.Tables as tablesTables
use Rattle.read_passes.specs.Judging as judging
use Rattle.read_entry.specs.Entries as reader
use Rattle.base_values.specs.Operators as valueOperators
use Rattle.base_values.specs.Types as valueTypes
use Rattle.state_layout.specs.Walks as frames
use Rattle.step_eval.specs.Expressions as evaluatingExpressions
use Rattle.step_eval.specs.Variables as evaluatingVariables
use Rattle.state_start.specs.Starting as startingStarting
use Rattle.state_start.specs.Values as startingValues
use Rattle.step_ready.specs.Executing as executing
use Rattle.step_offers.specs.Offers as offering
use Rattle.spec_machine.specs.Machine as machine
use Rattle.step_prints.specs.Printing as printing
use Rattle.step_statements.specs.Statements as statements
use Rattle.step_take.specs.Effects as effects
use Rattle.write_letters.specs.Tokens as lettering
use Rattle.write_rows.specs.Rules as patterns
use Rattle.write_texts.specs.Normal as writerNormal
use Rattle.write_texts.specs.Turning as writerTurning
use Rattle.spec_text.specs.Writing as spacing
use Rattle.spec_text.specs.Formats as formats

-- reading a text, judging it, and its tables
unfoldable pub reads : Unit {0}
unfolding
    base.same
    spellings.find
    lexemesPieces.piece_of lexemesSpans.span lexemesDigits.decimal_from lexemesSpans.closing lexemesSpans.quoted
    lexis.read_from
    productions.choices productions.bases productions.rights productions.production_by productions.production productions.span productions.right
    machineAnswer.parsed machineDepth.deep machineMachine.column machineMachine.write machineMachine.eat machineMachine.expand machineMachine.step_on machineMachine.run
    sheetsHomes.inside_of sheetsHomes.home_of sheetsHomes.homes_of sheetsPayload.spelled sheetsPayload.same_name sheetsPayload.first_same sheetsPayload.name_arg sheetsPayload.arg_of
    sheetsPayload.args_of sheetsSpans.shape_of sheetsSpans.start_of sheetsSpans.height_of sheetsSpans.starts_of sheetsSpans.heights_of sheetsWalks.first sheetsWalks.after
    sheetsWalks.sum sheetsWalks.filled
    findingSearch.declares findingSearch.find findingSearch.lookup findingSearch.last findingSearch.one findingSearch.count findingSets.among
    rules.is_array rules.role_of rules.bad_variable rules.bad_use rules.bad_ref rules.bad_twice rules.bad_second rules.bad_height codeSets.rule_of rules.bad_by
    faults.joined faults.least_from faults.least_of faults.checked
    ceilings.numbers_at ceilings.numbers ceilings.starts_at ceilings.makes_at ceilings.wide_at ceilings.heavy_at ceilings.one ceilings.weight ceilings.total ceilings.any_passed
    ceilings.passed
    codeSets.is_part places.mark_from codeSets.is_alone codeSets.is_lead places.is_place places.is_stop places.place_from codeSets.is_opening codeSets.is_closing places.deeper places.close_from
    places.close_of_lem places.next_from
    links.type_at links.size_at links.offset_at links.slot_at codeSets.class_of links.link_by links.link_at links.filled_back links.links_of
    entriesEntry.number entriesEntry.joined entriesEntry.runs entriesSources.bytes_of entriesSources.value_of entriesSources.entry_at entriesSources.entries_of
    pens.four pens.packed
    tablesAccess.code_of tablesTables.argument tablesTables.item_word tablesTables.one tablesTables.item_words tablesTables.linked tablesTables.numbers tablesTables.pool
    tablesTables.tables_of
    judging.wide_text
    judging.by_rules judging.by_grammar judging.tables_from judging.tables_at
    reader.read_of
reads = tt

-- values, the initial state, steps and verdicts
unfoldable pub moves : Unit {0}
unfolding
    valueOperators.divide_of valueOperators.remainder_of valueOperators.shift_left_of valueOperators.apply_of valueOperators.unary_of valueTypes.width_of valueTypes.cast_of
    frames.walk
    evaluatingExpressions.node_of evaluatingExpressions.plain_of evaluatingExpressions.eval_t evaluatingExpressions.locate_of evaluatingVariables.slot_of
    startingStarting.filled startingStarting.variable_made startingStarting.entered startingStarting.unit_length startingStarting.process_made startingStarting.global_made
    startingStarting.starts_of startingStarting.unit_started startingStarting.scanned startingStarting.initial_of startingValues.value_at startingValues.value_of
    executing.is_own_mark executing.is_always executing.mark_of executing.ready_by
    offering.first_of offering.each_option offering.offers_from
    machine.any_from machine.late machine.list_from machine.offered machine.asked machine.advance machine.ended_from machine.verdict
    offering.pick_at printing.puts printing.printed_at
    statements.assigned
    effects.targeted effects.taken_as
moves = tt

-- normal text
unfoldable pub writes : Unit {0}
unfolding
    pens.digit
    tablesAccess.pool_byte tablesAccess.name_byte tablesBack.upto
    valueOperators.level_of
    lettering.held_of lettering.token_by
    patterns.rows
    writerNormal.codes_in writerNormal.tokens_of writerTurning.cell writerTurning.row_from writerTurning.row_of writerTurning.laid writerTurning.operated writerTurning.turned
    writerTurning.kept writerTurning.told writerTurning.walk writerTurning.marks
    formats.digits_by spacing.write_behind
writes = tt

use Rattle.trail_replay.proofs.Laws as laws
use Rattle.trail_replay.proofs.replay.Goals as goal

pub returns-then-x-eq7 : goal.returns-then-x-eq7
returns-then-x-eq7 c = laws.no_room c.args.tables.now c.args.trail.now c.args.state.now c.foreign-x.ensures c.if-x-eq7.true

pub returns-then-trail-gt-TRAIL_MOST : goal.returns-then-trail-gt-TRAIL_MOST
returns-then-trail-gt-TRAIL_MOST c = laws.too_long c.args.tables.now c.args.trail.now c.args.state.now c.foreign-x.ensures c.if-x-eq7.false c.if-trail-gt-TRAIL_MOST.true

pub returns-then-x-ne0 : goal.returns-then-x-ne0
returns-then-x-ne0 c = laws.not_own c.args.tables.now c.args.trail.now c.args.state.now c.foreign-x.ensures c.if-x-eq7.false c.if-trail-gt-TRAIL_MOST.false c.if-x-ne0.true

pub follow-requires : goal.follow-requires
follow-requires c = laws.well_formed c.args.tables.now c.args.trail.now c.args.state.now c.foreign-x.ensures c.if-x-eq7.false c.if-trail-gt-TRAIL_MOST.false c.if-x-ne0.false c.form-f.ensures c.in-Well.n c.in-Well.claim c.in-Well.is

pub returns-in-Well : goal.returns-in-Well
returns-in-Well c = laws.followed c.args.tables.now c.args.trail.now c.args.state.now c.foreign-x.ensures c.if-x-eq7.false c.if-trail-gt-TRAIL_MOST.false c.if-x-ne0.false c.form-f.ensures c.in-Well.n c.in-Well.claim c.in-Well.is c.written-w.ensures c.start.ensures c.follow.ensures

pub returns-in-Spoiled : goal.returns-in-Spoiled
returns-in-Spoiled c = laws.spoiled_trail c.args.tables.now c.args.trail.now c.args.state.now c.foreign-x.ensures c.if-x-eq7.false c.if-trail-gt-TRAIL_MOST.false c.if-x-ne0.false c.form-f.ensures c.in-Spoiled.y c.in-Spoiled.line c.in-Spoiled.is

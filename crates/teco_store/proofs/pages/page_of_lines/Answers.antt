use Rattle.std.proofs.Common.{◌-◌, arith, sym}
use Rattle.teco_store.proofs.PageEnds.{begins, is_whole, is_front, goes_on, is_done}
use Rattle.teco_store.proofs.pages.page_of_lines.Goals as goal

pub loop-line-init : goal.loop-line-init
loop-line-init c = begins c.args.lines c.args.left.now c.requires _ (omega arith)

pub returns-in_default-clause-bytes : goal.returns-in_default-clause-bytes
returns-in_default-clause-bytes c =
    let t = c.loop-line-test.true in
    sym (is_whole c.args.lines c.args.left.now c.loop-line.end (c.args.lines - c.loop-line._line) c.loop-line.invariant (omega arith) c.in_default.ensures).page

pub returns-in_default-clause-form_feed : goal.returns-in_default-clause-form_feed
returns-in_default-clause-form_feed c =
    let t = c.loop-line-test.true in
    sym (is_whole c.args.lines c.args.left.now c.loop-line.end (c.args.lines - c.loop-line._line) c.loop-line.invariant (omega arith) c.in_default.ensures).ended

pub returns-then-left-at-eq-FORM_FEED-clause-bytes : goal.returns-then-left-at-eq-FORM_FEED-clause-bytes
returns-then-left-at-eq-FORM_FEED-clause-bytes c =
    let t = c.loop-line-test.true in
    sym (is_front c.args.lines c.args.left.now c.loop-line.end (c.args.lines - c.loop-line._line) c.loop-line.invariant (omega arith) c.in-Some.more c.in-Some.ensures c.if-left-at-eq-FORM_FEED.true).page

pub returns-then-left-at-eq-FORM_FEED-clause-form_feed : goal.returns-then-left-at-eq-FORM_FEED-clause-form_feed
returns-then-left-at-eq-FORM_FEED-clause-form_feed c =
    let t = c.loop-line-test.true in
    sym (is_front c.args.lines c.args.left.now c.loop-line.end (c.args.lines - c.loop-line._line) c.loop-line.invariant (omega arith) c.in-Some.more c.in-Some.ensures c.if-left-at-eq-FORM_FEED.true).ended

pub loop-line-preserved : goal.loop-line-preserved
loop-line-preserved c =
    let t = c.loop-line-test.true in
    goes_on c.args.lines c.args.left.now c.loop-line.end (c.args.lines - c.loop-line._line) c.loop-line.invariant (omega arith) c.in-Some.more c.in-Some.ensures c.if-left-at-eq-FORM_FEED.false _ (omega arith)

pub returns-clause-bytes : goal.returns-clause-bytes
returns-clause-bytes c =
    let t = c.loop-line-test.false in
    sym (is_done c.args.lines c.args.left.now c.loop-line.end (c.args.lines - c.loop-line._line) c.loop-line.invariant (omega arith)).page

pub returns-clause-form_feed : goal.returns-clause-form_feed
returns-clause-form_feed c =
    let t = c.loop-line-test.false in
    sym (is_done c.args.lines c.args.left.now c.loop-line.end (c.args.lines - c.loop-line._line) c.loop-line.invariant (omega arith)).ended

use Rattle.std.proofs.Common.{◌-◌, ap, sym, ◌∙◌, arith}
use Rattle.teco_lint.specs.Spelling.{misspelt_within}
use Rattle.teco_lint.proofs.Misspelt.{by_deep, by_inner, by_none, by_seen, by_unseen}
use Rattle.teco_lint.proofs.spelling.is_misspelt_text.Goals as goal

pub loop-fault-preserved : goal.loop-fault-preserved
loop-fault-preserved c = c.loop-fault.invariant
    ∙ (by_inner c.args.profile c.loop-fault.texts c.args.code.now c.loop-fault.inside.now c.in-Some.fault c.in-Some.ensures.first c.in-InText.is (omega arith)
    ∙ ap (misspelt_within c.args.profile (c.loop-fault.texts - 1) c.args.code.now) (sym c.text_put-inside.ensures))

pub returns-in-Calls : goal.returns-in-Calls
returns-in-Calls c = sym (c.loop-fault.invariant
    ∙ by_unseen c.args.profile c.loop-fault.texts c.args.code.now c.loop-fault.inside.now c.in-Some.fault c.in-Some.ensures.first c.in-Calls.is)

pub returns-in_default-wrong : goal.returns-in_default-wrong
returns-in_default-wrong c = sym (c.loop-fault.invariant
    ∙ by_seen c.args.profile c.loop-fault.texts c.args.code.now c.loop-fault.inside.now c.in-Some.fault c.in-Some.ensures.first
    c.in_default-wrong.not-Calls c.in_default-wrong.not-Loads c.in_default-wrong.not-InText)

pub returns-then-texts-eq0 : goal.returns-then-texts-eq0
returns-then-texts-eq0 c = sym (c.loop-fault.invariant
    ∙ by_deep c.args.profile c.loop-fault.texts c.args.code.now c.loop-fault.inside.now c.in-Some.fault c.in-Some.ensures.first c.in-InText.is (omega arith))

pub returns : goal.returns
returns c = sym (c.loop-fault.invariant ∙ by_none c.args.profile c.loop-fault.texts c.args.code.now c.loop-fault.inside.now c.in_default.ensures.first)

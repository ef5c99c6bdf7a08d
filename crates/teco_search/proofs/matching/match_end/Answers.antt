use Rattle.std.proofs.Common.{sym, ◌∙◌, arith}
use Rattle.teco_search.proofs.Ends.{match_more, match_stop, match_done}
use Rattle.teco_search.proofs.matching.match_end.Goals as goal

pub returns-in_default : goal.returns-in_default
returns-in_default c = sym (match_stop c.args.mode c.args.elements.now c.elements.element-index c.element-item.result c.args.text.now c.elements.place (omega arith) c.element-item.is (sym c.element_end.ensures ∙ c.in_default.is)) ∙ c.elements.invariant

pub elements-preserved : goal.elements-preserved
elements-preserved c = sym (match_more c.args.mode c.args.elements.now c.elements.element-index c.element-item.result c.args.text.now c.elements.place c.in-Some.end (omega arith) c.element-item.is (sym c.in-Some.ensures)) ∙ c.elements.invariant

pub returns : goal.returns
returns c = sym (match_done c.args.mode c.args.elements.now c.elements.element-index c.args.text.now c.elements.place (omega arith)) ∙ c.elements.invariant

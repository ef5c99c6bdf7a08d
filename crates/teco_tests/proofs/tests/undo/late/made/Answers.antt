use Rattle.teco_tests.proofs.Stepping.{may_move}
use Rattle.teco_tests.proofs.tests.undo.late.made.Goals as goal

pub returns-in-0 : goal.returns-in-0
returns-in-0 c = λ n. may_move c.read_page.result c.args.recorder.now c.read_page.new.self n _ c.read_page.ensures.follows c.read_page.ensures.keeps

pub returns-in-1 : goal.returns-in-1
returns-in-1 c = λ n. may_move c.set_number.result c.args.recorder.now c.set_number.new.self n _ c.set_number.ensures.follows c.set_number.ensures.keeps

pub returns-in-2 : goal.returns-in-2
returns-in-2 c = λ n. may_move c.splice.result c.args.recorder.now c.splice.new.self n _ c.splice.ensures.follows c.splice.ensures.keeps

pub returns-in-3 : goal.returns-in-3
returns-in-3 c = λ n. may_move c.point.result c.args.recorder.now c.point.new.self n _ c.point.ensures.follows c.point.ensures.keeps

pub returns-in-4 : goal.returns-in-4
returns-in-4 c = λ n. may_move c.splice-in-4.result c.args.recorder.now c.splice-in-4.new.self n _ c.splice-in-4.ensures.follows c.splice-in-4.ensures.keeps

pub returns-in-5 : goal.returns-in-5
returns-in-5 c = λ n. may_move c.set_case.result c.args.recorder.now c.set_case.new.self n _ c.set_case.ensures.follows c.set_case.ensures.keeps

pub returns-in-6 : goal.returns-in-6
returns-in-6 c = λ n. may_move c.note_search.result c.args.recorder.now c.note_search.new.self n _ c.note_search.ensures.follows c.note_search.ensures.keeps

pub returns-in-7 : goal.returns-in-7
returns-in-7 c = λ n. may_move c.note_search-in-7.result c.args.recorder.now c.note_search-in-7.new.self n _ c.note_search-in-7.ensures.follows c.note_search-in-7.ensures.keeps

pub returns-in-8 : goal.returns-in-8
returns-in-8 c = λ n. may_move c.write_out.result c.args.recorder.now c.write_out.new.self n _ c.write_out.ensures.follows c.write_out.ensures.keeps

pub returns-in_default : goal.returns-in_default
returns-in_default c = λ n. may_move c.finish.result c.args.recorder.now c.finish.new.self n _ c.finish.ensures.follows c.finish.ensures.keeps

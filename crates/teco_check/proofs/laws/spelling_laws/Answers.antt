use Rattle.teco_scan.specs.Breaks.{first_break}
use Rattle.teco_check.specs.Walk.{first_within}
use Rattle.teco_check.proofs.Together.{text_beside, one_code, one_place, told_same, told_later, told_none}
use Rattle.teco_check.proofs.laws.spelling_laws.Goals as goal

pub returns-clause-same : goal.returns-clause-same
returns-clause-same c profile n code text = told_same profile text (first_break profile text) (first_within profile n code text) (text_beside profile n code text)

pub returns-clause-later : goal.returns-clause-later
returns-clause-later c profile n code text = told_later profile text (first_break profile text) (first_within profile n code text) (text_beside profile n code text)

pub returns-clause-none : goal.returns-clause-none
returns-clause-none c profile n code text e = told_none profile text (first_break profile text) (first_within profile n code text) (text_beside profile n code text) e

pub returns-clause-code : goal.returns-clause-code
returns-clause-code c = one_code

pub returns-clause-place : goal.returns-clause-place
returns-clause-place c = one_place

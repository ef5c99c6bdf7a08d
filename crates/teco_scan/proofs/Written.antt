-- How each command is written, by computing.
use Rattle.teco_scan.specs.Wide.{WideSpellings}
use Rattle.teco_scan.specs.Written.{NumbersAreSpelled, PlainCommandsAreSpelled, RegisterCommandsAreSpelled, TextCommandsAreSpelled, MarksAreSpelled, ModifiersAreAdmitted}
use Rattle.teco_scan.proofs.Rows.{computing}

pub numbers : NumbersAreSpelled
unfolding computing
numbers = search

pub plain_commands : PlainCommandsAreSpelled
unfolding computing
plain_commands = search

pub register_commands : RegisterCommandsAreSpelled
unfolding computing
register_commands = search

pub text_commands : TextCommandsAreSpelled
unfolding computing
text_commands = search

pub marks : MarksAreSpelled
unfolding computing
marks = search

pub modifiers : ModifiersAreAdmitted
unfolding computing
modifiers = search

pub wide_spellings : WideSpellings
unfolding computing
wide_spellings = search

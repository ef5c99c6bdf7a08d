-- The numbers that a call answers.
use Rattle.std.specs.Prelude.{ℕ, Option, Some, None}
use Rattle.teco_core.specs.Code.{number_of}
use Rattle.teco_core.specs.declared.code.Code.{Code}
use Rattle.teco_session.specs.Answers.{answer_code}
use Rattle.teco_session.specs.declared.request.Answer.{Answer}
use Rattle.teco_session.specs.declared.request.Answer.TheVariants.{Ended, NotBegun, AfterExit, Undone, NothingToUndo, Redone, NothingToRedo, Rewound}
use Rattle.teco_ffi.specs.declared.answers.TheConstants.{NOT_BEGUN}

-- the number of a code, and 0 for none
abbrev pub number_or : Option Code → ℕ
number_or None = 0
number_or (Some code) = number_of code

-- The number of an answer is that of its code, and one of its own where the string was not begun for want of memory.
abbrev pub answer_number : Answer → ℕ
answer_number NotBegun = NOT_BEGUN
answer_number (Ended outcome) = number_or outcome.code
answer_number AfterExit = number_or (answer_code AfterExit)
answer_number Undone = 0
answer_number NothingToUndo = number_or (answer_code NothingToUndo)
answer_number Redone = 0
answer_number NothingToRedo = number_or (answer_code NothingToRedo)
answer_number Rewound = 0

-- the whole steps that a string took
abbrev pub steps_of : Answer → ℕ
steps_of (Ended outcome) = outcome.steps
steps_of NotBegun = 0
steps_of AfterExit = 0
steps_of Undone = 0
steps_of NothingToUndo = 0
steps_of Redone = 0
steps_of NothingToRedo = 0
steps_of Rewound = 0

-- What is shown of answers.
use Rattle.std.specs.Prelude.{ℕ, List, [], ◌++◌, ◌||◌, Option, Some, None, Bool, true, false, codes, if◌then◌else◌}
use Rattle.std.specs.List.{flat_map}
use Rattle.teco_core.specs.Code.{letters_of}
use Rattle.teco_core.specs.declared.code.Code.{Code}
use Rattle.teco_core.specs.declared.code.Code.TheVariants.{Tty}
use Rattle.teco_serve.specs.declared.alarm.Manner.{Manner}
use Rattle.teco_session.specs.Answers.{answer_code}
use Rattle.teco_session.specs.Step.{Reply}
use Rattle.teco_session.specs.declared.request.Answer.{Answer}

-- a question mark, the letters of the code, CR LF
abbrev pub code_line : Code → List ℕ
code_line code = codes "?" ++ letters_of code ++ codes "\r\n"

-- The terminal has failed.
abbrev pub is_terminal_code : Code → Bool
is_terminal_code Tty = true
is_terminal_code _ = false

-- Codes are shown, or not. That of a terminal that failed is what it was to show next, in each manner: none sees it.
abbrev pub is_shown : Manner → Code → Bool
is_shown manner code = manner.shows_codes || is_terminal_code code

abbrev pub line_of : Manner → Option Code → List ℕ
line_of manner None = []
line_of manner (Some code) = if is_shown manner code then code_line code else []

-- the message of an answer: the line of its code, if it has one and codes are shown
unfoldable pub message : Manner → Answer → List ℕ
message manner answer = line_of manner (answer_code answer)

-- what is shown of replies: of each its typed bytes, and then its message
abbrev pub replies_shown : Manner → List Reply → List ℕ
replies_shown manner replies = flat_map (λ reply. reply.typed ++ message manner reply.answer) replies

-- what asks for commands: a star where the prompt is wanted
abbrev pub star : Bool → List ℕ
star true = codes "*"
star false = []

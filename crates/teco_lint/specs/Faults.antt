-- The faults of a text one after the other, where what no check looks into is passed over.
use Rattle.std.specs.Prelude.{ℕ, zero, suc, ◌+◌, ◌-◌, Bool, false, ◌||◌, List, ◌++◌, length, take, drop, replicate, min, Option, Some, None, if◌then◌else◌}
use Rattle.std.specs.List.{list_any}
use Rattle.teco_scan.specs.Scan.{Instruction, Scanned, step, set_text, found, scan}
use Rattle.teco_scan.specs.Seen.{bytes_in}
use Rattle.teco_scan.specs.declared.token.Span.{Span}
use Rattle.teco_check.specs.Walk.{first_of, first_within}
use Rattle.teco_check.specs.declared.faults.Fault.{Fault}
use Rattle.teco_check.specs.declared.faults.TheConstants.{MOST_TEXTS}
use Rattle.teco_lint.specs.Spelling.{is_misspelt_text}
use Rattle.teco_lint.specs.Strings.{is_request, strings_of}
use Rattle.teco_lint.specs.Told.{is_in_text, own_fault}
use Rattle.teco_lint.specs.declared.faults.TheConstants.{MOST_FAULTS}
use Rattle.teco_lint.specs.declared.remarks.FaultIn.{FaultIn}
use Rattle.teco_core.specs.declared.profile.Profile.{Profile}
use Prim.Native.Char.{code}

-- Where a text lies that so many bytes in all have before its delimiter and the rest.
abbrev pub span_before : ℕ → ℕ → ℕ → Span
span_before all rest put = record { from = all - rest - 1 - put; to = all - rest - 1 }

-- Where in some bytes the text lies that a token puts into a register, which this rest comes after; nowhere where it puts none.
abbrev pub span_by : List ℕ → List ℕ → Instruction → Span
span_by bytes rest (step (set_text q put)) = span_before (length bytes) (length rest) (length put)
span_by bytes rest instruction = record { from = 0; to = 0 }

-- the same of the token that was read
abbrev pub span_put : List ℕ → Scanned → Span
span_put bytes (found t rest) = span_by bytes rest t.instruction
span_put bytes scanned = record { from = 0; to = 0 }

-- a span of a part, in the whole
abbrev pub shifted : ℕ → Span → Span
shifted from s = record { from = from + s.from; to = from + s.to }

-- where in a text the one lies that the token of a fault puts into a register
abbrev pub span_in : Profile → List ℕ → FaultIn → Span
span_in p text f = shifted f.inside.from (span_put (bytes_in text f.inside) (scan p (drop (f.at - f.inside.from) (bytes_in text f.inside))))

-- a fault of a text that lies so in another one
abbrev pub fault_within : Span → Fault → FaultIn
fault_within s f = record { at = s.from + f.at; wrong = f.wrong; inside = s }

-- the fault to go on from, if there is one in that text
abbrev pub found_within : (FaultIn → FaultIn) → FaultIn → Span → Option Fault → FaultIn
found_within on f s None = f
found_within on f s (Some inner) = on (fault_within s inner)

-- The fault itself: where one is in a text that is put where code is, the first one there, and so on. Texts are looked into so many deep.
unfoldable pub fault_itself : Profile → ℕ → List Bool → List ℕ → FaultIn → FaultIn
fault_itself p zero code text f = f
fault_itself p (suc n) code text f =
    if is_in_text f.wrong then found_within (fault_itself p n code text) f (span_in p text f) (first_within p n code (bytes_in text (span_in p text f)))
    else f

-- how many bytes the token has that was read of these, with the fillers before it; 1 where none can be read
abbrev pub token_length : List ℕ → Scanned → ℕ
token_length bytes (found t rest) = length bytes - length rest
token_length bytes scanned = 1

-- bytes of which so many from a place on are spaces
abbrev pub blanked : ℕ → ℕ → List ℕ → List ℕ
blanked from n bytes = take from bytes ++ replicate n (code " ") ++ drop (from + n) bytes

-- what comes from a fault on, in the text that has it
abbrev pub here : List ℕ → FaultIn → List ℕ
here text f = bytes_in text (record { from = f.at; to = f.inside.to })

-- the text with the token of a fault as spaces
abbrev pub passed : Profile → List ℕ → FaultIn → List ℕ
passed p text f = blanked f.at (min (token_length (here text f) (scan p (here text f))) (f.inside.to - f.at)) text

-- the same, of the first fault that a check finds
abbrev pub passed_first : Profile → List Bool → List ℕ → Fault → List ℕ
passed_first p code text f = passed p text (fault_itself p MOST_TEXTS code text (own_fault (length text) f))

-- what holds of the text that is read on then, if there is a first fault
abbrev pub after_first : (List ℕ → Bool) → Profile → List Bool → List ℕ → Option Fault → Bool
after_first on p code text None = false
after_first on p code text (Some f) = on (passed_first p code text f)

-- One of so many things that are told of a text is a fault: the first one, or one after what isn't looked into, which is passed over.
unfoldable pub has_fault_among : ℕ → Profile → List Bool → List ℕ → Bool
has_fault_among zero p code text = false
has_fault_among (suc n) p code text = is_misspelt_text p code text || after_first (has_fault_among n p code) p code text (first_of p code text)

-- The text has a fault, where these registers hold code.
abbrev pub has_fault : Profile → List Bool → List ℕ → Bool
has_fault p code text = has_fault_among MOST_FAULTS p code text

-- The string is a text with a fault.
abbrev pub is_faulty_string : Profile → List Bool → List ℕ → Bool
is_faulty_string p code string = if is_request string then false else has_fault p code string

-- One of the command strings is.
abbrev pub is_faulty : Profile → List Bool → List ℕ → Bool
is_faulty p code commands = list_any (is_faulty_string p code) (strings_of commands)

-- What is shown of why a run stopped.
use Rattle.std.specs.Prelude.{ℕ, zero, suc, ◌==◌, Bool, true, false, ◌&&◌, not, List, [], ◌∷◌, ◌++◌, codes, drop, length, Option, Some, None, if◌then◌else◌}
use Rattle.std.specs.Fmt.{decimal}
use Rattle.teco_core.specs.Code.{letters_of, number_of}
use Rattle.teco_core.specs.Register.{Content}
use Rattle.teco_core.specs.declared.code.Code.{Code}
use Rattle.teco_core.specs.declared.code.Code.TheVariants.{Pdo, Tag}
use Rattle.teco_core.specs.declared.profile.Profile.{Profile}
use Rattle.teco_scan.specs.Scan.{Item, Scanned, found, scan}
use Rattle.teco_scan.specs.Scan as token
use Rattle.teco_scan.specs.declared.command.Arithmetic.TheVariants as arithmetic
use Rattle.teco_scan.specs.declared.command.Bare.TheVariants as bare
use Rattle.teco_scan.specs.declared.command.RegisterCommand.TheVariants as commands
use Rattle.teco_scan.specs.declared.breaks.ListFault.{ListFault}
use Rattle.teco_exec.specs.declared.place.Place.{Place}
use Rattle.teco_messages.specs.Placed.{call_shown, standing_shown, text_under}
use Rattle.teco_messages.specs.Shown.{code_shown, code_shown_with, place_shown}
use Rattle.teco_messages.specs.Spelling.{token_shown}
use Rattle.teco_messages.specs.Token.{token_in}
use Rattle.teco_messages.specs.declared.sentence.Limits.{Limits}
use Rattle.teco_messages.specs.declared.stop.TheConstants.{MOST_FAULTY}

-- `(`, `[` and `M` open or push. Past its limit such a step ends by PDO itself.
abbrev pub opens : Item → Bool
opens (token.bare (bare.Arithmetic arithmetic.Open)) = true
opens (token.register commands.Push q) = true
opens (token.register commands.Macro q) = true
opens _ = false

-- a step that opens or pushes is read
abbrev pub is_opening : Scanned → Bool
is_opening (found t rest) = elim t.instruction [ token.step i ↦ opens i | _ ↦ false ]
is_opening s = false

-- A run that ended by this code at a place of a text has met a fault of the text that has this code: by the same
-- code, or by TAG, since a jump finds no tag after a fault. A step that opens or pushes ends by PDO itself, and meets none.
-- A `;` that ends so has met it in the rest that it skips.
abbrev pub meets : Profile → List ℕ → ℕ → Code → Code → Bool
meets p text at fault Tag = true
meets p text at fault Pdo = (number_of fault == number_of Pdo) && not (is_opening (scan p (drop at text)))
meets p text at fault code = number_of fault == number_of code

-- the code of a fault, where it isn't the one that is told
abbrev pub code_of_fault : Code → Code → List ℕ
code_of_fault fault Tag = letters_of fault ++ codes " "
code_of_fault fault code = []

-- where the text ends inside a block: what opens the block, and its place
abbrev pub open_block_shown : Profile → List ℕ → ℕ → List ℕ
open_block_shown p text opened =
    codes ", the text ends inside " ++ token_shown (token_in p text opened MOST_FAULTY)
    ++ codes " at " ++ place_shown text opened

abbrev pub fault_here_shown : Profile → List ℕ → ℕ → Code → Code → List ℕ
fault_here_shown p text at fault code =
    codes ", fault " ++ code_of_fault fault code ++ codes "at " ++ place_shown text at
    ++ codes ", " ++ token_shown (token_in p text at MOST_FAULTY)

-- the place of a fault, unless it is the one where the run stood
abbrev pub fault_at_shown : Profile → List ℕ → ℕ → ListFault → Code → Option ℕ → List ℕ
fault_at_shown p text at fault code (Some opened) = open_block_shown p text opened
fault_at_shown p text at fault code None =
    if fault.at == at then [] else fault_here_shown p text fault.at fault.code code

abbrev pub fault_shown : Profile → List ℕ → ℕ → Option ListFault → Code → List ℕ
fault_shown p text at None code = []
fault_shown p text at (Some fault) code =
    if meets p text at fault.code code then fault_at_shown p text at fault code fault.opened else []

-- the token, if one is there
abbrev pub token_part : List ℕ → List ℕ
token_part [] = []
token_part (b ∷ bs) = codes ", " ++ token_shown (b ∷ bs)

-- the latest so many of the open calls
unfoldable pub calls_shown : Place → List Content → List ℕ → ℕ → List ℕ
calls_shown place registers string zero = []
calls_shown place registers string (suc k) =
    calls_shown place registers string k ++ (codes ", " ++ call_shown place k registers string)

-- the steps that were done, where the run last stood, the token there, the fault that it met, and the open calls
abbrev pub stand_shown : Profile → Option Place → List Content → List ℕ → Code → List ℕ
stand_shown p None registers string code = []
stand_shown p (Some place) registers string code =
    let text : List ℕ = text_under place 0 registers string in
    codes ", step " ++ decimal place.steps ++ codes ", " ++ standing_shown place registers string
    ++ token_part (token_in p text place.at MOST_FAULTY)
    ++ fault_shown p text place.at place.fault code
    ++ calls_shown place registers string (length place.calls.items)

abbrev pub code_part : Option Limits → Code → List ℕ
code_part None code = code_shown code
code_part (Some limits) code = code_shown_with limits code

-- why a run stopped
abbrev pub stop_shown : Profile → Option Place → List Content → List ℕ → Code → Option Limits → List ℕ
stop_shown p place registers string code limits =
    stand_shown p place registers string code ++ code_part limits code

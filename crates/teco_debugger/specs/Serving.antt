-- Serving commands: each line is answered, until one asks to leave or none is left.
use Rattle.std.specs.Prelude.{◌≡◌, ◌⊎◌, ℕ, zero, suc, List, codes, Bool, true, false, Option, Some, None, IfSome}
use Rattle.std.specs.Io.BufRead.{DropsThrough, take_through}
use Rattle.std.specs.Io.KnownBytes.{IsAtEnd}
use Rattle.teco_io.specs.Terminal.{IsFrontOf, Screen, Shows}
use Rattle.teco_debugger.specs.Commands.{IsAnswerTo, asked, is_leaving, noted}
use Rattle.teco_debugger.specs.Moving.{SameRun}
use Rattle.teco_debugger.specs.declared.debugger.Debugger.{Debugger}
use Rattle.teco_debugger.specs.declared.ending.Ending.{Ending}
use Rattle.teco_debugger.specs.declared.ending.Ending.TheVariants.{Caret, Done, NoText, NoInput, NoMemory, NoString, ReadFault, ShowFault}
use Prim.Native.Char.{code}

-- what is seen of a serving at a moment: the bytes of the commands that are still to come, where they are known, the
-- debugger, and what is shown
pub record Stage : Type 0 where
  pub coming : Option (List ℕ)
  pub debugger : Debugger
  pub screen : Screen

abbrev pub stage : Option (List ℕ) → Debugger → Screen → Stage
stage coming debugger screen = record { coming = coming; debugger = debugger; screen = screen }

-- The line is the next one, with its LF if it has one.
pub record TakesLine (line : List ℕ) (before after : Option (List ℕ)) : Type 0 where
  pub line_is : IfSome before (λ bytes. line ≡ take_through (code "\n") bytes)
  pub rest : DropsThrough before after (code "\n")

-- What the debugger does with a line, and how the serving ends by it, if it does.
abbrev pub Obeys : List ℕ → Option Ending → Debugger → Debugger → Screen → Screen → Type 0
-- it is answered, and all of the answer is shown
Obeys line None old new before after = (is_leaving (asked old line) ≡ false)
    × ((shown : List ℕ) × IsAnswerTo (asked old line) line (noted (asked old line) old) new shown × Shows before after shown false)
-- it asks to leave
Obeys line (Some Done) old new before after =
    (is_leaving (asked old line) ≡ true) × (new ≡ old) × (after ≡ before)
-- a beginning of its answer is shown, and then the terminal failed
Obeys line (Some ShowFault) old new before after = (shown : List ℕ) × IsAnswerTo (asked old line) line (noted (asked old line) old) new shown
    × ((front : List ℕ) × IsFrontOf front shown × Shows before after front true)
-- memory was refused, even to say so
Obeys line (Some NoMemory) old new before after = SameRun old new × (after ≡ before)
Obeys line (Some ReadFault) old new before after = ⊥
Obeys line (Some (Caret number spot)) old new before after = ⊥
Obeys line (Some (NoText number fault)) old new before after = ⊥
Obeys line (Some (NoInput fault)) old new before after = ⊥
Obeys line (Some (NoString fault)) old new before after = ⊥

-- The next line is read and obeyed.
abbrev pub ServesNext : Option Ending → Stage → Stage → Type 0
ServesNext ending a b = (line : List ℕ) × TakesLine line a.coming b.coming
    × Obeys line ending a.debugger b.debugger a.screen b.screen

-- These bytes are shown, if lines are typed at a terminal.
abbrev pub ShowsIf : Bool → List ℕ → Screen → Screen → Type 0
ShowsIf true bytes before after = Shows before after bytes false
ShowsIf false bytes before after = after ≡ before

-- A beginning of them is shown, and then the terminal failed.
abbrev pub StopsShowing : List ℕ → Screen → Screen → Type 0
StopsShowing bytes before after = (front : List ℕ) × IsFrontOf front bytes × Shows before after front true

-- A star and a blank are shown where a line is awaited, if lines are typed at a terminal.
abbrev pub Asks : Bool → Screen → Screen → Type 0
Asks prompts before after = ShowsIf prompts (codes "* ") before after

-- How the serving ends where no line is left: the line of the star ends, if one is shown.
abbrev pub EndsStar : Bool → Ending → Screen → Screen → Type 0
EndsStar prompts Done before after = ShowsIf prompts (codes "\n") before after
EndsStar prompts ShowFault before after = StopsShowing (codes "\n") before after
EndsStar prompts _ before after = ⊥

-- No line is read: a read failed, or none is left. Nothing is done.
abbrev pub EndsUnread : Bool → Option Ending → Stage → Stage → Type 0
EndsUnread prompts None a b = ⊥
EndsUnread prompts (Some ReadFault) a b = (b.debugger ≡ a.debugger) × (b.screen ≡ a.screen)
EndsUnread prompts (Some ending) a b =
    IsAtEnd a.coming × (b.debugger ≡ a.debugger) × EndsStar prompts ending a.screen b.screen

-- A line is asked for, and then the next one is read and obeyed, or none is read.
abbrev pub AsksAndServes : Bool → Option Ending → Stage → Stage → Type 0
AsksAndServes prompts ending a b =
    ((asked : Screen) × Asks prompts a.screen asked
    × (ServesNext ending (record a { screen = asked }) b ⊎ EndsUnread prompts ending (record a { screen = asked }) b))
    ⊎ ((ending ≡ Some ShowFault) × (b.debugger ≡ a.debugger) × StopsShowing (codes "* ") a.screen b.screen)

-- Lines were asked for and answered, one after another.
abbrev pub AnswersLines : Bool → ℕ → Stage → Stage → Type 0
AnswersLines prompts zero a c = c ≡ a
AnswersLines prompts (suc n) a c = (b : Stage) × AsksAndServes prompts None a b × AnswersLines prompts n b c

-- After some lines that were answered the serving ends so.
pub record ServesLines (prompts : Bool) (first last : Stage) (ending : Ending) : Type 0 where
  pub lines : ℕ
  pub after : Stage
  pub answered : AnswersLines prompts lines first after
  -- or it ends without asking for a line more, but no run comes to so many
  pub ends : AsksAndServes prompts (Some ending) after last ⊎ ((ending ≡ ReadFault) × (last ≡ after))

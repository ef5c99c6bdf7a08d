-- Lines that are served.
use Rattle.std.proofs.Common.{◌≡◌, ◌∙◌, ◌++◌, List, [], ℕ, zero, suc, Bool, Option, Some, None, refl, ap, subst}
use Rattle.std.specs.Prelude.{IfSome}
use Rattle.std.specs.Io.BufRead.{DropsThrough, take_through}
use Rattle.teco_debugger.specs.Serving.{AnswersLines, AsksAndServes, EndsStar, EndsUnread, Stage, TakesLine}
use Rattle.teco_debugger.specs.declared.ending.Ending.{Ending}
use Rattle.teco_debugger.specs.declared.ending.Ending.TheVariants.{Caret, Done, NoString, NoText, NoInput, NoMemory, ReadFault, ShowFault}
use Rattle.std.specs.Io.KnownBytes.{IsAtEnd}
use Prim.Native.Char.{code}

-- a line that was read into an empty buffer
pub takes_line : (before after : Option (List ℕ)) (old line : List ℕ) → old ≡ [] → IfSome before (λ xs. line ≡ old ++ take_through (code "\n") xs)
    → DropsThrough before after (code "\n") → TakesLine line before after
takes_line None after old line none is rest = record { line_is = tt; rest = rest }
takes_line (Some xs) after old line none is rest = record { line_is = is ∙ ap (λ l. l ++ take_through (code "\n") xs) none; rest = rest }

-- one line more was answered
pub answered_more : (prompts : Bool) (n : ℕ) (a b c : Stage) → AnswersLines prompts n a b → AsksAndServes prompts None b c → AnswersLines prompts (suc n) a c
answered_more prompts zero a b c same more = (c, subst (λ x. AsksAndServes prompts None x c) same more, refl)
answered_more prompts (suc n) a b c h more = (h.0, h.1, answered_more prompts n h.0 b c h.2 more)

-- no line is left
pub ends_unread : (prompts : Bool) (ending : Ending) (a b : Stage) → IsAtEnd a.coming → b.debugger ≡ a.debugger → EndsStar prompts ending a.screen b.screen
    → EndsUnread prompts (Some ending) a b
ends_unread prompts Done a b left same ends = (left, same, ends)
ends_unread prompts ShowFault a b left same ends = (left, same, ends)
ends_unread prompts (NoText number fault) a b left same ends = absurd ends
ends_unread prompts (NoInput fault) a b left same ends = absurd ends
ends_unread prompts (Caret number spot) a b left same ends = absurd ends
ends_unread prompts (NoString fault) a b left same ends = absurd ends
ends_unread prompts NoMemory a b left same ends = absurd ends
ends_unread prompts ReadFault a b left same ends = absurd ends

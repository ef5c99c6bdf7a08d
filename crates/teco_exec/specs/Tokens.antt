-- Steps of tokens: what they count, what they look at around them, and where they lead.
use Rattle.std.specs.Prelude.{◌≡◌, ◌<◌, ◌≤◌, ◌⊎◌, ℕ, Bool, true, false, List, Some}
use Rattle.teco_scan.specs.declared.command.Bare.TheVariants.{Command}
use Rattle.teco_scan.specs.declared.command.Command.TheVariants.{Leave}
use Rattle.teco_scan.specs.declared.command.RegisterCommand.TheVariants.{Macro}
use Rattle.teco_scan.specs.declared.command.TextCommand.TheVariants.{FindAndDelete, FindAndKill, Search, SearchPages, SearchPagesQuietly}
use Rattle.teco_scan.specs.declared.token.Item.TheVariants.{Bare, Register, Replace, Text}
use Rattle.teco_scan.specs.declared.token.Token.{Token}
use Rattle.teco_scan.specs.declared.token.TokenKind.{TokenKind}
use Rattle.teco_scan.specs.declared.token.TokenKind.TheVariants.{Item}
use Rattle.teco_exec.specs.Machine.{Caller}
use Rattle.teco_exec.specs.Running.{FlowFinishes, FlowStays, GoesOn, GoesQuietly, Reached, at_token, reached_by_flow, goes}
use Rattle.teco_exec.specs.Runs.{Answers, StillSays}
use Rattle.teco_exec.specs.View.{Stays}
use Rattle.teco_exec.specs.declared.cursor.Cursor.{Cursor}
use Rattle.teco_exec.specs.declared.flow.Flow.{Flow}
use Rattle.teco_exec.specs.declared.flow.Progress.{Progress}
use Rattle.teco_exec.specs.declared.flow.Progress.TheVariants.{Further, Done}
use Rattle.teco_exec.specs.declared.flow.Steps.{Steps}

-- No step is taken back, and each was let begin. The limit stays, or else the run is broken off: it was asked
-- to stop, and its limit is what is done.
pub record CountsSteps (before after : Answers) (broken : Type 0) (old new : Steps) : Type 0 where
  pub limit : new.limit ≤ old.limit
  pub more : old.done ≤ new.done
  pub heard : (k : ℕ) → old.done ≤ k → k < new.done → after.said k false
  pub stays : (new.limit ≡ old.limit) ⊎ (broken × after.said new.done true × (new.limit ≡ new.done))
  pub still : StillSays before after

-- Tokens whose step looks around: whether an iteration is open, or a plain `;` comes next.
abbrev pub looks_around : TokenKind → Bool
looks_around (Item (Bare (Command Leave))) = true
looks_around (Item (Text Search span)) = true
looks_around (Item (Text SearchPages span)) = true
looks_around (Item (Text SearchPagesQuietly span)) = true
looks_around (Item (Text FindAndDelete span)) = true
looks_around (Item (Text FindAndKill span)) = true
looks_around (Item (Replace old new)) = true
looks_around k = false

-- Tokens that call the text of a register, and such a token.
abbrev pub calls_text : TokenKind → Bool
calls_text (Item (Register Macro q)) = true
calls_text k = false

abbrev pub call_of : ℕ → TokenKind
call_of q = Item (Register Macro q)

-- where a step of a token leads
abbrev pub reached_by_progress : Cursor → Token → List Caller → Progress → Reached
reached_by_progress c token callers (Further work) = goes (at_token c token (Some work) callers)
reached_by_progress c token callers (Done flow) = reached_by_flow c callers flow

-- the token goes on, or the text
abbrev pub Continues : Progress → Type 0
Continues (Further work) = Unit {0}
Continues (Done flow) = GoesOn flow

-- neither want of memory nor a failed terminal
abbrev pub ProgressFinishes : Progress → Type 0
ProgressFinishes (Further work) = Unit {0}
ProgressFinishes (Done flow) = FlowFinishes flow

-- The cursor stays before a further step too.
abbrev pub ProgressStays : Cursor → Cursor → Progress → Type 0
ProgressStays old new (Further work) = Stays old new
ProgressStays old new (Done flow) = FlowStays old new flow

-- what is said where the token is done
abbrev pub OnDone : Progress → (Flow → Type 0) → Type 0
OnDone (Further work) P = Unit {0}
OnDone (Done flow) P = P flow

-- A token that takes nothing has one step.
abbrev pub ProgressesQuietly : Cursor → Progress → Type 0
ProgressesQuietly c (Further work) = ⊥
ProgressesQuietly c (Done flow) = GoesQuietly c flow

-- What a step may do on a desk and a terminal: what its effect says; or, with nothing changed, want of memory; or a failed put.
use Rattle.std.specs.Prelude.{◌≡◌, ◌≢◌, ℕ, List, [], Option, length, Bool, true, false, ◌⊎◌}
use Rattle.teco_core.specs.declared.code.Code.TheVariants.{Mem, Tty}
use Rattle.teco_core.specs.Arguments.{Arguments}
use Rattle.teco_scan.specs.Scan.{Item}
use Rattle.teco_scan.specs.Scan as token
use Rattle.teco_scan.specs.declared.command.Bare.TheVariants as bare
use Rattle.teco_scan.specs.declared.command.Command.TheVariants as command
use Rattle.teco_scan.specs.declared.command.RegisterCommand.TheVariants as register_command
use Rattle.teco_scan.specs.declared.command.TextCommand.TheVariants as text_command
use Rattle.teco_store.specs.State.{State}
use Rattle.teco_store.specs.Trail.{Trail, moved}
use Rattle.teco_io.specs.Terminal.{Shows, IsFrontOf}
use Rattle.teco_scan.specs.declared.command.Modifiers.{Modifiers}
use Rattle.teco_scan.specs.declared.token.Token.{Token}
use Rattle.teco_scan.specs.declared.token.TokenKind.{TokenKind}
use Rattle.teco_scan.specs.declared.token.TokenKind.TheVariants as kind
use Rattle.teco_scan.specs.Seen.{item_in, IsItemIn}
use Rattle.teco_step.specs.declared.next.Context.{Context}
use Rattle.teco_step.specs.Effect.{effect}
use Rattle.teco_step.specs.Ending.{end_of, is_unfinished}
use Rattle.teco_step.specs.declared.next.Setting.{Setting}
use Rattle.teco_step.specs.Step.{Step, Moment, settled, unbuilt}
use Rattle.teco_step.specs.declared.next.Next.{Next}
use Rattle.teco_step.specs.declared.next.Next.TheVariants as next

-- the step was done, or refused as it means
pub record IsDone (e : Step) (name : List ℕ) (old new : Moment) (n : Next) : Type 0 where
  pub state : new.state ≡ e.state
  pub arguments : new.arguments ≡ e.arguments
  pub end : end_of new.state name n ≡ e.end
  pub finished : is_unfinished n ≡ false
  pub shows : Shows old.screen new.screen e.typed false

-- memory was refused, and nothing changed
pub record LacksMemory (old new : Moment) (n : Next) : Type 0 where
  pub code : n ≡ next.Error Mem
  pub state : new.state ≡ old.state
  pub arguments : new.arguments ≡ old.arguments
  pub shows : Shows old.screen new.screen [] false

-- a put failed: of the step's bytes, of which there are some, a beginning is shown, and nothing else changed
pub record LacksTerminal (e : Step) (old new : Moment) (n : Next) : Type 0 where
  pub code : n ≡ next.Error Tty
  pub state : new.state ≡ old.state
  pub arguments : new.arguments ≡ old.arguments
  pub types : e.typed ≢ []
  pub front : List ℕ
  pub beginning : IsFrontOf front e.typed
  pub shows : Shows old.screen new.screen front true

abbrev pub Steps : Step → List ℕ → Moment → Moment → Next → Type 0
Steps e name old new n = IsDone e name old new n ⊎ (LacksMemory old new n ⊎ LacksTerminal e old new n)

-- what a desk follows after a step of this load
abbrev pub trail_after : Next → Trail → ℕ → Trail
trail_after n t load = elim (is_unfinished n) [ true ↦ t | false ↦ moved t load ]

-- Values and arithmetic take nothing: no memory, and no arguments.
abbrev pub takes_nothing : Item → Bool
takes_nothing (token.digits ds) = true
takes_nothing (token.bare (bare.Quantity q)) = true
takes_nothing (token.bare (bare.Arithmetic b)) = true
takes_nothing (token.byte b) = true
takes_nothing (token.register register_command.Number q) = true
takes_nothing i = false

-- The tokens that may have further steps: P turns its pages one by one, and N and _ search them.
abbrev pub may_go_further : Item → Bool
may_go_further (token.bare (bare.Command command.TurnPages)) = true
may_go_further (token.text text_command.SearchPages text) = true
may_go_further (token.text text_command.SearchPagesQuietly text) = true
may_go_further i = false

-- The tokens that call the text of a register.
abbrev pub is_call : Item → Bool
is_call (token.register register_command.Macro q) = true
is_call i = false

-- a token that is one step, and whose texts lie in the text
abbrev pub IsStepKind : ℕ → TokenKind → Type 0
IsStepKind n (kind.Item i) = IsItemIn n i
IsStepKind n k = ⊥

abbrev pub IsStepIn : List ℕ → Token → Type 0
IsStepIn text token = IsStepKind (length text) token.kind

-- the step of a token in a text
abbrev pub kind_effect : List ℕ → TokenKind → Setting → State → Arguments → Step
kind_effect text (kind.Item i) w s a = effect (item_in text i) w s a
kind_effect text k w s a = settled s a unbuilt

-- a token's modifiers, and the context that its step comes in
abbrev pub setting_in : Context → Modifiers → Setting
setting_in context m = record {
  modifiers = m;
  work = context.work;
  inside = context.inside;
  before = context.before;
}

abbrev pub token_effect : List ℕ → Token → Context → State → Arguments → Step
token_effect text token context s a = kind_effect text token.kind (setting_in context token.modifiers) s a

-- the name that a jump names
abbrev pub name_of : Item → List ℕ
name_of (token.text c name) = name
name_of i = []

abbrev pub kind_name : List ℕ → TokenKind → List ℕ
kind_name text (kind.Item i) = name_of (item_in text i)
kind_name text k = []

abbrev pub name_in : List ℕ → Token → List ℕ
name_in text t = kind_name text t.kind

abbrev pub kind_takes_nothing : List ℕ → TokenKind → Bool
kind_takes_nothing text (kind.Item i) = takes_nothing (item_in text i)
kind_takes_nothing text k = false

abbrev pub takes_nothing_in : List ℕ → Token → Bool
takes_nothing_in text t = kind_takes_nothing text t.kind

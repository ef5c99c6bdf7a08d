-- Only a step that ends by an exit makes a session done.
use Rattle.std.proofs.Common.{◌≡◌, refl, ℕ, List, [], length, Result, Ok, Err, ℤ, Bool, true, false, cond, nat_le}
use Rattle.std.specs.Prelude.{◌≢◌}
use Rattle.teco_core.specs.declared.code.Code.{Code}
use Rattle.teco_core.specs.declared.code.Code.TheVariants as code
use Rattle.teco_core.specs.Refusal.{◌>>=◌}
use Rattle.teco_core.specs.Number.{truth}
use Rattle.teco_core.specs.Arguments.{Arguments, no_arguments}
use Rattle.teco_core.specs.declared.limits.TheConstants.{FILE_LIMIT, TEXT_LIMIT}
use Rattle.teco_store.specs.Page.{finished, page_load, with_next_page}
use Rattle.teco_store.specs.State.{State}
use Rattle.teco_scan.specs.declared.command.Bare.{Bare}
use Rattle.teco_scan.specs.declared.command.Bare.TheVariants as bare
use Rattle.teco_scan.specs.declared.command.Command.{Command}
use Rattle.teco_scan.specs.declared.command.Command.TheVariants as command
use Rattle.teco_scan.specs.declared.command.RegisterCommand.{RegisterCommand}
use Rattle.teco_scan.specs.declared.command.RegisterCommand.TheVariants as register_command
use Rattle.teco_scan.specs.declared.command.TextCommand.{TextCommand}
use Rattle.teco_scan.specs.declared.command.TextCommand.TheVariants as text_command
use Rattle.teco_scan.specs.Scan.{Item}
use Rattle.teco_scan.specs.Scan as token
use Rattle.teco_step.specs.Effect.{effect, command_effect, bare_effect, register_effect, text_effect, item_effect}
use Rattle.teco_step.specs.Control.{is_left}
use Rattle.teco_step.specs.Editing.{with_text_in_limit}
use Rattle.teco_step.specs.Pages.{after_page, is_asked, pages_left, tells, with_output_in_limit, with_page_read, with_page_turned}
use Rattle.teco_step.specs.declared.next.Setting.{Setting}
use Rattle.teco_step.specs.Step.{Attempt, Made, Action, goes, steers, goes_on, done_by, on, leave, out, settled, ends, takes_none, takes_one_or}
use Rattle.teco_step.specs.Searching.{search_or_compare, search_and_replace, search_and_kill, replace}
use Rattle.teco_step.specs.PageSearching.{search_pages}
use Rattle.teco_step.proofs.Searches.{Searches, searches, replacement_searches, replace_searches, kill_searches}
use Rattle.teco_step.proofs.PageSearches.{turned_searches, read_searches}

-- it left the session as done as it was, unless it ends by an exit
abbrev Keeps : State → Attempt → Type 0
Keeps s (Ok step) = step.end ≢ out → step.state.is_done ≡ s.is_done
Keeps s (Err c) = Unit {0}

-- An action after which the string goes on needs no word of its own here.
abbrev ActionKeeps : Action → Type 0
ActionKeeps (goes make) = Unit {0}
ActionKeeps (steers attempt) = (s : State) (a : Arguments) → Keeps s (attempt s a)

made_keeps : (s : State) (m : Made) → Keeps s (goes_on s m)
made_keeps s (Ok c) = λ stays. refl
made_keeps s (Err c) = tt

action_keeps : (f : Action) (s : State) (a : Arguments) → ActionKeeps f → Keeps s (done_by f s a)
action_keeps (goes make) s a h = made_keeps s (make s a)
action_keeps (steers attempt) s a h = h s a

-- one thing after another
keeps_then : {A : Type 0} (s : State) (r : Result A Code) (f : A → Attempt) → ((x : A) → Keeps s (f x)) → Keeps s (r >>= f)
keeps_then s (Ok x) f h = h x
keeps_then s (Err c) f h = tt

leave_keeps : (inside left : Bool) (s : State) → Keeps s (cond inside (ends s no_arguments (cond left leave on)) (Err code.Sni))
leave_keeps true left s = λ stays. refl
leave_keeps false left s = tt

search_keeps : (further : Bool) (s : State) (t : Attempt) → Searches further s t → Keeps s t
search_keeps further s (Ok step) (e, keeps) = λ stays. keeps
search_keeps further s (Err c) h = tt

-- a state that is within its limits
keeps_within : (s t : State) (b : Bool) (f : State → Attempt) → Keeps s (f t) → Keeps s (cond b (Ok t) (Err code.Big) >>= f)
keeps_within s t true f h = h
keeps_within s t false f h = tt

abbrev page_turned : State → Arguments → ℤ → State → Attempt
page_turned s left n t = Ok (record { state = t; arguments = left; typed = []; load = page_load s; end = after_page n })

turned_keeps : (s : State) (left : Arguments) (n : ℤ) → Keeps s (with_page_turned s >>= page_turned s left n)
turned_keeps s left n =
    elim (nat_le (length (with_next_page s).output) FILE_LIMIT) as (λ b. Keeps s ((cond b (Ok (with_next_page s)) (Err code.Big) >>= with_text_in_limit) >>= page_turned s left n)) [
      | true ↦ keeps_within s (with_next_page s) (nat_le (length (with_next_page s).text) TEXT_LIMIT) (page_turned s left n) (λ stays. refl)
      | false ↦ tt
    ]

-- the actions that say how they end, as the effect dispatches them
command_keeps : (c : Command) (w : Setting) → ActionKeeps (command_effect c w)
command_keeps command.Leave w = λ s a.
    keeps_then s (takes_one_or (truth s.last_found) a) (λ n. cond w.inside (ends s no_arguments (cond (is_left w.modifiers n) leave on)) (Err code.Sni))
    (λ n. leave_keeps w.inside (is_left w.modifiers n) s)
command_keeps command.TurnPages w = λ s a. keeps_then s (pages_left w.work a) _ (λ n. turned_keeps s (tells (is_asked w.modifiers n) s) n)
command_keeps command.Exit w = λ s a. keeps_then s (takes_none a) _ (λ none. keeps_then s (with_output_in_limit (finished s)) _ (λ t stays. absurd (stays refl)))
command_keeps _ w = tt

bare_keeps : (b : Bare) (w : Setting) → ActionKeeps (bare_effect b w)
bare_keeps (bare.Command c) w = command_keeps c w
bare_keeps _ w = tt

register_keeps : (c : RegisterCommand) (q : ℕ) (w : Setting) → ActionKeeps (register_effect c q w)
register_keeps register_command.Macro q w = λ s a stays. refl
register_keeps _ q w = tt

text_keeps : (c : TextCommand) (text : List ℕ) (w : Setting) → ActionKeeps (text_effect c text w)
text_keeps text_command.Go text w = λ s a. keeps_then s (takes_none a) _ (λ none stays. refl)
text_keeps text_command.Search text w = λ s a. search_keeps false s (search_or_compare text w s a) (searches false text w s a)
text_keeps text_command.SearchPages text w = λ s a. search_keeps true s (search_pages with_page_turned text w s a) (turned_searches text w s a)
text_keeps text_command.SearchPagesQuietly text w = λ s a. search_keeps true s (search_pages with_page_read text w s a) (read_searches text w s a)
text_keeps text_command.FindAndDelete text w = λ s a. search_keeps false s (search_and_replace text [] w s a) (replacement_searches false text [] w s a)
text_keeps text_command.FindAndKill text w = λ s a. search_keeps false s (search_and_kill text w s a) (kill_searches false text w s a)
text_keeps _ text w = tt

item_keeps : (i : Item) (w : Setting) → ActionKeeps (item_effect i w)
item_keeps (token.bare b) w = bare_keeps b w
item_keeps (token.register c q) w = register_keeps c q w
item_keeps (token.text c text) w = text_keeps c text w
item_keeps (token.replace old new) w = λ s a. search_keeps false s (replace old new w s a) (replace_searches false old new w s a)
item_keeps _ w = tt

settled_keeps : (t : Attempt) (s : State) (a : Arguments) → Keeps s t → (settled s a t).end ≢ out → (settled s a t).state.is_done ≡ s.is_done
settled_keeps (Ok step) s a h = h
settled_keeps (Err c) s a h = λ stays. refl

pub only_exits : (i : Item) (w : Setting) (s : State) (a : Arguments) → (effect i w s a).end ≢ out → (effect i w s a).state.is_done ≡ s.is_done
unfolding effect
only_exits i w s a = settled_keeps (done_by (item_effect i w) s a) s a (action_keeps (item_effect i w) s a (item_keeps i w))

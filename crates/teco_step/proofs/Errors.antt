-- An error leaves all as it was, but for a search that failed.
use Rattle.std.proofs.Common.{◌≡◌, refl, sym, ◌∙◌, ap, subst, ◌⊎◌, inl, inr, ℕ, List, [], Option, None, Some, Result, Ok, Err, ℤ, pos, Bool, true, false, cond}
use Rattle.std.specs.Prelude.{◌≢◌, int_le}
use Rattle.teco_core.specs.declared.code.Code.{Code}
use Rattle.teco_core.specs.declared.code.Code.TheVariants as code
use Rattle.teco_core.specs.Refusal.{◌>>=◌}
use Rattle.teco_core.specs.Number.{truth}
use Rattle.teco_core.specs.Arguments.{Arguments, no_arguments}
use Rattle.teco_store.specs.Page.{finished}
use Rattle.teco_store.specs.State.{State}
use Rattle.teco_scan.specs.declared.command.Bare.{Bare}
use Rattle.teco_scan.specs.declared.command.Bare.TheVariants as bare
use Rattle.teco_scan.specs.declared.command.Command.{Command}
use Rattle.teco_scan.specs.declared.command.Command.TheVariants as command
use Rattle.teco_scan.specs.declared.command.RegisterCommand.{RegisterCommand}
use Rattle.teco_scan.specs.declared.command.RegisterCommand.TheVariants as register_command
use Rattle.teco_scan.specs.declared.command.TextCommand.{TextCommand}
use Rattle.teco_scan.specs.declared.command.TextCommand.TheVariants as text_command
use Rattle.teco_scan.specs.Scan.{Item}
use Rattle.teco_scan.specs.Scan as token
use Rattle.teco_step.specs.Effect.{effect, command_effect, bare_effect, register_effect, text_effect, item_effect}
use Rattle.teco_step.specs.Control.{is_left}
use Rattle.teco_step.specs.Pages.{after_page, pages_left, with_output_in_limit, with_page_read, with_page_turned}
use Rattle.teco_step.specs.declared.next.Setting.{Setting}
use Rattle.teco_step.specs.Step.{Attempt, Made, Action, End, goes, steers, goes_on, done_by, on, leave, again, stop, settled, ends, takes_none, takes_one_or}
use Rattle.teco_step.specs.Searching.{search_or_compare, search_and_replace, search_and_kill, replace}
use Rattle.teco_step.specs.PageSearching.{search_pages}
use Rattle.teco_step.specs.declared.next.Work.{Work}
use Rattle.teco_step.proofs.Searches.{Searches, searches, replacement_searches, replace_searches, kill_searches}
use Rattle.teco_step.proofs.PageSearches.{turned_searches, read_searches}

-- the code of an error
abbrev error_of : End → Option Code
error_of (stop c) = Some c
error_of e = None

-- What is done ends by no error, or by a failed search.
abbrev Stops : Attempt → Type 0
Stops (Ok step) = (error_of step.end ≡ None) ⊎ (error_of step.end ≡ Some code.Srh)
Stops (Err c) = Unit {0}

abbrev ActionStops : Action → Type 0
ActionStops (goes make) = Unit {0}
ActionStops (steers attempt) = (s : State) (a : Arguments) → Stops (attempt s a)

made_stops : (s : State) (m : Made) → Stops (goes_on s m)
made_stops s (Ok c) = inl refl
made_stops s (Err c) = tt

action_stops : (f : Action) (s : State) (a : Arguments) → ActionStops f → Stops (done_by f s a)
action_stops (goes make) s a h = made_stops s (make s a)
action_stops (steers attempt) s a h = h s a

stops_then : {A : Type 0} (r : Result A Code) (f : A → Attempt) → ((x : A) → Stops (f x)) → Stops (r >>= f)
stops_then (Ok x) f h = h x
stops_then (Err c) f h = tt

leave_stops : (inside left : Bool) (s : State) → Stops (cond inside (ends s no_arguments (cond left leave on)) (Err code.Sni))
leave_stops true true s = inl refl
leave_stops true false s = inl refl
leave_stops false left s = tt

further_stops : (last : Bool) (work : Work) → error_of (cond last on (again work)) ≡ None
further_stops true work = refl
further_stops false work = refl

after_stops : (n : ℤ) → error_of (after_page n) ≡ None
after_stops n = further_stops (int_le n (pos 1)) _

search_stops : (further : Bool) (s : State) (t : Attempt) → Searches further s t → Stops t
search_stops further s (Ok step) (inl e, keeps) = inl (ap error_of e)
search_stops further s (Ok step) (inr (inl e), keeps) = inr (ap error_of e)
search_stops further s (Ok step) (inr (inr (may, work, e)), keeps) = inl (ap error_of e)
search_stops further s (Err c) h = tt

command_stops : (c : Command) (w : Setting) → ActionStops (command_effect c w)
command_stops command.Leave w = λ s a. stops_then (takes_one_or (truth s.last_found) a) _ (λ n. leave_stops w.inside (is_left w.modifiers n) s)
command_stops command.TurnPages w = λ s a. stops_then (pages_left w.work a) _ (λ n. stops_then (with_page_turned s) _ (λ t. inl (after_stops n)))
command_stops command.Exit w = λ s a. stops_then (takes_none a) _ (λ none. stops_then (with_output_in_limit (finished s)) _ (λ t. inl refl))
command_stops _ w = tt

bare_stops : (b : Bare) (w : Setting) → ActionStops (bare_effect b w)
bare_stops (bare.Command c) w = command_stops c w
bare_stops _ w = tt

register_stops : (c : RegisterCommand) (q : ℕ) (w : Setting) → ActionStops (register_effect c q w)
register_stops register_command.Macro q w = λ s a. inl refl
register_stops _ q w = tt

text_stops : (c : TextCommand) (text : List ℕ) (w : Setting) → ActionStops (text_effect c text w)
text_stops text_command.Go text w = λ s a. stops_then (takes_none a) _ (λ none. inl refl)
text_stops text_command.Search text w = λ s a. search_stops false s (search_or_compare text w s a) (searches false text w s a)
text_stops text_command.SearchPages text w = λ s a. search_stops true s (search_pages with_page_turned text w s a) (turned_searches text w s a)
text_stops text_command.SearchPagesQuietly text w = λ s a. search_stops true s (search_pages with_page_read text w s a) (read_searches text w s a)
text_stops text_command.FindAndDelete text w = λ s a. search_stops false s (search_and_replace text [] w s a) (replacement_searches false text [] w s a)
text_stops text_command.FindAndKill text w = λ s a. search_stops false s (search_and_kill text w s a) (kill_searches false text w s a)
text_stops _ text w = tt

item_stops : (i : Item) (w : Setting) → ActionStops (item_effect i w)
item_stops (token.bare b) w = bare_stops b w
item_stops (token.register c q) w = register_stops c q w
item_stops (token.text c text) w = text_stops c text w
item_stops (token.replace old new) w = λ s a. search_stops false s (replace old new w s a) (replace_searches false old new w s a)
item_stops _ w = tt

some_is : {A : Type 0} (x y : A) → Some x ≡ Some y → x ≡ y
some_is x y e = search e

abbrev IsNone : {A : Type 0} → Option A → Type 0
IsNone None = Unit {0}
IsNone (Some x) = ⊥

none_is_not : {A : Type 0} (y : A) → None ≡ Some y → ⊥
none_is_not y e = subst IsNone e tt

settled_stops : (t : Attempt) (s : State) (a : Arguments) (c : Code) → Stops t → (settled s a t).end ≡ stop c → c ≢ code.Srh
    → ((settled s a t).state ≡ s) × ((settled s a t).arguments ≡ a) × ((settled s a t).typed ≡ [])
settled_stops (Ok step) s a c (inl none) e other = absurd (none_is_not c (sym none ∙ ap error_of e))
settled_stops (Ok step) s a c (inr failed) e other = absurd (other (sym (some_is code.Srh c (sym failed ∙ ap error_of e))))
settled_stops (Err c) s a d h e other = (refl, refl, refl)

pub errors_leave : (i : Item) (w : Setting) (s : State) (a : Arguments) (c : Code) → (effect i w s a).end ≡ stop c → c ≢ code.Srh
    → ((effect i w s a).state ≡ s) × ((effect i w s a).arguments ≡ a) × ((effect i w s a).typed ≡ [])
unfolding effect
errors_leave i w s a c = settled_stops (done_by (item_effect i w) s a) s a c (action_stops (item_effect i w) s a (item_stops i w))

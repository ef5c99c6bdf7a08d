-- How the step of a token may end: by leaving an iteration only inside one, by a jump only to the name that the token has, by a call
-- only where it calls, and by a further step only where it may have one.
use Rattle.std.proofs.Common.{◌≡◌, sym, subst, refl, ℕ, List, [], Result, Ok, Err, ℤ, pos, Bool, true, false, cond, ◌⊎◌, inl, inr}
use Rattle.std.specs.Prelude.{int_le, ◌-ℤ◌}
use Rattle.teco_core.specs.declared.code.Code.{Code}
use Rattle.teco_core.specs.declared.code.Code.TheVariants as code
use Rattle.teco_core.specs.Refusal.{◌>>=◌}
use Rattle.teco_core.specs.Number.{truth}
use Rattle.teco_core.specs.Arguments.{Arguments, no_arguments}
use Rattle.teco_store.specs.Page.{finished}
use Rattle.teco_store.specs.State.{State}
use Rattle.teco_scan.specs.declared.command.Bare.{Bare}
use Rattle.teco_scan.specs.declared.command.Bare.TheVariants as bare
use Rattle.teco_scan.specs.declared.command.Command.{Command}
use Rattle.teco_scan.specs.declared.command.Command.TheVariants as command
use Rattle.teco_scan.specs.declared.command.RegisterCommand.{RegisterCommand}
use Rattle.teco_scan.specs.declared.command.RegisterCommand.TheVariants as register_command
use Rattle.teco_scan.specs.declared.command.TextCommand.{TextCommand}
use Rattle.teco_scan.specs.declared.command.TextCommand.TheVariants as text_command
use Rattle.teco_scan.specs.Scan.{Item}
use Rattle.teco_scan.specs.Scan as token
use Rattle.teco_step.specs.Effect.{effect, command_effect, bare_effect, register_effect, text_effect, item_effect}
use Rattle.teco_step.specs.declared.next.Setting.{Setting}
use Rattle.teco_step.specs.Step.{Attempt, Made, Action, goes, steers, goes_on, done_by, End, on, leave, go, call, again, stop, settled, ends, takes_none, takes_one_or}
use Rattle.teco_step.specs.Control.{is_left}
use Rattle.teco_step.specs.Searching.{search_or_compare, search_and_replace, search_and_kill, replace}
use Rattle.teco_step.specs.PageSearching.{search_pages}
use Rattle.teco_step.proofs.Searches.{Searches, searches, replacement_searches, replace_searches, kill_searches}
use Rattle.teco_step.proofs.PageSearches.{turned_searches, read_searches}
use Rattle.teco_step.specs.Pages.{after_page, pages_left, with_output_in_limit, with_page_read, with_page_turned}
use Rattle.teco_step.specs.declared.next.Work.{Work}
use Rattle.teco_step.specs.Stepping.{is_call, may_go_further, name_of, takes_nothing}

-- An end that a token may have, inside an iteration or not.
abbrev pub MayEnd : Bool → Item → End → Type 0
MayEnd inside i leave = inside ≡ true
MayEnd inside i (go tag) = tag ≡ name_of i
MayEnd inside i (call text) = is_call i ≡ true
MayEnd inside i (again work) = may_go_further i ≡ true
MayEnd inside i e = Unit {0}

abbrev AttemptMayEnd : Bool → Item → Attempt → Type 0
AttemptMayEnd inside i (Ok step) = MayEnd inside i step.end
AttemptMayEnd inside i (Err c) = Unit {0}

leave_or_on_ends : (inside : Bool) (i : Item) (left : Bool) (s : State)
    → AttemptMayEnd inside i (cond inside (ends s no_arguments (cond left leave on)) (Err code.Sni))
leave_or_on_ends true i true s = refl
leave_or_on_ends true i false s = tt
leave_or_on_ends false i left s = tt

-- An action after which the string goes on needs no word of its own here.
abbrev ActionMayEnd : Bool → Item → Action → Type 0
ActionMayEnd inside i (goes make) = Unit {0}
ActionMayEnd inside i (steers attempt) = (s : State) (a : Arguments) → AttemptMayEnd inside i (attempt s a)

made_ends : (inside : Bool) (i : Item) (s : State) (m : Made) → AttemptMayEnd inside i (goes_on s m)
made_ends inside i s (Ok c) = tt
made_ends inside i s (Err c) = tt

action_ends : (inside : Bool) (i : Item) (f : Action) (s : State) (a : Arguments) → ActionMayEnd inside i f → AttemptMayEnd inside i (done_by f s a)
action_ends inside i (goes make) s a h = made_ends inside i s (make s a)
action_ends inside i (steers attempt) s a h = h s a

-- one thing after another
ends_then : (inside : Bool) (i : Item) {A : Type 0} (r : Result A Code) (f : A → Attempt) → ((x : A) → AttemptMayEnd inside i (f x)) → AttemptMayEnd inside i (r >>= f)
ends_then inside i (Ok x) f h = h x
ends_then inside i (Err c) f h = tt

pages_end : (inside : Bool) (i : Item) (n : ℤ) → may_go_further i ≡ true → MayEnd inside i (after_page n)
pages_end inside i n may = elim (int_le n (pos 1)) as (λ b. MayEnd inside i (cond b on (again (record { left = n -ℤ pos 1; search = false })))) [ true ↦ tt | false ↦ may ]

search_ends : (inside : Bool) (i : Item) (s : State) (t : Attempt) → Searches (may_go_further i) s t → AttemptMayEnd inside i t
search_ends inside i s (Ok step) (inl e, keeps) = subst (λ (end : End). MayEnd inside i end) (sym e) tt
search_ends inside i s (Ok step) (inr (inl e), keeps) = subst (λ (end : End). MayEnd inside i end) (sym e) tt
search_ends inside i s (Ok step) (inr (inr (may, work, e)), keeps) = subst (λ (end : End). MayEnd inside i end) (sym e) may
search_ends inside i s (Err c) h = tt

-- the actions that say how they end, as the effect dispatches them
command_ends : (c : Command) (w : Setting) → ActionMayEnd w.inside (token.bare (bare.Command c)) (command_effect c w)
command_ends command.Leave w = λ s a.
    let i = token.bare (bare.Command command.Leave) in
    ends_then w.inside i (takes_one_or (truth s.last_found) a) (λ n. cond w.inside (ends s no_arguments (cond (is_left w.modifiers n) leave on)) (Err code.Sni))
    (λ n. leave_or_on_ends w.inside i (is_left w.modifiers n) s)
command_ends command.TurnPages w = λ s a.
    let i = token.bare (bare.Command command.TurnPages) in
    ends_then w.inside i (pages_left w.work a) _ (λ n. ends_then w.inside i (with_page_turned s) _ (λ t. pages_end w.inside i n refl))
command_ends command.Exit w = λ s a.
    let i = token.bare (bare.Command command.Exit) in
    ends_then w.inside i (takes_none a) _ (λ none. ends_then w.inside i (with_output_in_limit (finished s)) _ (λ t. tt))
command_ends _ w = tt

bare_ends : (b : Bare) (w : Setting) → ActionMayEnd w.inside (token.bare b) (bare_effect b w)
bare_ends (bare.Command c) w = command_ends c w
bare_ends _ w = tt

register_ends : (c : RegisterCommand) (q : ℕ) (w : Setting) → ActionMayEnd w.inside (token.register c q) (register_effect c q w)
register_ends register_command.Macro q w = λ s a. refl
register_ends _ q w = tt

text_ends : (c : TextCommand) (text : List ℕ) (w : Setting) → ActionMayEnd w.inside (token.text c text) (text_effect c text w)
text_ends text_command.Go text w = λ s a. ends_then w.inside (token.text text_command.Go text) (takes_none a) _ (λ none. refl)
text_ends text_command.Search text w = λ s a. search_ends w.inside (token.text text_command.Search text) s (search_or_compare text w s a) (searches false text w s a)
text_ends text_command.SearchPages text w = λ s a. search_ends w.inside (token.text text_command.SearchPages text) s (search_pages with_page_turned text w s a) (turned_searches text w s a)
text_ends text_command.SearchPagesQuietly text w = λ s a. search_ends w.inside (token.text text_command.SearchPagesQuietly text) s (search_pages with_page_read text w s a) (read_searches text w s a)
text_ends text_command.FindAndDelete text w = λ s a. search_ends w.inside (token.text text_command.FindAndDelete text) s (search_and_replace text [] w s a) (replacement_searches false text [] w s a)
text_ends text_command.FindAndKill text w = λ s a. search_ends w.inside (token.text text_command.FindAndKill text) s (search_and_kill text w s a) (kill_searches false text w s a)
text_ends _ text w = tt

item_ends : (i : Item) (w : Setting) → ActionMayEnd w.inside i (item_effect i w)
item_ends (token.bare b) w = bare_ends b w
item_ends (token.register c q) w = register_ends c q w
item_ends (token.text c text) w = text_ends c text w
item_ends (token.replace old new) w = λ s a. search_ends w.inside (token.replace old new) s (replace old new w s a) (replace_searches false old new w s a)
item_ends _ w = tt

settled_ends : (inside : Bool) (i : Item) (t : Attempt) (s : State) (a : Arguments) → AttemptMayEnd inside i t → MayEnd inside i (settled s a t).end
settled_ends inside i (Ok step) s a h = h
settled_ends inside i (Err c) s a h = tt

pub effect_ends : (i : Item) (w : Setting) (s : State) (a : Arguments) → MayEnd w.inside i (effect i w s a).end
unfolding effect
effect_ends i w s a = settled_ends w.inside i (done_by (item_effect i w) s a) s a (action_ends w.inside i (item_effect i w) s a (item_ends i w))

-- An iteration is left only inside one.
pub leave_is_inside : (i : Item) (w : Setting) (s : State) (a : Arguments) → (effect i w s a).end ≡ leave → w.inside ≡ true
leave_is_inside i w s a is = subst (λ (e : End). MayEnd w.inside i e) is (effect_ends i w s a)

-- A jump goes to the name that the token has.
pub go_names : (i : Item) (w : Setting) (s : State) (a : Arguments) (name : List ℕ) → (effect i w s a).end ≡ go name → name_of i ≡ name
go_names i w s a name is = sym (subst (λ (e : End). MayEnd w.inside i e) is (effect_ends i w s a))

-- A text is called only by a token that calls.
pub calls_by_calls : (i : Item) (w : Setting) (s : State) (a : Arguments) (text : List ℕ) → (effect i w s a).end ≡ call text → is_call i ≡ true
calls_by_calls i w s a text is = subst (λ (e : End). MayEnd w.inside i e) is (effect_ends i w s a)

-- A further step is of a token that may have some.
pub goes_further_if_it_may : (i : Item) (w : Setting) (s : State) (a : Arguments) (work : Work) → (effect i w s a).end ≡ again work → may_go_further i ≡ true
goes_further_if_it_may i w s a work is = subst (λ (e : End). MayEnd w.inside i e) is (effect_ends i w s a)

change_goes_on : (s : State) (a : Arguments) (made : Made) → ((settled s a (goes_on s made)).end ≡ on) ⊎ ((c : Code) × ((settled s a (goes_on s made)).end ≡ stop c))
change_goes_on s a (Ok change) = inl refl
change_goes_on s a (Err c) = inr (c, refl)

-- After a value or arithmetic the string goes on, or ends by an error.
pub value_goes_on : (i : Item) (w : Setting) (s : State) (a : Arguments) → takes_nothing i ≡ true → ((effect i w s a).end ≡ on) ⊎ ((c : Code) × ((effect i w s a).end ≡ stop c))
unfolding effect
value_goes_on (token.digits ds) w s a e = change_goes_on s a _
value_goes_on (token.bare (bare.Quantity q)) w s a e = change_goes_on s a _
value_goes_on (token.bare (bare.Arithmetic b)) w s a e = change_goes_on s a _
value_goes_on (token.bare b) w s a e = absurd cc
value_goes_on (token.register register_command.Number q) w s a e = change_goes_on s a _
value_goes_on (token.register c q) w s a e = absurd cc
value_goes_on (token.byte b) w s a e = change_goes_on s a _
value_goes_on (token.text c text) w s a e = absurd cc
value_goes_on (token.set_text q text) w s a e = absurd cc
value_goes_on (token.replace old new) w s a e = absurd cc

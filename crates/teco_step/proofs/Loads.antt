-- A step changes the state or it types, and its load is what it moves.
use Rattle.std.proofs.Common.{◌≡◌, ap, sym, subst, refl, ◌⊎◌, inl, inr, ℕ, ◌≤◌, Bool, true, false, cond, List, [], ◌∷◌, length, Ok, Err, pos, ◌+ℤ◌, ◌-ℤ◌}
use Rattle.std.specs.Fmt.{digits, signed_decimal}
use Rattle.teco_core.specs.declared.code.Code.TheVariants as code
use Rattle.teco_core.specs.Number.{decimal_value, to_word, truth}
use Rattle.teco_core.specs.Arguments.{Arguments, no_arguments}
use Rattle.teco_store.specs.Page.{finished, page_load, with_next_page}
use Rattle.teco_store.specs.State.{State}
use Rattle.teco_scan.specs.declared.command.Bare.{Bare}
use Rattle.teco_scan.specs.declared.command.Bare.TheVariants as bare
use Rattle.teco_scan.specs.declared.command.Command.{Command}
use Rattle.teco_scan.specs.declared.command.Command.TheVariants as command
use Rattle.teco_scan.specs.declared.command.RegisterCommand.{RegisterCommand}
use Rattle.teco_scan.specs.declared.command.RegisterCommand.TheVariants as register_command
use Rattle.teco_scan.specs.declared.command.TextCommand.{TextCommand}
use Rattle.teco_scan.specs.declared.command.TextCommand.TheVariants as text_command
use Rattle.teco_scan.specs.Scan.{Item}
use Rattle.teco_scan.specs.Scan as token
use Rattle.teco_step.specs.Effect.{effect, command_effect, bare_effect, register_effect, text_effect, item_effect}
use Rattle.teco_step.specs.Control.{is_left}
use Rattle.teco_step.specs.Line.{line}
use Rattle.teco_step.specs.Load.{Moves}
use Rattle.teco_step.specs.Pages.{pages_left, with_output_in_limit, with_page_turned}
use Rattle.teco_step.specs.declared.next.Setting.{Setting}
use Rattle.teco_step.specs.Step.{Attempt, Made, Action, goes, steers, goes_on, done_by, on, leave, settled, ends, as_byte, place_or, takes_none, takes_one, takes_one_or, takes_reach}
use Rattle.teco_step.specs.Typing.{around, ended, part}
use Rattle.teco_step.specs.Values.{built, quantity_value}
use Rattle.teco_step.proofs.Moving.{exit_moves, nothing_moves, turn_moves}
use Rattle.teco_step.proofs.Occurring.{Backward, Forward, Long, Spelled}
use Rattle.teco_step.proofs.Seeking.{replaces_or_compares, seeks, seeks_and_kills, seeks_and_replaces, seeks_reading, seeks_turning}
use Rattle.teco_step.proofs.Working.{AttemptWorks, MadeWorks, Works, attempt_then, case_works, delete_works, extract_works, get_works, gives_works, increment_works, insert_tab_works, insert_works, kill_works, level_works, made_then, moves_works, next_page_works, output_is, pop_works, push_works, register_value_works, set_number_works, set_text_works, turned_is, types_works, within_limit, write_page_works}

abbrev ActionWorks : Action → Type 0
ActionWorks (goes make) = (s : State) (a : Arguments) → MadeWorks s (make s a)
ActionWorks (steers attempt) = (s : State) (a : Arguments) → AttemptWorks s (attempt s a)

-- Whether the session is done weighs nothing.
as_done : (s t : State) (load : ℕ) → Moves s t load → Moves s (record t { is_done = s.is_done }) load
as_done s t load m = record {
  text = m.text;
  registers = m.registers;
  pushed = m.pushed;
  search = m.search;
  in_text = m.in_text;
  in_registers = m.in_registers;
  in_pushed = m.in_pushed;
  in_search = m.in_search;
  written = m.written;
  output = m.output;
  all = m.all;
}

change_works : (s : State) (m : Made) → MadeWorks s m → AttemptWorks s (goes_on s m)
change_works s (Ok c) (inl (stays, none)) = inl (ap (λ (t : State). record t { is_done = s.is_done }) stays, none)
change_works s (Ok c) (inr (typed, keeps, moves)) = inr (typed, keeps, λ within. as_done s c.state c.load (moves within))
change_works s (Err c) h = tt

action_works : (f : Action) (s : State) (a : Arguments) → ActionWorks f → AttemptWorks s (done_by f s a)
action_works (goes make) s a h = change_works s (make s a) (h s a)
action_works (steers attempt) s a h = h s a

leave_works : (inside left : Bool) (s : State) → AttemptWorks s (cond inside (ends s no_arguments (cond left leave on)) (Err code.Sni))
leave_works true left s = inl (refl, refl)
leave_works false left s = tt

exit_works : (s t : State) → with_output_in_limit (finished s) ≡ Ok t → Works s t [] (length s.text)
exit_works s t e = within_limit s (finished s) t (length s.text) (output_is (finished s) t e) refl (λ within. exit_moves s)

-- The actions, as the effect dispatches them. What a command comes to after it has taken its arguments has one lemma here.
command_works : (c : Command) (w : Setting) → ActionWorks (command_effect c w)
command_works command.Leave w = λ s a. attempt_then s (takes_one_or (truth s.last_found) a) _ (λ n e. leave_works w.inside (is_left w.modifiers n) s)
command_works command.TurnPages w = λ s a.
    attempt_then s (pages_left w.work a) _ (λ n e. attempt_then s (with_page_turned s) _ (λ t h. within_limit s (with_next_page s) t (page_load s) (turned_is s t h) refl (λ within. turn_moves s)))
command_works command.Exit w = λ s a. attempt_then s (takes_none a) _ (λ none e. attempt_then s (with_output_in_limit (finished s)) _ (λ t h. exit_works s t h))
command_works command.Jump w = λ s a. made_then s (takes_one_or (pos 0) a) _ (λ n e. made_then s (place_or code.Pop s n) _ (λ place h. moves_works s a place))
command_works command.Forward w = λ s a. made_then s (takes_one_or (pos 1) a) _ (λ n e. made_then s (place_or code.Pop s (pos s.pointer +ℤ n)) _ (λ place h. moves_works s a place))
command_works command.Back w = λ s a. made_then s (takes_one_or (pos 1) a) _ (λ n e. made_then s (place_or code.Pop s (pos s.pointer -ℤ n)) _ (λ place h. moves_works s a place))
command_works command.Line w = λ s a. made_then s (takes_one_or (pos 1) a) _ (λ n e. moves_works s a (line s.text s.pointer n))
command_works command.Delete w = delete_works
command_works command.Kill w = kill_works
command_works command.TypeOut w = λ s a. made_then s (takes_reach s a) _ (λ r e. types_works s (part s r))
command_works command.View w = λ s a. made_then s (takes_none a) _ (λ none e. types_works s (part s (around s)))
command_works command.TypeByte w = λ s a. made_then s (takes_one code.Arg a) _ (λ n e. made_then s (as_byte n) _ (λ b h. types_works s (b ∷ [])))
command_works command.Print w = λ s a. made_then s (takes_one code.Nae a) _ (λ n e. types_works s (ended w.modifiers (signed_decimal n)))
command_works command.PrintOctal w = λ s a. made_then s (takes_one code.Nae a) _ (λ n e. types_works s (ended w.modifiers (digits 8 true (to_word n))))
command_works command.PrintHexadecimal w = λ s a. made_then s (takes_one code.Nae a) _ (λ n e. types_works s (ended w.modifiers (digits 16 true (to_word n))))
command_works command.NextPage w = next_page_works w.modifiers
command_works command.WritePage w = write_page_works
command_works command.CaseMode w = case_works

bare_works : (b : Bare) (w : Setting) → ActionWorks (bare_effect b w)
bare_works (bare.Quantity q) w = λ s a. gives_works s a (quantity_value q s)
bare_works (bare.Arithmetic b) w = λ s a. made_then s (built b (length s.text) a) _ (λ built_up e. inl (refl, refl))
bare_works (bare.Command c) w = command_works c w
bare_works (bare.Level l) w = level_works w.modifiers l

register_works : (c : RegisterCommand) (q : ℕ) (w : Setting) → ActionWorks (register_effect c q w)
register_works register_command.Number q w = register_value_works w.modifiers q
register_works register_command.Increment q w = increment_works q
register_works register_command.Set q w = set_number_works q
register_works register_command.Extract q w = extract_works w.modifiers q
register_works register_command.Push q w = push_works q
register_works register_command.Pop q w = pop_works q
register_works register_command.Get q w = get_works w.modifiers q
register_works register_command.Macro q w = λ s a. inl (refl, refl)

settled_works : (t : Attempt) (s : State) (a : Arguments) → AttemptWorks s t → Works s (settled s a t).state (settled s a t).typed (settled s a t).load
settled_works (Ok step) s a h = h
settled_works (Err c) s a h = inl (refl, refl)

moves_by_work : (s t : State) (typed : List ℕ) (load : ℕ) → Works s t typed load → s.pointer ≤ length s.text → Moves s t load
moves_by_work s t typed load (inl (stays, none)) within = subst (λ (u : State). Moves s u load) (sym stays) (subst (λ n. Moves s s n) (sym none) (nothing_moves s))
moves_by_work s t typed load (inr (silent, keeps, moves)) within = moves within

profile_by_work : (s t : State) (typed : List ℕ) (load : ℕ) → Works s t typed load → t.profile ≡ s.profile
profile_by_work s t typed load (inl (stays, none)) = ap (λ (u : State). u.profile) stays
profile_by_work s t typed load (inr (silent, keeps, moves)) = keeps

apart_by_work : (s t : State) (typed : List ℕ) (load : ℕ) → Works s t typed load → (t ≡ s) ⊎ (typed ≡ [])
apart_by_work s t typed load (inl (stays, none)) = inl stays
apart_by_work s t typed load (inr (silent, keeps, moves)) = inr silent

module _ (long : Long) (is_forward : Forward) (is_backward : Backward) (spelled : Spelled) where
  text_works : (c : TextCommand) (text : List ℕ) (w : Setting) → ActionWorks (text_effect c text w)
  text_works text_command.Insert text w = insert_works text
  text_works text_command.InsertTab text w = insert_tab_works text
  text_works text_command.TypeOut text w = λ s a. made_then s (takes_none a) _ (λ none e. inl (refl, refl))
  text_works text_command.Go text w = λ s a. attempt_then s (takes_none a) _ (λ none e. inl (refl, refl))
  text_works text_command.Search text w = seeks text w
  text_works text_command.SearchPages text w = seeks_turning text w
  text_works text_command.SearchPagesQuietly text w = seeks_reading text w
  text_works text_command.FindAndDelete text w = seeks_and_replaces long is_forward is_backward spelled text [] w
  text_works text_command.FindAndKill text w = seeks_and_kills long is_forward is_backward spelled text w

  item_works : (i : Item) (w : Setting) → ActionWorks (item_effect i w)
  item_works (token.digits ds) w = λ s a. made_then s (decimal_value ds) _ (λ n e. gives_works s a n)
  item_works (token.bare b) w = bare_works b w
  item_works (token.register c q) w = register_works c q w
  item_works (token.text c text) w = text_works c text w
  item_works (token.set_text q text) w = set_text_works w.modifiers q text
  item_works (token.replace old new) w = replaces_or_compares long is_forward is_backward spelled old new w
  item_works (token.byte b) w = λ s a. gives_works s a (pos b)

  effect_works : (i : Item) (w : Setting) (s : State) (a : Arguments) → Works s (effect i w s a).state (effect i w s a).typed (effect i w s a).load
  unfolding effect
  effect_works i w s a = settled_works (done_by (item_effect i w) s a) s a (action_works (item_effect i w) s a (item_works i w))

  pub changes_or_types : (i : Item) (w : Setting) (s : State) (a : Arguments) → ((effect i w s a).state ≡ s) ⊎ ((effect i w s a).typed ≡ [])
  changes_or_types i w s a = apart_by_work s (effect i w s a).state (effect i w s a).typed (effect i w s a).load (effect_works i w s a)

  pub profile_stays : (i : Item) (w : Setting) (s : State) (a : Arguments) → (effect i w s a).state.profile ≡ s.profile
  profile_stays i w s a = profile_by_work s (effect i w s a).state (effect i w s a).typed (effect i w s a).load (effect_works i w s a)

  pub load_moves : (i : Item) (w : Setting) (s : State) (a : Arguments) → s.pointer ≤ length s.text → Moves s (effect i w s a).state (effect i w s a).load
  load_moves i w s a within = moves_by_work s (effect i w s a).state (effect i w s a).typed (effect i w s a).load (effect_works i w s a) within

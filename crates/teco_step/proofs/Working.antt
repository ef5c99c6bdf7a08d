-- What a step does: it types and leaves the state, or its load is what it moves.
use Rattle.std.proofs.Common.{◌≡◌, ◌∙◌, ap, sym, subst, refl, ◌⊎◌, inl, inr, ℕ, ◌+◌, ◌-◌, ◌≤◌, min, max, Bool, true, false, cond, List, [], ◌∷◌, ◌++◌, length, drop, Option, None, Some, Result, Ok, Err, ℤ, pos, nat_le, arith}
use Rattle.std.specs.Prelude.{◌==◌, ◌+ℤ◌}
use Rattle.std.specs.Fmt.{signed_decimal}
use Rattle.teco_core.specs.declared.arguments.Level.{Level}
use Rattle.teco_core.specs.declared.arguments.Level.TheVariants as level
use Rattle.teco_core.specs.declared.arguments.Taken.{Taken}
use Rattle.teco_core.specs.declared.arguments.Taken.TheVariants as taken
use Rattle.teco_core.specs.declared.code.Code.{Code}
use Rattle.teco_core.specs.declared.code.Code.TheVariants as code
use Rattle.teco_core.specs.declared.limits.TheConstants.{FILE_LIMIT, TEXT_LIMIT}
use Rattle.teco_core.specs.declared.profile.Profile.{Profile}
use Rattle.teco_core.specs.declared.profile.Profile.TheVariants.{Named, Wide}
use Rattle.teco_core.specs.Refusal.{◌>>=◌}
use Rattle.teco_core.specs.Number.{fitted}
use Rattle.teco_core.specs.Arguments.{Arguments, emptied, give, level_of, taken_from}
use Rattle.teco_core.specs.Register.{content}
use Rattle.teco_scan.specs.declared.command.Modifiers.{Modifiers}
use Rattle.teco_scan.specs.declared.command.LevelCommand.{LevelCommand}
use Rattle.teco_scan.specs.declared.command.LevelCommand.TheVariants as level_command
use Rattle.teco_store.specs.Page.{page, page_load, past_page, is_input_over, with_next_page, with_more, with_page, with_range_written}
use Rattle.teco_store.specs.State.{State, last_pushed, popped_into, pushed_from, spliced, with_register_text}
use Rattle.teco_step.specs.Case.{mode_of, set_case}
use Rattle.teco_step.specs.Decimal.{Numeral, decimal_at_level, insert_number, numeral_at, reads}
use Rattle.teco_step.specs.Editing.{delete, insert, insert_tab, inserted, inserts, kill, moves, puts, untaken, with_text_in_limit}
use Rattle.teco_step.specs.Load.{Moves}
use Rattle.teco_step.specs.Pages.{append_page, next_page, with_output_in_limit, with_page_read, with_page_turned, write_page, writes, writes_taken}
use Rattle.teco_step.specs.Registers.{adds, byte_asked, extract, get, increment, increments, insert_text, pop, push, register_value, set_number, set_text, sets_number, sets_text, takes_text, type_text, value_or_code}
use Rattle.teco_step.specs.Step.{Attempt, Made, changes, edits, gives, place_or, reached, takes_none, takes_one, takes_one_or, takes_reach, types}
use Rattle.teco_step.specs.Values.{appends, at_level, distance_at_level}
use Rattle.teco_step.proofs.Moving.{case_moves, more_moves, number_moves, page_moves, pointer_moves, pop_moves, push_moves, register_moves, splice_moves, writing_moves}
use Rattle.teco_step.proofs.Reaching.{between, place_within, reach_spans}

-- from one state to another, with these bytes typed, by this load
abbrev pub Works : State → State → List ℕ → ℕ → Type 0
Works s t typed load = ((t ≡ s) × (load ≡ 0)) ⊎ ((typed ≡ []) × (t.profile ≡ s.profile) × (s.pointer ≤ length s.text → Moves s t load))

abbrev pub MadeWorks : State → Made → Type 0
MadeWorks s (Ok c) = Works s c.state c.typed c.load
MadeWorks s (Err c) = Unit {0}

abbrev pub AttemptWorks : State → Attempt → Type 0
AttemptWorks s (Ok step) = Works s step.state step.typed step.load
AttemptWorks s (Err c) = Unit {0}

-- one thing after another, and a choice
pub made_then : {A : Type 0} (s : State) (r : Result A Code) (f : A → Made) → ((x : A) → r ≡ Ok x → MadeWorks s (f x)) → MadeWorks s (r >>= f)
made_then s (Ok x) f h = h x refl
made_then s (Err c) f h = tt

made_if : (s : State) (b : Bool) (x y : Made) → MadeWorks s x → MadeWorks s y → MadeWorks s (cond b x y)
made_if s true x y p q = p
made_if s false x y p q = q

pub attempt_then : {A : Type 0} (s : State) (r : Result A Code) (f : A → Attempt) → ((x : A) → r ≡ Ok x → AttemptWorks s (f x)) → AttemptWorks s (r >>= f)
attempt_then s (Ok x) f h = h x refl
attempt_then s (Err c) f h = tt

pub attempt_if : (s : State) (b : Bool) (x y : Attempt) → AttemptWorks s x → AttemptWorks s y → AttemptWorks s (cond b x y)
attempt_if s true x y p q = p
attempt_if s false x y p q = q

-- The state that is within its limits is the one that was asked for.
pub limit_by : (b : Bool) (c : Code) (u t : State) → cond b (Ok u) (Err c) ≡ Ok t → u ≡ t
limit_by true c u t e = cc
limit_by false c u t e = absurd cc

pub text_is : (u t : State) → with_text_in_limit u ≡ Ok t → u ≡ t
text_is u t e = limit_by (nat_le (length u.text) TEXT_LIMIT) code.Big u t e

pub output_is : (u t : State) → with_output_in_limit u ≡ Ok t → u ≡ t
output_is u t e = limit_by (nat_le (length u.output) FILE_LIMIT) code.Big u t e

output_then_text : (u t : State) (r : Result State Code) → ((v : State) → r ≡ Ok v → u ≡ v) → (r >>= with_text_in_limit) ≡ Ok t → u ≡ t
output_then_text u t (Ok v) h e = h v refl ∙ text_is v t e
output_then_text u t (Err c) h e = absurd cc

pub turned_is : (s t : State) → with_page_turned s ≡ Ok t → with_next_page s ≡ t
turned_is s t e = output_then_text (with_next_page s) t (with_output_in_limit (with_next_page s)) (output_is (with_next_page s)) e

read_by : (s t : State) (b : Bool) → cond b (with_text_in_limit (with_page s)) (Err code.Yca) ≡ Ok t → with_page s ≡ t
read_by s t true e = text_is (with_page s) t e
read_by s t false e = absurd cc

pub read_is : (s t : State) → with_page_read s ≡ Ok t → with_page s ≡ t
read_is s t e = read_by s t (length s.text == 0) e

-- a state that was asked for, by its load
pub within_limit : (s u t : State) (load : ℕ) → u ≡ t → u.profile ≡ s.profile → (s.pointer ≤ length s.text → Moves s u load) → Works s t [] load
within_limit s u t load is keeps h = inr (refl, ap (λ (v : State). v.profile) (sym is) ∙ keeps, λ within. subst (λ (v : State). Moves s v load) is (h within))

-- values
pub gives_works : (s : State) (a : Arguments) (v : ℤ) → MadeWorks s (gives s a v)
gives_works s a v = made_then s (give v a) _ (λ given e. inl (refl, refl))

-- moves of the pointer
pub moves_works : (s : State) (a : Arguments) (place : ℕ) → MadeWorks s (moves place s a)
moves_works s a place = inr (refl, refl, λ within. pointer_moves s place)

-- bytes that are typed
pub types_works : (s : State) (bytes : List ℕ) → MadeWorks s (types s bytes)
types_works s bytes = inl (refl, refl)

-- edits
puts_works : (at gone : ℕ) (bytes : List ℕ) (s : State) (a : Arguments) → (s.pointer ≤ length s.text → at + gone ≤ length s.text) → MadeWorks s (puts at gone bytes s a)
puts_works at gone bytes s a lies =
    let u : State = spliced s at gone bytes None in
    made_then s (with_text_in_limit u) _ (λ t e. within_limit s u t (gone + length bytes) (text_is u t e) refl (λ within. splice_moves s at gone bytes (lies within)))

pub inserts_works : (bytes : List ℕ) (s : State) (a : Arguments) → MadeWorks s (inserts bytes s a)
inserts_works bytes s a = puts_works s.pointer 0 bytes s a (λ within. omega arith)

pub delete_works : (s : State) (a : Arguments) → MadeWorks s (delete s a)
delete_works s a =
    made_then s (takes_one_or (pos 1) a) _ (λ n e. made_then s (place_or code.Dtb s (pos s.pointer +ℤ n)) _ (λ place there.
    puts_works (min s.pointer place) (max s.pointer place - min s.pointer place) [] s a (λ within.
    between s.pointer place (length s.text) within (place_within code.Dtb s (pos s.pointer +ℤ n) place there))))

pub kill_works : (s : State) (a : Arguments) → MadeWorks s (kill s a)
kill_works s a = made_then s (takes_reach s a) _ (λ r e. puts_works r.low (r.high - r.low) [] s a (λ within. reach_spans s a r within e))

pub insert_works : (text : List ℕ) (s : State) (a : Arguments) → MadeWorks s (insert text s a)
insert_works text s a = made_then s (taken_from a) _ (λ t e. made_then s (inserted text t) _ (λ bytes h. inserts_works bytes s a))

pub insert_tab_works : (text : List ℕ) (s : State) (a : Arguments) → MadeWorks s (insert_tab text s a)
insert_tab_works text s a = made_then s (taken_from a) _ (λ t e. made_then s (untaken t) _ (λ none h. inserts_works (9 ∷ text) s a))

-- numbers in the buffer
reads_works : (written : Numeral) (s : State) (a : Arguments) → MadeWorks s (reads written s a)
reads_works written s a = made_then s (fitted written.value) _ (λ n e. made_then s (give n a) _ (λ given h. inr (refl, refl, λ within. pointer_moves s (s.pointer + written.size))))

inserted_number_works : (s : State) (a : Arguments) → MadeWorks s (insert_number s a)
inserted_number_works s a = made_then s (takes_one code.Arg a) _ (λ n e. inserts_works (signed_decimal n) s a)

decimal_works : (l : Level) (s : State) (a : Arguments) → MadeWorks s (decimal_at_level l s a)
decimal_works (level.Value n) s a = inserted_number_works s a
decimal_works (level.Sign n) s a = reads_works (numeral_at (drop s.pointer s.text)) s a
decimal_works level.Empty s a = reads_works (numeral_at (drop s.pointer s.text)) s a
decimal_works level.Waits s a = reads_works (numeral_at (drop s.pointer s.text)) s a

more_profile : (s : State) (over : Bool) → (cond over s (record (past_page s) { text = s.text ++ page s })).profile ≡ s.profile
more_profile s true = refl
more_profile s false = refl

append_page_works : (m : Modifiers) (s : State) (a : Arguments) → MadeWorks s (append_page m s a)
append_page_works m s a =
    made_then s (takes_none a) _ (λ none e. made_then s (with_text_in_limit (with_more s)) _ (λ t h.
    within_limit s (with_more s) t (length (page s)) (text_is (with_more s) t h) (more_profile s (is_input_over s)) (λ within. more_moves s)))

appends_works : (m : Modifiers) (l : Level) (s : State) (a : Arguments) → MadeWorks s (appends m l s a)
appends_works m (level.Value n) s a = gives_works s (emptied a) _
appends_works m (level.Sign n) s a = gives_works s (emptied a) _
appends_works m level.Empty s a = append_page_works m s a
appends_works m level.Waits s a = tt

distance_works : (l : Level) (s : State) (a : Arguments) → MadeWorks s (distance_at_level l s a)
distance_works (level.Value n) s a = gives_works s (emptied a) _
distance_works (level.Sign n) s a = gives_works s (emptied a) _
distance_works level.Empty s a = gives_works s a _
distance_works level.Waits s a = gives_works s a _

pub level_works : (m : Modifiers) (l : LevelCommand) (s : State) (a : Arguments) → MadeWorks s (at_level m l s a)
level_works m level_command.Append s a = appends_works m (level_of a.expression) s a
level_works m level_command.Decimal s a = decimal_works (level_of a.expression) s a
level_works m level_command.Distance s a = distance_works (level_of a.expression) s a

-- pages
pub next_page_works : (m : Modifiers) (s : State) (a : Arguments) → MadeWorks s (next_page m s a)
next_page_works m s a =
    made_then s (takes_none a) _ (λ none e. made_then s (with_page_read s) _ (λ t h. within_limit s (with_page s) t (page_load s) (read_is s t h) refl (λ within. page_moves s)))

writes_works : (low high : ℕ) (form_feed : Bool) (s : State) (a : Arguments) → MadeWorks s (writes low high form_feed s a)
writes_works low high form_feed s a =
    let u : State = with_range_written s low high form_feed in
    made_then s (with_output_in_limit u) _ (λ t e. within_limit s u t 0 (output_is u t e) refl (λ within. writing_moves s low high form_feed))

writes_taken_works : (t : Taken) (s : State) (a : Arguments) → MadeWorks s (writes_taken t s a)
writes_taken_works taken.None s a = writes_works 0 (length s.text) true s a
writes_taken_works (taken.One n) s a = tt
writes_taken_works (taken.Two m n) s a = made_then s (reached s (taken.Two m n)) _ (λ r e. writes_works r.low r.high false s a)

pub write_page_works : (s : State) (a : Arguments) → MadeWorks s (write_page s a)
write_page_works s a = made_then s (taken_from a) _ (λ t e. writes_taken_works t s a)

-- registers
value_or_code_works : (m : Modifiers) (q : ℕ) (asked : Option ℤ) (s : State) (a : Arguments) → MadeWorks s (value_or_code m q asked s a)
value_or_code_works m q None s a = gives_works s a _
value_or_code_works m q (Some n) s a = gives_works s (emptied a) _

pub register_value_works : (m : Modifiers) (q : ℕ) (s : State) (a : Arguments) → MadeWorks s (register_value m q s a)
register_value_works m q s a = value_or_code_works m q (byte_asked m s.profile (level_of a.expression)) s a

sets_number_works : (p : Profile) (q : ℕ) (t : Taken) (s : State) → MadeWorks s (sets_number p q t s)
sets_number_works p q taken.None s = tt
sets_number_works p q (taken.One n) s = inr (refl, refl, λ within. number_moves s q n)
sets_number_works Named q (taken.Two m n) s = tt
sets_number_works Wide q (taken.Two m n) s = inr (refl, refl, λ within. number_moves s q n)

pub set_number_works : (q : ℕ) (s : State) (a : Arguments) → MadeWorks s (set_number q s a)
set_number_works q s a = made_then s (taken_from a) _ (λ t e. sets_number_works s.profile q t s)

adds_works : (q : ℕ) (n : ℤ) (s : State) (a : Arguments) → MadeWorks s (adds q n s a)
adds_works q n s a =
    made_then s (fitted ((content s.registers q).number +ℤ n)) _ (λ sum e. made_then s (give sum a) _ (λ given h. inr (refl, refl, λ within. number_moves s q sum)))

increments_works : (q : ℕ) (l : Level) (s : State) (a : Arguments) → MadeWorks s (increments q l s a)
increments_works q (level.Value n) s a = adds_works q n s (emptied a)
increments_works q (level.Sign n) s a = adds_works q n s (emptied a)
increments_works q level.Empty s a = adds_works q (pos 1) s (emptied a)
increments_works q level.Waits s a = adds_works q (pos 1) s a

pub increment_works : (q : ℕ) (s : State) (a : Arguments) → MadeWorks s (increment q s a)
increment_works q s a = increments_works q (level_of a.expression) s a

sets_works : (q : ℕ) (text : List ℕ) (s : State) → MadeWorks s (sets_text q text s)
sets_works q text s =
    made_if s (nat_le (length text) TEXT_LIMIT) (changes (with_register_text s q text) (length (content s.registers q).text + length text)) (Err code.Big)
    (inr (refl, refl, λ within. register_moves s q text)) tt

pub set_text_works : (m : Modifiers) (q : ℕ) (text : List ℕ) (s : State) (a : Arguments) → MadeWorks s (set_text m q text s a)
set_text_works m q text s a = made_then s (takes_text s.profile text a) _ (λ bytes e. sets_works q _ s)

pub extract_works : (m : Modifiers) (q : ℕ) (s : State) (a : Arguments) → MadeWorks s (extract m q s a)
extract_works m q s a = made_then s (takes_reach s a) _ (λ r e. sets_works q _ s)

pub push_works : (q : ℕ) (s : State) (a : Arguments) → MadeWorks s (push q s a)
push_works q s a = made_if s _ (Err code.Pdo) (edits (pushed_from s q) a (length (content s.registers q).text)) tt (inr (refl, refl, λ within. push_moves s q))

pub pop_works : (q : ℕ) (s : State) (a : Arguments) → MadeWorks s (pop q s a)
pop_works q s a =
    made_if s _ (Err code.Cpq) (edits (popped_into s q) a (length (content s.registers q).text + length (last_pushed s).text)) tt (inr (refl, refl, λ within. pop_moves s q))

typed_works : (q : ℕ) (s : State) (a : Arguments) → MadeWorks s (type_text q s a)
typed_works q s a = made_then s (takes_none a) _ (λ none e. inl (refl, refl))

inserted_works : (q : ℕ) (s : State) (a : Arguments) → MadeWorks s (insert_text q s a)
inserted_works q s a = made_then s (takes_none a) _ (λ none e. inserts_works (content s.registers q).text s a)

pub get_works : (m : Modifiers) (q : ℕ) (s : State) (a : Arguments) → MadeWorks s (get m q s a)
get_works m q s a = made_if s _ (type_text q s a) (insert_text q s a) (typed_works q s a) (inserted_works q s a)

-- the case mode
pub case_works : (s : State) (a : Arguments) → MadeWorks s (set_case s a)
case_works s a = made_then s (takes_one code.Arg a) _ (λ n e. made_then s (mode_of n) _ (λ mode h. inr (refl, refl, λ within. case_moves s mode)))

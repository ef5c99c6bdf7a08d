-- Strings that are right, run over states whose code registers hold clean texts.
use Rattle.std.proofs.Common.{◌≡◌, ℕ, zero, suc, ◌-◌, List, [], ◌∷◌, ◌++◌, take, drop, Bool, true, false, Option, Some, None, refl, sym, subst, ◌∙◌, inl, inr}
use Rattle.std.specs.Prelude.{slice_index_or}
use Rattle.std.specs.Bool.{MatchBool}
use Rattle.std.specs.List.{AllByRecursion}
use Rattle.teco_core.specs.declared.code.Code.{Code}
use Rattle.teco_core.specs.declared.code.Code.TheVariants as codes
use Rattle.teco_store.specs.State.{State}
use Rattle.teco_exec.specs.Runs.{Runs, EndsWell}
use Rattle.teco_exec.specs.StringMeaning.{string_meaning}
use Rattle.teco_exec.specs.declared.outcome.Outcome.{Outcome}
use Rattle.teco_check.specs.Checked.{held}
use Rattle.teco_check.specs.CleanRuns.{IsCleanState, IsRight, NeverFaults, is_static}
use Rattle.teco_check.specs.Clean.{clean_within, is_clean}
use Rattle.teco_scan.specs.Lists.{list_at, list_within}
use Rattle.teco_scan.specs.Scan.{after_fillers, scan}
use Rattle.teco_session.specs.Answers.{answer_code, is_refused, string_outcome}
use Rattle.teco_session.specs.History.{History, NotedString, appended, history_from, note_at, noted, present, redone, rewound, state_after, undone, without_first}
use Rattle.teco_session.specs.Step.{Reply, Step, RunStep, UndoStep, RedoStep, RewindStep}
use Rattle.teco_session.specs.declared.request.Answer.{Answer}
use Rattle.teco_session.specs.declared.request.Answer.TheVariants.{Ended, NotBegun, AfterExit, Undone, NothingToUndo, Redone, NothingToRedo, Rewound}
use Rattle.teco_session.specs.declared.request.Request.{Request}
use Rattle.teco_session.specs.declared.request.Request.TheVariants as request
use Rattle.teco_scan.specs.Stream.{Asks}
use Rattle.teco_scan.specs.Stream.Asks.{Run, Undo, Redo, Rewind}
use Rattle.teco_serve.specs.Exchange.{Allowance, Does, Exchange, MovesInHistory, Repeats, RunsAllowed}
use Rattle.teco_serve.specs.Serving.{Exchanges, asked_in}
use Rattle.teco_lint.specs.Right.{IsRightIfRun}
use Rattle.teco_driver.specs.CheckedRuns.{NeverAnswersFault, TellNoFault, TellsNoFault}
use Rattle.teco_core.specs.declared.profile.Profile.{Profile}

-- what holds of each element holds of a front, of what is left, and of both
all_take : {X : Type 0} (P : X → Type 0) (n : ℕ) (xs : List X) → AllByRecursion P xs → AllByRecursion P (take n xs)
all_take P zero xs h = tt
all_take P (suc n) [] h = tt
all_take P (suc n) (x ∷ xs) h = (h.0, all_take P n xs h.1)

all_drop : {X : Type 0} (P : X → Type 0) (n : ℕ) (xs : List X) → AllByRecursion P xs → AllByRecursion P (drop n xs)
all_drop P zero xs h = h
all_drop P (suc n) [] h = tt
all_drop P (suc n) (x ∷ xs) h = all_drop P n xs h.1

all_more : {X : Type 0} (P : X → Type 0) (xs : List X) (y : X) → AllByRecursion P xs → P y → AllByRecursion P (xs ++ y ∷ [])
all_more P [] y h p = (p, tt)
all_more P (x ∷ xs) y h p = (h.0, all_more P xs y h.1 p)

all_front : {X : Type 0} (P : X → Type 0) (xs ys : List X) → AllByRecursion P (xs ++ ys) → AllByRecursion P xs
all_front P [] ys h = tt
all_front P (x ∷ xs) ys h = (h.0, all_front P xs ys h.1)

record IsSafeNote (p : Profile) (code : List Bool) (note : NotedString) : Type 0 where
  pub text : IsRight p code note.text None
  pub state : IsCleanState p (held code) note.state

record IsSafeHistory (p : Profile) (code : List Bool) (h : History) : Type 0 where
  pub first : IsCleanState p (held code) h.first
  pub notes : AllByRecursion (IsSafeNote p code) h.notes

-- each state of such a history is safe
state_safe : (p : Profile) (code : List Bool) (first : State) (notes : List NotedString) (n : ℕ) → IsCleanState p (held code) first
    → AllByRecursion (IsSafeNote p code) notes → IsCleanState p (held code) (state_after first notes n)
state_safe p code first notes zero f h = f
state_safe p code first [] (suc n) f h = f
state_safe p code first (note ∷ notes) (suc n) f h = state_safe p code note.state notes n h.0.state h.1

-- the string at a place is
note_safe : (p : Profile) (code : List Bool) (notes : List NotedString) (i : ℕ) (other : NotedString) → AllByRecursion (IsSafeNote p code) notes → IsSafeNote p code other
    → IsSafeNote p code (slice_index_or notes i other)
note_safe p code [] i other h o = o
note_safe p code (note ∷ notes) zero other h o = h.0
note_safe p code (note ∷ notes) (suc i) other h o = note_safe p code notes i other h.1 o

appended_safe : (p : Profile) (code : List Bool) (h : History) (note : NotedString) → IsSafeHistory p code h → IsSafeNote p code note → IsSafeHistory p code (appended h note)
appended_safe p code h note s n = record { first = s.first; notes = all_more (IsSafeNote p code) (take h.cursor h.notes) note (all_take (IsSafeNote p code) h.cursor h.notes s.notes) n }

without_first_safe : (p : Profile) (code : List Bool) (n : ℕ) (h : History) → IsSafeHistory p code h → IsSafeHistory p code (without_first n h)
without_first_safe p code n h s = record { first = state_safe p code h.first h.notes n s.first s.notes; notes = all_drop (IsSafeNote p code) n h.notes s.notes }

noted_safe : (p : Profile) (code : List Bool) (h : History) (note : NotedString) → IsSafeHistory p code h → IsSafeNote p code note → IsSafeHistory p code (noted h note)
noted_safe p code h note s n = without_first_safe p code _ (appended h note) (appended_safe p code h note s n)

present_safe : (p : Profile) (code : List Bool) (h : History) → IsSafeHistory p code h → IsCleanState p (held code) (present h)
present_safe p code h s = state_safe p code h.first h.notes h.cursor s.first s.notes

undone_safe : (p : Profile) (code : List Bool) (h : History) → IsSafeHistory p code h → IsSafeHistory p code (undone h)
undone_safe p code h s = record { first = s.first; notes = s.notes }

redone_safe : (p : Profile) (code : List Bool) (h : History) → IsSafeHistory p code h → IsSafeHistory p code (redone h)
redone_safe p code h s = record { first = s.first; notes = s.notes }

rewound_safe : (p : Profile) (code : List Bool) (n : ℕ) (h : History) → IsRight p code [] None → IsSafeHistory p code h → IsSafeHistory p code (rewound n h)
rewound_safe p code n h nothing s =
    let note : IsSafeNote p code (note_at h (h.cursor - 1)) = note_safe p code h.notes (h.cursor - 1) _ s.notes (record { text = nothing; state = s.first }) in
    let before : IsCleanState p (held code) (present (undone h)) = present_safe p code (undone h) (undone_safe p code h s) in
    appended_safe p code (undone h) _ (undone_safe p code h s) (record { text = note.text; state = (note.text (present (undone h)) _ before).state })

-- how a run of a right text ends, and what it leaves
record RanSafe (p : Profile) (code : List Bool) (outcome : Option Code) (next : State) : Type 0 where
  pub state : IsCleanState p (held code) next
  pub codes : (c : Code) → outcome ≡ Some c → is_static c ≡ false

ran_well : (p : Profile) (code : List Bool) (s : State) (text : List ℕ) (limit : ℕ) (outcome : Outcome) (typed : List ℕ) (next : State) → IsRight p code text None
    → IsCleanState p (held code) s → EndsWell s text limit outcome typed next → RanSafe p code outcome.code next
ran_well p code s text limit outcome typed next right before ends =
    let stays = right s limit before in
    record {
      state = subst (λ (n : State). IsCleanState p (held code) n) (sym ends.state) stays.state;
      codes = λ c e. stays.codes c (sym ends.code ∙ e);
    }

ran_by : (p : Profile) (code : List Bool) (s : State) (text : List ℕ) (limit k : ℕ) (c : Code) (next : State) → IsRight p code text None
    → IsCleanState p (held code) s → next ≡ (string_meaning s text k).state → is_static c ≡ false → RanSafe p code (Some c) next
ran_by p code s text limit k c next right before is none = record {
  state = subst (λ (n : State). IsCleanState p (held code) n) (sym is) (right s k before).state;
  codes = λ d e. let same : c ≡ d = cc in subst (λ (x : Code). is_static x ≡ false) same none;
}

ran : (p : Profile) (code : List Bool) (s : State) (text : List ℕ) (limit : ℕ) (ended : Option Code) (steps : ℕ) (typed : List ℕ) (next : State) → IsRight p code text None
    → IsCleanState p (held code) s → Runs s text limit (record { code = ended; steps = steps }) typed next → RanSafe p code ended next
ran p code s text limit None steps typed next right before runs = ran_well p code s text limit _ typed next right before runs
ran p code s text limit (Some codes.Mem) steps typed next right before runs = ran_by p code s text limit steps codes.Mem next right before runs.state refl
ran p code s text limit (Some codes.Tty) steps typed next right before runs = ran_by p code s text limit steps codes.Tty next right before runs.state refl
ran p code s text limit (Some c) steps typed next right before runs = ran_well p code s text limit _ typed next right before runs

-- an answer that leaves a safe history, and ends by no code of a fault
record IsSafeAnswer (p : Profile) (code : List Bool) (answer : Answer) (new : History) : Type 0 where
  pub history : IsSafeHistory p code new
  pub told : (c : Code) → answer_code answer ≡ Some c → is_static c ≡ false

told_by : (d c : Code) → is_static d ≡ false → Some d ≡ Some c → is_static c ≡ false
told_by d c none e = let same : d ≡ c = cc in subst (λ (x : Code). is_static x ≡ false) same none

stays_safe : (p : Profile) (code : List Bool) (old new : History) → IsSafeHistory p code old → new ≡ old → IsSafeHistory p code new
stays_safe p code old new s is = subst (IsSafeHistory p code) (sym is) s

run_safe : (p : Profile) (code : List Bool) (limit : ℕ) (old : History) (text : List ℕ) (answer : Answer) (typed : List ℕ) (new : History) → IsRight p code text None
    → IsSafeHistory p code old → RunStep limit old text answer typed new → IsSafeAnswer p code answer new
run_safe p code limit old text (Ended outcome) typed new right s h =
    let r = ran p code (present old) text limit outcome.code outcome.steps typed h.0 right (present_safe p code old s) h.2 in
    record {
      history = subst (IsSafeHistory p code) (sym h.3) (noted_safe p code old (record { text = text; steps = outcome.steps; state = h.0 }) s (record { text = right; state = r.state }));
      told = r.codes;
    }
run_safe p code limit old text AfterExit typed new right s h = record { history = stays_safe p code old new s h.2; told = λ c e. told_by codes.End c refl e }
run_safe p code limit old text NotBegun typed new right s h = record { history = stays_safe p code old new s h.2; told = λ c e. told_by codes.Mem c refl e }
run_safe p code limit old text Undone typed new right s h = absurd h
run_safe p code limit old text NothingToUndo typed new right s h = absurd h
run_safe p code limit old text Redone typed new right s h = absurd h
run_safe p code limit old text NothingToRedo typed new right s h = absurd h
run_safe p code limit old text Rewound typed new right s h = absurd h

no_code : (c : Code) → let none : Option Code = None in none ≡ Some c → is_static c ≡ false
no_code c e = absurd cc

undo_safe : (p : Profile) (code : List Bool) (old : History) (answer : Answer) (typed : List ℕ) (new : History) → IsSafeHistory p code old
    → UndoStep old answer typed new → IsSafeAnswer p code answer new
undo_safe p code old Undone typed new s h = record { history = stays_safe p code (undone old) new (undone_safe p code old s) h.2; told = no_code }
undo_safe p code old NothingToUndo typed new s h = record { history = stays_safe p code old new s h.2; told = λ c e. told_by codes.Ntu c refl e }
undo_safe p code old (Ended outcome) typed new s h = absurd h
undo_safe p code old NotBegun typed new s h = absurd h
undo_safe p code old AfterExit typed new s h = absurd h
undo_safe p code old Redone typed new s h = absurd h
undo_safe p code old NothingToRedo typed new s h = absurd h
undo_safe p code old Rewound typed new s h = absurd h

redo_safe : (p : Profile) (code : List Bool) (old : History) (answer : Answer) (typed : List ℕ) (new : History) → IsSafeHistory p code old
    → RedoStep old answer typed new → IsSafeAnswer p code answer new
redo_safe p code old Redone typed new s h = record { history = stays_safe p code (redone old) new (redone_safe p code old s) h.2; told = no_code }
redo_safe p code old NothingToRedo typed new s h = record { history = stays_safe p code old new s h.2; told = λ c e. told_by codes.Ntr c refl e }
redo_safe p code old (Ended outcome) typed new s h = absurd h
redo_safe p code old NotBegun typed new s h = absurd h
redo_safe p code old AfterExit typed new s h = absurd h
redo_safe p code old Undone typed new s h = absurd h
redo_safe p code old NothingToUndo typed new s h = absurd h
redo_safe p code old Rewound typed new s h = absurd h

rewind_safe : (p : Profile) (code : List Bool) (n : ℕ) (old : History) (answer : Answer) (typed : List ℕ) (new : History) → IsRight p code [] None → IsSafeHistory p code old
    → RewindStep n old answer typed new → IsSafeAnswer p code answer new
rewind_safe p code n old Rewound typed new nothing s h = record { history = stays_safe p code (rewound n old) new (rewound_safe p code n old nothing s) h.2; told = no_code }
rewind_safe p code n old NothingToUndo typed new nothing s h = record { history = stays_safe p code old new s h.2; told = λ c e. told_by codes.Ntu c refl e }
rewind_safe p code n old (Ended outcome) typed new nothing s h = absurd h
rewind_safe p code n old NotBegun typed new nothing s h = absurd h
rewind_safe p code n old AfterExit typed new nothing s h = absurd h
rewind_safe p code n old Undone typed new nothing s h = absurd h
rewind_safe p code n old Redone typed new nothing s h = absurd h
rewind_safe p code n old NothingToRedo typed new nothing s h = absurd h

-- any move in the history
move_safe : (p : Profile) (code : List Bool) (limit : ℕ) (move : Request) (old : History) (reply : Reply) (new : History) → MovesInHistory move → IsRight p code [] None
    → IsSafeHistory p code old → Step limit old move reply new → IsSafeAnswer p code reply.answer new
move_safe p code limit (request.Run text) old reply new moves nothing s h = absurd moves
move_safe p code limit request.Undo old reply new moves nothing s h = undo_safe p code old reply.answer reply.typed new s h
move_safe p code limit request.Redo old reply new moves nothing s h = redo_safe p code old reply.answer reply.typed new s h
move_safe p code limit (request.Rewind n) old reply new moves nothing s h = rewind_safe p code n old reply.answer reply.typed new nothing s h

-- replies that leave a safe history, and none of which ends by a code of a fault
record AreSafe (p : Profile) (code : List Bool) (replies : List Reply) (new : History) : Type 0 where
  pub history : IsSafeHistory p code new
  pub told : AllByRecursion TellsNoFault replies

none_safe : (p : Profile) (code : List Bool) (replies : List Reply) (mid new : History) → IsSafeHistory p code mid → replies ≡ [] → new ≡ mid → AreSafe p code replies new
none_safe p code replies mid new s none is = record {
  history = stays_safe p code mid new s is;
  told = subst (λ (rs : List Reply). AllByRecursion TellsNoFault rs) (sym none) tt;
}

in_either : (b : Bool) (P Q R : Type 0) → MatchBool b P Q → (P → R) → (Q → R) → R
in_either true P Q R h p q = p h
in_either false P Q R h p q = q h

repeats_safe : (p : Profile) (code : List Bool) (limit : ℕ) (move : Request) (n : ℕ) (old : History) (replies : List Reply) (new : History) → MovesInHistory move
    → IsRight p code [] None → IsSafeHistory p code old → Repeats limit move n old replies new → AreSafe p code replies new
repeats_safe p code limit move zero old replies new moves nothing s h = none_safe p code replies old new s h.0 h.1
repeats_safe p code limit move (suc n) old [] new moves nothing s h = absurd h
repeats_safe p code limit move (suc n) old (reply ∷ replies) new moves nothing s h =
    let mid = h.0 in
    let first : IsSafeAnswer p code reply.answer mid = move_safe p code limit move old reply mid moves nothing s h.1 in
    let later : AreSafe p code replies new = in_either (is_refused reply.answer) ((replies ≡ []) × (new ≡ mid)) (Repeats limit move n mid replies new) (AreSafe p code replies new) h.2
    (λ over. none_safe p code replies mid new first.history over.0 over.1)
    (λ more. repeats_safe p code limit move n mid replies new moves nothing first.history more) in
    record { history = later.history; told = (first.told, later.told) }

-- what is done for one text
ran_safe : (p : Profile) (code : List Bool) (allowed : Allowance) (old : History) (text : List ℕ) (reply : Reply) (new : History) → IsRight p code text None
    → IsSafeHistory p code old → RunsAllowed allowed (string_outcome reply.answer) (λ limit. RunStep limit old text reply.answer reply.typed new)
    → IsSafeAnswer p code reply.answer new
ran_safe p code allowed old text reply new right s (inl under) = run_safe p code allowed.steps old text reply.answer reply.typed new right s under
ran_safe p code allowed old text reply new right s (inr early) =
    run_safe p code (string_outcome reply.answer).steps old text reply.answer reply.typed new right s early.ran

does_safe : (p : Profile) (code : List Bool) (allowed : Allowance) (asks : Asks) (old : History) (replies : List Reply) (new : History) → IsRight p code [] None
    → IsRightIfRun p code asks → IsSafeHistory p code old → Does allowed asks old replies new → AreSafe p code replies new
does_safe p code allowed (Run text) old replies new nothing right s h =
    let first : IsSafeAnswer p code h.0.answer new = ran_safe p code allowed old text h.0 new right s h.2 in
    record { history = first.history; told = subst (λ (rs : List Reply). AllByRecursion TellsNoFault rs) (sym h.1) (first.told, tt) }
does_safe p code allowed (Undo n) old replies new nothing right s h = repeats_safe p code allowed.steps request.Undo n old replies new tt nothing s h
does_safe p code allowed (Redo n) old replies new nothing right s h = repeats_safe p code allowed.steps request.Redo n old replies new tt nothing s h
does_safe p code allowed (Rewind n) old replies new nothing right s h = repeats_safe p code allowed.steps (request.Rewind n) 1 old replies new tt nothing s h

-- and for all of them
exchanges_safe : (p : Profile) (code : List Bool) (allowed : Allowance) (old : History) (exchanges : List Exchange) (new : History) → IsRight p code [] None
    → AllByRecursion (IsRightIfRun p code) (asked_in exchanges) → IsSafeHistory p code old → Exchanges allowed old exchanges new → TellNoFault exchanges
exchanges_safe p code allowed old [] new nothing right s h = tt
exchanges_safe p code allowed old (x ∷ xs) new nothing right s h =
    let before : IsSafeHistory p code x.before = stays_safe p code old x.before s h.0 in
    let done : AreSafe p code x.replies x.after = does_safe p code allowed x.asked x.before x.replies x.after nothing right.0 before h.1 in
    (done.told, exchanges_safe p code allowed x.after xs new nothing right.1 done.history h.2)

-- nothing is a clean text
nothing_clean : (p : Profile) (code : ℕ → Bool) → clean_within p 1 code [] ≡ true
unfolding clean_within is_clean list_at list_within scan after_fillers
nothing_clean p code = refl

first_safe : (p : Profile) (code : List Bool) (first : State) (depth : Option ℕ) → IsCleanState p (held code) first → IsSafeHistory p code (history_from depth first)
first_safe p code first depth holds = record { first = holds; notes = tt }

pub never_answers : (allowed : Allowance) → NeverFaults → NeverAnswersFault allowed
never_answers allowed never p code commands right state holds depth exchanges new first done =
    let asked : AllByRecursion (IsRightIfRun p code) (asked_in exchanges) =
    all_front (IsRightIfRun p code) (asked_in exchanges) first.0 (subst (λ (asks : List Asks). AllByRecursion (IsRightIfRun p code) asks) first.1 right) in
    exchanges_safe p code allowed (history_from depth state) exchanges new
    (λ s limit clean. never p (held code) [] s limit (1, nothing_clean p (held code)) clean) asked (first_safe p code state depth holds) done

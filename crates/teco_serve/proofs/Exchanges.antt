-- Lemmas on one exchange.
use Rattle.std.proofs.Common.{◌≡◌, ℕ, suc, ◌+◌, ◌-◌, ◌<◌, List, [], ◌∷◌, ◌++◌, Bool, true, false, ◌&&◌, ◌||◌, not, if◌then◌else◌, Option, Some, None, Result, refl, sym, ap, ◌∙◌, arith, subst, append-nil, append_assoc, inl, inr, true≢false}
use Rattle.std.specs.Prelude.{◌≢◌, ◌≤◌, ◌⊎◌, IsSomeAnd, OnErr}
use Rattle.std.specs.Bool.{MatchBool}
use Rattle.teco_core.specs.declared.code.Code.{Code}
use Rattle.teco_core.specs.declared.code.Code.TheVariants.{Tty}
use Rattle.teco_io.specs.Terminal.{Puts, Screen, Shows}
use Rattle.teco_exec.specs.Runs.{Answers, IsBrokenOff, StillSays}
use Rattle.teco_exec.specs.declared.outcome.Outcome.{Outcome}
use Rattle.teco_session.specs.Answers.{answer_code, is_refused, string_outcome}
use Rattle.teco_session.specs.History.{History, present}
use Rattle.teco_session.specs.Step.{Step, RunStep, UndoStep, RedoStep, RewindStep, Reply, is_terminal_failure}
use Rattle.teco_session.specs.declared.request.Answer.{Answer}
use Rattle.teco_session.specs.declared.request.Answer.TheVariants.{Ended, NotBegun, AfterExit, Undone, NothingToUndo, Redone, NothingToRedo, Rewound}
use Rattle.teco_session.specs.declared.request.Request.{Request}
use Rattle.teco_session.specs.declared.request.Request.TheVariants as request
use Rattle.teco_serve.specs.Alarm.{IsSet}
use Rattle.teco_serve.specs.Exchange.{Allowance, Does, Exchange, HasRung, MovesInHistory, Repeats, RunsAllowed, allowance, exchange_shown, exits, is_exit}
use Rattle.teco_serve.specs.Message.{code_line, is_shown, is_terminal_code, line_of, message, replies_shown, star}
use Rattle.teco_scan.specs.Stream.{Asks, is_run}
use Rattle.teco_scan.specs.Stream.Asks.{Run}
use Rattle.teco_serve.specs.declared.alarm.Bounds.{Bounds}
use Rattle.teco_serve.specs.declared.alarm.Manner.{Manner}
use Rattle.teco_io.proofs.Shown.{nonempty_before, nonempty_after}

-- a run that an alarm may have broken off is allowed where seconds are given
pub runs_allowed : {A : Type 0} (answered : A → Answers) (before after : A) (bounds : Bounds) (seconds : ℕ) (outcome : Outcome) (RanUnder : ℕ → Type 0) (under : ℕ)
    → bounds.seconds ≡ Some seconds → StillSays (answered before) (answered after) → IsSet (answered before) seconds
    → under ≤ bounds.steps → (under ≡ bounds.steps) ⊎ IsBrokenOff (answered after) under outcome → RanUnder under
    → RunsAllowed (allowance bounds (HasRung answered)) outcome RanUnder
runs_allowed answered before after bounds seconds outcome RanUnder under some still begins within (inl e) ran = inl (subst RanUnder e ran)
runs_allowed answered before after bounds seconds outcome RanUnder under some still begins within (inr b) ran = inr (record {
  asked = subst (λ (given : Option ℕ). IsSomeAnd given (λ s. HasRung answered s outcome.steps)) (sym some)
      (record { before = before; after = after; begins = begins; still = still; rings = b.asked });
  within = subst (λ k. k ≤ bounds.steps) b.steps within;
  code = b.code;
  ran = subst RanUnder b.steps ran;
})

-- A string ran as it is allowed, and what it typed is shown. One that made the session done was answered by no code.
pub record HasRun (allowed : Allowance) (text : List ℕ) (old new : History) (before after : Screen) (answer : Answer) : Type 0 where
  pub typed : List ℕ
  pub ran : RunsAllowed allowed (string_outcome answer) (λ limit. RunStep limit old text answer typed new)
  pub shows : Shows before after typed (is_terminal_failure answer)
  pub exit : (present old).is_done ≡ false → (present new).is_done ≡ true → answer_code answer ≡ None

-- What was asked is done, and what is shown of the replies. Where that is broken off there was some, and no exit.
pub record IsDone {A E : Type 0} (allowed : Allowance) (manner : Manner) (asked : Asks) (old new : History) (before after : Screen) (shown : Result A E) : Type 0 where
  pub replies : List Reply
  pub does : Does allowed asked old replies new
  pub puts : Puts before after (replies_shown manner replies) shown
  pub some : OnErr shown (replies_shown manner replies ≢ [])
  pub no_exit : OnErr shown (is_exit asked old new ≡ false)

-- An undo, a redo or a rewind types nothing; it has a message only where it is refused.
pub record IsQuiet (manner : Manner) (answer : Answer) (typed : List ℕ) : Type 0 where
  pub typed_none : typed ≡ []
  pub well : is_terminal_failure answer ≡ false
  pub silent : is_refused answer ≡ false → message manner answer ≡ []

undo_quiet : (manner : Manner) (old : History) (answer : Answer) (typed : List ℕ) (new : History) → UndoStep old answer typed new → IsQuiet manner answer typed
unfolding message
undo_quiet manner old Undone typed new h = record { typed_none = h.1; well = refl; silent = λ e. refl }
undo_quiet manner old NothingToUndo typed new h = record { typed_none = h.1; well = refl; silent = λ e. absurd (true≢false e) }
undo_quiet manner old (Ended outcome) typed new h = absurd h
undo_quiet manner old NotBegun typed new h = absurd h
undo_quiet manner old AfterExit typed new h = absurd h
undo_quiet manner old Redone typed new h = absurd h
undo_quiet manner old NothingToRedo typed new h = absurd h
undo_quiet manner old Rewound typed new h = absurd h

redo_quiet : (manner : Manner) (old : History) (answer : Answer) (typed : List ℕ) (new : History) → RedoStep old answer typed new → IsQuiet manner answer typed
unfolding message
redo_quiet manner old Redone typed new h = record { typed_none = h.1; well = refl; silent = λ e. refl }
redo_quiet manner old NothingToRedo typed new h = record { typed_none = h.1; well = refl; silent = λ e. absurd (true≢false e) }
redo_quiet manner old (Ended outcome) typed new h = absurd h
redo_quiet manner old NotBegun typed new h = absurd h
redo_quiet manner old AfterExit typed new h = absurd h
redo_quiet manner old Undone typed new h = absurd h
redo_quiet manner old NothingToUndo typed new h = absurd h
redo_quiet manner old Rewound typed new h = absurd h

rewind_quiet : (manner : Manner) (n : ℕ) (old : History) (answer : Answer) (typed : List ℕ) (new : History) → RewindStep n old answer typed new → IsQuiet manner answer typed
unfolding message
rewind_quiet manner n old Rewound typed new h = record { typed_none = h.1; well = refl; silent = λ e. refl }
rewind_quiet manner n old NothingToUndo typed new h = record { typed_none = h.1; well = refl; silent = λ e. absurd (true≢false e) }
rewind_quiet manner n old (Ended outcome) typed new h = absurd h
rewind_quiet manner n old NotBegun typed new h = absurd h
rewind_quiet manner n old AfterExit typed new h = absurd h
rewind_quiet manner n old Undone typed new h = absurd h
rewind_quiet manner n old Redone typed new h = absurd h
rewind_quiet manner n old NothingToRedo typed new h = absurd h

pub request_quiet : (manner : Manner) (limit : ℕ) (old new : History) (request : Request) (reply : Reply) → MovesInHistory request → Step limit old request reply new → IsQuiet manner reply.answer reply.typed
request_quiet manner limit old new (request.Run text) reply m s = absurd m
request_quiet manner limit old new request.Undo reply m s = undo_quiet manner old reply.answer reply.typed new s
request_quiet manner limit old new request.Redo reply m s = redo_quiet manner old reply.answer reply.typed new s
request_quiet manner limit old new (request.Rewind n) reply m s = rewind_quiet manner n old reply.answer reply.typed new s

-- one request that isn't refused, and then the others
pub Repeats-on : (limit : ℕ) (request : Request) (n : ℕ) (old mid new : History) (reply : Reply) (rest : List Reply) → Step limit old request reply mid → is_refused reply.answer ≡ false
    → Repeats limit request n mid rest new → Repeats limit request (suc n) old (reply ∷ rest) new
Repeats-on limit request n old mid new reply rest m f p = (mid, m, subst (λ b. MatchBool b ((rest ≡ []) × (new ≡ mid)) (Repeats limit request n mid rest new)) (sym f) p)

-- one request that is refused
pub Repeats-refused : (limit : ℕ) (request : Request) (n : ℕ) (old new : History) (reply : Reply) → Step limit old request reply new → is_refused reply.answer ≡ true
    → Repeats limit request (suc n) old (reply ∷ []) new
Repeats-refused limit request n old new reply m t =
    let nothing : ◌≡◌ {A = List Reply} [] [] = refl in
    let same : new ≡ new = refl in
    (new, m, subst (λ b. MatchBool b ((◌≡◌ {A = List Reply} [] []) × (new ≡ new)) (Repeats limit request n new [] new)) (sym t) (nothing, same))

pub less_one : (n i : ℕ) → i < n → n - i ≡ suc (n - (i + 1))
less_one n i h = omega arith

replies_shown-append : (manner : Manner) (xs ys : List Reply) → replies_shown manner (xs ++ ys) ≡ replies_shown manner xs ++ replies_shown manner ys
replies_shown-append manner [] ys = refl
replies_shown-append manner (x ∷ xs) ys =
    ap (λ l. (x.typed ++ message manner x.answer) ++ l) (replies_shown-append manner xs ys) ∙ sym (append_assoc (x.typed ++ message manner x.answer) (replies_shown manner xs) (replies_shown manner ys))

-- after replies that say nothing, one with no typed bytes
pub replies_shown-one : (manner : Manner) (replies : List Reply) (reply : Reply) → replies_shown manner replies ≡ [] → reply.typed ≡ [] → replies_shown manner (replies ++ reply ∷ []) ≡ message manner reply.answer
replies_shown-one manner replies reply e f =
    replies_shown-append manner replies (reply ∷ []) ∙ ap (λ l. l ++ replies_shown manner (reply ∷ [])) e ∙ append-nil (reply.typed ++ message manner reply.answer) ∙ ap (λ l. l ++ message manner reply.answer) f

-- an answer with a message shows something
pub message-some : (manner : Manner) (reply : Reply) → message manner reply.answer ≢ [] → replies_shown manner (reply ∷ []) ≢ []
message-some manner reply some = nonempty_before (reply.typed ++ message manner reply.answer) [] (nonempty_after reply.typed (message manner reply.answer) some)

-- each manner is to show the code of a terminal that failed
code_some : (manner : Manner) (code : Option Code) → (elim code [ Some Tty ↦ true | _ ↦ false ]) ≡ true → line_of manner code ≢ []
code_some manner None e = absurd (true≢false (sym e))
code_some manner (Some c) e =
    let shown : is_shown manner c ≡ true = or_right manner.shows_codes (is_terminal_code c) e in
    λ none. line_some c (ap (λ b. if b then code_line c else []) (sym shown) ∙ none)
  where
    or_right : (a b : Bool) → b ≡ true → (a || b) ≡ true
    or_right true b h = refl
    or_right false b h = h

    line_some : (c : Code) → code_line c ≢ []
    line_some c none = cc

-- a failure of the terminal has a message
pub failure-some : (manner : Manner) (answer : Answer) → is_terminal_failure answer ≡ true → message manner answer ≢ []
unfolding message
failure-some manner (Ended outcome) e = code_some manner outcome.code e
failure-some manner NotBegun e = absurd (true≢false (sym e))
failure-some manner AfterExit e = absurd (true≢false (sym e))
failure-some manner Undone e = absurd (true≢false (sym e))
failure-some manner NothingToUndo e = absurd (true≢false (sym e))
failure-some manner Redone e = absurd (true≢false (sym e))
failure-some manner NothingToRedo e = absurd (true≢false (sym e))
failure-some manner Rewound e = absurd (true≢false (sym e))

-- a run with a message was no exit
pub message-no_exit : (manner : Manner) (text : List ℕ) (old new : History) (answer : Answer) → message manner answer ≢ []
    → ((present old).is_done ≡ false → (present new).is_done ≡ true → answer_code answer ≡ None) → is_exit (Run text) old new ≡ false
unfolding message
message-no_exit manner text old new answer some ends = at (present old).is_done (present new).is_done ends
  where
    at : (was now : Bool) → (was ≡ false → now ≡ true → answer_code answer ≡ None) → (not was && now) ≡ false
    at true now h = refl
    at false false h = refl
    at false true h = absurd (some (ap (line_of manner) (h refl refl)))

pub shown_exit : (manner : Manner) (x : Exchange) → exits x ≡ true → exchange_shown manner x ≡ replies_shown manner x.replies
shown_exit manner x e = ap (λ b. replies_shown manner x.replies ++ (if b then [] else star manner.prompt)) e ∙ append-nil (replies_shown manner x.replies)

pub shown_on : (manner : Manner) (x : Exchange) → exits x ≡ false → exchange_shown manner x ≡ replies_shown manner x.replies ++ star manner.prompt
shown_on manner x e = ap (λ b. replies_shown manner x.replies ++ (if b then [] else star manner.prompt)) e

-- what the code tests is whether the exchange ends the serving
pub exits_from : (x : Exchange) (result was_done is_done : Bool) → result ≡ (is_run x.asked && (not was_done && is_done))
    → was_done ≡ (present x.before).is_done → is_done ≡ (present x.after).is_done → result ≡ exits x
exits_from x result was_done is_done e was now = e ∙ rw (was, now) refl

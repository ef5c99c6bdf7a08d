-- Where a run goes on: what comes at a cursor, and texts that begin, call, return and end.
use Rattle.std.proofs.Common.{◌≡◌, ℕ, zero, suc, ◌<◌, List, [], ◌∷◌, length, drop, Option, Some, None, refl, sym, ap, subst, ◌∙◌, ◌+◌, ◌-◌, ◌*◌, ◌≤◌, ◌⊎◌, inl, inr, Bool, true, false, arith, ◌==◌, if◌then◌else◌}
use Rattle.teco_core.specs.declared.profile.Profile.{Profile}
use Rattle.teco_core.specs.ArgumentsView.{arguments}
use Rattle.teco_core.specs.declared.code.Code.{Code}
use Rattle.teco_scan.specs.declared.token.Token.{Token as ScannedToken}
use Rattle.teco_scan.specs.declared.token.Found.{Found}
use Rattle.teco_scan.specs.declared.token.Found.TheVariants.{Token}
use Rattle.teco_exec.specs.CursorMoves.{Cursor as MachineCursor, pass}
use Rattle.teco_exec.specs.Machine.{Caller, Config, block, Now, runs, halts, ready_where_comes, ready_of, after_text_end, step, faulty, run_within}
use Rattle.teco_exec.specs.View.{cursor_at_start, coming_of, cursor, item_of_kind, block_step_of}
use Rattle.teco_exec.specs.Running.{caller, goes, over, stops, config, ready_run, at_cursor, at_token, at_block_step, at_return, Origin, Host, Continuation, RunGoesOn, Alike, sight, ReachesContinuation, ReachesEnd, at_beginning, at_call, cursor_after_call, Reaches, code_left, reached_by_exit, reached_after_call, now_at, whole_run, ended_by}
use Rattle.teco_exec.specs.Runs.{Answers, IsBrokenOff, RunsWithin, never_asks}
use Rattle.teco_exec.specs.declared.cursor.Cursor.{Cursor}
use Rattle.teco_exec.specs.declared.moves.BlockStep.{BlockStep}
use Rattle.teco_exec.specs.declared.moves.Coming.{Coming}
use Rattle.teco_exec.specs.declared.moves.Coming.TheVariants.{Passed, Step, Block, End, Fault}
use Rattle.teco_exec.proofs.MachineMeans.{arrives_step, halted, halts_nowhere, halts_ready, no_steps, run_ready, arrives_stays}
use Rattle.teco_exec.proofs.Going.{Settles, alike, also, continues, end_since, host_of, settles, now_there, shows_nothing}
use Rattle.teco_scan.specs.declared.text.Text.{Text}
use Rattle.teco_scan.specs.ListLaws.{EachBlockLaws}
use Rattle.teco_exec.proofs.Passing.{Shorter, pass_short}
use Rattle.std.proofs.lemmas.Bool.Decides.{nat_tests}
use Rattle.std.proofs.Math.Nat.{mul-le-mul_right, add-mul}
use Rattle.teco_core.specs.Arguments.{Arguments, no_arguments}
use Rattle.teco_core.specs.declared.code.Code.TheVariants.{Lim, Pdo}
use Rattle.teco_store.specs.Trail.{Trail}
use Rattle.teco_io.specs.Terminal.{Shows}
use Rattle.teco_exec.specs.MachineLaws.{MachineMeans}
use Rattle.teco_exec.specs.Places.{standing}
use Rattle.teco_exec.specs.declared.flow.Exit.{Exit}
use Rattle.teco_exec.specs.declared.outcome.Outcome.{Outcome}
use Rattle.teco_exec.specs.declared.flow.Exit.TheVariants as ending

-- A text is over: what it leaves is all that its caller sees.
returns : (p : Profile) (text : List ℕ) (c : MachineCursor) (callers : List Caller) (now : Now)
    → Alike (ready_of (after_text_end (config p text c None callers now) callers)) (at_return p c.args callers now)
returns p text c [] now =
    let from : Config = config p text c None [] now in
    let to : Config = config p [] (cursor_at_start c.args []) None [] now in
    record {
      runs = λ fuel. sym (run_ready fuel (halts from None)) ∙ halted fuel from None ∙ sym (halted fuel to None) ∙ run_ready fuel (halts to None);
      stands = ap sight (halts_ready from None) ∙ sym (ap sight (halts_ready to None));
    }
returns p text c (b ∷ bs) now = alike refl

module _ (laws : EachBlockLaws) (old to : Cursor) (found : Found) (callers : List Caller) where
  abbrev here : Now → Config
  here now = config old.text.profile old.text.bytes.now (cursor old) None callers now

  ready : (n : Coming) → coming_of to found n ≡ pass old.text.profile (cursor old) → (now : Now) → at_cursor old callers now ≡ ready_where_comes ready_of (here now) (coming_of to found n)
  ready n e now = arrives_step laws (here now) ∙ ap (ready_where_comes ready_of (here now)) (sym e)

  pub passes_on : to.text ≡ old.text → coming_of to found Passed ≡ pass old.text.profile (cursor old) → Settles (at_cursor old callers) (goes (at_cursor to callers))
  passes_on text e now =
      alike (ready Passed e now ∙ ap (λ t. ready_of (runs (config t.profile t.bytes.now (cursor to) None callers now))) (sym text))

  pub passes_short : coming_of to found Passed ≡ pass old.text.profile (cursor old) → length (cursor to).left < length (cursor old).left
  passes_short e = subst (Shorter (length (cursor old).left)) (sym e) (pass_short old.text.profile (laws old.text.profile) (cursor old))

  pub comes_token : to.text ≡ old.text → (token : ScannedToken) → found ≡ Token token → coming_of to found Step ≡ pass old.text.profile (cursor old) → Settles (at_cursor old callers) (goes (at_token to token None callers))
  comes_token text token is e now =
      alike (ready Step e now ∙ ap (λ f. ready_where_comes ready_of (here now) (coming_of to f Step)) is
      ∙ ap (λ t. step token.modifiers (item_of_kind to.text.bytes.now token.kind) None (config t.profile t.bytes.now (cursor to) None callers now)) (sym text))

  pub comes_block : to ≡ old → (o : BlockStep) (after : ℕ) → coming_of to found (Block o after) ≡ pass old.text.profile (cursor old) → Settles (at_cursor old callers) (goes (at_block_step to o after callers))
  comes_block same o after e now =
      alike (ready (Block o after) e now ∙ ap (λ (c : Cursor). block (block_step_of o) (drop after to.text.bytes.now) (config c.text.profile c.text.bytes.now (cursor c) None callers now)) (sym same))

  pub comes_over : to ≡ old → coming_of to found End ≡ pass old.text.profile (cursor old) → Settles (at_cursor old callers) (goes (at_return to.text.profile (arguments to.args) callers))
  comes_over same e now =
      also (alike (ready End e now)) (also (returns old.text.profile old.text.bytes.now (cursor old) callers now) (alike (ap (λ (c : Cursor). at_return c.text.profile (arguments c.args) callers now) (sym same))))

  pub comes_fault : (code : Code) → coming_of to found (Fault code) ≡ pass old.text.profile (cursor old) → Settles (at_cursor old callers) (stops code)
  comes_fault code e now zero = ap (ready_run zero) (ready (Fault code) e now)
  comes_fault code e now (suc fuel) = ap (ready_run (suc fuel)) (ready (Fault code) e now)

  -- what it is ready for at a fault
  pub faults : (code : Code) → coming_of to found (Fault code) ≡ pass old.text.profile (cursor old) → (now : Now) → at_cursor old callers now ≡ faulty (here now) code
  faults code e now = ready (Fault code) e now

-- A text is at its beginning.
pub begins : (o : Origin) (h : Host) (a : Arguments) (text : Text) (c : Cursor) (callers : List Caller) → c.text ≡ text → cursor c ≡ cursor_at_start a text.bytes.now
    → RunGoesOn o h (at_beginning text.profile a text.bytes.now callers) → ReachesContinuation o h h (at_cursor c callers)
begins o h a text c callers same e g =
    continues o h (at_beginning text.profile a text.bytes.now callers) g (at_cursor c callers) (λ now.
    alike (ap (λ (t : Text). ready_of (runs (config t.profile t.bytes.now (cursor_at_start a text.bytes.now) None callers now))) (sym same)
    ∙ ap (λ x. ready_of (runs (config c.text.profile c.text.bytes.now x None callers now))) (sym e)))

module _ (o : Origin) (h : Host) (c : Cursor) (text : List ℕ) (callers : List Caller) (g : RunGoesOn o h (at_call c text callers)) where
  abbrev chosen : Bool → Continuation
  chosen deep now = let here : Config = config c.text.profile c.text.bytes.now (cursor c) None callers now in
      ready_of (if deep then halts here (Some Pdo) else runs (config c.text.profile text (cursor_at_start (cursor c).args text) None (caller c ∷ callers) now))

  -- the thirty-third call
  pub too_deep : (limit : ℕ) → length callers ≡ 32 → h.steps ≤ limit → Reaches limit o h h (over (Some Pdo))
  too_deep limit deep le =
      let so : (length callers == 32) ≡ true = grind (arith, nat_tests) in
      settles o h (at_call c text callers) g limit (over (Some Pdo)) refl le (λ now.
      let here : Config = config c.text.profile c.text.bytes.now (cursor c) None callers now in
      record {
        runs = λ fuel. ap (λ b. ready_run fuel (chosen b now)) so ∙ sym (run_ready fuel (halts here (Some Pdo))) ∙ halted fuel here (Some Pdo);
        nowhere = ap (λ b. standing (chosen b now)) so ∙ halts_nowhere here (Some Pdo);
      })

  pub enters : length callers < 32 → ReachesContinuation o h h (at_beginning c.text.profile (cursor c).args text (caller c ∷ callers))
  enters few =
      let so : (length callers == 32) ≡ false = grind (arith, nat_tests) in
      continues o h (at_call c text callers) g (at_beginning c.text.profile (cursor c).args text (caller c ∷ callers)) (λ now. alike (ap (λ b. chosen b now) so))

-- and back from there, with the arguments that it left
pub comes_back : (a : Arguments) (c d : Cursor) (callers : List Caller) → d.text ≡ c.text → cursor d ≡ cursor_after_call a (cursor c)
    → Settles (at_return c.text.profile a (caller c ∷ callers)) (goes (at_cursor d callers))
comes_back a c d callers text e now =
    alike (ap (λ x. ready_of (runs (config c.text.profile c.text.bytes.now x None callers now))) (sym e)
    ∙ ap (λ t. ready_of (runs (config t.profile t.bytes.now (cursor d) None callers now))) (sym text))

-- A called text is over: its caller goes on, or the run is over.
pub comes_home : (limit : ℕ) (o : Origin) (h k : Host) (a : Arguments) (c d : Cursor) (callers : List Caller) → d.text ≡ c.text → cursor d ≡ cursor_after_call a (cursor c) → (x : Exit)
    → Reaches limit o h k (reached_by_exit c.text.profile a (caller c ∷ callers) x) → Reaches limit o h k (reached_after_call d callers x)
comes_home limit o h k a c d callers text e ending.Return r =
    let back = continues o k (at_return c.text.profile a (caller c ∷ callers)) r.going (at_cursor d callers) (comes_back a c d callers text e) in
    record { going = back.going; follows = r.follows }
comes_home limit o h k a c d callers text e ending.Over r = r
comes_home limit o h k a c d callers text e (ending.Fail code) r = r
comes_home limit o h k a c d callers text e (ending.Stop code) r = r

-- After a step, or what uses none, less is left: steps of the limit, or bytes of the text.
pub less_left : (limit before k j n x y : ℕ) → limit ≤ before → k ≤ j → j ≤ limit → y ≤ n → (k < j) ⊎ (y < x) → (limit - j) * (n + 1) + y < (before - k) * (n + 1) + x
less_left limit before k j n x y low kj jl yn (inl lt) =
    let more : (limit - j + 1) * (n + 1) ≤ (before - k) * (n + 1) = mul-le-mul_right (n + 1) (omega arith) in
    let one : (limit - j + 1) * (n + 1) ≡ (limit - j) * (n + 1) + 1 * (n + 1) = add-mul (limit - j) 1 (n + 1) in
    omega arith
less_left limit before k j n x y low kj jl yn (inr lt) =
    let more : (limit - j) * (n + 1) ≤ (before - k) * (n + 1) = mul-le-mul_right (n + 1) (omega arith) in
    omega arith

abbrev first_now : Origin → Now
first_now o = record { state = o.state; typed = []; load = 0 }

pub whole_begins : MachineMeans → (o : Origin) (F : Trail → Type 0) (a : Arguments) → a ≡ no_arguments → RunGoesOn o (host_of o.state F o.screen 0) (at_beginning o.state.profile a o.text [])
whole_begins means o F a none =
    let all : (fuel : ℕ) → run_within (0 + fuel) (whole_run o) ≡ ready_run fuel (ready_of (whole_run o)) =
    λ fuel. (let same : 0 + fuel ≡ fuel = omega arith in ap (λ k. run_within k (whole_run o)) same ∙ run_ready fuel (whole_run o)) in
    let now : now_at o 0 ≡ first_now o = now_there means o 0 (λ x. ready_of (whole_run o)) (first_now o) all (arrives_stays (whole_run o)) in
    record {
      means = means;
      state = sym (ap (λ (x : Now). x.state) now);
      shows = subst (λ typed. Shows o.screen o.screen typed false) (sym (ap (λ (x : Now). x.typed) now)) (shows_nothing o.screen);
      leads = λ fuel. all fuel ∙ ap (λ x. ready_run fuel (at_beginning o.state.profile x o.text [] (first_now o))) (sym none) ∙ ap (λ x. ready_run fuel (at_beginning o.state.profile a o.text [] x)) (sym now);
      stands = ap (λ m. sight (ready_of m)) (no_steps (whole_run o)) ∙ ap (λ x. sight (at_beginning o.state.profile x o.text [] (first_now o))) (sym none) ∙ ap (λ x. sight (at_beginning o.state.profile a o.text [] x)) (sym now);
    }

pub whole_ends : (p : Profile) (limit : ℕ) (o : Origin) (before after : Host) (a : Arguments) (exit : Exit) (code : Option Code) → code ≡ code_left exit → after.steps ≤ limit → Reaches limit o before after (reached_by_exit p a [] exit) → ReachesEnd limit o before after code
whole_ends p limit o before after a ending.Return code is le r =
    subst (ReachesEnd limit o before after) (sym is)
    (end_since limit o before after after None r.follows (settles o after (at_return p a []) r.going limit (over None) tt le (λ now.
    let there : Config = config p [] (cursor_at_start a []) None [] now in
    record {
      runs = λ fuel. sym (run_ready fuel (halts there None)) ∙ halted fuel there None;
      nowhere = halts_nowhere there None;
    })).ends)
whole_ends p limit o before after a ending.Over code is le r = subst (ReachesEnd limit o before after) (sym is) r.ends
whole_ends p limit o before after a (ending.Fail left) code is le r = subst (ReachesEnd limit o before after) (sym is) r.ends
whole_ends p limit o before after a (ending.Stop left) code is le r = subst (ReachesEnd limit o before after) (sym is) r

-- A run of a whole string whose limit doesn't stay was broken off.
pub broken_off : (answered : Answers) (limit before done : ℕ) (exit : Exit) (code : Option Code) → code ≡ code_left exit → (limit ≡ before) ⊎ ((exit ≡ ending.Stop Lim) × answered.said done true × (limit ≡ done))
    → (limit ≡ before) ⊎ IsBrokenOff answered limit (ended_by code done)
broken_off answered limit before done exit code is (inl same) = inl same
broken_off answered limit before done exit code is (inr broken) = inr (record { asked = broken.1; steps = broken.2; code = is ∙ ap code_left broken.0 })

-- A run that nobody asks to stop has the limit that it was given.
pub unbroken : (limit : ℕ) (outcome : Outcome) (P : ℕ → Type 0) → RunsWithin never_asks limit outcome P → P limit
unbroken limit outcome P r = under_it r.under r.stays r.so
  where
    under_it : (l : ℕ) → (l ≡ limit) ⊎ IsBrokenOff never_asks l outcome → P l → P limit
    under_it l (inl same) so = subst P same so
    under_it l (inr broken) so = let never : true ≡ false = broken.asked in absurd cc

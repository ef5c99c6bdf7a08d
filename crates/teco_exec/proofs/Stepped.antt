-- Steps of a text, of tokens and of blocks.
use Rattle.std.proofs.Common.{◌≡◌, ℕ, List, length, Option, Bool, true, false, refl, ap, ◌∙◌, ◌+◌, ◌<◌, ◌≤◌, [], drop, Some, None, Result, Ok, Err, inl, inr, sym, subst, arith, append-nil, MatchResult, zero, suc, ◌⊎◌, ltb, ltb-true, ltb-false}
use Rattle.teco_core.specs.ArgumentsView.{arguments}
use Rattle.teco_core.specs.Arguments.{Arguments}
use Rattle.teco_scan.specs.Scan.{scan}
use Rattle.teco_scan.specs.Seen.{item_in}
use Rattle.teco_scan.specs.declared.token.Item.{Item}
use Rattle.teco_scan.specs.declared.token.Token.{Token}
use Rattle.teco_scan.specs.declared.token.TokenKind.{TokenKind}
use Rattle.teco_scan.specs.declared.token.TokenKind.TheVariants as kind
use Rattle.teco_store.specs.State.{State}
use Rattle.teco_step.specs.declared.next.Work.{Work}
use Rattle.teco_step.specs.Effect.{effect, item_effect}
use Rattle.teco_step.specs.declared.next.Setting.{Setting}
use Rattle.teco_step.specs.Step.{done_by, settled, Step, End, Moment, at, call}
use Rattle.teco_step.specs.Stepping.{IsStepIn, IsStepKind, is_call, kind_effect, token_effect, Steps, IsDone, trail_after, name_in}
use Rattle.teco_step.specs.Ending.{end_of, is_unfinished, is_unfinished_code}
use Rattle.teco_exec.specs.CursorMoves.{inside_iteration, leave_is_next, CursorOrError, after_block_step}
use Rattle.teco_exec.specs.Machine.{step, in_called_text, setting_of, Caller, Config, Now, halts, runs, runs_or_halts, after_step_end, after_token_step, ready_of, ready_within}
use Rattle.teco_exec.specs.Runs.{Answers, StillSays}
use Rattle.teco_exec.specs.Tokens.{call_of, calls_text, looks_around, CountsSteps, ProgressFinishes, reached_by_progress}
use Rattle.teco_exec.specs.View.{cursor, item_of_kind, ResultFinishes as MovesWell, cursor_or_error, block_step_of}
use Rattle.teco_exec.specs.declared.cursor.Cursor.{Cursor}
use Rattle.teco_core.specs.declared.arguments.Args.{Args}
use Rattle.teco_core.specs.declared.code.Code.{Code}
use Rattle.teco_core.specs.declared.code.Code.TheVariants.{Lim, Mem, Tty}
use Rattle.teco_core.specs.Register.{content}
use Rattle.teco_scan.specs.Scan as items
use Rattle.teco_scan.specs.declared.command.Modifiers.{Modifiers}
use Rattle.teco_scan.specs.declared.command.RegisterCommand.TheVariants as register_command
use Rattle.teco_store.specs.Trail.{Trail, most_changes, moved, stepped}
use Rattle.teco_step.specs.declared.next.Next.{Next}
use Rattle.teco_step.specs.declared.next.Next.TheVariants as next
use Rattle.teco_step.specs.Laws.{CallsByCalls}
use Rattle.teco_io.specs.Terminal.{Screen}
use Rattle.teco_exec.specs.Running.{Origin, Host, Continuation, RunGoesOn, ReachesContinuation, ReachesEnd, Reached, Reaches, over, Alike, Comes, sight, ready_run, config, at_call, at_register_call, at_token, at_block_step, reached_by_flow, FlowFinishes}
use Rattle.teco_exec.specs.declared.flow.Flow.{Flow}
use Rattle.teco_exec.specs.declared.flow.Flow.TheVariants.{On, Call, Return, Over, Fail, Stop}
use Rattle.teco_exec.specs.declared.moves.BlockStep.{BlockStep}
use Rattle.teco_exec.proofs.Going.{alike, also, host_of, limit_ends, limit_ends_unchanged, EndsByItself, Pays, advanced, since, settles, step_done, no_memory, no_terminal, shows_nothing}
use Rattle.teco_exec.proofs.MachineMeans.{going_now, resumed_now, Stays, arrives_stays, halted, halts_nowhere, run_ready}
use Rattle.teco_exec.specs.declared.flow.Progress.{Progress}
use Rattle.teco_exec.specs.declared.flow.Progress.TheVariants.{Further, Done}
use Rattle.teco_exec.specs.declared.flow.Steps.{Steps as StepCount}

-- What surrounds a token is seen only where its step looks around.
module _ (w : Setting) (i b : Bool) where
  by_item : (text : List ℕ) (t : Item) → looks_around (kind.Item t) ≡ false → item_effect (item_in text t) w ≡ item_effect (item_in text t) (record w { inside = i; before = b })
  by_item text t e = grind arith

  unseen : (text : List ℕ) (t : Item) (s : State) (a : Arguments) → looks_around (kind.Item t) ≡ false → effect (item_in text t) w s a ≡ effect (item_in text t) (record w { inside = i; before = b }) s a
  unfolding effect
  unseen text t s a e = ap (λ x. settled s a (done_by x s a)) (by_item text t e)

module _ (text : List ℕ) (w : Setting) (i b : Bool) (s : State) (a : Arguments) where
  by_seen : (t : Item) (looks : Bool) → looks_around (kind.Item t) ≡ looks → (looks ≡ true → w.inside ≡ i) → (looks ≡ true → w.before ≡ b)
      → effect (item_in text t) w s a ≡ effect (item_in text t) (record w { inside = i; before = b }) s a
  by_seen t true e opens sees = ap (λ x. effect (item_in text t) (record w { inside = x; before = w.before }) s a) (opens refl) ∙ ap (λ x. effect (item_in text t) (record w { inside = i; before = x }) s a) (sees refl)
  by_seen t false e opens sees = unseen w i b text t s a e

  by_kind : (k : TokenKind) → IsStepKind (length text) k → (looks_around k ≡ true → w.inside ≡ i) → (looks_around k ≡ true → w.before ≡ b)
      → kind_effect text k w s a ≡ effect (item_of_kind text k) (record w { inside = i; before = b }) s a
  by_kind (kind.Item t) h opens sees = by_seen t (looks_around (kind.Item t)) refl opens sees
  by_kind k h opens sees = absurd h

-- The effect of a token is that of its item where it is.
pub effect_here : (c : Cursor) (token : Token) (work : Option Work) (opens before : Bool) (s : State) → IsStepIn c.text.bytes.now token
    → (looks_around token.kind ≡ true → opens ≡ inside_iteration (cursor c).blocks) → (looks_around token.kind ≡ true → before ≡ leave_is_next (scan c.text.profile (cursor c).left))
    → token_effect c.text.bytes.now token (record { work = work; inside = opens; before = before }) s (arguments c.args) ≡ effect (item_of_kind c.text.bytes.now token.kind) (setting_of c.text.profile token.modifiers work (cursor c)) s (arguments c.args)
effect_here c token work opens before s =
    by_kind c.text.bytes.now (record { modifiers = token.modifiers; work = work; inside = opens; before = before }) (inside_iteration (cursor c).blocks) (leave_is_next (scan c.text.profile (cursor c).left)) s (arguments c.args) token.kind

-- how the text goes on after a step
module _ (callers : List Caller) (now : Now) where
  abbrev pub here_in : Cursor → Config
  here_in c = config c.text.profile c.text.bytes.now (cursor c) None callers now

  pub ends_so : (s : State) (c : Cursor) (token : Token) (n k : Next) (d : Reached) → n ≡ k
      → Comes (ready_of (after_step_end token.modifiers (item_of_kind c.text.bytes.now token.kind) (end_of s (name_in c.text.bytes.now token) k) (here_in c))) now d
      → Comes (ready_of (after_step_end token.modifiers (item_of_kind c.text.bytes.now token.kind) (end_of s (name_in c.text.bytes.now token) n) (here_in c))) now d
  ends_so s c token n k d e h = subst (λ x. Comes (ready_of (after_step_end token.modifiers (item_of_kind c.text.bytes.now token.kind) (end_of s (name_in c.text.bytes.now token) x) (here_in c))) now d) (sym e) h

  pub is_over : (c : Cursor) (code : Option Code) → Comes (ready_of (halts (here_in c) code)) now (over code)
  is_over c code = record { runs = λ fuel. sym (run_ready fuel (halts (here_in c) code)) ∙ halted fuel (here_in c) code; nowhere = halts_nowhere (here_in c) code }

  pub moves_on : (old to : Cursor) → to.text ≡ old.text → (r : Result (Unit {0}) Code) (f : Flow) → MatchResult r (λ _. f ≡ On) (λ code. f ≡ Fail code) → (m : CursorOrError) → cursor_or_error to r ≡ m
      → Comes (ready_of (runs_or_halts (here_in old) m)) now (reached_by_flow to callers f)
  moves_on old to text (Ok done) f is m e =
      subst (λ x. Comes (ready_of (runs_or_halts (here_in old) m)) now (reached_by_flow to callers x)) (sym is)
      (alike (ap (λ x. ready_of (runs_or_halts (here_in old) x)) (sym e)
      ∙ ap (λ t. ready_of (runs (config t.profile t.bytes.now (cursor to) None callers now))) (sym text)))
  moves_on old to text (Err code) f is m e =
      subst (λ x. Comes (ready_of (runs_or_halts (here_in old) m)) now (reached_by_flow to callers x)) (sym is)
      (subst (λ x. Comes (ready_of (runs_or_halts (here_in old) x)) now (over (Some code))) e (is_over old (Some code)))

pub finishes : (c : Cursor) (callers : List Caller) (f : Flow) → FlowFinishes f → EndsByItself (reached_by_flow c callers f)
finishes c callers On h = tt
finishes c callers (Call q) h = absurd h
finishes c callers (Stop code) h = absurd h
finishes c callers Return h = tt
finishes c callers Over h = tt
finishes c callers (Fail code) h = h

pub unless_finishes : (r : Result (Unit {0}) Code) (f : Flow) → MatchResult r (λ _. f ≡ On) (λ code. f ≡ Fail code) → MovesWell r → FlowFinishes f
unless_finishes (Ok done) f is h = subst FlowFinishes (sym is) tt
unless_finishes (Err code) f is h = subst FlowFinishes (sym is) h

-- a step of a token
module _ (c : Cursor) (token : Token) (work : Option Work) (callers : List Caller) where
  -- where it has left these arguments, and ended so
  abbrev pub after_token : Arguments → End → Continuation
  after_token a e now = ready_of (after_step_end token.modifiers (item_of_kind c.text.bytes.now token.kind) e (config c.text.profile c.text.bytes.now (record (cursor c) { args = a }) None callers now))

  after_stays : (a : Arguments) (e : End) (now : Now) → Stays (after_token a e) now
  after_stays a e now =
      let to : Config = config c.text.profile c.text.bytes.now (record (cursor c) { args = a }) None callers now in
      arrives_stays (after_step_end token.modifiers (item_of_kind c.text.bytes.now token.kind) e to) ∙ resumed_now token.modifiers (item_of_kind c.text.bytes.now token.kind) e to

  module _ (opens before : Bool) (is : IsStepIn c.text.bytes.now token) (looks : looks_around token.kind ≡ true → opens ≡ inside_iteration (cursor c).blocks) (sees : looks_around token.kind ≡ true → before ≡ leave_is_next (scan c.text.profile (cursor c).left)) where
    abbrev pub effect_in : State → Step
    effect_in s = token_effect c.text.bytes.now token (record { work = work; inside = opens; before = before }) s (arguments c.args)

    token_pays : (s : State) → Pays (at_token c token work callers) (after_token (effect_in s).arguments (effect_in s).end) s (effect_in s).state (effect_in s).typed (effect_in s).load
    token_pays s now same = record {
      machine = after_token_step token.modifiers (item_of_kind c.text.bytes.now token.kind) work (config c.text.profile c.text.bytes.now (cursor c) None callers now);
      comes = refl;
      leads = ap (λ x. (let d : Step = effect (item_of_kind c.text.bytes.now token.kind) (setting_of c.text.profile token.modifiers work (cursor c)) x (arguments c.args) in after_token d.arguments d.end (advanced d.state d.typed d.load now))) same
          ∙ ap (λ (d : Step). after_token d.arguments d.end (advanced d.state d.typed d.load now)) (sym (effect_here c token work opens before s is looks sees));
    }

    module _ (o : Origin) (h : Host) (g : RunGoesOn o h (at_token c token work callers)) (limit : ℕ) (lt : h.steps < limit) (name : List ℕ) (new : State) (args : Args) (w : Screen) (n : Next) (G : Trail → Type 0)
        (took : (u : Trail) → h.follows u → G (trail_after n u (effect_in h.state).load)) where
      took_so : (b : Bool) → is_unfinished n ≡ b → (u : Trail) → h.follows u → G (elim b [ true ↦ u | false ↦ moved u (effect_in h.state).load ])
      took_so b e u f = subst (λ b. G (elim b [ true ↦ u | false ↦ moved u (effect_in h.state).load ])) e (took u f)

      -- it was begun and not done
      pub token_fails : (code : Code) → n ≡ next.Error code → is_unfinished_code code ≡ true → Steps (effect_in h.state) name (at h.state (arguments c.args) h.screen) (at new (arguments args) w) n → ReachesEnd limit o h (host_of new G w h.steps) (Some code)
      token_fails code e unfinished (inl done) = let x : true ≡ false = sym unfinished ∙ sym (ap is_unfinished e) ∙ done.finished in absurd cc
      token_fails code e unfinished (inr (inl lacks)) =
          let same : Mem ≡ code = let both : next.Error Mem ≡ next.Error code = sym lacks.code ∙ e in cc in
          let d = effect_in h.state in
          subst (λ k. ReachesEnd limit o h (host_of new G w h.steps) (Some k)) same
          (no_memory o h (at_token c token work callers) g (after_token d.arguments d.end) d.state d.typed d.load (token_pays h.state) (after_stays d.arguments d.end) limit lt new lacks.state G (took_so true (ap is_unfinished e ∙ unfinished)) w lacks.shows)
      token_fails code e unfinished (inr (inr lacks)) =
          let same : Tty ≡ code = let both : next.Error Tty ≡ next.Error code = sym lacks.code ∙ e in cc in
          let d = effect_in h.state in
          subst (λ k. ReachesEnd limit o h (host_of new G w h.steps) (Some k)) same
          (no_terminal o h (at_token c token work callers) g (after_token d.arguments d.end) d.state d.typed d.load (token_pays h.state) (after_stays d.arguments d.end) limit lt new lacks.state G (took_so true (ap is_unfinished e ∙ unfinished)) w lacks.front lacks.types lacks.beginning lacks.shows)

      -- it was begun and given up
      pub token_given_up : (code : Code) → n ≡ next.Error code → code ≡ Mem → Steps (effect_in h.state) name (at h.state (arguments c.args) h.screen) (at new (arguments args) w) n → ReachesEnd h.steps o h (host_of new G w h.steps) (Some Lim)
      token_given_up code e memory (inl done) = let x : true ≡ false = sym (ap is_unfinished (e ∙ ap next.Error memory)) ∙ done.finished in absurd cc
      token_given_up code e memory (inr (inl lacks)) =
          limit_ends_unchanged o h (at_token c token work callers) g h.steps refl (λ now. refl) new lacks.state G (took_so true (ap is_unfinished (e ∙ ap next.Error memory))) w lacks.shows
      token_given_up code e memory (inr (inr lacks)) = let both : next.Error Tty ≡ next.Error Mem = sym lacks.code ∙ e ∙ ap next.Error memory in absurd cc

      finished_done : is_unfinished n ≡ false → Steps (effect_in h.state) name (at h.state (arguments c.args) h.screen) (at new (arguments args) w) n → IsDone (effect_in h.state) name (at h.state (arguments c.args) h.screen) (at new (arguments args) w) n
      finished_done f (inl done) = done
      finished_done f (inr (inl lacks)) = let x : true ≡ false = sym (ap is_unfinished lacks.code) ∙ f in absurd cc
      finished_done f (inr (inr lacks)) = let x : true ≡ false = sym (ap is_unfinished lacks.code) ∙ f in absurd cc

      -- it was done
      pub token_goes : is_unfinished n ≡ false → Steps (effect_in h.state) name (at h.state (arguments c.args) h.screen) (at new (arguments args) w) n
          → (steps : ℕ) → steps ≡ h.steps + 1 → (same : State) → same ≡ new → (H : Trail → Type 0)
          → ((u : Trail) → G u → u.changes ≤ most_changes → steps ≡ u.steps + 1 → u.states steps ≡ new → u.load ≤ u.loads steps → H (stepped u))
          → (d : Reached) → EndsByItself d
          → ((now : Now) → Comes (ready_of (after_step_end token.modifiers (item_of_kind c.text.bytes.now token.kind) (end_of new name n) (config c.text.profile c.text.bytes.now (record (cursor c) { args = arguments args }) None callers now))) now d)
          → Reaches limit o h (host_of same H w steps) d
      token_goes f did steps count same is_same H marks d fin leads =
          let e = effect_in h.state in
          let done = finished_done f did in
          let later : Host = host_of same H w steps in
          let to : ReachesContinuation o h later (after_token e.arguments e.end) =
          step_done o h (at_token c token work callers) g (after_token e.arguments e.end) e.state e.typed e.load (token_pays h.state) (after_stays e.arguments e.end) later count (is_same ∙ done.state) done.shows
          (λ u p none at state within. marks (moved u e.load) (took_so false f u p) (omega arith) (omega arith) (ap u.states count ∙ state ∙ sym done.state) (subst (λ k. u.load + e.load ≤ u.loads k) (sym count) within)) in
          let there : ReachesContinuation o h later (after_token (arguments args) (end_of new name n)) =
          subst (λ x. ReachesContinuation o h later (after_token (arguments args) x)) (sym done.end) (subst (λ x. ReachesContinuation o h later (after_token x e.end)) (sym done.arguments) to) in
          since limit o h later later d there.follows (settles o later (after_token (arguments args) (end_of new name n)) there.going limit d fin (omega arith) leads)

-- a step of a block
module _ (c : Cursor) (b : BlockStep) (to : ℕ) (callers : List Caller) where
  -- where it has been done
  abbrev after_block : Continuation
  after_block now = ready_of (runs_or_halts (config c.text.profile c.text.bytes.now (cursor c) None callers now) (after_block_step c.text.profile (block_step_of b) (drop to c.text.bytes.now) (cursor c)))

  block_stays : (now : Now) → Stays after_block now
  block_stays now =
      let there : Config = config c.text.profile c.text.bytes.now (cursor c) None callers now in
      let m : CursorOrError = after_block_step c.text.profile (block_step_of b) (drop to c.text.bytes.now) (cursor c) in
      arrives_stays (runs_or_halts there m) ∙ going_now there m

  still : (s : State) (now : Now) → now.state ≡ s → now ≡ advanced s [] 0 now
  still s now same =
      let all : now.load + 0 ≡ now.load = omega arith in
      rw (← same, append-nil now.typed, all)

  block_pays : (s : State) → Pays (at_block_step c b to callers) after_block s s [] 0
  block_pays s now same = record {
    machine = runs_or_halts (config c.text.profile c.text.bytes.now (cursor c) None callers now) (after_block_step c.text.profile (block_step_of b) (drop to c.text.bytes.now) (cursor c));
    comes = refl;
    leads = ap after_block (still s now same);
  }

  pub block_leads : (o : Origin) (h : Host) → RunGoesOn o h (at_block_step c b to callers) → (limit : ℕ) → h.steps < limit
      → (steps : ℕ) → steps ≡ h.steps + 1 → (same : State) → same ≡ h.state → (G : Trail → Type 0) → ((u : Trail) → h.follows u → h.follows (moved u 0))
      → ((u : Trail) → h.follows u → u.changes ≤ most_changes → steps ≡ u.steps + 1 → u.states steps ≡ h.state → u.load ≤ u.loads steps → G (stepped u))
      → (d : Reached) → EndsByItself d
      → ((now : Now) → Comes (ready_of (runs_or_halts (config c.text.profile c.text.bytes.now (cursor c) None callers now) (after_block_step c.text.profile (block_step_of b) (drop to c.text.bytes.now) (cursor c)))) now d)
      → Reaches limit o h (host_of same G h.screen steps) d
  block_leads o h g limit lt steps count same is_same G eases marks d fin leads =
      let later : Host = host_of same G h.screen steps in
      let there : ReachesContinuation o h later after_block =
      step_done o h (at_block_step c b to callers) g after_block h.state [] 0 (block_pays h.state) block_stays later count is_same (shows_nothing h.screen)
      (λ u p none at state within. marks (moved u 0) (eases u p) (omega arith) (omega arith) (ap u.states count ∙ state) (subst (λ k. u.load + 0 ≤ u.loads k) (sym count) within)) in
      since limit o h later later d there.follows (settles o later after_block there.going limit d fin (omega arith) leads)

-- Steps of tokens: what is counted, and a further step.
stays_on : {P Q : Type 0} (k j i : ℕ) → (P → ⊥) → (j ≡ k) ⊎ P → (i ≡ j) ⊎ Q → (i ≡ k) ⊎ Q
stays_on k j i none p (inr asked) = inr asked
stays_on k j i none (inr asked) (inl same) = absurd (none asked)
stays_on k j i none (inl same) (inl also_same) = inl (also_same ∙ same)

-- what is said of the steps up to one, and from there on
pub up_to : {P : Type 0} (k d : ℕ) (is : Bool) → ltb k d ≡ is → (k < d → P) → (d ≤ k → P) → P
up_to k d true e low high = low (ltb-true k d e)
up_to k d false e low high = high (ltb-false k d e)

pub counts_on : {p q r : Answers} {R : Type 0} {a b c : StepCount} → CountsSteps p q ⊥ a b → CountsSteps q r R b c → CountsSteps p r R a c
counts_on {a = a} {b = b} {c = c} x y = record {
  limit = omega (arith, x.limit, y.limit);
  more = omega (arith, x.more, y.more);
  heard = λ k from to. up_to k b.done (ltb k b.done) refl (λ low. y.still.said k false (x.heard k from low)) (λ high. y.heard k high to);
  stays = stays_on a.limit b.limit c.limit (λ h. h.0) x.stays y.stays;
  still = record { span = y.still.span ∙ x.still.span; said = λ k is h. y.still.said k is (x.still.said k is h) };
}

-- The limit stays, or the run is broken off, also as seen from around.
stays_so : {P Q A : Type 0} → (P → Q) → (same : A ⊎ P) → A ⊎ Q
stays_so so (inl same) = inl same
stays_so so (inr broken) = inr (so broken)

pub counts_so : {p q : Answers} {P Q : Type 0} {a b : StepCount} → (P → Q) → CountsSteps p q P a b → CountsSteps p q Q a b
counts_so so x = record { limit = x.limit; more = x.more; heard = x.heard; stays = stays_so (λ h. (so h.0, h.1, h.2)) x.stays; still = x.still }

-- The stop is not asked.
pub says_on : {said : Answers} → StillSays said said
says_on = record { span = refl; said = λ k is h. h }

-- It is asked a second time.
pub says_then : {p q r : Answers} → StillSays p q → StillSays q r → StillSays p r
says_then x y = record { span = y.span ∙ x.span; said = λ k is h. y.said k is (x.said k is h) }

-- Nothing is counted; a step is counted; and the run is over, since no step is left or it is asked to stop.
pub counts_none : {p q : Answers} {P : Type 0} {a : StepCount} → StillSays p q → CountsSteps p q P a a
counts_none on = record { limit = omega arith; more = omega arith; heard = λ k from to. absurd (omega arith); stays = inl refl; still = on }

pub counts_one : {p q : Answers} {P : Type 0} {a b : StepCount} → StillSays p q → q.said a.done false → b.limit ≡ a.limit → b.done ≡ a.done + 1 → CountsSteps p q P a b
counts_one {q = q} {a = a} on lets same one = record {
  limit = omega (arith, same);
  more = omega (arith, one);
  heard = λ k from to. (let here : a.done ≡ k = omega (arith, one) in subst (λ i. q.said i false) here lets);
  stays = inl same;
  still = on;
}

over_by : (q : Answers) {P : Type 0} (limit done more new : ℕ) → (done ≡ limit) ⊎ q.said done true → more ≡ done → new ≡ done → P → (new ≡ limit) ⊎ (P × q.said more true × (new ≡ more))
over_by q limit done more new (inl none) same low broken = inl (low ∙ none)
over_by q limit done more new (inr asked) same low broken = inr (broken, subst (λ k. q.said k true) (sym same) asked, low ∙ sym same)

pub counts_over : {p q : Answers} {P : Type 0} {a b : StepCount} → StillSays p q → (a.done ≡ a.limit) ⊎ q.said a.done true → b.done ≡ a.done → b.limit ≡ a.done → P → CountsSteps p q P a b
counts_over {q = q} {a = a} {b = b} on is same low broken = record {
  limit = omega (arith, low, a.within);
  more = omega (arith, same);
  heard = λ k from to. absurd (omega (arith, same));
  stays = over_by q a.limit a.done b.done b.limit is same low broken;
  still = on;
}

-- A token has a further step.
abbrev further_config : List Caller → Now → Cursor → Token → Work → Config
further_config callers now c token work = config c.text.profile c.text.bytes.now (cursor c) (Some (record { modifiers = token.modifiers; item = item_of_kind c.text.bytes.now token.kind; work = work })) callers now

further_runs : (callers : List Caller) (now : Now) (c : Cursor) (token : Token) (work : Work) (fuel : ℕ) → ready_run fuel (ready_of (runs (further_config callers now c token work))) ≡ ready_run fuel (at_token c token (Some work) callers now)
unfolding ready_of ready_within
further_runs callers now c token work zero = refl
further_runs callers now c token work (suc fuel) = refl

further_stands : (callers : List Caller) (now : Now) (c : Cursor) (token : Token) (work : Work) → sight (ready_of (runs (further_config callers now c token work))) ≡ sight (at_token c token (Some work) callers now)
unfolding ready_of ready_within
further_stands callers now c token work = refl

pub goes_further : (callers : List Caller) (now : Now) (c : Cursor) (token : Token) (work : Work) → Alike (ready_of (runs (further_config callers now c token work))) (at_token c token (Some work) callers now)
goes_further callers now c token work = record { runs = further_runs callers now c token work; stands = further_stands callers now c token work }

pub progress_finishes : (c : Cursor) (token : Token) (callers : List Caller) (p : Progress) → ProgressFinishes p → EndsByItself (reached_by_progress c token callers p)
progress_finishes c token callers (Further work) h = tt
progress_finishes c token callers (Done flow) h = finishes c callers flow h

-- A token that calls no text never leads to a call.
call_seen : (text : List ℕ) (t : Item) → is_call (item_in text t) ≡ calls_text (kind.Item t)
call_seen text t = grind arith

kind_never : CallsByCalls → (text : List ℕ) (k : TokenKind) (w : Setting) (s : State) (a : Arguments) (called : List ℕ) → IsStepKind (length text) k → calls_text k ≡ false
    → (kind_effect text k w s a).end ≡ call called → ⊥
kind_never laws text (kind.Item t) w s a called is none e = let x : true ≡ false = sym (laws (item_in text t) w s a called e) ∙ call_seen text t ∙ none in cc
kind_never laws text k w s a called is none e = absurd is

pub never_calls : CallsByCalls → (text : List ℕ) (token : Token) (work : Option Work) (opens before : Bool) (s : State) (a : Arguments) (name : List ℕ) (old new : Moment) (n : Next)
    → IsStepIn text token → calls_text token.kind ≡ false → Steps (token_effect text token (record { work = work; inside = opens; before = before }) s a) name old new n → (q : ℕ) → n ≡ next.Call q → ⊥
never_calls laws text token work opens before s a name old new n is none (inl done) q e =
    kind_never laws text token.kind (record { modifiers = token.modifiers; work = work; inside = opens; before = before }) s a (content new.state.registers q).text is none (sym done.end ∙ ap (end_of new.state name) e)
never_calls laws text token work opens before s a name old new n is none (inr (inl lacks)) q e = let x : next.Error Mem ≡ next.Call q = sym lacks.code ∙ e in cc
never_calls laws text token work opens before s a name old new n is none (inr (inr lacks)) q e = let x : next.Error Tty ≡ next.Call q = sym lacks.code ∙ e in cc

-- A step of a token that calls is the step of the call of its register.
plain_call : (c : Cursor) (token : Token) (work : Option Work) (q : ℕ) (callers : List Caller) (now : Now) (fuel : ℕ)
    → ready_run fuel (step token.modifiers (items.register register_command.Macro q) work (config c.text.profile c.text.bytes.now (cursor c) None callers now)) ≡ ready_run fuel (at_register_call c q callers now)
unfolding effect
plain_call c token work q callers now zero = refl
plain_call c token work q callers now (suc fuel) = refl

-- and stands at the same place
stands_same : (c : Cursor) (token : Token) (work : Option Work) (q : ℕ) (callers : List Caller) (now : Now)
    → sight (step token.modifiers (items.register register_command.Macro q) work (config c.text.profile c.text.bytes.now (cursor c) None callers now)) ≡ sight (at_register_call c q callers now)
unfolding effect
stands_same c token work q callers now = refl

pub calls_same : (c : Cursor) (token : Token) (work : Option Work) (q : ℕ) (callers : List Caller) (now : Now) → token.kind ≡ call_of q
    → Alike (at_token c token work callers now) (at_register_call c q callers now)
calls_same c token work q callers now is =
    also (alike (ap (λ k. step token.modifiers (item_of_kind c.text.bytes.now k) work (config c.text.profile c.text.bytes.now (cursor c) None callers now)) is))
    (record { runs = plain_call c token work q callers now; stands = stands_same c token work q callers now })

-- a step that calls the text of a register
module _ (c : Cursor) (q : ℕ) (callers : List Caller) where
  abbrev pub text_in : State → List ℕ
  text_in s = (content s.registers q).text

  call_pays : (s : State) → Pays (at_register_call c q callers) (at_call c (text_in s) callers) s s [] 0
  unfolding effect
  call_pays s now same = record {
    machine = after_token_step (record { at = false; colons = 0 }) (items.register register_command.Macro q) None (config c.text.profile c.text.bytes.now (cursor c) None callers now);
    comes = refl;
    leads = ap (λ x. at_call c (text_in x) callers (advanced x [] 0 now)) same;
  }

  call_stays : (text : List ℕ) (now : Now) → Stays (at_call c text callers) now
  call_stays text now =
      let here : Config = config c.text.profile c.text.bytes.now (cursor c) None callers now in
      let m : Modifiers = record { at = false; colons = 0 } in
      arrives_stays (in_called_text text here) ∙ resumed_now m (items.register register_command.Macro q) (call text) here

  pub call_leads : (o : Origin) (h : Host) → RunGoesOn o h (at_register_call c q callers)
      → (steps : ℕ) → steps ≡ h.steps + 1 → (same : State) → same ≡ h.state → (G : Trail → Type 0) → ((u : Trail) → h.follows u → h.follows (moved u 0))
      → ((u : Trail) → h.follows u → u.changes ≤ most_changes → steps ≡ u.steps + 1 → u.states steps ≡ h.state → u.load ≤ u.loads steps → G (stepped u))
      → (text : List ℕ) → text ≡ text_in h.state → ReachesContinuation o h (host_of same G h.screen steps) (at_call c text callers)
  call_leads o h g steps count same is_same G eases marks text is =
      let later : Host = host_of same G h.screen steps in
      subst (λ x. ReachesContinuation o h later (at_call c x callers)) (sym is)
      (step_done o h (at_register_call c q callers) g (at_call c (text_in h.state) callers) h.state [] 0 (call_pays h.state) (call_stays (text_in h.state)) later count is_same (shows_nothing h.screen)
      (λ u p none at state within. marks (moved u 0) (eases u p) (omega arith) (omega arith) (ap u.states count ∙ state) (subst (λ k. u.load + 0 ≤ u.loads k) (sym count) within)))

  -- its copy found no memory
  pub call_fails : (o : Origin) (h : Host) → RunGoesOn o h (at_register_call c q callers) → (limit : ℕ) → h.steps < limit → ReachesEnd limit o h h (Some Mem)
  call_fails o h g limit lt =
      no_memory o h (at_register_call c q callers) g (at_call c (text_in h.state) callers) h.state [] 0 (call_pays h.state) (call_stays (text_in h.state)) limit lt h.state refl h.follows (λ u f. f) h.screen (shows_nothing h.screen)

  -- no step is left for it
  pub call_unpaid : (o : Origin) (h : Host) → RunGoesOn o h (at_register_call c q callers) → (limit : ℕ) → h.steps ≡ limit → ReachesEnd limit o h h (Some Lim)
  call_unpaid o h g limit same = limit_ends o h (at_register_call c q callers) g limit same (λ now. refl)

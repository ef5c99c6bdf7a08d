-- Where a run stops, and what it stands at.
use Rattle.std.proofs.Common.{◌≡◌, ℕ, ◌+◌, ◌-◌, List, drop, Option, Some, None, OnErr, Result, Ok, Err, MatchResult, refl, sym, ap, subst, ◌∙◌, arith}
use Rattle.teco_core.specs.declared.profile.Profile.{Profile}
use Rattle.teco_core.specs.declared.code.Code.{Code}
use Rattle.teco_scan.specs.declared.text.Text.{Text}
use Rattle.teco_scan.specs.Scan.{Instruction, Item, scan, found, after_fillers}
use Rattle.teco_scan.specs.Scan as scanned
use Rattle.teco_scan.specs.Seen.{found_in, meaning_in, instruction_in}
use Rattle.teco_scan.specs.ListLaws.{EachBlockLaws}
use Rattle.teco_scan.specs.declared.command.Modifiers.{Modifiers}
use Rattle.teco_scan.specs.declared.token.Found.{Found}
use Rattle.teco_scan.specs.declared.token.Found.TheVariants.{Token}
use Rattle.teco_scan.specs.declared.token.Token.{Token as ScannedToken}
use Rattle.teco_scan.specs.declared.token.TokenKind.{TokenKind}
use Rattle.teco_scan.specs.declared.token.TokenKind.TheVariants as kind
use Rattle.teco_step.specs.Stepping.{IsStepKind}
use Rattle.teco_step.specs.declared.next.Work.{Work}
use Rattle.teco_exec.specs.CursorMoves.{Coming as MachineComing, Cursor as MachineCursor, pass, pass_instruction, pass_scanned, step_comes}
use Rattle.teco_exec.specs.Frames.{frames}
use Rattle.teco_exec.specs.Machine.{Caller}
use Rattle.teco_exec.specs.Places.{IsReadAt, Standing, call_token, standing, stands_after, step_token}
use Rattle.teco_exec.specs.Running.{FlowFinishes, FlowStays, Host, IsStandingAt, OnCall, OnLast, Origin, RunGoesOn, StandsAt, StandsSomewhere, at_block_step, at_cursor, at_token, now_at, token_standing}
use Rattle.teco_exec.specs.Tokens.{OnDone, ProgressFinishes, ProgressStays, call_of}
use Rattle.teco_exec.specs.View.{Stays, coming_of, cursor, item_of_kind}
use Rattle.teco_exec.specs.declared.blocks.Block.{Block}
use Rattle.teco_exec.specs.declared.cursor.Cursor.{Cursor}
use Rattle.teco_exec.specs.declared.flow.Flow.{Flow}
use Rattle.teco_exec.specs.declared.flow.Flow.TheVariants.{On, Call, Return, Over, Fail, Stop}
use Rattle.teco_exec.specs.declared.flow.Progress.{Progress}
use Rattle.teco_exec.specs.declared.flow.Progress.TheVariants.{Further, Done}
use Rattle.teco_exec.specs.declared.moves.BlockStep.{BlockStep}
use Rattle.teco_exec.specs.declared.moves.Coming.TheVariants.{Step, Fault}
use Rattle.teco_exec.proofs.Continuations.{faults}

-- From one saying of where a run last stood, or of a call, to another.
pub on_last : {P Q : ℕ → Type 0} (f : Flow) (done : ℕ) → ((k : ℕ) → P k → Q k) → OnLast f done P → OnLast f done Q
on_last (Stop code) done h p = h done p
on_last (Fail code) done h p = (p.0, h (done - 1) p.1)
on_last Over done h p = tt
on_last On done h p = tt
on_last (Call q) done h p = tt
on_last Return done h p = tt

pub on_call : {P Q : ℕ → Type 0} (f : Flow) → ((q : ℕ) → P q → Q q) → OnCall f P → OnCall f Q
on_call (Call q) h p = h q p
on_call On h p = tt
on_call Return h p = tt
on_call Over h p = tt
on_call (Fail code) h p = tt
on_call (Stop code) h p = tt

-- A step that was done has been counted: it doesn't stop the run, and where it failed the run last stood before it.
pub flow_counted : (f : Flow) (old new : ℕ) → new ≡ old + 1 → FlowFinishes f → OnLast f new (λ k. k ≡ old)
flow_counted (Stop code) old new count h = absurd h
flow_counted (Call q) old new count h = absurd h
flow_counted On old new count h = tt
flow_counted Return old new count h = tt
flow_counted Over old new count h = tt
flow_counted (Fail code) old new count h = (omega arith, omega arith)

pub counted : (p : Progress) (old new : ℕ) → new ≡ old + 1 → ProgressFinishes p → OnDone p (λ f. OnLast f new (λ k. k ≡ old))
counted (Further work) old new count h = tt
counted (Done f) old new count h = flow_counted f old new count h

-- Nor does it call.
flow_no_call : (P : ℕ → Type 0) (f : Flow) → FlowFinishes f → OnCall f P
flow_no_call P (Stop code) h = absurd h
flow_no_call P (Call q) h = absurd h
flow_no_call P On h = tt
flow_no_call P Return h = tt
flow_no_call P Over h = tt
flow_no_call P (Fail code) h = tt

pub no_call : (P : ℕ → Type 0) (p : Progress) → ProgressFinishes p → OnDone p (λ f. OnCall f P)
no_call P (Further work) h = tt
no_call P (Done f) h = flow_no_call P f h

unless_so : (P : Flow → Type 0) (f : Flow) → P On → ((code : Code) → P (Fail code)) → (x : Result (Unit {0}) Code) → MatchResult x (λ _. f ≡ On) (λ code. f ≡ Fail code) → P f
unless_so P f on_ over_ (Ok done) is = subst P (sym is) on_
unless_so P f on_ over_ (Err code) is = subst P (sym is) (over_ code)

pub unless_stays : (old new : Cursor) (r : Result (Unit {0}) Code) (f : Flow) → MatchResult r (λ _. f ≡ On) (λ code. f ≡ Fail code) → OnErr r (Stays old new) → FlowStays old new f
unless_stays old new (Ok done) f is stays = subst (FlowStays old new) (sym is) tt
unless_stays old new (Err code) f is stays = subst (FlowStays old new) (sym is) stays

pub unless_no_call : (P : ℕ → Type 0) (r : Result (Unit {0}) Code) (f : Flow) → MatchResult r (λ _. f ≡ On) (λ code. f ≡ Fail code) → OnCall f P
unless_no_call P r f is = unless_so (λ x. OnCall x P) f tt (λ code. tt) r is

-- What stays where another cursor stayed stays from the first.
pub stays_on : {a b c : Cursor} → Stays a b → Stays b c → Stays a c
stays_on p q = record { place = q.place ∙ p.place; frames = q.frames ∙ p.frames }

pub flow_stays_on : (a b c : Cursor) (f : Flow) → Stays a b → FlowStays b c f → FlowStays a c f
flow_stays_on a b c (Stop code) p q = stays_on p q
flow_stays_on a b c (Call n) p q = stays_on p q
flow_stays_on a b c On p q = tt
flow_stays_on a b c Return p q = tt
flow_stays_on a b c (Fail code) p q = stays_on p q
flow_stays_on a b c Over p q = tt

pub progress_stays_on : (a b c : Cursor) (p : Progress) → Stays a b → ProgressStays b c p → ProgressStays a c p
progress_stays_on a b c (Further work) p q = stays_on p q
progress_stays_on a b c (Done f) p q = flow_stays_on a b c f p q

-- before a step of a token
module _ (token : ScannedToken) (callers : List Caller) where
  abbrev made : Text → ℕ → List Block → Standing
  made text n bs = record {
    profile = text.profile;
    text = text.bytes.now;
    left = drop n text.bytes.now;
    blocks = frames text.bytes.now bs;
    callers = callers;
    token = Some (step_token token.modifiers (item_of_kind text.bytes.now token.kind));
  }

  same_standing : (c d : Cursor) → c.text ≡ d.text → Stays d c → token_standing c token callers ≡ token_standing d token callers
  same_standing c d text stays =
      ap (λ t. made t c.at c.blocks) text ∙ ap (λ n. made d.text n c.blocks) stays.place ∙ ap (made d.text d.at) stays.frames

  pub token_stands : (o : Origin) (h : Host) (c d : Cursor) (work : Option Work) (k : ℕ) → k ≡ h.steps → RunGoesOn o h (at_token c token work callers) → c.text ≡ d.text → Stays d c
      → StandsAt o k (token_standing d token callers)
  token_stands o h c d work k same g text stays =
      ap (stands_after o.state o.text) same ∙ ap (λ x. x.0) g.stands ∙ ap Some (same_standing c d text stays)

-- A token that was read at a cursor is a step; after it the cursor is there, in the same blocks.
abbrev cursor_in : MachineCursor → MachineComing → MachineCursor
cursor_in d (step_comes m i c) = c
cursor_in d k = d

kind_left : (p : Profile) (text bs : List ℕ) (m : Modifiers) (n : ℕ) (k : TokenKind) (c d : MachineCursor) → IsStepKind n k → step_comes m (item_of_kind text k) d ≡ pass_instruction p m (instruction_in text k) bs c → d ≡ record c { left = bs }
kind_left p text bs m n (kind.Item i) c d is e = ap (cursor_in c) e
kind_left p text bs m n k c d is e = absurd is

kind_item : (text : List ℕ) (n : ℕ) (k : TokenKind) → IsStepKind n k → instruction_in text k ≡ scanned.step (item_of_kind text k)
kind_item text n (kind.Item i) is = refl
kind_item text n k is = absurd is

module _ (from to : Cursor) (f : Found) (token : ScannedToken) (is : f ≡ Token token) (read : found_in from.text.bytes.now f ≡ scan from.text.profile (drop from.at from.text.bytes.now)) (comes : coming_of to f Step ≡ pass from.text.profile (cursor from))
    (text : to.text ≡ from.text) (steps : (n : ℕ) × IsStepKind n token.kind) where
  abbrev after : List ℕ
  after = drop token.span.to from.text.bytes.now

  here_read : scan from.text.profile (drop from.at from.text.bytes.now) ≡ found (meaning_in from.text.bytes.now token) after
  here_read = sym read ∙ ap (found_in from.text.bytes.now) is

  cursor_after : cursor to ≡ record (cursor from) { left = after }
  cursor_after =
      kind_left from.text.profile from.text.bytes.now after token.modifiers steps.0 token.kind (cursor from) (cursor to) steps.1
      (ap (λ t. step_comes token.modifiers (item_of_kind t.bytes.now token.kind) (cursor to)) (sym text) ∙ sym (ap (λ x. coming_of to x Step) is) ∙ comes ∙ ap (λ x. pass_scanned from.text.profile x (cursor from)) here_read)

  pub token_read : IsReadAt from.text.profile from.text.bytes.now from.at (Some (step_token token.modifiers (item_of_kind to.text.bytes.now token.kind))) (cursor to).left
  token_read =
      let instruction = kind_item from.text.bytes.now steps.0 token.kind steps.1 ∙ ap (λ t. scanned.step (item_of_kind t.bytes.now token.kind)) (sym text) in (
        token.modifiers,
        item_of_kind to.text.bytes.now token.kind,
        here_read ∙ ap (λ i. found (record { modifiers = token.modifiers; instruction = i }) after) instruction
            ∙ ap (found (record { modifiers = token.modifiers; instruction = scanned.step (item_of_kind to.text.bytes.now token.kind) })) (sym (ap (λ (c : MachineCursor). c.left) cursor_after)),
        refl,
      )

  pub token_blocks : (cursor to).blocks ≡ (cursor from).blocks
  token_blocks = ap (λ (c : MachineCursor). c.blocks) cursor_after

  pub token_is : (callers : List Caller) → IsStandingAt from callers (token_standing to token callers)
  token_is callers = record { profile = ap (λ t. t.profile) text; text = ap (λ t. t.bytes.now) text; blocks = token_blocks; callers = refl; read = token_read }

  -- a token that calls
  call_read : (new : Cursor) (q : ℕ) → new.text ≡ to.text → Stays to new → token.kind ≡ call_of q → IsReadAt from.text.profile from.text.bytes.now from.at (Some (call_token q)) (cursor new).left
  call_read new q same stays calls =
      let left : (cursor to).left ≡ (cursor new).left = sym (ap (λ t. drop new.at t.bytes.now) same ∙ ap (λ n. drop n to.text.bytes.now) stays.place) in
      subst (λ k. IsReadAt from.text.profile from.text.bytes.now from.at (Some (step_token token.modifiers (item_of_kind to.text.bytes.now k))) (cursor new).left) calls
      (subst (λ x. IsReadAt from.text.profile from.text.bytes.now from.at (Some (step_token token.modifiers (item_of_kind to.text.bytes.now token.kind))) x) left token_read)

  pub flow_read : (new : Cursor) (g : Flow) → new.text ≡ to.text → FlowStays to new g → OnCall g (λ q. token.kind ≡ call_of q) → OnCall g (λ q. IsReadAt from.text.profile from.text.bytes.now from.at (Some (call_token q)) (cursor new).left)
  flow_read new (Call q) same stays calls = call_read new q same stays calls
  flow_read new On same stays calls = tt
  flow_read new Return same stays calls = tt
  flow_read new Over same stays calls = tt
  flow_read new (Fail code) same stays calls = tt
  flow_read new (Stop code) same stays calls = tt

-- A cursor that stays has the same blocks around it.
pub blocks_stay : (to new : Cursor) → new.text ≡ to.text → Stays to new → (cursor new).blocks ≡ (cursor to).blocks
blocks_stay to new same stays = ap (λ t. frames t.bytes.now new.blocks) same ∙ ap (frames to.text.bytes.now) stays.frames

pub last_blocks : (P : ℕ → Type 0) (from to new : Cursor) (f : Flow) (done : ℕ) → new.text ≡ to.text → (cursor to).blocks ≡ (cursor from).blocks → OnLast f done P → FlowStays to new f → OnLast f done (λ k. (cursor new).blocks ≡ (cursor from).blocks)
last_blocks P from to new (Stop code) done same blocks p stays = blocks_stay to new same stays ∙ blocks
last_blocks P from to new (Fail code) done same blocks p stays = (p.0, blocks_stay to new same stays ∙ blocks)
last_blocks P from to new Over done same blocks p stays = tt
last_blocks P from to new (Call q) done same blocks p stays = tt
last_blocks P from to new On done same blocks p stays = tt
last_blocks P from to new Return done same blocks p stays = tt

-- before a step of a block, and at a fault
pub block_stands : (o : Origin) (h : Host) (c to : Cursor) (b : BlockStep) (dest k : ℕ) (callers : List Caller) → k ≡ h.steps → to ≡ c → RunGoesOn o h (at_block_step to b dest callers) → StandsSomewhere o k c callers
block_stands o h c to b dest k callers same is g = record {
  there = record { profile = c.text.profile; text = c.text.bytes.now; left = (cursor c).left; blocks = (cursor c).blocks; callers = callers; token = None };
  stands = ap (stands_after o.state o.text) same ∙ ap (λ x. x.0) g.stands
      ∙ ap (λ (x : Cursor). Some (record { profile = x.text.profile; text = x.text.bytes.now; left = (cursor x).left; blocks = (cursor x).blocks; callers = callers; token = None })) is;
  is = record { profile = refl; text = refl; blocks = refl; callers = refl; read = refl };
}

pub fault_stands : EachBlockLaws → (o : Origin) (h : Host) (c to : Cursor) (f : Found) (code : Code) (callers : List Caller) → coming_of to f (Fault code) ≡ pass c.text.profile (cursor c) → RunGoesOn o h (at_cursor c callers) → StandsSomewhere o h.steps c callers
fault_stands laws o h c to f code callers comes g = record {
  there = record { profile = c.text.profile; text = c.text.bytes.now; left = (cursor c).left; blocks = (cursor c).blocks; callers = callers; token = None };
  stands = ap (λ x. x.0) g.stands ∙ ap standing (faults laws c to f callers code comes (now_at o h.steps));
  is = record { profile = refl; text = refl; blocks = refl; callers = refl; read = refl };
}

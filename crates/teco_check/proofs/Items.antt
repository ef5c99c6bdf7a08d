-- What an item leaves in registers of code: clean texts, of those that are written out.
use Rattle.std.proofs.Common.{◌≡◌, ap, ◌∙◌, ℕ, List, [], ◌∷◌, Result, Ok, Err, Bool, true, false, cond, eqb}
use Rattle.std.specs.Prelude.{not, ◌||◌, ◌&&◌, ◌++◌}
use Rattle.teco_scan.specs.declared.command.Modifiers.{Modifiers}
use Rattle.teco_core.specs.declared.code.Code.{Code}
use Rattle.teco_core.specs.declared.arguments.Taken.{Taken}
use Rattle.teco_core.specs.declared.arguments.Taken.TheVariants as taken
use Rattle.teco_core.specs.Refusal.{◌>>=◌}
use Rattle.teco_core.specs.Number.{decimal_value}
use Rattle.teco_core.specs.Arguments.{Arguments, taken_from}
use Rattle.teco_core.specs.Register.{content}
use Rattle.teco_core.specs.declared.profile.Profile.{Profile}
use Rattle.teco_core.specs.declared.profile.Profile.TheVariants.{Named, Wide}
use Rattle.teco_scan.specs.Scan.{Item}
use Rattle.teco_scan.specs.Scan as token
use Rattle.teco_scan.specs.Tree.{Nodes}
use Rattle.teco_store.specs.State.{State}
use Rattle.teco_step.specs.declared.next.Setting.{Setting}
use Rattle.teco_step.specs.Step.{Made, Attempt, Action, goes, steers, goes_on, done_by, settled, as_byte}
use Rattle.teco_step.specs.Effect.{effect, item_effect}
use Rattle.teco_step.specs.Registers.{comes_to, kept, set_text, text_taken}
use Rattle.teco_check.specs.Clean.{is_fine, is_whole, is_written_out, IsClean}
use Rattle.teco_check.specs.CleanRuns.{HoldsCode}
use Rattle.teco_check.proofs.Keeps.{MadeKeeps, StepKeeps, ActionKeeps, made_then, sets_keeps, gives_keeps, bare_keeps, register_keeps, text_keeps_code, replace_keeps}

module _ (profile : Profile) where
  of_either : (a b : Bool) → not a || b ≡ true → a ≡ true → b ≡ true
  of_either true b f e = f
  of_either false b f e = cc

  of_both : (a b : Bool) → a && b ≡ true → b ≡ true
  of_both true b e = e
  of_both false b e = cc

  -- texts that may be put into code registers are clean, and written out
  abbrev pub MayBePut : (ℕ → Bool) → (List ℕ → Bool) → Type 0
  MayBePut held may = (t : List ℕ) → may t ≡ true → IsClean profile held t × (is_written_out profile t ≡ true)

  -- a text that may be put into a code register
  put_clean : (held : ℕ → Bool) (may : List ℕ → Bool) (m : Modifiers) (q : ℕ) (text : List ℕ) (s : State) → MayBePut held may → not (held q) || (is_whole m && may text) ≡ true
      → held q ≡ true → IsClean profile held (kept m q s ++ text)
  put_clean held may m q text s clean f e = whole (eqb m.colons 1) (of_either (held q) (is_whole m && may text) f e)
    where
      whole : (v : Bool) → not v && may text ≡ true → IsClean profile held ((cond v (content s.registers q).text []) ++ text)
      whole true x = cc
      whole false x = (clean text x).0

  put_out : (held : ℕ → Bool) (may : List ℕ → Bool) (m : Modifiers) (q : ℕ) (text : List ℕ) → MayBePut held may → not (held q) || (is_whole m && may text) ≡ true
      → held q ≡ true → is_written_out profile text ≡ true
  put_out held may m q text clean f e = (clean text (of_both (is_whole m) (may text) (of_either (held q) (is_whole m && may text) f e))).1

  -- What is written out comes to a code register, and no byte of a number does.
  comes_keeps : (held : ℕ → Bool) (p : Profile) (m : Modifiers) (q : ℕ) (text : List ℕ) (s : State) → (held q ≡ true → is_written_out p text ≡ true) → (held q ≡ true → IsClean profile held (kept m q s ++ text))
      → (t : Taken) → MadeKeeps profile held s (text_taken p text t >>= (λ bytes. comes_to m q bytes s))
  comes_keeps held Named m q text s out clean taken.None = sets_keeps profile held q _ s clean
  comes_keeps held Named m q text s out clean (taken.One n) = tt
  comes_keeps held Named m q text s out clean (taken.Two l n) = tt
  comes_keeps held Wide m q text s out clean taken.None = sets_keeps profile held q _ s clean
  comes_keeps held Wide m q [] s out clean (taken.One n) = by (as_byte n)
    where
      no_truth : false ≡ true → ⊥
      no_truth x = cc

      by : (r : Result ℕ Code) → MadeKeeps profile held s ((r >>= (λ b. Ok (b ∷ []))) >>= (λ bytes. comes_to m q bytes s))
      by (Ok b) = sets_keeps profile held q _ s (λ e. absurd (no_truth (out e)))
      by (Err c) = tt
  comes_keeps held Wide m q (b ∷ text) s out clean (taken.One n) = tt
  comes_keeps held Wide m q text s out clean (taken.Two l n) = tt

  taken_keeps : (held : ℕ → Bool) (p : Profile) (m : Modifiers) (q : ℕ) (text : List ℕ) (s : State) → (held q ≡ true → is_written_out p text ≡ true) → (held q ≡ true → IsClean profile held (kept m q s ++ text))
      → (r : Result Taken Code) → MadeKeeps profile held s ((r >>= text_taken p text) >>= (λ bytes. comes_to m q bytes s))
  taken_keeps held p m q text s out clean (Ok t) = comes_keeps held p m q text s out clean t
  taken_keeps held p m q text s out clean (Err c) = tt

  goes_keeps : (held : ℕ → Bool) (s : State) (m : Made) → MadeKeeps profile held s m → StepKeeps profile held s (goes_on s m)
  goes_keeps held s (Ok c) h = h
  goes_keeps held s (Err c) h = tt

  done_keeps : (held : ℕ → Bool) (f : Action) (s : State) (a : Arguments) → ActionKeeps profile held f → StepKeeps profile held s (done_by f s a)
  done_keeps held (goes make) s a h = goes_keeps held s (make s a) (h s a)
  done_keeps held (steers attempt) s a h = h s a

  item_keeps : (held : ℕ → Bool) (may : List ℕ → Bool) (lists : List Nodes) (i : Item) (w : Setting) (s : State) (a : Arguments) → s.profile ≡ profile → MayBePut held may → is_fine held may lists w.modifiers i ≡ true
      → StepKeeps profile held s (done_by (item_effect i w) s a)
  item_keeps held may lists (token.digits ds) w s a same clean f = done_keeps held (item_effect (token.digits ds) w) s a (λ s a. made_then profile held s (decimal_value ds) _ (λ n. gives_keeps profile held s a n))
  item_keeps held may lists (token.bare b) w s a same clean f = done_keeps held (item_effect (token.bare b) w) s a (bare_keeps profile held b w)
  item_keeps held may lists (token.register c q) w s a same clean f = done_keeps held (item_effect (token.register c q) w) s a (register_keeps profile held may lists c q w f)
  item_keeps held may lists (token.byte b) w s a same clean f = done_keeps held (item_effect (token.byte b) w) s a (λ s a. gives_keeps profile held s a _)
  item_keeps held may lists (token.text c text) w s a same clean f = done_keeps held (item_effect (token.text c text) w) s a (text_keeps_code profile held c text w)
  item_keeps held may lists (token.set_text q text) w s a same clean f =
      goes_keeps held s (set_text w.modifiers q text s a) (taken_keeps held s.profile w.modifiers q text s
      (λ e. ap (λ (p : Profile). is_written_out p text) same ∙ put_out held may w.modifiers q text clean f e)
      (put_clean held may w.modifiers q text s clean f) (taken_from a))
  item_keeps held may lists (token.replace old new) w s a same clean f = done_keeps held (item_effect (token.replace old new) w) s a (λ s a. replace_keeps profile held old new w s a)

  settled_keeps : (held : ℕ → Bool) (s : State) (a : Arguments) (t : Attempt) → StepKeeps profile held s t → HoldsCode profile held s.registers → HoldsCode profile held (settled s a t).state.registers
  settled_keeps held s a (Ok step) h = h
  settled_keeps held s a (Err c) h = λ r. r

  -- A step of such an item leaves clean texts in code registers.
  pub effect_keeps : (held : ℕ → Bool) (may : List ℕ → Bool) (lists : List Nodes) (i : Item) (w : Setting) (s : State) (a : Arguments)
      → s.profile ≡ profile → MayBePut held may → is_fine held may lists w.modifiers i ≡ true → HoldsCode profile held s.registers
      → HoldsCode profile held (effect i w s a).state.registers
  unfolding effect
  effect_keeps held may lists i w s a same clean f = settled_keeps held s a (done_by (item_effect i w) s a) (item_keeps held may lists i w s a same clean f)

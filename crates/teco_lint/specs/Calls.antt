-- Which registers commands call.
use Rattle.std.specs.Prelude.{◌≡◌, ◌⊎◌, ℕ, Bool, true, List, [], ◌∷◌, drop}
use Rattle.teco_core.specs.declared.code.Code.{Code}
use Rattle.teco_core.specs.Register.{Content, blank_registers, content}
use Rattle.teco_scan.specs.declared.command.RegisterCommand.TheVariants.{Macro}
use Rattle.teco_scan.specs.Scan.{TokenMeaning, Instruction, step, register, set_text, found, fault, scan, after_fillers}
use Rattle.teco_check.specs.Checked.{held}
use Rattle.teco_lint.specs.Strings.{strings_of}
use Rattle.teco_core.specs.declared.profile.Profile.{Profile}

abbrev pub register_call : ℕ → Instruction
register_call q = step (register Macro q)

-- A token of these bytes calls the register. Where none can be read, the tokens after one byte more are looked at.
pub data Calls (p : Profile) : ℕ → List ℕ → Type 0 where
  calls_first : {q : ℕ} {bs rest : List ℕ} {t : TokenMeaning} → scan p bs ≡ found t rest → t.instruction ≡ register_call q → Calls p q bs
  calls_later : {q : ℕ} {bs rest : List ℕ} {t : TokenMeaning} → scan p bs ≡ found t rest → Calls p q rest → Calls p q bs
  calls_past_fault : {q : ℕ} {bs : List ℕ} {c : Code} → scan p bs ≡ fault c → Calls p q (drop 1 (after_fillers bs)) → Calls p q bs

-- The same; or a token calls it of a text that one of these tokens puts into a register, and so on.
pub data CallsWithin (p : Profile) : ℕ → List ℕ → Type 0 where
  within_first : {q : ℕ} {bs rest : List ℕ} {t : TokenMeaning} → scan p bs ≡ found t rest → t.instruction ≡ register_call q → CallsWithin p q bs
  within_text : {q r : ℕ} {bs rest text : List ℕ} {t : TokenMeaning} → scan p bs ≡ found t rest → t.instruction ≡ step (set_text r text)
      → CallsWithin p q text → CallsWithin p q bs
  within_later : {q : ℕ} {bs rest : List ℕ} {t : TokenMeaning} → scan p bs ≡ found t rest → CallsWithin p q rest → CallsWithin p q bs
  within_past_fault : {q : ℕ} {bs : List ℕ} {c : Code} → scan p bs ≡ fault c → CallsWithin p q (drop 1 (after_fillers bs)) → CallsWithin p q bs

-- One of the strings calls the register,
abbrev pub AnyCalls : Profile → ℕ → List (List ℕ) → Type 0
AnyCalls p q [] = ⊥
AnyCalls p q (s ∷ ss) = Calls p q s ⊎ AnyCalls p q ss

-- or a text within one of them does.
abbrev pub AnyCallsWithin : Profile → ℕ → List (List ℕ) → Type 0
AnyCallsWithin p q [] = ⊥
AnyCallsWithin p q (s ∷ ss) = CallsWithin p q s ⊎ AnyCallsWithin p q ss

-- A string calls the register, or a text within one; or so does what a register that is called holds at first, and so on.
pub data IsCalled (p : Profile) (registers : List Content) (strings : List (List ℕ)) : ℕ → Type 0 where
  called_by_string : {q : ℕ} → AnyCallsWithin p q strings → IsCalled p registers strings q
  called_by_register : {r q : ℕ} → IsCalled p registers strings r → CallsWithin p q (content registers r).text → IsCalled p registers strings q

abbrev pub AllAreCalled : Profile → List Content → List (List ℕ) → List Bool → Type 0
AllAreCalled p registers strings marked = (q : ℕ) → held marked q ≡ true → IsCalled p registers strings q

-- The registers that are marked are those that the commands call, where the registers hold this at first. Each that a string calls by a
-- token of its own is marked, also if no run comes to that token.
pub record AreCalledOver (p : Profile) (registers : List Content) (marked : List Bool) (commands : List ℕ) : Type 0 where
  pub only : AllAreCalled p registers (strings_of commands) marked
  pub all : (q : ℕ) → AnyCalls p q (strings_of commands) → held marked q ≡ true

-- the same where the registers hold nothing at first
abbrev pub AreCalled : Profile → List Bool → List ℕ → Type 0
AreCalled p marked commands = AreCalledOver p blank_registers marked commands

-- What is noted of some bytes: the registers that they call, and none but those that they may call. What was noted before stays.
pub record Notes (calls within : ℕ → Type 0) (before now : List Bool) : Type 0 where
  pub kept : (q : ℕ) → held before q ≡ true → held now q ≡ true
  pub all : (q : ℕ) → calls q → held now q ≡ true
  pub only : (q : ℕ) → held now q ≡ true → (held before q ≡ true) ⊎ within q

-- The instruction calls the register, or puts a text which does.
abbrev pub MayCall : Profile → Instruction → ℕ → Type 0
MayCall p i q = (i ≡ register_call q) ⊎ ((r : ℕ) × (text : List ℕ) × (i ≡ step (set_text r text)) × CallsWithin p q text)

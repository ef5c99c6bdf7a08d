-- Where the output goes.
use Rattle.std.proofs.Common.{◌≡◌, ◌≢◌, ◌⊎◌, inl, inr, ℕ, List, Bool, true, false, Option, Ok, Vec, Global, refl, sym, subst}
use Rattle.std.specs.declared.io.Error.{Error}
use Rattle.teco_cli.specs.StreamNames.{is_standard_output}
use Rattle.teco_fs.specs.declared.reason.Reason.{Reason}
use Rattle.teco_fs.specs.declared.reason.Reason.TheVariants.{WriteFailed}
use Rattle.teco_fs.specs.declared.unkept.Unkept.{Unkept}
use Rattle.teco_fs.specs.Writing.{WritesOutput}
use Rattle.teco_fs.specs.Seen.{DiskSeen}
use Rattle.teco_io.specs.Terminal.{Screen}
use Rattle.tecol_driver.specs.Keeping.{FailsToWrite, MakesAndPuts, Output, PutsOut, fate_put, output_to}
use Rattle.tecol_driver.specs.declared.fate.TecolFate.{TecolFate}
use Rattle.std.specs.IoError.{error_kind}
use Rattle.teco_fs.specs.Reasons.{ComesTo, reason_of}
use Rattle.tecol_driver.specs.declared.fate.TecolFate.TheVariants.{Done, Unchecked, Faulty, Unreadable, NoInput, LargeInput, NoMemory, NoOutput}
use Rattle.tecol_driver.specs.declared.fate.Verdict.{Verdict}
use Rattle.tecol_driver.specs.declared.fate.Verdict.TheVariants as verdict
use Rattle.tecol_driver.specs.declared.made.Made.{Made}
use Rattle.tecol_driver.specs.declared.made.Made.TheVariants as made

-- the output goes to a file
module _ {I T : Type 0} (screen : T → Screen) (name bytes : List ℕ) (before after : DiskSeen I) (term : T) (off : is_standard_output name ≡ false) where
  pub writes_in : (unkept : Option Unkept) → WritesOutput before after name bytes → after.unkept unkept
      → PutsOut (output_to (is_standard_output name) screen name before after term term) bytes (Ok unkept)
  writes_in unkept writes kept = subst (λ b. PutsOut (output_to b screen name before after term term) bytes (Ok unkept)) (sym off) ((refl, writes), kept)

  pub fails_in : (fate : TecolFate) → FailsToWrite before after name bytes fate → (output_to (is_standard_output name) screen name before after term term).fails bytes fate
  fails_in fate fails = subst (λ b. (output_to b screen name before after term term).fails bytes fate) (sym off) (refl, fails)

-- the output can't be written, for some reason
abbrev pub IsNoOutput : TecolFate → Type 0
IsNoOutput fate = (reason : Reason) × (fate ≡ NoOutput reason)

-- an error's fate is want of memory or the other one
no_other : {error : Error} {by_reason : Reason → TecolFate} {fate : TecolFate} → ComesTo error NoMemory by_reason fate → fate ≢ NoMemory → fate ≢ by_reason (reason_of (error_kind error)) → ⊥
no_other f not_memory not_other = not_other (f.other_is (λ memory. not_memory (f.memory memory)))

of_error : {error : Error} (fate : TecolFate) → ComesTo error NoMemory NoOutput fate → (fate ≡ NoMemory) ⊎ IsNoOutput fate
of_error NoMemory is = inl refl
of_error (NoOutput other) is = inr (other, refl)
of_error (Done unkept) is = absurd (no_other is (λ e. cc) (λ e. cc))
of_error (Unchecked unkept) is = absurd (no_other is (λ e. cc) (λ e. cc))
of_error (Faulty unkept) is = absurd (no_other is (λ e. cc) (λ e. cc))
of_error (Unreadable spot) is = absurd (no_other is (λ e. cc) (λ e. cc))
of_error (NoInput other) is = absurd (no_other is (λ e. cc) (λ e. cc))
of_error LargeInput is = absurd (no_other is (λ e. cc) (λ e. cc))

-- how a run ends whose output fails
pub fails_by : {I T : Type 0} (b : Bool) (screen : T → Screen) (name bytes : List ℕ) (before after : DiskSeen I) (old new : T) (fate : TecolFate)
    → (output_to b screen name before after old new).fails bytes fate → (fate ≡ NoMemory) ⊎ IsNoOutput fate
fails_by true screen name bytes before after old new fate f = inr (WriteFailed, f.0.fate_is)
fails_by false screen name bytes before after old new fate f = of_error fate f.1.fate_is

-- what is to be written was made, and it is told what was found of it
abbrev pub Chosen : (Made → Type 0) → Vec ℕ Global × Verdict → Type 0
Chosen is_made (bytes, verdict.Clean) = is_made (made.Fine bytes)
Chosen is_made (bytes, verdict.Unchecked) = is_made (made.Unchecked bytes)
Chosen is_made (bytes, verdict.Faulty) = is_made (made.Faulty bytes)

module _ (is_made : Made → Type 0) (input : List ℕ) (output : Output) (bytes : Vec ℕ Global) where
  pub puts : (found : Verdict) (unkept : Option Unkept) → Chosen is_made (bytes, found) → output.writes bytes.items × output.unkept unkept
      → MakesAndPuts is_made input output (fate_put found unkept)
  puts verdict.Clean unkept m w = (bytes, m, w.0, w.1)
  puts verdict.Unchecked unkept m w = (bytes, m, w.0, w.1)
  puts verdict.Faulty unkept m w = (bytes, m, w.0, w.1)

  made_so : (found : Verdict) → Chosen is_made (bytes, found) → is_made (made.Fine bytes) ⊎ (is_made (made.Unchecked bytes) ⊎ is_made (made.Faulty bytes))
  made_so verdict.Clean m = inl m
  made_so verdict.Unchecked m = inr (inl m)
  made_so verdict.Faulty m = inr (inr m)

  pub fails : (found : Verdict) (fate : TecolFate) → Chosen is_made (bytes, found) → output.fails bytes.items fate → (fate ≡ NoMemory) ⊎ IsNoOutput fate
      → MakesAndPuts is_made input output fate
  fails found fate m f (inl is) = subst (MakesAndPuts is_made input output) (sym is) (inr (bytes, made_so found m, subst (output.fails bytes.items) is f))
  fails found fate m f (inr is) = subst (MakesAndPuts is_made input output) (sym is.1) (bytes, made_so found m, subst (output.fails bytes.items) is.1 f)

-- A debugger over files that were read.
use Rattle.std.proofs.Common.{◌≡◌, ◌∙◌, ◌++◌, ◌∷◌, ℕ, List, [], String, Global, Option, None, Some, ap, inl, inr, refl, subst, sym}
use Rattle.std.specs.List.{slice_get}
use Rattle.std.specs.Prelude.{IfErr, IfOk, IsErrAnd, Result, Ok, Err, option_map}
use Rattle.std.specs.declared.vec.Vec.{Vec}
use Rattle.std.specs.String.{string_bytes}
use Rattle.teco_fs.specs.Disk.{Files}
use Rattle.teco_fs.specs.Reading.{IsInput}
use Rattle.teco_fs.specs.Seen.{DiskSeen, KeepsDisk}
use Rattle.teco_core.specs.declared.profile.Profile.{Profile}
use Rattle.teco_debugger.specs.Begun.{BeginsFrom, CannotRead, IsOver, LacksString}
use Rattle.teco_debugger.specs.Reading.{AddsFiles, AddsSource, IsNotRead, IsOfBytes, IsOfSources, IsUnreadable, LacksEach, LacksFile, InputIsMissing}
use Rattle.teco_debugger.specs.declared.running.Begun.{Begun}
use Rattle.teco_debugger.specs.declared.ending.Ending.{Ending}
use Rattle.teco_debugger.specs.declared.ending.Ending.TheVariants.{Caret, Done, NoString, NoText, NoInput, NoMemory, ReadFault, ShowFault}
use Rattle.teco_debugger.specs.declared.line.DebuggerLine.{DebuggerLine}
use Rattle.teco_debugger.specs.declared.line.Origin.{Origin}
use Rattle.teco_debugger.specs.declared.line.Origin.TheVariants.{Sources, Bytes, Session}
use Rattle.teco_debugger.specs.declared.reading.FileFault.{FileFault}
use Rattle.teco_debugger.specs.declared.reading.Given.{Given}

-- an error that is passed on
pub passed_up : {T E : Type 0} (r : Result T E) (e : E) (P : E → Type 0) → IsErrAnd r (λ y. y ≡ e) → P e → IfErr r P
passed_up (Ok x) e P is p = tt
passed_up (Err y) e P is p = subst P (sym is) p

-- one file more
pub one_file_more : (files : Option Files) (names : List (String Global)) (name : String Global) (old mid new : Given) (source : List ℕ) → AddsFiles files names old mid
    → IsInput files (string_bytes name) source → AddsSource (string_bytes name) source mid new → AddsFiles files (names ++ name ∷ []) old new
one_file_more files [] name old mid new source before is adds = (
  new,
  source,
  is,
  subst (λ g. AddsSource (string_bytes name) source g new) before adds,
  refl,
)
one_file_more files (n ∷ ns) name old mid new source before is adds = (
  before.0,
  before.1,
  before.2,
  before.3,
  one_file_more files ns name before.0 mid new source before.4 is adds,
)

-- the disk is kept by one call after another
pub keeps_after : {I : Type 0} {old mid new : DiskSeen I} → KeepsDisk old mid → KeepsDisk mid new → KeepsDisk old new
keeps_after a b = record { files = b.files ∙ a.files; streams = b.streams ∙ a.streams; moments = λ files left. a.moments files (b.moments files left) }

never_input : {I : Type 0} (files : Option Files) (new : DiskSeen I) (origin : Origin) (fault : FileFault) → LacksString files new origin (NoInput fault) → ⊥
never_input files new (Sources names None) fault (inl h) = h
never_input files new (Sources names None) fault (inr h) = h
never_input files new (Sources names (Some word)) fault (inl h) = h
never_input files new (Sources names (Some word)) fault (inr h) = h
never_input files new (Bytes name) fault h = h
never_input files new (Session name number) fault h = h.2

-- why the string is not had is why there is no debugger
pub cannot_read : {I : Type 0} (files : Option Files) (new : DiskSeen I) (line : DebuggerLine) (origin : Origin) (ending : Ending) → line.origin ≡ origin
    → LacksString files new origin ending → CannotRead files new line ending
cannot_read files new line origin NoMemory is h = tt
cannot_read files new line origin (NoInput fault) is h = absurd (never_input files new origin fault h)
cannot_read files new line origin Done is h = subst (λ o. LacksString files new o Done) (sym is) h
cannot_read files new line origin (NoText number fault) is h = subst (λ o. LacksString files new o (NoText number fault)) (sym is) h
cannot_read files new line origin (Caret number spot) is h = subst (λ o. LacksString files new o (Caret number spot)) (sym is) h
cannot_read files new line origin (NoString fault) is h = subst (λ o. LacksString files new o (NoString fault)) (sym is) h
cannot_read files new line origin ReadFault is h = subst (λ o. LacksString files new o ReadFault) (sym is) h
cannot_read files new line origin ShowFault is h = subst (λ o. LacksString files new o ShowFault) (sym is) h

-- the same of the input, which is read after it
pub cannot_read_input : {I : Type 0} (files mid : Option Files) (new : DiskSeen I) (line : DebuggerLine) (ending : Ending) → mid ≡ files
    → InputIsMissing mid new line.input ending → CannotRead files new line ending
cannot_read_input files mid new line NoMemory same h = tt
cannot_read_input files mid new line (NoInput fault) same h = subst (λ fs. InputIsMissing fs new line.input (NoInput fault)) same h
cannot_read_input files mid new line Done same h = absurd h
cannot_read_input files mid new line (NoText number fault) same h = absurd h
cannot_read_input files mid new line (Caret number spot) same h = absurd h
cannot_read_input files mid new line (NoString fault) same h = absurd h
cannot_read_input files mid new line ReadFault same h = absurd h
cannot_read_input files mid new line ShowFault same h = absurd h

pub input_lacks : {A I : Type 0} (files mid : Option Files) (new : DiskSeen I) (line : DebuggerLine) (r : Result A Ending) → mid ≡ files
    → IfErr r (InputIsMissing mid new line.input) → IfErr r (CannotRead files new line)
input_lacks files mid new line (Ok x) same h = tt
input_lacks files mid new line (Err ending) same h = cannot_read_input files mid new line ending same h

-- what a run begins with, over a string that was read
pub over_sources : (p : Profile) (files mid : Option Files) (origin : Origin) (names : Vec (String Global) Global) (word input : Option (String Global)) (given : Given) (r : Result Begun Ending)
    → origin ≡ Sources names word → mid ≡ files → IsOfSources files names.items (option_map string_bytes word) given → IfOk r (IsOver p mid input given)
    → IfOk r (BeginsFrom p files origin input)
over_sources p files mid origin names word input given (Err ending) is same string over = tt
over_sources p files mid origin names word input given (Ok begun) is same string over =
    subst (λ o. BeginsFrom p files o input begun) (sym is) (given, string, subst (λ fs. IsOver p fs input given begun) same over)

pub over_bytes : (p : Profile) (files mid : Option Files) (origin : Origin) (name : String Global) (input : Option (String Global)) (given : Given) (r : Result Begun Ending)
    → origin ≡ Bytes name → mid ≡ files → IsOfBytes files (string_bytes name) given → IfOk r (IsOver p mid input given) → IfOk r (BeginsFrom p files origin input)
over_bytes p files mid origin name input given (Err ending) is same string over = tt
over_bytes p files mid origin name input given (Ok begun) is same string over =
    subst (λ o. BeginsFrom p files o input begun) (sym is) (given, string, subst (λ fs. IsOver p fs input given begun) same over)

-- what is lacked of one source is lacked of all
pub lacks_file : {I : Type 0} (files mid : Option Files) (new : DiskSeen I) (names : List (String Global)) (number : ℕ) (name : String Global) → mid ≡ files
    → slice_get names number ≡ Some name → (ending : Ending) → LacksFile mid new number (string_bytes name) ending → LacksEach files new names ending
lacks_file files mid new names number name same is (NoText n fault) h =
    (name, ap (λ k. slice_get names k) h.0 ∙ is, subst (λ fs. IsNotRead fs new (string_bytes name) fault) same h.1)
lacks_file files mid new names number name same is (NoInput fault) h = absurd h
lacks_file files mid new names number name same is (Caret n spot) h = absurd h
lacks_file files mid new names number name same is (NoString fault) h = absurd h
lacks_file files mid new names number name same is NoMemory h = tt
lacks_file files mid new names number name same is Done h = absurd h
lacks_file files mid new names number name same is ReadFault h = absurd h
lacks_file files mid new names number name same is ShowFault h = absurd h

pub lacks_source : {I : Type 0} (files : Option Files) (new : DiskSeen I) (names : List (String Global)) (number : ℕ) (name : String Global) (source : List ℕ)
    → slice_get names number ≡ Some name → IsInput files (string_bytes name) source → (ending : Ending) → IsUnreadable number source ending → LacksEach files new names ending
lacks_source files new names number name source is had (Caret n spot) h = (name, ap (λ k. slice_get names k) h.0 ∙ is, (source, had, h.1))
lacks_source files new names number name source is had NoMemory h = tt
lacks_source files new names number name source is had (NoText n fault) h = absurd h
lacks_source files new names number name source is had (NoInput fault) h = absurd h
lacks_source files new names number name source is had (NoString fault) h = absurd h
lacks_source files new names number name source is had Done h = absurd h
lacks_source files new names number name source is had ReadFault h = absurd h
lacks_source files new names number name source is had ShowFault h = absurd h

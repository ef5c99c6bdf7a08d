-- Sources one after another, and where the one that can't be read is.
use Rattle.teco_io.specs.declared.source.Source.{Ghosts as SourceView}
use Rattle.std.proofs.Common.{◌≡◌, ◌++◌, ◌+◌, ◌-◌, ◌≤◌, ◌<◌, ◌∙◌, ℕ, suc, take, List, [], ◌∷◌, Ok, Err, Bool, true, false, String, Global, Option, length, refl, sym, ap, subst, arith, append_assoc}
use Rattle.std.specs.Prelude.{IfErr, IsErrAnd, Result}
use Rattle.std.proofs.lemmas.List.{append-nil}
use Rattle.std.specs.List.{slice_index_or}
use Rattle.std.specs.String.{string_bytes}
use Rattle.teco_fs.specs.Disk.{Files}
use Rattle.teco_cli.specs.StreamNames.{is_standard_input}
use Rattle.teco_driver.proofs.Doings.{lacks_after}
use Rattle.teco_fs.specs.Seen.{KeepsDisk, DiskSeen}
use Rattle.teco_serve.specs.declared.fate.Fate.{Fate}
use Rattle.teco_serve.specs.declared.fate.Fate.TheVariants.{NoCommands, NoInput, NotRegular, LargeInput, NoMemory, NoOutput, NoBackup, Changed, Unchanged, Lacking, Ended}
use Rattle.teco_driver.specs.Sources.{AreCommandsIn, FailsToGive, IsFaultOf, IsFaultyFile, IsUnread, IsUnreadFile, IsWholeOf, LacksFiles, fault_by}
use Rattle.teco_driver.specs.declared.sources.CommandsFault.{CommandsFault}
use Rattle.teco_driver.specs.declared.sources.CommandsFault.TheVariants as fault
use Rattle.teco_driver.specs.declared.sources.CommandsFault.TheVariants.{Memory, TooLarge, Unread}
use Rattle.teco_source.specs.Source.{State, commands_from, commands_of, ended_in, is_wrong, step}
use Rattle.teco_source.specs.declared.reader.Mode.{Mode}
use Rattle.teco_source.specs.declared.reader.Mode.TheVariants.{First, Margin, Blank, Text, Hash, Mark, Caret, Comment, Wrong}

-- an error that is passed on
pub passed_up : {T E : Type 0} (r : Result T E) (e : E) (P : E → Type 0) → IsErrAnd r (λ y. y ≡ e) → P e → IfErr r P
passed_up (Ok x) e P is p = tt
passed_up (Err y) e P is p = subst P (sym is) p

-- One source more.
pub one_source_more : {S : Type 0} (source : SourceView S) (files : Option Files) (names : List (String Global)) (name : String Global) (old mid new : S) (made text strings : List ℕ)
    → AreCommandsIn source files names old mid made → IsWholeOf (is_standard_input (string_bytes name)) source files (string_bytes name) mid new text
    → commands_of text ≡ Ok strings → AreCommandsIn source files (names ++ name ∷ []) old new (made ++ strings)
one_source_more source files [] name old mid new made text strings h whole read = (
  new,
  text,
  strings,
  [],
  subst (λ s. IsWholeOf (is_standard_input (string_bytes name)) source files (string_bytes name) s new text) h.0 whole,
  read,
  (refl, refl),
  ap (λ m. m ++ strings) h.1 ∙ sym (append-nil strings),
)
one_source_more source files (n ∷ ns) name old mid new made text strings h whole read = (
  h.0,
  h.1,
  h.2,
  h.3 ++ strings,
  h.4,
  h.5,
  one_source_more source files ns name h.0 mid new h.3 text strings h.6 whole read,
  ap (λ m. m ++ strings) h.7 ∙ append_assoc h.2 h.3 strings,
)

-- The place of a caret that can't be read is in the source.
ended_within : (m : Mode) (s : State) (at p : ℕ) → ended_in m s at ≡ Err p → p ≤ at
ended_within Caret s at p e =
    let is : at - 1 ≡ p = cc in
    omega (arith, is)
ended_within Wrong s at p e =
    let is : at - 1 ≡ p = cc in
    omega (arith, is)
ended_within First s at p e = cc
ended_within Margin s at p e = cc
ended_within Blank s at p e = cc
ended_within Text s at p e = cc
ended_within Hash s at p e = cc
ended_within Mark s at p e = cc
ended_within Comment s at p e = cc

from_within : (bs : List ℕ) (s : State) (at p : ℕ) → commands_from s at bs ≡ Err p → p ≤ at + length bs
unfolding commands_from
from_within [] s at p e =
    let h = ended_within s.mode s at p e in
    omega (arith, h)
from_within (b ∷ bs) s at p e = go (is_wrong (step s b).mode) refl (from_within bs (step s b) (suc at) p)
  where
    go : (t : Bool) → is_wrong (step s b).mode ≡ t → (commands_from (step s b) (suc at) bs ≡ Err p → p ≤ suc at + length bs) → p ≤ at + suc (length bs)
    go true w rest =
        let is : Err (at - 1) ≡ Err p = rw w at e in
        let same : at - 1 ≡ p = cc in
        omega (arith, same)
    go false w rest =
        let is : commands_from (step s b) (suc at) bs ≡ Err p = rw w at e in
        let h = rest is in
        omega (arith, h)

pub caret_within : (source : List ℕ) (p : ℕ) → commands_of source ≡ Err p → p ≤ length source
caret_within source p e =
    let h = from_within source _ 0 p e in
    omega (arith, h)

-- what a source is, where the files are the same
pub same_files : {S : Type 0} (source : SourceView S) {files given : Option Files} (b : Bool) (name : List ℕ) (old new : S) (bytes : List ℕ) → given ≡ files
    → IsWholeOf b source given name old new bytes → IsWholeOf b source files name old new bytes
same_files source b name old new bytes same h = subst (λ f. IsWholeOf b source f name old new bytes) same h

-- A file of sources that has a wrong caret.
pub faulty_file : {S I : Type 0} (source : SourceView S) (before after : DiskSeen I) (names : List (String Global)) (name : String Global) (at : ℕ) (old mid new : S) (front text : List ℕ)
    → AreCommandsIn source before.files (take at names) old mid front → at < length names → name ≡ slice_index_or names at name
    → IsWholeOf (is_standard_input (string_bytes name)) source before.files (string_bytes name) mid new text
    → (fault : CommandsFault) → IsFaultOf text at fault → LacksFiles source names before after old new fault
faulty_file source before after names name at old mid new front text read within name_is whole Memory h = tt
faulty_file source before after names name at old mid new front text read within name_is whole (Unread n reason) h = absurd h
faulty_file source before after names name at old mid new front text read within name_is whole (TooLarge n) h = absurd h
faulty_file source before after names name at old mid new front text read within name_is whole (fault.Caret n spot) h =
    subst (λ (k : ℕ). IsFaultyFile source before.files names k spot old new) (sym h.0) (record {
      mid = mid;
      front = front;
      before = read;
      within = within;
      name = name;
      name_is = name_is;
      text = text;
      text_is = whole;
      wrong = h.1;
    })

-- What can't be read where the files are as they were before.
unread_after : {S I : Type 0} (source : SourceView S) (before mid after : DiskSeen I) → KeepsDisk before mid
    → (b : Bool) (name : List ℕ) (old new : S) (fate : Fate) → FailsToGive b source mid after name old new fate → FailsToGive b source before after name old new fate
unread_after source before mid after kept true name old new fate h = h
unread_after source before mid after kept false name old new fate h = (lacks_after kept after name fate h.0, h.1)

-- A file that can't be read, after those that were.
pub unread_file : {S I : Type 0} (source : SourceView S) (before mid after : DiskSeen I) (names : List (String Global)) (name : String Global) (at : ℕ) (old between new : S) (front : List ℕ)
    → KeepsDisk before mid → AreCommandsIn source before.files (take at names) old between front → at < length names → name ≡ slice_index_or names at name
    → (fault : CommandsFault) → IsUnread source mid after (string_bytes name) between new at fault → LacksFiles source names before after old new fault
unread_file {S} source before mid after names name at old between new front kept read within name_is = by_fault
  where
    unread : (n : ℕ) (fate : Fate) → n ≡ at → FailsToGive (is_standard_input (string_bytes name)) source mid after (string_bytes name) between new fate
        → IsUnreadFile source before after names n old new fate
    unread n fate is fails = subst (λ (k : ℕ). IsUnreadFile source before after names k old new fate) (sym is) (record {
      mid = between;
      front = front;
      read = read;
      within = within;
      name = name;
      name_is = name_is;
      fails = unread_after source before mid after kept (is_standard_input (string_bytes name)) (string_bytes name) between new fate fails;
    })

    by_fault : (fault : CommandsFault) → IsUnread source mid after (string_bytes name) between new at fault → LacksFiles source names before after old new fault
    by_fault Memory h = tt
    by_fault (Unread n reason) h = unread n (NoInput reason) h.0 h.1
    by_fault (TooLarge n) h = unread n LargeInput h.0 h.1
    by_fault (fault.Caret n spot) h = absurd h

-- Over what is not read a run would have one of these fates alone.
module _ {S I : Type 0} (source : SourceView S) (before after : DiskSeen I) (name : List ℕ) (old new : S) (at : ℕ) where
  pub unread_by : (b : Bool) (fate : Fate) → is_standard_input name ≡ b → FailsToGive b source before after name old new fate
      → IsUnread source before after name old new at (fault_by at fate)
  unread_by b (NoInput reason) is fails = (refl, rw is fails)
  unread_by b LargeInput is fails = (refl, rw is fails)
  unread_by b (NoCommands reason) is fails = tt
  unread_by b NotRegular is fails = tt
  unread_by b NoMemory is fails = tt
  unread_by b (NoOutput reason) is fails = tt
  unread_by b (NoBackup reason) is fails = tt
  unread_by b Changed is fails = tt
  unread_by b Unchanged is fails = tt
  unread_by b (Lacking unkept) is fails = tt
  unread_by b (Ended served) is fails = tt

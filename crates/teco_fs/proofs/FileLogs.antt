-- What a note more makes of the files that a log tells.
use Rattle.std.proofs.Common.{◌≡◌, ◌≢◌, ◌⊎◌, inl, inr, ℕ, ◌+◌, ◌<◌, ◌++◌, true, false, List, [], ◌∷◌, length, drop, take, get_or, Option, Some, None, Result, Ok, Err, refl, ap, sym, subst, ◌∙◌}
use Rattle.std.specs.Prelude.{OnOk, OnErr}
use Rattle.std.specs.Str.{bytes_eq}
use Rattle.std.proofs.lemmas.Bool.{false_from_ne_true}
use Rattle.std.proofs.lemmas.List.{append-nil, drop_more, take-append-drop}
use Rattle.std.proofs.lemmas.Option.{same_Some}
use Rattle.std.proofs.lemmas.Slice.Eq.{bytes_eq-Decides}
use Rattle.teco_fs.specs.Disk.{Appends, AppendsFront, Changes, Creates, CutsTo, Files, KeepsAs, Passes, Removes, Renames, SameBut}
use Rattle.teco_fs.specs.FileLog.{FileNote, GrowsByOne, WereOnce, files_of}

-- the note of a call that gives these bytes to a name, or none, and takes another away
abbrev pub noted : List ℕ → List ℕ → Option (List ℕ) → FileNote
noted gone name bytes = record { gone = gone; name = name; bytes = bytes }

is_name : (one other : List ℕ) → one ≡ other → bytes_eq one other ≡ true
is_name one other e = (bytes_eq-Decides one other).1 e

not_name : (one other : List ℕ) → one ≢ other → bytes_eq one other ≡ false
not_name one other apart = false_from_ne_true (bytes_eq one other) (λ e. apart ((bytes_eq-Decides one other).0 e))

-- the log from a note on
pub log_from : (log : List FileNote) (i : ℕ) (note : FileNote) → i < length log → note ≡ get_or log i note → drop i log ≡ note ∷ drop (i + 1) log
log_from log i note within is = drop_more log i note within ∙ ap (λ first. first ∷ drop (i + 1) log) (sym is)

module _ {old new : List FileNote} where
  -- under the name that has the bytes
  pub at_name : (note : FileNote) → new ≡ note ∷ old → (name : List ℕ) → name ≡ note.name → files_of new name ≡ note.bytes
  unfolding files_of
  at_name note more name e = rw (more, is_name name note.name e)

  -- under the name that is taken away
  pub at_gone : (note : FileNote) → new ≡ note ∷ old → (name : List ℕ) → name ≢ note.name → name ≡ note.gone → files_of new name ≡ None
  unfolding files_of
  at_gone note more name apart e = rw (more, not_name name note.name apart, is_name name note.gone e)

  -- under any other
  pub at_other : (note : FileNote) → new ≡ note ∷ old → (name : List ℕ) → name ≢ note.name → name ≢ note.gone → files_of new name ≡ files_of old name
  unfolding files_of
  at_other note more name apart stays = rw (more, not_name name note.name apart, not_name name note.gone stays)

  module _ {name : List ℕ} where
    pub others_noted : {bytes : Option (List ℕ)} → new ≡ noted name name bytes ∷ old → SameBut name (files_of old) (files_of new)
    others_noted {bytes} more other apart = at_other (noted name name bytes) more other apart apart

    pub creates : files_of old name ≡ None → new ≡ noted name name (Some []) ∷ old → Creates name [] (files_of old) (files_of new)
    creates none more = record { new = none; whole = at_name (noted name name (Some [])) more name refl; others = others_noted more }

    pub appends : {had bytes : List ℕ} → files_of old name ≡ Some had → new ≡ noted name name (Some (had ++ bytes)) ∷ old → Appends name bytes (files_of old) (files_of new)
    appends {had} {bytes} is more = record {
      whole = λ was there. at_name (noted name name (Some (had ++ bytes))) more name refl ∙ ap (λ front. Some (front ++ bytes)) (same_Some had was (sym is ∙ there));
      others = others_noted more;
    }

    pub cuts : {had : List ℕ} {length : ℕ} → files_of old name ≡ Some had → new ≡ noted name name (Some (take length had)) ∷ old → CutsTo name length (files_of old) (files_of new)
    cuts {had} {length} is more = record {
      whole = λ was there. at_name (noted name name (Some (take length had))) more name refl ∙ ap (λ all. Some (take length all)) (same_Some had was (sym is ∙ there));
      others = others_noted more;
    }

    pub removes : new ≡ noted name name None ∷ old → Removes name (files_of old) (files_of new)
    removes more = record { gone = at_name (noted name name None) more name refl; others = others_noted more }

  pub keeps_as : {file backup : List ℕ} {bytes : Option (List ℕ)} → files_of old file ≡ bytes → new ≡ noted backup backup bytes ∷ old → KeepsAs file backup (files_of old) (files_of new)
  keeps_as {file} {backup} {bytes} had more = record {
    kept = at_name (noted backup backup bytes) more backup refl ∙ sym had;
    others = others_noted more;
  }

  pub renames : {from to : List ℕ} {bytes : Option (List ℕ)} → from ≢ to → files_of old from ≡ bytes → new ≡ noted from to bytes ∷ old → Renames from to (files_of old) (files_of new)
  renames {from} {to} {bytes} apart had more = record {
    moved = at_name (noted from to bytes) more to refl ∙ sym had;
    gone = at_gone (noted from to bytes) more from apart refl;
    others = λ name not_from not_to. at_other (noted from to bytes) more name not_to not_from;
  }

-- no byte was put after those of a file
pub appends_none : (name bytes : List ℕ) (files : Files) → AppendsFront name bytes files files
appends_none name bytes files = ([], (bytes, refl), record { whole = λ had is. is ∙ ap (λ (all : List ℕ). Some all) (sym (append-nil had)); others = λ other apart. refl })

-- files that are told have changed so
pub changed_by : (old new : Files) (change : Files → Files → Type 0) → change old new → Changes (Some old) (Some new) change
changed_by old new change is before told = (new, refl, subst (λ files. change files new) (same_Some _ _ told) is)

-- What a call that notes it, or fails, makes of the log and the files.
module _ {T E : Type 0} (old new : List FileNote) where
  pub grows_by : (note : FileNote) (noting : Result T E) → OnOk noting (new ≡ note ∷ old) → OnErr noting (new ≡ old) → GrowsByOne old new
  grows_by note (Ok done) more same = inr (note, more)
  grows_by note (Err fault) more same = inl same

  pub front_of : (name bytes had : List ℕ) (n : ℕ) (noting : Result T E) → files_of old name ≡ Some had → OnOk noting (new ≡ noted name name (Some (had ++ take n bytes)) ∷ old) → OnErr noting (new ≡ old)
      → AppendsFront name bytes (files_of old) (files_of new)
  front_of name bytes had n (Ok done) is more same = (take n bytes, (drop n bytes, sym (take-append-drop n bytes)), appends is more)
  front_of name bytes had n (Err fault) is more same = subst (λ log. AppendsFront name bytes (files_of old) (files_of log)) (sym same) (appends_none name bytes (files_of old))

  pub others_of : (name : List ℕ) (bytes : Option (List ℕ)) (noting : Result T E) → OnOk noting (new ≡ noted name name bytes ∷ old) → OnErr noting (new ≡ old) → SameBut name (files_of old) (files_of new)
  others_of name bytes (Ok done) more same = others_noted more
  others_of name bytes (Err fault) more same = λ other apart. ap (λ log. files_of log other) same

module _ (old new : List FileNote) (moment : Files → Files → Type 0) where
  last_or_once : (before files : Files) (note : FileNote) → new ≡ note ∷ old → moment before (files_of new) → WereOnce (note ∷ old) files → WereOnce old files ⊎ moment before files
  last_or_once before files note more now (inl is) = inr (subst (λ f. moment before f) (ap files_of more ∙ sym is) now)
  last_or_once before files note more now (inr was) = inl was

  -- the one moment of a call is after it
  pub passes : GrowsByOne old new → moment (files_of old) (files_of new) → Passes (Some (files_of old)) (WereOnce old) (WereOnce new) moment
  passes grows is before e files left =
      let now : moment before (files_of new) = subst (λ f. moment f (files_of new)) (same_Some _ _ e) is in
      elim grows [
        | inl same ↦ inl (subst (λ log. WereOnce log files) same left)
        | inr more ↦ last_or_once before files more.0 more.1 now (subst (λ log. WereOnce log files) more.1 left)
      ]

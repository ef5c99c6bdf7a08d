-- The calls of a replacement, one after another, and its moments.
use Rattle.std.proofs.Common.{◌≡◌, ◌≢◌, ◌⊎◌, inl, inr, ℕ, List, [], ◌++◌, append_assoc, append-nil, Option, Some, Bool, true, false, Result, Ok, Err, refl, ap, sym, ◌∙◌}
use Rattle.std.specs.Prelude.{OnOk, OnErr, bytes_eq}
use Rattle.std.proofs.lemmas.Option.{same_Some}
use Rattle.std.proofs.lemmas.Slice.Eq.{bytes_eq-Decides}
use Rattle.teco_fs.specs.Disk.{Appends, AppendsFront, Changes, Creates, CutsTo, Files, IsKeepingBy, IsThere, IsWhole, KeepsAs, LeavesFiles, Passes, Removes, Renames, Same, SameBut}

-- at a moment while the draft takes the file's name
abbrev pub IsRenaming : List ℕ → List ℕ → Files → Files → Type 0
IsRenaming draft file before now = Same before now ⊎ Renames draft file before now

-- a call that may fail leaves one of two
pub one_of : {A E X Y : Type 0} (result : Result A E) → OnOk result X → OnErr result Y → X ⊎ Y
one_of (Ok done) ok err = inl ok
one_of (Err fault) ok err = inr err

-- the file has its other name, or all is as it was
pub kept_or_same : {file backup : List ℕ} {before now : Files} (temporary : List ℕ) → KeepsAs file backup before now ⊎ Same before now → IsKeepingBy file temporary backup before now
kept_or_same temporary (inl keeps) = record { backup_is = inr keeps.kept; others = λ name apart other. keeps.others name apart }
kept_or_same {file} {backup} temporary (inr same) = record { backup_is = inl (same backup); others = λ name apart other. same name }

-- the file was there, or is empty
pub there_or_same : {name : List ℕ} {before now : Files} → IsThere name before now ⊎ Same before now → Same before now ⊎ Creates name [] before now
there_or_same (inl (inl there)) = inl there.1
there_or_same (inl (inr created)) = inr created
there_or_same (inr same) = inl same

-- nothing was written to it yet
pub appends_none : (name : List ℕ) (files : Files) → Appends name [] files files
appends_none name files = record { whole = λ had is. is ∙ ap (λ (l : List ℕ). Some l) (sym (append-nil had)); others = λ other apart. refl }

pub changes_none : (name : List ℕ) (files : Option Files) → Changes files files (Appends name [])
changes_none name files before told = (before, told, appends_none name before)

-- it was cut, or all is as it was
pub cut_or_same : {name : List ℕ} {length : ℕ} {before now : Files} → CutsTo name length before now ⊎ Same before now → Same before now ⊎ CutsTo name length before now
cut_or_same (inl cuts) = inr cuts
cut_or_same (inr same) = inl same

-- files that are as they were have none more
pub leaves_none : {A E : Type 0} (old new : Files) (draft : List ℕ) (result : Result A E) → OnErr result (Same old new) → OnErr result (Changes (Some old) (Some new) (LeavesFiles draft))
leaves_none old new draft (Ok done) same = tt
leaves_none old new draft (Err fault) same = λ before told. (new, refl, record { files = λ other there. same other ∙ ap (λ files. files other) (same_Some _ _ told); others = λ other apart. same other ∙ ap (λ files. files other) (same_Some _ _ told) })

module _ {name : List ℕ} where
  -- a file that was made, written to and removed again
  back : (other : List ℕ) (is : Bool) (bytes : List ℕ) {before made filled after : Files} → bytes_eq other name ≡ is → Creates name bytes before made → SameBut name made filled → Removes name filled after
      → after other ≡ before other
  back other true bytes {before} {after} e created filled removed =
      let named = (bytes_eq-Decides other name).0 e in
      ap after named ∙ removed.gone ∙ sym (ap before named ∙ created.new)
  back other false bytes e created filled removed =
      let apart : other ≢ name = λ named. let t = sym e ∙ (bytes_eq-Decides other name).1 named in cc in
      removed.others other apart ∙ filled other apart ∙ created.others other apart

  undone : {bytes : List ℕ} {before made filled after : Files} → Creates name bytes before made → SameBut name made filled → Removes name filled after → Same before after
  undone {bytes} created filled removed other = back other (bytes_eq other name) bytes refl created filled removed

  -- it is gone, or it could not be removed
  pub removed_or : {bytes : List ℕ} {old made filled new : Option Files} {unremoved A E : Type 0} (result : Result A E) → Changes old made (Creates name bytes) → Changes made filled (SameBut name)
      → OnOk result (Changes filled new (Removes name)) → OnErr result unremoved → Changes old new Same ⊎ unremoved
  removed_or {old} {made} {filled} {new} result creates fills ok err = elim (one_of result ok err) [
    | inl removes ↦ inl (λ before told.
        let made_is = creates before told in
        let filled_is = fills made_is.0 made_is.1 in
        let new_is = removes filled_is.0 filled_is.1 in
        (new_is.0, new_is.1, undone made_is.2 filled_is.2 new_is.2))
    | inr stays ↦ inr stays
  ]

  leaves : {bytes : List ℕ} {before made filled after : Files} → Creates name bytes before made → SameBut name made filled → SameBut name filled after → LeavesFiles name before after
  leaves {before} created filled removed = record {
    files = λ other there. let apart : other ≢ name = λ e. there (ap before e ∙ created.new) in removed other apart ∙ filled other apart ∙ created.others other apart;
    others = λ other apart. removed other apart ∙ filled other apart ∙ created.others other apart;
  }

  pub leaves_draft : {bytes : List ℕ} {old made filled new : Option Files} → Changes old made (Creates name bytes) → Changes made filled (SameBut name) → Changes filled new (SameBut name)
      → Changes old new (LeavesFiles name)
  leaves_draft creates fills removes before told =
      let made_is = creates before told in
      let filled_is = fills made_is.0 made_is.1 in
      let new_is = removes filled_is.0 filled_is.1 in
      (new_is.0, new_is.1, leaves made_is.2 filled_is.2 new_is.2)

  pub same_but : {old new : Option Files} → Changes old new Same → Changes old new (SameBut name)
  same_but same before told = let new_is = same before told in (new_is.0, new_is.1, λ other apart. new_is.2 other)

  pub others_created : {bytes : List ℕ} {old new : Option Files} → Changes old new (Creates name bytes) → Changes old new (SameBut name)
  others_created creates before told = let new_is = creates before told in (new_is.0, new_is.1, new_is.2.others)

  pub but_then : {old mid new : Option Files} → Changes old mid (SameBut name) → Changes mid new (SameBut name) → Changes old new (SameBut name)
  but_then first then before told =
      let mid_is = first before told in
      let new_is = then mid_is.0 mid_is.1 in
      (new_is.0, new_is.1, λ other apart. new_is.2 other apart ∙ mid_is.2 other apart)

  -- a file that was made, and then written to
  pub creates_written : {bytes : List ℕ} {old mid new : Option Files} → Changes old mid (Creates name []) → Changes mid new (Appends name bytes) → Changes old new (Creates name bytes)
  creates_written creates appends before told =
      let mid_is = creates before told in
      let new_is = appends mid_is.0 mid_is.1 in (
        new_is.0,
        new_is.1,
        record {
          new = mid_is.2.new;
          whole = new_is.2.whole [] mid_is.2.whole;
          others = λ other apart. new_is.2.others other apart ∙ mid_is.2.others other apart;
        },
      )

  pub others_appended : {bytes : List ℕ} {old new : Option Files} → Changes old new (Appends name bytes) → Changes old new (SameBut name)
  others_appended appends before told = let new_is = appends before told in (new_is.0, new_is.1, new_is.2.others)

  -- a beginning of bytes was put after a file's
  pub others_front : {bytes : List ℕ} {old new : Option Files} → Changes old new (AppendsFront name bytes) → Changes old new (SameBut name)
  others_front appends before told = let new_is = appends before told in (new_is.0, new_is.1, new_is.2.2.others)

  pub passes_front : {bytes : List ℕ} {old : Option Files} {a b : Files → Type 0} → Passes old a b (AppendsFront name bytes) → Passes old a b (SameBut name)
  passes_front moments before told files left = elim (moments before told files left) [ inl was ↦ inl was | inr now ↦ inr now.2.others ]

  -- written to, and then written to once more
  pub appends_both : {xs ys : List ℕ} {before mid after : Files} → Appends name xs before mid → Appends name ys mid after → Appends name (xs ++ ys) before after
  appends_both {xs} {ys} first then = record {
    whole = λ had is. then.whole (had ++ xs) (first.whole had is) ∙ ap (λ (l : List ℕ). Some l) (append_assoc had xs ys);
    others = λ other apart. then.others other apart ∙ first.others other apart;
  }

  pub appends_then : {xs ys : List ℕ} {old mid new : Option Files} → Changes old mid (Appends name xs) → Changes mid new (Appends name ys) → Changes old new (Appends name (xs ++ ys))
  appends_then {xs} {ys} first then before told =
      let mid_is = first before told in
      let new_is = then mid_is.0 mid_is.1 in
      (new_is.0, new_is.1, appends_both mid_is.2 new_is.2)

  -- moments of one call, and then of another
  pub passes_then : {old mid : Option Files} {a b c : Files → Type 0} → Passes old a b (SameBut name) → Changes old mid (SameBut name) → Passes mid b c (SameBut name) → Passes old a c (SameBut name)
  passes_then first changes then before told files left =
      let mid_is = changes before told in
      elim (then mid_is.0 mid_is.1 files left) [
        | inl was ↦ first before told files was
        | inr now ↦ inr (λ other apart. now other apart ∙ mid_is.2 other apart)
      ]

module _ {file draft bytes : List ℕ} (differ : draft ≢ file) where
  -- while the draft is made
  making : {before now : Files} → SameBut draft before now → IsWhole file draft bytes before now
  making same = record { file_is = inl (same file (λ e. differ (sym e))); others = λ name apart other. same name other }

  -- while it takes the file's name, or does not
  renaming : {before made now : Files} → Creates draft bytes before made → IsRenaming draft file made now → IsWhole file draft bytes before now
  renaming created (inl same) = record {
    file_is = inl (same file ∙ created.others file (λ e. differ (sym e)));
    others = λ name apart other. same name ∙ created.others name other;
  }
  renaming created (inr renamed) = record {
    file_is = inr (renamed.moved ∙ created.whole);
    others = λ name apart other. renamed.others name other apart ∙ created.others name other;
  }

  -- while it is removed
  removing : {before made kept now : Files} → Creates draft bytes before made → Same made kept → SameBut draft kept now → IsWhole file draft bytes before now
  removing created same removed = record {
    file_is = inl (removed file (λ e. differ (sym e)) ∙ same file ∙ created.others file (λ e. differ (sym e)));
    others = λ name apart other. removed name other ∙ same name ∙ created.others name other;
  }

  pub passes_making : {old : Option Files} {a b : Files → Type 0} → Passes old a b (SameBut draft) → Passes old a b (IsWhole file draft bytes)
  passes_making creates before told files left = elim (creates before told files left) [ inl was ↦ inl was | inr same ↦ inr (making same) ]

  pub passes_renaming : {old made : Option Files} {a b c : Files → Type 0} → Passes old a b (SameBut draft) → Changes old made (Creates draft bytes)
      → Passes made b c (IsRenaming draft file) → Passes old a c (IsWhole file draft bytes)
  passes_renaming creates created renames before told files left =
      let made_is = created before told in
      elim (renames made_is.0 made_is.1 files left) [
        | inl was ↦ passes_making creates before told files was
        | inr now ↦ inr (renaming made_is.2 now)
      ]

  pub passes_removing : {old made kept : Option Files} {a b c d : Files → Type 0} → Passes old a b (SameBut draft) → Changes old made (Creates draft bytes)
      → Passes made b c (IsRenaming draft file) → Changes made kept Same → Passes kept c d (SameBut draft) → Passes old a d (IsWhole file draft bytes)
  passes_removing creates created renames same removes before told files left =
      let made_is = created before told in
      let kept_is = same made_is.0 made_is.1 in
      elim (removes kept_is.0 kept_is.1 files left) [
        | inl was ↦ passes_renaming creates created renames before told files was
        | inr now ↦ inr (removing made_is.2 kept_is.2 now)
      ]

-- Writing a file by one draft after another.
use Rattle.std.proofs.Common.{◌≡◌, ◌≢◌, ◌⊎◌, inl, inr, ℕ, List, Option, Some, None, Bool, true, false, Result, Ok, Err, OnErr, refl, ap, sym, subst, ◌∙◌}
use Rattle.std.specs.Prelude.{IfSome, IsErrAnd, OnOk, bytes_eq}
use Rattle.std.specs.declared.io.Error.{Error}
use Rattle.std.proofs.lemmas.Slice.Eq.{bytes_eq-Decides}
use Rattle.teco_fs.proofs.Disks.{IsRenaming}
use Rattle.teco_fs.specs.Disk.{Appends, Changes, Creates, Files, IsWhole, LeavesFiles, Passes, Removes, Renames, Replaces, Same, SameBut}
use Rattle.teco_fs.specs.Draft.{draft_beside}
use Rattle.teco_fs.specs.Seen.{IsAsked}
use Rattle.teco_fs.specs.State.{DiskState}
use Rattle.teco_fs.specs.Writing.{AddsDrafts, HasDraft, IfChanged, IfWhole, IsDraftOf, IsPut, IsTaking, IsWriting, UnlessWhole, Writes}
use Rattle.teco_fs.specs.declared.output.Written.{Written}
use Rattle.teco_fs.specs.declared.output.Written.TheVariants.{Whole, Changed}

-- no draft yet
pub adds_none : (file : List ℕ) (files : Option Files) → Changes files files (AddsDrafts file)
adds_none file files before told = (before, told, record { same = refl; files = λ other there. refl; others = λ other apart. refl })

pub passes_none : (moment : Files → Files → Type 0) (files : Option Files) (left : Files → Type 0) → Passes files left left moment
passes_none moment files left before told now is = inl is

-- files that are as they were have no draft
pub adds_same : (file : List ℕ) {old new : Option Files} → new ≡ old → Changes old new (AddsDrafts file)
adds_same file same before told = (before, same ∙ told, record { same = refl; files = λ other there. refl; others = λ other apart. refl })

-- an error that is passed on
pub is_error : {T E : Type 0} (result : Result T E) (error : E) → IsErrAnd result (λ given. given ≡ error) → result ≡ Err error
is_error (Ok done) error is = absurd is
is_error (Err given) error is = ap Err is

-- what holds however a call ends
pub on_err_by : {A E P : Type 0} (result : Result A E) → P → OnErr result P
on_err_by (Ok done) p = tt
on_err_by (Err fault) p = p

pub on_ok_by : {A E P : Type 0} (result : Result A E) → P → OnOk result P
on_ok_by (Ok done) p = p
on_ok_by (Err fault) p = tt

-- files that are as they were have no file more
pub leaves_same : {name : List ℕ} {old new : Option Files} → Changes old new Same → Changes old new (LeavesFiles name)
leaves_same same before told =
    let done = same before told in
    (done.0, done.1, record { files = λ other there. done.2 other; others = λ other apart. done.2 other })

-- bytes were put after those of a file, and then the files stayed as they were
pub appends_still : {name bytes : List ℕ} {old mid new : Option Files} → new ≡ mid → Changes old mid (Appends name bytes) → Changes old new (Appends name bytes)
appends_still same appends before told = let done = appends before told in (done.0, same ∙ done.1, done.2)

-- what became of an output
pub whole_weaker : {P Q : Type 0} (result : Result Written Error) → (P → Q) → IfWhole result P → IfWhole result Q
whole_weaker (Ok (Whole unkept)) more p = more p
whole_weaker (Ok Changed) more p = tt
whole_weaker (Err error) more p = tt

pub changed_weaker : {P Q : Type 0} (result : Result Written Error) → (P → Q) → IfChanged result P → IfChanged result Q
changed_weaker (Ok (Whole unkept)) more p = tt
changed_weaker (Ok Changed) more p = more p
changed_weaker (Err error) more p = tt

pub unless_weaker : {P Q : Type 0} (result : Result Written Error) → (P → Q) → UnlessWhole result P → UnlessWhole result Q
unless_weaker (Ok (Whole unkept)) more p = tt
unless_weaker (Ok Changed) more p = more p
unless_weaker (Err error) more p = more p

pub whole_by : {P : Type 0} (result : Result Written Error) → P → IfWhole result P
whole_by (Ok (Whole unkept)) p = p
whole_by (Ok Changed) p = tt
whole_by (Err error) p = tt

pub unless_by : {P : Type 0} (result : Result Written Error) → P → UnlessWhole result P
unless_by (Ok (Whole unkept)) p = tt
unless_by (Ok Changed) p = p
unless_by (Err error) p = p

pub some_weaker : {A : Type 0} {P Q : A → Type 0} (option : Option A) → ((a : A) → P a → Q a) → IfSome option P → IfSome option Q
some_weaker (Some a) more p = more a p
some_weaker None more p = tt

-- a file was asked about, and then nothing changed until the next call
pub passes_after : {old mid : Option Files} {l0 l1 l2 : Files → Type 0} {moment : Files → Files → Type 0} → mid ≡ old → ((files : Files) → l1 files → l0 files)
    → Passes mid l1 l2 moment → Passes old l0 l2 moment
passes_after same still passes before told files left = elim (passes before (same ∙ told) files left) [ inl was ↦ inl (still files was) | inr now ↦ inr now ]

pub changes_after : {old mid new : Option Files} {change : Files → Files → Type 0} → mid ≡ old → Changes mid new change → Changes old new change
changes_after same changes before told = changes before (same ∙ told)

-- A draft takes the file's name, or is removed.
module _ {draft file : List ℕ} where
  taking : {before now : Files} → IsRenaming draft file before now → IsTaking draft file before now
  taking (inl same) = inr (λ other apart. same other)
  taking (inr renamed) = inl renamed

  pub passes_taking : {old : Option Files} {l0 l1 : Files → Type 0} → Passes old l0 l1 (IsRenaming draft file) → Passes old l0 l1 (IsTaking draft file)
  passes_taking renames before told files left = elim (renames before told files left) [ inl was ↦ inl was | inr now ↦ inr (taking now) ]

  pub passes_discarding : {old mid : Option Files} {l0 l1 l2 : Files → Type 0} → Passes old l0 l1 (IsRenaming draft file) → Changes old mid Same → Passes mid l1 l2 (SameBut draft)
      → Passes old l0 l2 (IsTaking draft file)
  passes_discarding renames same removes before told files left =
      let mid_is = same before told in
      elim (removes mid_is.0 mid_is.1 files left) [
        | inl was ↦ passes_taking renames before told files was
        | inr now ↦ inr (inr (λ other apart. now other apart ∙ mid_is.2 other))
      ]

  pub passes_discarded : {mid : Option Files} {l1 l2 : Files → Type 0} → Passes mid l1 l2 (SameBut draft) → Passes mid l1 l2 (IsTaking draft file)
  passes_discarded removes before told files left = elim (removes before told files left) [ inl was ↦ inl was | inr now ↦ inr (inr now) ]

-- files that were the same, and then changed
same_then : {old mid new : Option Files} {change : Files → Files → Type 0}
    → ((before mid after : Files) → Same before mid → change mid after → change before after)
    → Changes old mid Same → Changes mid new change → Changes old new change
same_then join same changes before told =
    let mid_is = same before told in
    let new_is = changes mid_is.0 mid_is.1 in
    (new_is.0, new_is.1, join before mid_is.0 new_is.0 mid_is.2 new_is.2)

pub same_but_then : {draft : List ℕ} {old mid new : Option Files} → Changes old mid Same → Changes mid new (SameBut draft) → Changes old new (SameBut draft)
same_but_then = same_then (λ before mid after same but other apart. but other apart ∙ same other)

pub removes_then : {draft : List ℕ} {old mid new : Option Files} {unremoved : Type 0} → Changes old mid Same → Changes mid new (Removes draft) ⊎ unremoved → Changes old new (Removes draft) ⊎ unremoved
removes_then same (inl removes) = inl (same_then (λ before mid after is gone. record { gone = gone.gone; others = λ other apart. gone.others other apart ∙ is other }) same removes)
removes_then same (inr stays) = inr stays

-- A draft was made, and then it took the file's name, or was removed.
module _ {draft bytes : List ℕ} where
  pub leaves_by : {old made new : Option Files} → Changes old made (Creates draft bytes) → Changes made new (SameBut draft) → Changes old new (LeavesFiles draft)
  leaves_by creates changes before told =
      let made_is = creates before told in
      let new_is = changes made_is.0 made_is.1 in (
        new_is.0,
        new_is.1,
        record {
          files = λ other there. let apart : other ≢ draft = λ e. there (ap before e ∙ made_is.2.new) in new_is.2 other apart ∙ made_is.2.others other apart;
          others = λ other apart. new_is.2 other apart ∙ made_is.2.others other apart;
        },
      )

  gone_again : (other : List ℕ) (is : Bool) {before made after : Files} → bytes_eq other draft ≡ is → Creates draft bytes before made → Removes draft made after → after other ≡ before other
  gone_again other true {before} {made} {after} e created removed =
      let named = (bytes_eq-Decides other draft).0 e in
      ap after named ∙ removed.gone ∙ sym (ap before named ∙ created.new)
  gone_again other false e created removed =
      let apart : other ≢ draft = λ named. let t = sym e ∙ (bytes_eq-Decides other draft).1 named in cc in
      removed.others other apart ∙ created.others other apart

  pub removed_by : {old made new : Option Files} {unremoved : Type 0} → Changes old made (Creates draft bytes) → Changes made new (Removes draft) ⊎ unremoved → Changes old new Same ⊎ unremoved
  removed_by creates (inl removes) = inl (λ before told.
      let made_is = creates before told in
      let new_is = removes made_is.0 made_is.1 in
      (new_is.0, new_is.1, λ other. gone_again other (bytes_eq other draft) refl made_is.2 new_is.2))
  removed_by creates (inr stays) = inr stays

module _ {file draft bytes : List ℕ} where
  taken : draft ≢ file → {before made now : Files} → Creates draft bytes before made → IsTaking draft file made now → IsWhole file draft bytes before now
  taken differ created (inl renamed) = record {
    file_is = inr (renamed.moved ∙ created.whole);
    others = λ name apart other. renamed.others name other apart ∙ created.others name other;
  }
  taken differ created (inr same) = record {
    file_is = inl (same file (λ e. differ (sym e)) ∙ created.others file (λ e. differ (sym e)));
    others = λ name apart other. same name other ∙ created.others name other;
  }

  made_only : draft ≢ file → {before now : Files} → SameBut draft before now → IsWhole file draft bytes before now
  made_only differ same = record { file_is = inl (same file (λ e. differ (sym e))); others = λ name apart other. same name other }

  pub passes_whole : draft ≢ file → {old made : Option Files} {l0 l1 l2 : Files → Type 0} → Passes old l0 l1 (SameBut draft) → Changes old made (Creates draft bytes)
      → Passes made l1 l2 (IsTaking draft file) → Passes old l0 l2 (IsWhole file draft bytes)
  passes_whole differ creates created takes before told files left =
      let made_is = created before told in
      elim (takes made_is.0 made_is.1 files left) [
        | inl was ↦ elim (creates before told files was) [ inl first ↦ inl first | inr same ↦ inr (made_only differ same) ]
        | inr now ↦ inr (taken differ made_is.2 now)
      ]

module _ {D : Type 0} {seen : D → DiskState} {read bytes : List ℕ} {old mid : Option Files} where
  -- asked when the draft was whole
  pub asked_whole : {draft : List ℕ} → Changes old mid (Creates draft bytes) → IsAsked seen read mid Same → IsAsked seen read old (λ before now. now draft ≡ Some bytes)
  asked_whole {draft} creates asked = record {
    disk = asked.disk;
    then = λ before told.
        let made_is = creates before told in
        let now_is = asked.then made_is.0 made_is.1 in
        (now_is.0, now_is.1, now_is.2 draft ∙ made_is.2.whole);
    as_read = asked.as_read;
  }

  -- after other drafts were tried
  pub asked_later : {file draft : List ℕ} (number : ℕ) → draft ≡ draft_beside file number → Changes old mid (AddsDrafts file)
      → IsAsked seen read mid (λ before now. now draft ≡ Some bytes) → IsAsked seen read old (HasDraft file bytes)
  asked_later {file} {draft} number named adds asked = record {
    disk = asked.disk;
    then = λ before told.
        let mid_is = adds before told in
        let now_is = asked.then mid_is.0 mid_is.1 in
        (now_is.0, now_is.1, (draft, (number, named), now_is.2));
    as_read = asked.as_read;
  }

  -- of the file that the output's name leads to
  pub asked_in : {name file : List ℕ} {had : Option (List ℕ)} → (old ≢ None → file ≡ name) → mid ≡ old
      → IsAsked seen read mid (HasDraft file bytes) → IsAsked seen read old (λ before now. had ≡ None → HasDraft name bytes before now)
  asked_in {name} {file} {had} is same asked = record {
    disk = asked.disk;
    then = λ before told.
        let now_is = asked.then before (same ∙ told) in
        (now_is.0, now_is.1, λ none. subst (λ place. HasDraft place bytes before now_is.0) (is (λ none. let e = sym told ∙ none in cc)) now_is.2);
    as_read = asked.as_read;
  }

  -- of a stream there is no draft
  pub asked_on : (name : List ℕ) {had : Option (List ℕ)} → (old ≢ None → (given : List ℕ) × (had ≡ Some given)) → mid ≡ old
      → IsAsked seen read mid Same → IsAsked seen read old (λ before now. had ≡ None → HasDraft name bytes before now)
  asked_on name {had} is same asked = record {
    disk = asked.disk;
    then = λ before told.
        let now_is = asked.then before (same ∙ told) in
        let given = is (λ none. let e = sym told ∙ none in cc) in
        (now_is.0, now_is.1, λ none. let e = sym given.1 ∙ none in cc);
    as_read = asked.as_read;
  }

-- A draft was made, and then it took the file's name.
module _ {file draft bytes : List ℕ} where
  others_renamed : (other : List ℕ) (is : Bool) {before made after : Files} → bytes_eq other draft ≡ is → other ≢ file → Creates draft bytes before made → Renames draft file made after
      → after other ≡ before other
  others_renamed other true {before} {after} e apart created renamed =
      let named = (bytes_eq-Decides other draft).0 e in
      ap after named ∙ renamed.gone ∙ sym (ap before named ∙ created.new)
  others_renamed other false e apart created renamed =
      let no_draft : other ≢ draft = λ named. let t = sym e ∙ (bytes_eq-Decides other draft).1 named in cc in
      renamed.others other no_draft apart ∙ created.others other no_draft

  pub replaces_by : {old made new : Option Files} → Changes old made (Creates draft bytes) → Changes made new (Renames draft file) → Changes old new (Replaces file bytes)
  replaces_by creates renames before told =
      let made_is = creates before told in
      let new_is = renames made_is.0 made_is.1 in (
        new_is.0,
        new_is.1,
        record {
          whole = new_is.2.moved ∙ made_is.2.whole;
          others = λ other apart. others_renamed other (bytes_eq other draft) refl apart made_is.2 new_is.2;
        },
      )

-- The files are told.
pub are_told : {old : Option Files} {before : Files} → old ≡ Some before → old ≢ None
are_told told none = let e = sym told ∙ none in cc

module _ {old new : Option Files} where
  -- A stream was given the output.
  pub puts_on : {name output : List ℕ} {streams after : Files} → (old ≢ None → (given : List ℕ) × (streams name ≡ Some given)) → new ≡ old → Appends name output streams after
      → Changes old new (IsPut name output (streams name) (after name))
  puts_on {name} {output} {after} is same appends before told =
      let given = is (are_told told) in
      (before, same ∙ told, subst (λ had. IsPut name output had (after name) before before) (sym given.1) (appends.whole given.0 given.1, λ other. refl))

  -- The output was written to a file.
  pub puts_in : {name file output : List ℕ} {had : Option (List ℕ)} {mid : Option Files} (given : Option (List ℕ)) → (old ≢ None → (file ≡ name) × (had ≡ None)) → mid ≡ old
      → Changes mid new (Writes file output) → Changes old new (IsPut name output had given)
  puts_in {name} {output} given is same writes before told =
      let named = is (are_told told) in
      let done = writes before (same ∙ told) in
      (done.0, done.1, subst (λ had. IsPut name output had given before done.0) (sym named.1) (subst (λ file. Writes file output before done.0) named.0 done.2))

  -- Drafts of a file were left.
  pub adds_in : {name file : List ℕ} {mid : Option Files} → (old ≢ None → file ≡ name) → mid ≡ old → Changes mid new (AddsDrafts file) → Changes old new (AddsDrafts name)
  adds_in is same adds before told =
      let done = adds before (same ∙ told) in
      (done.0, done.1, subst (λ file. AddsDrafts file before done.0) (is (are_told told)) done.2)

module _ {file draft : List ℕ} (number : ℕ) (named : draft ≡ draft_beside file number) (differ : draft ≢ file) where
  -- a name that is no draft's is not this draft's
  apart_from : (other : List ℕ) → (IsDraftOf file other → ⊥) → other ≢ draft
  apart_from other apart e = apart (number, e ∙ named)

  more : {a b c : Files} → AddsDrafts file a b → LeavesFiles draft b c → AddsDrafts file a c
  more p q = record {
    same = q.others file (λ e. differ (sym e)) ∙ p.same;
    files = λ other there. q.files other (λ none. there (sym (p.files other there) ∙ none)) ∙ p.files other there;
    others = λ other apart. q.others other (apart_from other apart) ∙ p.others other apart;
  }

  pub adds_more : {a b c : Option Files} → Changes a b (AddsDrafts file) → Changes b c (LeavesFiles draft) → Changes a c (AddsDrafts file)
  adds_more p q before told =
      let mid = p before told in
      let end = q mid.0 mid.1 in
      (end.0, end.1, more mid.2 end.2)

  replaced : {bytes : List ℕ} {a b c : Files} → AddsDrafts file a b → Replaces file bytes b c → Writes file bytes a c
  replaced p q = record {
    whole = q.whole;
    files = λ other apart there. q.others other apart ∙ p.files other there;
    others = λ other apart no_draft. q.others other apart ∙ p.others other no_draft;
  }

  pub writes_after : {bytes : List ℕ} {a b c : Option Files} → Changes a b (AddsDrafts file) → Changes b c (Replaces file bytes) → Changes a c (Writes file bytes)
  writes_after p q before told =
      let mid = p before told in
      let end = q mid.0 mid.1 in
      (end.0, end.1, replaced mid.2 end.2)

  moment : {bytes : List ℕ} {a b c : Files} → AddsDrafts file a b → IsWhole file draft bytes b c → IsWriting file bytes a c
  moment p q = record {
    file_is = elim q.file_is [ inl was ↦ inl (was ∙ p.same) | inr all ↦ inr all ];
    others = λ other apart no_draft. q.others other apart (apart_from other no_draft) ∙ p.others other no_draft;
  }

  pub passes_more : {bytes : List ℕ} {a b : Option Files} {l0 l1 l2 : Files → Type 0} → Changes a b (AddsDrafts file) → Passes a l0 l1 (IsWriting file bytes)
      → Passes b l1 l2 (IsWhole file draft bytes) → Passes a l0 l2 (IsWriting file bytes)
  passes_more adds passes next before told now is =
      let mid = adds before told in
      elim (next mid.0 mid.1 now is) [
        | inl was ↦ passes before told now was
        | inr new ↦ inr (moment mid.2 new)
      ]

-- How a session's file is opened: it is there, it is read, and then it is begun, gone on with or left.
use Rattle.std.proofs.Common.{◌≡◌, ◌≢◌, ◌⊎◌, ◌++◌, ℕ, List, [], Some, None, length, take, refl, sym, ap, ◌∙◌, subst, append-nil, inl, inr}
use Rattle.std.proofs.Math.Seq.{take-append_seam}
use Rattle.teco_core.specs.declared.profile.Profile.{Profile}
use Rattle.teco_core.specs.declared.profile.Profile.TheVariants.{Named, Wide}
use Rattle.teco_fs.specs.Disk.{Creates, CutsTo, Files, IsThere, Same, SameBut}
use Rattle.teco_fs.specs.Reading.{IsInput}
use Rattle.teco_fs.specs.State.{DiskState, FilesChange, FilesPass}
use Rattle.teco_journal.specs.declared.head_reader.HeadFault.{HeadFault}
use Rattle.teco_journal.specs.declared.head_reader.HeadFault.TheVariants.{Torn}
use Rattle.teco_journal.specs.declared.session_file.SessionFault.{SessionFault}
use Rattle.teco_journal.specs.declared.session_file.SessionFault.TheVariants.{Head}
use Rattle.teco_journal.specs.Events.{Event}
use Rattle.teco_journal.specs.Files.{FileFails}
use Rattle.teco_journal.specs.HeadFaults.{HeadFails}
use Rattle.teco_journal.specs.Heads.{Beginning, begun, file_of, first_check, head_of, start_lines, version, whole_head}
use Rattle.teco_journal.specs.Lines.{line_of, written}
use Rattle.teco_recorder.specs.Opening.{Begins, CutsTorn, GoesOn, HasLines, KeepsOrBegins, StaysClosed, TellsNothing}
use Rattle.teco_recorder.specs.Recording.{HasIfThere, IsBegun}

-- A file was opened, or made where there was none.
pub record IsFound (name : List ℕ) (old now : DiskState) : Type 0 where
  pub there : FilesChange old now (IsThere name)
  pub moments : FilesPass old now (λ before at. Same before at ⊎ Creates name [] before at)
  pub streams : now.streams ≡ old.streams

-- Where the files are told, it has these bytes.
abbrev pub HasBytes : List ℕ → List ℕ → DiskState → Type 0
HasBytes name bytes now = (at : Files) → now.files ≡ Some at → at name ≡ Some bytes

-- a file that was opened, and then looked at
pub found_after : (name : List ℕ) (old opened now : DiskState) → FilesChange old opened (IsThere name)
    → FilesPass old opened (λ before at. Same before at ⊎ Creates name [] before at) → opened.streams ≡ old.streams
    → now.files ≡ opened.files → now.streams ≡ opened.streams → ((files : Files) → now.left files → opened.left files) → IsFound name old now
found_after name old opened now there moments same files streams left = record {
  there = λ before told. let mid = there before told in (mid.0, files ∙ mid.1, mid.2);
  moments = λ before told at is. moments before told at (left at is);
  streams = streams ∙ same;
}

pub bytes_after : (name bytes items : List ℕ) (opened now : DiskState) → bytes ≡ items → IsInput opened.files name items
    → now.files ≡ opened.files → HasBytes name bytes now
bytes_after name bytes items opened now same p files at told = p.whole at (sym files ∙ told) ∙ ap Some (sym same)

-- a fault that tells of a torn head
pub torn_head : (bytes : List ℕ) (fault : SessionFault) (head : HeadFault) → fault ≡ Head head → head ≡ Torn → FileFails bytes fault
    → HeadFails bytes Torn
torn_head bytes fault head is torn fails = subst (HeadFails bytes) torn (subst (FileFails bytes) is fails)

made_tells_nothing : (name : List ℕ) (before : Files) → before name ≡ None → TellsNothing name before
made_tells_nothing name before none had is = (let no : None ≡ Some had = sym none ∙ is in absurd (cc))

-- as it was, or a file where there was none
same_keeps : (beginning : Beginning) (name : List ℕ) (before now : Files) → Same before now → KeepsOrBegins beginning name before now
same_keeps beginning name before now same = record { file = inl (same name); others = λ other apart. same other }

made_keeps : (beginning : Beginning) (name : List ℕ) (before now : Files) → Creates name [] before now → KeepsOrBegins beginning name before now
made_keeps beginning name before now made = record {
  file = inr (made_tells_nothing name before made.new, [], (whole_head beginning, refl), made.whole);
  others = made.others;
}

there_keeps : (beginning : Beginning) (name : List ℕ) (before now : Files) → IsThere name before now → KeepsOrBegins beginning name before now
there_keeps beginning name before now (inl was) = same_keeps beginning name before now was.1
there_keeps beginning name before now (inr made) = made_keeps beginning name before now made

moment_keeps : (beginning : Beginning) (name : List ℕ) (before now : Files) → Same before now ⊎ Creates name [] before now
    → KeepsOrBegins beginning name before now
moment_keeps beginning name before now (inl same) = same_keeps beginning name before now same
moment_keeps beginning name before now (inr made) = made_keeps beginning name before now made

is_there : (name : List ℕ) (before now : Files) → IsThere name before now → now name ≢ None
is_there name before now (inl was) none = was.0 (sym (was.1 name) ∙ none)
is_there name before now (inr made) none = (let no : Some [] ≡ None = sym made.whole ∙ none in absurd (cc))

-- what was read is what was there before, if anything was
told_nothing : (name bytes : List ℕ) (before now : Files) → IsThere name before now → now name ≡ Some bytes → HeadFails bytes Torn
    → TellsNothing name before
told_nothing name bytes before now (inl was) is torn had there =
    let same : Some had ≡ Some bytes = sym there ∙ sym (was.1 name) ∙ is in
    let one : had ≡ bytes = cc in
    subst (λ l. HeadFails l Torn) (sym one) torn
told_nothing name bytes before now (inr made) is torn had there = made_tells_nothing name before made.new had there

-- A file that told nothing is begun.
begun_keeps : (beginning : Beginning) (name : List ℕ) (before mid now : Files) → IsThere name before mid → TellsNothing name before
    → IsBegun name (whole_head beginning) mid now → KeepsOrBegins beginning name before now
begun_keeps beginning name before mid now there nothing p =
    let first = there_keeps beginning name before mid there in record {
      file = elim (p.front (is_there name before mid there)) [
        | inl same ↦ (elim first.file [ inl was ↦ inl (same ∙ was) | inr at ↦ inr (at.0, at.1, at.2, same ∙ at.3) ])
        | inr at ↦ inr (nothing, at.0, at.1, at.2)
      ];
      others = λ other apart. p.others other apart ∙ first.others other apart;
    }

pub begins : (beginning : Beginning) (name bytes : List ℕ) (old now end : DiskState) → IsFound name old now → HasBytes name bytes now
    → HeadFails bytes Torn → FilesPass now end (IsBegun name (whole_head beginning)) → (before : Files) → old.files ≡ Some before
    → TellsNothing name before × ((files : Files) → end.left files → old.left files ⊎ KeepsOrBegins beginning name before files)
begins beginning name bytes old now end p has torn q before told =
    let mid = p.there before told in
    let nothing = told_nothing name bytes before mid.0 mid.2 (has mid.0 mid.1) torn in (
      nothing,
      λ files left. elim (q mid.0 mid.1 files left) [
        | inl was ↦ (elim (p.moments before told files was) [
          | inl first ↦ inl first
          | inr at ↦ inr (moment_keeps beginning name before files at)
        ])
        | inr at ↦ inr (begun_keeps beginning name before mid.0 files mid.2 nothing at)
      ],
    )

pub begun_found : (beginning : Beginning) (name bytes : List ℕ) (old now end : DiskState) → IsFound name old now → HasBytes name bytes now
    → HeadFails bytes Torn → FilesChange now end (HasIfThere name (whole_head beginning))
    → FilesPass now end (IsBegun name (whole_head beginning)) → Begins beginning name old end
begun_found beginning name bytes old now end p has torn whole q = record {
  before = λ before told.
      let mid = p.there before told in
      let after = whole mid.0 mid.1 in
      (after.0, after.1, (begins beginning name bytes old now end p has torn q before told).0);
  moments = λ before told files left. (begins beginning name bytes old now end p has torn q before told).1 files left;
}

file_begins : (beginning : Beginning) → whole_head beginning ≡ file_of beginning []
unfolding written
file_begins beginning = sym (append-nil (whole_head beginning))

pub begun_after : (beginning : Beginning) (name : List ℕ) (old now end : DiskState) → IsFound name old now
    → FilesChange now end (HasIfThere name (whole_head beginning))
    → FilesChange old end (λ before after. SameBut name before after × (after name ≡ Some (file_of beginning [])))
begun_after beginning name old now end p whole before told =
    let mid = p.there before told in
    let after = whole mid.0 mid.1 in
    let first = there_keeps beginning name before mid.0 mid.2 in (
      after.0,
      after.1,
      (
        λ other apart. after.2.others other apart ∙ first.others other apart,
        after.2.whole (is_there name before mid.0 mid.2) ∙ ap Some (file_begins beginning),
      ),
    )

pub unbegun_closed : (beginning : Beginning) (name bytes : List ℕ) (old now end : DiskState) → IsFound name old now → HasBytes name bytes now
    → HeadFails bytes Torn → FilesChange now end (IsBegun name (whole_head beginning))
    → FilesPass now end (IsBegun name (whole_head beginning)) → end.streams ≡ now.streams → StaysClosed beginning name old end
unbegun_closed beginning name bytes old now end p has torn front q streams = record {
  kept = λ before told.
      let mid = p.there before told in
      let after = front mid.0 mid.1 in
      let nothing = (begins beginning name bytes old now end p has torn q before told).0 in
      (after.0, after.1, begun_keeps beginning name before mid.0 after.0 mid.2 nothing after.2);
  moments = λ before told files left. elim ((begins beginning name bytes old now end p has torn q before told).1 files left) [
    | inl was ↦ inl was
    | inr at ↦ inr (inl at)
  ];
  streams = streams ∙ p.streams;
}

-- A file that was looked at alone is left.
pub found_closed : (beginning : Beginning) (name : List ℕ) (old now : DiskState) → IsFound name old now → StaysClosed beginning name old now
found_closed beginning name old now p = record {
  kept = λ before told. let mid = p.there before told in (mid.0, mid.1, there_keeps beginning name before mid.0 mid.2);
  moments = λ before told files left. elim (p.moments before told files left) [
    | inl was ↦ inl was
    | inr at ↦ inr (inl (moment_keeps beginning name before files at))
  ];
  streams = p.streams;
}

-- One that could not be opened is left, too.
pub unopened_closed : (beginning : Beginning) (name : List ℕ) (old now : DiskState) → FilesChange old now Same
    → FilesPass old now (λ before at. Same before at ⊎ Creates name [] before at) → now.streams ≡ old.streams → StaysClosed beginning name old now
unopened_closed beginning name old now same moments streams = record {
  kept = λ before told. let mid = same before told in (mid.0, mid.1, same_keeps beginning name before mid.0 mid.2);
  moments = λ before told files left. elim (moments before told files left) [
    | inl was ↦ inl was
    | inr at ↦ inr (inl (moment_keeps beginning name before files at))
  ];
  streams = streams;
}

-- A file with lines is not empty, and so it was there before.
version_there : (p : Profile) (start last lines rest : List ℕ) → [] ≡ (((version p ++ start) ++ last) ++ lines) ++ rest → ⊥
version_there Named start last lines rest is = cc
version_there Wide start last lines rest is = cc

lines_there : (beginning : Beginning) (events : List Event) (rest : List ℕ) → [] ≡ file_of beginning events ++ rest → ⊥
unfolding head_of
lines_there beginning events rest is =
    version_there beginning.profile (start_lines beginning) (line_of (head_of beginning) begun) (written (first_check beginning) events) rest is

had_before : (name bytes : List ℕ) (before mid : Files) → IsThere name before mid → mid name ≡ Some bytes → ([] ≡ bytes → ⊥)
    → (before name ≡ Some bytes) × Same before mid
had_before name bytes before mid (inl was) is some = (sym (was.1 name) ∙ is, was.1)
had_before name bytes before mid (inr made) is some =
    let same : Some [] ≡ Some bytes = sym made.whole ∙ is in
    let none : [] ≡ bytes = cc in
    absurd (some none)

-- Its lines are what is left where the rest is cut off.
lines_left : (beginning : Beginning) (events : List Event) (rest bytes : List ℕ) (good : ℕ) → bytes ≡ file_of beginning events ++ rest
    → good ≡ length (file_of beginning events) → take good bytes ≡ file_of beginning events
lines_left beginning events rest bytes good is size =
    ap (take good) is ∙ ap (λ n. take n (file_of beginning events ++ rest)) size ∙ take-append_seam (file_of beginning events) rest

cut_is : (beginning : Beginning) (events : List Event) (torn good : ℕ) (name bytes : List ℕ) (before mid now : Files)
    → HasLines beginning events torn bytes → good ≡ length (file_of beginning events) → mid name ≡ Some bytes → Same before mid
    → CutsTo name good mid now → SameBut name before now × (now name ≡ Some (file_of beginning events))
cut_is beginning events torn good name bytes before mid now lines size is same cut = (
  λ other apart. cut.others other apart ∙ same other,
  cut.whole bytes is ∙ ap Some (lines_left beginning events lines.rest bytes good lines.front size),
)

-- what a moment of the cut is
moment_cut : (beginning : Beginning) (events : List Event) (torn good : ℕ) (name bytes : List ℕ) (before mid now : Files)
    → HasLines beginning events torn bytes → good ≡ length (file_of beginning events) → mid name ≡ Some bytes → Same before mid
    → Same mid now ⊎ CutsTo name good mid now
    → SameBut name before now × ((now name ≡ before name) ⊎ (now name ≡ Some (file_of beginning events)))
moment_cut beginning events torn good name bytes before mid now lines size is same (inl kept) =
    (λ other apart. kept other ∙ same other, inl (kept name ∙ same name))
moment_cut beginning events torn good name bytes before mid now lines size is same (inr cut) =
    let at = cut_is beginning events torn good name bytes before mid now lines size is same cut in (at.0, inr at.1)

first_moment : (name : List ℕ) (before now : Files) → before name ≢ None → Same before now ⊎ Creates name [] before now → Same before now
first_moment name before now there (inl same) = same
first_moment name before now there (inr made) = absurd (there made.new)

some_there : (name bytes : List ℕ) (before : Files) → before name ≡ Some bytes → before name ≢ None
some_there name bytes before is none = (let no : Some bytes ≡ None = sym is ∙ none in absurd (cc))

-- A file that has lines is found so, and cut to them.
pub found_lines : (beginning : Beginning) (events : List Event) (torn : ℕ) (name bytes : List ℕ) (old now : DiskState) → IsFound name old now
    → HasBytes name bytes now → HasLines beginning events torn bytes → (before : Files) → old.files ≡ Some before
    → (mid : Files) × (now.files ≡ Some mid) × (mid name ≡ Some bytes) × (before name ≡ Some bytes) × Same before mid
found_lines beginning events torn name bytes old now p has lines before told =
    let mid = p.there before told in
    let is = has mid.0 mid.1 in
    let had = had_before name bytes before mid.0 mid.2 is (λ none. lines_there beginning events lines.rest (none ∙ lines.front)) in
    (mid.0, mid.1, is, had.0, had.1)

pub found_goes_on : (beginning : Beginning) (events : List Event) (torn good : ℕ) (name bytes : List ℕ) (old now end : DiskState)
    → IsFound name old now → HasBytes name bytes now → HasLines beginning events torn bytes → good ≡ length (file_of beginning events)
    → FilesChange now end (CutsTo name good) → FilesPass now end (λ before at. Same before at ⊎ CutsTo name good before at)
    → GoesOn beginning events torn name old end
found_goes_on beginning events torn good name bytes old now end p has lines size cut q = record {
  had = bytes;
  lines = lines;
  before = λ before told.
      let mid = found_lines beginning events torn name bytes old now p has lines before told in
      let after = cut mid.0 mid.1 in
      (after.0, after.1, mid.3);
  moments = λ before told files left.
      let mid = found_lines beginning events torn name bytes old now p has lines before told in
      elim (q mid.0 mid.1 files left) [
        | inl was ↦ (elim (p.moments before told files was) [
          | inl first ↦ inl first
          | inr at ↦ (let same = first_moment name before files (some_there name bytes before mid.3) at in
              inr (λ other apart. same other, inl (same name)))
        ])
        | inr at ↦ inr (moment_cut beginning events torn good name bytes before mid.0 files lines size mid.2 mid.4 at)
      ];
}

pub cut_after : (beginning : Beginning) (events : List Event) (torn good : ℕ) (name bytes : List ℕ) (old now end : DiskState)
    → IsFound name old now → HasBytes name bytes now → HasLines beginning events torn bytes → good ≡ length (file_of beginning events)
    → FilesChange now end (CutsTo name good)
    → FilesChange old end (λ before after. SameBut name before after × (after name ≡ Some (file_of beginning events)))
cut_after beginning events torn good name bytes old now end p has lines size cut before told =
    let mid = found_lines beginning events torn name bytes old now p has lines before told in
    let after = cut mid.0 mid.1 in
    (after.0, after.1, cut_is beginning events torn good name bytes before mid.0 after.0 lines size mid.2 mid.4 after.2)

-- At a moment of a cut that failed all its lines are there.
cut_moment : (start beginning : Beginning) (events : List Event) (torn : ℕ) (name bytes : List ℕ) (before now : Files)
    → HasLines beginning events torn bytes → before name ≡ Some bytes
    → SameBut name before now × ((now name ≡ before name) ⊎ (now name ≡ Some (file_of beginning events)))
    → KeepsOrBegins start name before now ⊎ CutsTorn name before now
cut_moment start beginning events torn name bytes before now lines had at = elim at.1 [
  | inl same ↦ inl (record { file = inl same; others = at.0 })
  | inr is ↦ inr (record {
    beginning = beginning;
    events = events;
    torn = torn;
    had = bytes;
    lines = lines;
    was = had;
    is = is;
    others = at.0;
  })
]

pub uncut_closed : (start beginning : Beginning) (events : List Event) (torn good : ℕ) (name bytes : List ℕ) (old now end : DiskState)
    → IsFound name old now → HasBytes name bytes now → HasLines beginning events torn bytes → good ≡ length (file_of beginning events)
    → FilesChange now end Same → FilesPass now end (λ before at. Same before at ⊎ CutsTo name good before at) → end.streams ≡ now.streams
    → StaysClosed start name old end
uncut_closed start beginning events torn good name bytes old now end p has lines size same q streams = record {
  kept = λ before told.
      let mid = p.there before told in
      let after = same mid.0 mid.1 in
      let first = there_keeps start name before mid.0 mid.2 in
      let kept : Same mid.0 after.0 = after.2 in (
        after.0,
        after.1,
        record {
          file = elim first.file [ inl was ↦ inl (kept name ∙ was) | inr at ↦ inr (at.0, at.1, at.2, kept name ∙ at.3) ];
          others = λ other apart. kept other ∙ first.others other apart;
        },
      );
  moments = λ before told files left.
      let mid = found_lines beginning events torn name bytes old now p has lines before told in
      elim (q mid.0 mid.1 files left) [
        | inl was ↦ (elim (p.moments before told files was) [
          | inl first ↦ inl first
          | inr at ↦ inr (inl (moment_keeps start name before files at))
        ])
        | inr at ↦ inr (cut_moment start beginning events torn name bytes before files lines mid.3
            (moment_cut beginning events torn good name bytes before mid.0 files lines size mid.2 mid.4 at))
      ];
  streams = streams ∙ p.streams;
}

-- The old bytes of a file were kept, and then its output was written.
use Rattle.std.proofs.Common.{◌≡◌, inl, inr, ℕ, List, Option, None, Bool, true, false, true≢false, refl, ap, sym, subst, ◌∙◌, if◌then◌else◌}
use Rattle.std.specs.Prelude.{◌||◌, option_map}
use Rattle.std.specs.String.{string_bytes}
use Rattle.teco_cli.specs.Options.{suffix_of}
use Rattle.teco_cli.specs.declared.line.Line.{Line}
use Rattle.teco_fs.specs.Disk.{Changes, Files, Passes, SameBut}
use Rattle.teco_fs.specs.Seen.{DiskSeen, IsAsked}
use Rattle.teco_fs.specs.State.{DiskState}
use Rattle.teco_fs.specs.Writing.{AddsDrafts, HasDraft, IsPut, IsWriting}
use Rattle.teco_driver.specs.Backups.{AfterKeeping, KeepsOld, KeptAs, LeavesOver, WhileKeeping, WritesOver, replacing}
use Rattle.teco_driver.specs.Run.{replaces_input}

-- without a suffix
pub kept_none : {I : Type 0} {disk : DiskSeen I} {name : List ℕ} → KeepsOld disk disk name None
kept_none = record { files = λ before told. (before, told, refl); streams = refl; moments = λ before told files left. inl left }

module _ {I : Type 0} {old mid : DiskSeen I} {name : List ℕ} {suffix : Option (List ℕ)} (kept : KeepsOld old mid name suffix) where
  moments_kept : (new : DiskSeen I) {moment : Files → Files → Type 0} → Passes mid.files mid.left new.left moment → Passes old.files old.left new.left (WhileKeeping name suffix moment)
  moments_kept new passes before told files left =
      let mid_is = kept.files before told in
      elim (passes mid_is.0 mid_is.1 files left) [
        | inl was ↦ elim (kept.moments before told files was) [ inl first ↦ inl first | inr now ↦ inr (inl now) ]
        | inr now ↦ inr (inr (mid_is.0, mid_is.2, now))
      ]

  files_kept : {new : Option Files} {change : Files → Files → Type 0} → Changes mid.files new change → Changes old.files new (AfterKeeping name suffix change)
  files_kept changes before told =
      let mid_is = kept.files before told in
      let new_is = changes mid_is.0 mid_is.1 in
      (new_is.0, new_is.1, (mid_is.0, mid_is.2, new_is.2))

  streams_kept : {new : Files} → SameBut name mid.streams new → SameBut name old.streams new
  streams_kept same other apart = same other apart ∙ ap (λ (streams : Files). streams other) kept.streams

  pub writes_kept : {synced : Bool} {new : DiskSeen I} {output : List ℕ} → Changes mid.files new.files (IsPut name output (mid.streams name) (new.streams name))
      → SameBut name mid.streams new.streams → (synced ≡ true → Passes mid.files mid.left new.left (IsWriting name output)) → WritesOver old new name (replacing suffix synced) output
  writes_kept {synced} {new} {output} puts same passes = record {
    files = files_kept (subst (λ (streams : Files). Changes mid.files new.files (IsPut name output (streams name) (new.streams name))) kept.streams puts);
    streams = streams_kept same;
    moments = λ sync. moments_kept new (passes sync);
  }

  pub leaves_kept : {synced : Bool} {new : DiskSeen I} {output : List ℕ} → Changes mid.files new.files (AddsDrafts name) → SameBut name mid.streams new.streams
      → (synced ≡ true → Passes mid.files mid.left new.left (IsWriting name output)) → LeavesOver old new name (replacing suffix synced) output
  leaves_kept {synced} {new} adds same passes = record { files = files_kept adds; streams = streams_kept same; moments = λ sync. moments_kept new (passes sync) }

-- asked once the old bytes were kept
pub asked_kept : {D : Type 0} {seen : D → DiskState} {old mid : Option Files} {name bytes : List ℕ} (suffix : Option (List ℕ)) {had had_then : Option (List ℕ)}
    → Changes old mid (KeptAs name suffix) → had_then ≡ had → IsAsked seen name mid (λ before now. had_then ≡ None → HasDraft name bytes before now)
    → IsAsked seen name old (λ before now. had ≡ None → HasDraft name bytes before now)
asked_kept suffix kept same asked = record {
  disk = asked.disk;
  then = λ before told.
      let mid_is = kept before told in
      let now_is = asked.then mid_is.0 mid_is.1 in
      (now_is.0, now_is.1, λ none. now_is.2 (same ∙ none));
  as_read = asked.as_read;
}

-- No old bytes are kept.
module _ {I : Type 0} {old new : DiskSeen I} {name output : List ℕ} {suffix : Option (List ℕ)} {synced : Bool} (none : suffix ≡ None)
    (passes : synced ≡ true → Passes old.files old.left new.left (IsWriting name output)) where
  pub writes_plain : Changes old.files new.files (IsPut name output (old.streams name) (new.streams name)) → SameBut name old.streams new.streams
      → WritesOver old new name (replacing suffix synced) output
  writes_plain puts same =
      subst (λ suffix. WritesOver old new name (replacing suffix synced) output) (sym none) (writes_kept {old = old} {mid = old} kept_none {synced = synced} {new = new} puts same passes)

  pub leaves_plain : Changes old.files new.files (AddsDrafts name) → SameBut name old.streams new.streams → LeavesOver old new name (replacing suffix synced) output
  leaves_plain adds same =
      subst (λ suffix. LeavesOver old new name (replacing suffix synced) output) (sym none) (leaves_kept {old = old} {mid = old} kept_none {synced = synced} {new = new} adds same passes)

kept_if : (in_place over : Bool) (suffix : Option (List ℕ)) → (in_place || over) ≡ false → (if in_place then suffix else None) ≡ None
kept_if false over suffix none = refl
kept_if true over suffix none = absurd (true≢false none)

-- Only over the input old bytes are kept.
pub kept_over : (line : Line) → replaces_input line ≡ false → suffix_of line ≡ None
kept_over line none = kept_if line.in_place _ (option_map string_bytes line.backup) none

use Rattle.std.proofs.Common.{◌≡◌, ◌≢◌, ◌∙◌, ap, subst, inl, inr, List, ℕ, None, Some}
use Rattle.std.proofs.lemmas.Result.{IfErr-weaker}
use Rattle.teco_fs.specs.Disk.{Files, IsTargetOf}
use Rattle.teco_fs.specs.Writing.{IsWriting}
use Rattle.teco_store.specs.Slices.{bytes_in}
use Rattle.teco_fs.proofs.Writings.{adds_in, adds_same, are_told, asked_in, asked_on, is_error, puts_in, puts_on, some_weaker, unless_by, unless_weaker, whole_weaker}
use Rattle.teco_fs.proofs.output.write_output_by.Goals as goal

pub returns-in-Stream : goal.returns-in-Stream
returns-in-Stream g c = record {
  ok = let is : (g.D.Disk.seen c.args.disk.now).files ≢ None → (given : List ℕ) × ((g.D.Disk.seen c.args.disk.now).streams c.args.name.now ≡ Some given) =
      λ there. subst (IsTargetOf ((g.D.Disk.seen c.args.disk.now).streams) c.args.name.now) c.in-Stream.is (c.in_ok-target_of.ensures.target there) in
      whole_weaker c.append.result (λ appends. puts_on is (c.append.ensures.files ∙ c.target_of.ensures.still.files) appends) (rw c.target_of.ensures.still.streams at c.append.ensures.ok);
  unkept = c.append.ensures.unkept;
  asked = let is : (g.D.Disk.seen c.args.disk.now).files ≢ None → (given : List ℕ) × ((g.D.Disk.seen c.args.disk.now).streams c.args.name.now ≡ Some given) =
      λ there. subst (IsTargetOf ((g.D.Disk.seen c.args.disk.now).streams) c.args.name.now) c.in-Stream.is (c.in_ok-target_of.ensures.target there) in
      whole_weaker c.append.result (some_weaker c.args.read (λ read. asked_on c.args.name.now is c.target_of.ensures.still.files)) c.append.ensures.asked;
  changed = c.append.ensures.changed;
  err = unless_by c.append.result (adds_same c.args.name.now (c.append.ensures.files ∙ c.target_of.ensures.still.files));
  streams = λ other apart. c.append.ensures.others other apart ∙ ap (λ (streams : Files). streams other) c.target_of.ensures.still.streams;
  moments = λ synced before told files left. inl (c.target_of.ensures.still.moments files (c.append.ensures.moments files left));
  error = IfErr-weaker c.append.result ((g.D.Disk.seen c.append.new.disk).gave) _ (λ _ given. inl given) c.append.ensures.error;
}

pub returns-in-File : goal.returns-in-File
returns-in-File g c = record {
  ok = let is : (g.D.Disk.seen c.args.disk.now).files ≢ None → (c.as_str.result.now ≡ c.args.name.now) × ((g.D.Disk.seen c.args.disk.now).streams c.args.name.now ≡ None) = λ there.
      let it = subst (IsTargetOf ((g.D.Disk.seen c.args.disk.now).streams) c.args.name.now) c.in-File.is (c.in_ok-target_of.ensures.target there) in
      (c.as_str.ensures.value ∙ it.0, it.1) in
      whole_weaker c.replace_file.result (puts_in ((g.D.Disk.seen c.replace_file.new.disk).streams c.args.name.now) is c.target_of.ensures.still.files) c.replace_file.ensures.ok;
  unkept = c.replace_file.ensures.unkept;
  asked = let is : (g.D.Disk.seen c.args.disk.now).files ≢ None → c.as_str.result.now ≡ c.args.name.now = λ there.
      c.as_str.ensures.value ∙ (subst (IsTargetOf ((g.D.Disk.seen c.args.disk.now).streams) c.args.name.now) c.in-File.is (c.in_ok-target_of.ensures.target there)).0 in
      whole_weaker c.replace_file.result (some_weaker c.args.read (λ read. asked_in is c.target_of.ensures.still.files)) c.replace_file.ensures.asked;
  changed = c.replace_file.ensures.changed;
  err = let is : (g.D.Disk.seen c.args.disk.now).files ≢ None → c.as_str.result.now ≡ c.args.name.now = λ there.
      c.as_str.ensures.value ∙ (subst (IsTargetOf ((g.D.Disk.seen c.args.disk.now).streams) c.args.name.now) c.in-File.is (c.in_ok-target_of.ensures.target there)).0 in
      unless_weaker c.replace_file.result (adds_in is c.target_of.ensures.still.files) c.replace_file.ensures.err;
  streams = λ other apart. ap (λ (streams : Files). streams other) (c.replace_file.ensures.streams ∙ c.target_of.ensures.still.streams);
  moments = λ synced before told files left. let is = subst (IsTargetOf ((g.D.Disk.seen c.args.disk.now).streams) c.args.name.now) c.in-File.is (c.in_ok-target_of.ensures.target (are_told told)) in
      let here : c.as_str.result.now ≡ c.args.name.now = c.as_str.ensures.value ∙ is.0 in
      elim (c.replace_file.ensures.moments synced before (c.target_of.ensures.still.files ∙ told) files left) [
        | inl was ↦ inl (c.target_of.ensures.still.moments files was)
        | inr now ↦ inr (subst (λ name. IsWriting name (bytes_in c.args.output) before files) here now)
      ];
  error = c.replace_file.ensures.error;
}

pub returns-in_err-target_of : goal.returns-in_err-target_of
returns-in_err-target_of g c =
    let failed = is_error c.from_residual.result c.in_err-target_of.field-0.0 c.from_residual.ensures.1 in
    record {
      ok = rw failed tt;
      unkept = rw failed tt;
      asked = rw failed tt;
      changed = rw failed tt;
      err = rw failed (adds_same c.args.name.now c.target_of.ensures.still.files);
      streams = λ other apart. ap (λ (streams : Files). streams other) c.target_of.ensures.still.streams;
      moments = λ synced before told files left. inl (c.target_of.ensures.still.moments files left);
      error = rw failed (inl c.in_err-target_of.ensures.still.error);
    }

use Rattle.std.proofs.Common.{◌∙◌, inl, inr, refl, subst, ℕ}
use Rattle.teco_fs.specs.Disk.{Counts}
use Rattle.teco_fs.proofs.Writings.{changed_weaker, changes_after, passes_after, passes_discarded, unless_weaker, whole_by, whole_weaker}
use Rattle.teco_fs.proofs.output.take_name_as_read.Goals as goal

pub returns-in-Ok-true : goal.returns-in-Ok-true
returns-in-Ok-true g c = record {
  ok = whole_weaker c.take_name.result (changes_after c.is_as_read.ensures.still.files) c.take_name.ensures.ok;
  unkept = c.take_name.ensures.unkept;
  asked = whole_by c.take_name.result (record {
    disk = c.is_as_read.new.self;
    then = λ before told. (before, c.is_as_read.ensures.still.files ∙ told, λ other. refl);
    as_read = c.in-Ok-true.ensures.right c.in-Ok-true.field-0-test;
  });
  changed = changed_weaker c.take_name.result (λ none. absurd none) c.take_name.ensures.unchanged;
  err = unless_weaker c.take_name.result (changes_after c.is_as_read.ensures.still.files) c.take_name.ensures.err;
  removed = unless_weaker c.take_name.result (λ removed. elim removed [ inl gone ↦ inl (changes_after c.is_as_read.ensures.still.files gone) | inr stays ↦ inr stays ]) c.take_name.ensures.removed;
  moments = λ kept. passes_after c.is_as_read.ensures.still.files c.is_as_read.ensures.still.moments (c.take_name.ensures.moments (c.is_as_read.ensures.kept _ kept));
  still = record {
    streams = c.take_name.ensures.still.streams ∙ c.is_as_read.ensures.still.streams;
    count = subst (λ (n : ℕ). Counts c.take_name.result n ((g.D.Disk.seen c.take_name.new.disk).failures)) c.in-Ok-true.ensures.still.count c.take_name.ensures.still.count;
    error = c.take_name.ensures.still.error;
  };
}

pub returns-in-Ok-false : goal.returns-in-Ok-false
returns-in-Ok-false g c = record {
  ok = tt;
  unkept = tt;
  asked = tt;
  changed = c.discard.ensures.still.changed _ (c.in-Ok-false.ensures.told c.in-Ok-false.field-0-test);
  err = changes_after c.is_as_read.ensures.still.files c.discard.ensures.others;
  removed = elim c.discard.ensures.removed [ inl gone ↦ inl (changes_after c.is_as_read.ensures.still.files gone) | inr stays ↦ inr stays ];
  moments = λ kept. passes_after c.is_as_read.ensures.still.files c.is_as_read.ensures.still.moments (passes_discarded c.discard.ensures.moments);
  still = record {
    streams = c.discard.ensures.still.streams ∙ c.is_as_read.ensures.still.streams;
    count = c.discard.ensures.still.count ∙ c.in-Ok-false.ensures.still.count;
    error = tt;
  };
}

pub returns-in-Err : goal.returns-in-Err
returns-in-Err g c = record {
  ok = tt;
  unkept = tt;
  asked = tt;
  changed = tt;
  err = changes_after c.is_as_read.ensures.still.files c.discard-in-Err.ensures.others;
  removed = elim c.discard-in-Err.ensures.removed [ inl gone ↦ inl (changes_after c.is_as_read.ensures.still.files gone) | inr stays ↦ inr stays ];
  moments = λ kept. passes_after c.is_as_read.ensures.still.files c.is_as_read.ensures.still.moments (passes_discarded c.discard-in-Err.ensures.moments);
  still = record {
    streams = c.discard-in-Err.ensures.still.streams ∙ c.is_as_read.ensures.still.streams;
    count = c.discard-in-Err.ensures.still.count ∙ c.in-Err.ensures.still.count;
    error = c.discard-in-Err.ensures.still.errors _ c.in-Err.ensures.still.error;
  };
}

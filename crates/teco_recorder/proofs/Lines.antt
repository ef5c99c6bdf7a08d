-- A recorder writes the lines of all that it hears of.
use Rattle.std.proofs.Common.{◌≡◌, ◌++◌, ℕ, List, [], ◌∷◌, Bool, true, false, refl, sym, ap, ◌∙◌, subst, inl, inr, true≢false}
use Rattle.teco_fs.specs.Disk.{Appends, AppendsFront}
use Rattle.teco_fs.specs.State.{FilesChange}
use Rattle.teco_journal.specs.Events.{Event}
use Rattle.teco_journal.specs.Lines.{check_after, check_of, words_of, written}
use Rattle.teco_serve.specs.Heard.{Heard}
use Rattle.teco_serve.specs.Heard.Heard.{Did, Ran, Moved, Left, Finished}
use Rattle.teco_serve.specs.Hearing.{HearsAll, events_in}
use Rattle.teco_recorder.specs.Recording.{Extends, Recording, Records, RecordsAll, RecordsHeard, Rests, Settles, after_line, line_in}
use Rattle.teco_recorder.proofs.Files.{appends_both, appends_none, changes_as, changes_both, changes_from, changes_none, changes_to, front_first, front_none, front_second}

pub rests_self : (r : Recording) → Rests r r
rests_self r = record { files = refl; streams = refl; moments = λ files left. left; file = refl; broken = refl }

rests_both : (r s t : Recording) → Rests r s → Rests s t → Rests r t
rests_both r s t p q = record {
  files = q.files ∙ p.files;
  streams = q.streams ∙ p.streams;
  moments = λ files left. p.moments files (q.moments files left);
  file = q.file ∙ p.file;
  broken = q.broken ∙ p.broken;
}

-- nothing is written
rests_extends : (r s : Recording) → Rests r s → Extends r s []
rests_extends r s p = record {
  name = ap (λ f. f.name) p.file;
  whole = λ sound. changes_none _ r.disk.files s.disk.files (appends_none r.file.name) p.files;
  front = changes_none _ r.disk.files s.disk.files (front_none r.file.name) p.files;
  moments = λ before is files left. inl (p.moments files left);
  streams = p.streams;
}

-- nothing is written before
rests_before : (bytes : List ℕ) (r s t : Recording) → Rests r s → Extends s t bytes → Extends r t bytes
rests_before bytes r s t p q =
    let named : s.file.name ≡ r.file.name = ap (λ f. f.name) p.file in record {
      name = q.name ∙ named;
      whole = λ sound. changes_from r.disk.files s.disk.files t.disk.files p.files
          (subst (λ n. FilesChange s.disk t.disk (Appends n bytes)) named (q.whole sound));
      front = changes_from r.disk.files s.disk.files t.disk.files p.files
          (subst (λ n. FilesChange s.disk t.disk (AppendsFront n bytes)) named q.front);
      moments = λ before is files left. elim (q.moments before (p.files ∙ is) files left) [
        | inl old ↦ inl (p.moments files old)
        | inr at ↦ inr (subst (λ n. AppendsFront n bytes before files) named at)
      ];
      streams = q.streams ∙ p.streams;
    }

-- nothing is written after a line that could not be
rests_after : (xs ys : List ℕ) (r s t : Recording) → Extends r s xs → s.is_broken ≡ true → Rests s t → Extends r t (xs ++ ys)
rests_after xs ys r s t p broken q = record {
  name = ap (λ f. f.name) q.file ∙ p.name;
  whole = λ sound. absurd (true≢false (sym broken ∙ sym q.broken ∙ sound));
  front = changes_to r.disk.files s.disk.files t.disk.files q.files
      (changes_as r.disk.files s.disk.files (front_first r.file.name xs ys) p.front);
  moments = λ before is files left. elim (p.moments before is files (q.moments files left)) [
    | inl old ↦ inl old
    | inr at ↦ inr (front_first r.file.name xs ys before files at)
  ];
  streams = q.streams ∙ p.streams;
}

-- both are written, the first whole
extends_both : (xs ys : List ℕ) (r s t : Recording) → Extends r s xs → s.is_broken ≡ false → Extends s t ys → Extends r t (xs ++ ys)
extends_both xs ys r s t p sound q =
    let whole = p.whole sound in
    let again : FilesChange s.disk t.disk (AppendsFront r.file.name ys) =
    subst (λ n. FilesChange s.disk t.disk (AppendsFront n ys)) p.name q.front in record {
      name = q.name ∙ p.name;
      whole = λ good. changes_both r.disk.files s.disk.files t.disk.files (appends_both r.file.name xs ys) whole
          (subst (λ n. FilesChange s.disk t.disk (Appends n ys)) p.name (q.whole good));
      front = changes_both r.disk.files s.disk.files t.disk.files (front_second r.file.name xs ys) whole again;
      moments = λ before is files left.
          let mid = whole before is in
          elim (q.moments mid.0 mid.1 files left) [
            | inl old ↦ (elim (p.moments before is files old) [
              | inl first ↦ inl first
              | inr at ↦ inr (front_first r.file.name xs ys before files at)
            ])
            | inr at ↦ inr (front_second r.file.name xs ys before mid.0 files mid.2 (subst (λ n. AppendsFront n ys mid.0 files) p.name at))
          ];
      streams = q.streams ∙ p.streams;
    }

settled_extends : (bytes : List ℕ) (r s t : Recording) → Extends r s bytes → Settles s t → Extends r t bytes
settled_extends bytes r s t p q = record {
  name = ap (λ f. f.name) q.file ∙ p.name;
  whole = λ good. changes_to r.disk.files s.disk.files t.disk.files q.files (p.whole (q.sound good));
  front = changes_to r.disk.files s.disk.files t.disk.files q.files p.front;
  moments = λ before is files left. p.moments before is files (q.moments files left);
  streams = q.streams ∙ p.streams;
}

none_recorded : (r : Recording) → RecordsAll r r []
unfolding written check_after
none_recorded r = record {
  rests = λ broken. rests_self r;
  extends = λ sound. rests_extends r r (rests_self r);
  check = λ sound. refl;
  sound = λ sound. sound;
}

-- what was not heard as an event
other_heard : (r s t : Recording) (events : List Event) → Rests r s → RecordsAll s t events → RecordsAll r t events
other_heard r s t events p q =
    let same : s.file.check ≡ r.file.check = ap (λ f. f.check) p.file in record {
      rests = λ broken. rests_both r s t p (q.rests (p.broken ∙ broken));
      extends = λ sound. subst (λ c. Extends r t (written c events)) same
          (rests_before (written s.file.check events) r s t p (q.extends (p.broken ∙ sound)));
      check = λ sound. q.check sound ∙ ap (λ c. check_after c events) same;
      sound = λ sound. sym p.broken ∙ q.sound sound;
    }

-- what is so whether a line was written whole or not
by_case : {P : Type 0} → (b : Bool) → (b ≡ false → P) → (b ≡ true → P) → P
by_case false off on = off refl
by_case true off on = on refl

one_recorded : (r s t : Recording) (event : Event) (events : List Event) → Records r s event → RecordsAll s t events
    → RecordsAll r t (event ∷ events)
unfolding written check_after
one_recorded r s t event events p q = record {
  rests = λ broken. let first = p.rests broken in rests_both r s t first (q.rests (first.broken ∙ broken));
  extends = λ sound.
      let line = line_in r.file event in
      let first = p.extends sound in
      by_case s.is_broken
      (λ good. let after : s.file ≡ after_line r.file event = p.check good in
      let check : s.file.check ≡ check_of r.file.check (words_of event) = ap (λ f. f.check) after in
      extends_both line (written (check_of r.file.check (words_of event)) events) r s t first good
      (subst (λ c. Extends s t (written c events)) check (q.extends good)))
      (λ broken. rests_after line (written (check_of r.file.check (words_of event)) events) r s t first broken (q.rests broken));
  check = λ sound.
      let after : s.file ≡ after_line r.file event = p.check (q.sound sound) in
      q.check sound ∙ ap (λ f. check_after f.check events) after;
  sound = λ sound.
      let good = q.sound sound in
      by_case {P = r.is_broken ≡ false} r.is_broken (λ is. is)
      (λ broken. absurd (true≢false (sym broken ∙ sym (p.rests broken).broken ∙ good)));
}

heard_first : (r s t : Recording) (heard : Heard) (rest : List Heard) → RecordsHeard r s heard → RecordsAll s t (events_in rest)
    → RecordsAll r t (events_in (heard ∷ rest))
heard_first r s t (Did event) rest p q = one_recorded r s t event (events_in rest) p q
heard_first r s t (Ran text begins answered bounds session) rest p q = other_heard r s t (events_in rest) p q
heard_first r s t (Moved begins code session) rest p q = other_heard r s t (events_in rest) p q
heard_first r s t (Left bytes broken_off) rest p q = other_heard r s t (events_in rest) p q
heard_first r s t (Finished line input fate) rest p q = other_heard r s t (events_in rest) p q

-- Who writes a line for each event that it hears of has written, in order, the lines of all of them.
pub lines_of_all : (L : Type 0) (hears : L → L → Heard → Type 0) (seen : L → Recording)
    → ((old new : L) (heard : Heard) → hears old new heard → RecordsHeard (seen old) (seen new) heard)
    → (old new : L) (heard : List Heard) → HearsAll hears old heard new
    → RecordsAll (seen old) (seen new) (events_in heard)
lines_of_all L hears seen records old new [] h = subst (λ l. RecordsAll (seen old) (seen l) []) (sym h) (none_recorded (seen old))
lines_of_all L hears seen records old new (heard ∷ rest) h =
    heard_first (seen old) (seen h.0) (seen new) heard rest (records old h.0 heard h.1)
    (lines_of_all L hears seen records h.0 new rest h.2)

pub settled_all : (r s t : Recording) (events : List Event) → RecordsAll r s events → Settles s t → RecordsAll r t events
settled_all r s t events p q = record {
  rests = λ broken.
      let first = p.rests broken in record {
        files = q.files ∙ first.files;
        streams = q.streams ∙ first.streams;
        moments = λ files left. first.moments files (q.moments files left);
        file = q.file ∙ first.file;
        broken = q.broken (first.broken ∙ broken) ∙ sym broken;
      };
  extends = λ sound. settled_extends (written r.file.check events) r s t (p.extends sound) q;
  check = λ good. ap (λ f. f.check) q.file ∙ p.check (q.sound good);
  sound = λ good. p.sound (q.sound good);
}

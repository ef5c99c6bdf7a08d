-- What one hearing leaves of a recorder.
use Rattle.std.proofs.Common.{◌≡◌, List, [], ◌∷◌, true, false, refl, sym, ap, ◌∙◌, true≢false}
use Rattle.teco_fs.specs.Disk.{Appends, AppendsFront}
use Rattle.teco_fs.specs.State.{FilesChange, FilesPass}
use Rattle.teco_journal.specs.Events.{Event}
use Rattle.teco_serve.specs.Heard.{Heard}
use Rattle.teco_serve.specs.Hearing.{HearsAll}
use Rattle.teco_recorder.specs.Recording.{Recording, Records, Rests, after_line, line_in}
use Rattle.teco_recorder.proofs.Beginnings.{appends_front}

pub failed_recorded : (old new : Recording) (event : Event) → old.is_broken ≡ false → new.is_broken ≡ true → new.file.name ≡ old.file.name
    → FilesChange old.disk new.disk (AppendsFront old.file.name (line_in old.file event))
    → FilesPass old.disk new.disk (AppendsFront old.file.name (line_in old.file event)) → new.disk.streams ≡ old.disk.streams → Records old new event
failed_recorded old new event sound broken name front moments streams = record {
  rests = λ is. absurd (true≢false (sym is ∙ sound));
  extends = λ is. record {
    name = name;
    whole = λ good. absurd (true≢false (sym broken ∙ good));
    front = front;
    moments = moments;
    streams = streams;
  };
  check = λ good. absurd (true≢false (sym broken ∙ good));
}

pub written_recorded : (old new : Recording) (event : Event) → old.is_broken ≡ false → new.file ≡ after_line old.file event
    → FilesChange old.disk new.disk (Appends old.file.name (line_in old.file event))
    → FilesPass old.disk new.disk (AppendsFront old.file.name (line_in old.file event)) → new.disk.streams ≡ old.disk.streams → Records old new event
written_recorded old new event sound after whole moments streams = record {
  rests = λ is. absurd (true≢false (sym is ∙ sound));
  extends = λ is. record {
    name = ap (λ f. f.name) after;
    whole = λ good. whole;
    front = appends_front old.disk.files new.disk.files new.disk.files old.file.name (line_in old.file event) whole refl;
    moments = moments;
    streams = streams;
  };
  check = λ good. after;
}

pub broken_recorded : (old new : Recording) (event : Event) → old.is_broken ≡ true → Rests old new → Records old new event
broken_recorded old new event broken rests = record {
  rests = λ is. rests;
  extends = λ is. absurd (true≢false (sym broken ∙ is));
  check = λ good. absurd (true≢false (sym broken ∙ sym rests.broken ∙ good));
}

-- What each hearing leaves as it is all of them do.
pub same_all : (L : Type 0) (hears : L → L → Heard → Type 0) (N : Type 0) (name : L → N)
    → ((old new : L) (heard : Heard) → hears old new heard → name new ≡ name old)
    → (old new : L) (heard : List Heard) → HearsAll hears old heard new → name new ≡ name old
same_all L hears N name keeps old new [] h = ap name h
same_all L hears N name keeps old new (heard ∷ rest) h =
    same_all L hears N name keeps h.0 new rest h.2 ∙ keeps old h.0 heard h.1

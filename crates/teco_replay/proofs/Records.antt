-- Records of a history, one more at a time.
use Rattle.std.proofs.Common.{◌≡◌, ℕ, ◌+◌, ◌<◌, ◌≤◌, List, [], ◌∷◌, ◌++◌, length, take, map, replicate, get_or, sym, ap, ◌∙◌, subst, append_assoc}
use Rattle.std.proofs.lemmas.List.{map-append, replicate_more, take_all, take_more}
use Rattle.teco_session.specs.History.{NotedString}
use Rattle.teco_journal.specs.declared.record.Record.{Record}
use Rattle.teco_journal.specs.Events.{Event, undid, event_of, events_of, HasRecord, HaveRecords}
use Rattle.teco_replay.specs.Pruning.{run_event}

pub both_have : (xs ys : List Event) → HaveRecords xs → HaveRecords ys → HaveRecords (xs ++ ys)
both_have [] ys p q = q
both_have (x ∷ xs) ys p q = (p.0, both_have xs ys p.1 q)

pub one_more_fits : (xs : List Record) (r : Record) → HaveRecords (events_of xs) → HasRecord (event_of r) → HaveRecords (events_of (xs ++ r ∷ []))
one_more_fits xs r p q = subst HaveRecords (sym (map-append event_of xs (r ∷ []))) (both_have (events_of xs) (event_of r ∷ []) p (q, tt))

pub one_more_told : (xs : List Record) (r : Record) (notes : List NotedString) (i : ℕ) (other : NotedString) → events_of xs ≡ map run_event (take i notes)
    → event_of r ≡ run_event (get_or notes i other) → i < length notes → events_of (xs ++ r ∷ []) ≡ map run_event (take (i + 1) notes)
one_more_told xs r notes i other told is less =
    map-append event_of xs (r ∷ []) ∙ ap (λ (es : List Event). es ++ event_of r ∷ []) told ∙ ap (λ (e : Event). map run_event (take i notes) ++ e ∷ []) is
    ∙ sym (map-append run_event (take i notes) (get_or notes i other ∷ [])) ∙ ap (map run_event) (sym (take_more notes i other less))

pub all_told : (xs : List Record) (notes : List NotedString) (i : ℕ) → events_of xs ≡ map run_event (take i notes) → length notes ≤ i → events_of xs ≡ map run_event notes
all_told xs notes i told past = told ∙ ap (map run_event) (take_all i notes past)

pub one_undo_more : (xs : List Record) (r : Record) (es : List Event) (n : ℕ) → events_of xs ≡ es ++ replicate n undid → event_of r ≡ undid
    → events_of (xs ++ r ∷ []) ≡ es ++ replicate (n + 1) undid
one_undo_more xs r es n told is =
    map-append event_of xs (r ∷ []) ∙ ap (λ (fs : List Event). fs ++ event_of r ∷ []) told ∙ ap (λ (e : Event). (es ++ replicate n undid) ++ e ∷ []) is
    ∙ append_assoc es (replicate n undid) (undid ∷ []) ∙ ap (λ (fs : List Event). es ++ fs) (replicate_more n undid)

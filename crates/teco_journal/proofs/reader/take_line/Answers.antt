use Rattle.std.proofs.Common.{◌≡◌, ℕ, ◌+◌, List, [], ◌∷◌, ◌++◌, length, Option, refl, ap, subst, ◌∙◌}
use Rattle.std.specs.Prelude.{IfSome}
use Rattle.teco_journal.specs.declared.record.Record.{Record}
use Rattle.teco_journal.specs.declared.reader.Ending.{Ending}
use Rattle.teco_journal.specs.Events.{Event, HasRecord, event_of, events_of}
use Rattle.teco_journal.specs.Lines.{words_of, check_of, line_of}
use Rattle.teco_journal.specs.Progress.{Progress}
use Rattle.teco_journal.proofs.reader.take_line.Goals as goal

events_more : (xs : List Record) (x : Record) → events_of (xs ++ x ∷ []) ≡ events_of xs ++ event_of x ∷ []
events_more [] x = refl
events_more (y ∷ xs) x = ap (λ (l : List Event). event_of y ∷ l) (events_more xs x)

progress_is : (es fs : List Event) (k l : List ℕ) (m n : ℕ) (ending : Ending) → es ≡ fs → k ≡ l → m ≡ n
    → (let old : Progress = record { events = es; check = k; good = m; ending = ending } in
    let new : Progress = record { events = fs; check = l; good = n; ending = ending } in old ≡ new)
progress_is es fs k l m n ending e f g = cc

pub returns : goal.returns
returns c =
    let last = c.args.journal.now.check in
    let told = c.in-Some-2.record in
    let fits : HasRecord (event_of c.in-Some-2.record) =
    subst (λ (o : Option Record). IfSome o (λ kept. HasRecord (event_of kept))) c.in-Some-2.is c.in_ok-record.ensures.fits in
    let words : c.in-Some.found.0.now ≡ words_of (event_of c.in-Some-2.record) =
    subst (λ (o : Option Record). IfSome o (λ kept. c.in-Some.found.0.now ≡ words_of (event_of kept))) c.in-Some-2.is c.in_ok-record.ensures.some in
    record {
      takes = λ none. (
        event_of told,
        fits,
        c.in-Some.ensures.0 ∙ ap (line_of last) words,
        progress_is (events_of c.push.new.self.items) (events_of c.args.journal.now.records.items ++ event_of told ∷ []) c.in-Some.found.1 (check_of last (words_of (event_of told)))
            (c.args.journal.now.good + length c.args.line.now) (c.args.journal.now.good + length c.args.line.now) c.args.journal.now.ending
            (ap events_of c.in_ok-push.ensures.items ∙ events_more c.args.journal.now.records.items told) (c.in-Some.ensures.1 ∙ ap (check_of last) words) refl,
      );
      stops = tt;
    }

use Rattle.std.proofs.Common.{◌≡◌, ◌+◌, ◌-◌, ℕ, List, length, refl, sym, ap, ◌∙◌, subst}
use Rattle.teco_journal.specs.Events.{Event, events_of}
use Rattle.teco_journal.specs.Heads.{Beginning, first_check, beginning_in}
use Rattle.teco_journal.specs.Lines.{written}
use Rattle.teco_journal.specs.Reading.{EndsAs, Tells}
use Rattle.teco_journal.proofs.Files.{file_end, file_front}
use Rattle.teco_journal.proofs.session_file.read_session.Goals as goal

pub returns-clause-front : goal.returns-clause-front
returns-clause-front c =
    let rest = c.in_ok-head.head.rest.now in
    let beginning : Beginning = beginning_in c.in_ok-head.head.start in
    let es : List Event = events_of c.in_ok-journal.journal.records.items in
    let good = c.in_ok-journal.journal.good in
    let tells : Tells (first_check beginning) rest es = subst (λ (l : List ℕ). Tells l rest es) c.in_ok-head.ensures.check c.in_ok-journal.ensures.tells in
    let size : good ≡ length (written (first_check beginning) es) = c.in_ok-journal.ensures.good ∙ ap (λ (l : List ℕ). length (written l es)) c.in_ok-head.ensures.check in
    file_front c.args.bytes.now rest beginning es good (good + (length c.args.bytes.now - length rest)) c.in_ok-head.ensures.head tells size refl

pub returns-clause-ending : goal.returns-clause-ending
returns-clause-ending c =
    let rest = c.in_ok-head.head.rest.now in
    let beginning : Beginning = beginning_in c.in_ok-head.head.start in
    let es : List Event = events_of c.in_ok-journal.journal.records.items in
    let good = c.in_ok-journal.journal.good in
    let tells : Tells (first_check beginning) rest es = subst (λ (l : List ℕ). Tells l rest es) c.in_ok-head.ensures.check c.in_ok-journal.ensures.tells in
    let size : good ≡ length (written (first_check beginning) es) = c.in_ok-journal.ensures.good ∙ ap (λ (l : List ℕ). length (written l es)) c.in_ok-head.ensures.check in
    subst (λ (l : List ℕ). EndsAs c.in_ok-journal.journal.check l c.in_ok-journal.journal.ending)
    (sym (file_end c.args.bytes.now rest beginning es good (good + (length c.args.bytes.now - length rest)) c.in_ok-head.ensures.head tells size refl))
    c.in_ok-journal.ensures.ending

use Rattle.std.proofs.Common.{◌≡◌, ℕ, ◌+◌, ◌<◌, ◌≤◌, List, ◌∷◌, length, drop, get_or, sym, ap, ◌∙◌, subst}
use Rattle.std.proofs.lemmas.List.{drop_more, drop_all}
use Rattle.teco_session.specs.History.{History}
use Rattle.teco_session.specs.Kept.{history_of}
use Rattle.teco_journal.specs.declared.record.Record.{Record}
use Rattle.teco_journal.specs.Events.{event_of, events_of}
use Rattle.teco_replay.specs.Told.{Happens, AllHappen, after_event, after_events}
use Rattle.teco_replay.proofs.replaying.replay.Goals as goal

opened : (xs : List Record) (i : ℕ) (x : Record) → i < length xs → x ≡ get_or xs i x → events_of (drop i xs) ≡ event_of x ∷ events_of (drop (i + 1) xs)
opened xs i x less is = ap events_of (drop_more xs i x less ∙ ap (λ y. y ∷ drop (i + 1) xs) (sym is))

told_more : (h k : History) (xs : List Record) (i : ℕ) (x : Record) → i < length xs → x ≡ get_or xs i x → k ≡ after_event h (event_of x)
    → after_events k (events_of (drop (i + 1) xs)) ≡ after_events h (events_of (drop i xs))
unfolding after_events
told_more h k xs i x less is e = ap (λ y. after_events y (events_of (drop (i + 1) xs))) e ∙ sym (ap (after_events h) (opened xs i x less is))

happens_here : (h : History) (xs : List Record) (i : ℕ) (x : Record) → i < length xs → x ≡ get_or xs i x → AllHappen h (events_of (drop i xs))
    → Happens h (event_of x) × AllHappen (after_event h (event_of x)) (events_of (drop (i + 1) xs))
unfolding AllHappen
happens_here h xs i x less is all = subst (AllHappen h) (opened xs i x less is) all

all_told : (k goal : History) (xs : List Record) (i : ℕ) → length xs ≤ i → after_events k (events_of (drop i xs)) ≡ goal → k ≡ goal
unfolding after_events
all_told k goal xs i past e = sym (ap (λ ys. after_events k (events_of ys)) (drop_all i xs past)) ∙ e

pub loop-told-preserved : goal.loop-told-preserved
loop-told-preserved g c =
    let i = c.loop-told.told-index in
    let xs = c.args.records.now in
    let x = c.told-item.result in
    let h = history_of c.loop-told.session in
    let told = c.in_default.ensures.told in
    record {
      rest = told_more h _ xs i x c.loop-told-test.true c.told-item.is told ∙ c.loop-told.invariant.rest;
      possible = λ all. subst (λ y. AllHappen y (events_of (drop (i + 1) xs))) (sym told) (happens_here h xs i x c.loop-told-test.true c.told-item.is (c.loop-told.invariant.possible all)).1;
    }

pub returns-in-Err-clause-possible : goal.returns-in-Err-clause-possible
returns-in-Err-clause-possible g c =
    λ all is. c.in-Err.ensures.possible (happens_here (history_of c.loop-told.session) c.args.records.now c.loop-told.told-index c.told-item.result c.loop-told-test.true c.told-item.is (c.loop-told.invariant.possible all)).0 is

pub returns-clause-told : goal.returns-clause-told
returns-clause-told g c = all_told _ _ c.args.records.now c.loop-told.told-index c.loop-told-test.false c.loop-told.invariant.rest

use Rattle.std.proofs.Common.{◌≡◌, ℕ, zero, suc, ◌<◌, List, [], false, true, refl, sym, ap, subst, arith}
use Rattle.std.proofs.lemmas.Bool.{false≢true}
use Rattle.teco_session.specs.Kept.{history_of}
use Rattle.teco_session.specs.Step.{Step, RunStep, UndoStep, RedoStep, RewindStep}
use Rattle.teco_session.specs.declared.request.Request.{Request}
use Rattle.teco_session.specs.declared.request.Answer.TheVariants.{Undone, NothingToUndo, Redone, NothingToRedo, Rewound}
use Rattle.teco_io.proofs.Shown.{Shows-nil}
use Rattle.teco_session.proofs.session.Session.answer.Goals as goal

at_first : (n : ℕ) → (0 < n → false ≡ true) → n ≡ 0
at_first zero none = refl
at_first (suc n) none = absurd (false≢true (none (omega arith)))

pub returns-in-Run : goal.returns-in-Run
returns-in-Run g c =
    let run = c.run.ensures.step in
    let old = history_of c.args.self.now in
    let new = history_of c.run.new.self in
    let step = subst (λ (text : List ℕ). RunStep c.args.limit old text c.run.result run.0 new) c.as_slice.ensures.value run.1 in
    (run.0, subst (λ (q : Request). Step c.args.limit old q (record { answer = c.run.result; typed = run.0 }) new) (sym c.in-Run.is) step, run.2)

pub returns-in-Ok : goal.returns-in-Ok
returns-in-Ok g c =
    let old = history_of c.args.self.now in
    let new = history_of c.undo.new.self in
    let step : UndoStep old Undone [] new = (c.in-Ok.ensures.offers.0 refl, refl, c.in-Ok.ensures.history) in
    ([], subst (λ (q : Request). Step c.args.limit old q (record { answer = Undone; typed = [] }) new) (sym c.in-Undo.is) step, Shows-nil _)

pub returns-in-Err : goal.returns-in-Err
returns-in-Err g c =
    let old = history_of c.args.self.now in
    let new = history_of c.undo.new.self in
    let step : UndoStep old NothingToUndo [] new = (at_first _ c.in-Err.ensures.offers.1, refl, ap history_of c.in-Err.ensures.err) in
    ([], subst (λ (q : Request). Step c.args.limit old q (record { answer = NothingToUndo; typed = [] }) new) (sym c.in-Undo.is) step, Shows-nil _)

pub returns-in-Ok-redo : goal.returns-in-Ok-redo
returns-in-Ok-redo g c =
    let old = history_of c.args.self.now in
    let new = history_of c.redo.new.self in
    let step : RedoStep old Redone [] new = (c.in-Ok-redo.ensures.offers.0 refl, refl, c.in-Ok-redo.ensures.history) in
    ([], subst (λ (q : Request). Step c.args.limit old q (record { answer = Redone; typed = [] }) new) (sym c.in-Redo.is) step, Shows-nil _)

pub returns-in-Err-redo : goal.returns-in-Err-redo
returns-in-Err-redo g c =
    let old = history_of c.args.self.now in
    let new = history_of c.redo.new.self in
    let step : RedoStep old NothingToRedo [] new = (c.in-Err-redo.ensures.err.1, refl, ap history_of c.in-Err-redo.ensures.err.0) in
    ([], subst (λ (q : Request). Step c.args.limit old q (record { answer = NothingToRedo; typed = [] }) new) (sym c.in-Redo.is) step, Shows-nil _)

pub returns-in-Ok-rewind : goal.returns-in-Ok-rewind
returns-in-Ok-rewind g c =
    let old = history_of c.args.self.now in
    let new = history_of c.rewind.new.self in
    let step : RewindStep c.in-Rewind.n old Rewound [] new = (c.in-Ok-rewind.ensures.offers.0 refl, refl, c.in-Ok-rewind.ensures.history) in
    ([], subst (λ (q : Request). Step c.args.limit old q (record { answer = Rewound; typed = [] }) new) (sym c.in-Rewind.is) step, Shows-nil _)

pub returns-in-Err-rewind : goal.returns-in-Err-rewind
returns-in-Err-rewind g c =
    let old = history_of c.args.self.now in
    let new = history_of c.rewind.new.self in
    let step : RewindStep c.in-Rewind.n old NothingToUndo [] new = (at_first _ c.in-Err-rewind.ensures.offers.1, refl, ap history_of c.in-Err-rewind.ensures.err) in
    ([], subst (λ (q : Request). Step c.args.limit old q (record { answer = NothingToUndo; typed = [] }) new) (sym c.in-Rewind.is) step, Shows-nil _)

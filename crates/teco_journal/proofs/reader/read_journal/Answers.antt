use Rattle.std.proofs.Common.{◌≡◌, ℕ, ◌+◌, ◌-◌, ◌<◌, ◌≤◌, false, List, length, take, drop, get_or, Option, None, refl, sym, ap, subst, ◌∙◌, arith, eqb}
use Rattle.std.specs.Prelude.{IfSome}
use Rattle.teco_source.proofs.Bytes.{differs}
use Rattle.teco_journal.specs.declared.reader.Ending.{Ending}
use Rattle.teco_journal.specs.declared.reader.Ending.TheVariants.{Whole}
use Rattle.teco_journal.specs.declared.reader.Journal.{Journal}
use Rattle.teco_journal.specs.Events.{events_of}
use Rattle.teco_journal.specs.Reading.{EndsAs, Stops, Tells}
use Rattle.teco_journal.specs.Progress.{Progress, progress}
use Rattle.teco_journal.proofs.Progress.{none_yet, more_byte, more_line, stop_tells, stop_ends, all_told}
use Rattle.teco_journal.proofs.reader.read_journal.Goals as goal
use Rattle.teco_journal.proofs.reader.read_journal.Goals.{then-journal-bytes, else-journal-bytes}

pub loop-at-init : goal.loop-at-init
loop-at-init c = record { come = none_yet c.args.last c.args.bytes.now c.new.result.items Whole c.new.ensures.items; ending = refl }

pub loop-at-preserved-then-byte-ne10 : goal.loop-at-preserved-then-byte-ne10
loop-at-preserved-then-byte-ne10 c =
    let less : c.loop-at.at < length c.args.bytes.now = omega arith in
    let other : eqb (get_or c.args.bytes.now c.loop-at.at 0) 10 ≡ false = differs (get_or c.args.bytes.now c.loop-at.at 0) 10 (λ e. absurd (omega arith)) in
    record { come = more_byte c.args.last c.args.bytes.now (progress c.loop-at.journal) c.loop-at.at c.loop-at.invariant.come less other; ending = c.loop-at.invariant.ending }

pub loop-at-preserved : goal.loop-at-preserved
loop-at-preserved c =
    let less : c.loop-at.at < length c.args.bytes.now = omega arith in
    let line : List ℕ = take (c.loop-at.at + 1 - c.loop-at.journal.good) (drop c.loop-at.journal.good c.args.bytes.now) in
    let none : c.in_ok-reason.field-0 ≡ None = cc in
    let takes = c.in_ok-reason.ensures.takes none in
    record {
      come = more_line c.args.last c.args.bytes.now line (progress c.loop-at.journal) (progress c.take_line.new.journal) c.loop-at.at c.loop-at.invariant.come less refl takes;
      ending = ap (λ (p : Progress). p.ending) takes.3 ∙ c.loop-at.invariant.ending;
    }

pub returns-in-Some-clause-tells : goal.returns-in-Some-clause-tells
returns-in-Some-clause-tells c =
    let less : c.loop-at.at < length c.args.bytes.now = omega arith in
    let end : get_or c.args.bytes.now c.loop-at.at 0 ≡ 10 = omega arith in
    let line : List ℕ = take (c.loop-at.at + 1 - c.loop-at.journal.good) (drop c.loop-at.journal.good c.args.bytes.now) in
    let stop = subst (λ (o : Option Ending). IfSome o (λ reason. (c.take_line.new.journal ≡ c.loop-at.journal) × Stops c.loop-at.journal.check line reason)) c.in-Some.is c.in_ok-reason.ensures.stops in
    subst (λ (j : Journal). Tells c.args.last c.args.bytes.now (events_of j.records.items)) (sym stop.0)
    (stop_tells c.args.last c.args.bytes.now line (progress c.loop-at.journal) c.loop-at.at c.in-Some.reason c.loop-at.invariant.come less end refl stop.1)

pub returns-in-Some-clause-ending : goal.returns-in-Some-clause-ending
returns-in-Some-clause-ending c =
    let less : c.loop-at.at < length c.args.bytes.now = omega arith in
    let end : get_or c.args.bytes.now c.loop-at.at 0 ≡ 10 = omega arith in
    let line : List ℕ = take (c.loop-at.at + 1 - c.loop-at.journal.good) (drop c.loop-at.journal.good c.args.bytes.now) in
    let stop = subst (λ (o : Option Ending). IfSome o (λ reason. (c.take_line.new.journal ≡ c.loop-at.journal) × Stops c.loop-at.journal.check line reason)) c.in-Some.is c.in_ok-reason.ensures.stops in
    subst (λ (j : Journal). EndsAs j.check (drop j.good c.args.bytes.now) c.in-Some.reason) (sym stop.0)
    (stop_ends c.args.last c.args.bytes.now line (progress c.loop-at.journal) c.loop-at.at c.in-Some.reason c.loop-at.invariant.come less end refl stop.1)

pub returns-clause-tells : goal.returns-clause-tells
returns-clause-tells c =
    let past : length c.args.bytes.now ≤ c.loop-at.at = omega arith in
    let all = all_told c.args.last c.args.bytes.now (progress c.loop-at.journal) c.loop-at.at c.loop-at.invariant.come past in
    elim c.if-journal-bytes.branch [
      | then-journal-bytes w ↦ subst (λ (j : Journal). Tells c.args.last c.args.bytes.now (events_of j.records.items)) (sym w.journal-is) all
      | else-journal-bytes w ↦ subst (λ (j : Journal). Tells c.args.last c.args.bytes.now (events_of j.records.items)) (sym w.journal-is) all
    ]

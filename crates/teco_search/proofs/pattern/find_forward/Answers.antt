use Rattle.std.proofs.Common.{◌≡◌, ◌++◌, ◌<◌, Option, Some, None, length, subst, w32, arith}
use Rattle.std.proofs.lemmas.Grind.{common_steps}
use Rattle.std.proofs.lemmas.Int.{to_z-of_z}
use Rattle.teco_search.specs.Occurrence.{Sought, Span, occurrence}
use Rattle.teco_search.proofs.Begins.{ready_some}
use Rattle.teco_search.proofs.Numbered.{occurrence_forward, occurrence_within, occurrence_next}
use Rattle.teco_search.proofs.pattern.find_forward.Goals as goal

pub returns-in-Ok : goal.returns-in-Ok
returns-in-Ok g c =
    let same = to_z-of_z w32 c.args.n c.ranges.n in
    let text = c.args.halves.0.now ++ c.args.halves.1.now in
    let some : 0 < length c.args.pattern.now.elements = subst (λ (s : Sought). 0 < length s.elements) c.forward.ensures.sought (ready_some c.forward.result c.forward.ensures.ready) in
    let found : Option Span = Some c.in-Ok.found in
    let told = rw c.in-Ok.is at c.in_ok-told.ensures.found in
    let value : found ≡ occurrence c.args.pattern.now text c.args.from c.args.n =
    rw (told, c.forward.ensures.sought, c.new-text.ensures)
    (occurrence_forward c.args.pattern.now text c.args.from c.args.n c.unsigned_abs.result c.requires.some (rw same at c.unsigned_abs.ensures.value)) in
    record {
      value = value;
      within = occurrence_within c.args.pattern.now text c.args.from some c.args.n found value;
      next = occurrence_next c.args.pattern.now text c.args.from some c.args.n found value;
      fewer = tt;
    }

pub returns-in-Err-clause-value : goal.returns-in-Err-clause-value
returns-in-Err-clause-value g c =
    let same = to_z-of_z w32 c.args.n c.ranges.n in
    let text = c.args.halves.0.now ++ c.args.halves.1.now in
    let told = rw c.in-Err.is at c.in_ok-told.ensures.found in
    rw (told, c.forward.ensures.sought, c.new-text.ensures)
    (occurrence_forward c.args.pattern.now text c.args.from c.args.n c.unsigned_abs.result c.requires.some (rw same at c.unsigned_abs.ensures.value))

pub returns-in-Err-clause-next : goal.returns-in-Err-clause-next
returns-in-Err-clause-next g c =
    let text = c.args.halves.0.now ++ c.args.halves.1.now in
    let some : 0 < length c.args.pattern.now.elements = subst (λ (s : Sought). 0 < length s.elements) c.forward.ensures.sought (ready_some c.forward.result c.forward.ensures.ready) in
    occurrence_next c.args.pattern.now text c.args.from some c.args.n None (returns-in-Err-clause-value g c)

pub nth_forward-requires-clause-ready : goal.nth_forward-requires-clause-ready
nth_forward-requires-clause-ready g c = grind (arith, common_steps)

pub nth_forward-requires-clause-within : goal.nth_forward-requires-clause-within
nth_forward-requires-clause-within g c = grind (arith, common_steps)

pub nth_forward-requires-clause-some : goal.nth_forward-requires-clause-some
nth_forward-requires-clause-some g c = grind (arith, common_steps)

pub overflow_cast-result : goal.overflow_cast-result
overflow_cast-result g c = grind (arith, common_steps)

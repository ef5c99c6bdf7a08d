use Rattle.std.proofs.Common.{◌≡◌, None, Ok, false, sym, ◌∙◌, ap, subst}
use Rattle.std.specs.Prelude.{IfOk, IfSome}
use Rattle.teco_exec.specs.Telling.{IsLastPlace, KnowsLast}
use Rattle.teco_exec.specs.Watching.{Knows}
use Rattle.teco_session.specs.History.{present}
use Rattle.teco_session.specs.Kept.{history_of}
use Rattle.teco_exec.proofs.Continuations.{unbroken}
use Rattle.teco_debugger.specs.Walk.{KeptWalk, base, lacks_memory, meant}
use Rattle.teco_debugger.proofs.WalkEnds.{all_typed, known, well_ended}
use Rattle.teco_debugger.proofs.walk.Walk.look_on.Goals as goal

pub returns-clause-told : goal.returns-clause-told
returns-clause-told c =
    let was = c.in_ok-place.was in
    let knows = known (KnowsLast (Knows c.run_with-answer.result.1) (present (history_of c.args.session.now)) c.as_slice.result.now) c.run_with-answer.result.0 c.in-Ended.outcome c.in-Ended.is (c.run_with-answer.ensures.told c.new-watch.ensures) in
    let told = (c.into_place.ensures.told (present (history_of c.args.session.now)) c.as_slice.result.now c.in-Ended.outcome knows).exactly in
    (λ none. told.0 (was ∙ ap Ok none), λ none. let same : Ok c.in_ok-place.place ≡ Ok None = sym was ∙ told.1 none in cc)

pub returns-clause-place : goal.returns-clause-place
returns-clause-place c =
    let w = c.args.self.now in
    let text : c.as_slice.result.now ≡ w.text = c.as_slice.ensures.value ∙ ap (λ (v : KeptWalk). v.text) c.self.view_is in
    let k = c.in-Ended.outcome.steps in
    let knows = known (KnowsLast (Knows c.run_with-answer.result.1) (present (history_of c.args.session.now)) c.as_slice.result.now) c.run_with-answer.result.0 c.in-Ended.outcome c.in-Ended.is (c.run_with-answer.ensures.told c.new-watch.ensures) in
    let told = (c.into_place.ensures.told (present (history_of c.args.session.now)) c.as_slice.result.now c.in-Ended.outcome knows).place in
    subst (λ r. IfOk r (λ told. IfSome told (λ p. IsLastPlace (base w) w.text k p))) c.in_ok-place.was
    (subst (λ t. IfOk c.into_place.result (λ told. IfSome told (λ p. IsLastPlace (base w) t k p))) text
    (subst (λ s. IfOk c.into_place.result (λ told. IfSome told (λ p. IsLastPlace s c.as_slice.result.now k p))) c.requires told))

pub returns-clause-steps : goal.returns-clause-steps
returns-clause-steps c =
    let w = c.args.self.now in
    let text : c.as_slice.result.now ≡ w.text = c.as_slice.ensures.value ∙ ap (λ (v : KeptWalk). v.text) c.self.view_is in
    let has : lacks_memory c.in-Ended.outcome.code ≡ false = sym c.lacks_memory.ensures ∙ c.if-lacks_memory.false in
    let ran = (unbroken c.args.n _ _ c.run_with-answer.ensures.run).step in
    (well_ended c.args.n (history_of c.args.session.now) _ w.text c.as_slice.result.now c.run_with-answer.result.0 c.in-Ended.outcome _ text c.in-Ended.is ran.1 has).steps
    ∙ ap (λ s. (meant s w.text c.args.n).steps) c.requires

pub returns-clause-code : goal.returns-clause-code
returns-clause-code c =
    let w = c.args.self.now in
    let text : c.as_slice.result.now ≡ w.text = c.as_slice.ensures.value ∙ ap (λ (v : KeptWalk). v.text) c.self.view_is in
    let has : lacks_memory c.in-Ended.outcome.code ≡ false = sym c.lacks_memory.ensures ∙ c.if-lacks_memory.false in
    let ran = (unbroken c.args.n _ _ c.run_with-answer.ensures.run).step in
    (well_ended c.args.n (history_of c.args.session.now) _ w.text c.as_slice.result.now c.run_with-answer.result.0 c.in-Ended.outcome _ text c.in-Ended.is ran.1 has).code
    ∙ ap (λ s. (meant s w.text c.args.n).code) c.requires

pub returns-clause-typed : goal.returns-clause-typed
returns-clause-typed c =
    let w = c.args.self.now in
    let text : c.as_slice.result.now ≡ w.text = c.as_slice.ensures.value ∙ ap (λ (v : KeptWalk). v.text) c.self.view_is in
    let has : lacks_memory c.in-Ended.outcome.code ≡ false = sym c.lacks_memory.ensures ∙ c.if-lacks_memory.false in
    let ran = (unbroken c.args.n _ _ c.run_with-answer.ensures.run).step in
    all_typed _ _ _ _ _ ran.2 c.new-terminal.ensures.shown c.take.ensures.taken
    ∙ (well_ended c.args.n (history_of c.args.session.now) _ w.text c.as_slice.result.now c.run_with-answer.result.0 c.in-Ended.outcome _ text c.in-Ended.is ran.1 has).bytes
    ∙ ap (λ s. (meant s w.text c.args.n).typed) c.requires

use Rattle.std.proofs.Common.{◌≡◌, ap, false, refl, sym, ◌∙◌, subst}
use Rattle.teco_session.specs.Kept.{history_of}
use Rattle.teco_session.specs.History.{undone}
use Rattle.teco_debugger.specs.Walk.{KeptWalk, SameString, after_all, base, before_last, kept_walk, lacks_memory, meant, walk_first, walked}
use Rattle.teco_store.specs.State.{State}
use Rattle.teco_debugger.proofs.Walked.{before_is, is_walked}
use Rattle.teco_debugger.proofs.WalkEnds.{ran_on, ran_state, ran_steps, ran_within}
use Rattle.teco_debugger.proofs.Returning.{came_again, gone_back, stays_unended}
use Rattle.teco_debugger.proofs.walk.Walk.go_on.Goals as goal

pub invariant_of-self : goal.invariant_of-self
invariant_of-self c =
    let walk = c.self.inside in
    let first : State = walk_first walk in
    let before = before_last (history_of walk.session) in
    let back : history_of c.undo.new.self ≡ undone (walked first before walk.text.items walk.steps) =
    gone_back c.undo.result first before walk.text.items walk.steps _ _ c.self.invariant.came c.undo.ensures.offers.1 c.undo.ensures.history in
    record {
      small = c.self.invariant.small;
      came = is_walked _ first before walk.text.items c.in-Ended.outcome.steps (ran_on c.args.n first before walk.text.items walk.steps _ _ c.as_slice.result.now c.run.result c.in-Ended.outcome _ back c.as_slice.ensures.value c.in-Ended.is c.run.ensures.step.1 c.meaning_laws.ensures.enough);
    }

pub invariant_of-self-in-Ended : goal.invariant_of-self-in-Ended
invariant_of-self-in-Ended c =
    let walk = c.self.inside in
    let first : State = walk_first walk in
    let before = before_last (history_of walk.session) in
    let back : history_of c.undo.new.self ≡ undone (walked first before walk.text.items walk.steps) =
    gone_back c.undo.result first before walk.text.items walk.steps _ _ c.self.invariant.came c.undo.ensures.offers.1 c.undo.ensures.history in
    record {
      small = c.self.invariant.small;
      came = is_walked _ first before walk.text.items c.in-Ended.outcome.steps (ran_on c.args.n first before walk.text.items walk.steps _ _ c.as_slice.result.now c.run.result c.in-Ended.outcome _ back c.as_slice.ensures.value c.in-Ended.is c.run.ensures.step.1 c.meaning_laws.ensures.enough);
    }

pub invariant_of-self-in_default : goal.invariant_of-self-in_default
invariant_of-self-in_default c =
    let walk = c.self.inside in
    let first : State = walk_first walk in
    let before = before_last (history_of walk.session) in
    record {
      small = c.self.invariant.small;
      came = is_walked _ first before walk.text.items walk.steps (came_again c.undo.result c.redo.result first before walk.text.items walk.steps (history_of walk.session) (history_of c.undo.new.self) (history_of c.run.new.self) (history_of c.redo.new.self)
          c.self.invariant.came c.undo.ensures.offers.1 c.undo.ensures.history (stays_unended c.args.n _ c.as_slice.result.now c.run.result c.run.ensures.step.0 _ c.run.ensures.step.1 c.in_default.not-Ended)
          c.redo.ensures.offers.1 c.redo.ensures.history);
    }

pub returns-in-Ended-clause-string : goal.returns-in-Ended-clause-string
returns-in-Ended-clause-string c =
    let walk = c.self.inside in
    let first : State = walk_first walk in
    let before = before_last (history_of walk.session) in
    let back : history_of c.undo.new.self ≡ undone (walked first before walk.text.items walk.steps) =
    gone_back c.undo.result first before walk.text.items walk.steps _ _ c.self.invariant.came c.undo.ensures.offers.1 c.undo.ensures.history in
    let came : history_of c.run.new.self ≡ walked first before walk.text.items c.in-Ended.outcome.steps =
    ran_on c.args.n first before walk.text.items walk.steps _ _ c.as_slice.result.now c.run.result c.in-Ended.outcome _ back c.as_slice.ensures.value c.in-Ended.is c.run.ensures.step.1 c.meaning_laws.ensures.enough in
    let new : KeptWalk = kept_walk (record walk { steps = c.in-Ended.outcome.steps; session = c.run.new.self }) in
    subst (λ (w : KeptWalk). SameString w new) c.self.view_is (record { first = refl; before = before_is _ first before walk.text.items c.in-Ended.outcome.steps came; text = refl })

pub returns-in-Ended-clause-state : goal.returns-in-Ended-clause-state
returns-in-Ended-clause-state c =
    let walk = c.self.inside in
    let first : State = walk_first walk in
    let before = before_last (history_of walk.session) in
    let back : history_of c.undo.new.self ≡ undone (walked first before walk.text.items walk.steps) =
    gone_back c.undo.result first before walk.text.items walk.steps _ _ c.self.invariant.came c.undo.ensures.offers.1 c.undo.ensures.history in
    let has : lacks_memory c.in-Ended.outcome.code ≡ false = sym c.lacks_memory.ensures ∙ c.if-lacks_memory.false in
    let came : history_of c.run.new.self ≡ walked first before walk.text.items c.in-Ended.outcome.steps =
    ran_on c.args.n first before walk.text.items walk.steps _ _ c.as_slice.result.now c.run.result c.in-Ended.outcome _ back c.as_slice.ensures.value c.in-Ended.is c.run.ensures.step.1 c.meaning_laws.ensures.enough in
    ap (λ b. (meant (after_all first b) walk.text.items c.in-Ended.outcome.steps).state) (before_is _ first before walk.text.items c.in-Ended.outcome.steps came)
    ∙ subst (λ (w : KeptWalk). (meant (after_all first before) walk.text.items c.in-Ended.outcome.steps).state ≡ (meant (base w) w.text c.args.n).state) c.self.view_is
    (ran_state c.args.n first before walk.text.items walk.steps _ _ c.as_slice.result.now c.run.result c.in-Ended.outcome _ back c.as_slice.ensures.value c.in-Ended.is c.run.ensures.step.1 c.meaning_laws.ensures.enough has)

pub returns-in-Ended-clause-steps : goal.returns-in-Ended-clause-steps
returns-in-Ended-clause-steps c =
    let walk = c.self.inside in
    let first : State = walk_first walk in
    let before = before_last (history_of walk.session) in
    let back : history_of c.undo.new.self ≡ undone (walked first before walk.text.items walk.steps) =
    gone_back c.undo.result first before walk.text.items walk.steps _ _ c.self.invariant.came c.undo.ensures.offers.1 c.undo.ensures.history in
    let has : lacks_memory c.in-Ended.outcome.code ≡ false = sym c.lacks_memory.ensures ∙ c.if-lacks_memory.false in
    subst (λ (w : KeptWalk). c.in-Ended.outcome.steps ≡ (meant (base w) w.text c.args.n).steps) c.self.view_is
    (ran_steps c.args.n first before walk.text.items walk.steps _ _ c.as_slice.result.now c.run.result c.in-Ended.outcome _ back c.as_slice.ensures.value c.in-Ended.is c.run.ensures.step.1 has)

pub returns-in-Ended-clause-never_too_far : goal.returns-in-Ended-clause-never_too_far
returns-in-Ended-clause-never_too_far c =
    let walk = c.self.inside in
    let first : State = walk_first walk in
    let before = before_last (history_of walk.session) in
    let back : history_of c.undo.new.self ≡ undone (walked first before walk.text.items walk.steps) =
    gone_back c.undo.result first before walk.text.items walk.steps _ _ c.self.invariant.came c.undo.ensures.offers.1 c.undo.ensures.history in
    ran_within c.args.n first before walk.text.items walk.steps _ _ c.as_slice.result.now c.run.result c.in-Ended.outcome _ back c.as_slice.ensures.value c.in-Ended.is c.run.ensures.step.1 c.meaning_laws.ensures.within_limit

pub returns-then-lacks_memory-clause-string : goal.returns-then-lacks_memory-clause-string
returns-then-lacks_memory-clause-string c =
    let walk = c.self.inside in
    let first : State = walk_first walk in
    let before = before_last (history_of walk.session) in
    let back : history_of c.undo.new.self ≡ undone (walked first before walk.text.items walk.steps) =
    gone_back c.undo.result first before walk.text.items walk.steps _ _ c.self.invariant.came c.undo.ensures.offers.1 c.undo.ensures.history in
    let came : history_of c.run.new.self ≡ walked first before walk.text.items c.in-Ended.outcome.steps =
    ran_on c.args.n first before walk.text.items walk.steps _ _ c.as_slice.result.now c.run.result c.in-Ended.outcome _ back c.as_slice.ensures.value c.in-Ended.is c.run.ensures.step.1 c.meaning_laws.ensures.enough in
    let new : KeptWalk = kept_walk (record walk { steps = c.in-Ended.outcome.steps; session = c.run.new.self }) in
    subst (λ (w : KeptWalk). SameString w new) c.self.view_is (record { first = refl; before = before_is _ first before walk.text.items c.in-Ended.outcome.steps came; text = refl })

pub returns-then-lacks_memory-clause-never_too_far : goal.returns-then-lacks_memory-clause-never_too_far
returns-then-lacks_memory-clause-never_too_far c =
    let walk = c.self.inside in
    let first : State = walk_first walk in
    let before = before_last (history_of walk.session) in
    let back : history_of c.undo.new.self ≡ undone (walked first before walk.text.items walk.steps) =
    gone_back c.undo.result first before walk.text.items walk.steps _ _ c.self.invariant.came c.undo.ensures.offers.1 c.undo.ensures.history in
    ran_within c.args.n first before walk.text.items walk.steps _ _ c.as_slice.result.now c.run.result c.in-Ended.outcome _ back c.as_slice.ensures.value c.in-Ended.is c.run.ensures.step.1 c.meaning_laws.ensures.within_limit

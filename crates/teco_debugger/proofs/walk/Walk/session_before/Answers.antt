use Rattle.std.proofs.Common.{◌≡◌, ◌∙◌, ◌-◌, None, ap, arith, length, subst, sym, take}
use Rattle.std.proofs.Math.Seq.{take-length}
use Rattle.teco_replay.specs.Begun.{begun_state}
use Rattle.teco_session.specs.History.{history_from}
use Rattle.teco_session.specs.Kept.{history_of}
use Rattle.teco_debugger.specs.Walk.{KeptWalk, kept_walk, led, walk_first}
use Rattle.teco_debugger.proofs.Walked.{before_length}
use Rattle.teco_debugger.proofs.walk.Walk.session_before.Goals as goal

pub loop-i-init : goal.loop-i-init
loop-i-init c =
    let walk = c.self.inside in
    let w = walk.opening in
    let o = c.in_ok-opening.opening in
    let same = c.in_ok-opening.ensures in
    let first : begun_state o.profile o.lines o.input.items ≡ walk_first walk =
    ap (λ p. begun_state p o.lines o.input.items) same.profile ∙ ap (λ n. begun_state w.profile n o.input.items) same.lines ∙ ap (begun_state w.profile w.lines) same.input in
    subst (λ (v : KeptWalk). history_of c.in_ok-session.session ≡ led v.first (take 0 v.before)) c.self.view_is
    (c.in_ok-session.ensures ∙ ap (history_from None) first)

pub returns : goal.returns
returns c =
    let walk = c.self.inside in
    let w : KeptWalk = kept_walk walk in
    let all : walk.session.cursor - 1 ≡ length w.before = before_length (history_of walk.session) w.first w.before walk.text.items walk.steps c.self.invariant.came in
    let at : c.loop-i.i ≡ length w.before = omega (arith, all, c.loop-i-test.false, c.loop-i.auto.i-end, c.saturating_sub-i-end.ensures, c.cursor.ensures.value) in
    subst (λ (v : KeptWalk). history_of c.loop-i.session ≡ led v.first v.before) c.self.view_is
    (subst (λ (v : KeptWalk). history_of c.loop-i.session ≡ led v.first (take c.loop-i.i v.before)) (sym c.self.view_is) c.loop-i.invariant
    ∙ ap (λ n. led w.first (take n w.before)) at ∙ ap (led w.first) (take-length w.before))

use Rattle.std.proofs.Common.{◌≡◌, ◌<◌, ◌≤◌, inl, ◌+◌, ◌-◌, ◌∷◌, [], length, drop, None, Some, refl, sym, subst, ap, ◌∙◌, arith, rules}
use Rattle.std.proofs.lemmas.List.{length-drop}
use Rattle.teco_scan.specs.declared.text.Text.{Text}
use Rattle.teco_core.specs.ArgumentsView.{arguments}
use Rattle.teco_exec.specs.View.{cursor}
use Rattle.teco_scan.specs.Breaks.{IsTokenPlace}
use Rattle.teco_exec.specs.Running.{ReachesContinuation, StandsWhereTold, caller, at_cursor, at_return, goes, host, over, reached_after_call, stops}
use Rattle.teco_exec.proofs.Continuations.{begins, comes_home, less_left, too_deep}
use Rattle.teco_exec.proofs.Calls.{enters_copy, tells_around, tells_on}
use Rattle.teco_exec.proofs.Going.{since}
use Rattle.teco_exec.proofs.NoMemory.{begins_quietly}
use Rattle.teco_exec.specs.Places.{HaveCalled, told_here, with_call, wanted_in}
use Rattle.teco_exec.proofs.Placings.{call_profile, call_told_here, called_told, stood_told}
use Rattle.teco_exec.proofs.Visited.{call_made, one_call_more, visited_call}
use Rattle.teco_exec.proofs.Stepped.{call_fails, call_leads, call_unpaid, counts_none, counts_on, counts_over, counts_so, says_on, text_in}
use Rattle.teco_core.specs.declared.code.Code.TheVariants.{Pdo}
use Rattle.teco_exec.proofs.texts.+run_text.Goals as goal

pub run_in-running-init : goal.run_in-running-init
run_in-running-init g t c = record {
  text = c.begin-cursor.ensures.text;
  counts = counts_none says_on;
  depth = refl;
  watch = λ knows. knows;
  visits = λ o callers calls deep called e wanted first p. p;
  quiet = begins_quietly (arguments c.args.args.now) c.args.text c.begin-cursor.result c.begin-cursor.ensures.text c.begin-cursor.ensures.begins;
  going = λ o callers deep e. begins o _ (arguments c.args.args.now) c.args.text c.begin-cursor.result callers c.begin-cursor.ensures.text c.begin-cursor.ensures.begins e;
}

pub run_in-running-smaller-in-On : goal.run_in-running-smaller-in-On
run_in-running-smaller-in-On g t c =
    let steps = c.step_watched.new.running.steps in
    let to = c.step_watched.new.cursor in
    let short : length (drop to.at to.text.bytes.now) ≤ length c.args.text.bytes.now =
    let same : length to.text.bytes.now ≡ length c.args.text.bytes.now = ap (λ (x : Text). length x.bytes.now) (c.in-On.ensures.step.text ∙ c.running.invariant.text) in
    omega (arith, same, length-drop to.at to.text.bytes.now) in
    less_left steps.limit c.running.running.steps.limit c.running.running.steps.done steps.done (length c.args.text.bytes.now) (length (cursor c.running.cursor).left) (length (cursor to).left) c.in-On.ensures.step.counts.limit c.in-On.ensures.step.counts.more steps.within short (c.in-On.ensures.step.advances tt)

pub run_in-running-preserved-in-On : goal.run_in-running-preserved-in-On
run_in-running-preserved-in-On g t c = record {
  text = c.in-On.ensures.step.text ∙ c.running.invariant.text;
  counts = counts_on c.running.invariant.counts (counts_so (λ e. absurd cc) c.in-On.ensures.step.counts);
  depth = c.in-On.ensures.depth ∙ c.running.invariant.depth;
  watch = λ knows. c.in-On.ensures.knows None (c.running.invariant.watch knows);
  visits = λ o callers calls deep called e wanted first p.
      let there = c.running.invariant.going o callers deep e in
      c.in-On.ensures.visits o callers calls (deep ∙ sym c.running.invariant.depth) (subst (λ (x : Text). HaveCalled x.profile calls callers []) (sym c.running.invariant.text) called) there.going wanted first (c.running.invariant.visits o callers calls deep called e wanted first p);
  quiet = λ h. c.in-On.ensures.step.quiet (c.running.invariant.quiet h);
  going = λ o callers deep e.
      let there = c.running.invariant.going o callers deep e in
      since 0 o _ _ _ (goes (at_cursor c.step_watched.new.cursor callers)) there.follows (c.in-On.ensures.step.leads o callers there.going);
}

pub run_in-returns-in-Return-clause-leads : goal.run_in-returns-in-Return-clause-leads
run_in-returns-in-Return-clause-leads g t c o callers deep e =
    let there = c.running.invariant.going o callers deep e in
    let before = host g.D.Desk g.T.Terminal (c.args.desk.now, c.args.term.now, c.args.running.now.steps) in
    let after = host g.D.Desk g.T.Terminal (c.step_watched.new.desk, c.step_watched.new.term, c.step_watched.new.running.steps) in
    let to = c.step_watched.new.cursor in
    rw c.copy_from.ensures
    (subst (λ (x : Text). ReachesContinuation o before after (at_return x.profile (arguments to.args) callers)) (c.in-Return.ensures.step.text ∙ c.running.invariant.text)
    (since 0 o before _ after (goes (at_return to.text.profile (arguments to.args) callers)) there.follows (c.in-Return.ensures.step.leads o callers there.going)))

pub run_in-returns-in-Over-clause-leads : goal.run_in-returns-in-Over-clause-leads
run_in-returns-in-Over-clause-leads g t c o callers deep e =
    let there = c.running.invariant.going o callers deep e in
    since c.step_watched.new.running.steps.limit o _ _ _ (over None) there.follows (c.in-Over.ensures.step.leads o callers there.going)

pub run_in-returns-in-Fail-clause-leads : goal.run_in-returns-in-Fail-clause-leads
run_in-returns-in-Fail-clause-leads g t c o callers deep e =
    let there = c.running.invariant.going o callers deep e in
    since c.step_watched.new.running.steps.limit o _ _ _ (over (Some c.in-Fail.code)) there.follows (c.in-Fail.ensures.step.leads o callers there.going)

pub run_in-returns-in-Fail-clause-no_memory : goal.run_in-returns-in-Fail-clause-no_memory
run_in-returns-in-Fail-clause-no_memory g t c h e = c.in-Fail.ensures.step.quiet (c.running.invariant.quiet h) e

pub run_in-returns-in-Stop-clause-leads : goal.run_in-returns-in-Stop-clause-leads
run_in-returns-in-Stop-clause-leads g t c o callers deep e =
    let there = c.running.invariant.going o callers deep e in
    since c.step_watched.new.running.steps.limit o _ _ _ (stops c.in-Stop.code) there.follows (c.in-Stop.ensures.step.leads o callers there.going)

pub run_in-returns-in-Stop-clause-no_memory : goal.run_in-returns-in-Stop-clause-no_memory
run_in-returns-in-Stop-clause-no_memory g t c h e = c.in-Stop.ensures.step.quiet (c.running.invariant.quiet h) e

pub run_in-running-smaller : goal.run_in-running-smaller
run_in-running-smaller g t c =
    let steps = c.run_called.new.running.steps in
    let to = c.step_watched.new.cursor in
    let back = c.run_called.new.cursor in
    let left : length (cursor back).left ≡ length (cursor to).left = ap length c.in-Return-run_called.ensures.left in
    let short : length (cursor back).left ≤ length c.args.text.bytes.now =
    let same : length to.text.bytes.now ≡ length c.args.text.bytes.now = ap (λ (x : Text). length x.bytes.now) (c.in-Call.ensures.step.text ∙ c.running.invariant.text) in
    omega (arith, same, left, length-drop to.at to.text.bytes.now) in
    less_left steps.limit c.running.running.steps.limit c.running.running.steps.done steps.done (length c.args.text.bytes.now) (length (cursor c.running.cursor).left) (length (cursor back).left) (omega (arith, c.in-Call.ensures.step.counts.limit, c.in-Return-run_called.ensures.counts.limit)) (omega (arith, c.in-Call.ensures.step.counts.more, c.in-Return-run_called.ensures.counts.more)) steps.within short (inl (omega (arith, c.in-Call.ensures.step.counts.more, c.in-Return-run_called.ensures.more refl)))

pub run_in-running-preserved : goal.run_in-running-preserved
run_in-running-preserved g t c = record {
  text = c.in-Return-run_called.ensures.text ∙ c.in-Call.ensures.step.text ∙ c.running.invariant.text;
  counts = counts_on c.running.invariant.counts (counts_on (counts_so (λ e. absurd cc) c.in-Call.ensures.step.counts) (counts_so (λ e. absurd cc) c.in-Return-run_called.ensures.counts));
  depth = c.in-Return-run_called.ensures.depth ∙ c.in-Call.ensures.depth ∙ c.running.invariant.depth;
  watch = λ knows. c.in-Return-run_called.ensures.told (c.in-Call.ensures.knows None (c.running.invariant.watch knows));
  visits = λ o callers calls deep called e wanted first p.
      let there = c.running.invariant.going o callers deep e in
      let here = c.in-Call.ensures.step.leads o callers there.going in
      let same = deep ∙ sym c.running.invariant.depth in
      c.in-Return-run_called.ensures.visits o callers calls (same ∙ sym c.in-Call.ensures.depth)
      (subst (λ (x : Text). HaveCalled x.profile calls callers []) (sym (c.in-Call.ensures.step.text ∙ c.running.invariant.text)) called) here.going wanted first
      (c.in-Call.ensures.visits o callers calls same (subst (λ (x : Text). HaveCalled x.profile calls callers []) (sym c.running.invariant.text) called) there.going wanted first (c.running.invariant.visits o callers calls deep called e wanted first p));
  quiet = λ h. absurd (c.in-Call.ensures.step.quiet (c.running.invariant.quiet h));
  going = λ o callers deep e.
      let there = c.running.invariant.going o callers deep e in
      let here = c.in-Call.ensures.step.leads o callers there.going in
      let back = c.in-Return-run_called.ensures.leads o callers (deep ∙ sym c.running.invariant.depth ∙ sym c.in-Call.ensures.depth) here.going in
      record { going = back.going; follows = λ floor p. back.follows floor (here.follows floor (there.follows floor p)) };
}

pub run_called-returns-then-are_over-clause-leads : goal.run_called-returns-then-are_over-clause-leads
run_called-returns-then-are_over-clause-leads g t c o callers deep e =
    call_unpaid c.args.cursor.now c.args.site.register callers o _ e c.args.running.now.steps.done refl

pub run_called-returns-in-Err-clause-leads : goal.run_called-returns-in-Err-clause-leads
run_called-returns-in-Err-clause-leads g t c o callers deep e =
    call_fails c.args.cursor.now c.args.site.register callers o _ e c.args.running.now.steps.limit (c.are_over.ensures.left c.if-are_over.false)

pub run_in-returns-in-Return-clause-told : goal.run_in-returns-in-Return-clause-told
run_in-returns-in-Return-clause-told g t c knows = c.in-Return.ensures.knows None (c.running.invariant.watch knows)

pub run_in-returns-in-Over-clause-told : goal.run_in-returns-in-Over-clause-told
run_in-returns-in-Over-clause-told g t c knows = c.in-Over.ensures.knows None (c.running.invariant.watch knows)

pub run_in-returns-in-Fail-clause-told : goal.run_in-returns-in-Fail-clause-told
run_in-returns-in-Fail-clause-told g t c knows =
    let told = c.stood.ensures.told (c.in-Fail.ensures.knows None (c.running.invariant.watch knows)) in
    let done = c.step_watched.new.running.steps.done in (
      told_here c.step_watched.new.cursor.text.profile (done - 1) c.step_watched.new.cursor.text.bytes.now told.0 (cursor c.step_watched.new.cursor).blocks,
      told.2,
      omega (arith, c.in-Fail.ensures.step.stood.0),
      λ o callers deep e.
          let there = c.running.invariant.going o callers deep e in
          stood_told o (done - 1) c.running.cursor c.step_watched.new.cursor callers told.0
          (c.in-Fail.ensures.step.stood.1 o callers there.going) c.in-Fail.ensures.step.text c.in-Fail.ensures.step.around.1 told.1,
    )

pub run_in-returns-in-Stop-clause-told : goal.run_in-returns-in-Stop-clause-told
run_in-returns-in-Stop-clause-told g t c knows =
    let told = c.stood-in-Stop.ensures.told (c.in-Stop.ensures.knows None (c.running.invariant.watch knows)) in (
      told_here c.step_watched.new.cursor.text.profile c.step_watched.new.running.steps.done c.step_watched.new.cursor.text.bytes.now told.0 (cursor c.step_watched.new.cursor).blocks,
      told.2,
      refl,
      λ o callers deep e.
          let there = c.running.invariant.going o callers deep e in
          stood_told o c.step_watched.new.running.steps.done c.running.cursor c.step_watched.new.cursor callers told.0
          (c.in-Stop.ensures.step.stood o callers there.going) c.in-Stop.ensures.step.text c.in-Stop.ensures.step.around told.1,
    )

pub run_called-returns-then-are_over-clause-told : goal.run_called-returns-then-are_over-clause-told
run_called-returns-then-are_over-clause-told g t c knows =
    let told = c.stood.ensures.told knows in (
      told_here c.args.cursor.now.text.profile c.args.running.now.steps.done c.args.cursor.now.text.bytes.now told.0 (cursor c.args.cursor.now).blocks,
      told.2,
      refl,
      λ o callers deep e.
          call_told_here o _ c.args.cursor.now c.args.site.register c.args.site.at told.0 c.args.running.now.steps.done callers refl e c.requires.token told.1,
    )

pub run_called-returns-in-Err-clause-told : goal.run_called-returns-in-Err-clause-told
run_called-returns-in-Err-clause-told g t c knows =
    let told = c.stood-in-Err.ensures.told (c.stepped.ensures.knows None knows) in (
      told_here c.args.cursor.now.text.profile c.args.running.now.steps.done c.args.cursor.now.text.bytes.now told.0 (cursor c.args.cursor.now).blocks,
      told.2,
      refl,
      λ o callers deep e.
          call_told_here o _ c.args.cursor.now c.args.site.register c.args.site.at told.0 c.args.running.now.steps.done callers refl e c.requires.token told.1,
    )

pub run_in-stood-requires : goal.run_in-stood-requires
run_in-stood-requires g t c = subst (λ (x : Text). c.running.cursor.at ≤ length x.bytes.now) (sym c.in-Fail.ensures.step.text) c.running.cursor.within

pub run_in-stood-requires-in-Stop : goal.run_in-stood-requires-in-Stop
run_in-stood-requires-in-Stop g t c = subst (λ (x : Text). c.running.cursor.at ≤ length x.bytes.now) (sym c.in-Stop.ensures.step.text) c.running.cursor.within

pub run_in-returns-in-Return-clause-counts : goal.run_in-returns-in-Return-clause-counts
run_in-returns-in-Return-clause-counts g t c = counts_on c.running.invariant.counts (counts_so (λ e. absurd cc) c.in-Return.ensures.step.counts)

pub run_in-returns-in-Over-clause-counts : goal.run_in-returns-in-Over-clause-counts
run_in-returns-in-Over-clause-counts g t c = counts_on c.running.invariant.counts (counts_so (λ e. absurd cc) c.in-Over.ensures.step.counts)

pub run_in-returns-in-Fail-clause-counts : goal.run_in-returns-in-Fail-clause-counts
run_in-returns-in-Fail-clause-counts g t c = counts_on c.running.invariant.counts (counts_so (λ e. absurd cc) c.in-Fail.ensures.step.counts)

pub run_in-returns-in-Stop-clause-counts : goal.run_in-returns-in-Stop-clause-counts
run_in-returns-in-Stop-clause-counts g t c = counts_on c.running.invariant.counts (counts_so (λ e. cc) c.in-Stop.ensures.step.counts)

pub run_called-returns-then-are_over-clause-counts : goal.run_called-returns-then-are_over-clause-counts
run_called-returns-then-are_over-clause-counts g t c = counts_over c.are_over.ensures.still (c.are_over.ensures.over c.if-are_over.true) refl refl refl

pub run_called-returns-in-Err-clause-counts : goal.run_called-returns-in-Err-clause-counts
run_called-returns-in-Err-clause-counts g t c = counts_none c.are_over.ensures.still

pub run_called-returns-then-running-eq-CALL_LIMIT-clause-leads : goal.run_called-returns-then-running-eq-CALL_LIMIT-clause-leads
run_called-returns-then-running-eq-CALL_LIMIT-clause-leads g t c o callers deep e =
    let h = host g.D.Desk g.T.Terminal (c.step_done.new.self, c.args.term.now, c.count.new.self) in
    let from = c.args.cursor.now in
    let called = text_in from c.args.site.register callers (g.D.Desk.state c.args.desk.now) in
    let there = call_leads from c.args.site.register callers o _ e c.count.new.self.done c.count.ensures.done (g.D.Desk.state c.step_done.new.self) c.step_done.ensures.state (g.D.Desk.follows c.step_done.new.self)
    (g.met.D.Desk.eases c.args.desk.now) c.step_done.ensures.follows called refl in
    since c.count.new.self.limit o _ h _ (over (Some Pdo)) there.follows
    (too_deep o h from called callers there.going c.count.new.self.limit (deep ∙ c.if-running-eq-CALL_LIMIT.true) c.count.new.self.within)

pub run_called-returns-then-running-eq-CALL_LIMIT-clause-told : goal.run_called-returns-then-running-eq-CALL_LIMIT-clause-told
run_called-returns-then-running-eq-CALL_LIMIT-clause-told g t c knows =
    let told = c.stood-then-running-eq-CALL_LIMIT.ensures.told (c.stepped.ensures.knows None knows) in
    let before = c.count.new.self.done - 1 in
    let same : before ≡ c.args.running.now.steps.done = omega (arith, c.count.ensures.done) in (
      told_here c.args.cursor.now.text.profile before c.args.cursor.now.text.bytes.now told.0 (cursor c.args.cursor.now).blocks,
      told.2,
      omega (arith, c.count.ensures.done),
      λ o callers deep e.
          call_told_here o _ c.args.cursor.now c.args.site.register c.args.site.at told.0 before callers same e c.requires.token told.1,
    )

pub run_called-returns-then-len-le-SHORT_LIMIT-clause-told : goal.run_called-returns-then-len-le-SHORT_LIMIT-clause-told
run_called-returns-then-len-le-SHORT_LIMIT-clause-told g t c knows =
    let q = c.args.site.register in
    let at = c.args.site.at in
    let ran = c.run_copy-exit in
    tells_around g.W.Watch.knows ran.new.running.watch c.tell_call.new.watch _ _ ran.result ran.new.running.steps.done ran.new.cursor.text.bytes.now at q (cursor ran.new.cursor).blocks
    c.tell_call.ensures.none c.tell_call.ensures.some (ran.ensures.told q (search rules) (c.stepped.ensures.knows None knows))
    (λ p to inside place o callers deep e.
    subst (λ bs. StandsWhereTold o callers (with_call p q to bs)) (sym ran.ensures.blocks)
    (called_told o c.args.cursor.now q at to callers p (call_profile o _ c.args.cursor.now q callers e) (inside o callers deep e) c.requires.token (subst (λ (x : Text). IsTokenPlace x.bytes.now at to) ran.ensures.text place)))

pub run_called-returns-in-Ok-clause-told : goal.run_called-returns-in-Ok-clause-told
run_called-returns-in-Ok-clause-told g t c knows =
    let q = c.args.site.register in
    let at = c.args.site.at in
    let ran = c.run_copy-exit-in-Ok in
    tells_around g.W.Watch.knows ran.new.running.watch c.tell_call-in-Ok.new.watch _ _ ran.result ran.new.running.steps.done ran.new.cursor.text.bytes.now at q (cursor ran.new.cursor).blocks
    c.tell_call-in-Ok.ensures.none c.tell_call-in-Ok.ensures.some (ran.ensures.told q (search rules) (c.stepped.ensures.knows None knows))
    (λ p to inside place o callers deep e.
    subst (λ bs. StandsWhereTold o callers (with_call p q to bs)) (sym ran.ensures.blocks)
    (called_told o c.args.cursor.now q at to callers p (call_profile o _ c.args.cursor.now q callers e) (inside o callers deep e) c.requires.token (subst (λ (x : Text). IsTokenPlace x.bytes.now at to) ran.ensures.text place)))

pub run_copy-returns-clause-leads : goal.run_copy-returns-clause-leads
run_copy-returns-clause-leads g t c q copy o callers deep e =
    let from = c.args.cursor.now in
    let left = c.run_text-exit.new.args in
    let h = host g.D.Desk g.T.Terminal (c.step_done.new.self, c.args.term.now, c.count.new.self) in
    let k = host g.D.Desk g.T.Terminal (c.run_text-exit.new.desk, c.run_text-exit.new.term, c.run_text-exit.new.running.steps) in
    let fewer : length callers < 32 = omega (arith, deep, c.requires.deep) in
    let deeper : length (caller from ∷ callers) ≡ c.args.running.now.depth + 1 = omega (arith, deep) in
    let limit = c.run_text-exit.new.running.steps.limit in
    let exit = c.run_text-exit.result in
    let into = enters_copy from q callers o _ e c.count.new.self.done c.count.ensures.done (g.D.Desk.state c.step_done.new.self) c.step_done.ensures.state (g.D.Desk.follows c.step_done.new.self)
    (g.met.D.Desk.eases c.args.desk.now) c.step_done.ensures.follows c.args.called.now copy fewer in
    since limit o _ h k (reached_after_call (record from { args = left }) callers exit) into.follows
    (comes_home limit o h k (arguments left) from (record from { args = left }) callers refl refl exit
    (c.run_text-exit.ensures.leads o (caller from ∷ callers) deeper into.going))

pub run_copy-returns-clause-told : goal.run_copy-returns-clause-told
run_copy-returns-clause-told g t c q copy knows =
    let from = c.args.cursor.now in
    tells_on (g.W.Watch.knows c.run_text-exit.new.running.watch) _ _ c.run_text-exit.result c.run_text-exit.new.running.steps.done (c.run_text-exit.ensures.told knows) (λ p stands o callers deep e.
    let fewer : length callers < 32 = omega (arith, deep, c.requires.deep) in
    let deeper : length (caller from ∷ callers) ≡ c.args.running.now.depth + 1 = omega (arith, deep) in
    let into = enters_copy from q callers o _ e c.count.new.self.done c.count.ensures.done (g.D.Desk.state c.step_done.new.self) c.step_done.ensures.state (g.D.Desk.follows c.step_done.new.self)
    (g.met.D.Desk.eases c.args.desk.now) c.step_done.ensures.follows c.args.called.now copy fewer in
    stands o (caller from ∷ callers) deeper into.going)

pub run_in-returns-in-Return-clause-visits : goal.run_in-returns-in-Return-clause-visits
run_in-returns-in-Return-clause-visits g t c o callers calls deep called e wanted first p =
    let there = c.running.invariant.going o callers deep e in
    c.in-Return.ensures.visits o callers calls (deep ∙ sym c.running.invariant.depth) (subst (λ (x : Text). HaveCalled x.profile calls callers []) (sym c.running.invariant.text) called) there.going wanted first (c.running.invariant.visits o callers calls deep called e wanted first p)

pub run_in-returns-in-Over-clause-visits : goal.run_in-returns-in-Over-clause-visits
run_in-returns-in-Over-clause-visits g t c o callers calls deep called e wanted first p =
    let there = c.running.invariant.going o callers deep e in
    c.in-Over.ensures.visits o callers calls (deep ∙ sym c.running.invariant.depth) (subst (λ (x : Text). HaveCalled x.profile calls callers []) (sym c.running.invariant.text) called) there.going wanted first (c.running.invariant.visits o callers calls deep called e wanted first p)

pub run_in-returns-in-Fail-clause-visits : goal.run_in-returns-in-Fail-clause-visits
run_in-returns-in-Fail-clause-visits g t c o callers calls deep called e wanted first p =
    let there = c.running.invariant.going o callers deep e in
    c.stood.ensures.follows _ _ (c.in-Fail.ensures.visits o callers calls (deep ∙ sym c.running.invariant.depth) (subst (λ (x : Text). HaveCalled x.profile calls callers []) (sym c.running.invariant.text) called) there.going wanted first (c.running.invariant.visits o callers calls deep called e wanted first p))

pub run_in-returns-in-Stop-clause-visits : goal.run_in-returns-in-Stop-clause-visits
run_in-returns-in-Stop-clause-visits g t c o callers calls deep called e wanted first p =
    let there = c.running.invariant.going o callers deep e in
    c.stood-in-Stop.ensures.follows _ _ (c.in-Stop.ensures.visits o callers calls (deep ∙ sym c.running.invariant.depth) (subst (λ (x : Text). HaveCalled x.profile calls callers []) (sym c.running.invariant.text) called) there.going wanted first (c.running.invariant.visits o callers calls deep called e wanted first p))

pub run_called-returns-then-are_over-clause-visits : goal.run_called-returns-then-are_over-clause-visits
run_called-returns-then-are_over-clause-visits g t c o callers calls deep called e wanted first p = c.stood.ensures.follows _ _ p

pub run_called-returns-in-Err-clause-visits : goal.run_called-returns-in-Err-clause-visits
run_called-returns-in-Err-clause-visits g t c o callers calls deep called e wanted first p =
    c.stood-in-Err.ensures.follows _ _ (c.stepped.ensures.follows (wanted_in o.state o.text wanted first) c.args.running.now.steps.done
    (λ k to from below place. visited_call o c.args.cursor.now callers calls called k c.args.running.now.depth deep _ c.args.site.register c.args.site.at to (omega (arith, from, below, c.next-next.ensures)) e c.requires.token place)
    p (omega arith) (omega (arith, c.next-next.ensures)))

pub run_called-returns-then-running-eq-CALL_LIMIT-clause-visits : goal.run_called-returns-then-running-eq-CALL_LIMIT-clause-visits
run_called-returns-then-running-eq-CALL_LIMIT-clause-visits g t c o callers calls deep called e wanted first p =
    c.stood-then-running-eq-CALL_LIMIT.ensures.follows _ _ (c.stepped.ensures.follows (wanted_in o.state o.text wanted first) c.count.new.self.done
    (λ k to from below place. visited_call o c.args.cursor.now callers calls called k c.args.running.now.depth deep _ c.args.site.register c.args.site.at to (omega (arith, from, below, c.next-next.ensures)) e c.requires.token place)
    p (omega (arith, c.count.ensures.done)) (omega (arith, c.count.ensures.done, c.next-next.ensures)))

pub run_called-returns-then-len-le-SHORT_LIMIT-clause-visits : goal.run_called-returns-then-len-le-SHORT_LIMIT-clause-visits
run_called-returns-then-len-le-SHORT_LIMIT-clause-visits g t c o callers calls deep called e wanted first p =
    let q = c.args.site.register in
    let made = call_made c.args.cursor.now q c.args.site.at c.requires.within c.requires.token in
    c.tell_call.ensures.follows _ _ (c.run_copy-exit.ensures.visits q (search rules) o callers made.0 calls deep made.1 called e wanted first
    (c.stepped.ensures.follows (wanted_in o.state o.text wanted first) (c.args.running.now.steps.done + 1)
    (λ k to from below place. visited_call o c.args.cursor.now callers calls called k c.args.running.now.depth deep _ q c.args.site.at to (omega (arith, from, below, c.next-next.ensures)) e c.requires.token place)
    p (omega arith) (omega (arith, c.next-next.ensures))))

pub run_called-returns-in-Ok-clause-visits : goal.run_called-returns-in-Ok-clause-visits
run_called-returns-in-Ok-clause-visits g t c o callers calls deep called e wanted first p =
    let q = c.args.site.register in
    let made = call_made c.args.cursor.now q c.args.site.at c.requires.within c.requires.token in
    c.tell_call-in-Ok.ensures.follows _ _ (c.run_copy-exit-in-Ok.ensures.visits q (search rules) o callers made.0 calls deep made.1 called e wanted first
    (c.stepped.ensures.follows (wanted_in o.state o.text wanted first) (c.args.running.now.steps.done + 1)
    (λ k to from below place. visited_call o c.args.cursor.now callers calls called k c.args.running.now.depth deep _ q c.args.site.at to (omega (arith, from, below, c.next-next.ensures)) e c.requires.token place)
    p (omega arith) (omega (arith, c.next-next.ensures))))

pub run_copy-returns-clause-visits : goal.run_copy-returns-clause-visits
run_copy-returns-clause-visits g t c q copy o callers x calls deep is called e wanted first p =
    let from = c.args.cursor.now in
    let fewer : length callers < 32 = omega (arith, deep, c.requires.deep) in
    let deeper : length (caller from ∷ callers) ≡ c.args.running.now.depth + 1 = omega (arith, deep) in
    let into = enters_copy from q callers o _ e c.count.new.self.done c.count.ensures.done (g.D.Desk.state c.step_done.new.self) c.step_done.ensures.state (g.D.Desk.follows c.step_done.new.self)
    (g.met.D.Desk.eases c.args.desk.now) c.step_done.ensures.follows c.args.called.now copy fewer in
    c.run_text-exit.ensures.visits o (caller from ∷ callers) (x ∷ calls) deeper (one_call_more from.text.profile (caller from) callers x calls is called) into.going wanted first
    (subst (g.W.Watch.follows c.args.running.now.watch (wanted_in o.state o.text wanted first)) (sym c.count.ensures.done) p)

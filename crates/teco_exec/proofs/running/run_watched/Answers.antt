use Rattle.std.proofs.Common.{◌≡◌, [], true, refl, sym, subst, arith}
use Rattle.teco_core.specs.ArgumentsView.{arguments}
use Rattle.teco_scan.specs.Lists.{nodes}
use Rattle.teco_exec.specs.Quiet.{takes_no_memory}
use Rattle.teco_exec.specs.Running.{Origin, RunGoesOn, at_beginning}
use Rattle.teco_exec.proofs.Going.{host_of}
use Rattle.teco_exec.proofs.NoMemory.{ends_quietly}
use Rattle.teco_exec.proofs.Continuations.{broken_off, whole_begins, whole_ends}
use Rattle.teco_exec.proofs.Placings.{tells_last}
use Rattle.teco_exec.proofs.Visited.{no_call_open}
use Rattle.teco_exec.proofs.StringLaws.{runs_exit}
use Rattle.teco_exec.proofs.running.run_watched.Goals as goal

pub returns-clause-run : goal.returns-clause-run
returns-clause-run g c =
    let o : Origin = record { state = g.D.Desk.state c.args.desk.now; text = c.args.text.now; screen = g.T.Terminal.screen c.args.term.now } in
    let limit = c.run_in-exit.new.running.steps.limit in
    let begins = subst (λ p. RunGoesOn o (host_of o.state (g.D.Desk.follows c.args.desk.now) o.screen 0) (at_beginning p (arguments c.new-args.result) o.text [])) (sym c.profile.ensures)
    (whole_begins c.machine_laws.ensures.means o (g.D.Desk.follows c.args.desk.now) (arguments c.new-args.result) c.new-args.ensures) in
    let ends = whole_ends c.profile.result limit o _ _ (arguments c.run_in-exit.new.args) c.run_in-exit.result c.code.result c.code.ensures c.run_in-exit.new.running.steps.within
    (c.run_in-exit.ensures.leads o [] refl begins) in
    let counts = c.run_in-exit.ensures.counts in
    let laws = c.meaning_laws.ensures in
    (record {
      under = limit;
      within = counts.limit;
      stays = broken_off _ limit c.args.limit c.run_in-exit.new.running.steps.done c.run_in-exit.result c.code.result c.code.ensures counts.stays;
      heard = λ k before. counts.heard k (omega arith) before;
      so = record {
        run = (ends.typed, ends.runs, ends.shows);
        again = ends.again;
        follows = ends.follows;
        no_memory = λ quiet. ends_quietly c.run_in-exit.result c.code.result c.code.ensures (c.run_in-exit.ensures.no_memory (subst (λ p. takes_no_memory (nodes p c.args.text.now) ≡ true) (sym c.profile.ensures) quiet));
        exit = λ going over.
            runs_exit laws.exit laws.more_limit o.state o.text limit going c.code.result c.run_in-exit.new.running.steps.done ends.typed _
            (laws.within_limit o.state o.text limit) (laws.within_limit o.state o.text c.run_in-exit.new.running.steps.done) ends.runs over;
      };
    })

pub returns-clause-still : goal.returns-clause-still
returns-clause-still g c =
    c.run_in-exit.ensures.counts.still

pub returns-clause-told : goal.returns-clause-told
returns-clause-told g c knows =
    let o : Origin = record { state = g.D.Desk.state c.args.desk.now; text = c.args.text.now; screen = g.T.Terminal.screen c.args.term.now } in
    let limit = c.run_in-exit.new.running.steps.limit in
    let begins = subst (λ p. RunGoesOn o (host_of o.state (g.D.Desk.follows c.args.desk.now) o.screen 0) (at_beginning p (arguments c.new-args.result) o.text [])) (sym c.profile.ensures)
    (whole_begins c.machine_laws.ensures.means o (g.D.Desk.follows c.args.desk.now) (arguments c.new-args.result) c.new-args.ensures) in
    (tells_last c.profile.result (g.W.Watch.knows c.run_in-exit.new.running.watch) _ limit o _ _ (arguments c.run_in-exit.new.args) c.run_in-exit.result c.code.result c.code.ensures (c.run_in-exit.ensures.leads o [] refl begins)
    (λ p from. from o [] refl begins) (c.run_in-exit.ensures.told knows))

pub returns-clause-visits : goal.returns-clause-visits
returns-clause-visits g c wanted first follows =
    let o : Origin = record { state = g.D.Desk.state c.args.desk.now; text = c.args.text.now; screen = g.T.Terminal.screen c.args.term.now } in
    let begins = subst (λ p. RunGoesOn o (host_of o.state (g.D.Desk.follows c.args.desk.now) o.screen 0) (at_beginning p (arguments c.new-args.result) o.text [])) (sym c.profile.ensures)
    (whole_begins c.machine_laws.ensures.means o (g.D.Desk.follows c.args.desk.now) (arguments c.new-args.result) c.new-args.ensures) in
    c.run_in-exit.ensures.visits o [] [] refl (no_call_open c.profile.result) begins wanted first follows

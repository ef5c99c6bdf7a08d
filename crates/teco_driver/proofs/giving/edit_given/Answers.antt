use Rattle.std.proofs.Common.{◌≡◌, ◌∙◌, ℕ, List, arith, sym, subst}
use Rattle.teco_cli.specs.declared.line.Line.{Line}
use Rattle.teco_driver.specs.Given.{EditsGiven, HostView, host_view}
use Rattle.teco_driver.specs.declared.giving.Feed.{Feed}
use Rattle.teco_driver.specs.declared.host.Host.{Host}
use Rattle.teco_fs.specs.Seen.{disk_seen}
use Rattle.teco_serve.specs.Exchange.{HasRung}
use Rattle.teco_serve.specs.declared.fate.Fate.{Fate}
use Rattle.teco_driver.proofs.Doings.{reads_all}
use Rattle.teco_driver.proofs.giving.edit_given.Goals as goal
use Rattle.teco_driver.proofs.giving.edit_given.Goals.{in-Stream, in-Bytes}

-- a run by the same feed, with the same end
the_same : {D I S A T : Type 0} (view : HostView D I S T) (line : Line) (name : List ℕ) (old : Host S A T D) {feed given : Feed} {new left : Host S A T D} {fate so : Fate}
    → feed ≡ given → new ≡ left → fate ≡ so → EditsGiven view line given name old left so → EditsGiven view line feed name old new fate
the_same {D} {I} {S} {A} {T} view line name old {feed} {given} {new} {left} {fate} {so} same_feed same_host same_fate run =
    subst (λ (f : Feed). EditsGiven view line f name old new fate) (sym same_feed)
    (subst (λ (h : Host S A T D). EditsGiven view line given name old h fate) (sym same_host)
    (subst (λ (f : Fate). EditsGiven view line given name old left f) (sym same_fate) run))

pub returns : goal.returns
returns g c =
    let view = host_view (disk_seen g.D.Disk g.D.Input.Source) g.S.Source g.T.Terminal.screen (HasRung g.A.Stop.answered) in
    let line = c.args.line.now in
    let name = c.args.name.now in
    let host = c.args.host.now in
    rw (sym c.is_some.ensures ∙ c.if-is_some.false) (record {
      fate = c.match-feed.fate;
      run = elim c.match-feed.branch [
        | in-Stream w ↦ the_same view line name host w.in-Stream.is w.host-is w.fate-is w.edit_by_stream-fate.ensures
        | in-Bytes w ↦ the_same view line name host w.in-Bytes.is w.host-is w.fate-is (record {
          kept = w.edit_by-fate.ensures.still;
          first = w.new-given.result;
          last = w.edit_by-fate.new.commands;
          coming = w.new-given.ensures.coming;
          edits = rw w.depth_of-depth.ensures.depth at w.edit_by-fate.ensures.edits;
          reads = reads_all (λ bytes gave. omega (arith, gave.count)) w.edit_by-fate.ensures.edits;
        })
      ];
      end = c.conclude.ensures;
    })

pub returns-then-is_some : goal.returns-then-is_some
returns-then-is_some g c = rw (sym c.is_some.ensures ∙ c.if-is_some.true) c.keep_given.ensures

use Rattle.std.proofs.Common.{◌≡◌, ℕ, List, subst, sym}
use Rattle.teco_cli.specs.declared.line.Line.{Line}
use Rattle.teco_driver.specs.Given.{HostView, host_view}
use Rattle.teco_driver.specs.Sessions.{EditsKeptGiven}
use Rattle.teco_driver.specs.declared.giving.Feed.{Feed}
use Rattle.teco_driver.specs.declared.host.Host.{Host}
use Rattle.teco_driver.specs.declared.keeping.SessionEnd.{SessionEnd}
use Rattle.teco_driver.proofs.keeping.keep_given.Goals as goal
use Rattle.teco_driver.proofs.keeping.keep_given.Goals.{in-Stream, in-Bytes}
use Rattle.teco_fs.specs.Seen.{disk_seen}
use Rattle.teco_io.specs.Terminal.{Screen}
use Rattle.teco_serve.specs.Exchange.{HasRung}

-- a run by the same feed, with the same end
the_same : {D I S A T E : Type 0} (view : HostView D I S T) (errors : E → Screen) (line : Line) (name : List ℕ) (old : Host S A T D) (told : E) {feed given : Feed} {new left : Host S A T D}
    {telling heard : E} {end so : SessionEnd} → feed ≡ given → new ≡ left → telling ≡ heard → end ≡ so
    → EditsKeptGiven view errors line given name old left told heard so → EditsKeptGiven view errors line feed name old new told telling end
the_same {D} {I} {S} {A} {T} {E} view errors line name old told {feed} {given} {new} {left} {telling} {heard} {end} {so} same_feed same_host same_told same_end run =
    subst (λ (f : Feed). EditsKeptGiven view errors line f name old new told telling end) (sym same_feed)
    (subst (λ (h : Host S A T D). EditsKeptGiven view errors line given name old h told telling end) (sym same_host)
    (subst (λ (t : E). EditsKeptGiven view errors line given name old left told t end) (sym same_told)
    (subst (λ (e : SessionEnd). EditsKeptGiven view errors line given name old left told heard e) (sym same_end) run)))

pub returns : goal.returns
returns g c =
    let view = host_view (disk_seen g.D.Disk g.D.Input.Source) g.S.Source g.T.Terminal.screen (HasRung g.A.Stop.answered) in
    let errors = g.E.Terminal.screen in
    let line = c.args.line.now in
    let name = c.args.name.now in
    let host = c.args.host.now in
    let told = c.args.errors.now in
    record {
      between = c.match-feed.errors;
      end = c.match-feed.end;
      run = elim c.match-feed.branch [
        | in-Stream w ↦ the_same view errors line name host told w.in-Stream.is w.host-is w.errors-is w.end-is w.keep_by_stream-end.ensures
        | in-Bytes w ↦ the_same view errors line name host told w.in-Bytes.is w.host-is w.errors-is w.end-is (record {
          kept = w.keep_by-end.ensures.still;
          first = w.new-given.result;
          last = w.keep_by-end.new.commands;
          coming = w.new-given.ensures.coming;
          keeps = w.keep_by-end.ensures.keeps;
        })
      ];
      concludes = c.conclude_kept.ensures;
    }

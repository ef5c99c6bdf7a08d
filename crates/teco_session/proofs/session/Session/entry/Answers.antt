use Rattle.std.proofs.Common.{◌<◌, length, sym, ap, ◌∙◌, subst}
use Rattle.teco_session.specs.Strings.{KeptString}
use Rattle.teco_session.specs.Kept.{KeptSession, IsSession, string_at}
use Rattle.teco_session.proofs.Turning.{length-notes}
use Rattle.teco_session.proofs.Bounds.{entry_small}
use Rattle.teco_session.proofs.session.Session.entry.Goals as goal

pub get-requires : goal.get-requires
get-requires c = subst (λ (s : KeptSession). c.args.i < length s.strings) (sym c.self.view_is) c.requires

pub returns-clause-value : goal.returns-clause-value
returns-clause-value c = ap (λ (x : KeptString). x.changes) c.get.ensures ∙ ap (λ (s : KeptSession). (string_at s c.args.i).changes) c.self.view_is

pub returns-clause-small : goal.returns-clause-small
returns-clause-small c =
    let ok : IsSession c.args.self.now = subst IsSession c.self.view_is c.self.invariant in
    entry_small c.record_laws.ensures.forth c.record_laws.ensures.held c.args.self.now c.args.i _ ok c.requires (length-notes c.args.self.now ok.within)

use Rattle.std.proofs.Common.{◌≡◌, ◌∙◌, ◌+◌, ◌<◌, ap, subst, sym}
use Rattle.std.specs.Prelude.{IfNone, IfSome}
use Rattle.teco_debugger.specs.Finding.{IsAsNowFrom, last_change}
use Rattle.teco_debugger.specs.Walk.{KeptWalk, kept_walk}
use Rattle.teco_debugger.proofs.Changes.{as_ever, as_now, made}
use Rattle.teco_debugger.proofs.walk.Walk.last_change.Goals as goal

pub returns-clause-made : goal.returns-clause-made
returns-clause-made c =
    let found : c.last_listed.result ≡ last_change c.args.part.now (kept_walk c.self.inside).changes =
    c.last_listed.ensures ∙ ap (λ (w : KeptWalk). last_change c.args.part.now w.changes) (sym c.self.view_is) in
    subst (λ (w : KeptWalk). IfSome c.last_listed.result (λ n. n < w.steps)) c.self.view_is
    (made c.record_laws.ensures.back c.args.part.now c.self.inside c.last_listed.result c.self.invariant c.editor-leads.ensures.leads found)

pub returns-clause-since : goal.returns-clause-since
returns-clause-since c =
    let found : c.last_listed.result ≡ last_change c.args.part.now (kept_walk c.self.inside).changes =
    c.last_listed.ensures ∙ ap (λ (w : KeptWalk). last_change c.args.part.now w.changes) (sym c.self.view_is) in
    subst (λ (w : KeptWalk). IfSome c.last_listed.result (λ n. IsAsNowFrom (n + 1) c.args.part.now w)) c.self.view_is
    (as_now c.record_laws.ensures.back c.args.part.now c.self.inside c.last_listed.result c.self.invariant c.editor-leads.ensures.leads found)

pub returns-clause-ever : goal.returns-clause-ever
returns-clause-ever c =
    let found : c.last_listed.result ≡ last_change c.args.part.now (kept_walk c.self.inside).changes =
    c.last_listed.ensures ∙ ap (λ (w : KeptWalk). last_change c.args.part.now w.changes) (sym c.self.view_is) in
    subst (λ (w : KeptWalk). IfNone c.last_listed.result (IsAsNowFrom 0 c.args.part.now w)) c.self.view_is
    (as_ever c.record_laws.ensures.back c.args.part.now c.self.inside c.last_listed.result c.self.invariant c.editor-leads.ensures.leads found)

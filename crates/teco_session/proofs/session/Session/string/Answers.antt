use Rattle.std.proofs.Common.{◌≡◌, ◌<◌, ◌≤◌, length, sym, ap, ◌∙◌, subst}
use Rattle.teco_session.specs.Strings.{KeptString}
use Rattle.teco_session.specs.Kept.{KeptSession, string_at}
use Rattle.teco_session.proofs.Headings.{has_text}
use Rattle.teco_session.proofs.session.Session.string.Goals as goal

pub get-requires : goal.get-requires
get-requires c = subst (λ (s : KeptSession). c.args.i < length s.strings) (sym c.self.view_is) c.requires

value_now : (c : goal.After-as_slice) → c.as_slice.result.now ≡ (string_at c.args.self.now c.args.i).text
value_now c =
    c.as_slice.ensures ∙ ap (λ (x : KeptString). x.text) c.get.ensures ∙ ap (λ (s : KeptSession). (string_at s c.args.i).text) c.self.view_is

pub returns-clause-value : goal.returns-clause-value
returns-clause-value c = value_now c

pub returns-clause-history : goal.returns-clause-history
returns-clause-history c =
    let within = subst (λ (s : KeptSession). s.cursor ≤ length s.strings) c.self.view_is c.self.invariant.within in
    value_now c ∙ sym (has_text c.args.self.now c.args.i _ _ within c.requires)

use Rattle.std.proofs.Common.{◌≤◌, ℕ, Option, IfSome, length, sym, ◌∙◌, subst}
use Rattle.std.specs.BTreeMap.{BTreeMap}
use Rattle.teco_scan.specs.declared.gathering.ListTags.{ListTags}
use Rattle.teco_scan.specs.Gathered.{AreTags}
use Rattle.teco_scan.specs.declared.text.Text.{Text}
use Rattle.teco_scan.specs.GatheredLists.{AreGathered}
use Rattle.teco_scan.proofs.gathering.Tags.find.Goals as goal

pub returns-clause-within : goal.returns-clause-within
returns-clause-within c =
    let list = c.in-Some-get.list.now in
    let gathered : AreGathered c.args.self.now.profile c.args.self.now.bytes.now c.in-Some.lists =
    subst (λ (text : Text). AreGathered text.profile text.bytes.now c.in-Some.lists) c.self.view_is
    (subst (λ (o : Option (BTreeMap ℕ ListTags)). IfSome o (AreGathered c.self.inside.text.profile c.self.inside.text.bytes.now)) c.in-Some.is c.self.invariant) in
    let there : AreTags c.args.self.now.profile c.args.self.now.bytes.now c.args.block_start list.depth list.places =
    subst (λ (o : Option ListTags). IfSome o (λ l. AreTags c.args.self.now.profile c.args.self.now.bytes.now c.args.block_start l.depth l.places)) (sym c.in-Some-get.ensures.value) (gathered c.args.block_start) in
    subst (λ (o : Option ℕ). IfSome o (λ to. to ≤ length c.args.self.now.bytes.now)) (sym c.get-2.ensures.value ∙ sym c.copied.ensures) (there.within c.args.name.now)

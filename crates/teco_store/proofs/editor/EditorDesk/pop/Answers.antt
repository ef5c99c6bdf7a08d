use Rattle.std.proofs.Common.{◌≤◌, length, rules, subst, sym}
use Rattle.std.proofs.lemmas.List.Elements.{All-head, All-rest, All-set}
use Rattle.teco_core.specs.Contents.{content_of}
use Rattle.teco_core.specs.Number.{IsNumber}
use Rattle.teco_core.specs.Register.{Content}
use Rattle.teco_core.specs.declared.limits.TheConstants.{TEXT_LIMIT}
use Rattle.teco_store.specs.State.{AreNumbers, AreSmall}
use Rattle.teco_store.proofs.editor.EditorDesk.pop.Goals as goal

abbrev IsSmall : Content → Type 0
IsSmall c = length c.text ≤ TEXT_LIMIT

abbrev HasNumber : Content → Type 0
HasNumber c = IsNumber c.number

pub invariant_of-self : goal.invariant_of-self
invariant_of-self c =
    let top = content_of c.pop-value.result in
    let rest = c.pop-value.new.self in
    let old = c.self.inside.pushed in
    let all = c.self.invariant.0.pushed in
    let numbers = c.self.invariant.0.pushed_numbers in (
      record {
        pointer = search rules;
        text = search rules;
        room = search rules;
        all = search rules;
        registers = subst AreSmall (sym c.set.ensures.put)
            (All-set IsSmall c.self.inside.registers c.args.q top (All-head IsSmall top rest (subst AreSmall c.pop-value.ensures all)) c.self.invariant.0.registers);
        numbers = subst AreNumbers (sym c.set.ensures.put)
            (All-set HasNumber c.self.inside.registers c.args.q top (All-head HasNumber top rest (subst AreNumbers c.pop-value.ensures numbers)) c.self.invariant.0.numbers);
        few = search rules;
        pushed = All-rest IsSmall top rest old c.pop-value.ensures all;
        pushed_numbers = All-rest HasNumber top rest old c.pop-value.ensures numbers;
        place = search rules;
        input = search rules;
        stored = search rules;
        output = search rules;
        last_search = search rules;
      },
      c.self.invariant.1,
    )

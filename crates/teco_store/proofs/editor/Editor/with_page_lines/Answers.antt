use Rattle.std.proofs.Common.{◌≤◌, length, arith, rules, subst, sym}
use Rattle.std.proofs.lemmas.Int.{ints}
use Rattle.std.proofs.lemmas.List.Elements.{All-replicate}
use Rattle.teco_core.specs.Number.{IsNumber}
use Rattle.teco_core.specs.Register.{Content, blank}
use Rattle.teco_core.specs.declared.limits.TheConstants.{TEXT_LIMIT}
use Rattle.teco_store.specs.State.{AreNumbers, AreSmall}
use Rattle.teco_store.proofs.Outputs.{nothing_in}
use Rattle.teco_store.proofs.editor.Editor.with_page_lines.Goals as goal

blank_fits : IsNumber blank.number
blank_fits = (omega (arith, ints), omega (arith, ints))

pub invariant_of-result : goal.invariant_of-result
invariant_of-result c = (
  record {
    pointer = search rules;
    text = search rules;
    room = search rules;
    all = search rules;
    registers = subst AreSmall (sym c.new-2.ensures) (All-replicate (λ (c : Content). length c.text ≤ TEXT_LIMIT) 36 blank (omega arith));
    numbers = subst AreNumbers (sym c.new-2.ensures) (All-replicate (λ (c : Content). IsNumber c.number) 36 blank blank_fits);
    few = search rules;
    pushed = subst AreSmall (sym c.new-3.ensures) (All-replicate (λ (c : Content). length c.text ≤ TEXT_LIMIT) 0 blank (omega arith));
    pushed_numbers = subst AreNumbers (sym c.new-3.ensures) (All-replicate (λ (c : Content). IsNumber c.number) 0 blank blank_fits);
    place = search rules;
    input = search rules;
    stored = search rules;
    output = search rules;
    last_search = search rules;
  },
  nothing_in c.new-4.result c.args.input.items c.new-4.ensures.own c.new-4.ensures.parts c.new-4.ensures.len,
)

use Rattle.std.proofs.Common.{◌≡◌, ℕ, List, length, Result, Ok, Err, sym, ap, ◌∙◌, refl, arith}
use Rattle.teco_core.specs.declared.code.Code.{Code}
use Rattle.teco_core.specs.declared.code.Code.TheVariants.{Ice}
use Rattle.teco_search.specs.declared.element.Element.{Element}
use Rattle.teco_search.specs.Reading.{read}
use Rattle.teco_search.specs.Spelling.{Spells, SpellsNothing}
use Rattle.teco_search.proofs.ReadIsSpelled.{elements_spelled}
use Rattle.teco_search.proofs.SpelledIsRead.{elements_read}
use Rattle.teco_search.proofs.OnlyIce.{OnlyIce, elements_ice}
use Rattle.teco_search.proofs.law.search_texts.Goals as goal

read_spelled : (text : List ℕ) (es : List Element) → read text ≡ Ok es → Spells text es
unfolding read
read_spelled text es is = elements_spelled text (length text) 0 es (omega arith) is

spelled_read : (text : List ℕ) (es : List Element) → Spells text es → read text ≡ Ok es
unfolding read
spelled_read text es spelled = elements_read text (length text) 0 text es spelled (omega arith) refl

read_ice : (text : List ℕ) → OnlyIce (read text)
unfolding read
read_ice text = elements_ice text (length text) 0

nothing_read : (text : List ℕ) → SpellsNothing text → read text ≡ Err Ice
nothing_read text none = by (read text) refl (read_ice text)
  where
    by : (r : Result (List Element) Code) → read text ≡ r → OnlyIce r → r ≡ Err Ice
    by (Ok es) is only = absurd (none es (read_spelled text es is))
    by (Err e) is only = ap (λ x. let r : Result (List Element) Code = Err x in r) only

read_nothing : (text : List ℕ) → read text ≡ Err Ice → SpellsNothing text
read_nothing text is es spelled = let both : ◌≡◌ {A = Result (List Element) Code} (Ok es) (Err Ice) = sym (spelled_read text es spelled) ∙ is in cc

pub returns : goal.returns
returns c = record {
  spelled = λ text es. (read_spelled text es, spelled_read text es);
  refused = λ text. (read_nothing text, nothing_read text);
}

-- Search texts without controls.
use Rattle.std.proofs.Common.{◌≡◌, ℕ, suc, ◌<◌, true, false, not, List, [], ◌∷◌, length, map, refl, ap, arith}
use Rattle.std.specs.Prelude.{All}
use Rattle.std.specs.List.{list_all}
use Rattle.std.proofs.lemmas.Bool.{and_from, and_parts, not-true}
use Rattle.std.proofs.lemmas.List.{length-map}
use Rattle.std.proofs.lemmas.List.Elements.{All-nil, All-cons}
use Rattle.teco_core.specs.declared.case_mode.CaseMode.TheVariants.{Exact}
use Rattle.teco_search.specs.declared.element.SetItem.TheVariants.{Byte}
use Rattle.teco_search.specs.declared.element.OneByte.TheVariants.{Single}
use Rattle.teco_search.specs.Law.{ReadsAsItself, MatchesWhereItIs}
use Rattle.teco_search.specs.Literal.{plain, is_exact}
use Rattle.teco_search.specs.Reading.{read}
use Rattle.teco_search.specs.Spelling.{SpellsItem, SpellsOne, SpellsElement, Spells, is_control}
use Rattle.teco_search.proofs.Literals.{literal_hit, literal_only}
use Rattle.teco_search.proofs.Past.{match_past}
use Rattle.teco_search.proofs.SpelledIsRead.{elements_read}

spells_itself : (bytes : List ℕ) → All (λ b. is_control b ≡ false) bytes → Spells bytes (map plain bytes)
spells_itself [] free = Spells.nothing
spells_itself (b ∷ bs) free =
    Spells.next (b ∷ []) bs (plain b) (map plain bs) (SpellsElement.among (b ∷ []) (Single (Byte b)) (SpellsOne.single (b ∷ []) (Byte b) (SpellsItem.itself b (free 0 b (omega arith))))) (spells_itself bs (λ k d below. free (suc k) d (omega arith)))

pub reads_as_itself : (bytes : List ℕ) → ReadsAsItself bytes
unfolding read
reads_as_itself bytes free = elements_read bytes (length bytes) 0 bytes (map plain bytes) (spells_itself bytes free) (omega arith) refl

-- In exact case each byte admits itself alone.
all_exact : (bytes : List ℕ) → list_all (is_exact Exact) bytes ≡ true
all_exact [] = refl
all_exact (b ∷ bs) = all_exact bs

pub matches_where_it_is : (bytes text : List ℕ) (p q : ℕ) → 0 < length bytes → MatchesWhereItIs bytes text p q
matches_where_it_is bytes text p q some = (
  λ is.
      let ends = match_past Exact (map plain bytes) text p q (omega (arith, length-map bytes plain)) is in
      literal_only Exact text bytes p q (omega (arith, ends.past, ends.within)) (all_exact bytes) is,
  λ there. rw there.1 (literal_hit Exact text bytes p (all_exact bytes) there.0),
)

-- Each byte is no control.
pub no_controls : (bytes : List ℕ) → list_all (λ b. not (is_control b)) bytes ≡ true → All (λ b. is_control b ≡ false) bytes
no_controls [] each = All-nil (λ b. is_control b ≡ false)
no_controls (b ∷ bs) each =
    let parts = and_parts (not (is_control b)) (list_all (λ c. not (is_control c)) bs) each in
    All-cons (λ c. is_control c ≡ false) b bs (not-true (is_control b) parts.0) (no_controls bs parts.1)

pub all_free : (bytes : List ℕ) → All (λ b. is_control b ≡ false) bytes → list_all (λ b. not (is_control b)) bytes ≡ true
all_free [] free = refl
all_free (b ∷ bs) free =
    and_from (not (is_control b)) (list_all (λ c. not (is_control c)) bs) (ap not (free 0 b (omega arith))) (all_free bs (λ k d below. free (suc k) d (omega arith)))

-- What the words of an event are read as.
use Rattle.std.proofs.Common.{◌≡◌, ℕ, zero, suc, ◌+◌, ◌<◌, ◌^◌, true, false, List, [], ◌∷◌, ◌++◌, length, take, drop, get_or, Option, Some, None, Ok, inl, inr, refl, sym, ap, ◌∙◌, subst, arith, eqb, length-append}
use Rattle.std.specs.Prelude.{codes, decimal}
use Rattle.std.proofs.Math.ListN.{get_or-append}
use Rattle.std.proofs.Math.Seq.{take-append_seam, drop-append-add, get_or-append_seam}
use Rattle.std.proofs.lemmas.Bool.{cases_lt}
use Rattle.memchr.specs.Find.{IsFirstByte, is_byte}
use Rattle.teco_source.specs.Source.{commands_of}
use Rattle.teco_source.specs.Listing.{spelled}
use Rattle.teco_source.specs.declared.reader.Mode.TheVariants.{First}
use Rattle.teco_journal.specs.declared.record.Record.{Record}
use Rattle.teco_journal.specs.Events.{Event, ran, undid, redid, cut, forgot, event_told}
use Rattle.teco_journal.specs.Lines.{words_of}
use Rattle.teco_journal.proofs.Lacking.{lacks, first_lacks, rest_lacks, same_byte}
use Rattle.teco_journal.proofs.EventWords.{decimal_lacks, texts_are_said, in_parts, kind}

lacks_at : (c k : ℕ) (bs : List ℕ) → lacks c bs ≡ true → k < length bs → eqb (get_or bs k 0) c ≡ false
lacks_at c k [] h less = absurd (omega (arith, less))
lacks_at c zero (b ∷ bs) h less = first_lacks c b bs h
lacks_at c (suc k) (b ∷ bs) h less = lacks_at c k bs (rest_lacks c b bs h) (omega (arith, less))

long_enough : (c : ℕ) (front back : List ℕ) → length front < length (front ++ c ∷ back)
long_enough c front back = (let two = length-append front (c ∷ back) in omega (arith, two))

same_there : (c : ℕ) (front back : List ℕ) → eqb (get_or (front ++ c ∷ back) (length front) 0) c ≡ true
same_there c front back = ap (λ (b : ℕ). eqb b c) (get_or-append_seam front c back 0) ∙ same_byte c

-- The first such byte stands where a front that lacks it ends.
pub first_place : (c : ℕ) (front back : List ℕ) (r : Option ℕ) → lacks c front ≡ true → IsFirstByte (is_byte c) (front ++ c ∷ back) r → r ≡ Some (length front)
first_place c front back None h f = absurd (f (length front) (omega arith) (long_enough c front back) (same_there c front back))
first_place c front back (Some k) h f =
    elim (cases_lt k (length front)) [
      | inl below ↦ (let off : eqb (get_or (front ++ c ∷ back) k 0) c ≡ false = ap (λ (b : ℕ). eqb b c) (get_or-append front (c ∷ back) 0 k below) ∙ lacks_at c k front h below in
          let on : eqb (get_or (front ++ c ∷ back) k 0) c ≡ true = f.1 in absurd (cc))
      | inr past ↦ elim (cases_lt (length front) k) [
        | inl above ↦ absurd (f.0.before (length front) (omega arith) above (same_there c front back))
        | inr at ↦ (let same : k ≡ length front = omega arith in ap Some same)
      ]
    ]

pub front_taken : (c : ℕ) (front back : List ℕ) → take (length front) (front ++ c ∷ back) ≡ front
front_taken c front back = take-append_seam front (c ∷ back)

pub back_left : (c : ℕ) (front back : List ℕ) → drop (length front + 1) (front ++ c ∷ back) ≡ back
back_left c front back = drop-append-add front (c ∷ back) 1

-- The words of a run, after the first one: where the blank stands, and what is before it and after it.
module _ (rest text : List ℕ) (steps : ℕ) (fits : steps < 2 ^ 64) (is : rest ≡ ((decimal steps ++ 32 ∷ []) ++ spelled First text) ++ 10 ∷ []) where
  parted : rest ≡ decimal steps ++ 32 ∷ (spelled First text ++ 10 ∷ [])
  parted = is ∙ in_parts (decimal steps) (spelled First text)

  pub run_blank : (r : Option ℕ) → IsFirstByte (is_byte 32) rest r → r ≡ Some (length (decimal steps))
  run_blank r f =
      first_place 32 (decimal steps) (spelled First text ++ 10 ∷ []) r (decimal_lacks 32 steps (omega arith) fits)
      (subst (λ (l : List ℕ). IsFirstByte (is_byte 32) l r) parted f)

  pub run_steps : take (length (decimal steps)) rest ≡ decimal steps
  run_steps = ap (take (length (decimal steps))) parted ∙ front_taken 32 (decimal steps) (spelled First text ++ 10 ∷ [])

  pub run_text : commands_of (drop (length (decimal steps) + 1) rest) ≡ Ok text
  run_text =
      ap (λ (l : List ℕ). commands_of (drop (length (decimal steps) + 1) l)) parted
      ∙ ap commands_of (back_left 32 (decimal steps) (spelled First text ++ 10 ∷ [])) ∙ texts_are_said text

-- The words of a rewind, after the first one.
module _ (rest : List ℕ) (steps : ℕ) (fits : steps < 2 ^ 64) (is : rest ≡ decimal steps ++ 10 ∷ []) where
  pub rewind_end : (r : Option ℕ) → IsFirstByte (is_byte 10) rest r → r ≡ Some (length (decimal steps))
  rewind_end r f =
      first_place 10 (decimal steps) [] r (decimal_lacks 10 steps (omega arith) fits) (subst (λ (l : List ℕ). IsFirstByte (is_byte 10) l r) is f)

  pub rewind_steps : take (length (decimal steps)) rest ≡ decimal steps
  rewind_steps = ap (take (length (decimal steps))) is ∙ front_taken 10 (decimal steps) []

-- Whose words begin so
pub begins_run : (words rest : List ℕ) (e : Event) → words ≡ codes "run " ++ rest → words ≡ words_of e
    → (steps : ℕ) × (text : List ℕ) × (e ≡ ran steps text) × (rest ≡ ((decimal steps ++ 32 ∷ []) ++ spelled First text) ++ 10 ∷ [])
begins_run words rest (ran steps text) begins is = (steps, text, refl, ap (drop 4) (sym begins ∙ is))
begins_run words rest e begins is = (let same : kind (codes "run " ++ rest) ≡ kind (words_of e) = ap kind (sym begins ∙ is) in absurd (omega arith))

pub begins_rewind : (words rest : List ℕ) (e : Event) → words ≡ codes "rewind " ++ rest → words ≡ words_of e
    → (steps : ℕ) × (e ≡ cut steps) × (rest ≡ decimal steps ++ 10 ∷ [])
begins_rewind words rest (cut steps) begins is = (steps, refl, ap (drop 7) (sym begins ∙ is))
begins_rewind words rest e begins is = (let same : kind (codes "rewind " ++ rest) ≡ kind (words_of e) = ap kind (sym begins ∙ is) in absurd (omega arith))

-- words that begin neither so
pub plain_is : (words : List ℕ) (told : Option Record) → ((rest : List ℕ) → words ≡ codes "run " ++ rest → ⊥) → ((rest : List ℕ) → words ≡ codes "rewind " ++ rest → ⊥)
    → (words ≡ words_of undid → event_told told ≡ Some undid) → (words ≡ words_of redid → event_told told ≡ Some redid) → (words ≡ words_of forgot → event_told told ≡ Some forgot)
    → (e : Event) → words ≡ words_of e → event_told told ≡ Some e
plain_is words told run rewind u r f (ran steps text) is = absurd (run (((decimal steps ++ 32 ∷ []) ++ spelled First text) ++ 10 ∷ []) is)
plain_is words told run rewind u r f (cut steps) is = absurd (rewind (decimal steps ++ 10 ∷ []) is)
plain_is words told run rewind u r f undid is = u is
plain_is words told run rewind u r f redid is = r is
plain_is words told run rewind u r f forgot is = f is

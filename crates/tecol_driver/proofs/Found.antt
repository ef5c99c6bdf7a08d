-- The changes of tokens and strings, put after one another.
use Rattle.std.proofs.Common.{◌≡◌, ◌∙◌, ℕ, ◌+◌, ◌-◌, Bool, true, false, List, [], ◌++◌, drop, length, take, sym, ap, subst, append_assoc, append-nil}
use Rattle.std.proofs.lemmas.List.{take_rest}
use Rattle.teco_scan.specs.Stream.{texts_of}
use Rattle.tecol_driver.specs.declared.synonyms.Change.{Change}
use Rattle.tecol_driver.specs.Synonyms.{AreChanges, AreOfString, AreOfTokens, IsPair, of_faulty, of_rest, of_string}

-- with the changes of what is left, those so far are all
abbrev pub Completes : (List Change → Type 0) → (List Change → Type 0) → List Change → Type 0
Completes rest all so_far = (later : List Change) → rest later → all (so_far ++ later)

-- what was put before, and then more
pub put_more : (old mid new so_far more : List Change) → mid ≡ old ++ so_far → new ≡ mid ++ more → new ≡ old ++ (so_far ++ more)
put_more old mid new so_far more is is_new = is_new ∙ ap (λ (front : List Change). front ++ more) is ∙ append_assoc old so_far more

-- one part more completes them
pub part_more : (part rest all : List Change → Type 0) (so_far more : List Change) → ((later : List Change) → rest later → part (more ++ later)) → Completes part all so_far
    → Completes rest all (so_far ++ more)
part_more part rest all so_far more one so_far_all later is = subst all (sym (append_assoc so_far more later)) (so_far_all (more ++ later) (one later is))

-- nothing more is left
pub part_last : (rest all : List Change → Type 0) (so_far : List Change) → rest [] → Completes rest all so_far → all so_far
part_last rest all so_far none so_far_all = subst all (append-nil so_far) (so_far_all [] none)

-- ---- the changes of strings

module _ (commands : List ℕ) (start : ℕ) where
  module _ (n : ℕ) (whole : Bool) (changes : List Change) (pair : IsPair (take (length commands - start) (drop start commands)) n)
      (string : AreOfString (take (start + n) commands) start changes whole) where
    pair_here : IsPair (drop start commands) n
    pair_here = subst (λ (bs : List ℕ). IsPair bs n) (take_rest commands start) pair

    -- a string in which something can't be read is the last
    pub faulty_last : whole ≡ false → AreChanges commands start changes
    faulty_last is = of_faulty n pair_here (subst (AreOfString (take (start + n) commands) start changes) is string)

    pub string_more : whole ≡ true → (later : List Change) → AreChanges commands (start + n + 1) later → AreChanges commands start (changes ++ later)
    string_more is later rest = of_string n pair_here (subst (AreOfString (take (start + n) commands) start changes) is string) rest

  -- what comes after the last pair
  pub rest_last : (whole : Bool) (changes : List Change) → texts_of (take (length commands - start) (drop start commands)) ≡ []
      → AreOfTokens commands false start changes whole → AreChanges commands start changes
  rest_last whole changes none tokens = of_rest (sym (ap texts_of (take_rest commands start)) ∙ none) tokens

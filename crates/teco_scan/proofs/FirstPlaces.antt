-- What is gathered of the tags of a list, tag by tag.
use Rattle.std.proofs.Common.{◌≡◌, ◌≤◌, ℕ, Bool, true, false, List, length, drop, Option, Some, None, IfSome, is_some, refl, sym, ap, ◌∙◌, cond as choose}
use Rattle.teco_scan.specs.Closes.{tag_of}
use Rattle.teco_scan.specs.Gathered.{AreTags, Places, place_of, with_tag}
use Rattle.teco_scan.specs.Lists.{tag_at}
use Rattle.teco_core.specs.declared.profile.Profile.{Profile}

-- a name that has a place keeps it
pub kept : (o : Option ℕ) (named : Bool) (to : ℕ) → (named ≡ true → is_some o ≡ true) → o ≡ with_tag named to o
kept (Some place) named to has = refl
kept None true to has = let no : false ≡ true = has refl in absurd cc
kept None false to has = refl

-- one that has none gets it
pub added : (o : Option ℕ) (named : Bool) (to : ℕ) → (named ≡ true → is_some o ≡ false) → choose named (Some to) o ≡ with_tag named to o
added (Some place) true to has = let no : true ≡ false = has refl in absurd cc
added (Some place) false to has = refl
added None true to has = refl
added None false to has = refl

-- what was found, or else what comes later
abbrev pub first_of : Option (List ℕ) → Option (List ℕ) → Option (List ℕ)
first_of (Some bs) later = Some bs
first_of None later = later

nothing_later : (o : Option (List ℕ)) → first_of o None ≡ o
nothing_later (Some bs) = refl
nothing_later None = refl

-- one tag on: it is found where it is the first of its name
pub one_more : (text : List ℕ) (o : Option ℕ) (named : Bool) (to : ℕ) (later : Option (List ℕ))
    → first_of (tag_of text (with_tag named to o)) later ≡ first_of (tag_of text o) (choose named (Some (drop to text)) later)
one_more text (Some place) named to later = refl
one_more text None true to later = refl
one_more text None false to later = refl

pub one_more_within : (n : ℕ) (o : Option ℕ) (named : Bool) (to : ℕ) → to ≤ n → IfSome o (λ p. p ≤ n) → IfSome (with_tag named to o) (λ p. p ≤ n)
one_more_within n (Some place) named to le within = within
one_more_within n None true to le within = le
one_more_within n None false to le within = tt

module _ (profile : Profile) (text : List ℕ) (start depth next : ℕ) (places : Places)
    (finds : (name : List ℕ) → first_of (tag_of text (place_of places name)) (tag_at profile name depth (drop next text)) ≡ tag_at profile name depth (drop start text))
  where
    -- no more tags come
    pub all_gathered : ((name : List ℕ) → IfSome (place_of places name) (λ to. to ≤ length text)) → ((name : List ℕ) → tag_at profile name depth (drop next text) ≡ None)
        → AreTags profile text start depth places
    all_gathered within none = record {
      finds = λ name.
          let found : Option (List ℕ) = tag_of text (place_of places name) in
          sym (nothing_later found) ∙ ap (λ (later : Option (List ℕ)). first_of found later) (sym (none name)) ∙ finds name;
      within = within;
    }

-- How a file is begun: it is cut to nothing, and then a head is written.
use Rattle.std.proofs.Common.{◌≡◌, ◌⊎◌, ℕ, List, [], Option, Some, None, refl, sym, ◌∙◌, subst, append-nil, inl, inr}
use Rattle.teco_fs.specs.Disk.{Appends, AppendsFront, Changes, CutsTo, Files, Passes, Same}
use Rattle.teco_recorder.specs.Recording.{HasIfThere, IsBegun}

is_there : (o : Option (List ℕ)) → (o ≡ None) ⊎ ((had : List ℕ) × (o ≡ Some had))
is_there None = inl refl
is_there (Some had) = inr (had, refl)

cut_begun : (name bytes : List ℕ) (f g : Files) → Same f g ⊎ CutsTo name 0 f g → IsBegun name bytes f g
cut_begun name bytes f g (inl same) = record { front = λ there. inl (same name); others = λ other apart. same other }
cut_begun name bytes f g (inr cut) = record {
  front = λ there. elim (is_there (f name)) [ inl gone ↦ absurd (there gone) | inr had ↦ inr ([], (bytes, refl), cut.whole had.0 had.1) ];
  others = λ other apart. cut.others other apart;
}

front_begun : (name bytes : List ℕ) (f g h : Files) → CutsTo name 0 f g → AppendsFront name bytes g h → IsBegun name bytes f h
front_begun name bytes f g h cut (front, is, put) = record {
  front = λ there. elim (is_there (f name)) [ inl gone ↦ absurd (there gone) | inr had ↦ inr (front, is, put.whole [] (cut.whole had.0 had.1)) ];
  others = λ other apart. put.others other apart ∙ cut.others other apart;
}

whole_begun : (name bytes : List ℕ) (f g h : Files) → CutsTo name 0 f g → Appends name bytes g h → HasIfThere name bytes f h
whole_begun name bytes f g h cut put = record {
  whole = λ there. elim (is_there (f name)) [ inl gone ↦ absurd (there gone) | inr had ↦ put.whole [] (cut.whole had.0 had.1) ];
  others = λ other apart. put.others other apart ∙ cut.others other apart;
}

pub cut_passes : (a : Option Files) (l m : Files → Type 0) (name one bytes : List ℕ) → one ≡ name
    → Passes a l m (λ f g. Same f g ⊎ CutsTo one 0 f g) → Passes a l m (IsBegun name bytes)
cut_passes a l m name one bytes named p before told now left = elim (p before told now left) [
  | inl was ↦ inl was
  | inr at ↦ inr (cut_begun name bytes before now (subst (λ n. Same before now ⊎ CutsTo n 0 before now) named at))
]

pub begun_passes : (a b : Option Files) (l m k : Files → Type 0) (name one two bytes piece : List ℕ) → one ≡ name → two ≡ name → piece ≡ bytes
    → Changes a b (CutsTo one 0) → Passes a l m (λ f g. Same f g ⊎ CutsTo one 0 f g) → Passes b m k (AppendsFront two piece)
    → Passes a l k (IsBegun name bytes)
begun_passes a b l m k name one two bytes piece first second whole cut p q before told now left =
    let mid = cut before told in
    elim (q mid.0 mid.1 now left) [
      | inl was ↦ cut_passes a l m name one bytes first p before told now was
      | inr at ↦ inr (front_begun name bytes before mid.0 now (subst (λ n. CutsTo n 0 before mid.0) first mid.2)
          (subst (λ n. AppendsFront n bytes mid.0 now) second (subst (λ b. AppendsFront two b mid.0 now) whole at)))
    ]

pub front_changes : (a b c : Option Files) (name one two bytes piece : List ℕ) → one ≡ name → two ≡ name → piece ≡ bytes
    → Changes a b (CutsTo one 0) → Changes b c (AppendsFront two piece) → Changes a c (IsBegun name bytes)
front_changes a b c name one two bytes piece first second whole cut put before told =
    let mid = cut before told in
    let end = put mid.0 mid.1 in (
      end.0,
      end.1,
      front_begun name bytes before mid.0 end.0 (subst (λ n. CutsTo n 0 before mid.0) first mid.2)
          (subst (λ n. AppendsFront n bytes mid.0 end.0) second (subst (λ b. AppendsFront two b mid.0 end.0) whole end.2)),
    )

pub whole_changes : (a b c d : Option Files) (name one two bytes piece : List ℕ) → one ≡ name → two ≡ name → piece ≡ bytes
    → Changes a b (CutsTo one 0) → Changes b c (Appends two piece) → d ≡ c → Changes a d (HasIfThere name bytes)
whole_changes a b c d name one two bytes piece first second whole cut put same before told =
    let mid = cut before told in
    let end = put mid.0 mid.1 in (
      end.0,
      same ∙ end.1,
      whole_begun name bytes before mid.0 end.0 (subst (λ n. CutsTo n 0 before mid.0) first mid.2)
          (subst (λ n. Appends n bytes mid.0 end.0) second (subst (λ b. Appends two b mid.0 end.0) whole end.2)),
    )

-- all that was written is a front of itself
pub appends_front : (b c d : Option Files) (name bytes : List ℕ) → Changes b c (Appends name bytes) → d ≡ c → Changes b d (AppendsFront name bytes)
appends_front b c d name bytes put same before told =
    let end = put before told in
    (end.0, same ∙ end.1, (bytes, ([], sym (append-nil bytes)), end.2))

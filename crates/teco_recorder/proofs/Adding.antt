-- What is written of a line, by the name and the bytes that the file and the line have.
use Rattle.std.proofs.Common.{◌≡◌, ◌++◌, ℕ, List, [], Option, ap, ◌∙◌, subst, inl, inr}
use Rattle.teco_fs.specs.Disk.{AppendsFront, Changes, Files, Passes}
use Rattle.teco_journal.specs.Events.{Event}
use Rattle.teco_journal.specs.Lines.{line_of, words_of}

-- a line is put behind nothing
pub line_is : (check last : List ℕ) (e f : Event) (before line piece : List ℕ) → piece ≡ line → line ≡ before ++ line_of check (words_of e)
    → before ≡ [] → e ≡ f → check ≡ last → piece ≡ line_of last (words_of f)
line_is check last e f before line piece whole made empty same begun =
    whole ∙ made ∙ ap (λ b. b ++ line_of check (words_of e)) empty ∙ ap (λ e. line_of check (words_of e)) same
    ∙ ap (λ c. line_of c (words_of f)) begun

front_at : (name one bytes piece : List ℕ) (f g : Files) → one ≡ name → piece ≡ bytes → AppendsFront one piece f g → AppendsFront name bytes f g
front_at name one bytes piece f g named whole put =
    subst (λ n. AppendsFront n bytes f g) named (subst (λ b. AppendsFront one b f g) whole put)

pub front_named : (a b : Option Files) (name one bytes piece : List ℕ) → one ≡ name → piece ≡ bytes → Changes a b (AppendsFront one piece)
    → Changes a b (AppendsFront name bytes)
front_named a b name one bytes piece named whole put before told =
    let end = put before told in
    (end.0, end.1, front_at name one bytes piece before end.0 named whole end.2)

pub passes_named : (a : Option Files) (l m : Files → Type 0) (name one bytes piece : List ℕ) → one ≡ name → piece ≡ bytes
    → Passes a l m (AppendsFront one piece) → Passes a l m (AppendsFront name bytes)
passes_named a l m name one bytes piece named whole put before told now left = elim (put before told now left) [
  | inl was ↦ inl was
  | inr at ↦ inr (front_at name one bytes piece before now named whole at)
]

-- How changes of files follow each other.
use Rattle.std.proofs.Common.{◌≡◌, ◌++◌, ℕ, List, [], Option, Some, refl, sym, ap, ◌∙◌, append-nil, append_assoc}
use Rattle.teco_fs.specs.Disk.{Appends, AppendsFront, Changes, Files}

pub appends_none : (name : List ℕ) (f : Files) → Appends name [] f f
appends_none name f = record {
  whole = λ had is. is ∙ ap Some (sym (append-nil had));
  others = λ other apart. refl;
}

pub appends_both : (name xs ys : List ℕ) (f g h : Files) → Appends name xs f g → Appends name ys g h → Appends name (xs ++ ys) f h
appends_both name xs ys f g h p q = record {
  whole = λ had is. q.whole (had ++ xs) (p.whole had is) ∙ ap Some (append_assoc had xs ys);
  others = λ other apart. q.others other apart ∙ p.others other apart;
}

pub front_none : (name : List ℕ) (f : Files) → AppendsFront name [] f f
front_none name f = ([], ([], refl), appends_none name f)

pub front_first : (name xs ys : List ℕ) (f g : Files) → AppendsFront name xs f g → AppendsFront name (xs ++ ys) f g
front_first name xs ys f g (front, (rest, is), p) = (front, (rest ++ ys, ap (λ l. l ++ ys) is ∙ append_assoc front rest ys), p)

pub front_second : (name xs ys : List ℕ) (f g h : Files) → Appends name xs f g → AppendsFront name ys g h → AppendsFront name (xs ++ ys) f h
front_second name xs ys f g h p (front, (rest, is), q) =
    (xs ++ front, (rest, ap (λ l. xs ++ l) is ∙ sym (append_assoc xs front rest)), appends_both name xs front f g h p q)

pub changes_both : {P Q R : Files → Files → Type 0} → (a b c : Option Files) → ((f g h : Files) → P f g → Q g h → R f h)
    → Changes a b P → Changes b c Q → Changes a c R
changes_both a b c both p q before is =
    let first = p before is in
    let second = q first.0 first.1 in
    (second.0, second.1, both before first.0 second.0 first.2 second.2)

pub changes_as : {P Q : Files → Files → Type 0} → (a b : Option Files) → ((f g : Files) → P f g → Q f g) → Changes a b P → Changes a b Q
changes_as a b so p before is = let first = p before is in (first.0, first.1, so before first.0 first.2)

pub changes_none : (P : Files → Files → Type 0) (a b : Option Files) → ((f : Files) → P f f) → b ≡ a → Changes a b P
changes_none P a b so same before is = (before, same ∙ is, so before)

-- the files of the second are those of the first
pub changes_to : {P : Files → Files → Type 0} → (a b c : Option Files) → c ≡ b → Changes a b P → Changes a c P
changes_to a b c same p before is = let first = p before is in (first.0, same ∙ first.1, first.2)

pub changes_from : {P : Files → Files → Type 0} → (a b c : Option Files) → b ≡ a → Changes b c P → Changes a c P
changes_from a b c same p before is = p before (same ∙ is)

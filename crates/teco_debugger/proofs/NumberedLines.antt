-- The lines of a text with their numbers, one after the other.
use Rattle.std.proofs.Common.{◌≡◌, ℕ, suc, ◌+◌, ◌-◌, ◌++◌, List, [], length, min, ap, sym, ◌∙◌, append_assoc, append-nil, add-one, nat_lt}
use Rattle.std.specs.Prelude.{Bool, false, if◌then◌else◌}
use Rattle.teco_core.specs.declared.profile.Profile.{Profile}
use Rattle.teco_debugger.specs.Around.{after_line, after_lines, around_place, first_numbered, line_number, lines_around, marked_numbered, numbered_lines}
use Rattle.teco_debugger.proofs.Texts.{three_from_right}

pub no_numbered : (text : List ℕ) (from : ℕ) (old : List ℕ) → old ≡ old ++ numbered_lines text from 0
unfolding numbered_lines
no_numbered text from old = sym (append-nil old)

pub more_numbered : (text : List ℕ) (from k : ℕ) (rest old so new : List ℕ) → rest ≡ after_lines text (from + k) → so ≡ old ++ numbered_lines text from k
    → new ≡ so ++ first_numbered (from + k + 1) rest → new ≡ old ++ numbered_lines text from (k + 1)
unfolding numbered_lines
more_numbered text from k rest old so new rest_is a b =
    let line = first_numbered (from + k + 1) (after_lines text (from + k)) in
    rw add-one (b ∙ ap (λ r. so ++ first_numbered (from + k + 1) r) rest_is ∙ ap (λ s. s ++ line) a ∙ append_assoc old (numbered_lines text from k) line)

-- what comes after one line more
pub more_after : (text : List ℕ) (n m : ℕ) (rest next : List ℕ) → m ≡ suc n → rest ≡ after_lines text n → next ≡ after_line rest → next ≡ after_lines text m
unfolding after_lines
more_after text n m rest next m_is rest_is next_is = rw m_is (next_is ∙ ap after_line rest_is)

-- the lines before that of a place, that one, and those after it
pub around_is : (p : Profile) (text : List ℕ) (at n number first count : ℕ) (old one two new : List ℕ) → number ≡ line_number text at → nat_lt (length text) at ≡ false
    → first ≡ number - 1 - n → count ≡ min n (number - 1) → one ≡ old ++ numbered_lines text first count → two ≡ one ++ marked_numbered p text at
    → new ≡ two ++ numbered_lines text number n → new ≡ old ++ around_place p text at n
unfolding lines_around
around_is p text at n number first count old one two new number_is within first_is count_is a b c =
    let line = line_number text at in
    let before =
    a ∙ ap (λ f. old ++ numbered_lines text f count) (first_is ∙ ap (λ m. m - 1 - n) number_is)
    ∙ ap (λ k. old ++ numbered_lines text (line - 1 - n) k) (count_is ∙ ap (λ m. min n (m - 1)) number_is) in
    three_from_right old one two new (numbered_lines text (line - 1 - n) (min n (line - 1))) (marked_numbered p text at) (numbered_lines text line n)
    before b (c ∙ ap (λ m. two ++ numbered_lines text m n) number_is)
    ∙ ap (λ (z : Bool). old ++ (if z then [] else lines_around p text at n)) (sym within)

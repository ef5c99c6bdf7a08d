-- What a session began over is no longer than its file.
use Rattle.std.proofs.Common.{◌≡◌, ◌+◌, ◌≤◌, ◌++◌, ℕ, List, length, drop, ap, arith, length-append}
use Rattle.std.specs.Prelude.{codes}
use Rattle.teco_journal.specs.Events.{Event}
use Rattle.teco_journal.specs.Heads.{Beginning, begun, depth_line, file_of, first_check, head_of, input_lines, number_line, start_lines, version, whole_head}
use Rattle.teco_journal.specs.Lines.{line_of, written}

front_shorter : (n : ℕ) (xs ys : List ℕ) → n ≤ length xs → n ≤ length (xs ++ ys)
front_shorter n xs ys p = (let both = length-append xs ys in omega (arith, p, both))

back_shorter : (n : ℕ) (xs ys : List ℕ) → n ≤ length ys → n ≤ length (xs ++ ys)
back_shorter n xs ys p = (let both = length-append xs ys in omega (arith, p, both))

input_in_lines : (n : ℕ) (beginning : Beginning) → n ≤ length beginning.input → n ≤ length (start_lines beginning)
input_in_lines n beginning p =
    let lines : List ℕ = number_line (codes "lines ") beginning.lines in
    let depth : List ℕ = depth_line beginning.depth in
    let count : List ℕ = number_line (codes "input ") (length beginning.input) in
    back_shorter n (lines ++ depth) (input_lines beginning.input)
    (front_shorter n (count ++ beginning.input) (codes "\n") (back_shorter n count beginning.input p))

input_in_head : (n : ℕ) (beginning : Beginning) → n ≤ length beginning.input → n ≤ length (head_of beginning)
unfolding head_of
input_in_head n beginning p = back_shorter n (version beginning.profile) (start_lines beginning) (input_in_lines n beginning p)

pub input_fits : (bytes items rest : List ℕ) (beginning : Beginning) (events : List Event) (most : ℕ) → bytes ≡ items
    → bytes ≡ file_of beginning events ++ rest → length items ≤ most → length beginning.input ≤ most
input_fits bytes items rest beginning events most all_of is small =
    let size : ℕ = length beginning.input in
    let least : size ≤ size = omega arith in
    let head : List ℕ = head_of beginning in
    let whole : List ℕ = whole_head beginning in
    let all : size ≤ length (file_of beginning events ++ rest) = front_shorter size (file_of beginning events) rest
    (front_shorter size whole (written (first_check beginning) events)
    (front_shorter size head (line_of head begun) (input_in_head size beginning least))) in
    let long : length bytes ≡ length (file_of beginning events ++ rest) = ap length is in
    let same : length bytes ≡ length items = ap length all_of in
    omega (arith, all, long, same, small)

-- how many bytes come behind the lines of a file
pub rest_length : (bytes : List ℕ) (beginning : Beginning) (events : List Event) (good : ℕ) → bytes ≡ file_of beginning events ++ drop good bytes
    → good ≡ length (file_of beginning events) → length bytes ≡ good + length (drop good bytes)
rest_length bytes beginning events good is size =
    let all : length bytes ≡ length (file_of beginning events ++ drop good bytes) = ap length is in
    let both : length (file_of beginning events ++ drop good bytes) ≡ length (file_of beginning events) + length (drop good bytes) =
    length-append (file_of beginning events) (drop good bytes) in
    omega (arith, all, both, size)

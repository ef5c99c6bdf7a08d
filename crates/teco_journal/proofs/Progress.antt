-- How far a reading has come, and what it has told where it ends.
use Rattle.std.proofs.Common.{◌≡◌, ℕ, ◌+◌, ◌-◌, ◌<◌, ◌≤◌, true, false, List, [], ◌∷◌, ◌++◌, length, take, drop, get_or, refl, sym, ap, ◌∙◌, subst, arith, append_assoc, length-append, length-drop, eqb}
use Rattle.std.proofs.lemmas.List.{take_more, take_all, drop_all, get_or-drop, take-append-drop, length-take-le}
use Rattle.std.proofs.lemmas.List.Prefix.{front_rest}
use Rattle.teco_journal.specs.declared.record.Record.{Record}
use Rattle.teco_journal.specs.declared.reader.Ending.{Ending}
use Rattle.teco_journal.specs.declared.reader.Ending.TheVariants.{Whole, Torn, Changed, Unknown}
use Rattle.teco_journal.specs.Events.{Event, HaveRecords, events_of}
use Rattle.teco_journal.specs.Lines.{words_of, check_of, line_of, written, check_after}
use Rattle.teco_journal.specs.Reading.{Tells, IsLine, Stops, EndsAs}
use Rattle.teco_journal.specs.Progress.{Progress, Takes}
use Rattle.teco_journal.proofs.Lacking.{lacks, both_lack, more_lacks}
use Rattle.teco_journal.proofs.Fronts.{written_one, check_one, both_have, written_is_read, changed_lines_stop, unknown_lines_stop}

-- The lines of the events stand up to the good place, and from there up to this one there is no end of a line.
pub record Come (last bytes : List ℕ) (p : Progress) (at : ℕ) : Type 0 where
  pub records : HaveRecords p.events
  pub check : p.check ≡ check_after last p.events
  pub good : p.good ≡ length (written last p.events)
  pub within : p.good ≤ at
  pub is : bytes ≡ written last p.events ++ drop p.good bytes
  pub one : lacks 10 (take (at - p.good) (drop p.good bytes)) ≡ true

begun : (last bytes : List ℕ) (ending : Ending) → Come last bytes (record { events = []; check = last; good = 0; ending = ending }) 0
unfolding written check_after
begun last bytes ending = record { records = tt; check = refl; good = refl; within = omega arith; is = refl; one = refl }

pub none_yet : (last bytes : List ℕ) (records : List Record) (ending : Ending) → records ≡ []
    → Come last bytes (record { events = events_of records; check = last; good = 0; ending = ending }) 0
none_yet last bytes records ending none =
    subst (λ (es : List Event). Come last bytes (record { events = es; check = last; good = 0; ending = ending }) 0) (sym (ap events_of none)) (begun last bytes ending)

-- what comes in a line, up to a place, and the byte there
up_to : (bytes : List ℕ) (good at : ℕ) → good ≤ at → at < length bytes
    → take (at + 1 - good) (drop good bytes) ≡ take (at - good) (drop good bytes) ++ get_or bytes at 0 ∷ []
up_to bytes good at low less =
    let left : length (drop good bytes) ≡ length bytes - good = length-drop good bytes in
    let one : at + 1 - good ≡ (at - good) + 1 = omega arith in
    let there : good + (at - good) ≡ at = omega arith in
    ap (λ (i : ℕ). take i (drop good bytes)) one
    ∙ take_more (drop good bytes) (at - good) 0 (omega arith)
    ∙ ap (λ (b : ℕ). take (at - good) (drop good bytes) ++ b ∷ []) (get_or-drop good bytes (at - good) 0 ∙ ap (λ (i : ℕ). get_or bytes i 0) there)

pub more_byte : (last bytes : List ℕ) (p : Progress) (at : ℕ) → Come last bytes p at → at < length bytes → eqb (get_or bytes at 0) 10 ≡ false → Come last bytes p (at + 1)
more_byte last bytes p at c less other = record {
  records = c.records;
  check = c.check;
  good = c.good;
  within = (let low : p.good ≤ at = c.within in omega arith);
  is = c.is;
  one = ap (lacks 10) (up_to bytes p.good at c.within less)
      ∙ both_lack 10 (take (at - p.good) (drop p.good bytes)) (get_or bytes at 0 ∷ []) c.one (more_lacks 10 (get_or bytes at 0) [] other refl);
}

-- the line that ends at this place
pub line_there : (last bytes line : List ℕ) (p : Progress) (at : ℕ) → Come last bytes p at → at < length bytes → get_or bytes at 0 ≡ 10
    → line ≡ take (at + 1 - p.good) (drop p.good bytes) → IsLine line
line_there last bytes line p at c less end is =
    (take (at - p.good) (drop p.good bytes), c.one, is ∙ up_to bytes p.good at c.within less ∙ ap (λ (b : ℕ). take (at - p.good) (drop p.good bytes) ++ b ∷ []) end)

pub more_line : (last bytes line : List ℕ) (old new : Progress) (at : ℕ) → Come last bytes old at → at < length bytes
    → line ≡ take (at + 1 - old.good) (drop old.good bytes) → Takes old line new → Come last bytes new (at + 1)
more_line last bytes line old new at c less is t =
    let e : Event = t.0 in
    let k : ℕ = at + 1 - old.good in
    let rest : List ℕ = drop k (drop old.good bytes) in
    let es : List Event = old.events ++ e ∷ [] in
    let low : old.good ≤ at = c.within in
    let left : length (drop old.good bytes) ≡ length bytes - old.good = length-drop old.good bytes in
    let long : length line ≡ at + 1 - old.good = ap length is ∙ length-take-le k (drop old.good bytes) (omega arith) in
    let line_is : line ≡ line_of (check_after last old.events) (words_of e) = t.2 ∙ ap (λ (x : List ℕ). line_of x (words_of e)) c.check in
    let all : written last es ≡ written last old.events ++ line = written_one last old.events e ∙ ap (λ (l : List ℕ). written last old.events ++ l) (sym line_is) in
    let parts : bytes ≡ written last es ++ rest =
    c.is ∙ ap (λ (l : List ℕ). written last old.events ++ l) (sym (take-append-drop k (drop old.good bytes)) ∙ ap (λ (l : List ℕ). l ++ rest) (sym is))
    ∙ sym (append_assoc (written last old.events) line rest) ∙ ap (λ (l : List ℕ). l ++ rest) (sym all) in
    let size : old.good + length line ≡ length (written last es) =
    ap (λ (i : ℕ). i + length line) c.good ∙ sym (length-append (written last old.events) line) ∙ ap length (sym all) in
    let after : drop (old.good + length line) bytes ≡ rest = ap (λ (i : ℕ). drop i bytes) size ∙ front_rest bytes (written last es) rest parts in
    let none : (at + 1) - (old.good + length line) ≡ 0 = omega arith in
    subst (λ (p : Progress). Come last bytes p (at + 1)) (sym t.3) (record {
      records = both_have old.events (e ∷ []) c.records (t.1, tt);
      check = ap (λ (x : List ℕ). check_of x (words_of e)) c.check ∙ sym (check_one last old.events e);
      good = size;
      within = omega arith;
      is = parts ∙ ap (λ (l : List ℕ). written last es ++ l) (sym after);
      one = ap (λ (i : ℕ). lacks 10 (take i (drop (old.good + length line) bytes))) none;
    })

-- Where a line stops the reading, the events before it are told, and no more.
stopped : (last line rest : List ℕ) (es : List Event) (reason : Ending) → HaveRecords es → IsLine line → Stops (check_after last es) line reason → Tells last (written last es ++ (line ++ rest)) es
stopped last line rest es Changed h is stop = changed_lines_stop last line rest es h is stop
stopped last line rest es Unknown h is stop = unknown_lines_stop last line rest es h is stop
stopped last line rest es Whole h is stop = absurd stop
stopped last line rest es Torn h is stop = absurd stop

ends_there : (last line bytes rest : List ℕ) (reason : Ending) → IsLine line → bytes ≡ line ++ rest → Stops last line reason → EndsAs last bytes reason
ends_there last line bytes rest Changed is begins stop = (line, is, (rest, begins), stop)
ends_there last line bytes rest Unknown is begins stop = (line, is, (rest, begins), stop)
ends_there last line bytes rest Whole is begins stop = absurd stop
ends_there last line bytes rest Torn is begins stop = absurd stop

cut_line : (bytes line : List ℕ) (good at : ℕ) → line ≡ take (at + 1 - good) (drop good bytes) → drop good bytes ≡ line ++ drop (at + 1 - good) (drop good bytes)
cut_line bytes line good at is =
    sym (take-append-drop (at + 1 - good) (drop good bytes)) ∙ ap (λ (l : List ℕ). l ++ drop (at + 1 - good) (drop good bytes)) (sym is)

pub stop_tells : (last bytes line : List ℕ) (p : Progress) (at : ℕ) (reason : Ending) → Come last bytes p at → at < length bytes → get_or bytes at 0 ≡ 10
    → line ≡ take (at + 1 - p.good) (drop p.good bytes) → Stops p.check line reason → Tells last bytes p.events
stop_tells last bytes line p at reason c less end is stop =
    let rest : List ℕ = drop (at + 1 - p.good) (drop p.good bytes) in
    subst (λ (bs : List ℕ). Tells last bs p.events) (sym (c.is ∙ ap (λ (l : List ℕ). written last p.events ++ l) (cut_line bytes line p.good at is)))
    (stopped last line rest p.events reason c.records (line_there last bytes line p at c less end is) (subst (λ (x : List ℕ). Stops x line reason) c.check stop))

pub stop_ends : (last bytes line : List ℕ) (p : Progress) (at : ℕ) (reason : Ending) → Come last bytes p at → at < length bytes → get_or bytes at 0 ≡ 10
    → line ≡ take (at + 1 - p.good) (drop p.good bytes) → Stops p.check line reason → EndsAs p.check (drop p.good bytes) reason
stop_ends last bytes line p at reason c less end is stop =
    ends_there p.check line (drop p.good bytes) (drop (at + 1 - p.good) (drop p.good bytes)) reason (line_there last bytes line p at c less end is) (cut_line bytes line p.good at is) stop

last_line : (last bytes : List ℕ) (p : Progress) (at : ℕ) → Come last bytes p at → length bytes ≤ at → lacks 10 (drop p.good bytes) ≡ true
last_line last bytes p at c past =
    let left : length (drop p.good bytes) ≡ length bytes - p.good = length-drop p.good bytes in
    ap (lacks 10) (sym (take_all (at - p.good) (drop p.good bytes) (omega arith))) ∙ c.one

pub all_told : (last bytes : List ℕ) (p : Progress) (at : ℕ) → Come last bytes p at → length bytes ≤ at → Tells last bytes p.events
all_told last bytes p at c past =
    subst (λ (bs : List ℕ). Tells last bs p.events) (sym c.is) (written_is_read last (drop p.good bytes) p.events c.records (last_line last bytes p at c past))

pub torn_end : (last bytes : List ℕ) (p : Progress) (at : ℕ) → Come last bytes p at → length bytes ≤ at → p.good < length bytes → EndsAs p.check (drop p.good bytes) Torn
torn_end last bytes p at c past less =
    (let left : length (drop p.good bytes) ≡ length bytes - p.good = length-drop p.good bytes in omega arith, last_line last bytes p at c past)

pub whole_end : (check bytes : List ℕ) (good : ℕ) → length bytes ≤ good → EndsAs check (drop good bytes) Whole
whole_end check bytes good past = drop_all good bytes past

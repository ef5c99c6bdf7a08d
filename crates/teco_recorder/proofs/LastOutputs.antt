-- What the output of the last exit is, as records are done again.
use Rattle.std.proofs.Common.{◌≡◌, ℕ, ◌+◌, ◌<◌, ◌≤◌, List, [], ◌∷◌, length, drop, get_or, Bool, true, false, Option, Some, not, ◌&&◌, if◌then◌else◌, sym, ap, ◌∙◌}
use Rattle.std.proofs.lemmas.List.{drop_more, drop_all}
use Rattle.teco_journal.specs.declared.record.Record.{Record}
use Rattle.teco_journal.specs.Events.{Event, event_of, events_of}
use Rattle.teco_recorder.specs.Opening.{is_exit_event, is_run_event, last_output}
use Rattle.teco_replay.specs.Told.{after_event, after_events}
use Rattle.teco_session.specs.History.{History, present}

-- What is said to be the last output so far is so, and the events that are left lead from it to the one at the end.
abbrev pub IsLastSoFar : History → List Record → Bool → List ℕ → Option (List ℕ) → Type 0
IsLastSoFar h left is_last bytes end =
    (last : Option (List ℕ)) × (is_last ≡ true → last ≡ Some bytes) × (last_output h (events_of left) last ≡ end)

after_one : (h k : History) (one : List Record) (told : Record) → one ≡ told ∷ [] → k ≡ after_events h (events_of one) → k ≡ after_event h (event_of told)
unfolding after_events
after_one h k one told alone after = after ∙ ap (λ l. after_events h (events_of l)) alone

one_less : (h k : History) (records : List Record) (at : ℕ) (told : Record) (last picked : Option (List ℕ)) → at < length records
    → told ≡ get_or records at told → k ≡ after_event h (event_of told)
    → picked ≡ (if is_exit_event h (event_of told) then Some (present (after_event h (event_of told))).output else last)
    → last_output k (events_of (drop (at + 1) records)) picked ≡ last_output h (events_of (drop at records)) last
unfolding last_output
one_less h k records at told last picked less is after picks =
    ap (λ s. last_output s (events_of (drop (at + 1) records)) picked) after
    ∙ ap (last_output (after_event h (event_of told)) (events_of (drop (at + 1) records))) picks
    ∙ sym (ap (λ l. last_output h (events_of l) last) (drop_more records at told less ∙ ap (λ r. r ∷ drop (at + 1) records) (sym is)))

exit_is : (h k : History) (event : Event) (exits was_done is_done : Bool) → exits ≡ (is_run_event event && (not was_done && is_done))
    → was_done ≡ (present h).is_done → is_done ≡ (present k).is_done → k ≡ after_event h event → is_exit_event h event ≡ exits
exit_is h k event exits was_done is_done said was is after =
    sym (said ∙ ap (λ w. is_run_event event && (not w && is_done)) was
    ∙ ap (λ d. is_run_event event && (not (present h).is_done && d)) (is ∙ ap (λ s. (present s).is_done) after))

-- one record on, after which there is another last output
pub after_exit : (h k : History) (records one : List Record) (at : ℕ) (told : Record) (exits was_done is_done was_last is_last : Bool)
    → (bytes : List ℕ) (end : Option (List ℕ)) → at < length records → told ≡ get_or records at told → one ≡ told ∷ []
    → k ≡ after_events h (events_of one) → exits ≡ (is_run_event (event_of told) && (not was_done && is_done)) → was_done ≡ (present h).is_done
    → is_done ≡ (present k).is_done → exits ≡ true → (is_last ≡ true → (present k).output ≡ bytes)
    → IsLastSoFar h (drop at records) was_last bytes end → IsLastSoFar k (drop (at + 1) records) is_last bytes end
after_exit h k records one at told exits was_done is_done was_last is_last bytes end less item alone led said was is exit so (last, known, leads) =
    let after : k ≡ after_event h (event_of told) = after_one h k one told alone led in
    let picks : is_exit_event h (event_of told) ≡ true = exit_is h k (event_of told) exits was_done is_done said was is after ∙ exit in (
      Some (present k).output,
      (λ holds. ap Some (so holds)),
      one_less h k records at told last (Some (present k).output) less item after (ap (λ s. Some (present s).output) after
          ∙ ap (λ b. if b then Some (present (after_event h (event_of told))).output else last) (sym picks)) ∙ leads,
    )

-- and one after which there is not
pub after_other : (h k : History) (records one : List Record) (at : ℕ) (told : Record) (exits was_done is_done is_last : Bool)
    → (bytes : List ℕ) (end : Option (List ℕ)) → at < length records → told ≡ get_or records at told → one ≡ told ∷ []
    → k ≡ after_events h (events_of one) → exits ≡ (is_run_event (event_of told) && (not was_done && is_done)) → was_done ≡ (present h).is_done
    → is_done ≡ (present k).is_done → exits ≡ false
    → IsLastSoFar h (drop at records) is_last bytes end → IsLastSoFar k (drop (at + 1) records) is_last bytes end
after_other h k records one at told exits was_done is_done is_last bytes end less item alone led said was is other (last, known, leads) =
    let after : k ≡ after_event h (event_of told) = after_one h k one told alone led in
    let picks : is_exit_event h (event_of told) ≡ false = exit_is h k (event_of told) exits was_done is_done said was is after ∙ other in (
      last,
      known,
      one_less h k records at told last last less item after
          (ap (λ b. if b then Some (present (after_event h (event_of told))).output else last) (sym picks)) ∙ leads,
    )

-- one record on, after which the same history is led to
pub leads_on : (h k : History) (records one : List Record) (at : ℕ) (told : Record) (end : History) → at < length records
    → told ≡ get_or records at told → one ≡ told ∷ [] → k ≡ after_events h (events_of one)
    → after_events h (events_of (drop at records)) ≡ end → after_events k (events_of (drop (at + 1) records)) ≡ end
unfolding after_events
leads_on h k records one at told end less is alone led leads =
    ap (λ s. after_events s (events_of (drop (at + 1) records))) (after_one h k one told alone led)
    ∙ sym (ap (λ l. after_events h (events_of l)) (drop_more records at told less ∙ ap (λ r. r ∷ drop (at + 1) records) (sym is)))
    ∙ leads

-- no record is left
pub is_led_to : (h : History) (records : List Record) (at : ℕ) (end : History) → length records ≤ at
    → after_events h (events_of (drop at records)) ≡ end → h ≡ end
unfolding after_events
is_led_to h records at end past leads = sym (ap (λ l. after_events h (events_of l)) (drop_all at records past)) ∙ leads

pub is_last_of_all : (h : History) (records : List Record) (at : ℕ) (is_last : Bool) (bytes : List ℕ) (end : Option (List ℕ)) → length records ≤ at
    → IsLastSoFar h (drop at records) is_last bytes end → is_last ≡ true → end ≡ Some bytes
unfolding last_output
is_last_of_all h records at is_last bytes end past (last, known, leads) so =
    sym leads ∙ ap (λ l. last_output h (events_of l) last) (drop_all at records past) ∙ known so

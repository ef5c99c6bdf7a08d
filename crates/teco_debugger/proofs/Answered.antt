-- What commands show.
use Rattle.std.proofs.Common.{◌≡◌, ◌∙◌, ◌++◌, ◌∷◌, List, [], ℕ, Result, Ok, Err, refl, ap, map, subst}
use Rattle.std.specs.Prelude.{OnOk}
use Rattle.teco_debugger.specs.Commands.{OnlyShows, ShowsHelp, verb_by, verbs}
use Rattle.teco_debugger.specs.declared.verb.VerbRow.{VerbRow}
use Rattle.teco_debugger.specs.Help.{help_shown}
use Rattle.teco_debugger.specs.Moving.{Arrives, Goes, MovesTo}
use Rattle.teco_debugger.specs.declared.debugger.Debugger.{Debugger}

-- what is shown first is all that is shown
pub only_shows : {A E : Type 0} (r : Result A E) (d : Debugger) (old new text : List ℕ) → old ≡ [] → OnOk r (new ≡ old ++ text) → OnOk r (OnlyShows text d d new)
only_shows (Ok done) d old new text none e = (refl, e ∙ ap (λ l. l ++ text) none)
only_shows (Err fault) d old new text none e = tt

pub shows_help : {A E : Type 0} (r : Result A E) (d : Debugger) (old new : List ℕ) (rows : List VerbRow) → map verb_by rows ≡ verbs → old ≡ []
    → OnOk r (new ≡ old ++ help_shown rows) → OnOk r (ShowsHelp d d new)
shows_help (Ok done) d old new rows all none e = (refl, (rows, all, e ∙ ap (λ l. l ++ help_shown rows) none))
shows_help (Err fault) d old new rows all none e = tt

-- where it arrives from a debugger with other moves
pub arrives_from : {n : ℕ} {new : Debugger} {shown : List ℕ} (old mid : Debugger) → mid.walk ≡ old.walk → mid.limit ≡ old.limit → mid.stops ≡ old.stops → mid.again ≡ old.again → mid.sources ≡ old.sources
    → Arrives n mid new shown → Arrives n old new shown
arrives_from {n} {new} {shown} old mid walk limit stops again sources a = record {
  goes = subst (λ w. Goes n w new.walk) walk a.goes;
  there = a.there;
  there_is = a.there_is;
  shown_is = a.shown_is;
  sources = a.sources ∙ sources;
  limit = a.limit ∙ limit;
  stops = a.stops ∙ stops;
  again = a.again ∙ again;
}

-- where it arrives once a move was kept
pub moves_from : {A E : Type 0} (r : Result A E) (n : ℕ) (old mid new : Debugger) (shown : List ℕ) → mid.walk ≡ old.walk → mid.limit ≡ old.limit → mid.stops ≡ old.stops → mid.again ≡ old.again → mid.sources ≡ old.sources
    → mid.moves.items ≡ old.moves.items ++ old.walk.steps ∷ [] → new.moves ≡ mid.moves → OnOk r (Arrives n mid new shown) → OnOk r (MovesTo n old new shown)
moves_from (Ok done) n old mid new shown walk limit stops again sources kept same a =
    record { arrives = arrives_from old mid walk limit stops again sources a; kept = ap (λ m. m.items) same ∙ kept }
moves_from (Err fault) n old mid new shown walk limit stops again sources kept same a = tt

-- What is said of strings for every page by themselves.
use Rattle.std.proofs.Common.{◌≡◌, ℕ, List, Bool, false, Result, Err, String, Global, refl, sym, subst}
use Rattle.std.specs.String.{string_bytes}
use Rattle.teco_cli.specs.declared.line.Commands.{Commands}
use Rattle.teco_cli.specs.declared.line.Commands.TheVariants.{StandardInput, Sources, Pages, Bytes}
use Rattle.teco_source.specs.Source.{commands_of}
use Rattle.teco_driver.specs.Checks.{SaysAlone, SaysOfSource}
use Rattle.teco_core.specs.declared.profile.Profile.{Profile}

-- other commands have none
pub none_alone : (p : Profile) (wrong : List Bool → List ℕ → Bool) (commands : Commands) (says : Bool) → ((word : String Global) → commands ≡ Pages word → ⊥)
    → says ≡ false → SaysAlone p wrong commands says
none_alone p wrong StandardInput says never is = is
none_alone p wrong (Sources names word) says never is = is
none_alone p wrong (Pages word) says never is = absurd (never word refl)
none_alone p wrong (Bytes name) says never is = is

-- and nor has a source that can't be read
pub caret_alone : (p : Profile) (wrong : List Bool → List ℕ → Bool) (commands : Commands) (word : String Global) (at : ℕ) (says : Bool) → commands ≡ Pages word
    → commands_of (string_bytes word) ≡ Err at → says ≡ false → SaysAlone p wrong commands says
caret_alone p wrong commands word at says is caret none = subst (λ (c : Commands). SaysAlone p wrong c says) (sym is)
    (subst (λ (read : Result (List ℕ) ℕ). SaysOfSource p wrong read says) (sym caret) none)

-- The check is asked with the units of the stock that a caller's number stands for: it answers as if asked with that stock's own.
-- Assumes nothing.
use mathlib.Core.Bool.{false}
use mathlib.Core.List.{List}
use mathlib.Core.Logic.{⊎_elim}
use mathlib.Core.Path.{◌≡◌, sym, ap, ◌∙◌}
use Prim.Native.Nat.{ℕ}
use Rattle.std.specs.Prelude.{Result}
use Rattle.std.proofs.lemmas.Bool.{cases_Bool}
use Rattle.quorum.specs.Answer.{said, answer_to, answer}
use Rattle.quorum.specs.Limits.{most_units, up_to}
use Rattle.quorum.specs.Refusal.{refusal}
use Rattle.quorum.specs.declared.Accepted.{Accepted}
use Rattle.quorum.specs.declared.Rejected.{Rejected}
use Rattle.units.specs.Units.{asked_with, stock_of, storable}
use Rattle.units.specs.declared.Units.{Units}
use Rattle.units.proofs.Numbers.{asked-stored, stock-stored}

-- more than any stock has is refused as none are
refused_alike : (n x y : ℕ) (table : List ℕ) (room : ℕ) → up_to most_units x ≡ false → up_to most_units y ≡ false → refusal n x table room ≡ refusal n y table room
unfolding refusal
refused_alike n x y table room f g = rw (f, g)

asked : (n k : ℕ) (table : List ℕ) (room : ℕ) → answer n (asked_with (storable stock_of k)) table room ≡ answer n (asked_with (stock_of k)) table room
unfolding answer
asked n k table room =
    ⊎_elim {C = answer n (asked_with (storable stock_of k)) table room ≡ answer n (asked_with (stock_of k)) table room} (λ t. ap (λ (u : Units). answer n (asked_with u) table room) (stock-stored k t))
    (λ f. ap (answer_to n table) (refused_alike n (asked_with (storable stock_of k)) (asked_with (stock_of k)) table room f (sym (asked-stored k) ∙ f)))
    (cases_Bool (up_to most_units (asked_with (storable stock_of k))))

pub checked : (n k : ℕ) (table : List ℕ) (room : ℕ) (stock : Units) (units : ℕ) (found : Result Accepted Rejected) → stock ≡ storable stock_of k → units ≡ asked_with stock
    → said found ≡ answer n units table room → said found ≡ answer n (asked_with (stock_of k)) table room
checked n k table room stock units found stored with_stock answered =
    answered ∙ ap (λ (x : ℕ). answer n x table room) (with_stock ∙ ap asked_with stored) ∙ asked n k table room

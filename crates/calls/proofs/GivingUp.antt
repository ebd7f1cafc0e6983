-- Withdraw on a record, from the facts that its parts give.
-- Assumes nothing.
use mathlib.Core.Bool.{Bool, true, false, not, ◌||◌}
use mathlib.Core.List.{List}
use mathlib.Core.Path.{◌≡◌, refl, sym, ap, ◌∙◌}
use Prim.Native.Nat.{ℕ, ◌<◌, ◌^◌}
use native.Mathlib.Omega.{arith}
use lib.ListN.{length}
use borrow.Author.Tests.{ltb-true}
use Rattle.lists.specs.At.{at}
use Rattle.lists.specs.Search.{some_below}
use Rattle.lists.proofs.Cuts.{length_cut}
use Rattle.quorum.specs.Family.{quorum}
use Rattle.quorum.specs.Limits.{most_quorums}
use Rattle.units.specs.declared.Units.{Units}
use Rattle.plain.specs.Answer.{nothing, refused, done}
use Rattle.plain.specs.Inner.Passed.{Withdraws}
use Rattle.plain.specs.Lanes.{up_places, no_place, passes, sent}
use Rattle.plain.specs.Release.{release_passes}
use Rattle.plain.specs.Updates.{with_phase, with_ups}
use Rattle.plain.specs.Withdraw.{is_collecting, below, withdrawing, given_up, withdraw}
use Rattle.plain.specs.declared.Message.{Message}
use Rattle.plain.specs.declared.Message.TheVariants.{Withdraw}
use Rattle.plain.specs.declared.Phase.{Phase}
use Rattle.plain.specs.declared.Phase.TheVariants.{Collecting, Withdrawing}
use Rattle.plain.proofs.Passed.{withdraw_full, withdraw-done, withdraw-refused}
use Rattle.plain.proofs.Withdrawing.{approached_below}
use Rattle.records.specs.View.{row_of, table_of, view}
use Rattle.records.specs.declared.Record.{Record}
use Rattle.records.specs.declared.Row.{Row}
use Rattle.records.proofs.Viewing.{quorum-at}
use Rattle.calls.specs.Inner.Parts.{Stands}
use Rattle.calls.proofs.GivingBack.{set_of_lem, lanes_of_lem, as-read}
use Rattle.calls.proofs.LastArms.{not-collecting}
use Rattle.calls.proofs.RecordInRange.{quorums-few, wishes}
use Rattle.calls.proofs.StationTests.{station_kept, phase_read, phase_is}

module _ (r : Record) (s : ℕ) (stands : Stands r s) where
  -- 20
  pub collects-nothing : ((q : ℕ) (h : Units) (m : ℕ) → phase_read r s stands ≡ Collecting q h m → ⊥) → withdraw (view r) s ≡ refused (view r) 20
  collects-nothing none =
      withdraw-refused (view r) s 2 (station_kept r s stands, ap (λ (p : Phase). not (is_collecting p)) (phase_is r s stands) ∙ not-collecting (phase_read r s stands) none) refl

  module _ (q : ℕ) (h : Units) (m : ℕ) (collecting : phase_read r s stands ≡ Collecting q h m) where
    abbrev withdraws : Withdraws (view r) s q h m
    unfolding view
    withdraws = record { range = stands.range; station = stands.station; collecting = phase_is r s stands ∙ collecting }

    wish : (q < length (table_of r)) × (quorum (table_of r) q < 2 ^ r.n)
    wish = wishes r stands.range s stands.station q h m collecting

    exists : q < r.quorums
    exists = omega (arith, wish.0, length_cut 0 r.quorums r.table)

    pub wished-number : q < most_quorums
    wished-number = omega (arith, exists, quorums-few r stands.range)

    -- the set names no station from n on, and the one approached is below n
    pub wished-set : set_of_lem r q < 2 ^ r.n
    wished-set = rw (quorum-at r q exists) at wish.1

    pub approached : m < r.n
    unfolding view
    approached = ltb-true m r.n (approached_below (view r) s q h m withdraws)

    abbrev passing : ℕ → (ℕ → List Message) → Bool
    passing set lanes = some_below (release_passes (below set m) lanes) r.n || passes up_places (sent (lanes m) Withdraw)

    pub full_up : passing (set_of_lem r q) (lanes_of_lem r s) ≡ true → withdraw (view r) s ≡ refused (view r) no_place
    unfolding view
    full_up f = withdraw_full (view r) s withdraws (as-read r s q stands.station exists (λ set lanes. passing set lanes ≡ true) f)

    pub goes_up : (row : Row) → passing (set_of_lem r q) (lanes_of_lem r s) ≡ false → row_of r.n row ≡ withdrawing (set_of_lem r q) m (lanes_of_lem r s)
        → withdraw (view r) s ≡ done nothing (with_phase s Withdrawing (with_ups (at (view r).up s (row_of r.n row)) (view r)))
    unfolding view given_up
    goes_up row f goes =
        withdraw-done (view r) s withdraws (as-read r s q stands.station exists (λ set lanes. passing set lanes ≡ false) f)
        ∙ ap (λ (lanes : ℕ → List Message). done nothing (with_phase s Withdrawing (with_ups (at (view r).up s lanes) (view r))))
        (as-read r s q stands.station exists (λ set lanes. withdrawing set m lanes ≡ row_of r.n row) (sym goes))

-- What Request, Release and Withdraw test first: refused by it, or passed.
-- Assumes nothing.
use mathlib.Core.List.{List, ◌++◌}
use mathlib.Core.Path.{◌≡◌, ◌∙◌}
use Prim.Native.Nat.{ℕ}
use lib.ListN.{get_or, drop}
use borrow.Author.Tests.{ne_eqb, lt-leb}
use Rattle.lists.specs.Broken.{Test, first_broken}
use Rattle.lists.proofs.Broken.{Kept, first_earlier}
use Rattle.units.specs.declared.Units.{Units}
use Rattle.plain.specs.Answer.{Returned, left_only, nothing, refused, answered}
use Rattle.plain.specs.Release.{held, release_tests, release_refusal, released, release}
use Rattle.plain.specs.Request.{request_tests, request_refusal, requested, request_returns, request}
use Rattle.plain.specs.State.{State}
use Rattle.plain.specs.Withdraw.{withdraw_tests, withdraw_refusal, withdrawn, withdraw}
use Rattle.plain.specs.declared.Phase.{Phase}
use Rattle.plain.proofs.Passed.{range_kept}
use Rattle.records.specs.View.{no_station, view}
use Rattle.records.specs.declared.Record.{Record}
use Rattle.records.proofs.Viewing.{phases_at}
use Rattle.calls.specs.Inner.Parts.{station_tests, Stands}

-- ---- refused by the first tests of a call

turned : (st : State) (x : Returned) (next : State) (a b : List Test) (r : ℕ) → r ≡ first_broken a → (r ≡ 0 → ⊥) → answered st (first_broken (a ++ b)) x next ≡ refused st r
unfolding answered
turned st x next a b r is some = rw (first_earlier a b (λ z. some (is ∙ z)), ← is, ne_eqb r 0 some)

module _ (st : State) (s : ℕ) {r : ℕ} (is : r ≡ first_broken (station_tests st s)) (some : r ≡ 0 → ⊥) where
  pub request_turned : (q : ℕ) (h : Units) → request st s q h ≡ refused st r
  unfolding request request_refusal
  request_turned q h = turned st (request_returns st q) (requested st s q h) (station_tests st s) (drop 2 (request_tests st s q h)) r is some

  pub release_turned : release st s ≡ refused st r
  unfolding release release_refusal
  release_turned = turned st (left_only (held (st.phase s))) (released st s (st.phase s)) (station_tests st s) (drop 2 (release_tests st s)) r is some

  pub withdraw_turned : withdraw st s ≡ refused st r
  unfolding withdraw withdraw_refusal
  withdraw_turned = turned st nothing (withdrawn st s (st.phase s)) (station_tests st s) (drop 2 (withdraw_tests st s)) r is some

-- ---- passed

module _ (r : Record) (s : ℕ) (stands : Stands r s) where
  pub station_kept : Kept (station_tests (view r) s)
  unfolding view
  station_kept = (range_kept stands.range, (lt-leb r.n s stands.station, tt))

  -- the phase of the station, as the code reads it
  abbrev pub phase_read : Phase
  phase_read = (get_or r.stations s no_station).phase

  pub phase_is : (view r).phase s ≡ phase_read
  unfolding view
  phase_is = phases_at r.n r.stations s stands.station

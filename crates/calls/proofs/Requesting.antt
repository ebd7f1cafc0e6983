-- Request on a record, test after test.
-- Assumes nothing.
use mathlib.Core.Bool.{true, false, not}
use mathlib.Core.Path.{◌≡◌, refl, sym, ap, ◌∙◌}
use Prim.Native.Nat.{ℕ, ◌≤◌, ◌<◌}
use native.Mathlib.Omega.{arith}
use lib.ListN.{length, take}
use borrow.Author.Tests.{le-leb, lt-leb}
use Rattle.lists.proofs.Broken.{Kept}
use Rattle.quorum.specs.Limits.{most_quorums}
use Rattle.units.specs.Units.{request_in, units_of, storable}
use Rattle.units.specs.declared.Units.{Units}
use Rattle.units.proofs.Numbers.{request-stored, requested-stored}
use Rattle.plain.specs.Answer.{refused}
use Rattle.plain.specs.Inner.Passed.{Requests}
use Rattle.plain.specs.Request.{is_idle, request_tests, request}
use Rattle.plain.specs.declared.Phase.{Phase}
use Rattle.plain.proofs.Passed.{is_idle_lem, request-refused, range_kept}
use Rattle.records.specs.View.{view}
use Rattle.records.specs.declared.Record.{Record}
use Rattle.calls.specs.Inner.Parts.{Stands}
use Rattle.calls.proofs.RecordInRange.{quorums-few, limits, table-length}
use Rattle.calls.proofs.StationTests.{station_kept, phase_read, phase_is}

module _ (r : Record) (s q h : ℕ) (stands : Stands r s) where
  -- 9
  pub no-quorum : r.quorums ≤ q → request (view r) s q (units_of h) ≡ refused (view r) 9
  no-quorum none =
      request-refused (view r) s q (units_of h) 2 (station_kept r s stands, le-leb (length (view r).table) q (omega (arith, table-length r, none))) refl

  module _ (exists : q < r.quorums) where
    kept_9 : Kept (take 3 (request_tests (view r) s q (units_of h)))
    kept_9 = let k = station_kept r s stands in (k.0, (k.1.0, (lt-leb (length (view r).table) q (omega (arith, table-length r, exists)), tt)))

    pub quorum-few : q < most_quorums
    quorum-few = omega (arith, exists, quorums-few r stands.range)

    -- the units are tested as they are stored
    module _ (u : Units) (stored : u ≡ storable units_of h) where
      tested : request_in r.stock u ≡ request_in r.stock (units_of h)
      tested = ap (request_in r.stock) stored ∙ request-stored r.stock h (limits r stands.range).stock.1

      -- 10
      pub bad-units : request_in r.stock u ≡ false → request (view r) s q (units_of h) ≡ refused (view r) 10
      unfolding view
      bad-units bad = request-refused (view r) s q (units_of h) 3 (kept_9, ap not (sym tested ∙ bad)) refl

      module _ (good : request_in r.stock u ≡ true) where
        -- 11
        pub not-idle : is_idle (phase_read r s stands) ≡ false → request (view r) s q (units_of h) ≡ refused (view r) 11
        unfolding view
        not-idle busy =
            let k = kept_9 in
            request-refused (view r) s q (units_of h) 4
            ((k.0, (k.1.0, (k.1.1.0, (range_kept (sym tested ∙ good), tt)))), ap (λ (p : Phase). not (is_idle p)) (phase_is r s stands) ∙ ap not busy) refl

        pub asked-units : u ≡ units_of h
        asked-units = stored ∙ requested-stored r.stock h (request-stored r.stock h (limits r stands.range).stock.1 ∙ sym tested ∙ good)

        -- all but the room in the lane is passed
        pub passed : is_idle (phase_read r s stands) ≡ true → Requests (view r) s q (units_of h)
        unfolding view
        passed idle =
            record {
              range = stands.range;
              station = stands.station;
              quorum = omega (arith, table-length r, exists);
              units = sym tested ∙ good;
              idle = is_idle_lem _ (ap (λ (p : Phase). not (is_idle p)) (phase_is r s stands) ∙ ap not idle);
            }
